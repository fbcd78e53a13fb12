-- Laws of part, flowing and keep.
use Prim.Native.Nat.{ℕ, zero, suc, ◌+◌, ◌-◌, ◌≤◌, ◌<◌}
use native.Mathlib.Omega.{arith}
use mathlib.Core.Path.{◌≡◌, refl, sym, ap, ap₂, ◌∙◌}
use mathlib.Core.Bool.{Bool, true, false, cond}
use mathlib.Core.List.Memᴰ.{head as here}
use mathlib.Core.List.Memᴰ.{tail as there}
use mathlib.Core.List.{List, [], ◌∷◌, ◌++◌, append-nil, Memᴰ as In}
use lib.ListN.{length, get_or, take, drop, set, length-append, length-drop, length-set, get_or-append}
use lib.Seq.{take-suc, drop-cons, take-take, get_or-drop, get_or-append_seam, get_or-set_same, take-set-le}
use lib.Dec.{ltb}
use Rattle.rules.specs.Lists.{keep, total, bit, counted, below, flowing}
use Rattle.rules.proofs.Lists.{below_last, in_below}
use Rattle.network.specs.Rows.{part}

-- ---- part
pub part_none : (xs : List ℕ) (a : ℕ) → part xs a a ≡ []
part_none xs a = let z : a - a ≡ 0 = omega arith in rw z

pub part-more : (xs : List ℕ) (a e : ℕ) → a ≤ e → e < length xs → part xs a (e + 1) ≡ part xs a e ++ (get_or xs e 0 ∷ [])
part-more xs a e h l =
    let z : e + 1 - a ≡ suc (e - a) = omega arith in
    let y : a + (e - a) ≡ e = omega arith in
    let b : e - a < length (drop a xs) = simp length-drop (omega arith) in
    rw (z, take-suc (drop a xs) (e - a) 0 b, get_or-drop a xs (e - a) 0, y)

drop-take : (a m : ℕ) (xs : List ℕ) → drop a (take m xs) ≡ take (m - a) (drop a xs)
drop-take zero m xs = let z : m - 0 ≡ m = omega arith in rw z
drop-take (suc a) zero xs = let z : 0 - suc a ≡ 0 = omega arith in rw z
drop-take (suc a) (suc m) [] = go (suc m - suc a)
  where
    go : (k : ℕ) → ◌≡◌ {A = List ℕ} [] (take k [])
    go zero = refl
    go (suc k) = refl
drop-take (suc a) (suc m) (x ∷ xs) = let z : suc m - suc a ≡ m - a = omega arith in rw z (drop-take a m xs)

-- it is the same in two lists that agree up to m
pub part-kept : (m : ℕ) (xs ys : List ℕ) → take m xs ≡ take m ys → (a e : ℕ) → e ≤ m → part xs a e ≡ part ys a e
part-kept m xs ys h a e l = front xs ∙ ap (λ (zs : List ℕ). take (e - a) (drop a zs)) h ∙ sym (front ys)
  where
    front : (zs : List ℕ) → part zs a e ≡ part (take m zs) a e
    front zs = let b : e - a ≤ m - a = omega arith in rw (drop-take a m zs, take-take (e - a) (m - a) (drop a zs) b)

-- one place more is written, and counted where the bit is 1
pub part_fill : (xs : List ℕ) (a m v : ℕ) (b : Bool) → a ≤ m → m < length xs → part (set xs m v) a (m + bit b) ≡ part xs a m ++ cond b (v ∷ []) []
part_fill xs a m v b h l = go b (part-kept m (set xs m v) xs (take-set-le m xs m v (omega arith)) a m (omega arith))
  where
    go : (b : Bool) → part (set xs m v) a m ≡ part xs a m → part (set xs m v) a (m + bit b) ≡ part xs a m ++ cond b (v ∷ []) []
    go true e =
        let k : m < length (set xs m v) = simp length-set (omega arith) in
        part-more (set xs m v) a m h k ∙ ap₂ (λ (ys : List ℕ) (y : ℕ). ys ++ (y ∷ [])) e (get_or-set_same xs m v 0 l)
    go false e = let z : m + 0 ≡ m = omega arith in rw (z, append-nil (part xs a m)) e

-- a sum over places is the sum of what stands there
pub total-part : (xs : List ℕ) (a n : ℕ) → a + n ≤ length xs → total (λ j. get_or xs j 0) (counted a n) ≡ total (λ x. x) (take n (drop a xs))
total-part xs a zero h = refl
total-part xs a (suc n) h =
    let l : a < length xs = omega arith in
    rw (drop-cons xs a 0 l) (ap (λ (s : ℕ). get_or xs a 0 + s) (total-part xs (suc a) n (omega arith)))

-- ---- keep
module _ {A : Type 0} where
  pub keep_append : (p : A → Bool) (xs ys : List A) → keep p (xs ++ ys) ≡ keep p xs ++ keep p ys
  keep_append p [] ys = refl
  keep_append p (x ∷ xs) ys = go (p x) (keep_append p xs ys)
    where
      go : (b : Bool) → keep p (xs ++ ys) ≡ keep p xs ++ keep p ys
          → cond b (x ∷ keep p (xs ++ ys)) (keep p (xs ++ ys)) ≡ cond b (x ∷ keep p xs) (keep p xs) ++ keep p ys
      go true ih = ap (λ (l : List A). x ∷ l) ih
      go false ih = ih

  pub keep_same : (p q : A → Bool) (xs : List A) → ((x : A) → In x xs → p x ≡ q x) → keep p xs ≡ keep q xs
  keep_same p q [] h = refl
  keep_same p q (x ∷ xs) h = rw (h x (here refl), keep_same p q xs (λ y m. h y (there m)))

counted_add : (k m n : ℕ) → counted k (m + n) ≡ counted k m ++ counted (k + m) n
counted_add k zero n = let z : k + 0 ≡ k = omega arith in let y : 0 + n ≡ n = omega arith in rw (z, y)
counted_add k (suc m) n =
    let z : suc m + n ≡ suc (m + n) = omega arith in
    let y : k + suc m ≡ suc k + m = omega arith in
    rw (z, y, counted_add (suc k) m n)

module _ (p : ℕ → Bool) where
  keep-none : (k n : ℕ) → ((j : ℕ) → k ≤ j → j < k + n → p j ≡ false) → keep p (counted k n) ≡ []
  keep-none k zero h = refl
  keep-none k (suc n) h =
      rw (h k (omega arith) (omega arith)) (keep-none (suc k) n (λ j a b. h j (omega arith) (omega arith)))

  keep_all : (k n : ℕ) → ((j : ℕ) → k ≤ j → j < k + n → p j ≡ true) → keep p (counted k n) ≡ counted k n
  keep_all k zero h = refl
  keep_all k (suc n) h =
      rw (h k (omega arith) (omega arith)) (ap (λ (l : List ℕ). k ∷ l) (keep_all (suc k) n (λ j a b. h j (omega arith) (omega arith))))

  -- a test that passes from a up to e alone
  pub keep_range : (n a e : ℕ) → a ≤ e → e ≤ n → ((j : ℕ) → j < a → p j ≡ false) → ((j : ℕ) → a ≤ j → j < e → p j ≡ true)
      → ((j : ℕ) → e ≤ j → j < n → p j ≡ false) → keep p (below n) ≡ counted a (e - a)
  keep_range n a e h l f g k =
      let z : n ≡ a + ((e - a) + (n - e)) = omega arith in
      let y : 0 + a ≡ a = omega arith in
      ap (λ (m : ℕ). keep p (counted 0 m)) z
      ∙ ap (keep p) (counted_add 0 a ((e - a) + (n - e)) ∙ ap (λ (m : ℕ). counted 0 a ++ counted m ((e - a) + (n - e))) y ∙ ap (λ (t : List ℕ). counted 0 a ++ t) (counted_add a (e - a) (n - e)))
      ∙ keep_append p (counted 0 a) (counted a (e - a) ++ counted (a + (e - a)) (n - e))
      ∙ ap₂ ◌++◌ (keep-none 0 a (λ j b c. f j (omega arith))) (keep_append p (counted a (e - a)) (counted (a + (e - a)) (n - e)))
      ∙ ap₂ ◌++◌ (keep_all a (e - a) (λ j b c. g j b (omega arith))) (keep-none (a + (e - a)) (n - e) (λ j b c. k j (omega arith) (omega arith)))
      ∙ append-nil (counted a (e - a))

-- ---- flowing
pub flowing-more : (ys : List ℕ) (y : ℕ) → flowing (ys ++ (y ∷ [])) ≡ flowing ys ++ cond (ltb 0 y) (length ys ∷ []) []
flowing-more ys y =
    let z : length (ys ++ (y ∷ [])) ≡ suc (length ys) = length-append ys (y ∷ []) ∙ omega arith in
    let q : ℕ → Bool = λ p. ltb 0 (get_or (ys ++ (y ∷ [])) p 0) in
    ap (λ (n : ℕ). keep q (below n)) z
    ∙ ap (keep q) (below_last (length ys))
    ∙ keep_append q (below (length ys)) (length ys ∷ [])
    ∙ ap₂ ◌++◌
    (keep_same q (λ p. ltb 0 (get_or ys p 0)) (below (length ys)) (λ p m. ap (ltb 0) (get_or-append ys (y ∷ []) 0 p (in_below (length ys) m))))
    (ap (λ (x : ℕ). cond (ltb 0 x) (length ys ∷ []) []) (get_or-append_seam ys y [] 0))

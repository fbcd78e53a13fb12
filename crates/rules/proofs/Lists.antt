-- Laws of the list functions of specs/Lists.antt.
use Prim.Native.Nat.{ℕ, zero, suc, ◌+◌, ◌*◌, ◌≤◌, ◌<◌}
use native.Mathlib.Omega.{arith}
use native.Mathlib.Decide.{dec_lt, ℕ_discrete}
use mathlib.Core.Path.{◌≡◌, refl, sym, ap, ap₂, ◌∙◌, subst}
use mathlib.Core.Logic.{◌⊎◌, inl, inr, ◌≢◌}
use mathlib.Core.Bool.{Bool, true, false, cond, ◌||◌}
use mathlib.Core.List.Memᴰ
use mathlib.Core.List.Memᴰ.{head as here}
use mathlib.Core.List.Memᴰ.{not-nil}
use mathlib.Core.List.Memᴰ.{tail as there}
use mathlib.Core.List.{List, [], ◌∷◌, ◌++◌, map, Memᴰ as In}
use lib.ListN.{length, get_or}
use Rattle.rules.specs.Lists.{every, exists, keep, total, bit, how_many, counted, below}
use Rattle.rules.proofs.Tests.{known, bit-one, clash, refuted, and_gives, and_holds, or_gives, or_left, or_right}

module _ {A : Type 0} where
  -- what holds of the head and of each of the tail holds of each
  pub each : (P : A → Type 0) {x : A} {xs : List A} → P x → ((y : A) → In y xs → P y) → (y : A) → In y (x ∷ xs) → P y
  each P h t y (here e) = subst P (sym e) h
  each P h t y (there m) = t y m

  pub get_or_in : (xs : List A) (j : ℕ) (d : A) → j < length xs → In (get_or xs j d) xs
  get_or_in [] j d h = absurd (omega arith)
  get_or_in (x ∷ xs) zero d h = here refl
  get_or_in (x ∷ xs) (suc j) d h = there (get_or_in xs j d (omega arith))

  -- ---- all, any
  pub every_gives : (p : A → Bool) (xs : List A) {x : A} → every p xs ≡ true → In x xs → p x ≡ true
  every_gives p [] e m = elim m [ ]
  every_gives p (y ∷ xs) e (here q) = ap p q ∙ (and_gives (p y) (every p xs) e).0
  every_gives p (y ∷ xs) e (there m) = every_gives p xs (and_gives (p y) (every p xs) e).1 m

  pub every_holds : (p : A → Bool) (xs : List A) → ((x : A) → In x xs → p x ≡ true) → every p xs ≡ true
  every_holds p [] f = refl
  every_holds p (y ∷ xs) f = and_holds (f y (here refl)) (every_holds p xs (λ x m. f x (there m)))

  pub exists_gives : (p : A → Bool) (xs : List A) → exists p xs ≡ true → (x : A) × In x xs × (p x ≡ true)
  exists_gives p [] e = clash e refl
  exists_gives p (y ∷ xs) e = go (exists_gives p xs) (or_gives (p y) (exists p xs) e)
    where
      go : (exists p xs ≡ true → (x : A) × In x xs × (p x ≡ true)) → (p y ≡ true) ⊎ (exists p xs ≡ true) → (x : A) × In x (y ∷ xs) × (p x ≡ true)
      go ih (inl q) = (y, here refl, q)
      go ih (inr q) = let r = ih q in (r.0, there r.1, r.2)

  pub exists_holds : (p : A → Bool) {x : A} {xs : List A} → In x xs → p x ≡ true → exists p xs ≡ true
  exists_holds p (here {xs = ys} e) h = or_left (exists p ys) (ap p (sym e) ∙ h)
  exists_holds p (there {x = y} m) h = or_right (p y) (exists_holds p m h)

  pub exists_never : (p : A → Bool) (xs : List A) → ((x : A) → In x xs → p x ≡ false) → exists p xs ≡ false
  exists_never p xs h = refuted (exists p xs) (λ e. let r = exists_gives p xs e in clash r.2 (h r.0 r.1))

  -- ---- keep
  pub in_keep : (p : A → Bool) (xs : List A) {x : A} → In x (keep p xs) → In x xs × (p x ≡ true)
  in_keep p [] m = elim m [ ]
  in_keep p (y ∷ xs) {x} m = go (p y) refl m (λ n. in_keep p xs n)
    where
      go : (b : Bool) → p y ≡ b → In x (cond b (y ∷ keep p xs) (keep p xs)) → (In x (keep p xs) → In x xs × (p x ≡ true)) → In x (y ∷ xs) × (p x ≡ true)
      go true e (here q) ih = (here q, ap p q ∙ e)
      go true e (there n) ih = let r = ih n in (there r.0, r.1)
      go false e n ih = let r = ih n in (there r.0, r.1)

  pub keep_in : (p : A → Bool) {x : A} {xs : List A} → In x xs → p x ≡ true → In x (keep p xs)
  keep_in p (here q) h = rw (sym (ap p q) ∙ h) (here q)
  keep_in p {x} (there {x = y} {xs = ys} m) h = go (p y) (keep_in p m h)
    where
      go : (b : Bool) → In x (keep p ys) → In x (cond b (y ∷ keep p ys) (keep p ys))
      go true r = there r
      go false r = r

  -- a test that passes only where p does
  pub exists-keep : (q p : A → Bool) (xs : List A) → ((x : A) → p x ≡ false → q x ≡ false) → exists q xs ≡ exists q (keep p xs)
  exists-keep q p [] h = refl
  exists-keep q p (x ∷ xs) h = go (known (p x)) (exists-keep q p xs h)
    where
      go : (p x ≡ true) ⊎ (p x ≡ false) → exists q xs ≡ exists q (keep p xs) → exists q (x ∷ xs) ≡ exists q (keep p (x ∷ xs))
      go (inl e) ih = rw (e, ih)
      go (inr e) ih = rw (e, h x e) ih

  -- ---- sums
  pub total_eq : (f g : A → ℕ) (xs : List A) → ((x : A) → In x xs → f x ≡ g x) → total f xs ≡ total g xs
  total_eq f g [] h = refl
  total_eq f g (x ∷ xs) h = omega (arith, h x (here refl), total_eq f g xs (λ y m. h y (there m)))

  pub total_le : (f g : A → ℕ) (xs : List A) → ((x : A) → In x xs → f x ≤ g x) → total f xs ≤ total g xs
  total_le f g [] h = omega arith
  total_le f g (x ∷ xs) h = omega (arith, h x (here refl), total_le f g xs (λ y m. h y (there m)))

  -- one element is at most the sum
  pub total-one : (f : A → ℕ) {x : A} {xs : List A} → In x xs → f x ≤ total f xs
  total-one f (here e) = omega (arith, ap f e)
  total-one f (there m) = omega (arith, total-one f m)

  pub total_zero : (f : A → ℕ) (xs : List A) → ((x : A) → In x xs → f x ≡ 0) → total f xs ≡ 0
  total_zero f [] h = refl
  total_zero f (x ∷ xs) h = omega (arith, h x (here refl), total_zero f xs (λ y m. h y (there m)))

  pub total_add : (f g : A → ℕ) (xs : List A) → total (λ x. f x + g x) xs ≡ total f xs + total g xs
  total_add f g [] = omega arith
  total_add f g (x ∷ xs) = omega (arith, total_add f g xs)

  pub total_mul : (f : A → ℕ) (k : ℕ) (xs : List A) → total (λ x. f x * k) xs ≡ total f xs * k
  total_mul f k [] = omega arith
  total_mul f k (x ∷ xs) = omega (arith, total_mul f k xs)

  pub total-keep : (f : A → ℕ) (p : A → Bool) (xs : List A) → ((x : A) → p x ≡ false → f x ≡ 0) → total f xs ≡ total f (keep p xs)
  total-keep f p [] h = refl
  total-keep f p (x ∷ xs) h = go (known (p x)) (total-keep f p xs h)
    where
      go : (p x ≡ true) ⊎ (p x ≡ false) → total f xs ≡ total f (keep p xs) → total f (x ∷ xs) ≡ total f (keep p (x ∷ xs))
      go (inl e) ih = rw (e, ih)
      go (inr e) ih = rw e (omega (arith, h x e))

  -- over those that pass a test
  pub total_kept : (f : A → ℕ) (p : A → Bool) (xs : List A) → total f (keep p xs) ≡ total (λ x. cond (p x) (f x) 0) xs
  total_kept f p [] = refl
  total_kept f p (x ∷ xs) = go (p x) (total_kept f p xs)
    where
      go : (b : Bool) → total f (keep p xs) ≡ total (λ y. cond (p y) (f y) 0) xs
          → total f (cond b (x ∷ keep p xs) (keep p xs)) ≡ cond b (f x) 0 + total (λ y. cond (p y) (f y) 0) xs
      go true e = ap (λ (n : ℕ). f x + n) e
      go false e = omega arith

  pub total-append : (f : A → ℕ) (xs ys : List A) → total f (xs ++ ys) ≡ total f xs + total f ys
  total-append f [] ys = omega arith
  total-append f (x ∷ xs) ys = omega (arith, total-append f xs ys)

  -- ---- counts
  pub count_le : (p : A → Bool) (xs : List A) → how_many p xs ≤ length xs
  count_le p [] = omega arith
  count_le p (x ∷ xs) = omega (arith, bit-one (p x), count_le p xs)

  -- the count is full exactly where the test passes at each
  pub count_full : (p : A → Bool) (xs : List A) → how_many p xs ≡ length xs → (x : A) → In x xs → p x ≡ true
  count_full p [] e x m = absurd (not-nil m)
  count_full p (y ∷ xs) e x m = go (p y) refl (count_full p xs) e x m
    where
      go : (b : Bool) → p y ≡ b → (how_many p xs ≡ length xs → (x : A) → In x xs → p x ≡ true)
          → bit b + how_many p xs ≡ length (y ∷ xs) → (x : A) → In x (y ∷ xs) → p x ≡ true
      go true q ih e = each (λ (x : A). p x ≡ true) q (ih (omega arith))
      go false q ih e = absurd (omega (arith, count_le p xs))

  pub full_count : (p : A → Bool) (xs : List A) → ((x : A) → In x xs → p x ≡ true) → how_many p xs ≡ length xs
  full_count p [] h = refl
  full_count p (x ∷ xs) h = rw (h x (here refl)) (omega (arith, full_count p xs (λ y m. h y (there m))))

module _ {A B : Type 0} where
  pub map_eq : (f g : A → B) (xs : List A) → ((x : A) → In x xs → f x ≡ g x) → map f xs ≡ map g xs
  map_eq f g [] h = refl
  map_eq f g (x ∷ xs) h = ap₂ ◌∷◌ (h x (here refl)) (map_eq f g xs (λ y m. h y (there m)))

  pub map_at : (f : A → B) (xs : List A) (j : ℕ) (a : A) (b : B) → j < length xs → get_or (map f xs) j b ≡ f (get_or xs j a)
  map_at f [] j a b h = absurd (omega arith)
  map_at f (x ∷ xs) zero a b h = refl
  map_at f (x ∷ xs) (suc j) a b h = map_at f xs j a b (omega arith)

  pub total-map : (f : B → ℕ) (g : A → B) (xs : List A) → total f (map g xs) ≡ total (λ x. f (g x)) xs
  total-map f g [] = refl
  total-map f g (x ∷ xs) = ap (λ (n : ℕ). f (g x) + n) (total-map f g xs)

  pub exists-map : (p : B → Bool) (g : A → B) (xs : List A) → exists p (map g xs) ≡ exists (λ x. p (g x)) xs
  exists-map p g [] = refl
  exists-map p g (x ∷ xs) = ap (λ (b : Bool). p (g x) || b) (exists-map p g xs)

  pub keep-map : (p : B → Bool) (g : A → B) (xs : List A) → keep p (map g xs) ≡ map g (keep (λ x. p (g x)) xs)
  keep-map p g [] = refl
  keep-map p g (x ∷ xs) = go (known (p (g x))) (keep-map p g xs)
    where
      go : (p (g x) ≡ true) ⊎ (p (g x) ≡ false) → keep p (map g xs) ≡ map g (keep (λ y. p (g y)) xs)
          → keep p (map g (x ∷ xs)) ≡ map g (keep (λ y. p (g y)) (x ∷ xs))
      go (inl e) ih = rw e (ap (λ (l : List B). g x ∷ l) ih)
      go (inr e) ih = rw e ih

-- ---- the numbers below n
pub counted-length : (k n : ℕ) → length (counted k n) ≡ n
counted-length k zero = refl
counted-length k (suc n) = ap suc (counted-length (suc k) n)

pub below_length : (n : ℕ) → length (below n) ≡ n
below_length n = counted-length 0 n

counted-at : (k n i d : ℕ) → i < n → get_or (counted k n) i d ≡ k + i
counted-at k zero i d h = absurd (omega arith)
counted-at k (suc n) zero d h = omega arith
counted-at k (suc n) (suc i) d h = omega (arith, counted-at (suc k) n i d (omega arith))

pub below_at : (n i d : ℕ) → i < n → get_or (below n) i d ≡ i
below_at n i d h = omega (arith, counted-at 0 n i d h)

counted_under : (k n : ℕ) {i : ℕ} → In i (counted k n) → i < k + n
counted_under k zero m = elim m [ ]
counted_under k (suc n) {i} m = elim m [ here e ↦ omega arith | there u ↦ omega (arith, counted_under (suc k) n u) ]

pub in_below : (n : ℕ) {i : ℕ} → In i (below n) → i < n
in_below n m = omega (arith, counted_under 0 n m)

pub below_in : (n i : ℕ) → i < n → In i (below n)
below_in n i h = Memᴰ.cast (sym (below_at n i 0 h)) (get_or_in (below n) i 0 (omega (arith, below_length n)))

counted_last : (n k : ℕ) → counted n (suc k) ≡ counted n k ++ ((n + k) ∷ [])
counted_last n zero = ap (λ (x : ℕ). x ∷ []) (omega arith)
counted_last n (suc k) =
    let e : suc n + k ≡ n + suc k = omega arith in
    ap (λ (xs : List ℕ). n ∷ xs) (counted_last (suc n) k ∙ ap (λ (x : ℕ). counted (suc n) k ++ (x ∷ [])) e)

pub below_last : (k : ℕ) → below (suc k) ≡ below k ++ (k ∷ [])
below_last k = let e : 0 + k ≡ k = omega arith in counted_last 0 k ∙ ap (λ (x : ℕ). below k ++ (x ∷ [])) e

pub total_last : (f : ℕ → ℕ) (k : ℕ) → total f (below (suc k)) ≡ total f (below k) + f k
total_last f k = ap (total f) (below_last k) ∙ total-append f (below k) (k ∷ []) ∙ omega arith

-- a table over 0, 1, .. n - 1, read at a place
module _ {A : Type 0} (f : ℕ → A) (d : A) where
  pub from_at : (k n i : ℕ) → i < n → get_or (map f (counted k n)) i d ≡ f (k + i)
  from_at k zero i h = absurd (omega arith)
  from_at k (suc n) zero h = ap f (omega arith)
  from_at k (suc n) (suc i) h = from_at (suc k) n i (omega arith) ∙ ap f (omega arith)

  pub table_at : (n i : ℕ) → i < n → get_or (map f (below n)) i d ≡ f i
  table_at n i h = from_at 0 n i h ∙ ap f (omega arith)

  from_out : (k n i : ℕ) → n ≤ i → get_or (map f (counted k n)) i d ≡ d
  from_out k zero i h = refl
  from_out k (suc n) zero h = absurd (omega arith)
  from_out k (suc n) (suc i) h = from_out (suc k) n i (omega arith)

  pub table_out : (n i : ℕ) → n ≤ i → get_or (map f (below n)) i d ≡ d
  table_out n i h = from_out 0 n i h

-- a table of tests
pub mark_gives : (p : ℕ → Bool) (n j : ℕ) → get_or (map p (below n)) j false ≡ true → p j ≡ true
mark_gives p n j t = go (dec_lt j n)
  where
    go : Dec (j < n) → p j ≡ true
    go (yes h) = sym (table_at p false n j h) ∙ t
    go (no h) = clash t (table_out p false n j (omega arith))

pub mark_holds : (p : ℕ → Bool) (n j : ℕ) → j < n → p j ≡ true → get_or (map p (below n)) j false ≡ true
mark_holds p n j h t = table_at p false n j h ∙ t

-- two sums over the numbers below n that differ at t alone
module _ (f g : ℕ → ℕ) (t : ℕ) (h : (i : ℕ) → i ≢ t → f i ≡ g i) where
  past : (k n : ℕ) → t < k → total f (counted k n) ≡ total g (counted k n)
  past k zero a = refl
  past k (suc n) a = ap₂ ◌+◌ (h k (omega arith)) (past (suc k) n (omega arith))

  differ : (k n : ℕ) → k ≤ t → t < k + n → total f (counted k n) + g t ≡ total g (counted k n) + f t
  differ k zero a b = absurd (omega arith)
  differ k (suc n) a b = go (ℕ_discrete k t) (differ (suc k) n)
    where
      go : Dec (k ≡ t) → (suc k ≤ t → t < suc k + n → total f (counted (suc k) n) + g t ≡ total g (counted (suc k) n) + f t)
          → total f (counted k (suc n)) + g t ≡ total g (counted k (suc n)) + f t
      go (yes e) ih = omega (arith, ap f e, ap g e, past (suc k) n (omega arith))
      go (no e) ih = omega (arith, h k e, ih (omega arith) (omega arith))

  pub total_but : (n : ℕ) → t < n → total f (below n) + g t ≡ total g (below n) + f t
  total_but n a = differ 0 n (omega arith) (omega arith)

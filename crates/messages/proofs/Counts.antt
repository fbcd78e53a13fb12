-- Counts over a row of numbers, and what one changed place makes of them.
use Prim.Native.Nat.{ℕ, zero, suc, ◌+◌, ◌*◌, ◌%◌, ◌≤◌, ◌<◌}
use native.Mathlib.Omega.{arith}
use native.Mathlib.Decide.{ℕ_discrete}
use mathlib.Core.Path.{◌≡◌, refl, sym, ap, ap₂, ◌∙◌}
use mathlib.Core.Logic.{◌≢◌}
use mathlib.Core.Bool.{Bool, true, false, cond, not, ◌&&◌}
use mathlib.Core.List.{[], ◌∷◌, map}
use lib.ListN.{length, get_or, set}
use lib.Dec.{ltb, eqb}
use borrow.Author.Tests.{ltb-true, lt-ltb, eqb-true, eq-eqb, ne_eqb}
use Rattle.rules.specs.Lists.{every, keep, total, bit, how_many, counted}
use Rattle.rules.specs.Desk.{Told, silent, heard}
use Rattle.rules.specs.Messages.{State, delivered}
use Rattle.rules.proofs.Tests.{same_test}
use Rattle.messages.specs.State.{status_by}

-- two sums over the same numbers
pub count_same : (f g : ℕ → ℕ) (a n : ℕ) → ((k : ℕ) → a ≤ k → k < a + n → f k ≡ g k) → total f (counted a n) ≡ total g (counted a n)
count_same f g a zero h = refl
count_same f g a (suc n) h =
    omega (arith, h a (omega arith) (omega arith), count_same f g (suc a) n (λ k x y. h k (omega arith) (omega arith)))

-- that differ at t alone
pub count_but : (f g : ℕ → ℕ) (t a n : ℕ) → ((k : ℕ) → k ≢ t → f k ≡ g k) → a ≤ t → t < a + n
    → total f (counted a n) + g t ≡ total g (counted a n) + f t
count_but f g t a zero h l u = absurd (omega arith)
count_but f g t a (suc n) h l u = go (ℕ_discrete a t) (count_but f g t (suc a) n h)
  where
    go : Dec (a ≡ t) → (suc a ≤ t → t < suc a + n → total f (counted (suc a) n) + g t ≡ total g (counted (suc a) n) + f t)
        → total f (counted a (suc n)) + g t ≡ total g (counted a (suc n)) + f t
    go (yes e) ih = omega (arith, ap f e, ap g e, count_same f g (suc a) n (λ k x y. h k (λ q. omega arith)))
    go (no e) ih = omega (arith, h a e, ih (omega arith) (omega arith))

-- as many as there are
pub count_all : (p : ℕ → Bool) (a n : ℕ) → ((k : ℕ) → p k ≡ true) → how_many p (counted a n) ≡ n
count_all p a zero h = refl
count_all p a (suc n) h = rw (h a) (omega (arith, count_all p (suc a) n h))

-- as many as pass the test
pub count_kept : (p q : ℕ → Bool) (a k n : ℕ) → ((i : ℕ) → i < n → p (k + i) ≡ q (a + i)) → length (keep p (counted k n)) ≡ how_many q (counted a n)
count_kept p q a k zero h = refl
count_kept p q a k (suc n) h = go (p k) (q a) first (count_kept p q (suc a) (suc k) n (λ i b. later i b))
  where
    first : p k ≡ q a
    first = let x : k ≡ k + 0 = omega arith in let y : a + 0 ≡ a = omega arith in ap p x ∙ h 0 (omega arith) ∙ ap q y

    later : (i : ℕ) → i < n → p (suc k + i) ≡ q (suc a + i)
    later i b = let x : suc k + i ≡ k + suc i = omega arith in let y : a + suc i ≡ suc a + i = omega arith in ap p x ∙ h (suc i) (omega arith) ∙ ap q y

    go : (x y : Bool) → x ≡ y → length (keep p (counted (suc k) n)) ≡ how_many q (counted (suc a) n)
        → length (cond x (k ∷ keep p (counted (suc k) n)) (keep p (counted (suc k) n))) ≡ bit y + how_many q (counted (suc a) n)
    go true y e ih = rw (← e) (omega arith)
    go false y e ih = rw (← e) (omega arith)

-- a test passes at each of a row exactly where none is counted that fails it
pub none_left : {A B : Type 0} (w : B → Bool) (g : A → B) (k : ℕ → A) (q : ℕ → Bool) (a n : ℕ) → ((j : ℕ) → a ≤ j → j < a + n → w (g (k j)) ≡ not (q j))
    → every w (map g (map k (counted a n))) ≡ eqb (how_many q (counted a n)) 0
none_left w g k q a zero h = refl
none_left w g k q a (suc n) h =
    rw (h a (omega arith) (omega arith)) (go (q a) (none_left w g k q (suc a) n (λ j x y. h j (omega arith) (omega arith))))
  where
    go : (b : Bool) → every w (map g (map k (counted (suc a) n))) ≡ eqb (how_many q (counted (suc a) n)) 0
        → (not b && every w (map g (map k (counted (suc a) n)))) ≡ eqb (bit b + how_many q (counted (suc a) n)) 0
    go true ih = sym (ne_eqb (1 + how_many q (counted (suc a) n)) 0 (λ e. omega arith))
    go false ih = let z : how_many q (counted (suc a) n) ≡ 0 + how_many q (counted (suc a) n) = omega arith in ih ∙ ap (λ (x : ℕ). eqb x 0) z

-- x silent neighbours, y of them over flowing links, as one number
pub status_two : (x y : ℕ) → y ≤ x → y < 1024 → cond (eqb x 0) 2 (cond (eqb y 0) 1 0) ≡ status_by (x * 1024 + y)
status_two x y h l = ap₂ (λ (a b : Bool). cond a 2 (cond b 1 0))
    (same_test (eqb x 0) (ltb (x * 1024 + y) 1024) (λ e. let z = eqb-true x 0 e in lt-ltb (x * 1024 + y) 1024 (omega arith)) (λ e. let z = ltb-true (x * 1024 + y) 1024 e in eq-eqb x 0 (omega arith)))
    (same_test (eqb y 0) (eqb ((x * 1024 + y) % 1024) 0) (λ e. let z = eqb-true y 0 e in eq-eqb ((x * 1024 + y) % 1024) 0 (omega arith)) (λ e. let z = eqb-true ((x * 1024 + y) % 1024) 0 e in eq-eqb y 0 (omega arith)))

-- a word stored
pub heard-set : (st : State) (j : ℕ) (m : Told) → j < length st → delivered (set st j m) + bit (heard (get_or st j silent)) ≡ delivered st + bit (heard m)
heard-set [] j m h = absurd (omega arith)
heard-set (w ∷ st) zero m h = omega arith
heard-set (w ∷ st) (suc j) m h = omega (arith, heard-set st j m (omega arith))

-- The lowest choice of a row is the best candidate.
use Prim.Native.Nat.{ℕ, zero, suc, ◌+◌, ◌-◌, ◌≤◌, ◌<◌}
use mathlib.Core.Path.{◌≡◌, refl, ap, ap₂, ◌∙◌}
use mathlib.Core.Bool.{Bool, true, false, cond, not, ◌&&◌, ◌||◌}
use mathlib.Core.List.{List, map}
use native.Mathlib.Omega.{arith}
use lib.ListN.{get_or}
use lib.Dec.{ltb, leb, eqb}
use borrow.Author.Tests.{le-leb, lt-leb, lt-ltb, ne_eqb}
use Rattle.rules.specs.Lists.{counted, below}
use Rattle.rules.specs.Sheet.{largest_delay}
use Rattle.rules.specs.Desk.{Way, mark_told, cost, candidate, Best, nothing, best, better, best_of}
use Rattle.rules.proofs.Tests.{clash}
use Rattle.desk.specs.Work.{way_at, beyond, barrier, choice, choice_at, lower, lowest}
use Rattle.desk.specs.declared.row.Choice.{Choice}
use Rattle.desk.proofs.Places.{way_to}

-- ---- the loop over the whole row, from its end: the lowest of the places from i on
module _ (ls xs ks : List ℕ) (n : ℕ) where
  pub lowest_none : choice beyond 0 ≡ lowest (choice_at ls xs ks) (counted n (n - n))
  lowest_none = let z : n - n ≡ 0 = omega arith in rw z

  pub lowest_more : (i : ℕ) {c : ℕ} {k b : Choice} {w : Way} → 0 < i → i ≤ n → k ≡ lowest (choice_at ls xs ks) (counted i (n - i)) → w ≡ way_at ls xs ks (i - 1)
      → c ≡ cost w + barrier w → b ≡ lower (choice c (i - 1)) k → b ≡ lowest (choice_at ls xs ks) (counted (i - 1) (n - (i - 1)))
  lowest_more i p t h q e z =
      let rest : n - (i - 1) ≡ suc (n - i) = omega arith in
      let next : suc (i - 1) ≡ i = omega arith in
      rw (rest, next) (z ∙ ap₂ (λ (m : ℕ) (l : Choice). lower (choice m (i - 1)) l) (e ∙ ap (λ (v : Way). cost v + barrier v) q) h)

  pub lowest_all : (i : ℕ) {k : Choice} → i ≤ 0 → k ≡ lowest (choice_at ls xs ks) (counted i (n - i)) → k ≡ lowest (choice_at ls xs ks) (below n)
  lowest_all i p h =
      let z : i ≡ 0 = omega arith in
      let m : n - 0 ≡ n = omega arith in
      rw (z, m) at h

-- ---- the barrier stands before what is no candidate, and only there
candidate_free : (w : Way) → candidate w ≡ true → barrier w ≡ 0
candidate_free w e = go w.fraction (mark_told w.word) e
  where
    go : (x : ℕ) (m : Bool) → (ltb 0 x || not m) ≡ true → ◌≡◌ {A = ℕ} (cond (eqb x 0 && m) beyond 0) 0
    go zero true e = clash e refl
    go zero false e = refl
    go (suc x) m e = rw (ne_eqb (suc x) 0 (λ z. omega arith))

other_barred : (w : Way) → candidate w ≡ false → barrier w ≡ beyond
other_barred w e = go w.fraction (mark_told w.word) e
  where
    go : (x : ℕ) (m : Bool) → (ltb 0 x || not m) ≡ false → ◌≡◌ {A = ℕ} (cond (eqb x 0 && m) beyond 0) beyond
    go zero true e = refl
    go zero false e = clash refl e
    go (suc x) m e = clash refl (rw (lt-ltb 0 (suc x) (omega arith)) at e)

-- ---- the choice is one of the row's places
lowest-inside : (ls xs ks : List ℕ) (i n : ℕ) → 0 < i + n → (lowest (choice_at ls xs ks) (counted i n)).place < i + n
lowest-inside ls xs ks i zero h = omega arith
lowest-inside ls xs ks i (suc n) h =
    let k = lowest (choice_at ls xs ks) (counted (suc i) n) in
    go k (leb (choice_at ls xs ks i).cost.0 k.cost.0) (lowest-inside ls xs ks (suc i) n (omega arith))
  where
    go : (k : Choice) (b : Bool) → k.place < suc i + n → (cond b (choice_at ls xs ks i) k).place < i + suc n
    go k true m = omega arith
    go k false m = omega arith

pub chosen-inside : (ls xs ks : List ℕ) {n : ℕ} {k : Choice} → 0 < n → k ≡ lowest (choice_at ls xs ks) (below n) → k.place < n
chosen-inside ls xs ks {n} p e = omega (arith, lowest-inside ls xs ks 0 n (omega arith), ap (λ (c : Choice). c.place) e)

-- ---- the best of the ways from place i on, n of them, and the lowest of their choices
pub record BestAt (fs : List ℕ) (i n f c : ℕ) (k : Choice) : Type 0 where
  pub inside : k.place < i + n
  pub far_is : f ≡ get_or fs k.place 0
  pub small : c ≤ largest_delay
  pub cost_is : k.cost.0 ≡ c

module _ (fs ls xs ks : List ℕ) (top : (p : ℕ) → cost (way_at ls xs ks p) ≤ largest_delay) where
  abbrev pub ChoiceIs : ℕ → ℕ → Best → Choice → Type 0
  ChoiceIs i n nothing k = beyond ≤ k.cost.0
  ChoiceIs i n (best f c) k = BestAt fs i n f c k

  pub choice-best : (i n : ℕ) → ChoiceIs i n (best_of (map (way_to fs ls xs ks) (counted i n))) (lowest (choice_at ls xs ks) (counted i n))
  choice-best i zero = omega arith
  choice-best i (suc n) =
      by_value (candidate (way_at ls xs ks i)) refl (best_of (map (way_to fs ls xs ks) (counted (suc i) n))) (lowest (choice_at ls xs ks) (counted (suc i) n)) (choice-best (suc i) n)
    where
      -- choice and cost of place i
      a : Choice
      a = choice_at ls xs ks i

      x : ℕ
      x = cost (way_at ls xs ks i)

      this : candidate (way_at ls xs ks i) ≡ true → BestAt fs i (suc n) (get_or fs i 0) x a
      this e = record { inside = omega arith; far_is = refl; small = top i; cost_is = omega (arith, candidate_free (way_at ls xs ks i) e) }

      that : {f c : ℕ} {k : Choice} → BestAt fs (suc i) n f c k → BestAt fs i (suc n) f c k
      that r = record { inside = omega (arith, r.inside); far_is = r.far_is; small = r.small; cost_is = r.cost_is }

      compared : candidate (way_at ls xs ks i) ≡ true → {f c : ℕ} {k : Choice} → BestAt fs (suc i) n f c k → (b : Bool)
          → ChoiceIs i (suc n) (cond b (best (get_or fs i 0) x) (best f c)) (cond b a k)
      compared e r true = this e
      compared e r false = that r

      barred : (b : Bool) (k : Choice) → candidate (way_at ls xs ks i) ≡ false → beyond ≤ k.cost.0 → beyond ≤ (cond b a k).cost.0
      barred true k e r = omega (arith, other_barred (way_at ls xs ks i) e)
      barred false k e r = r

      by_value : (b : Bool) → candidate (way_at ls xs ks i) ≡ b → (o : Best) (k : Choice) → ChoiceIs (suc i) n o k
          → ChoiceIs i (suc n) (cond b (better (get_or fs i 0) x o) o) (lower a k)
      by_value true e nothing k r = rw (le-leb a.cost.0 k.cost.0 (omega (arith, candidate_free (way_at ls xs ks i) e, top i))) (this e)
      by_value true e (best f c) k r =
          let same : leb a.cost.0 k.cost.0 ≡ leb x c = ap₂ leb (this e).cost_is r.cost_is in
          rw same (compared e r (leb x c))
      by_value false e nothing k r = barred (leb a.cost.0 k.cost.0) k e r
      by_value false e (best f c) k r = rw (lt-leb a.cost.0 k.cost.0 (omega (arith, other_barred (way_at ls xs ks i) e, r.small, r.cost_is))) (that r)

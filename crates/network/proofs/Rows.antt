-- What callers take from the rows and the opposites.
use Prim.Native.Nat.{ℕ, ◌+◌, ◌-◌, ◌≤◌, ◌<◌}
use native.Mathlib.Omega.{arith}
use native.Mathlib.Decide.{dec_lt}
use mathlib.Core.Path.{◌≡◌, sym, ap, ◌∙◌}
use mathlib.Core.Logic.{⊎_elim}
use mathlib.Core.Bool.{true}
use mathlib.Core.List.{List, [], map}
use lib.ListN.{length, get_or, drop, length-drop}
use lib.Seq.{length-take-le, get_or-take, get_or-drop}
use lib.Dec.{eqb}
use borrow.Author.Tests.{eq-eqb, ne_eqb}
use Rattle.rules.specs.Lists.{total, counted, below, at, first}
use Rattle.rules.specs.Sheet.{Link, opposite, row_of}
use Rattle.rules.specs.Check.{rises}
use Rattle.rules.specs.Messages.{no_link}
use Rattle.rules.proofs.Tests.{refuted, and_holds}
use Rattle.rules.proofs.Lists.{total-map, keep-map}
use Rattle.rules.proofs.First.{first_iff}
use Rattle.rules.proofs.Order.{Rising, rises_less, once}
use Rattle.rules.proofs.Local.{opposite-ends}
use Rattle.sheet.specs.Held.{held_at, held}
use Rattle.sheet.proofs.Facts.{rising_at, held-length, held-at}
use Rattle.links.specs.Opposites.{Opposites}
use Rattle.network.specs.Rows.{part, Sorted, Rows}
use Rattle.network.proofs.Parts.{keep_range, total-part}

-- ---- what stands from a up to e
pub part_length : (xs : List ℕ) (a e : ℕ) → e ≤ length xs → length (part xs a e) ≡ e - a
part_length xs a e h = length-take-le (e - a) (drop a xs) (simp length-drop (omega arith))

pub part-get_or : (xs : List ℕ) (a e p : ℕ) → p < e - a → get_or (part xs a e) p 0 ≡ get_or xs (a + p) 0
part-get_or xs a e p h = rw (get_or-take, get_or-drop)

-- ---- node i's row is the links from a up to e
pub record Range (count : ℕ) (fs : List ℕ) (i a e : ℕ) : Type 0 where
  pub rise : a ≤ e
  pub top : e ≤ count
  pub before : (j : ℕ) → j < a → get_or fs j 0 ≡ i → ⊥
  pub inside : (j : ℕ) → a ≤ j → j < e → get_or fs j 0 ≡ i
  pub behind : (j : ℕ) → e ≤ j → j < count → get_or fs j 0 ≡ i → ⊥

module _ {count i a e : ℕ} {fs : List ℕ} (r : Range count fs i a e) (ts ls xs : List ℕ) where
  range_row : row_of i (held count fs ts ls xs) ≡ map (held_at fs ts ls xs) (counted a (e - a))
  range_row =
      keep-map (λ m. eqb m.from i) (held_at fs ts ls xs) (below count)
      ∙ ap (map (held_at fs ts ls xs)) (keep_range (λ j. eqb (get_or fs j 0) i) count a e r.rise r.top
      (λ j b. ne_eqb (get_or fs j 0) i (r.before j b)) (λ j b c. eq-eqb (get_or fs j 0) i (r.inside j b c)) (λ j b c. ne_eqb (get_or fs j 0) i (r.behind j b c)))

  pub range_sum : count ≤ length xs → total (λ m. m.fraction) (row_of i (held count fs ts ls xs)) ≡ total (λ x. x) (part xs a e)
  range_sum k =
      ap (total (λ m. m.fraction)) range_row
      ∙ total-map (λ m. m.fraction) (held_at fs ts ls xs) (counted a (e - a))
      ∙ total-part xs a (e - a) (omega (arith, r.rise, r.top))

module _ {n count : ℕ} {fs ss : List ℕ} (r : Rows n count fs ss) {i : ℕ} (h : i < n) where
  row_of_lem : Range count fs i (get_or ss i 0) (get_or ss (i + 1) 0)
  row_of_lem = record {
    rise = r.rise i h;
    top = r.top (i + 1) (omega arith);
    before = λ j l e. let f = r.found j (omega (arith, r.top i (omega arith))) in omega (arith, f.0, ap (λ (k : ℕ). get_or ss k 0) e);
    inside = λ j. r.inside i j h;
    behind = λ j l b e. let f = r.found j b in omega (arith, f.1, ap (λ (k : ℕ). get_or ss (k + 1) 0) e);
  }

  pub row_range_lem : (ts ls xs : List ℕ)
      → row_of i (held count fs ts ls xs) ≡ map (held_at fs ts ls xs) (counted (get_or ss i 0) (get_or ss (i + 1) 0 - get_or ss i 0))
  row_range_lem = range_row row_of_lem

  pub row_sum_lem : (ts ls xs : List ℕ) → count ≤ length xs
      → total (λ m. m.fraction) (row_of i (held count fs ts ls xs)) ≡ total (λ x. x) (part xs (get_or ss i 0) (get_or ss (i + 1) 0))
  row_sum_lem = range_sum row_of_lem

-- ---- the order of the links
from_le : (l m : Link) → rises l m ≡ true → l.from ≤ m.from
from_le l m e = ⊎_elim (λ a. omega arith) (λ a. omega arith) (rises_less l m e)

module _ (count : ℕ) (fs ts ls xs : List ℕ) where
  -- the ends say which link it is
  ends_once : Rising (held count fs ts ls xs) → (j k : ℕ) → j < count → k < count → get_or fs j 0 ≡ get_or fs k 0 → get_or ts j 0 ≡ get_or ts k 0 → j ≡ k
  ends_once r j k a b p q =
      once (held count fs ts ls xs) r j k (omega (arith, held-length count fs ts ls xs)) (omega (arith, held-length count fs ts ls xs))
      (ap (λ (m : Link). m.from) (held-at count fs ts ls xs j a) ∙ p ∙ ap (λ (m : Link). m.from) (sym (held-at count fs ts ls xs k b)))
      (ap (λ (m : Link). m.to) (held-at count fs ts ls xs j a) ∙ q ∙ ap (λ (m : Link). m.to) (sym (held-at count fs ts ls xs k b)))

  -- links in rising order are sorted by from
  pub rising_sorted : {n : ℕ} → Rising (held count fs ts ls xs) → ((j : ℕ) → j < count → get_or fs j 0 < n) → Sorted n count fs
  rising_sorted r low = record { low = low; rises = λ j k l h. go j k l h (dec_lt j k) }
    where
      go : (j k : ℕ) → j ≤ k → k < count → Dec (j < k) → get_or fs j 0 ≤ get_or fs k 0
      go j k l h (yes b) =
          let e = rising_at (held count fs ts ls xs) r j k b (omega (arith, held-length count fs ts ls xs)) in
          from_le (held_at fs ts ls xs j) (held_at fs ts ls xs k) (rw (held-at count fs ts ls xs j (omega arith), held-at count fs ts ls xs k h) at e)
      go j k l h (no b) = let z : j ≡ k = omega arith in rw z (omega arith)

-- ---- opposites
module _ {count : ℕ} {fs ts os : List ℕ} (ls xs : List ℕ) (r : Rising (held count fs ts ls xs)) (o : Opposites count fs ts os) {j : ℕ} (h : j < count) where
  pub opposite-turns : get_or os (get_or os j 0) 0 ≡ j
  opposite-turns =
      let k = get_or os j 0 in
      let l = o.low j h in
      ends_once count fs ts ls xs r (get_or os k 0) j (o.low k l) h (o.from k l ∙ o.to j h) (o.to k l ∙ o.from j h)

  only : (k : ℕ) → k < get_or os j 0 → k < count → opposite (held_at fs ts ls xs j) (held_at fs ts ls xs k) ≡ true → ⊥
  only k l b e =
      let w = opposite-ends (held_at fs ts ls xs j) (held_at fs ts ls xs k) e in
      let z : k ≡ get_or os j 0 = ends_once count fs ts ls xs r k (get_or os j 0) b (o.low j h) (w.0 ∙ sym (o.from j h)) (w.1 ∙ sym (o.to j h)) in
      omega arith

  pub opposite-first : first (opposite (held_at fs ts ls xs j)) (held count fs ts ls xs) ≡ at (get_or os j 0)
  opposite-first = (first_iff (opposite (held_at fs ts ls xs j)) no_link (held count fs ts ls xs) (at (get_or os j 0))).1 (record {
    inside = omega (arith, held-length count fs ts ls xs, o.low j h);
    passes = rw (held-at count fs ts ls xs (get_or os j 0) (o.low j h)) (and_holds (eq-eqb (get_or fs (get_or os j 0) 0) (get_or ts j 0) (o.from j h)) (eq-eqb (get_or ts (get_or os j 0) 0) (get_or fs j 0) (o.to j h)));
    before = λ k l.
        let b : k < count = omega (arith, o.low j h) in
        refuted (opposite (held_at fs ts ls xs j) (get_or (held count fs ts ls xs) k no_link)) (λ e. only k l b (rw (held-at count fs ts ls xs k b) at e));
  })

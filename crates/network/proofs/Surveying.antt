-- The loops that survey the rows.
use Prim.Native.Nat.{ℕ, suc, ◌+◌, ◌-◌, ◌≤◌, ◌<◌}
use native.Mathlib.Omega.{arith}
use native.Mathlib.Decide.{dec_lt}
use native.Mathlib.Numerals.{add-one}
use mathlib.Core.Path.{◌≡◌, refl, sym, ap, ap₂, ◌∙◌}
use mathlib.Core.Bool.{Bool, true, false, cond, not}
use mathlib.Core.List.{List, [], ◌∷◌, ◌++◌}
use lib.ListN.{length, get_or, take, set, length-set}
use lib.Seq.{get_or-set_same, get_or-set_other, take-set-le}
use lib.Dec.{ltb, eqb}
use borrow.Author.Count.{below_more}
use Rattle.rules.specs.Lists.{total, bit, below, Place, nowhere, at, first_from, first, flowing}
use Rattle.rules.specs.Sheet.{whole, row_of}
use Rattle.rules.proofs.Tests.{bit-one}
use Rattle.rules.proofs.Lists.{total-append, below_last, below_length}
use Rattle.sheet.specs.Held.{held, found_said}
use Rattle.sheet.specs.declared.HeadHeld.{HeadHeld}
use Rattle.std.specs.Prelude.{Option, Some, None}
use Rattle.std.specs.Int.{from_bool}
use Rattle.std.specs.Option.{option_or}
use Rattle.network.specs.Rows.{part, Sorted, Rows, Flow}
use Rattle.network.specs.Answers.{RowTo, RowSurveyed, or_else, wrong_sum, Surveyed}
use Rattle.network.specs.declared.RowHeld.{RowHeld}
use Rattle.network.proofs.Parts.{part-more, part-kept, part_fill, flowing-more}
use Rattle.network.proofs.Rows.{part_length, Range, range_sum}

-- ---- one row
bit_is : (b : Bool) → from_bool b ≡ bit b
bit_is true = refl
bit_is false = refl

module _ {i start flow_start count : ℕ} {fs xs before : List ℕ} where
  pub row_more : {k m sum v w : ℕ} {ps : List ℕ} → RowTo i start flow_start count fs xs before k m sum ps → k < count → count ≤ 512 → length xs ≡ 512 → get_or fs k 0 ≡ i
      → v ≡ get_or xs k 0 → w ≡ from_bool (ltb 0 (get_or xs k 0)) → RowTo i start flow_start count fs xs before (k + 1) (m + w) (sum + v) (set ps m (k - start))
  row_more {k} {m} {sum} {v} {w} {ps} r h few long e a b' =
      let x = get_or xs k 0 in
      let b : w ≡ bit (ltb 0 x) = b' ∙ bit_is (ltb 0 x) in
      let more : part xs start (k + 1) ≡ part xs start k ++ (x ∷ []) = part-more xs start k r.rise (omega arith) in
      let room : m < length ps = omega (arith, r.flow_top, r.size) in
      let place : length (part xs start k) ≡ k - start = part_length xs start k (omega arith) in
      record {
        rise = omega (arith, r.rise);
        top = omega arith;
        inside = λ j a l. below_more (λ (j : ℕ). start ≤ j → get_or fs j 0 ≡ i) k (λ j l a. r.inside j a l) (λ a. e) j l a;
        sums = rw (a, more, total-append (λ x. x) (part xs start k) (x ∷ [])) (omega (arith, r.sums));
        flow_rise = omega (arith, r.flow_rise);
        flow_top = omega (arith, r.flow_top, bit-one (ltb 0 x));
        places = rw (b, part_fill ps flow_start m (k - start) (ltb 0 x) r.flow_rise room, r.places, more, flowing-more (part xs start k) x, place);
        kept = take-set-le flow_start ps m (k - start) r.flow_rise ∙ r.kept;
        size = length-set ps m (k - start) ∙ r.size;
      }

-- ---- all rows
-- a list of starts, in which v is written after the one at i
module _ (ss : List ℕ) (i v : ℕ) where
  old : (j : ℕ) → j ≤ i → get_or (set ss (i + 1) v) j 0 ≡ get_or ss j 0
  old j h = get_or-set_other ss (i + 1) j v 0 (λ e. omega arith)

  module _ (room : i + 1 < length ss) where
    new : get_or (set ss (i + 1) v) (i + 1) 0 ≡ v
    new = get_or-set_same ss (i + 1) v 0 room

    rise-more : get_or ss i 0 ≤ v → ((j : ℕ) → j < i → get_or ss j 0 ≤ get_or ss (j + 1) 0) → (j : ℕ) → j < i + 1 → get_or (set ss (i + 1) v) j 0 ≤ get_or (set ss (i + 1) v) (j + 1) 0
    rise-more h f = below_more (λ (j : ℕ). get_or (set ss (i + 1) v) j 0 ≤ get_or (set ss (i + 1) v) (j + 1) 0) i
        (λ j l. omega (arith, f j l, old j (omega arith), old (j + 1) (omega arith)))
        (omega (arith, h, new, old i (omega arith)))

    top-more : {top : ℕ} → v ≤ top → ((j : ℕ) → j ≤ i → get_or ss j 0 ≤ top) → (j : ℕ) → j ≤ i + 1 → get_or (set ss (i + 1) v) j 0 ≤ top
    top-more {top} h f j l = go (dec_lt i j)
      where
        go : Dec (i < j) → get_or (set ss (i + 1) v) j 0 ≤ top
        go (yes b) = let z : j ≡ i + 1 = omega arith in rw (z, new) h
        go (no b) = omega (arith, old j (omega arith), f j (omega arith))

-- the rows below node i stand up to link k, and its own up to e
module _ {i k : ℕ} {fs ss : List ℕ} (r : Rows i k fs ss) (s : get_or ss i 0 ≡ k) (e : ℕ) (room : i + 1 < length ss) (h : k ≤ e)
    (low : (j : ℕ) → j < k → get_or fs j 0 < i) (inside : (j : ℕ) → k ≤ j → j < e → get_or fs j 0 ≡ i) where
  start : get_or (set ss (i + 1) e) i 0 ≡ k
  start = old ss i e i (omega arith) ∙ s

  within : (j n : ℕ) → j < i + 1 → get_or (set ss (i + 1) e) j 0 ≤ n → n < get_or (set ss (i + 1) e) (j + 1) 0 → Dec (j < i) → get_or fs n 0 ≡ j
  within j n l a b (yes c) = r.inside j n c (omega (arith, old ss i e j (omega arith))) (omega (arith, old ss i e (j + 1) (omega arith)))
  within j n l a b (no c) =
      let z : j ≡ i = omega arith in
      inside n (omega (arith, start, rw z at a)) (omega (arith, new ss i e room, rw z at b)) ∙ sym z

  found : (n : ℕ) → n < e → Dec (n < k) → (get_or (set ss (i + 1) e) (get_or fs n 0) 0 ≤ n) × (n < get_or (set ss (i + 1) e) (get_or fs n 0 + 1) 0)
  found n l (yes b) =
      let f = r.found n b in
      let w = low n b in
      (omega (arith, f.0, old ss i e (get_or fs n 0) (omega arith)), omega (arith, f.1, old ss i e (get_or fs n 0 + 1) (omega arith)))
  found n l (no b) = let z : get_or fs n 0 ≡ i = inside n (omega arith) l in rw (z, start, new ss i e room) (omega arith, l)

  rows_more : Rows (i + 1) e fs (set ss (i + 1) e)
  rows_more = record {
    rise = rise-more ss i e room (omega arith) r.rise;
    top = top-more ss i e room (omega arith) (λ j l. omega (arith, r.top j l));
    inside = λ j n l a b. within j n l a b (dec_lt j i);
    found = λ n l. found n l (dec_lt n k);
  }

-- the flow of the rows below node i stands up to m, and that of its own up to f
module _ {i k m f : ℕ} {ss xs gs ps qs : List ℕ} (e : ℕ) where
  flow-more : Flow i ss xs gs ps → get_or ss i 0 ≡ k → get_or gs i 0 ≡ m → ((j : ℕ) → j ≤ i → get_or gs j 0 ≤ m) → i + 1 < length ss → i + 1 < length gs
      → m ≤ f → f ≤ 512 → take m qs ≡ take m ps → part qs m f ≡ flowing (part xs k e) → Flow (i + 1) (set ss (i + 1) e) xs (set gs (i + 1) f) qs
  flow-more r s g under room space h few kept places = record {
    rise = rise-more gs i f space (omega arith) r.rise;
    top = top-more gs i f space few r.top;
    places = λ j l. row j l (dec_lt j i);
  }
    where
      row : (j : ℕ) → j < i + 1 → Dec (j < i)
          → part qs (get_or (set gs (i + 1) f) j 0) (get_or (set gs (i + 1) f) (j + 1) 0) ≡ flowing (part xs (get_or (set ss (i + 1) e) j 0) (get_or (set ss (i + 1) e) (j + 1) 0))
      row j l (yes b) =
          rw (old gs i f j (omega arith), old gs i f (j + 1) (omega arith), old ss i e j (omega arith), old ss i e (j + 1) (omega arith))
          (part-kept m qs ps kept (get_or gs j 0) (get_or gs (j + 1) 0) (under (j + 1) (omega arith)) ∙ r.places j b)
      row j l (no b) =
          let z : j ≡ i = omega arith in
          rw (z, new gs i f space, old gs i f i (omega arith), g, new ss i e room, old ss i e i (omega arith), s) places

-- ---- the lowest node whose row has a wrong sum
first-append : {A : Type 0} (p : A → Bool) (j : ℕ) (xs ys : List A) → first_from j p (xs ++ ys) ≡ or_else (first_from j p xs) (first_from (j + length xs) p ys)
first-append p j [] ys = let z : j + 0 ≡ j = omega arith in rw z
first-append {A} p j (x ∷ xs) ys =
    let z : j + suc (length xs) ≡ suc j + length xs = omega arith in
    rw z (go (p x) (first_from (suc j) p xs) (first_from (suc j + length xs) p ys) (first-append p (suc j) xs ys))
  where
    go : (b : Bool) {q : Place} (r s : Place) → q ≡ or_else r s → cond b (at j) q ≡ or_else (cond b (at j) r) s
    go true r s e = refl
    go false r s e = e

first_last : (p : ℕ → Bool) (k : ℕ) → first p (below (k + 1)) ≡ or_else (first p (below k)) (cond (p k) (at k) nowhere)
first_last p k =
    let z : 0 + length (below k) ≡ k = omega (arith, below_length k) in
    ap (first p) (ap below (add-one k) ∙ below_last k)
    ∙ first-append p 0 (below k) (k ∷ [])
    ∙ ap (λ (j : ℕ). or_else (first p (below k)) (cond (p k) (at j) nowhere)) z

said_or : (w u : Option ℕ) → found_said (option_or w u) ≡ or_else (found_said w) (found_said u)
said_or None u = refl
said_or (Some k) u = refl

abbrev pub wrong_row : ℕ → ℕ → List ℕ → List ℕ → List ℕ → List ℕ → ℕ → Bool
wrong_row d count fs ts ls xs i = not (eqb (total (λ m. m.fraction) (row_of i (held count fs ts ls xs))) (cond (eqb i d) 0 whole))

module _ {count i k e : ℕ} {fs : List ℕ} (r : Range count fs i k e) (d : ℕ) (ts ls xs : List ℕ) (room : count ≤ length xs) where
  wrong_is : {sum : ℕ} → sum ≡ total (λ x. x) (part xs k e) → wrong_sum sum i d ≡ cond (wrong_row d count fs ts ls xs i) (at i) nowhere
  wrong_is s =
      ap (λ (x : ℕ). wrong_sum x i d) (s ∙ sym (range_sum r ts ls xs room))
      ∙ turn (eqb (total (λ m. m.fraction) (row_of i (held count fs ts ls xs))) (cond (eqb i d) 0 whole))
    where
      turn : (b : Bool) → cond b nowhere (at i) ≡ cond (not b) (at i) nowhere
      turn true = refl
      turn false = refl

-- ---- what the loop over the nodes keeps: all nodes below i, with links up to k and flow up to m
pub record Surveying (n d count : ℕ) (fs xs : List ℕ) (i k m : ℕ) (w : Option ℕ) (ss gs ps : List ℕ) : Type 0 where
  pub within : i ≤ n
  pub rows : Rows i k fs ss
  pub flow : Flow i ss xs gs ps
  pub start : get_or ss i 0 ≡ k
  pub flow_start : get_or gs i 0 ≡ m
  pub top : k ≤ count
  pub flow_top : m ≤ k
  pub under : (j : ℕ) → j ≤ i → get_or gs j 0 ≤ m
  pub low : (j : ℕ) → j < k → get_or fs j 0 < i
  pub high : (j : ℕ) → k ≤ j → j < count → i ≤ get_or fs j 0
  pub said : (ts ls : List ℕ) → found_said w ≡ first (wrong_row d count fs ts ls xs) (below i)
  pub sizes : (length ss ≡ 65) × (length gs ≡ 65) × (length ps ≡ 512)

module _ {n d count : ℕ} {fs xs : List ℕ} where
  module _ {i k m : ℕ} {w : Option ℕ} {ss gs ps : List ℕ} (s : Surveying n d count fs xs i k m w ss gs ps) where
    pub surveying_more : (u : Option ℕ) {r : RowHeld} {v : Option ℕ} {qs : List ℕ} → i < n → n ≤ 64 → count ≤ 512 → length xs ≡ 512 → Sorted n count fs
        → RowSurveyed r i k m count fs xs ps qs → found_said u ≡ wrong_sum r.sum.0 i d → v ≡ option_or w u
        → Surveying n d count fs xs (i + 1) r.end r.filled v (set ss (i + 1) r.end) (set gs (i + 1) r.filled) qs
    surveying_more u {r} {v} {qs} h few all long sorted row e o = record {
      within = omega arith;
      rows = rows_more s.rows s.start r.end (omega (arith, s.sizes.0)) t.rise s.low t.inside;
      flow = flow-more r.end s.flow s.start s.flow_start s.under (omega (arith, s.sizes.0)) (omega (arith, s.sizes.1)) t.flow_rise (omega (arith, t.flow_top, t.top)) t.kept t.places;
      start = new ss i r.end (omega (arith, s.sizes.0));
      flow_start = new gs i r.filled (omega (arith, s.sizes.1));
      top = t.top;
      flow_top = t.flow_top;
      under = top-more gs i r.filled (omega (arith, s.sizes.1)) (omega arith) (λ j l. omega (arith, s.under j l, t.flow_rise));
      low = λ j l. low j l (dec_lt j k);
      high = high;
      said = λ ts ls. ap found_said o ∙ said_or w u ∙ ap₂ or_else (s.said ts ls) (e ∙ wrong_is range d ts ls xs (omega arith) t.sums) ∙ sym (first_last (wrong_row d count fs ts ls xs) i);
      sizes = (length-set ss (i + 1) r.end ∙ s.sizes.0, length-set gs (i + 1) r.filled ∙ s.sizes.1, t.size);
    }
      where
        t : RowTo i k m count fs xs ps r.end r.filled r.sum.0 qs
        t = row.row

        low : (j : ℕ) → j < r.end → Dec (j < k) → get_or fs j 0 < i + 1
        low j l (yes b) = omega (arith, s.low j b)
        low j l (no b) = omega (arith, t.inside j (omega arith) l)

        high : (j : ℕ) → r.end ≤ j → j < count → i + 1 ≤ get_or fs j 0
        high j l b =
            let c : r.end < count = omega arith in
            omega (arith, row.stops c, s.high r.end t.rise c, sorted.rises r.end j l b)

        range : Range count fs i k r.end
        range = record {
          rise = t.rise;
          top = t.top;
          before = λ j l z. omega (arith, s.low j l);
          inside = t.inside;
          behind = λ j l b z. omega (arith, high j l b);
        }

module _ {count : ℕ} {fs xs : List ℕ} (h : HeadHeld) {i k m : ℕ} {w : Option ℕ} {ss gs ps : List ℕ}
    (s : Surveying h.nodes h.destination count fs xs i k m w ss gs ps) where
  pub surveying_all : h.nodes ≤ i → Sorted h.nodes count fs → Surveyed w h count fs xs ss gs ps
  surveying_all l sorted =
      let z : i ≡ h.nodes = omega (arith, s.within) in
      let y : k ≡ count = none_left (dec_lt k count) in
      record {
        rows = rw (z, y) at s.rows;
        flow = rw z at s.flow;
        said = λ traffic ts ls. s.said ts ls ∙ ap (λ (j : ℕ). first (wrong_row h.destination count fs ts ls xs) (below j)) z;
        sizes = s.sizes;
      }
    where
      none_left : Dec (k < count) → k ≡ count
      none_left (yes b) = absurd (omega (arith, s.high k (omega arith) b, sorted.low k b))
      none_left (no b) = omega (arith, s.top)

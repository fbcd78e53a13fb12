-- Rows by their flowing places: that they can be lent, and that what is tested of them holds of every link.
use Prim.Native.Nat.{ℕ, zero, suc, ◌+◌, ◌-◌, ◌≤◌, ◌<◌}
use native.Mathlib.Omega.{arith}
use native.Mathlib.Decide.{dec_lt}
use mathlib.Core.Path.{◌≡◌, sym, ap, ◌∙◌, subst}
use mathlib.Core.List.Memᴰ.{head as here}
use mathlib.Core.List.Memᴰ.{tail as there}
use mathlib.Core.List.{List, Memᴰ as In}
use lib.ListN.{length, get_or, get_or-eq_default}
use Rattle.std.proofs.lemmas.List.{length-take}
use lib.Dec.{ltb}
use borrow.Author.Tests.{lt-ltb}
use Rattle.rules.specs.Lists.{below, flowing}
use Rattle.rules.proofs.Lists.{get_or_in, in_keep, keep_in, in_below, below_in}
use Rattle.sheet.specs.declared.Columns.{Columns}
use Rattle.sheet.specs.declared.SheetHeld.{SheetHeld}
use Rattle.network.specs.declared.RowsHeld.{RowsHeld}
use Rattle.network.specs.Rows.{part}
use Rattle.network.proofs.Rows.{part-get_or}
use Rattle.order.specs.declared.OrderHeld.{OrderHeld}
use Rattle.order.specs.Order.{Graph, Falling, Order}
use Rattle.order.specs.Inside.{flow_row, to_row, RowAt, Rowed, RowFalls, RowsFall, Tested}

-- what is in a list stands at a place of it
in_at : {x : ℕ} {xs : List ℕ} → In x xs → (k : ℕ) × (k < length xs) × (get_or xs k 0 ≡ x)
in_at (here e) = (zero, omega arith, sym e)
in_at (there m) = let r = in_at m in (suc r.0, omega (arith, r.1), r.2)

-- a place with a number above 0 is a place of the list
within : (xs : List ℕ) (k : ℕ) → 0 < get_or xs k 0 → k < length xs
within xs k h = go (dec_lt k (length xs))
  where
    go : Dec (k < length xs) → k < length xs
    go (yes l) = l
    go (no l) = absurd (omega (arith, get_or-eq_default {A = ℕ} xs 0 {n = k} (omega arith)))

-- ---- what the caller lends
module _ {h : SheetHeld} {c : Columns} {r : RowsHeld} (g : Graph h c r) where
  -- node i's row
  module _ (i : ℕ) (l : i < h.head.nodes) where
    abbrev a : ℕ
    a = get_or r.starts i 0

    abbrev e : ℕ
    e = get_or r.starts (i + 1) 0

    abbrev places : List ℕ
    places = part r.flow (get_or r.flow_starts i 0) (get_or r.flow_starts (i + 1) 0)

    top : e ≤ h.links
    top = g.rows.top (i + 1) (omega arith)

    wide : length (part c.fraction a e) ≤ e - a
    wide = omega (arith, length-take {A = ℕ})

    row_at : RowAt c r i
    row_at = record {
      rise = g.rows.rise i l;
      top = omega (arith, top, g.links.few);
      flow-rise = g.flow.rise i l;
      flow-top = g.flow.top (i + 1) (omega arith);
      inside = λ m q.
          let found : In (get_or places m 0) (flowing (part c.fraction a e)) = subst (λ (k : List ℕ). In (get_or places m 0) k) (g.flow.places i l) (get_or_in places m 0 q) in
          let low = in_below (length (part c.fraction a e)) (in_keep (λ p. ltb 0 (get_or (part c.fraction a e) p 0)) (below (length (part c.fraction a e))) found).0 in
          omega (arith, low, wide);
      far = λ p q. omega (arith, part-get_or c.to a e p q, (g.links.ends (a + p) (omega (arith, top))).1, g.links.nodes);
    }

    -- a flowing link stands among the places
    place_of_lem : (j : ℕ) → a ≤ j → j < e → 0 < get_or c.fraction j 0 → In (j - a) places
    place_of_lem j p q x =
        let back : a + (j - a) ≡ j = omega arith in
        let here : get_or (part c.fraction a e) (j - a) 0 ≡ get_or c.fraction j 0 = part-get_or c.fraction a e (j - a) (omega arith) ∙ ap (λ (k : ℕ). get_or c.fraction k 0) back in
        let flows : 0 < get_or (part c.fraction a e) (j - a) 0 = omega arith in
        subst (λ (k : List ℕ). In (j - a) k) (sym (g.flow.places i l))
        (keep_in (λ p. ltb 0 (get_or (part c.fraction a e) p 0)) (below_in (length (part c.fraction a e)) (j - a) (within (part c.fraction a e) (j - a) flows))
        (lt-ltb 0 (get_or (part c.fraction a e) (j - a) 0) flows))

    falls_at : (turn : List ℕ) → RowFalls (get_or turn i 0) (length (flow_row r i)) (flow_row r i) (to_row c r i) turn → (j : ℕ) → a ≤ j → j < e → 0 < get_or c.fraction j 0 → get_or turn (get_or c.to j 0) 0 < get_or turn i 0
    falls_at turn f j p q x =
        let at = in_at (place_of_lem j p q x) in
        let back : a + (j - a) ≡ j = omega arith in
        let here : get_or (part c.to a e) (get_or places at.0 0) 0 ≡ get_or c.to j 0 =
        ap (λ (p : ℕ). get_or (part c.to a e) p 0) at.2 ∙ part-get_or c.to a e (j - a) (omega arith) ∙ ap (λ (k : ℕ). get_or c.to k 0) back in
        omega (arith, f at.0 at.1, ap (λ (k : ℕ). get_or turn k 0) here)

  pub rowed : Rowed h.head.nodes c r
  rowed = record { nodes = g.links.nodes; each = row_at }

  rows_fall : (turn : List ℕ) → RowsFall h.head.nodes c r turn → Falling h.links c.from c.to c.fraction turn
  rows_fall turn f j q x =
      let low = (g.links.ends j q).0 in
      let found = g.rows.found j q in
      falls_at (get_or c.from j 0) low turn (f (get_or c.from j 0) low) j found.0 found.1 x

  pub tested_order : {o : OrderHeld} → Tested h.head.nodes c r o → Order h.head.nodes h.links c.from c.to c.fraction o.order o.turn
  tested_order {o} t = record { node = λ k q. (t.node k q).0; turn_of = t.turn_of; of_turn = λ k q. (t.node k q).1; falls = rows_fall o.turn t.falls }

-- The search: along a row, and along the rows.
use Prim.Native.Nat.{ℕ, ◌+◌, ◌≤◌, ◌<◌, max}
use native.Mathlib.Omega.{arith}
use native.Mathlib.Decide.{ℕ_discrete, dec_lt}
use mathlib.Core.Path.{◌≡◌, sym, ap, ◌∙◌}
use mathlib.Core.Bool.{true, false}
use lib.ListN.{length, get_or, set}
use lib.Seq.{get_or-set_same, get_or-set_other}
use Rattle.std.specs.Prelude.{Option, None, Some, MatchOption}
use Rattle.std.specs.Option.{unwrap_or}
use Rattle.rules.proofs.Tests.{clash}
use Rattle.sheet.specs.declared.SheetHeld.{SheetHeld}
use Rattle.node.specs.declared.NetHeld.{NetHeld}
use Rattle.messages.specs.declared.StateHeld.{StateHeld}
use Rattle.std.specs.Int.{bit_at}
use Rattle.house.specs.Nodes.{Without, FirstIn}
use Rattle.house.specs.declared.Search.{Search}
use Rattle.messages.specs.State.{waiting_in}
use Rattle.house.specs.House.{LinksIn, near, NextFrom, Behind, Passed, Searchable, Found}

-- ---- along a row
pub next_from : {start end : ℕ} {net : NetHeld} {st : StateHeld} (found : Option ℕ)
    → MatchOption found ((p : ℕ) → start ≤ p → p < end → waiting_in p net st ≡ false)
    (λ j. (start ≤ j) × (j < end) × (waiting_in j net st ≡ true) × ((p : ℕ) → start ≤ p → p < j → waiting_in p net st ≡ false))
    → NextFrom start end (unwrap_or found end) net st
next_from None none = record { low = λ b. absurd (omega arith); top = omega arith; before = none; here = λ b. absurd (omega arith) }
next_from (Some j) here = record { low = λ b. here.0; top = omega (arith, here.1); before = here.3; here = λ b. here.2 }

-- ---- along the rows: i is the lowest node that is live
pub record Walking (count i : ℕ) (net : NetHeld) (st : StateHeld) (search : Search) : Type 0 where
  pub passed : Passed count net st search
  pub lowest : FirstIn search.live i

module _ {h : SheetHeld} {net : NetHeld} {st : StateHeld} {search₀ : Search} (pre : Searchable h net st search₀) where
  -- the row of node i can be searched
  pub row-links : {i : ℕ} → i < h.head.nodes → LinksIn (get_or net.rows.starts (i + 1) 0) net
  row-links {i} a j b = pre.links j (omega (arith, pre.rows.top (i + 1) (omega arith)))

  module _ {i : ℕ} {search : Search} (inv : Walking h.links i net st search) where
    -- node i's row was searched from a start that its cursor may have passed, as far as j
    module _ {start j : ℕ} (inside : i < h.head.nodes) (from : start ≡ max (get_or net.rows.starts i 0) (get_or search.cursor i 0)) (next : NextFrom start (get_or net.rows.starts (i + 1) 0) j net st)
        (size : length search.cursor ≡ 64) where
      -- no link of the row waits before j
      row_before : (p : ℕ) → p < h.links → near net p ≡ i → p < j → waiting_in p net st ≡ false
      row_before p a e b = go (dec_lt p start)
        where
          go : Dec (p < start) → waiting_in p net st ≡ false
          go (yes l) =
              let r = pre.rows.found p a in
              inv.passed.behind p a (omega (arith, r.0, ap (λ (m : ℕ). get_or net.rows.starts m 0) e, ap (λ (m : ℕ). get_or search.cursor m 0) e))
          go (no l) = next.before p (omega arith) b

      behind_now : Behind h.links net st (set search.cursor i j)
      behind_now p a b = go (ℕ_discrete (near net p) i)
        where
          go : Dec (near net p ≡ i) → waiting_in p net st ≡ false
          go (yes e) = row_before p a e (omega (arith, ap (λ (m : ℕ). get_or (set search.cursor i j) m 0) e, get_or-set_same search.cursor i j 0 (omega (arith, pre.few))))
          go (no ne) = inv.passed.behind p a (omega (arith, get_or-set_other search.cursor i (near net p) j 0 ne))

      pub rows_more : {search' : Search} {i' : ℕ} → get_or net.rows.starts (i + 1) 0 ≤ j → search'.cursor ≡ set search.cursor i j → Without search.live i search'.live → FirstIn search'.live i' → Walking h.links i' net st search'
      rows_more {search'} end same less lowest = record {
        passed = record { behind = rw same behind_now; shut = λ p a b. go p a b (ℕ_discrete (near net p) i) };
        lowest = lowest;
      }
        where
          go : (p : ℕ) → p < h.links → bit_at search'.live (near net p) ≡ 0 → Dec (near net p ≡ i) → waiting_in p net st ≡ false
          go p a b (yes e) = row_before p a e (omega (arith, (pre.rows.found p a).1, ap (λ (m : ℕ). get_or net.rows.starts (m + 1) 0) e))
          go p a b (no ne) = inv.passed.shut p a (sym (less.elsewhere (near net p) ne) ∙ b)

      pub rows-here : j < get_or net.rows.starts (i + 1) 0 → Found h j net st (record search { cursor = set search.cursor i j })
      rows-here b = record {
        lowest = record { inside = here; passes = next.here b; before = λ p l. go p l (ℕ_discrete (near net p) i) };
        passed = record { behind = behind_now; shut = inv.passed.shut };
      }
        where
          here : j < h.links
          here = omega (arith, pre.rows.top (i + 1) (omega arith))

          own : near net j ≡ i
          own = pre.rows.inside i j inside (omega (arith, next.low b)) b

          go : (p : ℕ) → p < j → Dec (near net p ≡ i) → waiting_in p net st ≡ false
          go p l (yes e) = row_before p (omega (arith, here)) e l
          go p l (no ne) = inv.passed.shut p (omega (arith, here)) (inv.lowest.before (near net p) (omega (arith, pre.sorted.rises p j (omega arith) here, own)))

    -- past the last node nothing waits, and something does
    pub rows_all : {r : ℕ} → h.head.nodes ≤ i → Found h r net st search
    rows_all end = clash pre.some-waits (inv.passed.shut pre.some pre.some_in (inv.lowest.before (near net pre.some) (omega (arith, pre.sorted.low pre.some pre.some_in))))

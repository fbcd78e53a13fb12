-- An accepted sheet with its lines' delays: what the desks need.
use Rattle.std.specs.Prelude.{ℕ, ◌≤◌, ◌<◌, List, length, get_or, take}
use native.Mathlib.Omega.{arith}
use native.Mathlib.Decide.{dec_lt}
use mathlib.Core.Path.{◌≡◌, sym, ap, subst, ◌∙◌}
use lib.Seq.{length-take-le, get_or-take}
use Rattle.rules.specs.Sheet.{line_delay}
use Rattle.rules.proofs.Desk.{line-top}
use Rattle.numbers.specs.Lines.{LinesOf}
use Rattle.sheet.specs.declared.SheetHeld.{SheetHeld}
use Rattle.node.specs.declared.NetHeld.{NetHeld}
use Rattle.node.specs.Net.{NetIn}
use Rattle.node.proofs.Held.{links-few}
use Rattle.admit.specs.Opened.{Admitted}

module _ {h : SheetHeld} {net : NetHeld} (accepted : Admitted h net) where
  -- the load steps of the links in use
  pub loads_in : length (take h.links net.columns.load) ≡ h.links
  loads_in = length-take-le h.links net.columns.load (omega (arith, links-few accepted.graph, accepted.sizes.loads))

  -- lines are written over zeros
  pub net-ready : {zeros line : List ℕ} → LinesOf (take h.links net.columns.load) zeros line → length zeros ≡ 512 → ((k : ℕ) → get_or zeros k 0 ≡ 0) → NetIn h net line
  net-ready {zeros} {line} lines z none = record {
    graph = accepted.graph;
    flow = accepted.flow;
    line-right = right;
    line_small = λ j. small j (dec_lt j h.links);
    flow-start_size = accepted.sizes.flow-starts;
    flow-size = accepted.sizes.flow;
    line-size = lines.long ∙ z;
  }
    where
      right : (j : ℕ) → j < h.links → get_or line j 0 ≡ line_delay (get_or net.columns.load j 0)
      right j a = lines.right j (omega (arith, loads_in)) ∙ ap line_delay (get_or-take h.links net.columns.load j 0 a)

      small : (j : ℕ) → Dec (j < h.links) → get_or line j 0 ≤ 1048576
      small j (yes a) = subst (λ (x : ℕ). x ≤ 1048576) (sym (right j a)) (line-top (get_or net.columns.load j 0))
      small j (no a) = omega (arith, lines.others j (omega (arith, loads_in)), none j)

-- What Next needs at each step, once its sheet is accepted.
use Rattle.std.specs.Prelude.{ℕ, List, ◌++◌, length, drop, take, replicate}
use mathlib.Core.Path.{ap, ◌∙◌}
use Rattle.rules.specs.Sheet.{Sheet}
use Rattle.rules.specs.Bytes.{bytes}
use Rattle.numbers.specs.Lines.{LinesOf}
use Rattle.sheet.specs.declared.SheetHeld.{SheetHeld}
use Rattle.sheet.specs.Held.{FractionsWritten}
use Rattle.node.specs.declared.NetHeld.{NetHeld}
use Rattle.messages.proofs.Zeros.{empty_zeros}
use Rattle.house.specs.House.{GraphIn}
use Rattle.round.specs.Calculated.{Ordered, Given, CalculatedFor}
use Rattle.admit.specs.Opened.{Admitted, Ready}
use Rattle.admit.proofs.Lines.{net-ready}
use Rattle.calls.specs.Written.{NextWritten}

module _ {h : SheetHeld} {net : NetHeld} (accepted : Admitted h net) where
  pub ordered : {line : List ℕ} → LinesOf (take h.links net.columns.load) (replicate 512 0) line → Ordered h net line
  ordered lines = record { held = net-ready accepted lines empty_zeros.size empty_zeros.silence; order = accepted.sorted }

  -- its own ends, load steps and turns are such
  pub given : {line : List ℕ} → LinesOf (take h.links net.columns.load) (replicate 512 0) line → Given h net line
  given lines = record { from = net.columns.from; to = net.columns.to; load = net.columns.load; turn = net.order.turn; ordered = ordered lines }

  -- for House order; it stands in false_states too, since no crate below both knows house and admit
  pub graph-held : GraphIn h net
  graph-held = record {
    tr = net.columns.traffic;
    ts = net.columns.to;
    ls = net.columns.load;
    ps = net.rows.flow;
    graph = accepted.graph;
    flow = accepted.flow;
    flow-start_size = accepted.sizes.flow-starts;
    flow-size = accepted.sizes.flow;
  }

pub next-written : {h : SheetHeld} {b old new line ys : List ℕ} {net : NetHeld} → Ready h b net → LinesOf (take h.links net.columns.load) (replicate 512 0) line
    → CalculatedFor h net line ys → FractionsWritten h b ys old new → NextWritten h b net old new
next-written {h} {b} {old} {net = net} ready lines done w =
    w.said net.columns.traffic net.columns.from net.columns.to net.columns.load net.columns.fraction ready.stand
    ∙ ap (λ (s : Sheet). bytes s ++ drop (length b) old) (done net.columns.from net.columns.to net.columns.load net.order.turn (ordered ready.held lines))

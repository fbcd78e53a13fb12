-- An accepted sheet's own far nodes and order serve Play and Frame.
use Rattle.std.specs.Prelude.{List, ℕ}
use Rattle.sheet.specs.declared.SheetHeld.{SheetHeld}
use Rattle.node.specs.declared.NetHeld.{NetHeld}
use Rattle.admit.specs.Opened.{Ready}
use Rattle.play.specs.Played.{Accepted}

pub own : {h : SheetHeld} {b : List ℕ} {net : NetHeld} → Ready h b net → Accepted h b net
own {net = net} ready = record { ts = net.columns.to; ord = net.order.order; turn = net.order.turn; ready = ready }

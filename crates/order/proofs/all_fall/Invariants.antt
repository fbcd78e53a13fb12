use Rattle.std.proofs.Common.{◌≡◌, true}
use Rattle.order.specs.Inside.{RowsFall}
use Rattle.order.proofs.all_fall.Given as goal

abbrev pub invariant-loop-i : goal.invariant-loop-i
invariant-loop-i l = l.good ≡ true → RowsFall l.i l.columns l.rows l.turn

use Rattle.std.proofs.Common.{◌≡◌, true}
use Rattle.order.specs.Inside.{RowFalls}
use Rattle.order.proofs.row_falls.Given as goal

abbrev pub invariant-loop-p : goal.invariant-loop-p
invariant-loop-p l = l.good ≡ true → RowFalls l.near l.p-index l.flow l.to l.turn

use Rattle.order.specs.Inside.{Spread}
use Rattle.order.proofs.spread.Given as goal

abbrev pub invariant-loop-j : goal.invariant-loop-j
invariant-loop-j l = Spread l.grew l.count l.j l.columns l.i l.initial.marks l.marks

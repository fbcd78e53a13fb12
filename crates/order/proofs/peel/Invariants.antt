use Rattle.order.specs.Inside.{Peeled}
use Rattle.order.proofs.peel.Given as goal

abbrev pub invariant-loop-tail : goal.invariant-loop-tail
invariant-loop-tail l = Peeled l.h.head.nodes l.h.links l.columns l.order l.tail

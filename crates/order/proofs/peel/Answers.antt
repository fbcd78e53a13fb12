use Rattle.order.proofs.Taking.{peeled-more}
use Rattle.order.proofs.peel.Goals as goal

pub loop-tail-preserved : goal.loop-tail-preserved
loop-tail-preserved c = peeled-more c.requires c.loop-tail.invariant c.in-Some.ensures (rw c.from-n.ensures at c.loop-tail-test.true) c.swap.ensures

use Rattle.order.proofs.Loops.{rest-on_loop}
use Rattle.order.proofs.Spreading.{resting_none, resting_less}
use Rattle.order.proofs.is_on_loop.Goals as goal

pub loop-grew-init : goal.loop-grew-init
loop-grew-init c = resting_none

pub loop-grew-smaller : goal.loop-grew-smaller
loop-grew-smaller c = rw c.loop-grew-test.true (resting_less c.spread-grew.ensures c.loop-grew.invariant.size)

pub returns : goal.returns
returns c = λ traffic ls.
    rw c.from.ensures (rest-on_loop c.args.h c.requires.links traffic ls c.args.i c.loop-grew.marks c.loop-grew.invariant.led (c.loop-grew.invariant.closed c.loop-grew-test.false))

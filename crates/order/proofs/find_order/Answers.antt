use Rattle.order.proofs.Flowing.{rowed, tested_order}
use Rattle.order.proofs.Loops.{order_given, peeled_given, loop_given}
use Rattle.order.proofs.find_order.Goals as goal

pub guess-requires : goal.guess-requires
guess-requires c = rw c.from-n.ensures (rowed c.requires)

pub is_order-requires : goal.is_order-requires
is_order-requires c = rw c.from-n.ensures (rowed c.requires)

pub returns-then-is_order : goal.returns-then-is_order
returns-then-is_order c = order_given c.args.h c.requires.links c.size_up.ensures.order c.size_up.ensures.turn (tested_order c.requires (rw c.from-n.ensures at (c.is_order.ensures c.if-is_order.true)))

pub returns-then-taken-n : goal.returns-then-taken-n
returns-then-taken-n c = peeled_given c.args.h c.requires.links c.size_up-2.ensures.order c.size_up-2.ensures.turn c.peel-taken.ensures (rw c.from-n.ensures at c.if-taken-n.true)

pub returns : goal.returns
returns c = loop_given c.args.h c.requires.links c.size_up-2.ensures.order c.size_up-2.ensures.turn c.peel-taken.ensures (rw c.from-n.ensures at c.if-taken-n.false) c.find_loop.ensures

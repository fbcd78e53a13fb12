use Rattle.std.proofs.Common.{arith, ◌-◌}
use Rattle.std.proofs.lemmas.Grind.{common_steps}
use Rattle.order.proofs.descend.Goals as goal
use Rattle.order.proofs.descend.Goals.{then-ahead-eq0+else-n-b+else-deep-eq0, else-ahead-eq0}

pub loop-preserved : goal.loop-preserved
loop-preserved c =
    elim c.if-ahead-eq0.branch [
      | then-ahead-eq0+else-n-b+else-deep-eq0 w ↦ record {
        steps = omega arith;
        node = omega (arith, c.loop.invariant.low (c.loop.deep - 1));
        low = λ k q. rw w.path-is (c.loop.invariant.low k (omega arith));
      }
      | else-ahead-eq0 w ↦ record {
        steps = omega arith;
        node = omega arith;
        low = λ k q. rw w.path-is (grind (arith, common_steps, c.loop.invariant.low k));
      }
    ]

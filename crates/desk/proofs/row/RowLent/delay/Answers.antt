use Rattle.std.proofs.Common.{arith, ◌+◌, ◌∙◌}
use Rattle.desk.proofs.Places.{flows-at, sum_more, weighed-fits}
use Rattle.desk.proofs.row.RowLent.delay.Goals as goal

pub way_at-requires : goal.way_at-requires
way_at-requires c = (flows-at c.args.self.now.row c.loop-p.p-index c.loop-p-test.true).0

pub add_assign-requires : goal.add_assign-requires
add_assign-requires c =
    let r = c.args.self.now.row in
    omega (arith, sum_more r c.loop-p-test.true c.loop-p.invariant c.way_at.ensures c.weighed.ensures, weighed-fits r (c.loop-p.p-index + 1))

pub loop-p-preserved : goal.loop-p-preserved
loop-p-preserved c = c.add_assign.ensures.after ∙ sum_more c.args.self.now.row c.loop-p-test.true c.loop-p.invariant c.way_at.ensures c.weighed.ensures

pub floored-requires : goal.floored-requires
floored-requires c = rw c.loop-p.invariant (weighed-fits c.args.self.now.row c.loop-p.p-index)

use Rattle.std.proofs.Common.{length}
use Rattle.desk.proofs.Choices.{lowest_none, lowest_more, lowest_all}
use Rattle.desk.proofs.row.RowLent.best.Goals as goal

pub loop-i-init : goal.loop-i-init
loop-i-init c =
    let a = c.args.self.now in
    lowest_none a.line.now a.fraction.now a.inbox.now (length a.fraction.now)

pub loop-i-preserved : goal.loop-i-preserved
loop-i-preserved c =
    let a = c.args.self.now in
    lowest_more a.line.now a.fraction.now a.inbox.now (length a.fraction.now) c.loop-i.i c.loop-i-test.true c.loop-i.auto.i c.loop-i.invariant c.way_at.ensures c.barred_cost.ensures c.or_better-b.ensures

pub returns : goal.returns
returns c =
    let a = c.args.self.now in
    lowest_all a.line.now a.fraction.now a.inbox.now (length a.fraction.now) c.loop-i.i c.loop-i-test.false c.loop-i.invariant

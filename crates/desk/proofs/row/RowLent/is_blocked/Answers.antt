use Rattle.desk.proofs.Places.{flows-at, flows-said}
use Rattle.desk.proofs.row.RowLent.is_blocked.Goals as goal

pub way_at-requires : goal.way_at-requires
way_at-requires c = (flows-at c.args.self.now.row c.loop-p.p-index c.loop-p-test.true).0

pub is_blocking-r-requires-clause-flows : goal.is_blocking-r-requires-clause-flows
is_blocking-r-requires-clause-flows c = flows-said c.args.self.now.row c.loop-p-test.true c.way_at.ensures

use Rattle.std.proofs.Common.{◌≡◌, take}
use Rattle.rules.specs.Lists.{total}
use Rattle.rules.specs.Desk.{weighed}
use Rattle.desk.specs.Work.{way_at}
use Rattle.desk.proofs.row.RowLent.delay.Given as goal

abbrev pub invariant-loop-p : goal.invariant-loop-p
invariant-loop-p l =
    l.sum.0 ≡ total (λ p. weighed (way_at l.self.line.now l.self.fraction.now l.self.inbox.now p)) (take l.p-index l.self.flow.now)

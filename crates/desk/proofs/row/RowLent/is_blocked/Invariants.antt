use Rattle.std.proofs.Common.{◌≡◌, take}
use Rattle.rules.specs.Lists.{exists}
use Rattle.rules.specs.Desk.{blocks}
use Rattle.desk.specs.Work.{way_at}
use Rattle.desk.proofs.row.RowLent.is_blocked.Given as goal

abbrev pub invariant-loop-p : goal.invariant-loop-p
invariant-loop-p l =
    l.r ≡ exists (λ p. blocks l.s.0 l.t.0 l.m.0 (way_at l.self.line.now l.self.fraction.now l.self.inbox.now p)) (take l.p-index l.self.flow.now)

use Rattle.std.proofs.Common.{◌≡◌, ◌-◌, length}
use Rattle.rules.specs.Lists.{counted}
use Rattle.desk.specs.Work.{choice_at, lowest}
use Rattle.desk.proofs.row.RowLent.best.Given as goal

abbrev pub invariant-loop-i : goal.invariant-loop-i
invariant-loop-i l =
    let n = length l.self.fraction.now in
    l.b ≡ lowest (choice_at l.self.line.now l.self.fraction.now l.self.inbox.now) (counted l.i (n - l.i))

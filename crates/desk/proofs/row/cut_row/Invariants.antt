use Rattle.desk.proofs.Shares.{Cutting}
use Rattle.desk.proofs.row.cut_row.Given as goal

abbrev pub invariant-loop-p : goal.invariant-loop-p
invariant-loop-p l = Cutting l.s.0 l.t.0 l.least.0 l.line l.initial.fraction l.inbox l.flow l.p-index l.fraction l.all.0

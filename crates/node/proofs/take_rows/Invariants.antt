use Rattle.node.proofs.Rows.{Taken}
use Rattle.node.proofs.take_rows.Given as goal

abbrev pub invariant-loop-i : goal.invariant-loop-i
invariant-loop-i l = Taken l.i l.h.head.step.0 l.h.head.nodes l.traffic l.rows.starts.now l.line l.initial.fraction l.inbox l.fraction

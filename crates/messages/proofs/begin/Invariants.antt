use Rattle.messages.proofs.Beginning.{Beginning}
use Rattle.messages.proofs.begin.Given as goal

abbrev pub invariant-loop-i : goal.invariant-loop-i
invariant-loop-i l = Beginning l.starts l.flow_starts l.quiet l.finished l.i

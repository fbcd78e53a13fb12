use Rattle.round.proofs.Telling.{Telling}
use Rattle.round.proofs.tell_all.Given as goal

abbrev pub invariant-loop-i : goal.invariant-loop-i
invariant-loop-i l = Telling l.h l.net l.line l.i-index l.inbox

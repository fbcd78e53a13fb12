use Rattle.round.specs.Calculated.{Noted}
use Rattle.round.proofs.tell.Given as goal

abbrev pub invariant-loop-l : goal.invariant-loop-l
invariant-loop-l l = Noted l.initial.l l.l l.opposite l.w.0 l.initial.inbox l.inbox

use Rattle.sheet.proofs.Writing.{Copying}
use Rattle.sheet.proofs.copy_front.Given as goal

abbrev pub invariant-loop-i : goal.invariant-loop-i
invariant-loop-i l = Copying l.b l.initial.out l.out l.i

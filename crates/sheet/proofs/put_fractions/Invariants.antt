use Rattle.sheet.proofs.Writing.{Filling}
use Rattle.sheet.proofs.put_fractions.Given as goal

abbrev pub invariant-loop-j : goal.invariant-loop-j
invariant-loop-j l = Filling l.start l.count l.fraction l.initial.out l.out l.j

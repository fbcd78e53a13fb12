use Rattle.numbers.proofs.Lines.{Written}
use Rattle.numbers.proofs.write_line_delays.Given as goal

abbrev pub invariant-loop-j : goal.invariant-loop-j
invariant-loop-j l = Written l.j l.loads l.initial.lines l.lines

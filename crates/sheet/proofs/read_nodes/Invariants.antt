use Rattle.sheet.proofs.Nodes.{NodesSoFar}
use Rattle.sheet.proofs.read_nodes.Given as goal

abbrev pub invariant-loop-i : goal.invariant-loop-i
invariant-loop-i l = NodesSoFar l.b l.start l.n l.traffic l.i l.o

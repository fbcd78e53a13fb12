use Rattle.links.proofs.Pairing.{Met}
use Rattle.links.proofs.meet_opposites.Given as goal

abbrev pub invariant-loop-j : goal.invariant-loop-j
invariant-loop-j l = Met l.count l.columns.from l.columns.to l.opposite l.j

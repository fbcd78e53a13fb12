use Rattle.links.proofs.Pairing.{Pairing}
use Rattle.links.proofs.search_opposites.Given as goal

abbrev pub invariant-loop-j : goal.invariant-loop-j
invariant-loop-j l = Pairing l.count l.columns.from l.columns.to l.opposite l.j

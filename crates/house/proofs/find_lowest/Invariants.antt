use Prim.Native.Nat.{◌-◌}
use Rattle.house.proofs.Searching.{Walking}
use Rattle.house.proofs.find_lowest.Given as goal

abbrev pub invariant-loop-i : goal.invariant-loop-i
invariant-loop-i l = Walking l.h.links l.i l.net l.state l.search

abbrev pub decreases-loop-i : goal.decreases-loop-i
decreases-loop-i l = l.nodes - l.i

use Rattle.house.proofs.Choosing.{Choosing}
use Rattle.house.proofs.write_house.Given as goal

abbrev pub invariant-loop-k : goal.invariant-loop-k
invariant-loop-k l = Choosing l.h l.net l.state l.search l.initial.out l.out l.k

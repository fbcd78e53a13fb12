use native.Mathlib.Omega.{arith}
use Rattle.house.proofs.Nodes.{without_bit}
use Rattle.house.proofs.Search.shut.Goals as goal

pub returns-clause-less : goal.returns-clause-less
returns-clause-less c = without_bit (omega arith) c.requires

use native.Mathlib.Omega.{arith}
use Rattle.house.proofs.Nodes.{first_in}
use Rattle.house.proofs.Search.first_live.Goals as goal

pub returns : goal.returns
returns c = first_in c.args.self.now.live (omega arith)

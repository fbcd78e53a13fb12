use Rattle.house.proofs.Nodes.{with_bit}
use Rattle.house.proofs.Search.open.Goals as goal

pub returns-clause-more : goal.returns-clause-more
returns-clause-more c = with_bit c.requires

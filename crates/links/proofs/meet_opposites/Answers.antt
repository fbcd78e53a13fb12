use Rattle.links.proofs.Pairing.{met_all}
use Rattle.links.proofs.meet_opposites.Goals as goal

pub returns : goal.returns
returns c = λ _. met_all c.loop-j.invariant c.loop-j-test.false

use Rattle.messages.proofs.Storing.{stored_at_lem}
use Rattle.messages.proofs.store.Goals as goal

pub returns : goal.returns
returns c = stored_at_lem c.requires.word (rw c.from-p.ensures at c.store_at.ensures)

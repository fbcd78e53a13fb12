use Rattle.messages.proofs.Listed.{listed_alike}
use Rattle.messages.proofs.Alike.{delivered_alike}
use Rattle.messages.proofs.deliver_once.Goals as goal

pub returns : goal.returns
returns c = delivered_alike c.deliver.ensures (listed_alike c.put_list.ensures)

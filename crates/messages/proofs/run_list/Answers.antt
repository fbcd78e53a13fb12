use Rattle.node.proofs.Held.{links-few}
use Rattle.messages.proofs.Listed.{listed_alike}
use Rattle.messages.proofs.Alike.{held-net_alike, ran_alike}
use Rattle.messages.proofs.run_list.Goals as goal

pub put_list-requires : goal.put_list-requires
put_list-requires c = search (links-few c.requires.held.net.graph)

pub run_links-requires-clause-held : goal.run_links-requires-clause-held
run_links-requires-clause-held c = held-net_alike c.requires.held (listed_alike c.put_list.ensures)

pub returns : goal.returns
returns c = ran_alike c.run_links.ensures (listed_alike c.put_list.ensures)

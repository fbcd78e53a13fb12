use Rattle.node.proofs.Held.{links-few}
use Rattle.false_states.proofs.False.{sent-asked, sent_with}
use Rattle.false_states.proofs.sent_with.Goals as goal

pub shared_ref_as_front-write_line_delays : goal.shared_ref_as_front-write_line_delays
shared_ref_as_front-write_line_delays c = links-few c.requires.accepted.graph

pub sent_after-requires : goal.sent_after-requires
sent_after-requires c = sent-asked c.requires.accepted c.write_line_delays.ensures c.requires.stored c.requires.small c.told_by.ensures.kept c.told_by.ensures.told c.requires.sent

pub returns : goal.returns
returns c = sent_with c.requires.accepted c.write_line_delays.ensures c.told_by.ensures.said c.sent_after.ensures

use Rattle.node.proofs.Held.{links-few}
use Rattle.false_states.proofs.False.{rows-asked, taken_with}
use Rattle.false_states.proofs.taken_with.Goals as goal

pub shared_ref_as_front-write_line_delays : goal.shared_ref_as_front-write_line_delays
shared_ref_as_front-write_line_delays c = links-few c.requires.accepted.graph

pub take_after-requires : goal.take_after-requires
take_after-requires c = rows-asked c.requires.accepted c.write_line_delays.ensures c.requires.stored c.requires.small c.told_by.ensures.kept c.told_by.ensures.told

pub returns : goal.returns
returns c = taken_with c.requires.accepted c.write_line_delays.ensures c.told_by.ensures.said c.write_house.ensures c.take_after.ensures

use Rattle.node.proofs.Held.{links-few}
use Rattle.messages.proofs.Zeros.{empty_zeros}
use Rattle.calls.proofs.Writing.{given, next-written}
use Rattle.calls.proofs.write_next.Goals as goal

pub shared_ref_as_front-write_line_delays : goal.shared_ref_as_front-write_line_delays
shared_ref_as_front-write_line_delays c = links-few c.requires.ready.held.graph

pub next_fractions-requires-clause-given : goal.next_fractions-requires-clause-given
next_fractions-requires-clause-given c = given c.requires.ready.held c.write_line_delays.ensures

pub next_fractions-requires-clause-quiet : goal.next_fractions-requires-clause-quiet
next_fractions-requires-clause-quiet c = empty_zeros

pub returns : goal.returns
returns c = next-written c.requires.ready c.write_line_delays.ensures c.next_fractions.ensures.next c.write_fractions.ensures

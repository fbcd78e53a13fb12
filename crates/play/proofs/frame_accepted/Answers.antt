use Rattle.admit.proofs.Judging.{handed_on}
use Rattle.node.proofs.Held.{links-few}
use Rattle.play.proofs.Playing.{held-lent, framed-stopped, rows-lent, framed-left}
use Rattle.play.proofs.frame_accepted.Goals as goal

pub shared_ref_as_front-write_line_delays : goal.shared_ref_as_front-write_line_delays
shared_ref_as_front-write_line_delays c = links-few c.requires.accepted.1.ready.held.graph

pub run_list-requires-clause-held : goal.run_list-requires-clause-held
run_list-requires-clause-held c = held-lent c.args.h c.args.net.now c.lend-lent.result c.lend-lent.ensures.net c.lend-lent.ensures.line c.write_line_delays.ensures c.requires.accepted.1.ready

pub returns-in_err-run_list : goal.returns-in_err-run_list
returns-in_err-run_list c = framed-stopped c.args.h c.args.net.now c.lend-lent.result c.lend-lent.ensures.net c.lend-lent.ensures.line c.write_line_delays.ensures c.run_list.ensures c.in_err-run_list.was (handed_on c.from_residual.ensures)

pub write_frames-requires-clause-rows : goal.write_frames-requires-clause-rows
write_frames-requires-clause-rows c = rows-lent c.args.h c.args.net.now c.lend-lent.result c.lend-lent.ensures.net c.lend-lent.ensures.line c.write_line_delays.ensures c.run_list.ensures c.in_ok-run_list.was c.requires.accepted.1.ready

pub write_frames-requires-clause-step : goal.write_frames-requires-clause-step
write_frames-requires-clause-step c = c.requires.accepted.1.ready.held.graph.sound.step-top

pub returns : goal.returns
returns c = rw c.from.ensures (framed-left c.args.h c.args.net.now c.lend-lent.result c.lend-lent.ensures.net c.lend-lent.ensures.line c.write_line_delays.ensures c.run_list.ensures c.in_ok-run_list.was c.write_frames.ensures)

use Rattle.admit.proofs.Judging.{handed_on}
use Rattle.node.proofs.Held.{links-few}
use Rattle.play.proofs.Playing.{held-lent, played-stopped, rows-lent, played-left, write-asked}
use Rattle.play.proofs.play_accepted.Goals as goal

pub shared_ref_as_front-write_line_delays : goal.shared_ref_as_front-write_line_delays
shared_ref_as_front-write_line_delays c = links-few c.requires.ready.ready.held.graph

pub run_list-requires-clause-held : goal.run_list-requires-clause-held
run_list-requires-clause-held c = held-lent c.args.h c.args.net.now c.lend-lent.result c.lend-lent.ensures.net c.lend-lent.ensures.line c.write_line_delays.ensures c.requires.ready.ready

pub returns-in_err-run_list : goal.returns-in_err-run_list
returns-in_err-run_list c = played-stopped c.args.h c.args.net.now c.lend-lent.result c.lend-lent.ensures.net c.lend-lent.ensures.line c.write_line_delays.ensures c.run_list.ensures c.in_err-run_list.was (handed_on c.from_residual.ensures)

pub end_play-requires-clause-rows : goal.end_play-requires-clause-rows
end_play-requires-clause-rows c = rows-lent c.args.h c.args.net.now c.lend-lent.result c.lend-lent.ensures.net c.lend-lent.ensures.line c.write_line_delays.ensures c.run_list.ensures c.in_ok-run_list.was c.requires.ready.ready

pub end_play-requires-clause-step : goal.end_play-requires-clause-step
end_play-requires-clause-step c = c.requires.ready.ready.held.graph.sound.step-top

pub end_play-requires-clause-room : goal.end_play-requires-clause-room
end_play-requires-clause-room c = write-asked c.args.net.now c.requires.ready.ready c.requires.room

pub returns : goal.returns
returns c = played-left c.args.h c.args.net.now c.lend-lent.result c.lend-lent.ensures.net c.lend-lent.ensures.line c.write_line_delays.ensures c.run_list.ensures c.in_ok-run_list.was c.end_play.ensures

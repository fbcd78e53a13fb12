use Rattle.rules.specs.Messages.{house}
use Rattle.rules.specs.Calls.{writes}
use Rattle.sheet.specs.Held.{sheet_in}
use mathlib.Core.Path.{◌∙◌}
use lib.ListN.{length}
use Rattle.admit.proofs.Judging.{handed_on}
use Rattle.calls.proofs.Replies.{is_ready, house_accepted, no_room, some-room, answered_refused, answered_by, house_answered}
use Rattle.calls.proofs.Writing.{graph-held}
use Rattle.calls.proofs.house.Goals as goal

pub returns-in_err-judge_room : goal.returns-in_err-judge_room
returns-in_err-judge_room c =
    answered_refused c.args.out.now (handed_on c.from_residual-in_err-judge_room.ensures)
    (house_accepted c.open.ensures c.in_ok-h.was (length c.args.out.now) ∙ no_room (length c.args.out.now) c.in_ok-h.h.links c.judge_room.ensures (writes (house (sheet_in c.in_ok-h.h c.open.new.net.columns))) c.in_err-judge_room.was)

pub write_house-requires-clause-graph : goal.write_house-requires-clause-graph
write_house-requires-clause-graph c = graph-held (is_ready c.open.ensures c.in_ok-h.was).held

pub write_house-requires-clause-room : goal.write_house-requires-clause-room
write_house-requires-clause-room c = (some-room (length c.args.out.now) c.in_ok-h.h.links c.judge_room.ensures (writes (house (sheet_in c.in_ok-h.h c.open.new.net.columns))) c.in_ok-judge_room.was).0

pub returns : goal.returns
returns c =
    answered_by (house_accepted c.open.ensures c.in_ok-h.was (length c.args.out.now) ∙ (some-room (length c.args.out.now) c.in_ok-h.h.links c.judge_room.ensures (writes (house (sheet_in c.in_ok-h.h c.open.new.net.columns))) c.in_ok-judge_room.was).1)
    (house_answered c.open.ensures c.in_ok-h.was (c.write_house.ensures.said (is_ready c.open.ensures c.in_ok-h.was).held.graph))

use mathlib.Core.Path.{◌∙◌}
use lib.ListN.{length}
use Rattle.rules.specs.Calls.{room}
use Rattle.sheet.specs.Held.{sheet_in}
use Rattle.play.specs.Replies.{played}
use Rattle.calls.proofs.Replies.{is_ready, accepted_reply, some-room, answered_by}
use Rattle.calls.proofs.play.Goals as goal

pub returns : goal.returns
returns c =
    answered_by
    (accepted_reply c.open.ensures c.in_ok-h.was (λ s. room (length c.args.out.now) (length c.args.sheet.now) (played s c.args.list.now))
    ∙ (some-room (length c.args.out.now) (length c.args.sheet.now) c.judge_room.ensures (played (sheet_in c.in_ok-h.h c.open.new.net.columns) c.args.list.now) c.in_ok-judge_room.was).1)
    (c.play_accepted.ensures.said {ts = c.open.new.net.columns.to} {ord = c.open.new.net.order.order} {turn = c.open.new.net.order.turn} (is_ready c.open.ensures c.in_ok-h.was))

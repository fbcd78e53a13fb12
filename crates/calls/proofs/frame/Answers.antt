use mathlib.Core.Path.{◌∙◌}
use lib.ListN.{length}
use Prim.Native.Nat.{◌*◌}
use Rattle.rules.specs.Calls.{room}
use Rattle.sheet.specs.Held.{sheet_in}
use Rattle.play.specs.Replies.{framed}
use Rattle.calls.proofs.Replies.{is_ready, accepted_reply, some-room, answered_by}
use Rattle.calls.proofs.frame.Goals as goal

pub returns : goal.returns
returns c =
    answered_by
    (accepted_reply c.open.ensures c.in_ok-h.was (λ s. room (length c.args.out.now) (6 * s.nodes) (framed s c.args.list.now))
    ∙ (some-room (length c.args.out.now) (6 * c.in_ok-h.h.head.nodes) (rw c.from.ensures at c.judge_room.ensures) (framed (sheet_in c.in_ok-h.h c.open.new.net.columns) c.args.list.now) c.in_ok-judge_room.was).1)
    (c.frame_accepted.ensures.said {b = c.args.sheet.now} {ts = c.open.new.net.columns.to} {ord = c.open.new.net.order.order} {turn = c.open.new.net.order.turn} (is_ready c.open.ensures c.in_ok-h.was))

-- What is answered of an accepted sheet with room is the call's reply.
use Prim.Native.Nat.{ℕ, ◌*◌, ◌≤◌}
use mathlib.Core.Path.{◌≡◌, subst}
use mathlib.Core.List.{List}
use lib.ListN.{length}
use borrow.Author.Tests.{le-ltb}
use Rattle.rules.specs.Sheet.{Sheet}
use Rattle.rules.specs.Judge.{accepted}
use Rattle.rules.specs.Check.{check}
use Rattle.rules.specs.Calls.{play_reply, frame_reply}
use Rattle.rules.proofs.Reading.{check_holds}
use Rattle.sheet.specs.declared.SheetHeld.{SheetHeld}
use Rattle.sheet.specs.Held.{sheet_in}
use Rattle.node.specs.declared.NetHeld.{NetHeld}
use Rattle.admit.specs.Opened.{Ready}
use Rattle.play.specs.Replies.{played, framed}

module _ {h : SheetHeld} {b : List ℕ} {net : NetHeld} (ready : Ready h b net) where
  abbrev s : Sheet
  s = sheet_in h net.columns

  ready-check : check b ≡ accepted s
  ready-check = subst (λ (x : List ℕ). check x ≡ accepted s) ready.stand (check_holds s ready.held.graph.sound)

  pub play_reply_lem : (js : List ℕ) (have : ℕ) → length b ≤ have → play_reply b js have ≡ played s js
  play_reply_lem js have room = rw (ready-check, le-ltb have (length b) room)

  pub frame_reply_lem : (js : List ℕ) (have : ℕ) → 6 * h.head.nodes ≤ have → frame_reply b js have ≡ framed s js
  frame_reply_lem js have room = rw (ready-check, le-ltb have (6 * h.head.nodes) room)

-- The frames of a state, over the lists that hold it.
use Rattle.std.specs.Prelude.{ℕ, ◌+◌, ◌*◌, ◌≤◌, ◌≡◌, List, ◌++◌, length, get_or, drop}
use Rattle.rules.specs.Lists.{below}
use Rattle.rules.specs.Calls.{node_frame, frames_of}
use Rattle.sheet.specs.declared.SheetHeld.{SheetHeld}
use Rattle.sheet.specs.Held.{sheet_said}
use Rattle.node.specs.Net.{row_desk, state_said, Net}
use Rattle.messages.specs.declared.Tally.{Tally}
use Rattle.messages.specs.State.{status_by, Kept}

-- node i's frame, by its counts and its desk, whatever its far nodes are called
pub record Shows (frame : List ℕ) (s t q : ℕ) (ss line xs inbox : List ℕ) (i : ℕ) : Type 0 where
  pub said : (ts : List ℕ) → get_or ss (i + 1) 0 ≤ length ts → frame ≡ node_frame (status_by q) (row_desk s t ss ts line xs inbox i)

-- the frames of the first k nodes stand in front, and behind them new is as old: in every state that the lists keep, of every sheet that they hold
pub record FramesWritten (k : ℕ) (h : SheetHeld) (tr ss gs ps line xs inbox qs old new : List ℕ) : Type 0 where
  pub said : {fs ts ls os : List ℕ} {t : Tally} → Net h tr fs ts ls xs ss gs ps os line → Kept h tr fs ts ls xs ss os inbox qs t
      → new ≡ frames_of (sheet_said h tr fs ts ls xs) (state_said h.links os inbox) (below k) ++ drop (6 * k) old

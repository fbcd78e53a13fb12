-- What Play and Frame make of what a list leaves.
use Rattle.std.specs.Prelude.{ℕ, ◌≡◌, List, length, Result}
use Rattle.answers.specs.Answers.{Answered}
use Rattle.answers.specs.declared.Refusal.{Refusal}
use Rattle.rules.specs.Bytes.{bytes}
use Rattle.sheet.specs.declared.SheetHeld.{SheetHeld}
use Rattle.sheet.specs.Held.{sheet_said}
use Rattle.node.specs.declared.NetHeld.{NetHeld}
use Rattle.node.specs.Net.{state_said, Net, net_sheet}
use Rattle.admit.specs.Opened.{Ready}
use Rattle.play.specs.Replies.{played_from, played, framed}

-- the storage with other far nodes and another order of the nodes, neither of which is looked at
abbrev pub retold : NetHeld → List ℕ → List ℕ → List ℕ → NetHeld
retold net ts ord turn = record net { columns = record net.columns { to = ts }; order = record { order = ord; turn = turn } }

-- it holds an accepted sheet with some such
pub record Accepted (h : SheetHeld) (b : List ℕ) (net : NetHeld) : Type 0 where
  pub ts : List ℕ
  pub ord : List ℕ
  pub turn : List ℕ
  pub ready : Ready h b (retold net ts ord turn)

-- nor are its bytes
abbrev pub AnyAccepted : SheetHeld → NetHeld → Type 0
AnyAccepted h net = (b : List ℕ) × Accepted h b net

-- Play's end in the state that the lists keep, of every sheet that they hold
pub record Ended (r : Result ℕ Refusal) (h : SheetHeld) (b js tr ss gs ps line inbox xs old new : List ℕ) : Type 0 where
  pub said : {fs ts ls os : List ℕ} → Net h tr fs ts ls xs ss gs ps os line → length inbox ≡ 512 → bytes (sheet_said h tr fs ts ls xs) ≡ b
      → Answered r (played_from (sheet_said h tr fs ts ls xs) js (state_said h.links os inbox)) old new

-- Play's answer and output, of each sheet that the storage may hold
pub record Played (r : Result ℕ Refusal) (h : SheetHeld) (b js : List ℕ) (net : NetHeld) (old new : List ℕ) : Type 0 where
  pub said : {ts ord turn : List ℕ} → Ready h b (retold net ts ord turn) → Answered r (played (net_sheet h (retold net ts ord turn)) js) old new

-- Frame's, whatever its bytes are
pub record Framed (r : Result ℕ Refusal) (h : SheetHeld) (js : List ℕ) (net : NetHeld) (old new : List ℕ) : Type 0 where
  pub said : {b ts ord turn : List ℕ} → Ready h b (retold net ts ord turn) → Answered r (framed (net_sheet h (retold net ts ord turn)) js) old new

-- False states made by storing a word, and what the code works out from them.
use Rattle.std.specs.Prelude.{ℕ, ◌/◌, ◌≤◌, ◌<◌, ◌≡◌, false, List, [], ◌∷◌, map, length, get_or, set, Result, Ok}
use Rattle.rules.specs.Sheet.{Sheet, largest_stored}
use Rattle.rules.specs.Judge.{accepted}
use Rattle.rules.specs.Check.{check}
use Rattle.rules.specs.Desk.{Told, silent, told, message}
use Rattle.rules.specs.Round.{full_desk}
use Rattle.rules.specs.Messages.{State, start, link_of, deliver, left, run, outcome, house}
use Rattle.answers.specs.declared.Refusal.{Refusal}
use Rattle.desk.specs.declared.Message.{Message}
use Rattle.desk.specs.Ways.{told_of, message_said}
use Rattle.sheet.specs.declared.SheetHeld.{SheetHeld}
use Rattle.sheet.specs.Held.{sheet_said}
use Rattle.node.specs.declared.NetHeld.{NetHeld}
use Rattle.node.specs.Net.{Net, net_sheet}
use Rattle.messages.specs.Round.{HeldIn}
use Rattle.false_states.specs.declared.Question.{Question}
use Rattle.false_states.specs.declared.Follows.{Follows}

-- ---- by the rules
-- what the delivery on link k stores where only link j was delivered, with the word w
abbrev pub carried_by : Sheet → ℕ → Told → ℕ → Told
carried_by s j w k = get_or (deliver s (set (start s) j w) k) k silent

-- the sheet with each node's new row in the state st, but that the word w is stored on link j
abbrev pub taken_by : Sheet → State → ℕ → Told → Sheet
taken_by s st j w = outcome s (set st j w)

-- ---- over the structs, which hold one sheet: ts and ls are its far nodes and load steps, which a round doesn't read
abbrev pub NetWith : SheetHeld → NetHeld → List ℕ → List ℕ → List ℕ → Type 0
NetWith h net ts ls line = Net h net.columns.traffic net.columns.from ts ls net.columns.fraction net.rows.starts net.rows.flow_starts net.rows.flow net.opposite line

abbrev pub net_sheet_with : SheetHeld → NetHeld → List ℕ → List ℕ → List ℕ → Sheet
net_sheet_with h net ts ls xs = sheet_said h net.columns.traffic net.columns.from ts ls xs

-- link j's place in the inbox
pub record Placed (j : ℕ) (os inbox : List ℕ) : Type 0 where
  pub link : j < length os
  pub place : get_or os j 0 < length inbox

-- a word that is told, with such a delay
pub record Word (w : ℕ) : Type 0 where
  pub heard : 0 < w
  pub small : w / 4 ≤ largest_stored

-- a word can be stored on link j, and link k is delivered on
pub record SentAsked (j w k : ℕ) (h : SheetHeld) (net : NetHeld) (line : List ℕ) : Type 0 where
  pub held : HeldIn h net line
  pub word : Word w
  pub stored : j < h.links
  pub sent : k < h.links

-- what the rules send on link k where only link j was delivered and w is stored there
pub record Sent (r j w k : ℕ) (h : SheetHeld) (net : NetHeld) (line : List ℕ) : Type 0 where
  pub said : {ts ls : List ℕ} → NetWith h net ts ls line → told_of r ≡ carried_by (net_sheet_with h net ts ls net.columns.fraction) j (told_of w) k

pub record RowsAsked (j w : ℕ) (h : SheetHeld) (net : NetHeld) (line : List ℕ) : Type 0 where
  pub held : HeldIn h net line
  pub word : Word w
  pub stored : j < h.links

-- where the list leaves a state, the answer is Ok, and the fractions ys are the outcome, by the rules, of that state with w stored on link j
pub record RowsTaken (r : Result Unit Refusal) (js : List ℕ) (j w : ℕ) (h : SheetHeld) (net : NetHeld) (line ys : List ℕ) : Type 0 where
  pub said : {ts ls : List ℕ} → NetWith h net ts ls line → (st : State) → run (net_sheet_with h net ts ls net.columns.fraction) js ≡ left st
      → (r ≡ Ok tt) × (net_sheet_with h net ts ls ys ≡ taken_by (net_sheet_with h net ts ls net.columns.fraction) st j (told_of w))

-- the same of an accepted sheet and its house order
pub record TakenWith (r : Result Unit Refusal) (j : ℕ) (m : Message) (h : SheetHeld) (net : NetHeld) (ys : List ℕ) : Type 0 where
  pub said : (st : State) → run (net_sheet h net) (house (net_sheet h net)) ≡ left st
      → (r ≡ Ok tt) × (net_sheet_with h net net.columns.to net.columns.load ys ≡ taken_by (net_sheet h net) st j (message_said m))

-- ---- of a sheet's bytes
-- the word that the answer says
abbrev pub word_said : Follows → Told
word_said Follows.Nothing = silent
word_said (Follows.Carried w) = told_of w.0
word_said (Follows.Taken n) = silent

-- the answer r, with the fractions ys, is right for the sheet s with the word w stored on link j
abbrev pub FollowedBy : Question → Sheet → ℕ → Told → Follows → List ℕ → Type 0
FollowedBy (Question.Carries k) s j w r ys = k < length s.links → word_said r ≡ carried_by s j w k
FollowedBy Question.Rows s j w r ys = (st : State) → run s (house s) ≡ left st
    → (r ≡ Follows.Taken (length s.links)) × ((i : ℕ) → i < length s.links → get_or ys i 0 ≡ (link_of (taken_by s st j w) i).fraction)

pub record Followed (q : Question) (b : List ℕ) (j : ℕ) (m : Message) (r : Follows) (ys : List ℕ) : Type 0 where
  pub said : (s : Sheet) → check b ≡ accepted s → j < length s.links → FollowedBy q s j (message_said m) r ys

-- ---- the two cases of document 01; links 0, 2, 3 and 5 are plate A's (0,1), (1,0), (1,2) and (2,1)
-- what goes on (1,2) where only (0,1) was delivered, and the delay d is stored there, unmarked
abbrev pub sent_by : Sheet → ℕ → Told
sent_by s d = carried_by s 0 (told d false) 3

-- node 1's new row in the state st, but that the delay d is stored on (2,1), unmarked
abbrev pub row_by : Sheet → State → ℕ → List ℕ
row_by s st d =
    let t : Sheet = taken_by s st 5 (told d false) in
    (link_of t 2).fraction ∷ (link_of t 3).fraction ∷ []

-- everything delivered, with the calculation's words
abbrev pub everything : Sheet → State
everything s = map (λ l. message (full_desk s l.from)) s.links

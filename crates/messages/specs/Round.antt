-- A delivery and a list of deliveries, by the lists that hold the sheet and the state; each is said of the structs too, by the name that ends in In.
use Rattle.std.specs.Prelude.{ℕ, ◌≤◌, ◌<◌, ◌≡◌, Result, Ok, Err, List, get_or}
use Rattle.rules.specs.Sheet.{largest_step}
use Rattle.rules.specs.Messages.{State, deliver, Ran as RunEnd, stopped, left, run}
use Rattle.answers.specs.declared.Refusal.{Refusal}
use Rattle.answers.specs.Answers.{number_of, place_of}
use Rattle.links.specs.declared.Link.{Link}
use Rattle.links.specs.List.{froms}
use Rattle.sheet.specs.declared.SheetHeld.{SheetHeld}
use Rattle.sheet.specs.Held.{sheet_said}
use Rattle.node.specs.declared.NetHeld.{NetHeld}
use Rattle.node.specs.Net.{RowAt, state_said, Net}
use Rattle.messages.specs.declared.StateHeld.{StateHeld}
use Rattle.messages.specs.declared.Tally.{Tally}
use Rattle.messages.specs.State.{Kept, LinkAt, Spare, Counted}

-- the same with the near nodes of a list of the links
abbrev pub linked : List Link → NetHeld → NetHeld
linked links net = record net { columns = record net.columns { from = froms links } }

-- link j's node can work its message out, and there is room to count it
pub record Deliverable (step j : ℕ) (fs ss gs ps line xs os inbox qs : List ℕ) (t : Tally) : Type 0 where
  pub step-top : step ≤ largest_step
  pub link : LinkAt j fs os
  pub row : RowAt (get_or fs j 0) ss gs ps line xs inbox
  pub counted : Counted j fs xs os inbox qs
  pub spare : Spare t

abbrev pub DeliverableIn : ℕ → ℕ → NetHeld → List ℕ → StateHeld → Tally → Type 0
DeliverableIn step j net line st t = Deliverable step j net.columns.from net.rows.starts net.rows.flow_starts net.rows.flow line net.columns.fraction net.opposite st.inbox st.quiet t

-- the delivery on link j was made, by the rules: in every state that the lists keep, of the one sheet that they hold
pub record Delivered (h : SheetHeld) (j : ℕ) (tr fs ss gs ps line xs os inbox qs inbox' qs' : List ℕ) (t t' : Tally) : Type 0 where
  pub said : {ts ls : List ℕ} → Net h tr fs ts ls xs ss gs ps os line → Kept h tr fs ts ls xs ss os inbox qs t → j < h.links
      → state_said h.links os inbox' ≡ deliver (sheet_said h tr fs ts ls xs) (state_said h.links os inbox) j
  pub keeps : {ts ls : List ℕ} → Net h tr fs ts ls xs ss gs ps os line → Kept h tr fs ts ls xs ss os inbox qs t → j < h.links
      → Kept h tr fs ts ls xs ss os inbox' qs' t'

abbrev pub DeliveredIn : SheetHeld → ℕ → NetHeld → List ℕ → StateHeld → StateHeld → Tally → Tally → Type 0
DeliveredIn h j net line st st' t t' = Delivered h j net.columns.traffic net.columns.from net.rows.starts net.rows.flow_starts net.rows.flow line net.columns.fraction net.opposite
    st.inbox st.quiet st'.inbox st'.quiet t t'

-- the lists hold some sheet: which far nodes and load steps it has is not asked
pub record SomeNet (h : SheetHeld) (tr fs ss gs ps line xs os : List ℕ) : Type 0 where
  pub ts : List ℕ
  pub ls : List ℕ
  pub net : Net h tr fs ts ls xs ss gs ps os line

abbrev pub HeldIn : SheetHeld → NetHeld → List ℕ → Type 0
HeldIn h net line = SomeNet h net.columns.traffic net.columns.from net.rows.starts net.rows.flow_starts net.rows.flow line net.columns.fraction net.opposite

-- what the code's answer says, with the state that it leaves
abbrev pub ran_said : Result Tally Refusal → State → RunEnd
ran_said (Err e) st = stopped (number_of e) (place_of e)
ran_said (Ok t) st = left st

-- the state that is left is kept
abbrev pub RanKept : Result Tally Refusal → SheetHeld → List ℕ → List ℕ → List ℕ → List ℕ → List ℕ → List ℕ → List ℕ → List ℕ → List ℕ → Type 0
RanKept (Err e) h tr fs ts ls xs ss os inbox qs = Unit {0}
RanKept (Ok t) h tr fs ts ls xs ss os inbox qs = Kept h tr fs ts ls xs ss os inbox qs t

-- the deliveries of a list, from the beginning
pub record ListRun (r : Result Tally Refusal) (h : SheetHeld) (js tr fs ss gs ps line xs os inbox qs : List ℕ) : Type 0 where
  pub said : {ts ls : List ℕ} → Net h tr fs ts ls xs ss gs ps os line → ran_said r (state_said h.links os inbox) ≡ run (sheet_said h tr fs ts ls xs) js
  pub keeps : {ts ls : List ℕ} → Net h tr fs ts ls xs ss gs ps os line → RanKept r h tr fs ts ls xs ss os inbox qs

abbrev pub ListRunIn : Result Tally Refusal → SheetHeld → List ℕ → NetHeld → List ℕ → StateHeld → Type 0
ListRunIn r h js net line st = ListRun r h js net.columns.traffic net.columns.from net.rows.starts net.rows.flow_starts net.rows.flow line net.columns.fraction net.opposite st.inbox st.quiet

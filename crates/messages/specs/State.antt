-- The state of a round: what was delivered, how many neighbours each node has still to hear, the tally.
use Rattle.std.specs.Prelude.{ℕ, ◌+◌, ◌-◌, ◌*◌, ◌%◌, ◌≤◌, ◌<◌, ◌≡◌, Bool, true, false, cond, ◌&&◌, Option, Some, None, List, length, get_or, set, ltb, leb, eqb}
use Rattle.rules.specs.Lists.{bit, counted, below, how_many}
use Rattle.rules.specs.Desk.{heard}
use Rattle.rules.specs.Messages.{waits_on, delivered, finished}
use Rattle.answers.specs.declared.Fault.{Fault}
use Rattle.answers.specs.declared.Fault.TheVariants.{NotWaiting, NoSuchLink}
use Rattle.desk.specs.Ways.{told_of}
use Rattle.sheet.specs.declared.SheetHeld.{SheetHeld}
use Rattle.sheet.specs.Held.{sheet_said}
use Rattle.node.specs.declared.NetHeld.{NetHeld}
use Rattle.node.specs.Net.{state_said, Graph}
use Rattle.messages.specs.declared.StateHeld.{StateHeld}
use Rattle.messages.specs.declared.Tally.{Tally}
use Rattle.messages.specs.declared.Change.{Change}
use Rattle.messages.specs.declared.Change.TheVariants.{Again, Heard, Finished}
use Rattle.messages.specs.declared.Status.{Status}
use Rattle.messages.specs.declared.Status.TheVariants.{Waiting, Ready, Finished as Full}

-- the numbers of node i's links
abbrev pub row_numbers : List ℕ → ℕ → List ℕ
row_numbers ss i = counted (get_or ss i 0) (get_or ss (i + 1) 0 - get_or ss i 0)

-- the far node of link p is still silent; and the link flows
abbrev pub is_silent : List ℕ → ℕ → Bool
is_silent inbox p = eqb (get_or inbox p 0) 0

abbrev pub is_silent_flow : List ℕ → List ℕ → ℕ → Bool
is_silent_flow xs inbox p = ltb 0 (get_or xs p 0) && is_silent inbox p

-- how many neighbours node i has still to hear, times 1,024, and how many of them it has a flowing link to
abbrev pub quiet_of : List ℕ → List ℕ → List ℕ → ℕ → ℕ
quiet_of ss xs inbox i = how_many (is_silent inbox) (row_numbers ss i) * 1024 + how_many (is_silent_flow xs inbox) (row_numbers ss i)

-- the status that such a count gives
abbrev pub status_by : ℕ → ℕ
status_by q = cond (ltb q 1024) 2 (cond (eqb (q % 1024) 0) 1 0)

-- a status's number in the paper
abbrev pub status_number : Status → ℕ
status_number Waiting = 0
status_number Ready = 1
status_number Full = 2

-- whether a message waits on a link with fraction x that carried the word w, where its node has such a count
abbrev pub waits_by : ℕ → ℕ → ℕ → Bool
waits_by q x w = waits_on (status_by q) (record { from = 0; to = 0; load = 0; fraction = x }) (told_of w)

-- one neighbour fewer to hear, over a link with fraction x
abbrev pub fewer : ℕ → ℕ → ℕ
fewer q x = q - (1024 + bit (ltb 0 x))

-- what a first word changes that leaves its far node with such a count
abbrev pub change_of : ℕ → Change
change_of q = cond (eqb (status_by q) 2) Finished Heard

-- the tally after a change: one delivery more where a word was heard, and one node finished more where it finishes
abbrev pub step_of : Tally → Change → Tally
step_of t Again = t
step_of t Heard = record { deliveries = t.deliveries + 1; finished = t.finished }
step_of t Finished = record { deliveries = t.deliveries + 1; finished = t.finished + 1 }

-- the tally has room for one delivery more
pub record Spare (t : Tally) : Type 0 where
  pub deliveries : t.deliveries ≤ 512
  pub finished : t.finished ≤ 64

-- the counts and the tally are right
pub record Kept (h : SheetHeld) (tr fs ts ls xs ss os inbox qs : List ℕ) (t : Tally) : Type 0 where
  pub graph : Graph h tr fs ts ls xs ss os
  pub inbox_size : length inbox ≡ 512
  pub beyond : (k : ℕ) → h.links ≤ k → get_or inbox k 0 ≡ 0
  pub quiet-size : length qs ≡ 64
  pub quiet : (i : ℕ) → i < h.head.nodes → get_or qs i 0 ≡ quiet_of ss xs inbox i
  pub deliveries : t.deliveries ≡ delivered (state_said h.links os inbox)
  pub finished-right : t.finished ≡ finished (sheet_said h tr fs ts ls xs) (state_said h.links os inbox)

-- link j, its opposite's place and the nodes at its ends are in range
pub record LinkAt (j : ℕ) (fs os : List ℕ) : Type 0 where
  pub low : j < 512
  pub place : get_or os j 0 < 512
  pub near : get_or fs j 0 < 64
  pub far : get_or fs (get_or os j 0) 0 < 64

abbrev pub LinkIn : ℕ → NetHeld → Type 0
LinkIn j net = LinkAt j net.columns.from net.opposite

-- whether the message on link j waits, by the counts
abbrev pub waiting_at : ℕ → List ℕ → List ℕ → List ℕ → List ℕ → List ℕ → Bool
waiting_at j fs xs os inbox qs = waits_by (get_or qs (get_or fs j 0) 0) (get_or xs j 0) (get_or inbox (get_or os j 0) 0)

abbrev pub waiting_in : ℕ → NetHeld → StateHeld → Bool
waiting_in j net st = waiting_at j net.columns.from net.columns.fraction net.opposite st.inbox st.quiet

-- what a number j of a list is refused with, where there are so many links
abbrev pub refusal_at : ℕ → ℕ → List ℕ → List ℕ → List ℕ → List ℕ → List ℕ → Option Fault
refusal_at count j fs xs os inbox qs = cond (leb count j) (Some NoSuchLink) (cond (waiting_at j fs xs os inbox qs) None (Some NotWaiting))

-- the counts have room for a first word at place p of the inbox, which node b reads by its link with fraction x
abbrev pub CountedAt : ℕ → ℕ → ℕ → List ℕ → List ℕ → Type 0
CountedAt p b x inbox qs = heard (told_of (get_or inbox p 0)) ≡ false → 1024 + bit (ltb 0 x) ≤ get_or qs b 0

-- the counts have room for a first word on link j
abbrev pub Counted : ℕ → List ℕ → List ℕ → List ℕ → List ℕ → List ℕ → Type 0
Counted j fs xs os inbox qs = CountedAt (get_or os j 0) (get_or fs (get_or os j 0) 0) (get_or xs (get_or os j 0) 0) inbox qs

abbrev pub CountedIn : ℕ → NetHeld → StateHeld → Type 0
CountedIn j net st = Counted j net.columns.from net.columns.fraction net.opposite st.inbox st.quiet

-- the word w stands at place p of the inbox; where it is the first, node b has one neighbour fewer to hear, over a link with fraction x
pub record StoredAt (p b x w : ℕ) (st st' : StateHeld) (c : Change) : Type 0 where
  pub word : st'.inbox ≡ set st.inbox p w
  pub again : heard (told_of (get_or st.inbox p 0)) ≡ true → (st'.quiet ≡ st.quiet) × (c ≡ Again)
  pub first : heard (told_of (get_or st.inbox p 0)) ≡ false
      → (st'.quiet ≡ set st.quiet b (fewer (get_or st.quiet b 0) x)) × (c ≡ change_of (fewer (get_or st.quiet b 0) x))

-- the word w is stored on link j and nothing else changes but the counts and the tally, by c, in every state that the lists keep
pub record Stored (j w : ℕ) (fs xs os inbox qs inbox' qs' : List ℕ) (c : Change) : Type 0 where
  pub said : {h : SheetHeld} {tr ts ls ss : List ℕ} {t : Tally} → Kept h tr fs ts ls xs ss os inbox qs t → j < h.links
      → state_said h.links os inbox' ≡ set (state_said h.links os inbox) j (told_of w)
  pub keeps : {h : SheetHeld} {tr ts ls ss : List ℕ} {t : Tally} → Kept h tr fs ts ls xs ss os inbox qs t → j < h.links
      → Kept h tr fs ts ls xs ss os inbox' qs' (step_of t c)

abbrev pub StoredIn : ℕ → ℕ → NetHeld → StateHeld → StateHeld → Change → Type 0
StoredIn j w net st st' c = Stored j w net.columns.from net.columns.fraction net.opposite st.inbox st.quiet st'.inbox st'.quiet c

-- two lists have the same at place k
abbrev pub AlikeAt : ℕ → List ℕ → List ℕ → Type 0
AlikeAt k xs ys = get_or xs k 0 ≡ get_or ys k 0

-- the near nodes of count links, in two lists that may differ behind them
pub record Alike (count : ℕ) (fs gs : List ℕ) : Type 0 where
  pub same : (j : ℕ) → j < count → AlikeAt j fs gs
  pub size : length gs ≡ 512

-- the row lengths of n nodes, and how many of each flow, as counts of neighbours to hear
abbrev pub row_quiet : List ℕ → List ℕ → ℕ → ℕ
row_quiet ss gs i = (get_or ss (i + 1) 0 - get_or ss i 0) * 1024 + (get_or gs (i + 1) 0 - get_or gs i 0)

-- where the rows of n nodes and their flowing places begin
pub record RowsAt (n : ℕ) (ss gs : List ℕ) : Type 0 where
  pub few : n ≤ 64
  pub rise : (i : ℕ) → i < n → get_or ss i 0 ≤ get_or ss (i + 1) 0
  pub flow-rise : (i : ℕ) → i < n → get_or gs i 0 ≤ get_or gs (i + 1) 0

-- the counts of n nodes that have heard nobody, and how many nodes have nobody to hear
pub record Begun (n : ℕ) (ss gs qs : List ℕ) (t : Tally) : Type 0 where
  pub size : length qs ≡ 64
  pub counts : (i : ℕ) → i < n → get_or qs i 0 ≡ row_quiet ss gs i
  pub none : t.deliveries ≡ 0
  pub finished-right : t.finished ≡ how_many (λ i. eqb (status_by (row_quiet ss gs i)) 2) (below n)

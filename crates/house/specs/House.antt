-- House order over a net and its state: what a search has passed, what it finds, and what a stored word leaves of it.
use Rattle.std.specs.Prelude.{ℕ, ◌≤◌, ◌<◌, ◌≡◌, true, false, List, ◌++◌, length, get_or, drop}
use Rattle.rules.specs.Messages.{house}
use Rattle.rules.proofs.First.{Lowest}
use Rattle.sheet.specs.declared.SheetHeld.{SheetHeld}
use Rattle.sheet.specs.Held.{sheet_said}
use Rattle.network.specs.Rows.{Sorted, Rows, Flow}
use Rattle.node.specs.declared.NetHeld.{NetHeld}
use Rattle.node.specs.Net.{Graph}
use Rattle.messages.specs.declared.StateHeld.{StateHeld}
use Rattle.messages.specs.declared.Tally.{Tally}
use Rattle.messages.specs.declared.Change.{Change}
use Rattle.messages.specs.State.{status_by, Kept, LinkIn, waiting_in, StoredIn}
use Rattle.house.specs.declared.Search.{Search}
use Rattle.std.specs.Int.{bit_at}

-- for the sheet with traffic tr, far nodes ts and load steps ls, whose rows begin at ss, the counts and the tally are right
abbrev pub KeptIn : SheetHeld → List ℕ → List ℕ → List ℕ → List ℕ → NetHeld → StateHeld → Tally → Type 0
KeptIn h tr ts ls ss net st t = Kept h tr net.columns.from ts ls net.columns.fraction ss net.opposite st.inbox st.quiet t

-- node i's status, by its counts
abbrev pub status_in : StateHeld → ℕ → ℕ
status_in st i = status_by (get_or st.quiet i 0)

-- each link below end is in range
abbrev pub LinksIn : ℕ → NetHeld → Type 0
LinksIn end net = (j : ℕ) → j < end → LinkIn j net

-- r is the first link from start on that waits, or end
pub record NextFrom (start end r : ℕ) (net : NetHeld) (st : StateHeld) : Type 0 where
  pub low : r < end → start ≤ r
  pub top : r ≤ end
  pub before : (p : ℕ) → start ≤ p → p < r → waiting_in p net st ≡ false
  pub here : r < end → waiting_in r net st ≡ true

-- link j's node, and its far node, as its opposite's
abbrev pub near : NetHeld → ℕ → ℕ
near net j = get_or net.columns.from j 0

abbrev pub far : NetHeld → ℕ → ℕ
far net j = near net (get_or net.opposite j 0)

-- no link waits that its node's cursor has passed
abbrev pub Behind : ℕ → NetHeld → StateHeld → List ℕ → Type 0
Behind count net st cs = (p : ℕ) → p < count → p < get_or cs (near net p) 0 → waiting_in p net st ≡ false

-- nor one of a node that is not live
pub record Passed (count : ℕ) (net : NetHeld) (st : StateHeld) (search : Search) : Type 0 where
  pub behind : Behind count net st search.cursor
  pub shut : (p : ℕ) → p < count → bit_at search.live (near net p) ≡ 0 → waiting_in p net st ≡ false

-- a search that has passed nothing
pub record Fresh (search : Search) : Type 0 where
  pub cursor : (i : ℕ) → i < 64 → get_or search.cursor i 0 ≡ 0
  pub live : (i : ℕ) → i < 64 → bit_at search.live i ≡ 1

-- the rows can be searched, and some link waits
pub record Searchable (h : SheetHeld) (net : NetHeld) (st : StateHeld) (search : Search) : Type 0 where
  pub few : h.head.nodes ≤ 64
  pub links : LinksIn h.links net
  pub rows : Rows h.head.nodes h.links net.columns.from net.rows.starts
  pub sorted : Sorted h.head.nodes h.links net.columns.from
  pub passed : Passed h.links net st search
  pub some : ℕ
  pub some_in : some < h.links
  pub some-waits : waiting_in some net st ≡ true

-- r is the lowest link that waits
abbrev pub LowestAt : ℕ → NetHeld → StateHeld → ℕ → Type 0
LowestAt count net st r = Lowest (λ p. waiting_in p net st) count r

pub record Found (h : SheetHeld) (r : ℕ) (net : NetHeld) (st : StateHeld) (search : Search) : Type 0 where
  pub lowest : LowestAt h.links net st r
  pub passed : Passed h.links net st search

-- a word is stored on link j, and still nothing waits that has been passed
pub record ChosenStored (j : ℕ) (net : NetHeld) (st : StateHeld) (search : Search) (st' : StateHeld) (search' : Search) : Type 0 where
  pub change : Change
  pub stored : StoredIn j 1 net st st' change
  pub passed : {h : SheetHeld} {tr ts ls ss : List ℕ} {t : Tally} → KeptIn h tr ts ls ss net st t → j < h.links
      → Passed h.links net st search → Passed h.links net st' search'

-- the lists hold some sheet: traffic, far nodes, load steps and flowing places are not among them
pub record GraphHeld (h : SheetHeld) (fs ss gs xs os : List ℕ) : Type 0 where
  pub tr : List ℕ
  pub ts : List ℕ
  pub ls : List ℕ
  pub ps : List ℕ
  pub graph : Graph h tr fs ts ls xs ss os
  pub flow : Flow h.head.nodes ss xs gs ps
  pub flow-start_size : length gs ≡ 65
  pub flow-size : length ps ≡ 512

abbrev pub GraphIn : SheetHeld → NetHeld → Type 0
GraphIn h net = GraphHeld h net.columns.from net.rows.starts net.rows.flow_starts net.columns.fraction net.opposite

-- the front of out is the house order of the one sheet that the lists hold, and the rest is as it stood
pub record HouseWritten (h : SheetHeld) (fs ss xs os out out' : List ℕ) : Type 0 where
  pub said : {tr ts ls : List ℕ} → Graph h tr fs ts ls xs ss os → out' ≡ house (sheet_said h tr fs ts ls xs) ++ drop h.links out

abbrev pub HouseIn : SheetHeld → NetHeld → List ℕ → List ℕ → Type 0
HouseIn h net out out' = HouseWritten h net.columns.from net.rows.starts net.columns.fraction net.opposite out out'

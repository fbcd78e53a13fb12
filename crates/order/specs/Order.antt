-- An order of the nodes in which every flowing link leads to an earlier one, and what is asked and answered about it.
use Rattle.std.specs.Prelude.{ℕ, ◌≤◌, ◌<◌, ◌≡◌, List, length, get_or, replicate}
use Rattle.rules.specs.Lists.{below, nowhere, first}
use Rattle.rules.specs.Sheet.{Sheet}
use Rattle.rules.specs.Loop.{on_loop}
use Rattle.rules.specs.Check.{sheet_with}
use Rattle.sheet.specs.Held.{head_said, held, found_said}
use Rattle.sheet.specs.declared.Columns.{Columns}
use Rattle.sheet.specs.declared.SheetHeld.{SheetHeld}
use Rattle.std.specs.Prelude.{Option}
use Rattle.network.specs.declared.RowsHeld.{RowsHeld}
use Rattle.network.specs.Rows.{Rows, Flow}
use Rattle.order.specs.declared.OrderHeld.{OrderHeld}

-- all 0: no order is found yet
unfoldable pub no_order : OrderHeld
no_order = record { order = replicate 64 0; turn = replicate 64 0 }

-- the first `count` links of the columns lie between n nodes
pub record Links (n count : ℕ) (c : Columns) : Type 0 where
  pub nodes : n ≤ 64
  pub few : count ≤ 512
  pub ends : (j : ℕ) → j < count → (get_or c.from j 0 < n) × (get_or c.to j 0 < n)

-- what the caller lends: with the links their rows, and the places of a row that flow
pub record Graph (h : SheetHeld) (c : Columns) (r : RowsHeld) : Type 0 where
  pub links : Links h.head.nodes h.links c
  pub rows : Rows h.head.nodes h.links c.from r.starts
  pub flow : Flow h.head.nodes r.starts c.fraction r.flow_starts r.flow

-- each k below n has its place below n, at which k itself is named
abbrev pub Inverse : ℕ → List ℕ → List ℕ → Type 0
Inverse n places names = (k : ℕ) → k < n → (get_or places k 0 < n) × (get_or names (get_or places k 0) 0 ≡ k)

-- every flowing link leads to an earlier node
abbrev pub Falling : ℕ → List ℕ → List ℕ → List ℕ → List ℕ → Type 0
Falling count fs ts xs turn = (j : ℕ) → j < count → 0 < get_or xs j 0 → get_or turn (get_or ts j 0) 0 < get_or turn (get_or fs j 0) 0

pub record Order (n count : ℕ) (fs ts xs ord turn : List ℕ) : Type 0 where
  pub node : (k : ℕ) → k < n → get_or ord k 0 < n
  pub turn_of : Inverse n turn ord
  pub of_turn : (k : ℕ) → k < n → get_or turn (get_or ord k 0) 0 ≡ k
  pub falls : Falling count fs ts xs turn

-- the sheet that the columns hold: the traffic and the load steps play no part
abbrev pub sheet_of : SheetHeld → Columns → List ℕ → List ℕ → Sheet
sheet_of h c traffic ls = sheet_with (head_said h.head) traffic (held h.links c.from c.to ls c.fraction)

-- 8's place; and where there is none, the order. What was lent keeps its length in either case
pub record OrderGiven (r : Option ℕ) (h : SheetHeld) (c : Columns) (o : OrderHeld) : Type 0 where
  pub said : (traffic ls : List ℕ) → found_said r ≡ first (on_loop (sheet_of h c traffic ls)) (below h.head.nodes)
  pub sorted : found_said r ≡ nowhere → Order h.head.nodes h.links c.from c.to c.fraction o.order o.turn
  pub order_long : length o.order ≡ 64
  pub turn_long : length o.turn ≡ 64

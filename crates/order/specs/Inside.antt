-- What the functions inside tell one another: rows by their flowing places, nodes that are taken one by one, and marks that spread.
use Rattle.std.specs.Prelude.{ℕ, ◌+◌, ◌-◌, ◌≤◌, ◌<◌, ◌≡◌, Bool, true, false, ◌||◌, List, length, get_or, set, eqb, Option, MatchOption}
use Rattle.rules.specs.Lists.{how_many}
use Rattle.rules.specs.Loop.{Leads, marked}
use Rattle.sheet.specs.Held.{held}
use Rattle.sheet.specs.declared.Columns.{Columns}
use Rattle.network.specs.Rows.{part}
use Rattle.network.specs.declared.RowsHeld.{RowsHeld}
use Rattle.order.specs.Order.{Inverse}
use Rattle.order.specs.declared.OrderHeld.{OrderHeld}

-- ---- rows by their flowing places
-- the flowing places of a row are places of it, and its links lead to nodes
pub record RowFlow (ps ts : List ℕ) : Type 0 where
  pub inside : (m : ℕ) → m < length ps → get_or ps m 0 < length ts
  pub far : (p : ℕ) → p < length ts → get_or ts p 0 < 64

-- node i's part of the flow, and the far ends of its row
abbrev pub flow_row : RowsHeld → ℕ → List ℕ
flow_row r i = part r.flow (get_or r.flow_starts i 0) (get_or r.flow_starts (i + 1) 0)

abbrev pub to_row : Columns → RowsHeld → ℕ → List ℕ
to_row c r i = part c.to (get_or r.starts i 0) (get_or r.starts (i + 1) 0)

-- node i's row, and its part of the flow
pub record RowAt (c : Columns) (r : RowsHeld) (i : ℕ) : Type 0 where
  pub rise : get_or r.starts i 0 ≤ get_or r.starts (i + 1) 0
  pub top : get_or r.starts (i + 1) 0 ≤ 512
  pub flow-rise : get_or r.flow_starts i 0 ≤ get_or r.flow_starts (i + 1) 0
  pub flow-top : get_or r.flow_starts (i + 1) 0 ≤ 512
  pub inside : (m : ℕ) → m < length (flow_row r i) → get_or (flow_row r i) m 0 < get_or r.starts (i + 1) 0 - get_or r.starts i 0
  pub far : (p : ℕ) → p < get_or r.starts (i + 1) 0 - get_or r.starts i 0 → get_or (to_row c r i) p 0 < 64

-- the rows of n nodes
pub record Rowed (n : ℕ) (c : Columns) (r : RowsHeld) : Type 0 where
  pub nodes : n ≤ 64
  pub each : (i : ℕ) → i < n → RowAt c r i

-- the first k flowing places of a row lead to nodes before this turn
abbrev pub RowFalls : ℕ → ℕ → List ℕ → List ℕ → List ℕ → Type 0
RowFalls near k ps ts turn = (m : ℕ) → m < k → get_or turn (get_or ts (get_or ps m 0) 0) 0 < near

-- those of the first n rows lead to nodes before the row's own
abbrev pub RowsFall : ℕ → Columns → RowsHeld → List ℕ → Type 0
RowsFall n c r turn = (i : ℕ) → i < n → RowFalls (get_or turn i 0) (length (flow_row r i)) (flow_row r i) (to_row c r i) turn

pub record Tested (n : ℕ) (c : Columns) (r : RowsHeld) (o : OrderHeld) : Type 0 where
  pub node : Inverse n o.order o.turn
  pub turn_of : Inverse n o.turn o.order
  pub falls : RowsFall n c r o.turn

-- ---- an order so far: the nodes in the first `tail` turns are taken
pub record Peeled (n count : ℕ) (c : Columns) (o : OrderHeld) (tail : ℕ) : Type 0 where
  pub node : Inverse n o.order o.turn
  pub turn_of : Inverse n o.turn o.order
  pub within : tail ≤ n
  pub falls : (j : ℕ) → j < count → 0 < get_or c.fraction j 0 → get_or o.turn (get_or c.from j 0) 0 < tail → get_or o.turn (get_or c.to j 0) 0 < get_or o.turn (get_or c.from j 0) 0

-- every flowing link of node i leads to one that is taken
abbrev pub BareBelow : ℕ → Columns → List ℕ → ℕ → ℕ → Type 0
BareBelow count c turn tail i = (j : ℕ) → j < count → 0 < get_or c.fraction j 0 → get_or c.from j 0 ≡ i → get_or turn (get_or c.to j 0) 0 < tail

-- none of the nodes from place `tail` on, up to place k, can be taken
abbrev pub NotYet : ℕ → ℕ → Columns → OrderHeld → ℕ → Type 0
NotYet k count c o tail = (m : ℕ) → tail ≤ m → m < k → ¬ BareBelow count c o.turn tail (get_or o.order m 0)

-- place k is the first below n whose node can be taken
pub record NextAt (k n count : ℕ) (c : Columns) (o : OrderHeld) (tail : ℕ) : Type 0 where
  pub from : tail ≤ k
  pub within : k < n
  pub not_yet : NotYet k count c o tail
  pub bare : BareBelow count c o.turn tail (get_or o.order k 0)

-- the first that can be taken, or that none can
abbrev pub NextBare : Option ℕ → ℕ → ℕ → Columns → OrderHeld → ℕ → Type 0
NextBare r n count c o tail = MatchOption r (NotYet n count c o tail) (λ k. NextAt k n count c o tail)

-- no further node can be taken
pub record PeeledOut (tail n count : ℕ) (c : Columns) (o : OrderHeld) : Type 0 where
  pub peeled : Peeled n count c o tail
  pub rest : NotYet n count c o tail

-- the nodes at places k and `tail` have changed places
pub record Swapped (k tail : ℕ) (old new : OrderHeld) : Type 0 where
  pub order_long : length old.order ≡ 64
  pub turn_long : length old.turn ≡ 64
  pub order : new.order ≡ set (set old.order k (get_or old.order tail 0)) tail (get_or old.order k 0)
  pub turns : new.turn ≡ set (set old.turn (get_or old.order tail 0) k) (get_or old.order k 0) tail

-- ---- marks of the nodes to which a way leads from node i
abbrev pub AllLed : ℕ → Columns → ℕ → List Bool → Type 0
AllLed count c i r = (ls : List ℕ) (j : ℕ) → marked r j ≡ true → Leads (held count c.from c.to ls c.fraction) i j

-- where one of the first j links flows from node i, or from a mark, its far end is marked
abbrev pub Closed : ℕ → Columns → ℕ → List Bool → Type 0
Closed j c i r =
    (k : ℕ) → k < j → 0 < get_or c.fraction k 0 → (eqb (get_or c.from k 0) i || marked r (get_or c.from k 0)) ≡ true → marked r (get_or c.to k 0) ≡ true

-- a pass over the first j links: it has marked something more, or all is closed as it was
pub record Spread (grew : Bool) (count j : ℕ) (c : Columns) (i : ℕ) (old r : List Bool) : Type 0 where
  pub size : length r ≡ length old
  pub led : AllLed count c i old → AllLed count c i r
  pub more : grew ≡ true → how_many (λ b. b) old < how_many (λ b. b) r
  pub rest : grew ≡ false → (r ≡ old) × Closed j c i r

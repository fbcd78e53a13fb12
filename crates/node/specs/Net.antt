-- A sheet held in lists, row by row, and what the nodes have heard; the desk of each node.
use Rattle.std.specs.Prelude.{ℕ, ◌+◌, ◌-◌, ◌/◌, ◌≤◌, ◌<◌, ◌≡◌, List, [], map, length, get_or, replicate}
use Rattle.rules.specs.Lists.{below}
use Rattle.rules.specs.Sheet.{Sheet, largest_delay, line_delay, largest_stored}
use Rattle.rules.specs.Desk.{Desk, message, new_row}
use Rattle.rules.specs.Messages.{State}
use Rattle.rules.proofs.Sound.{Sound}
use Rattle.desk.specs.declared.Message.{Message}
use Rattle.desk.specs.Ways.{told_of, message_said, ways_of, desk_with, Row, Rises}
use Rattle.sheet.specs.declared.SheetHeld.{SheetHeld}
use Rattle.sheet.specs.Held.{no_columns, sheet_said, sheet_in}
use Rattle.links.specs.Opposites.{Opposites}
use Rattle.network.specs.Rows.{no_rows, part, Rows, Flow}
use Rattle.order.specs.Order.{no_order}
use Rattle.node.specs.declared.NetHeld.{NetHeld}
use Rattle.node.specs.declared.NetLent.{NetLent}

-- node i's row of a list that stands link by link
abbrev pub row_part : List ℕ → List ℕ → ℕ → List ℕ
row_part ss xs i = part xs (get_or ss i 0) (get_or ss (i + 1) 0)

-- node i's desk: step, traffic; row starts, far nodes, lines, fractions, and in the inbox what each link's far node told
abbrev pub row_desk : ℕ → ℕ → List ℕ → List ℕ → List ℕ → List ℕ → List ℕ → ℕ → Desk
row_desk s t ss ts line xs inbox i = desk_with s t (ways_of (row_part ss ts i) (row_part ss line i) (row_part ss xs i) (row_part ss inbox i))

-- node i's row can be lent to its desk
pub record RowAt (i : ℕ) (ss gs ps line xs inbox : List ℕ) : Type 0 where
  pub node : i < 64
  pub rise : get_or ss i 0 ≤ get_or ss (i + 1) 0
  pub in_lines : get_or ss (i + 1) 0 ≤ length line
  pub in_fractions : get_or ss (i + 1) 0 ≤ length xs
  pub in_inbox : get_or ss (i + 1) 0 ≤ length inbox
  pub flow-rise : get_or gs i 0 ≤ get_or gs (i + 1) 0
  pub in_flow : get_or gs (i + 1) 0 ≤ length ps
  pub row : Row (row_part ss line i) (row_part ss xs i) (row_part ss inbox i) (row_part gs ps i)

-- the message is the one of node i's desk, whatever its far nodes are called
pub record Tells (r : Message) (s t : ℕ) (ss line xs inbox : List ℕ) (i : ℕ) : Type 0 where
  pub said : (ts : List ℕ) → get_or ss (i + 1) 0 ≤ length ts → message_said r ≡ message (row_desk s t ss ts line xs inbox i)
  pub small : r.delay.0 ≤ largest_delay

-- the far nodes of node i's row rise strictly
pub record RowsRise (i : ℕ) (ss ts : List ℕ) : Type 0 where
  pub inside : get_or ss (i + 1) 0 ≤ length ts
  pub rises : Rises (row_part ss ts i)

-- a row taken anew: what stood elsewhere stays
pub record RowTaken (ss : List ℕ) (i : ℕ) (xs new ys : List ℕ) : Type 0 where
  pub long : length ys ≡ length xs
  pub inside : (p : ℕ) → p < get_or ss (i + 1) 0 - get_or ss i 0 → get_or ys (get_or ss i 0 + p) 0 ≡ get_or new p 0
  pub before : (k : ℕ) → k < get_or ss i 0 → get_or ys k 0 ≡ get_or xs k 0
  pub behind : (k : ℕ) → get_or ss (i + 1) 0 ≤ k → get_or ys k 0 ≡ get_or xs k 0

-- what the lists say of the state: the message on link j stands in the inbox at j's opposite, in the row of the node that hears it
abbrev pub state_said : ℕ → List ℕ → List ℕ → State
state_said count os inbox = map (λ j. told_of (get_or inbox (get_or os j 0) 0)) (below count)

-- nothing was told yet
pub record Empty (inbox : List ℕ) : Type 0 where
  pub size : length inbox ≡ 512
  pub silence : (k : ℕ) → get_or inbox k 0 ≡ 0

-- stored delays of at most 63 × 1,048,576
abbrev pub SmallInbox : List ℕ → Type 0
SmallInbox inbox = (k : ℕ) → get_or inbox k 0 / 4 ≤ largest_stored

-- the lists hold a sound sheet, its rows and each link's opposite
pub record Graph (h : SheetHeld) (tr fs ts ls xs ss os : List ℕ) : Type 0 where
  pub sound : Sound (sheet_said h tr fs ts ls xs)
  pub rows : Rows h.head.nodes h.links fs ss
  pub opposites : Opposites h.links fs ts os
  pub traffic-size : length tr ≡ 64
  pub from-size : length fs ≡ 512
  pub to-size : length ts ≡ 512
  pub fraction-size : length xs ≡ 512
  pub start-size : length ss ≡ 65
  pub opposite-size : length os ≡ 512

-- and, for the desks, its flowing places and its lines' delays
pub record Net (h : SheetHeld) (tr fs ts ls xs ss gs ps os line : List ℕ) : Type 0 where
  pub graph : Graph h tr fs ts ls xs ss os
  pub flow : Flow h.head.nodes ss xs gs ps
  pub line-right : (j : ℕ) → j < h.links → get_or line j 0 ≡ line_delay (get_or ls j 0)
  pub line_small : (j : ℕ) → get_or line j 0 ≤ 1048576
  pub flow-start_size : length gs ≡ 65
  pub flow-size : length ps ≡ 512
  pub line-size : length line ≡ 512

-- the same of an accepted sheet, with all that its calls work out of it; and that sheet
abbrev pub NetIn : SheetHeld → NetHeld → List ℕ → Type 0
NetIn h net line = Net h net.columns.traffic net.columns.from net.columns.to net.columns.load net.columns.fraction
    net.rows.starts net.rows.flow_starts net.rows.flow net.opposite line

-- all 0: no sheet is read yet
unfoldable pub no_net : NetHeld
no_net = record { columns = no_columns; rows = no_rows; opposite = replicate 512 0; order = no_order }

-- without the order of the nodes, which is not lent
abbrev pub unordered : NetHeld → NetHeld
unordered net = record net { order = record { order = []; turn = [] } }

-- the storage that is lent
abbrev pub net_of : NetLent → NetHeld
net_of l = record {
  columns = l.columns.now;
  rows = record { starts = l.rows.starts.now; flow_starts = l.rows.flow_starts.now; flow = l.rows.flow.now };
  opposite = l.opposite.now;
  order = record { order = []; turn = [] };
}

abbrev pub net_sheet : SheetHeld → NetHeld → Sheet
net_sheet h net = sheet_in h net.columns

-- every row can be lent
pub record Lendable (n : ℕ) (ss gs ps line xs inbox : List ℕ) : Type 0 where
  pub rows : (i : ℕ) → i < n → RowAt i ss gs ps line xs inbox

-- each of n rows is its desk's new row
pub record Renewed (s n : ℕ) (tr ss ts line xs inbox ys : List ℕ) : Type 0 where
  pub long : length ys ≡ length xs
  pub rows : (i p : ℕ) → i < n → p < get_or ss (i + 1) 0 - get_or ss i 0
      → get_or ys (get_or ss i 0 + p) 0 ≡ get_or (new_row (row_desk s (get_or tr i 0) ss ts line xs inbox i)) p 0

-- The round as a calculation: each node in turn tells its word to all its neighbours; then every node takes its new row.
use Rattle.std.specs.Prelude.{ℕ, ◌+◌, ◌≤◌, ◌<◌, ◌≡◌, List, get_or}
use Rattle.rules.specs.Round.{next}
use Rattle.rules.specs.Messages.{delivered}
use Rattle.rules.proofs.Right.{Right}
use Rattle.sheet.specs.declared.SheetHeld.{SheetHeld}
use Rattle.order.specs.Order.{Order}
use Rattle.node.specs.declared.NetHeld.{NetHeld}
use Rattle.node.specs.Net.{state_said, SmallInbox, NetIn, net_sheet}

-- the opposites of node i's links lie within the inbox
pub record Tellable (i : ℕ) (ss os : List ℕ) : Type 0 where
  pub node : i < 64
  pub rise : get_or ss i 0 ≤ get_or ss (i + 1) 0
  pub top : get_or ss (i + 1) 0 ≤ 512
  pub low : (l : ℕ) → l < get_or ss (i + 1) 0 → get_or os l 0 < 512

-- w stands at the opposites of the links from a up to e, and elsewhere what stood there
pub record Noted (a e : ℕ) (os : List ℕ) (w : ℕ) (old new : List ℕ) : Type 0 where
  pub here : (l : ℕ) → a ≤ l → l < e → get_or new (get_or os l 0) 0 ≡ w
  pub other : (p : ℕ) → ((l : ℕ) → a ≤ l → l < e → get_or os l 0 ≡ p → ⊥) → get_or new p 0 ≡ get_or old p 0

-- what is held, with other fractions
abbrev pub with_fractions : NetHeld → List ℕ → NetHeld
with_fractions net ys = record net { columns = record net.columns { fraction = ys } }

-- what is held, with other ends and load steps of the links, and other turns of the nodes
abbrev pub with_ends : NetHeld → List ℕ → List ℕ → List ℕ → List ℕ → NetHeld
with_ends net fs ts ls turn = record net { columns = record net.columns { from = fs; to = ts; load = ls }; order = record net.order { turn = turn } }

-- an accepted sheet, and its nodes in an order in which every flowing link leads to an earlier one
pub record Ordered (h : SheetHeld) (net : NetHeld) (line : List ℕ) : Type 0 where
  pub held : NetIn h net line
  pub order : Order h.head.nodes h.links net.columns.from net.columns.to net.columns.fraction net.order.order net.order.turn

-- the code does not look at the links' ends, their load steps and the nodes' turns: there are such
pub record Given (h : SheetHeld) (net : NetHeld) (line : List ℕ) : Type 0 where
  pub from : List ℕ
  pub to : List ℕ
  pub load : List ℕ
  pub turn : List ℕ
  pub ordered : Ordered h (with_ends net from to load turn) line

-- every node has told all its neighbours the calculation's word
pub record AllTold (h : SheetHeld) (net : NetHeld) (inbox : List ℕ) : Type 0 where
  pub small : SmallInbox inbox
  pub right : Right (net_sheet h net) (state_said h.links net.opposite inbox)
  pub done : delivered (state_said h.links net.opposite inbox) ≡ h.links

-- the fractions ys are those of the next sheet
abbrev pub Calculated : SheetHeld → NetHeld → List ℕ → Type 0
Calculated h net ys = net_sheet h (with_fractions net ys) ≡ next (net_sheet h net)

-- all told, and calculated, whatever the ends, the load steps and the turns are
module _ (h : SheetHeld) (net : NetHeld) (line : List ℕ) where
  abbrev pub ToldFor : List ℕ → Type 0
  ToldFor inbox = (fs ts ls turn : List ℕ) → Ordered h (with_ends net fs ts ls turn) line → AllTold h (with_ends net fs ts ls turn) inbox

  abbrev pub CalculatedFor : List ℕ → Type 0
  CalculatedFor ys = (fs ts ls turn : List ℕ) → Ordered h (with_ends net fs ts ls turn) line → Calculated h (with_ends net fs ts ls turn) ys

-- What is known of a sheet once it is opened: Check's verdict, and on acceptance all that the later layers need.
use Rattle.std.specs.Prelude.{ℕ, ◌+◌, ◌*◌, ◌≤◌, ◌<◌, ◌≡◌, List, length, get_or, Option, Some, None, Result, Ok, Err, IfOk}
use Rattle.answers.specs.Answers.{number_of, place_of}
use Rattle.answers.specs.declared.Fault.{Fault}
use Rattle.answers.specs.declared.Refusal.{Refusal}
use Rattle.rules.specs.Sheet.{Sheet}
use Rattle.rules.specs.Bytes.{bytes}
use Rattle.rules.specs.Judge.{Verdict, refused, accepted, judge}
use Rattle.rules.specs.Check.{check}
use Rattle.sheet.specs.declared.SheetHeld.{SheetHeld}
use Rattle.sheet.specs.declared.Columns.{Columns}
use Rattle.sheet.specs.Held.{sheet_in}
use Rattle.links.specs.Opposites.{Opposites}
use Rattle.network.specs.Rows.{Sorted, Rows, Flow}
use Rattle.order.specs.Order.{Order}
use Rattle.node.specs.declared.NetHeld.{NetHeld}
use Rattle.node.specs.Net.{Graph}

-- a fault at a place, if there is one, as a refusal
abbrev pub refusing : Fault → Option ℕ → Result Unit Refusal
refusing f None = Ok tt
refusing f (Some p) = Err (record { fault = f; place = p })

-- the verdict that the answer and the columns say
abbrev pub opened_said : Result SheetHeld Refusal → Columns → Verdict
opened_said (Err r) c = refused (number_of r) (place_of r)
opened_said (Ok h) c = accepted (sheet_in h c)

-- what the type says of the storage
pub record Sized (net : NetHeld) : Type 0 where
  pub traffic : length net.columns.traffic ≡ 64
  pub froms : length net.columns.from ≡ 512
  pub tos : length net.columns.to ≡ 512
  pub loads : length net.columns.load ≡ 512
  pub fractions : length net.columns.fraction ≡ 512
  pub starts : length net.rows.starts ≡ 65
  pub flow-starts : length net.rows.flow_starts ≡ 65
  pub flow : length net.rows.flow ≡ 512
  pub opposites : length net.opposite ≡ 512
  pub order : length net.order.order ≡ 64
  pub turns : length net.order.turn ≡ 64

-- rows, flowing places, opposites and an order of the nodes
pub record Worked (h : SheetHeld) (net : NetHeld) : Type 0 where
  pub rows : Rows h.head.nodes h.links net.columns.from net.rows.starts
  pub flow : Flow h.head.nodes net.rows.starts net.columns.fraction net.rows.flow_starts net.rows.flow
  pub opposites : Opposites h.links net.columns.from net.columns.to net.opposite
  pub sorted : Order h.head.nodes h.links net.columns.from net.columns.to net.columns.fraction net.order.order net.order.turn

-- what 1 to 5 leave of the columns
pub record JudgeAsked (h : SheetHeld) (c : Columns) : Type 0 where
  pub few : h.head.nodes ≤ 64
  pub many : h.links ≤ 512
  pub sorted : Sorted h.head.nodes h.links c.from
  pub to_in : (j : ℕ) → j < h.links → get_or c.to j 0 < h.head.nodes

-- the verdict on a sheet that was read
abbrev pub verdict_said : Result Unit Refusal → Sheet → Verdict
verdict_said (Err r) s = refused (number_of r) (place_of r)
verdict_said (Ok u) s = accepted s

-- 6, 7 and 8 are judged of the sheet that was read
pub record Judged (r : Result Unit Refusal) (h : SheetHeld) (net : NetHeld) : Type 0 where
  pub said : verdict_said r (sheet_in h net.columns) ≡ judge (sheet_in h net.columns)
  pub worked : IfOk r (λ _. Worked h net)

-- Check's verdict, and on acceptance all that is worked out of the sheet
pub record ReadJudged (r : Result SheetHeld Refusal) (b : List ℕ) (net : NetHeld) : Type 0 where
  pub said : opened_said r net.columns ≡ check b
  pub worked : IfOk r (λ h. Worked h net)

-- an accepted sheet, with all that is worked out of it
pub record Admitted (h : SheetHeld) (net : NetHeld) : Type 0 where
  pub graph : Graph h net.columns.traffic net.columns.from net.columns.to net.columns.load net.columns.fraction net.rows.starts net.opposite
  pub flow : Flow h.head.nodes net.rows.starts net.columns.fraction net.rows.flow_starts net.rows.flow
  pub sorted : Order h.head.nodes h.links net.columns.from net.columns.to net.columns.fraction net.order.order net.order.turn
  pub sizes : Sized net

-- and b is its bytes
pub record Ready (h : SheetHeld) (b : List ℕ) (net : NetHeld) : Type 0 where
  pub held : Admitted h net
  pub stand : bytes (sheet_in h net.columns) ≡ b
  pub long : length b ≡ 8 + 6 * h.head.nodes + 8 * h.links

-- what was lent keeps its length on a refusal too
pub record OpenedGiven (r : Result SheetHeld Refusal) (b : List ℕ) (net : NetHeld) : Type 0 where
  pub said : opened_said r net.columns ≡ check b
  pub ready : IfOk r (λ h. Ready h b net)
  pub sizes : Sized net

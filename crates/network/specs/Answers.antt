-- What the code answers.
use Rattle.std.specs.Prelude.{ℕ, ◌≤◌, ◌<◌, ◌≡◌, cond, not, List, length, get_or, take, eqb}
use Rattle.rules.specs.Lists.{total, below, Place, nowhere, at, first, flowing}
use Rattle.rules.specs.Sheet.{whole}
use Rattle.rules.specs.Judge.{adds}
use Rattle.rules.specs.Check.{sheet_with}
use Rattle.sheet.specs.Held.{head_said, held, found_said}
use Rattle.sheet.specs.declared.HeadHeld.{HeadHeld}
use Rattle.sheet.specs.declared.SheetHeld.{SheetHeld}
use Rattle.sheet.specs.declared.Columns.{Columns}
use Rattle.std.specs.Prelude.{Option}
use Rattle.network.specs.Rows.{part, Rows, Flow}
use Rattle.network.specs.declared.RowHeld.{RowHeld}
use Rattle.network.specs.declared.RowsHeld.{RowsHeld}

-- ---- rows
-- node i's row from its start up to link k: what it adds up to, and its flow, which stands from flow_start up to m
pub record RowTo (i start flow_start count : ℕ) (fs xs before : List ℕ) (k m sum : ℕ) (ps : List ℕ) : Type 0 where
  pub rise : start ≤ k
  pub top : k ≤ count
  pub inside : (j : ℕ) → start ≤ j → j < k → get_or fs j 0 ≡ i
  pub sums : sum ≡ total (λ x. x) (part xs start k)
  pub flow_rise : flow_start ≤ m
  pub flow_top : m ≤ k
  pub places : part ps flow_start m ≡ flowing (part xs start k)
  pub kept : take flow_start ps ≡ take flow_start before
  pub size : length ps ≡ 512

-- the whole row
pub record RowSurveyed (r : RowHeld) (i start flow_start count : ℕ) (fs xs before ps : List ℕ) : Type 0 where
  pub row : RowTo i start flow_start count fs xs before r.end r.filled r.sum.0 ps
  pub stops : r.end < count → get_or fs r.end 0 ≡ i → ⊥

-- the first of two places, if there is one
abbrev pub or_else : Place → Place → Place
or_else nowhere q = q
or_else (at k) q = at k

-- node i, where the sum of its row is wrong
abbrev pub wrong_sum : ℕ → ℕ → ℕ → Place
wrong_sum s i d = cond (eqb s (cond (eqb i d) 0 whole)) nowhere (at i)

-- all rows, and 7's place: the other lists play no part in it
pub record Surveyed (r : Option ℕ) (h : HeadHeld) (count : ℕ) (fs xs ss gs ps : List ℕ) : Type 0 where
  pub rows : Rows h.nodes count fs ss
  pub flow : Flow h.nodes ss xs gs ps
  pub said : (traffic ts ls : List ℕ) → found_said r ≡ first (λ i. not (adds (sheet_with (head_said h) traffic (held count fs ts ls xs)) i)) (below h.nodes)
  pub sizes : (length ss ≡ 65) × (length gs ≡ 65) × (length ps ≡ 512)

-- the same of a sheet's columns and the rows that were written
abbrev pub SurveyedIn : Option ℕ → SheetHeld → Columns → RowsHeld → Type 0
SurveyedIn r h columns rows = Surveyed r h.head h.links columns.from columns.fraction rows.starts rows.flow_starts rows.flow

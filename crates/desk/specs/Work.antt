-- How the code works a row out: place by place, without looking at the far nodes.
use Rattle.std.specs.Prelude.{ℕ, ◌+◌, ◌-◌, ◌*◌, ◌/◌, ◌≤◌, ◌<◌, ◌≡◌, cond, ◌&&◌, List, [], ◌∷◌, length, get_or, set, leb, eqb}
use Rattle.rules.specs.Lists.{total}
use Rattle.rules.specs.Sheet.{whole, largest_delay, largest_stored}
use Rattle.rules.specs.Desk.{Way, mark_told, cost, cut_by}
use Rattle.desk.specs.Ways.{way_of}
use Rattle.desk.specs.declared.way.WayHeld.{WayHeld}
use Rattle.desk.specs.declared.row.Choice.{Choice}

-- what the code's value says, for a way to far node 0: no leaf asks for the far node
abbrev pub way_said : WayHeld → Way
way_said w = way_of 0 w.line.0 w.fraction.0 w.word.0

-- the way at place p of lines, fractions and words
abbrev pub way_at : List ℕ → List ℕ → List ℕ → ℕ → Way
way_at ls xs ks p = way_of 0 (get_or ls p 0) (get_or xs p 0) (get_or ks p 0)

-- at place p stand a line, a fraction and a word, each within what the rules allow
pub record Held (ls xs ks : List ℕ) (p : ℕ) : Type 0 where
  pub lines : length ls ≡ length xs
  pub words : length ks ≡ length xs
  pub inside : p < length xs
  pub line_small : get_or ls p 0 ≤ 1048576
  pub fraction_small : get_or xs p 0 ≤ whole
  pub told_small : get_or ks p 0 / 4 ≤ largest_stored

-- more than any candidate costs
abbrev pub beyond : ℕ
beyond = 2 * largest_delay

-- added to the cost of what is no candidate
abbrev pub barrier : Way → ℕ
barrier w = cond (eqb w.fraction 0 && mark_told w.word) beyond 0

-- cost, place
abbrev pub choice : ℕ → ℕ → Choice
choice c p = record { cost = record { 0 = c }; place = p }

abbrev pub choice_at : List ℕ → List ℕ → List ℕ → ℕ → Choice
choice_at ls xs ks p = choice (cost (way_at ls xs ks p) + barrier (way_at ls xs ks p)) p

abbrev pub lower : Choice → Choice → Choice
lower a b = cond (leb a.cost.0 b.cost.0) a b

-- the first of the least cost; beyond every candidate's where there is none
abbrev pub lowest : (ℕ → Choice) → List ℕ → Choice
lowest f [] = choice beyond 0
lowest f (p ∷ ps) = lower (f p) (lowest f ps)

-- what is cut at a place, the best cost being c; the best's own cut too, which it gains back
abbrev pub cut_at : ℕ → ℕ → ℕ → List ℕ → List ℕ → List ℕ → ℕ → ℕ
cut_at s t c ls xs ks p = cut_by s t (cost (way_at ls xs ks p) - c) (get_or xs p 0)

-- a row after f was cut at each of some places
abbrev pub shorn : (ℕ → ℕ) → List ℕ → List ℕ → List ℕ
shorn f xs [] = xs
shorn f xs (p ∷ ps) = set (shorn f xs ps) p (get_or xs p 0 - f p)

-- what a run of cuts leaves: the row, and all that was cut, g
pub record Shorn (f : ℕ → ℕ) (xs ps ys : List ℕ) (g : ℕ) : Type 0 where
  pub left : ys ≡ shorn f xs ps
  pub gain : g ≡ total f ps
  pub small : g ≤ whole

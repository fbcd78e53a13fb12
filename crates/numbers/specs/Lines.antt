-- The table of 256 marginal delays, and the delays of a row of lines.
use Rattle.std.specs.Prelude.{ℕ, ◌≤◌, ◌<◌, ◌≡◌, List, length, get_or}
use Rattle.rules.specs.Sheet.{line_delay}

-- 256 entries, each the delay of its load step
pub record Table (t : List ℕ) : Type 0 where
  pub long : length t ≡ 256
  pub right : (k : ℕ) → k < 256 → get_or t k 0 ≡ line_delay k

-- lines as they were, but that each load step has its delay at its place
pub record LinesOf (loads before lines : List ℕ) : Type 0 where
  pub long : length lines ≡ length before
  pub right : (j : ℕ) → j < length loads → get_or lines j 0 ≡ line_delay (get_or loads j 0)
  pub others : (j : ℕ) → length loads ≤ j → get_or lines j 0 ≡ get_or before j 0

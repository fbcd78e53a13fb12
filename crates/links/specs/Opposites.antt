-- Each link's opposite, and what is answered about it.
use Rattle.std.specs.Prelude.{ℕ, ◌≤◌, ◌<◌, ◌≡◌, Bool, not, ◌&&◌, List, length, get_or, eqb}
use Rattle.rules.specs.Lists.{nowhere, first}
use Rattle.rules.specs.Judge.{paired}
use Rattle.sheet.specs.Held.{held, found_said}
use Rattle.std.specs.Prelude.{Option}

-- the first of these links rise by from
abbrev pub RisesTo : ℕ → List ℕ → Type 0
RisesTo count fs = (j k : ℕ) → j ≤ k → k < count → get_or fs j 0 ≤ get_or fs k 0

-- the opposite of link j is link os[j]
pub record Opposites (count : ℕ) (fs ts os : List ℕ) : Type 0 where
  pub low : (j : ℕ) → j < count → get_or os j 0 < count
  pub from : (j : ℕ) → j < count → get_or fs (get_or os j 0) 0 ≡ get_or ts j 0
  pub to : (j : ℕ) → j < count → get_or ts (get_or os j 0) 0 ≡ get_or fs j 0

-- link i runs from node a to node z
abbrev pub runs : List ℕ → List ℕ → ℕ → ℕ → ℕ → Bool
runs fs ts a z i = eqb (get_or fs i 0) a && eqb (get_or ts i 0) z

-- 6's place, in which the other lists play no part; where there is none, each link's opposite is told
pub record Paired (r : Option ℕ) (count : ℕ) (fs ts os : List ℕ) : Type 0 where
  pub said : (ls xs : List ℕ) → found_said r ≡ first (λ l. not (paired (held count fs ts ls xs) l)) (held count fs ts ls xs)
  pub told : found_said r ≡ nowhere → Opposites count fs ts os
  pub size : length os ≡ 512

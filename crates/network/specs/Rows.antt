-- The links of a sheet by node: where each row stands, which of its places flow, and each link's opposite.
use Rattle.std.specs.Prelude.{ℕ, ◌+◌, ◌-◌, ◌≤◌, ◌<◌, ◌≡◌, List, get_or, take, drop, replicate}
use Rattle.rules.specs.Lists.{flowing}
use Rattle.links.specs.Opposites.{RisesTo}
use Rattle.network.specs.declared.RowsHeld.{RowsHeld}

-- what stands from a up to e
abbrev pub part : List ℕ → ℕ → ℕ → List ℕ
part xs a e = take (e - a) (drop a xs)

-- all 0: no row is surveyed yet
unfoldable pub no_rows : RowsHeld
no_rows = record { starts = replicate 65 0; flow_starts = replicate 65 0; flow = replicate 512 0 }

-- links sorted by from, which is below n
pub record Sorted (n count : ℕ) (fs : List ℕ) : Type 0 where
  pub low : (j : ℕ) → j < count → get_or fs j 0 < n
  pub rises : RisesTo count fs

-- node i's row is the links from ss[i] up to ss[i+1]
pub record Rows (n count : ℕ) (fs ss : List ℕ) : Type 0 where
  pub rise : (i : ℕ) → i < n → get_or ss i 0 ≤ get_or ss (i + 1) 0
  pub top : (i : ℕ) → i ≤ n → get_or ss i 0 ≤ count
  pub inside : (i k : ℕ) → i < n → get_or ss i 0 ≤ k → k < get_or ss (i + 1) 0 → get_or fs k 0 ≡ i
  pub found : (k : ℕ) → k < count → (get_or ss (get_or fs k 0) 0 ≤ k) × (k < get_or ss (get_or fs k 0 + 1) 0)

-- the flowing places of node i's row, counted from the row's start, stand in ps from gs[i] up to gs[i+1]
pub record Flow (n : ℕ) (ss xs gs ps : List ℕ) : Type 0 where
  pub rise : (i : ℕ) → i < n → get_or gs i 0 ≤ get_or gs (i + 1) 0
  pub top : (i : ℕ) → i ≤ n → get_or gs i 0 ≤ 512
  pub places : (i : ℕ) → i < n → part ps (get_or gs i 0) (get_or gs (i + 1) 0) ≡ flowing (part xs (get_or ss i 0) (get_or ss (i + 1) 0))

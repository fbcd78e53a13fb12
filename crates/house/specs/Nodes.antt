-- A set of nodes as one number: node k is in m when m's bit k is 1.
use Rattle.std.specs.Prelude.{ℕ, ◌<◌, ◌≡◌, ◌≢◌}
use Rattle.std.specs.Int.{bit_at}

-- r is m with node i
pub record With (m i r : ℕ) : Type 0 where
  pub here : bit_at r i ≡ 1
  pub elsewhere : (k : ℕ) → k ≢ i → bit_at r k ≡ bit_at m k

-- r is m without node i
pub record Without (m i r : ℕ) : Type 0 where
  pub here : bit_at r i ≡ 0
  pub elsewhere : (k : ℕ) → k ≢ i → bit_at r k ≡ bit_at m k

-- i is the lowest node of m, or 64
pub record FirstIn (m i : ℕ) : Type 0 where
  pub before : (k : ℕ) → k < i → bit_at m k ≡ 0
  pub here : i < 64 → bit_at m i ≡ 1

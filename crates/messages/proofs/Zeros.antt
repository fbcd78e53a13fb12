-- A list of zeros has 0 at every place, behind its end too.
use Prim.Native.Nat.{ℕ, zero, suc}
use mathlib.Core.Path.{◌≡◌, refl}
use lib.ListN.{get_or, replicate}
use Rattle.node.specs.Net.{Empty}

zero_at : (n k : ℕ) → get_or {A = ℕ} (replicate n 0) k 0 ≡ 0
zero_at zero k = refl
zero_at (suc n) zero = refl
zero_at (suc n) (suc k) = zero_at n k

pub empty_zeros : Empty (replicate 512 0)
empty_zeros = record { size = refl; silence = zero_at 512 }

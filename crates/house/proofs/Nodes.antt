-- Sets of nodes as one word.
use Prim.Native.Nat.{ℕ, zero, suc, ◌*◌, ◌%◌, ◌^◌, ◌<◌}
use native.Mathlib.Omega.{arith}
use native.Mathlib.Decide.{ℕ_discrete, dec_lt}
use mathlib.Core.Path.{◌≡◌, ap, ◌∙◌}
use mathlib.Core.Logic.{◌≢◌}
use lib.Bits.{bit_or, bit_and}
use mir.Syntax.{w64}
use Rattle.std.specs.Int.{bit_at, bit_not, trailing_zeros}
use Rattle.std.specs.Int.Count.{trailing_of_zero}
use Rattle.std.proofs.lemmas.Nat.Bits.{bit_at-zero, bit_at_and, bit_at_above, bit_at-trailing_zeros, bit_at_set_same, bit_at_set_other, bit_at_clear_same, bit_at_clear_other}
use Rattle.house.specs.Nodes.{With, Without, FirstIn}

pub with_bit : {m i : ℕ} → i < 64 → With m i (bit_or m (1 * 2 ^ i % 2 ^ 64))
with_bit {m} {i} low = record { here = bit_at_set_same w64 m i low; elsewhere = bit_at_set_other w64 m i low }

pub without_bit : {m i : ℕ} → m < 2 ^ 64 → i < 64 → Without m i (bit_and m (bit_not w64 (1 * 2 ^ i % 2 ^ 64)))
without_bit {m} {i} word low = record { here = bit_at_clear_same w64 m i low; elsewhere = λ k ne. go k ne (dec_lt k 64) }
  where
    go : (k : ℕ) → k ≢ i → Dec (k < 64) → bit_at (bit_and m (bit_not w64 (1 * 2 ^ i % 2 ^ 64))) k ≡ bit_at m k
    go k ne (yes h) = bit_at_clear_other w64 m i low k h ne
    go k ne (no h) =
        let none : bit_at m k ≡ 0 = bit_at_above m 64 k word (omega arith) in
        bit_at_and m (bit_not w64 (1 * 2 ^ i % 2 ^ 64)) k ∙ omega (arith, none)

-- the lowest node
pub first_in : (m : ℕ) → m < 2 ^ 64 → FirstIn m (trailing_zeros w64 m)
first_in zero word = record { before = λ k h. bit_at-zero k; here = λ h. absurd (omega (arith, trailing_of_zero 64)) }
first_in (suc m) word = let found = bit_at-trailing_zeros w64 (suc m) (omega arith) word in record { before = found.2; here = λ h. found.1 }

-- without it, the next is higher
pub next_higher : {m i r i' : ℕ} → FirstIn m i → i < 64 → Without m i r → FirstIn r i' → i < i'
next_higher {m} {i} {r} {i'} was low less now = go (dec_lt i i')
  where
    go : Dec (i < i') → i < i'
    go (yes h) = h
    go (no h) = absurd (same (ℕ_discrete i' i))
      where
        set : bit_at r i' ≡ 1
        set = now.here (omega arith)

        same : Dec (i' ≡ i) → ⊥
        same (yes e) = omega (arith, ap (bit_at r) e, less.here, set)
        same (no ne) = omega (arith, less.elsewhere i' ne, was.before i' (omega (arith, ne)), set)

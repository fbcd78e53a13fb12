-- Line delays written one after the other, and the table that they are read from.
use Prim.Native.Nat.{ℕ, ◌+◌, ◌≤◌, ◌<◌}
use native.Mathlib.Omega.{arith}
use native.Mathlib.Decide.{ℕ_discrete}
use mathlib.Core.Path.{◌≡◌, refl, ◌∙◌}
use mathlib.Core.List.{List, map}
use lib.ListN.{length, get_or, set, length-set}
use lib.Seq.{get_or-set_same, get_or-set_other}
use Rattle.rules.specs.Lists.{below}
use Rattle.rules.specs.Sheet.{line_delay}
use Rattle.rules.proofs.Lists.{table_at}
use Rattle.numbers.specs.Lines.{Table, LinesOf}

-- the rule, computed once over the whole table
pub table-right : Table (map line_delay (below 256))
table-right = record { long = refl; right = table_at line_delay 0 256 }

-- the first k are written
pub record Written (k : ℕ) (loads before lines : List ℕ) : Type 0 where
  pub long : length lines ≡ length before
  pub right : (j : ℕ) → j < k → get_or lines j 0 ≡ line_delay (get_or loads j 0)
  pub others : (j : ℕ) → k ≤ j → get_or lines j 0 ≡ get_or before j 0

pub written_none : (loads before : List ℕ) → Written 0 loads before before
written_none loads before = record { long = refl; right = λ j h. absurd (omega arith); others = λ j h. refl }

pub written-more : {k : ℕ} {loads before lines : List ℕ} (d : ℕ) → Written k loads before lines → k < length lines → d ≡ line_delay (get_or loads k 0)
    → Written (k + 1) loads before (set lines k d)
written-more {k} {loads} {before} {lines} d w h e = record {
  long = length-set lines k d ∙ w.long;
  right = λ j a. go j a (ℕ_discrete j k);
  others = λ j a. get_or-set_other lines k j d 0 (λ q. omega arith) ∙ w.others j (omega arith);
}
  where
    go : (j : ℕ) → j < k + 1 → Dec (j ≡ k) → get_or (set lines k d) j 0 ≡ line_delay (get_or loads j 0)
    go j a (yes q) = rw q (get_or-set_same lines k d 0 h ∙ e)
    go j a (no n) = get_or-set_other lines k j d 0 n ∙ w.right j (omega arith)

pub written_all : {k : ℕ} {loads before lines : List ℕ} → Written k loads before lines → k ≡ length loads → LinesOf loads before lines
written_all w e = record { long = w.long; right = λ j h. w.right j (omega arith); others = λ j h. w.others j (omega arith) }

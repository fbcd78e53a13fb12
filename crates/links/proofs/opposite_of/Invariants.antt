use Prim.Native.Nat.{◌+◌}
use mathlib.Core.Path.{◌≡◌}
use lib.ListN.{length}
use Rattle.rules.proofs.First.{Searched}
use Rattle.links.specs.List.{row_start, turns_at}
use Rattle.links.proofs.opposite_of.Given as goal

abbrev pub invariant-loop-k : goal.invariant-loop-k
invariant-loop-k l = record { searched : Searched (turns_at l.links l.j) (length l.links) l.k; ends : l.k-end ≡ row_start (l.l.to + 1) l.links }

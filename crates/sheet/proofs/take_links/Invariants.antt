use Rattle.std.proofs.Common.{◌≡◌}
use Rattle.sheet.specs.Held.{Lent}
use Rattle.sheet.proofs.Links.{LinksSoFar}
use Rattle.sheet.proofs.take_links.Given as goal

abbrev pub invariant-loop-k : goal.invariant-loop-k
invariant-loop-k l = record { taken : LinksSoFar l.b l.start l.n l.columns l.k l.o l.least; traffic : l.columns.traffic ≡ l.initial.columns.traffic; lent : Lent l.columns }

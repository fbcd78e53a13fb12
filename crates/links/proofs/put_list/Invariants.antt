use Rattle.links.specs.List.{ListedIn}
use Rattle.links.proofs.put_list.Given as goal

abbrev pub invariant-loop-j : goal.invariant-loop-j
invariant-loop-j l = ListedIn l.j l.columns l.links

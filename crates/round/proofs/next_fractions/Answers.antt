use native.Mathlib.Omega.{arith}
use borrow.Author.Rules.{rules}
use Rattle.round.proofs.Telling.{taking_ready, taking_all}
use Rattle.round.proofs.next_fractions.Goals as goal

pub take_rows-requires-clause-rows : goal.take_rows-requires-clause-rows
take_rows-requires-clause-rows c = taking_ready c.requires.given c.tell_all.ensures (search rules) (omega arith)

pub returns-clause-next : goal.returns-clause-next
returns-clause-next c = taking_all c.requires.given c.tell_all.ensures (search rules) c.take_rows.ensures

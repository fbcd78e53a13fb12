use borrow.Author.Rules.{rules}
use native.Mathlib.Omega.{arith}
use Rattle.messages.proofs.Beginning.{beginning_more, beginning_all}
use Rattle.messages.proofs.begin.Goals as goal

pub loop-i-preserved : goal.loop-i-preserved
loop-i-preserved c = beginning_more c.loop-i.invariant (omega (arith, c.loop-i-test.true, c.from-i-end.ensures, c.requires.few)) c.row_quiet-q.ensures
    (search rules)

pub returns : goal.returns
returns c = beginning_all c.loop-i.invariant (omega (arith, c.loop-i-test.false, c.loop-i.auto.i-end, c.from-i-end.ensures))

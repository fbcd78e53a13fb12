use borrow.Author.Rules.{rules}
use mathlib.Core.Path.{sym}
use Rattle.std.proofs.Common.{arith}
use Rattle.std.proofs.lemmas.Grind.{common_steps}
use Rattle.sheet.proofs.Nodes.{so_far_wrong, so_far_more, so_far_all}
use Rattle.sheet.proofs.read_nodes.Goals as goal

pub returns-in_err-t : goal.returns-in_err-t
returns-in_err-t c = let h = so_far_wrong c.loop-i.invariant c.loop-i-test.true (sym c.in_err-t.ensures) in grind (arith, common_steps, h)

pub loop-i-preserved : goal.loop-i-preserved
loop-i-preserved c = rw c.from.ensures (so_far_more c.loop-i.invariant (search rules) c.loop-i-test.true (sym c.in_ok-t.ensures))

pub returns : goal.returns
returns c = so_far_all c.loop-i.invariant c.loop-i-test.false

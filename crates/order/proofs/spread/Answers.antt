use native.Mathlib.Omega.{arith}
use Rattle.order.proofs.Spreading.{spread_taken, spread_left}
use Rattle.order.proofs.spread.Goals as goal
use Rattle.order.proofs.spread.Goals.{then-leads_on, else-leads_on}

pub loop-j-preserved : goal.loop-j-preserved
loop-j-preserved c =
    let z = (c.requires.ends c.loop-j.j c.loop-j-test.true).1 in
    let told = rw (c.from-z.ensures, c.from.ensures) at c.leads_on.ensures in
    elim c.if-leads_on.branch [
      | then-leads_on w ↦
          spread_taken c.loop-j.invariant told c.loop-j-test.true (omega (arith, z, c.loop-j.invariant.size)) w.if-leads_on.true (rw c.from-z.ensures at w.marks-is) w.grew-is
      | else-leads_on w ↦ spread_left c.loop-j.invariant told w.if-leads_on.false w.marks-is w.grew-is
    ]

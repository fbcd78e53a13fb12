use native.Mathlib.Omega.{arith}
use mathlib.Core.Path.{◌∙◌}
use Rattle.house.proofs.Nodes.{next_higher}
use Rattle.house.proofs.Searching.{row-links, rows_more, rows-here, rows_all}
use Rattle.house.proofs.find_lowest.Goals as goal

pub next_in_row-j-requires : goal.next_in_row-j-requires
next_in_row-j-requires c = rw c.from-end.ensures (row-links c.requires {i = c.loop-i.i} (omega arith))

pub returns-then-j-end : goal.returns-then-j-end
returns-then-j-end c = rows-here c.requires c.loop-i.invariant (omega arith) (c.from.ensures ∙ c.max-start.ensures) (rw c.from-end.ensures at c.next_in_row-j.ensures) (omega arith) (omega arith)

pub loop-i-smaller : goal.loop-i-smaller
loop-i-smaller c = omega (arith, next_higher c.loop-i.invariant.lowest (omega arith) c.shut.ensures.less c.first_live-i-in-loop-i.ensures)

pub loop-i-preserved : goal.loop-i-preserved
loop-i-preserved c = rows_more c.requires c.loop-i.invariant (omega arith) (c.from.ensures ∙ c.max-start.ensures) (rw c.from-end.ensures at c.next_in_row-j.ensures) (omega arith) (omega arith) c.shut.ensures.same c.shut.ensures.less c.first_live-i-in-loop-i.ensures

pub returns : goal.returns
returns c = rows_all c.requires c.loop-i.invariant (omega arith)

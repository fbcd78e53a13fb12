use Rattle.node.proofs.Rows.{taken_row, taken_more}
use Rattle.node.proofs.take_rows.Goals as goal

pub take_row-requires-clause-row : goal.take_row-requires-clause-row
take_row-requires-clause-row c = taken_row c.requires.rows c.loop-i.invariant c.loop-i-test.true

pub loop-i-preserved : goal.loop-i-preserved
loop-i-preserved c = taken_more c.requires.rows c.loop-i.invariant c.loop-i-test.true _ (rw c.from.ensures at c.take_row.ensures)

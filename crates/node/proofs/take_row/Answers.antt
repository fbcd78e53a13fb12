use Rattle.node.proofs.Rows.{row_taken}
use Rattle.node.proofs.take_row.Goals as goal

pub returns : goal.returns
returns c = row_taken c.requires.row _ _ _ c.part_at-p.ensures.start c.part_at-p.ensures.end c.new_row.ensures

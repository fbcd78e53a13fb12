use Rattle.node.proofs.Rows.{tells}
use Rattle.node.proofs.message_of.Goals as goal

pub returns : goal.returns
returns c = tells c.requires.row _ _ _ c.part_at-p.ensures.start c.part_at-p.ensures.end c.row_message.ensures.said c.row_message.ensures.small

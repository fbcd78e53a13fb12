use Rattle.sheet.proofs.Writing.{filled_written}
use Rattle.sheet.proofs.write_fractions.Goals as goal

pub returns : goal.returns
returns c = filled_written c.requires c.from.ensures c.copy_front.ensures c.put_fractions.ensures

use Rattle.std.proofs.Common.{rules}
use Rattle.sheet.proofs.Writing.{copying_none, copying_more, copying_all}
use Rattle.sheet.proofs.copy_front.Goals as goal

pub loop-i-init : goal.loop-i-init
loop-i-init c = copying_none

pub loop-i-preserved : goal.loop-i-preserved
loop-i-preserved c = copying_more c.loop-i.invariant (search rules) (search rules) c.requires

pub returns : goal.returns
returns c = copying_all c.loop-i.invariant (search rules)

use Rattle.sheet.proofs.Writing.{filling_more}
use Rattle.sheet.proofs.put_fractions.Goals as goal

pub loop-j-preserved : goal.loop-j-preserved
loop-j-preserved c = filling_more c.loop-j.invariant c.loop-j-test.true c.put_word.ensures

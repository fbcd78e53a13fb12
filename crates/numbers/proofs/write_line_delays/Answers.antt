use Rattle.std.proofs.Common.{rules}
use Rattle.numbers.proofs.Lines.{written_none, written-more, written_all}
use Rattle.numbers.proofs.write_line_delays.Goals as goal

pub loop-j-init : goal.loop-j-init
loop-j-init c = written_none _ _

pub loop-j-preserved : goal.loop-j-preserved
loop-j-preserved c = written-more _ c.loop-j.invariant (search rules) (search rules)

pub returns : goal.returns
returns c = written_all c.loop-j.invariant (search rules)

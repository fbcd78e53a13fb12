use Rattle.std.proofs.Common.{rules}
use Rattle.numbers.proofs.Lines.{table-right}
use Rattle.numbers.proofs.line_delay.Goals as goal

pub returns : goal.returns
returns c = table-right.right c.args.load (search rules)

use native.Mathlib.Omega.{arith}
use Rattle.network.proofs.Surveying.{surveying_more, surveying_all}
use Rattle.network.proofs.survey.Goals as goal

pub loop-i-preserved : goal.loop-i-preserved
loop-i-preserved c =
    rw c.from-next.ensures (surveying_more c.loop-i.invariant c.wrong_sum.result c.loop-i-test.true c.requires.nodes c.requires.few (omega arith) c.requires.sorted c.survey_row-row.ensures c.wrong_sum.ensures c.or-wrong.ensures)

pub returns : goal.returns
returns c = surveying_all c.args.h.head c.loop-i.invariant c.loop-i-test.false c.requires.sorted

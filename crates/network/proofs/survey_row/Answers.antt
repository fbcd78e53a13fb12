use native.Mathlib.Omega.{arith}
use Rattle.network.proofs.Surveying.{row_more}
use Rattle.network.proofs.survey_row.Goals as goal

pub loop-k-preserved : goal.loop-k-preserved
loop-k-preserved c = record {
  row = row_more c.loop-k.invariant.row c.loop-k-test.true c.requires.few (omega arith) c.if-from-k.true c.from-sum.ensures c.from-m.ensures;
  small = omega arith;
}

use Prim.Native.Nat.{◌-◌, ◌*◌, ◌≤◌}
use Rattle.network.specs.Answers.{RowTo}
use Rattle.network.proofs.survey_row.Given as goal

abbrev pub invariant-loop-k : goal.invariant-loop-k
invariant-loop-k l = record {
  row : RowTo l.i l.start l.filled l.count l.from l.fraction l.initial.flow l.k l.m l.sum l.flow;
  small : l.sum ≤ l.k * 4294967296;
}

abbrev pub decreases-loop-k : goal.decreases-loop-k
decreases-loop-k l = l.count - l.k

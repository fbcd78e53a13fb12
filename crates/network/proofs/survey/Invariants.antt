use Rattle.network.proofs.Surveying.{Surveying}
use Rattle.network.proofs.survey.Given as goal

abbrev pub invariant-loop-i : goal.invariant-loop-i
invariant-loop-i l =
    Surveying l.h.head.nodes l.h.head.destination l.h.links l.columns.from l.columns.fraction l.i l.k l.m l.wrong l.rows.starts l.rows.flow_starts l.rows.flow

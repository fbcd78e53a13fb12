use Rattle.false_states.proofs.False.{plate-row}
use Rattle.false_states.proofs.row_on_plate_a.Goals as goal

pub returns : goal.returns
returns c = plate-row c.work_out.ensures

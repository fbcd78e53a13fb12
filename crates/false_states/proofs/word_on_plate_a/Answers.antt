use Rattle.false_states.proofs.False.{plate-word}
use Rattle.false_states.proofs.word_on_plate_a.Goals as goal

pub returns : goal.returns
returns c = plate-word c.word_in.ensures c.work_out-f.ensures

use Rattle.play.proofs.Playing.{ended_short, ended_all}
use Rattle.play.proofs.end_play.Goals as goal

pub returns-then-js-h : goal.returns-then-js-h
returns-then-js-h c = ended_short c.if-js-h.true

pub returns : goal.returns
returns c = ended_all c.if-js-h.false c.take_rows.ensures c.write_fractions.ensures

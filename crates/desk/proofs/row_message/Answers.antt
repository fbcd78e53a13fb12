use Rattle.desk.proofs.Places.{message_is}
use Rattle.desk.proofs.row_message.Goals as goal

pub returns-clause-said : goal.returns-clause-said
returns-clause-said c = λ fs e. message_is _ _ _ fs e c.args.s.0 c.args.t.0 c.requires.keeps.flow c.delay-delay.ensures.value c.is_blocked.ensures

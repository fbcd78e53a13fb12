use Rattle.admit.proofs.Judging.{judge-asked, read_judged}
use borrow.Author.Rules.{rules}
use Rattle.admit.proofs.read_and_judge.Goals as goal

pub judge_whole-requires : goal.judge_whole-requires
judge_whole-requires c = judge-asked c.args.b.now (search rules) c.read_alone.ensures.given c.in_ok-h.was

pub returns : goal.returns
returns c = read_judged c.args.b.now (search rules) c.read_alone.ensures.given c.in_ok-h.was c.judge_whole.ensures.kept c.judge_whole.ensures.judged c.in_ok-judge_whole.was

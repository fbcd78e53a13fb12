use Rattle.admit.proofs.Judging.{opened}
use borrow.Author.Rules.{rules}
use Rattle.admit.proofs.open.Goals as goal

pub returns : goal.returns
returns c = opened c.args.b.now (search rules) c.size_up_all.ensures c.read_and_judge-opened.ensures

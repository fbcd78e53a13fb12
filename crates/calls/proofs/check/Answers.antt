use mathlib.Core.Path.{sym, ap}
use Rattle.answers.specs.Answers.{numbers}
use Rattle.calls.proofs.Replies.{links_reply}
use Rattle.calls.proofs.check.Goals as goal

pub returns : goal.returns
returns c = ap numbers (sym (links_reply c.open.ensures c.in_ok-h.was))

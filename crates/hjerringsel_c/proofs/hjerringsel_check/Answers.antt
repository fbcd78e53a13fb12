use mathlib.Core.Path.{ap, ◌∙◌}
use Rattle.rules.specs.Calls.{check_reply}
use Rattle.rules.proofs.Demands.{check_values}
use Rattle.answers.specs.Answers.{packed}
use Rattle.hjerringsel_c.proofs.Exported.{value-fits}
use Rattle.hjerringsel_c.proofs.hjerringsel_check.Goals as goal

pub packed_of-requires : goal.packed_of-requires
packed_of-requires c =
    value-fits c.check.result (check_reply c.args.sheet.now) c.check.ensures (check_values c.args.sheet.now)

pub returns : goal.returns
returns c = c.packed_of.ensures ∙ ap packed c.check.ensures

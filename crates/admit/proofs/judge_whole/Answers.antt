use mathlib.Core.Path.{sym, ◌∙◌}
use Rattle.admit.proofs.Judging.{handed_on, judged_sum, judged_loop}
use Rattle.admit.proofs.judge_whole.Goals as goal

pub returns-in_err-refuse_at-2-clause-judged : goal.returns-in_err-refuse_at-2-clause-judged
returns-in_err-refuse_at-2-clause-judged c =
    judged_sum c.args.h _ c.pair_links-alone.ensures c.survey-wrong.ensures (sym c.refuse_at.ensures ∙ c.in_ok-refuse_at.was) (sym c.refuse_at-2.ensures ∙ c.in_err-refuse_at-2.was) (handed_on c.from_residual-in_err-refuse_at-2.ensures ∙ sym c.in_err-refuse_at-2.was ∙ c.refuse_at-2.ensures)

pub returns-clause-judged : goal.returns-clause-judged
returns-clause-judged c =
    judged_loop c.args.h _ c.pair_links-alone.ensures c.survey-wrong.ensures (sym c.refuse_at.ensures ∙ c.in_ok-refuse_at.was) (sym c.refuse_at-2.ensures ∙ c.in_ok-refuse_at-2.was) c.find_order-looped.ensures c.refuse_at-3.ensures

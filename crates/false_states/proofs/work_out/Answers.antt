use Rattle.false_states.proofs.False.{followed_outside, followed_nowhere, followed_rows, never_stopped}
use Rattle.false_states.proofs.work_out.Goals as goal

pub returns-then-count-j : goal.returns-then-count-j
returns-then-count-j c = followed_outside c.in-Ok.ensures c.if-count-j.true

pub returns-then-count-k : goal.returns-then-count-k
returns-then-count-k c = rw c.in-Carries.is (followed_nowhere c.in-Ok.ensures c.if-count-k.true)

pub returns-in-Ok-taken_with : goal.returns-in-Ok-taken_with
returns-in-Ok-taken_with c = rw c.in-Rows.is (followed_rows c.in-Ok.ensures c.in-Ok-taken_with.ensures)

pub returns-in-Err : goal.returns-in-Err
returns-in-Err c = never_stopped c.in-Ok.ensures.ready.held c.in-Err.ensures

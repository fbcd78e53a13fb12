use Rattle.false_states.proofs.False.{lendable-lent, renewed-back, run-back, link_left, counted_left, takable, taken_rows}
use Rattle.false_states.proofs.take_after.Goals as goal

pub store-requires-clause-link : goal.store-requires-clause-link
store-requires-clause-link c = link_left c.requires (run-back c.args.net.now c.lend-lent.result c.lend-lent.ensures.net c.lend-lent.ensures.line c.in_ok-run_list.ensures)

pub store-requires-clause-counted : goal.store-requires-clause-counted
store-requires-clause-counted c = counted_left c.requires (run-back c.args.net.now c.lend-lent.result c.lend-lent.ensures.net c.lend-lent.ensures.line c.in_ok-run_list.ensures)

pub take_rows-requires-clause-rows : goal.take_rows-requires-clause-rows
take_rows-requires-clause-rows c =
    lendable-lent c.args.net.now c.lend-lent.result c.lend-lent.ensures.net c.lend-lent.ensures.line
    (takable c.requires (run-back c.args.net.now c.lend-lent.result c.lend-lent.ensures.net c.lend-lent.ensures.line c.in_ok-run_list.ensures) c.store.ensures)

pub returns : goal.returns
returns c =
    taken_rows c.requires (run-back c.args.net.now c.lend-lent.result c.lend-lent.ensures.net c.lend-lent.ensures.line c.in_ok-run_list.ensures) c.store.ensures
    (renewed-back c.args.net.now c.lend-lent.result c.lend-lent.ensures.net c.lend-lent.ensures.line c.take_rows.ensures)

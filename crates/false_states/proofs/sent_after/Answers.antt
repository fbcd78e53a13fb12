use Rattle.node.proofs.Held.{links-few}
use Rattle.false_states.proofs.False.{link_there, counted_there, steppable, deliverable-lent, sendable, delivered-back, placed, sent}
use Rattle.false_states.proofs.sent_after.Goals as goal

pub store-change-requires-clause-link : goal.store-change-requires-clause-link
store-change-requires-clause-link c = link_there c.requires c.new-state.ensures.inbox c.begin-begun.ensures

pub store-change-requires-clause-counted : goal.store-change-requires-clause-counted
store-change-requires-clause-counted c = counted_there c.requires c.new-state.ensures.inbox c.begin-begun.ensures

pub stepped-stored-requires : goal.stepped-stored-requires
stepped-stored-requires c = steppable c.requires c.new-state.ensures.inbox c.begin-begun.ensures

pub deliver_once-requires-clause-deliverable : goal.deliver_once-requires-clause-deliverable
deliver_once-requires-clause-deliverable c =
    deliverable-lent c.args.net.now c.lend-lent.result c.lend-lent.ensures.net c.lend-lent.ensures.line (sendable c.requires c.new-state.ensures.inbox c.begin-begun.ensures c.store-change.ensures c.stepped-stored.ensures)

pub deliver_once-requires-clause-few : goal.deliver_once-requires-clause-few
deliver_once-requires-clause-few c = links-few c.requires.held.net.graph

pub word_on-requires : goal.word_on-requires
word_on-requires c =
    placed c.requires c.new-state.ensures.inbox c.begin-begun.ensures c.store-change.ensures c.stepped-stored.ensures
    (delivered-back c.args.net.now c.lend-lent.result c.lend-lent.ensures.net c.lend-lent.ensures.line c.deliver_once.ensures)

pub returns : goal.returns
returns c =
    sent c.requires c.new-state.ensures.inbox c.begin-begun.ensures c.store-change.ensures c.stepped-stored.ensures
    (delivered-back c.args.net.now c.lend-lent.result c.lend-lent.ensures.net c.lend-lent.ensures.line c.deliver_once.ensures) c.word_on.ensures

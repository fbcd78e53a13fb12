use native.Mathlib.Omega.{arith}
use borrow.Author.Rules.{rules}
use Rattle.round.proofs.Telling.{turn_in, telling_row, telling_fit, telling_more, telling_all}
use Rattle.round.proofs.tell_all.Goals as goal

pub message_of-m-requires-clause-row : goal.message_of-m-requires-clause-row
message_of-m-requires-clause-row c =
    let turn = turn_in c.requires.given.ordered _ c.nodes_of-nodes.ensures.long c.nodes_of-nodes.ensures.same c.loop-i-test.true in
    telling_row c.requires.given c.loop-i.invariant turn.2

pub tell-requires : goal.tell-requires
tell-requires c =
    let turn = turn_in c.requires.given.ordered _ c.nodes_of-nodes.ensures.long c.nodes_of-nodes.ensures.same c.loop-i-test.true in
    telling_fit c.requires.given c.loop-i.invariant turn.2

pub loop-i-preserved : goal.loop-i-preserved
loop-i-preserved c =
    let turn = turn_in c.requires.given.ordered _ c.nodes_of-nodes.ensures.long c.nodes_of-nodes.ensures.same c.loop-i-test.true in
    telling_more c.loop-i.invariant turn.0 turn.1 (rw c.from.ensures at c.message_of-m.ensures) c.told_by.ensures.said (search rules) c.tell.ensures

pub returns : goal.returns
returns c = telling_all c.loop-i.invariant (omega arith)

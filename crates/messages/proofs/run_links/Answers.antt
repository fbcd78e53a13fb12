use Rattle.links.specs.List.{fractions}
use Rattle.messages.proofs.Running.{running_none, running_link, running_deliverable, running_more, running_stopped, running_clear}
use Rattle.messages.proofs.run_links.Goals as goal

pub loop-k-init : goal.loop-k-init
loop-k-init c = running_none c.requires.empty c.begin-t.ensures

pub refusal_at-requires-clause-link : goal.refusal_at-requires-clause-link
refusal_at-requires-clause-link c inside = running_link c.loop-k.invariant c.from-j.result inside c.requires.held

pub returns-in-Some : goal.returns-in-Some
returns-in-Some c = running_stopped c.loop-k.invariant c.from-j.result (fractions c.args.links.now) c.requires.alike c.refusal_at.ensures c.loop-k-test.true c.from-j.ensures c.in-Some.is

pub deliver-requires-clause-deliverable : goal.deliver-requires-clause-deliverable
deliver-requires-clause-deliverable c =
    let clear = running_clear c.loop-k.invariant c.from-j.result (fractions c.args.links.now) c.requires.alike c.refusal_at.ensures c.in_default.is in
    running_deliverable c.loop-k.invariant c.from-j.result clear.0 c.requires.held

pub loop-k-preserved : goal.loop-k-preserved
loop-k-preserved c =
    let clear = running_clear c.loop-k.invariant c.from-j.result (fractions c.args.links.now) c.requires.alike c.refusal_at.ensures c.in_default.is in
    running_more c.loop-k.invariant c.from-j.result clear.0 c.requires.held c.loop-k-test.true c.from-j.ensures clear.1 c.deliver.ensures

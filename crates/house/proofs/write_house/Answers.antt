use native.Mathlib.Omega.{arith}
use Rattle.house.proofs.Choosing.{choosing_none, choosing_search, choosing_all, choosing_link, choosing_counted, choosing_more}
use Rattle.house.proofs.write_house.Goals as goal

pub loop-k-init : goal.loop-k-init
loop-k-init c = choosing_none c.args.net.now c.requires.graph c.requires.empty c.begin.ensures c.new-search.ensures

pub find_lowest-j-requires : goal.find_lowest-j-requires
find_lowest-j-requires c = choosing_search c.args.net.now c.requires.graph c.loop-k.invariant c.loop-k-test.true

pub overflow_cast-out : goal.overflow_cast-out
overflow_cast-out c = omega (arith, (choosing_link c.args.net.now c.requires.graph c.loop-k.invariant c.find_lowest-j.ensures).low)

pub store_chosen-requires-clause-link : goal.store_chosen-requires-clause-link
store_chosen-requires-clause-link c = choosing_link c.args.net.now c.requires.graph c.loop-k.invariant c.find_lowest-j.ensures

pub store_chosen-requires-clause-counted : goal.store_chosen-requires-clause-counted
store_chosen-requires-clause-counted c = choosing_counted c.args.net.now c.requires.graph c.loop-k.invariant c.find_lowest-j.ensures

pub loop-k-preserved : goal.loop-k-preserved
loop-k-preserved c = choosing_more c.args.net.now c.requires.graph c.loop-k.invariant c.find_lowest-j.ensures c.loop-k-test.true (omega arith) c.store_chosen.ensures

pub returns : goal.returns
returns c = choosing_all c.args.net.now c.requires.graph c.loop-k.invariant (omega (arith, c.loop-k.auto.k-end))

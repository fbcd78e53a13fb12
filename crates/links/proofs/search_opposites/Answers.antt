use native.Mathlib.Omega.{arith}
use Rattle.links.proofs.Listing.{front_rising}
use Rattle.links.proofs.Pairing.{pairing_alone, pairing_low, pairing_more, pairing_all}
use Rattle.links.proofs.search_opposites.Goals as goal

pub opposite_of-requires-clause-rising : goal.opposite_of-requires-clause-rising
opposite_of-requires-clause-rising c = front_rising c.list-links.ensures c.requires.few c.requires.rising

pub returns-in-None : goal.returns-in-None
returns-in-None c = pairing_alone c.list-links.ensures c.requires.few c.loop-j.invariant c.opposite_of.ensures c.loop-j-test.true c.in-None.is

pub overflow_cast-opposite : goal.overflow_cast-opposite
overflow_cast-opposite c =
    omega (arith, pairing_low c.list-links.ensures c.requires.few c.loop-j.invariant c.opposite_of.ensures c.loop-j-test.true c.in-Some.is)

pub loop-j-preserved : goal.loop-j-preserved
loop-j-preserved c = pairing_more c.list-links.ensures c.requires.few c.loop-j.invariant c.opposite_of.ensures c.loop-j-test.true c.in-Some.is

pub returns : goal.returns
returns c = pairing_all c.loop-j.invariant c.loop-j-test.false

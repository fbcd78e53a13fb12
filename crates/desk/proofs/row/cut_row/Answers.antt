use Rattle.std.proofs.Common.{refl, arith}
use Rattle.desk.proofs.Places.{flows-at}
use Rattle.desk.proofs.Shares.{cutting_small, cutting_all, cutting_more, cutting_held}
use Rattle.desk.proofs.row.cut_row.Goals as goal

pub loop-p-init : goal.loop-p-init
loop-p-init c = record { left = refl; gain = refl }

pub way_at-way-requires : goal.way_at-way-requires
way_at-way-requires c = cutting_held c.requires.keeps c.loop-p.invariant c.loop-p-test.true

pub bounds-fraction-i : goal.bounds-fraction-i
bounds-fraction-i c = let r = c.requires.keeps in omega (arith, (flows-at r c.loop-p.p-index c.loop-p-test.true).0)

pub add_assign-requires : goal.add_assign-requires
add_assign-requires c =
    let r = c.requires.keeps in
    let h = cutting_small r (cutting_more r c.loop-p.invariant c.loop-p-test.true c.way_at-way.ensures c.cut-cut.ensures.value refl refl) in
    omega arith

pub loop-p-preserved : goal.loop-p-preserved
loop-p-preserved c = cutting_more c.requires.keeps c.loop-p.invariant c.loop-p-test.true c.way_at-way.ensures c.cut-cut.ensures.value c.sub-left.ensures c.add_assign.ensures.after

pub returns : goal.returns
returns c = cutting_all c.requires.keeps c.loop-p.invariant c.loop-p-test.false

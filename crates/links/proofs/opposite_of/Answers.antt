use native.Mathlib.Omega.{arith}
use mathlib.Core.Path.{refl, sym, ◌∙◌}
use Prim.Native.Nat.{◌+◌}
use Rattle.links.specs.List.{link_at}
use Rattle.links.proofs.Listing.{start-within, look_from, look_here, look_more, look_rest}
use Rattle.links.proofs.opposite_of.Goals as goal

pub loop-k-init : goal.loop-k-init
loop-k-init c = rw c.row_of-row.ensures (record { searched = look_from c.args.links.now c.args.j; ends = refl })

pub bounds-links-k : goal.bounds-links-k
bounds-links-k c = omega (arith, c.loop-k-test.true, c.loop-k.invariant.ends, start-within ((link_at c.args.links.now c.args.j).to + 1) c.args.links.now)

pub returns-then-is_opposite : goal.returns-then-is_opposite
returns-then-is_opposite c =
    look_here c.args.links.now c.args.j c.loop-k.invariant.searched refl (omega (arith, c.loop-k-test.true, c.loop-k.invariant.ends)) (sym c.is_opposite.ensures ∙ c.if-is_opposite.true)

pub loop-k-preserved : goal.loop-k-preserved
loop-k-preserved c = record {
  searched = look_more c.args.links.now c.args.j c.loop-k.invariant.searched refl refl (omega (arith, c.loop-k-test.true, c.loop-k.invariant.ends)) (sym c.is_opposite.ensures ∙ c.if-is_opposite.false);
  ends = c.loop-k.invariant.ends;
}

pub returns : goal.returns
returns c = look_rest c.args.links.now c.args.j c.requires.rising c.loop-k.invariant.searched (omega (arith, c.loop-k-test.false, c.loop-k.invariant.ends))

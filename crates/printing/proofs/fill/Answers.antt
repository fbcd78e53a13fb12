use Rattle.std.proofs.Common.{◌≡◌, ℕ, ◌+◌, ◌-◌, ◌≤◌, List, ◌++◌, rules, length, take, sym, subst, arith}
use Rattle.std.specs.Io.KnownBytes.{Consumes}
use Rattle.std.proofs.lemmas.Grind.{common_steps}
use Rattle.std.proofs.lemmas.Slice.{take-put_mid_below}
use borrow.Rule.Slice.PartMut.{put_mid}
use Rattle.std.proofs.KnownBytes.{Consumes-trans}
use lib.Seq.{take-add}
use Rattle.printing.proofs.fill.Goals as goal

-- what was read before, and behind it what is read now
front_grows : (a k n : ℕ) (xs ys : List ℕ) → a ≤ length xs → n ≤ length ys → take (a + n) (put_mid a k xs ys) ≡ take a xs ++ take n ys
front_grows a k n xs ys within fits = grind (arith, common_steps, take-add, take-put_mid_below)

pub loop-n-preserved : goal.loop-n-preserved
loop-n-preserved g c =
    let joined = front_grows c.loop-n.n (length c.loop-n.buf - c.loop-n.n) c.in_ok-more.more c.loop-n.buf c.read.new.buf c.loop-n.invariant.within c.in_ok-more.ensures.bound.0 in
    record {
      within = search rules;
      so_far = subst (Consumes _ _) (sym joined) (Consumes-trans _ _ _ _ _ c.loop-n.invariant.so_far c.in_ok-more.ensures.bytes.0);
    }

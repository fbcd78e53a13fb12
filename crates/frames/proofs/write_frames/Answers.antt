use native.Mathlib.Omega.{arith}
use mathlib.Core.Path.{◌≡◌}
use Rattle.frames.proofs.Framing.{framing_more}
use Rattle.frames.proofs.write_frames.Goals as goal

pub loop-i-preserved : goal.loop-i-preserved
loop-i-preserved c = framing_more c.loop-i.invariant (omega arith) (rw c.from-k.ensures at c.show_node-frame.ensures) (omega arith) c.put_frame.ensures

pub returns : goal.returns
returns c = let all : c.loop-i.i ≡ c.args.h.head.nodes = omega arith in rw all at c.loop-i.invariant

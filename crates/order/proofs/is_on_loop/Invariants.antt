use Prim.Native.Nat.{◌+◌, ◌-◌}
use Rattle.rules.specs.Lists.{bit, how_many}
use Rattle.order.proofs.Spreading.{Resting}
use Rattle.order.proofs.is_on_loop.Given as goal

abbrev pub invariant-loop-grew : goal.invariant-loop-grew
invariant-loop-grew l = Resting l.grew l.h.links l.columns l.i l.marks

abbrev pub decreases-loop-grew : goal.decreases-loop-grew
decreases-loop-grew l = bit l.grew + (64 - how_many (λ b. b) l.marks)

use native.Mathlib.Omega.{arith}
use Rattle.sheet.proofs.Links.{room_left, lent_more, so_far_stop, so_far_more, so_far_full}
use Rattle.sheet.specs.Held.{link_said}
use Rattle.sheet.proofs.take_links.Goals as goal

pub link_fields-l-requires : goal.link_fields-l-requires
link_fields-l-requires c = room_left c.link_room-room.ensures c.loop-k-test.true c.loop-k.invariant.taken.at

pub bounds-b-o : goal.bounds-b-o
bounds-b-o c = omega (arith, room_left c.link_room-room.ensures c.loop-k-test.true c.loop-k.invariant.taken.at)

pub overflow_add-o : goal.overflow_add-o
overflow_add-o c = omega (arith, room_left c.link_room-room.ensures c.loop-k-test.true c.loop-k.invariant.taken.at)

pub returns-then-not-is_next-clause-links : goal.returns-then-not-is_next-clause-links
returns-then-not-is_next-clause-links c = so_far_stop c.loop-k.invariant.taken (λ i. omega (arith, c.type_inv.b i)) c.link_fields-l.ensures c.is_next.ensures c.if-not-is_next.true

pub loop-k-preserved : goal.loop-k-preserved
loop-k-preserved c = record {
  taken = so_far_more c.loop-k.invariant.taken (λ i. omega (arith, c.type_inv.b i)) c.link_fields-l.ensures c.is_next.ensures c.link_room-room.ensures
      c.loop-k-test.true c.if-not-is_next.false c.key_of-least.ensures.key c.loop-k.invariant.lent;
  traffic = c.loop-k.invariant.traffic;
  lent = lent_more c.loop-k.k (link_said c.link_fields-l.result) c.loop-k.invariant.lent;
}

pub returns-clause-links : goal.returns-clause-links
returns-clause-links c = so_far_full c.loop-k.invariant.taken c.link_room-room.ensures (omega arith)

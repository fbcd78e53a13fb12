use Rattle.sheet.proofs.read_sheet.Goals as goal

pub returns-clause-given : goal.returns-clause-given
returns-clause-given c = record {
  said = rw (← c.in_ok-head.ensures, ← c.in_ok-f.ensures, ← c.in_ok-taken.ensures.links.said, c.in_ok-taken.ensures.traffic);
  room = c.in_ok-taken.ensures.links.room;
}

use Rattle.desk.proofs.Places.{held}
use Rattle.desk.proofs.row.RowLent.way_at.Goals as goal

pub way_at-requires : goal.way_at-requires
way_at-requires c = held c.args.self.now.row c.requires

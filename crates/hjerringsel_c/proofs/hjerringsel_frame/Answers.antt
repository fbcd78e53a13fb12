use lib.ListN.{length}
use Rattle.rules.proofs.Demands.{frame_values}
use Rattle.hjerringsel_c.proofs.Exported.{answered_fits, exported}
use Rattle.hjerringsel_c.proofs.hjerringsel_frame.Goals as goal

pub packed_of-requires : goal.packed_of-requires
packed_of-requires c =
    answered_fits c.frame.ensures
    (frame_values c.args.sheet.now c.args.list.now (length c.args.out.now))

pub returns : goal.returns
returns c = exported c.packed_of.ensures c.frame.ensures

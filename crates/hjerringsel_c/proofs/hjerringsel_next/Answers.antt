use lib.ListN.{length}
use Rattle.rules.proofs.Demands.{next_values}
use Rattle.hjerringsel_c.proofs.Exported.{answered_fits, exported}
use Rattle.hjerringsel_c.proofs.hjerringsel_next.Goals as goal

pub packed_of-requires : goal.packed_of-requires
packed_of-requires c =
    answered_fits c.next.ensures
    (next_values c.args.sheet.now (length c.args.out.now))

pub returns : goal.returns
returns c = exported c.packed_of.ensures c.next.ensures

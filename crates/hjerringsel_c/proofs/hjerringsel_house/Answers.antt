use lib.ListN.{length}
use Rattle.rules.proofs.Demands.{house_values}
use Rattle.hjerringsel_c.proofs.Exported.{answered_fits, exported}
use Rattle.hjerringsel_c.proofs.hjerringsel_house.Goals as goal

pub packed_of-requires : goal.packed_of-requires
packed_of-requires c =
    answered_fits c.house.ensures
    (house_values c.args.sheet.now (length c.args.out.now))

pub returns : goal.returns
returns c = exported c.packed_of.ensures c.house.ensures

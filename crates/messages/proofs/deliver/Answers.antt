use Rattle.links.specs.List.{fractions}
use Rattle.messages.proofs.Listed.{node_is, part_is}
use Rattle.messages.proofs.Delivering.{delivered_by}
use Rattle.messages.proofs.deliver.Goals as goal

pub returns : goal.returns
returns c =
    delivered_by (fractions c.args.links.now) (node_is c.args.links.now c.args.j c.link_at.ensures c.from_of-i.ensures) c.from.ensures c.from-p.ensures
    (node_is c.args.links.now c.from-p.result c.link_at-back.ensures c.from_of.ensures)
    (part_is c.args.links.now c.from-p.result c.link_at-back.ensures c.fraction_of.ensures) c.requires.alike
    c.told_by.ensures.told c.message_of-m.ensures c.told_by.ensures.said c.store_at-change.ensures c.amend.ensures

use borrow.Author.Rules.{rules}
use native.Mathlib.Omega.{arith}
use mathlib.Core.Path.{◌≡◌, sym, ap, ◌∙◌}
use Rattle.messages.specs.State.{status_number}
use Rattle.house.specs.House.{far}
use Rattle.house.proofs.Storing.{chosen-same, chosen_anew}
use Rattle.house.proofs.store_chosen.Goals as goal

pub returns-then-ne : goal.returns-then-ne
returns-then-ne c =
    let to : c.from-far.result ≡ far c.args.net.now c.args.j = rw c.from-p.ensures at c.from-far.ensures in
    chosen_anew c.args.net.now c.store.ensures (omega arith) c.requires.link.far (rw to at c.open.ensures.back) (rw to at c.open.ensures.more)

pub returns-else-ne : goal.returns-else-ne
returns-else-ne c =
    let to : c.from-far.result ≡ far c.args.net.now c.args.j = rw c.from-p.ensures at c.from-far.ensures in
    let same : c.status_of-before.result ≡ c.status_of-after.result = search rules in
    chosen-same c.args.net.now c.store.ensures (rw (← to) (sym c.status_of-before.ensures ∙ ap status_number same ∙ c.status_of-after.ensures))

use borrow.Author.Rules.{rules}
use mathlib.Core.Path.{◌≡◌}
use mathlib.Core.Bool.{true, false}
use Rattle.std.proofs.lemmas.Iterator.{first_from_Range}
use Rattle.rules.specs.Loop.{on_loop}
use Rattle.order.specs.Order.{sheet_of}
use Rattle.order.proofs.Loops.{lowest_found}
use Rattle.order.proofs.find_loop.Goals as goal

pub returns : goal.returns
returns c = λ traffic ls.
    let loops = on_loop (sheet_of c.args.h c.args.columns.now traffic ls) in
    let v = first_from_Range _ _ _ _ (λ i. loops i ≡ true) (λ i. loops i ≡ false) c.find.ensures.ran (λ i q e. search rules) (λ i q e. (search rules, search rules)) in
    lowest_found loops c.args.h.head.nodes c.map.result (search rules)

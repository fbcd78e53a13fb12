use borrow.Author.Rules.{rules}
use Rattle.std.proofs.lemmas.Iterator.{first_from_Range}
use Rattle.std.proofs.Common.{ℕ, get_or}
use Rattle.order.specs.Inside.{BareBelow}
use Rattle.order.proofs.Taking.{next}
use Rattle.order.proofs.next_bare.Goals as goal

pub returns : goal.returns
returns c = let a = c.args in
    let bare : ℕ → Type 0 = λ k. BareBelow a.h.links a.columns.now a.order.now.turn a.tail (get_or a.order.now.order k 0) in
    next a.h.head.nodes a.h.links a.columns.now a.order.now a.tail c.find.result
    (rw c.from-n.ensures at (first_from_Range _ _ _ _ bare (λ k. ¬ bare k) c.find.ensures.ran (λ k q e. search rules) (λ k q e. (search rules, search rules))))

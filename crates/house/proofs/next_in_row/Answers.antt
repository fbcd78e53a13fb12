use borrow.Author.Rules.{rules}
use Prim.Native.Nat.{ℕ}
use mathlib.Core.Path.{◌≡◌}
use mathlib.Core.Bool.{true, false}
use Rattle.std.proofs.lemmas.Iterator.{first_from_Range}
use Rattle.messages.specs.State.{waiting_in}
use Rattle.house.proofs.Searching.{next_from}
use Rattle.house.proofs.next_in_row.Goals as goal

pub returns : goal.returns
returns c =
    let waits = λ (j : ℕ). waiting_in j c.args.net.now c.args.state.now in
    rw c.unwrap_or.ensures (next_from c.find.result (first_from_Range _ _ _ _ (λ j. waits j ≡ true) (λ j. waits j ≡ false) c.find.ensures.ran (λ j q e. search rules) (λ j q e. (search rules, search rules))))

use Rattle.std.proofs.Common.{◌≡◌, ℕ, ◌+◌, ◌*◌, ◌≤◌, ◌<◌, get_or}
use Rattle.order.proofs.descend.Given as goal

-- after some steps: `done` nodes are noted, and the path to node b is `deep` nodes long
abbrev pub invariant-loop : goal.invariant-loop
invariant-loop l = record {
  steps : 2 * l.done + l.deep ≡ l.counter;
  node : l.b ≤ 64;
  low : (k : ℕ) → k < l.deep → get_or l.path k 0 ≤ 64;
}

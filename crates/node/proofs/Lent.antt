-- What is lent is what is held: a statement of the one is a statement of the other.
use Rattle.std.specs.Prelude.{ℕ, List}
use mathlib.Core.Path.{◌≡◌, sym, subst}
use Rattle.node.specs.declared.NetHeld.{NetHeld}
use Rattle.node.specs.declared.NetLent.{NetLent}
use Rattle.node.specs.Net.{net_of, unordered}

module _ (net : NetHeld) (l : NetLent) {line : List ℕ} (is : net_of l ≡ unordered net) (at : l.line.now ≡ line) where
  pub lent : (P : NetHeld → List ℕ → Type 0) → P (unordered net) line → P (net_of l) l.line.now
  lent P x = subst (λ (n : NetHeld). P n l.line.now) (sym is) (subst (λ (ls : List ℕ). P (unordered net) ls) (sym at) x)

  pub given_back : (P : NetHeld → List ℕ → Type 0) → P (net_of l) l.line.now → P (unordered net) line
  given_back P x = subst (λ (n : NetHeld). P n line) is (subst (λ (ls : List ℕ). P (net_of l) ls) at x)

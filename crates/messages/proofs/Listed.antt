-- What is read from the list of the links: a link's node and its fraction.
use Prim.Native.Nat.{ℕ, ◌<◌}
use mathlib.Core.Path.{◌≡◌, sym, ap, ap₂, ◌∙◌}
use mathlib.Core.Bool.{Bool, cond}
use mathlib.Core.List.{List}
use Rattle.std.specs.Prelude.{Option, Some, None}
use lib.ListN.{length, get_or, length-map}
use borrow.Author.Tests.{lt-leb}
use Rattle.answers.specs.declared.Fault.{Fault}
use Rattle.answers.specs.declared.Fault.TheVariants.{NotWaiting}
use Rattle.numbers.specs.declared.Fraction.{Fraction}
use Rattle.links.specs.declared.Link.{Link}
use Rattle.links.specs.List.{link_at, froms, fractions, Listed}
use Rattle.links.proofs.Listing.{from_at, fraction-at, listed_from, listed_froms}
use Rattle.messages.specs.State.{waits_by, refusal_at, Alike}

pub node_is : (ls : List Link) (j : ℕ) {l : Link} {i : ℕ} → l ≡ link_at ls j → i ≡ l.from → i ≡ get_or (froms ls) j 0
node_is ls j e f = f ∙ ap (λ (l : Link). l.from) e ∙ sym (from_at ls j)

pub part_is : (ls : List Link) (j : ℕ) {l : Link} {x : Fraction} → l ≡ link_at ls j → x ≡ l.fraction → x.0 ≡ get_or (fractions ls) j 0
part_is ls j e f = ap (λ (x : Fraction). x.0) f ∙ ap (λ (l : Link). l.fraction.0) e ∙ sym (fraction-at ls j)

-- the list is as long as the column that is made of it
pub list_length : (ls : List Link) → length (froms ls) ≡ 512 → length ls ≡ 512
list_length ls h = sym (length-map ls (λ (l : Link). l.from)) ∙ h

-- the list of the columns has their nodes
pub listed_alike : {count : ℕ} {fs ts ds xs : List ℕ} {ls : List Link} → Listed count fs ts ds xs ls → Alike count fs (froms ls)
listed_alike so = record { same = listed_from so; size = listed_froms so }

-- what a number is refused with, by what was read
pub refusal_by : (count j : ℕ) (fs xs os inbox qs : List ℕ) {i x : ℕ} {b c : Bool} → j < count → i ≡ get_or fs j 0 → x ≡ get_or xs j 0
    → b ≡ waits_by (get_or qs i 0) x (get_or inbox (get_or os j 0) 0) → b ≡ c → ◌≡◌ {A = Option Fault} (cond c None (Some NotWaiting)) (refusal_at count j fs xs os inbox qs)
refusal_by count j fs xs os inbox qs low near part said test =
    rw (
      lt-leb count j low,
      sym (said ∙ ap₂ (λ (i x : ℕ). waits_by (get_or qs i 0) x (get_or inbox (get_or os j 0) 0)) near part) ∙ test,
    )

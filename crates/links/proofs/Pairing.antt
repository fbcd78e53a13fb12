-- The loops that find each link's opposite.
use Prim.Native.Nat.{ℕ, ◌+◌, ◌≤◌, ◌<◌}
use mathlib.Core.Path.{◌≡◌, sym, ap, ◌∙◌}
use mathlib.Core.Bool.{Bool, true, not}
use mathlib.Core.List.{List}
use native.Mathlib.Omega.{arith}
use native.Mathlib.Decide.{dec_lt}
use lib.ListN.{length, get_or, take, set, length-set}
use lib.Seq.{get_or-set_same, get_or-set_other}
use lib.Dec.{eqb}
use borrow.Author.Tests.{eqb-true}
use Rattle.rules.specs.Lists.{exists, below, at, first}
use Rattle.rules.specs.Judge.{paired}
use Rattle.rules.specs.Sheet.{opposite}
use Rattle.rules.proofs.Tests.{and_gives}
use Rattle.rules.proofs.Lists.{exists_holds, exists-map, below_in}
use Rattle.rules.proofs.First.{first-map, first_eq, first_some, first-none, none_below, lowest-below, Searched, searched_here, searched_more}
use Rattle.sheet.specs.Held.{held_at, held, found_said}
use Rattle.std.specs.Prelude.{Option, Some, None}
use Rattle.links.specs.declared.Link.{Link}
use Rattle.links.specs.List.{turns_at, Listed}
use Rattle.links.specs.Opposites.{runs, Paired}
use Rattle.links.proofs.Listing.{front_first}

module _ (n : ℕ) (fs ts : List ℕ) where
  -- link i is the opposite of link j
  abbrev turns : ℕ → ℕ → Bool
  turns j i = runs fs ts (get_or ts j 0) (get_or fs j 0) i

  abbrev lonely : ℕ → Bool
  lonely j = not (exists (turns j) (below n))

  lonely_is : (ls xs : List ℕ) → first (λ l. not (paired (held n fs ts ls xs) l)) (held n fs ts ls xs) ≡ first lonely (below n)
  lonely_is ls xs =
      first-map (λ l. not (paired (held n fs ts ls xs) l)) (held_at fs ts ls xs) (below n)
      ∙ first_eq (λ j. not (paired (held n fs ts ls xs) (held_at fs ts ls xs j))) lonely (below n)
      (λ j. ap not (exists-map (opposite (held_at fs ts ls xs j)) (held_at fs ts ls xs) (below n)))

-- ---- up to link j each opposite is written
pub record Met (n : ℕ) (fs ts os : List ℕ) (j : ℕ) : Type 0 where
  pub within : j ≤ n
  pub long : length os ≡ 512
  pub low : (i : ℕ) → i < j → get_or os i 0 < n
  pub turned : (i : ℕ) → i < j → turns n fs ts i (get_or os i 0) ≡ true

module _ {n : ℕ} {fs ts os : List ℕ} where
  module _ {j : ℕ} (m : Met n fs ts os j) where
    pub met_more : {k : ℕ} → n ≤ 512 → j < n → k < n → turns n fs ts j k ≡ true → Met n fs ts (set os j k) (j + 1)
    met_more {k} few l b e = record {
      within = omega arith;
      long = length-set os j k ∙ m.long;
      low = λ i h. at_place (λ (i k : ℕ). k < n) m.low b i h (dec_lt i j);
      turned = λ i h. at_place (λ (i k : ℕ). turns n fs ts i k ≡ true) m.turned e i h (dec_lt i j);
    }
      where
        at_place : (P : ℕ → ℕ → Type 0) → ((i : ℕ) → i < j → P i (get_or os i 0)) → P j k → (i : ℕ) → i < j + 1 → Dec (i < j) → P i (get_or (set os j k) i 0)
        at_place P f p i h (yes c) = rw (get_or-set_other os j i k 0 (λ z. omega arith)) (f i c)
        at_place P f p i h (no c) =
            let z : i ≡ j = omega arith in
            let room : j < length os = omega (arith, m.long) in
            rw (z, get_or-set_same os j k 0 room) p

    pub met_all : n ≤ j → Paired None n fs ts os
    met_all h = record {
      said = λ ls xs. sym (lonely_is n fs ts ls xs ∙ (none_below (lonely n fs ts) n).1 (λ i l. ap not (some i l)));
      told = λ q. record { low = λ i l. m.low i (omega arith); from = λ i l. (ends i l).0; to = λ i l. (ends i l).1 };
      size = m.long;
    }
      where
        some : (i : ℕ) → i < n → exists (turns n fs ts i) (below n) ≡ true
        some i l = exists_holds (turns n fs ts i) (below_in n (get_or os i 0) (m.low i (omega arith))) (m.turned i (omega arith))

        ends : (i : ℕ) → i < n → (get_or fs (get_or os i 0) 0 ≡ get_or ts i 0) × (get_or ts (get_or os i 0) 0 ≡ get_or fs i 0)
        ends i l =
            let k = get_or os i 0 in
            let g = and_gives (eqb (get_or fs k 0) (get_or ts i 0)) (eqb (get_or ts k 0) (get_or fs i 0)) (m.turned i (omega arith)) in
            (eqb-true (get_or fs k 0) (get_or ts i 0) g.0, eqb-true (get_or ts k 0) (get_or fs i 0) g.1)

-- ---- a link is looked up
pub record Pairing (n : ℕ) (fs ts os : List ℕ) (j : ℕ) : Type 0 where
  pub search : Searched (lonely n fs ts) n j
  pub met : Met n fs ts os j

module _ {n : ℕ} {fs ts os : List ℕ} where
  -- r is what the list of the links, list, answers of link j
  module _ {ds xs : List ℕ} {list : List Link} (so : Listed n fs ts ds xs list) (few : n ≤ 512) {j : ℕ} (h : Pairing n fs ts os j)
      {r : Option ℕ} (q : found_said r ≡ first (turns_at (take n list) j) (below (length (take n list)))) (l : j < n) where
    pub pairing_alone : r ≡ None → Paired (Some j) n fs ts os
    pairing_alone e = record {
      said = λ ls xs. searched_here h.search l (ap not (first-none (turns n fs ts j) (below n) (sym (q ∙ front_first so few l) ∙ ap found_said e))) ∙ sym (lonely_is n fs ts ls xs);
      told = λ z. let w : ◌≡◌ {A = ℕ} 0 1 = cc in absurd (omega arith);
      size = h.met.long;
    }

    module _ {k : ℕ} (e : r ≡ Some k) where
      some : first (turns n fs ts j) (below n) ≡ at k
      some = sym (q ∙ front_first so few l) ∙ ap found_said e

      pub pairing_low : k < n
      pairing_low = ((lowest-below (turns n fs ts j) n k).0 some).inside

      pub pairing_more : Pairing n fs ts (set os j k) (j + 1)
      pairing_more = record {
        search = searched_more h.search l (ap not (first_some (turns n fs ts j) (below n) some));
        met = met_more h.met few l pairing_low ((lowest-below (turns n fs ts j) n k).0 some).passes;
      }

  pub pairing_all : {j : ℕ} → Pairing n fs ts os j → n ≤ j → Paired None n fs ts os
  pairing_all h l = met_all h.met l

-- Laws of a list of links: the row of a node, the opposite of a link, and the list that four lists of numbers give.
use Prim.Native.Nat.{ℕ, ◌+◌, ◌-◌, ◌≤◌, ◌<◌}
use native.Mathlib.Omega.{arith}
use mathlib.Core.Path.{◌≡◌, sym, ap, ap₂, ◌∙◌}
use mathlib.Core.Bool.{true, false}
use mathlib.Core.List.{List}
use lib.Dec.{ltb}
use lib.ListN.{length, get_or, take, length-map, get_or-map}
use lib.Seq.{get_or-take, length-take-le}
use borrow.Author.Tests.{ltb-true, ltb-false}
use Rattle.std.proofs.lemmas.List.Sums.{prefix_len-le-length, prefix_len_passes, prefix_len_stops}
use Rattle.links.specs.declared.Link.{Link}
use Rattle.links.specs.List.{link_said, no_link, record_of, link_at, row_start, froms, fractions, turns_at, Listed}
use Rattle.links.specs.Opposites.{RisesTo, runs}
use Rattle.rules.specs.Lists.{below, nowhere, at, first}
use Rattle.rules.specs.Sheet.{opposite}
use Rattle.rules.proofs.Tests.{refuted}
use Rattle.rules.proofs.First.{Searched, searched_none, searched_here, searched_more, searched_pass, searched_all, first-same}
use Rattle.rules.proofs.Local.{opposite-ends}

-- ---- near nodes and fractions by their place
pub from_at : (ls : List Link) (j : ℕ) → get_or (froms ls) j 0 ≡ (link_at ls j).from
from_at ls j = get_or-map (λ (l : Link). l.from) ls j no_link

pub fraction-at : (ls : List Link) (j : ℕ) → get_or (fractions ls) j 0 ≡ (link_at ls j).fraction.0
fraction-at ls j = get_or-map (λ (l : Link). l.fraction.0) ls j no_link

-- ---- the first link from node i or a higher one
module _ (i : ℕ) (ls : List Link) where
  pub start-within : row_start i ls ≤ length ls
  start-within = prefix_len-le-length (λ l. ltb l.from i) ls

  pub start-below : (k : ℕ) → k < row_start i ls → (link_at ls k).from < i
  start-below k h = ltb-true (link_at ls k).from i (prefix_len_passes (λ l. ltb l.from i) ls k no_link h)

  pub start-stops : row_start i ls < length ls → i ≤ (link_at ls (row_start i ls)).from
  start-stops h = ltb-false (link_at ls (row_start i ls)).from i (prefix_len_stops (λ l. ltb l.from i) ls no_link h)

pub start_above : (i : ℕ) (ls : List Link) → RisesTo (length ls) (froms ls) → (k : ℕ) → row_start i ls ≤ k → k < length ls → i ≤ (link_at ls k).from
start_above i ls up k a b = omega (arith, start-stops i ls (omega arith), up (row_start i ls) k a b, from_at ls (row_start i ls), from_at ls k)

-- ---- the opposite of link j stands in the row of its far node
module _ (ls : List Link) (j : ℕ) where
  abbrev far : ℕ
  far = (link_at ls j).to

  elsewhere : (k : ℕ) → ((link_at ls k).from ≡ far → ⊥) → turns_at ls j k ≡ false
  elsewhere k ne = refuted (turns_at ls j k) (λ e. ne (opposite-ends (link_said (link_at ls j)) (link_said (link_at ls k)) e).0)

  pub look_from : Searched (turns_at ls j) (length ls) (row_start far ls)
  look_from =
      let z : 0 + row_start far ls ≡ row_start far ls = omega arith in
      rw z at (searched_pass {p = turns_at ls j} {n = length ls} {a = 0} searched_none (row_start far ls) (omega (arith, start-within far ls)) (λ k a b. elsewhere k (λ e. omega (arith, start-below far ls k (omega arith)))))

  look_inside : {k : ℕ} → k < row_start (far + 1) ls → k < length ls
  look_inside h = omega (arith, start-within (far + 1) ls)

  pub look_here : {k m : ℕ} → Searched (turns_at ls j) (length ls) k → m ≡ k → k < row_start (far + 1) ls → turns_at ls j m ≡ true → at m ≡ first (turns_at ls j) (below (length ls))
  look_here s e h t = rw e (searched_here s (look_inside h) (rw e at t))

  pub look_more : {k m n : ℕ} → Searched (turns_at ls j) (length ls) k → m ≡ k → n ≡ k + 1 → k < row_start (far + 1) ls → turns_at ls j m ≡ false → Searched (turns_at ls j) (length ls) n
  look_more s e f h t = rw f (searched_more s (look_inside h) (rw e at t))

  pub look_rest : {k : ℕ} → RisesTo (length ls) (froms ls) → Searched (turns_at ls j) (length ls) k → row_start (far + 1) ls ≤ k → nowhere ≡ first (turns_at ls j) (below (length ls))
  look_rest {k} up s h =
      let z : k + (length ls - k) ≡ length ls = omega (arith, s.within) in
      searched_all (rw z at (searched_pass s (length ls - k) (omega arith) (λ m a b. elsewhere m (λ e. omega (arith, start_above (far + 1) ls up m (omega arith) (omega arith)))))) (omega arith)

-- ---- the opposite in the list that four lists give is the one that those say
module _ {n : ℕ} {fs ts ds xs : List ℕ} {r : List Link} (so : Listed n fs ts ds xs r) (few : n ≤ 512) where
  abbrev ls : List Link
  ls = take n r

  pub front_length : length ls ≡ n
  front_length = length-take-le n r (omega (arith, so.size))

  front_at : (k : ℕ) → k < n → link_at ls k ≡ record_of (get_or fs k 0) (get_or ts k 0) (get_or ds k 0) (get_or xs k 0)
  front_at k h = get_or-take n r k no_link h ∙ so.each k h

  pub front_rising : RisesTo n fs → RisesTo (length ls) (froms ls)
  front_rising up j k a b =
      let h : k < n = omega (arith, front_length) in
      omega (
        arith,
        up j k a h,
        from_at ls j ∙ ap (λ (l : Link). l.from) (front_at j (omega arith)),
        from_at ls k ∙ ap (λ (l : Link). l.from) (front_at k h),
      )

  pub front_first : {j : ℕ} → j < n → first (turns_at ls j) (below (length ls)) ≡ first (runs fs ts (get_or ts j 0) (get_or fs j 0)) (below n)
  front_first {j} h =
      ap (λ (m : ℕ). first (turns_at ls j) (below m)) front_length
      ∙ first-same (turns_at ls j) (runs fs ts (get_or ts j 0) (get_or fs j 0)) n (λ k b. ap₂ (λ (x y : Link). opposite (link_said x) (link_said y)) (front_at j h) (front_at k b))

-- ---- the near nodes and the fractions of that list
module _ {count : ℕ} {fs ts ds xs : List ℕ} {r : List Link} (so : Listed count fs ts ds xs r) where
  pub listed_from : (j : ℕ) → j < count → get_or fs j 0 ≡ get_or (froms r) j 0
  listed_from j h = sym (from_at r j ∙ ap (λ (l : Link). l.from) (so.each j h))

  pub listed_fraction : (j : ℕ) → j < count → get_or (fractions r) j 0 ≡ get_or xs j 0
  listed_fraction j h = fraction-at r j ∙ ap (λ (l : Link). l.fraction.0) (so.each j h)

  pub listed_froms : length (froms r) ≡ 512
  listed_froms = length-map r (λ (l : Link). l.from) ∙ so.size

-- Laws of rows: the ways of a row by their places, and loops over its flowing places.
use Prim.Native.Nat.{ℕ, zero, suc, ◌+◌, ◌-◌, ◌*◌, ◌/◌, ◌≤◌, ◌<◌}
use mathlib.Core.Path.{◌≡◌, refl, sym, ap, ap₂, ◌∙◌, subst}
use mathlib.Core.Bool.{Bool}
use mathlib.Core.List.{List, [], ◌∷◌, map, Memᴰ as In}
use native.Mathlib.Nat.{mul-le-mul_left, mul-le-mul_right}
use native.Mathlib.Omega.{arith}
use Rattle.std.proofs.Common.{add-one}
use lib.ListN.{length, get_or, take, length-map}
use lib.Seq.{ext_get_or}
use lib.Dec.{ltb, eqb-suc-zero}
use borrow.Author.Tests.{ltb-true, ltb-false}
use Rattle.rules.specs.Lists.{keep, exists, total, counted, below, flowing}
use Rattle.rules.specs.Sheet.{whole, largest_delay}
use Rattle.rules.specs.Desk.{told, Way, delay_told, carries, cost, weighed, delay, blocks, blocked, message}
use Rattle.rules.proofs.Lists.{get_or_in, in_keep, keep-map, total_le, total_mul, total-map, total-keep, exists-map, below_length, in_below, table_at}
use Rattle.rules.proofs.Desk.{cut_by_le}
use Rattle.rules.proofs.Local.{delay_local, blocked_local}
use Rattle.desk.specs.Ways.{told_of, way_of, ways_from, ways_of, desk_with, sum_of, Row}
use Rattle.desk.specs.Work.{way_at, Held, cut_at}

-- ---- a word's number; 0 says what it should without a test
pub delay_is : (x : ℕ) → delay_told (told_of x) ≡ x / 4
delay_is zero = refl
delay_is (suc x) = rw (eqb-suc-zero x)

-- ---- a row's ways by their places
-- the way at place p, with its far node
abbrev pub way_to : List ℕ → List ℕ → List ℕ → List ℕ → ℕ → Way
way_to fs ls xs ks p = way_of (get_or fs p 0) (get_or ls p 0) (get_or xs p 0) (get_or ks p 0)

module _ (ls xs ks : List ℕ) where
  ways-from : (fs : List ℕ) (i : ℕ) (gs : List ℕ) → ((j : ℕ) → get_or fs (i + j) 0 ≡ get_or gs j 0) → ways_from i gs ls xs ks ≡ map (way_to fs ls xs ks) (counted i (length gs))
  ways-from fs i [] h = refl
  ways-from fs i (g ∷ gs) h =
      let first : get_or fs i 0 ≡ g = ap (λ (n : ℕ). get_or fs n 0) (omega arith) ∙ h 0 in
      ap₂ ◌∷◌
      (ap (λ (f : ℕ). way_of f (get_or ls i 0) (get_or xs i 0) (get_or ks i 0)) (sym first))
      (ways-from fs (suc i) gs (λ j. ap (λ (n : ℕ). get_or fs n 0) (omega arith) ∙ h (suc j)))

  module _ (fs : List ℕ) (long : length fs ≡ length xs) where
    pub ways_are : ways_of fs ls xs ks ≡ map (way_to fs ls xs ks) (below (length xs))
    ways_are = ways-from fs 0 fs (λ j. ap (λ (n : ℕ). get_or fs n 0) (omega arith)) ∙ ap (λ (n : ℕ). map (way_to fs ls xs ks) (below n)) long

    pub carrying_are : keep carries (ways_of fs ls xs ks) ≡ map (way_to fs ls xs ks) (flowing xs)
    carrying_are = ap (keep carries) ways_are ∙ keep-map carries (way_to fs ls xs ks) (below (length xs))

    -- what is worked out over the flowing places is the message, whatever the far nodes
    pub message_is : (s t : ℕ) {ps : List ℕ} {m : ℕ} {b : Bool} → ps ≡ flowing xs → m ≡ total (λ p. weighed (way_at ls xs ks p)) ps / whole
        → b ≡ exists (λ p. blocks s t m (way_at ls xs ks p)) ps → told m b ≡ message (desk_with s t (ways_of fs ls xs ks))
    message_is s t {ps} {m} {b} flow p q =
        let d = desk_with s t (ways_of fs ls xs ks) in
        let e : delay d ≡ m =
        delay_local d ∙ ap (λ (ws : List Way). total weighed ws / whole) carrying_are
        ∙ ap (λ (n : ℕ). n / whole) (total-map weighed (way_to fs ls xs ks) (flowing xs) ∙ ap (total (λ i. weighed (way_at ls xs ks i))) (sym flow)) ∙ sym p in
        let f : blocked d ≡ b =
        blocked_local d ∙ ap₂ (λ (n : ℕ) (ws : List Way). exists (blocks s t n) ws) (sym (delay_local d) ∙ e) carrying_are
        ∙ exists-map (blocks s t m) (way_to fs ls xs ks) (flowing xs) ∙ ap (exists (λ i. blocks s t m (way_at ls xs ks i))) (sym flow) ∙ sym q in
        ap₂ told (sym e) (sym f)

-- ---- the fractions
pub read_back : (xs : List ℕ) → map (λ p. get_or xs p 0) (below (length xs)) ≡ xs
read_back xs =
    let long = length-map (below (length xs)) (λ p. get_or xs p 0) ∙ below_length (length xs) in
    ext_get_or 0 (map (λ p. get_or xs p 0) (below (length xs))) xs long (λ i h. table_at (λ p. get_or xs p 0) 0 (length xs) i (omega arith))

part_le : (xs : List ℕ) (p : ℕ) → get_or xs p 0 ≤ sum_of xs
part_le [] p = omega arith
part_le (x ∷ xs) zero = omega arith
part_le (x ∷ xs) (suc p) = omega (arith, part_le xs p)

flow_sum : (xs : List ℕ) → total (λ p. get_or xs p 0) (flowing xs) ≡ sum_of xs
flow_sum xs =
    sym (total-keep (λ p. get_or xs p 0) (λ p. ltb 0 (get_or xs p 0)) (below (length xs)) (λ p e. omega (arith, ltb-false 0 (get_or xs p 0) e)))
    ∙ sym (total-map (λ x. x) (λ p. get_or xs p 0) (below (length xs)))
    ∙ ap sum_of (read_back xs)

-- ---- a loop over a list: one more of its places is taken
total_suc : (f : ℕ → ℕ) (ps : List ℕ) (i : ℕ) → i < length ps → total f (take (suc i) ps) ≡ total f (take i ps) + f (get_or ps i 0)
total_suc f [] i h = absurd (omega arith)
total_suc f (p ∷ ps) zero h = omega arith
total_suc f (p ∷ ps) (suc i) h = omega (arith, total_suc f ps i (omega arith))

pub total_more : (f : ℕ → ℕ) (ps : List ℕ) (i : ℕ) → i < length ps → total f (take (i + 1) ps) ≡ total f (take i ps) + f (get_or ps i 0)
total_more f ps i h = rw add-one (total_suc f ps i h)

total-take : (f : ℕ → ℕ) (j : ℕ) (ps : List ℕ) → total f (take j ps) ≤ total f ps
total-take f zero ps = omega arith
total-take f (suc j) [] = omega arith
total-take f (suc j) (p ∷ ps) = omega (arith, total-take f j ps)

module _ {ls xs ks ps : List ℕ} (r : Row ls xs ks ps) where
  pub fraction-small : (p : ℕ) → get_or xs p 0 ≤ whole
  fraction-small p = omega (arith, r.parts, part_le xs p)

  pub held : {p : ℕ} → p < length xs → Held ls xs ks p
  held {p} h = record {
    lines = r.lines;
    words = r.words;
    inside = h;
    line_small = r.line_small p;
    fraction_small = fraction-small p;
    told_small = r.told-small p;
  }

  -- a flowing place is one of the row, and flows
  pub flows-at : (j : ℕ) → j < length ps → (get_or ps j 0 < length xs) × (0 < get_or xs (get_or ps j 0) 0)
  flows-at j h =
      let inside : In (get_or ps j 0) (flowing xs) = subst (λ (l : List ℕ). In (get_or ps j 0) l) r.flow (get_or_in ps j 0 h) in
      let found = in_keep (λ p. ltb 0 (get_or xs p 0)) (below (length xs)) inside in
      (in_below (length xs) found.0, ltb-true 0 (get_or xs (get_or ps j 0) 0) found.1)

  pub flows-said : {j : ℕ} {w : Way} → j < length ps → w ≡ way_at ls xs ks (get_or ps j 0) → 0 < w.fraction
  flows-said {j} h e = omega (arith, (flows-at j h).1, ap (λ (v : Way). v.fraction) e)

  -- a sum over flowing places of what is at most B times the fraction
  pub flow-small : (f : ℕ → ℕ) (B j : ℕ) → ((p : ℕ) → f p ≤ get_or xs p 0 * B) → total f (take j ps) ≤ whole * B
  flow-small f B j h =
      let each : total f ps ≤ total (λ p. get_or xs p 0 * B) ps = total_le f (λ p. get_or xs p 0 * B) ps (λ p m. h p) in
      let all : total (λ p. get_or xs p 0) ps ≤ whole = omega (arith, ap (total (λ p. get_or xs p 0)) r.flow, flow_sum xs, r.parts) in
      omega (arith, total-take f j ps, total_mul (λ p. get_or xs p 0) B ps, mul-le-mul_right B all)

  pub cost-top : (p : ℕ) → cost (way_at ls xs ks p) ≤ largest_delay
  cost-top p = omega (arith, r.line_small p, r.told-small p, delay_is (get_or ks p 0))

  weighed_le : (p : ℕ) → weighed (way_at ls xs ks p) ≤ get_or xs p 0 * largest_delay
  weighed_le p = mul-le-mul_left (get_or xs p 0) (cost-top p)

  -- the sum stays within the whole
  pub weighed-fits : (j : ℕ) → total (λ p. weighed (way_at ls xs ks p)) (take j ps) ≤ whole * largest_delay
  weighed-fits j = flow-small (λ p. weighed (way_at ls xs ks p)) largest_delay j weighed_le

  -- one way more in the sum
  pub sum_more : {j s v : ℕ} {w : Way} → j < length ps → s ≡ total (λ p. weighed (way_at ls xs ks p)) (take j ps) → w ≡ way_at ls xs ks (get_or ps j 0) → v ≡ weighed w
      → s + v ≡ total (λ p. weighed (way_at ls xs ks p)) (take (j + 1) ps)
  sum_more {j} h is q e = ap₂ ◌+◌ is (e ∙ ap weighed q) ∙ sym (total_more (λ p. weighed (way_at ls xs ks p)) ps j h)

  pub cut_le : (s t c p : ℕ) → cut_at s t c ls xs ks p ≤ get_or xs p 0 * 1
  cut_le s t c p = omega (arith, cut_by_le s t (cost (way_at ls xs ks p) - c) (get_or xs p 0))

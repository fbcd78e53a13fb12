-- What is cut at the flowing places, and that the best gains it: the new row.
use Prim.Native.Nat.{ℕ, zero, suc, ◌+◌, ◌-◌, ◌≤◌, ◌<◌}
use mathlib.Core.Path.{◌≡◌, refl, sym, ap, ap₂, ◌∙◌, subst}
use mathlib.Core.Logic.{◌⊎◌, inl, inr, ◌≢◌}
use mathlib.Core.Bool.{Bool, true, false, cond, not, ◌&&◌}
use mathlib.Core.List.Memᴰ
use mathlib.Core.List.Memᴰ.{head as here}
use mathlib.Core.List.Memᴰ.{not-nil}
use mathlib.Core.List.Memᴰ.{tail as there}
use mathlib.Core.List.{List, [], ◌∷◌, map, map-map, Memᴰ as In}
use native.Mathlib.Decide.{ℕ_discrete, dec_lt}
use native.Mathlib.Omega.{arith}
use Rattle.std.proofs.Common.{add-one}
use Rattle.std.proofs.lemmas.List.{set_comm, take_all}
use lib.ListN.{length, get_or, take, set, length-map, length-set, get_or-eq_default}
use lib.Seq.{ext_get_or, get_or-set_same, get_or-set_other, set-get_or}
use lib.Dec.{ltb, eqb}
use borrow.Author.Tests.{ltb-true, ltb-false, ne_eqb}
use Rattle.rules.specs.Lists.{keep, total, counted, below, flowing}
use Rattle.rules.specs.Sheet.{whole}
use Rattle.rules.specs.Desk.{Way, Desk, cost, candidate, Best, nothing, best, best_of, cut_by, cut, fraction_with, new_fraction, new_row}
use Rattle.rules.proofs.Tests.{known, clash, eqb_self}
use Rattle.rules.proofs.Lists.{get_or_in, in_keep, keep_in, map_eq, total-keep, total-map, total_but, below_length, below_in, table_at}
use Rattle.rules.proofs.Desk.{cut_by_le, flowing_allowed, best_is, BestIs}
use Rattle.desk.specs.Ways.{ways_of, desk_with, Row, Rises}
use Rattle.desk.specs.Work.{way_at, Held, choice_at, lowest, cut_at, shorn, Shorn}
use Rattle.desk.specs.declared.row.Choice.{Choice}
use Rattle.desk.proofs.Places.{way_to, ways_are, read_back, fraction-small, flows-at, flow-small, cost-top, total_more, cut_le}
use Rattle.desk.proofs.Choices.{ChoiceIs, choice-best, chosen-inside}

-- ---- a list whose every place is below those after it
abbrev Rising : List ℕ → Type 0
Rising [] = Unit {0}
Rising (p ∷ ps) = ((q : ℕ) → In q ps → p < q) × Rising ps

counted-over : (k n : ℕ) {i : ℕ} → In i (counted k n) → k ≤ i
counted-over k zero m = elim m [ ]
counted-over k (suc n) {i} m = elim m [ here e ↦ omega arith | there u ↦ omega (arith, counted-over (suc k) n u) ]

counted_rising : (k n : ℕ) → Rising (counted k n)
counted_rising k zero = tt
counted_rising k (suc n) = (λ q m. omega (arith, counted-over (suc k) n m), counted_rising (suc k) n)

keep_rising : (t : ℕ → Bool) (ps : List ℕ) → Rising ps → Rising (keep t ps)
keep_rising t [] r = tt
keep_rising t (p ∷ ps) r = go (t p) (keep_rising t ps r.1)
  where
    go : (b : Bool) → Rising (keep t ps) → Rising (cond b (p ∷ keep t ps) (keep t ps))
    go true s = (λ q m. r.0 q (in_keep t ps m).0, s)
    go false s = s

-- what is taken before the i-th place lies below it
taken_below : (ps : List ℕ) (i : ℕ) {q : ℕ} → Rising ps → i < length ps → In q (take i ps) → q < get_or ps i 0
taken_below [] i r h m = absurd (omega arith)
taken_below (p ∷ ps) zero r h m = elim m [ ]
taken_below (p ∷ ps) (suc i) {q} r h m =
    elim m [ here e ↦ omega (arith, e, r.0 (get_or ps i 0) (get_or_in ps i 0 (omega arith))) | there u ↦ taken_below ps i r.1 (omega arith) u ]

flowing_rising : (xs : List ℕ) → Rising (flowing xs)
flowing_rising xs = keep_rising (λ i. ltb 0 (get_or xs i 0)) (below (length xs)) (counted_rising 0 (length xs))

-- ---- a row from which f was cut at some places
module _ (f : ℕ → ℕ) (xs : List ℕ) where
  length-shorn : (ps : List ℕ) → length (shorn f xs ps) ≡ length xs
  length-shorn [] = refl
  length-shorn (p ∷ ps) = length-set (shorn f xs ps) p (get_or xs p 0 - f p) ∙ length-shorn ps

  shorn-other : (q : ℕ) (ps : List ℕ) → ((p : ℕ) → In p ps → q ≢ p) → get_or (shorn f xs ps) q 0 ≡ get_or xs q 0
  shorn-other q [] h = refl
  shorn-other q (p ∷ ps) h = get_or-set_other (shorn f xs ps) p q (get_or xs p 0 - f p) 0 (h p (here refl)) ∙ shorn-other q ps (λ i m. h i (there m))

  shorn-one : (q : ℕ) (ps : List ℕ) → q < length xs → In q ps → get_or (shorn f xs ps) q 0 ≡ get_or xs q 0 - f q
  shorn-one q [] h m = absurd (not-nil m)
  shorn-one q (p ∷ ps) h m = go (ℕ_discrete q p) m (shorn-one q ps h)
    where
      go : Dec (q ≡ p) → In q (p ∷ ps) → (In q ps → get_or (shorn f xs ps) q 0 ≡ get_or xs q 0 - f q) → get_or (shorn f xs (p ∷ ps)) q 0 ≡ get_or xs q 0 - f q
      go (yes e) m ih = rw e (get_or-set_same (shorn f xs ps) p (get_or xs p 0 - f p) 0 (omega (arith, length-shorn ps)))
      go (no n) (here e) ih = absurd (n e)
      go (no n) (there u) ih = get_or-set_other (shorn f xs ps) p q (get_or xs p 0 - f p) 0 n ∙ ih u

  -- one place more is cut
  shorn_suc : (ps : List ℕ) (i : ℕ) → Rising ps → i < length ps
      → shorn f xs (take (suc i) ps) ≡ set (shorn f xs (take i ps)) (get_or ps i 0) (get_or xs (get_or ps i 0) 0 - f (get_or ps i 0))
  shorn_suc [] i r h = absurd (omega arith)
  shorn_suc (p ∷ ps) zero r h = refl
  shorn_suc (p ∷ ps) (suc i) r h =
      let q = get_or ps i 0 in
      let over : p < q = r.0 q (get_or_in ps i 0 (omega arith)) in
      rw (shorn_suc ps i r.1 (omega arith)) (set_comm (shorn f xs (take i ps)) q p (get_or xs q 0 - f q) (get_or xs p 0 - f p) (λ e. omega (arith, e)))

  -- a dry place has nothing to lose, so f is cut at all places
  shorn-at : (q : ℕ) → q < length xs → get_or (shorn f xs (flowing xs)) q 0 ≡ get_or xs q 0 - f q
  shorn-at q h = go (known (ltb 0 (get_or xs q 0)))
    where
      go : (ltb 0 (get_or xs q 0) ≡ true) ⊎ (ltb 0 (get_or xs q 0) ≡ false) → get_or (shorn f xs (flowing xs)) q 0 ≡ get_or xs q 0 - f q
      go (inl e) = shorn-one q (flowing xs) h (keep_in (λ p. ltb 0 (get_or xs p 0)) (below_in (length xs) q h) e)
      go (inr e) =
          shorn-other q (flowing xs) (λ p m z. clash (in_keep (λ i. ltb 0 (get_or xs i 0)) (below (length xs)) m).1 (subst (λ (i : ℕ). ltb 0 (get_or xs i 0) ≡ false) z e))
          ∙ omega (arith, ltb-false 0 (get_or xs q 0) e)

-- ---- the loop of the cuts
cut_dry : (s t c : ℕ) (ls xs ks : List ℕ) (q : ℕ) → ltb 0 (get_or xs q 0) ≡ false → cut_at s t c ls xs ks q ≡ 0
cut_dry s t c ls xs ks q e = omega (arith, cut_by_le s t (cost (way_at ls xs ks q) - c) (get_or xs q 0), ltb-false 0 (get_or xs q 0) e)

-- the first i flowing places are cut
pub record Cutting (s t c : ℕ) (ls xs ks ps : List ℕ) (i : ℕ) (ys : List ℕ) (g : ℕ) : Type 0 where
  pub left : ys ≡ shorn (cut_at s t c ls xs ks) xs (take i ps)
  pub gain : g ≡ total (cut_at s t c ls xs ks) (take i ps)

module _ {s t c : ℕ} {ls xs ks ps : List ℕ} {i g : ℕ} {ys : List ℕ} (r : Row ls xs ks ps) (h : Cutting s t c ls xs ks ps i ys g) where
  pub cutting_small : g ≤ whole
  cutting_small = omega (arith, h.gain, flow-small r (cut_at s t c ls xs ks) 1 i (cut_le r s t c))

  pub cutting_all : length ps ≤ i → Shorn (cut_at s t c ls xs ks) xs ps ys g
  cutting_all p =
      let z : take i ps ≡ ps = take_all i ps p in
      record { left = rw z at h.left; gain = rw z at h.gain; small = cutting_small }

  module _ (p : i < length ps) where
    -- the next place still has its old fraction
    fresh : get_or ys (get_or ps i 0) 0 ≡ get_or xs (get_or ps i 0) 0
    fresh = rw h.left (shorn-other (cut_at s t c ls xs ks) xs (get_or ps i 0) (take i ps) (λ q m e. omega (arith, taken_below ps i (rw r.flow (flowing_rising xs)) p m, e)))

    -- and is read there
    pub cutting_held : Held ls ys ks (get_or ps i 0)
    cutting_held =
        let size : length ys ≡ length xs = ap length h.left ∙ length-shorn (cut_at s t c ls xs ks) xs (take i ps) in
        record {
          lines = omega (arith, r.lines, size);
          words = omega (arith, r.words, size);
          inside = omega (arith, (flows-at r i p).0, size);
          line_small = r.line_small (get_or ps i 0);
          fraction_small = omega (arith, fresh, fraction-small r (get_or ps i 0));
          told_small = r.told-small (get_or ps i 0);
        }

    pub cutting_more : {v f k : ℕ} {w : Way} → w ≡ way_at ls ys ks (get_or ps i 0) → v ≡ cut_by s t (cost w - c) w.fraction → f ≡ w.fraction - v → k ≡ g + v
        → Cutting s t c ls xs ks ps (i + 1) (set ys (get_or ps i 0) f) k
    cutting_more {v} {f} {k} {w} q e z u =
        let a : w.fraction ≡ get_or xs (get_or ps i 0) 0 = ap (λ (y : Way). y.fraction) q ∙ fresh in
        let b : v ≡ cut_at s t c ls xs ks (get_or ps i 0) = e ∙ ap₂ (λ (m n : ℕ). cut_by s t (m - c) n) (ap cost q) a in
        record {
          left = rw (add-one, shorn_suc (cut_at s t c ls xs ks) xs ps i (rw r.flow (flowing_rising xs)) p) (ap₂ (λ (l : List ℕ) (n : ℕ). set l (get_or ps i 0) n) h.left (z ∙ ap₂ ◌-◌ a b));
          gain = u ∙ ap₂ ◌+◌ h.gain b ∙ sym (total_more (cut_at s t c ls xs ks) ps i p);
        }

-- a cut row, where the row is one
module _ {f : ℕ → ℕ} {ls xs ks ps ys : List ℕ} {g : ℕ} (r : Row ls xs ks ps) (h : Shorn f xs ps ys g) where
  cut-length : length ys ≡ length xs
  cut-length = ap length h.left ∙ length-shorn f xs ps

  cut-at : (q : ℕ) → q < length xs → get_or ys q 0 ≡ get_or xs q 0 - f q
  cut-at q a = ap (λ (l : List ℕ). get_or l q 0) (h.left ∙ ap (shorn f xs) r.flow) ∙ shorn-at f xs q a

  -- the place that is chosen
  module _ {k : Choice} (some : 0 < length xs) (e : k ≡ lowest (choice_at ls xs ks) (below (length xs))) where
    pub best-inside : k.place < length ys
    best-inside = omega (arith, chosen-inside ls xs ks some e, cut-length)

    pub best-fits : get_or ys k.place 0 + g < 4294967296
    best-fits =
        let a = chosen-inside ls xs ks some e in
        omega (arith, cut-at k.place a, fraction-small r k.place, h.small)

-- ---- the new row
none_in : (ps : List ℕ) → ((p : ℕ) → In p ps → ⊥) → ps ≡ []
none_in [] h = refl
none_in (p ∷ ps) h = absurd (h p (here refl))

-- what flows is one of the row
inside : (xs : List ℕ) (q : ℕ) → 0 < get_or xs q 0 → q < length xs
inside xs q h = go (dec_lt q (length xs))
  where
    go : Dec (q < length xs) → q < length xs
    go (yes a) = a
    go (no a) = let z = get_or-eq_default xs 0 {n = q} (omega arith) in absurd (omega arith)

pub empty-row : (s t : ℕ) (fs ls xs ks : List ℕ) → length xs ≡ 0 → length fs ≡ length xs → xs ≡ new_row (desk_with s t (ways_of fs ls xs ks))
empty-row s t [] ls [] ks e long = refl
empty-row s t (f ∷ fs) ls [] ks e long = absurd (omega arith)
empty-row s t fs ls (x ∷ xs) ks e long = absurd (omega arith)

module _ (s t : ℕ) {ls xs ks ps : List ℕ} (r : Row ls xs ks ps) (fs : List ℕ) (long : length fs ≡ length xs) (up : Rises fs) where
  abbrev d : Desk
  d = desk_with s t (ways_of fs ls xs ks)

  apart : (p q : ℕ) → p < length xs → q < length xs → q ≢ p → get_or fs q 0 ≢ get_or fs p 0
  apart p q a b n e = go (dec_lt p q)
    where
      go : Dec (p < q) → ⊥
      go (yes h) = omega (arith, up p q h (omega arith))
      go (no h) = omega (arith, up q p (omega arith) (omega arith))

  -- with the best at place p and at cost c: what the rules cut, but that they spare the best
  cut-same : (p c q : ℕ) → p < length xs → q ≢ p → cut_at s t c ls xs ks q ≡ cut s t (best (get_or fs p 0) c) (way_to fs ls xs ks q)
  cut-same p c q a n = go (known (ltb 0 (get_or xs q 0)))
    where
      both : (b : Bool) (y : ℕ) → y ≡ 0 → y ≡ cond b y 0
      both true y e = refl
      both false y e = e

      go : (ltb 0 (get_or xs q 0) ≡ true) ⊎ (ltb 0 (get_or xs q 0) ≡ false) → cut_at s t c ls xs ks q ≡ cut s t (best (get_or fs p 0) c) (way_to fs ls xs ks q)
      go (inl e) =
          let b : q < length xs = inside xs q (ltb-true 0 (get_or xs q 0) e) in
          rw (e, ne_eqb (get_or fs q 0) (get_or fs p 0) (apart p q a b n))
      go (inr e) =
          both (candidate (way_to fs ls xs ks q) && not (eqb (get_or fs q 0) (get_or fs p 0))) (cut_at s t c ls xs ks q) (cut_dry s t c ls xs ks q e)

  -- all that the code cuts is what the rules cut, and the best's own cut
  gain_is : (p c : ℕ) → p < length xs
      → total (cut_at s t c ls xs ks) ps ≡ total (cut s t (best (get_or fs p 0) c)) (ways_of fs ls xs ks) + cut_at s t c ls xs ks p
  gain_is p c a =
      let own : cut s t (best (get_or fs p 0) c) (way_to fs ls xs ks p) ≡ 0 = rw (eqb_self (get_or fs p 0)) (spared (cut_at s t c ls xs ks p) (candidate (way_to fs ls xs ks p))) in
      let rules : total (cut s t (best (get_or fs p 0) c)) (ways_of fs ls xs ks) ≡ total (λ q. cut s t (best (get_or fs p 0) c) (way_to fs ls xs ks q)) (below (length xs)) =
      ap (total (cut s t (best (get_or fs p 0) c))) (ways_are ls xs ks fs long) ∙ total-map (cut s t (best (get_or fs p 0) c)) (way_to fs ls xs ks) (below (length xs)) in
      let flow : total (cut_at s t c ls xs ks) ps ≡ total (cut_at s t c ls xs ks) (below (length xs)) =
      ap (total (cut_at s t c ls xs ks)) r.flow
      ∙ sym (total-keep (cut_at s t c ls xs ks) (λ q. ltb 0 (get_or xs q 0)) (below (length xs)) (cut_dry s t c ls xs ks)) in
      omega (arith, total_but (cut_at s t c ls xs ks) (λ q. cut s t (best (get_or fs p 0) c) (way_to fs ls xs ks q)) p (λ q n. cut-same p c q a n) (length xs) a)
    where
      spared : (y : ℕ) (b : Bool) → cond (b && false) y 0 ≡ 0
      spared y true = refl
      spared y false = refl

  row_of_lem : new_row d ≡ map (λ q. new_fraction d (way_to fs ls xs ks q)) (below (length xs))
  row_of_lem = ap (map (new_fraction d)) (ways_are ls xs ks fs long) ∙ map-map (new_fraction d) (way_to fs ls xs ks) (below (length xs))

  with_best : (p c : ℕ) {g v : ℕ} {ys : List ℕ} → p < length xs → best_of d.ways ≡ best (get_or fs p 0) c → Shorn (cut_at s t c ls xs ks) xs ps ys g
      → v ≡ get_or ys p 0 + g → set ys p v ≡ new_row d
  with_best p c {g} {v} {ys} a e h z =
      let size : length (set ys p v) ≡ length xs = length-set ys p v ∙ cut-length r h in
      let wide : length (map (λ q. new_fraction d (way_to fs ls xs ks q)) (below (length xs))) ≡ length xs = length-map (below (length xs)) _ ∙ below_length (length xs) in
      ext_get_or 0 (set ys p v) _ (size ∙ sym wide) (λ q b. at q (omega arith) ∙ sym (table_at (λ i. new_fraction d (way_to fs ls xs ks i)) 0 (length xs) q (omega arith)))
      ∙ sym row_of_lem
    where
      at : (q : ℕ) → q < length xs → get_or (set ys p v) q 0 ≡ new_fraction d (way_to fs ls xs ks q)
      at q b = rw e (go (ℕ_discrete q p))
        where
          go : Dec (q ≡ p) → get_or (set ys p v) q 0 ≡ fraction_with d (best (get_or fs p 0) c) (way_to fs ls xs ks q)
          go (yes m) =
              rw (m, eqb_self (get_or fs p 0))
              (get_or-set_same ys p v 0 (omega (arith, cut-length r h))
              ∙ omega (arith, z, cut-at r h p a, h.gain, gain_is p c a, cut_by_le s t (cost (way_at ls xs ks p) - c) (get_or xs p 0)))
          go (no n) =
              let other : get_or xs q 0 - cut s t (best (get_or fs p 0) c) (way_to fs ls xs ks q) ≡ fraction_with d (best (get_or fs p 0) c) (way_to fs ls xs ks q) =
              rw (ne_eqb (get_or fs q 0) (get_or fs p 0) (apart p q a b n)) in
              get_or-set_other ys p q v 0 n ∙ cut-at r h q b ∙ ap (λ (m : ℕ). get_or xs q 0 - m) (cut-same p c q a n) ∙ other

  -- without a candidate nothing flows
  still : best_of d.ways ≡ nothing → flowing xs ≡ []
  still e = none_in (flowing xs) (λ p m.
      let k = in_keep (λ q. ltb 0 (get_or xs q 0)) (below (length xs)) m in
      let shut : BestIs d.ways nothing = subst (λ (o : Best). BestIs d.ways o) e (best_is d.ways) in
      let listed : In (way_to fs ls xs ks p) d.ways = subst (λ (ws : List Way). In (way_to fs ls xs ks p) ws) (sym (ways_are ls xs ks fs long)) (Memᴰ.map (way_to fs ls xs ks) k.0) in
      clash (flowing_allowed (way_to fs ls xs ks p) (ltb-true 0 (get_or xs p 0) k.1)) (shut (way_to fs ls xs ks p) listed))

  without : (i : ℕ) {f : ℕ → ℕ} {g v : ℕ} {ys : List ℕ} → best_of d.ways ≡ nothing → Shorn f xs ps ys g → v ≡ get_or ys i 0 + g → set ys i v ≡ new_row d
  without i {f} {g} {v} {ys} e h z =
      let dry : ps ≡ [] = r.flow ∙ still e in
      let same : ys ≡ xs = h.left ∙ ap (shorn f xs) dry in
      let none : g ≡ 0 = h.gain ∙ ap (total f) dry in
      let kept : v ≡ get_or xs i 0 = omega (arith, z, none, ap (λ (l : List ℕ). get_or l i 0) same) in
      ap₂ (λ (l : List ℕ) (n : ℕ). set l i n) same kept ∙ set-get_or xs i 0 ∙ sym (read_back xs)
      ∙ map_eq (λ q. get_or xs q 0) (λ q. new_fraction d (way_to fs ls xs ks q)) (below (length xs)) (λ q m. rw e (omega arith))
      ∙ sym row_of_lem

  -- the row after the best has gained all that was cut
  pub new_row_is : {k : Choice} {g v : ℕ} {ys : List ℕ} → k ≡ lowest (choice_at ls xs ks) (below (length xs)) → Shorn (cut_at s t k.cost.0 ls xs ks) xs ps ys g
      → v ≡ get_or ys k.place 0 + g → set ys k.place v ≡ new_row d
  new_row_is {k} {g} {v} {ys} e h z = go (best_of d.ways) refl found
    where
      found : ChoiceIs fs ls xs ks (cost-top r) 0 (length xs) (best_of d.ways) k
      found = rw (e, ways_are ls xs ks fs long) (choice-best fs ls xs ks (cost-top r) 0 (length xs))

      go : (o : Best) → best_of d.ways ≡ o → ChoiceIs fs ls xs ks (cost-top r) 0 (length xs) o k → set ys k.place v ≡ new_row d
      go nothing q u = without k.place q h z
      go (best f m) q u =
          with_best k.place m (omega (arith, u.inside)) (q ∙ ap (λ (n : ℕ). best n m) u.far_is)
          (subst (λ (n : ℕ). Shorn (cut_at s t n ls xs ks) xs ps ys g) u.cost_is h) z

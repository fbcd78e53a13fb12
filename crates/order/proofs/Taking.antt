-- The search for an order: two nodes change places, and one more is taken.
use Prim.Native.Nat.{ℕ, ◌+◌, ◌≤◌, ◌<◌}
use native.Mathlib.Omega.{arith}
use native.Mathlib.Decide.{ℕ_discrete}
use mathlib.Core.Path.{◌≡◌, refl, sym, ap, ◌∙◌, subst}
use mathlib.Core.List.{List}
use lib.ListN.{length, get_or, set, length-set}
use lib.Seq.{get_or-set_same, get_or-set_other}
use Rattle.std.specs.Prelude.{Option, Some, None, MatchOption}
use Rattle.sheet.specs.declared.Columns.{Columns}
use Rattle.order.specs.declared.OrderHeld.{OrderHeld}
use Rattle.order.specs.Order.{Links, Inverse, Order}
use Rattle.order.specs.Inside.{BareBelow, NextAt, NextBare, Swapped, Peeled}

-- ---- the search for the next
pub next : (n count : ℕ) (c : Columns) (o : OrderHeld) (tail : ℕ) (r : Option ℕ)
    → MatchOption r ((k : ℕ) → tail ≤ k → k < n → ¬ BareBelow count c o.turn tail (get_or o.order k 0))
    (λ k. (tail ≤ k) × (k < n) × BareBelow count c o.turn tail (get_or o.order k 0) × ((m : ℕ) → tail ≤ m → m < k → ¬ BareBelow count c o.turn tail (get_or o.order m 0)))
    → NextBare r n count c o tail
next n count c o tail None h = h
next n count c o tail (Some k) h = record { from = h.0; within = h.1; bare = h.2; not_yet = h.3 }

-- ---- two nodes change places
-- what is read after two writes, of which the later one counts
module _ (l : List ℕ) (a u b v : ℕ) where
  two_last : b < length l → get_or (set (set l a u) b v) b 0 ≡ v
  two_last h = get_or-set_same (set l a u) b v 0 (rw (length-set l a u) h)

  two_first : a < length l → (a ≡ b → ⊥) → get_or (set (set l a u) b v) a 0 ≡ u
  two_first h n = get_or-set_other (set l a u) b a v 0 n ∙ get_or-set_same l a u 0 h

  two_other : (j : ℕ) → (j ≡ b → ⊥) → (j ≡ a → ⊥) → get_or (set (set l a u) b v) j 0 ≡ get_or l j 0
  two_other j n m = get_or-set_other (set l a u) b j v 0 n ∙ get_or-set_other l a j u 0 m

-- the names x and y at the places p and q change places
module _ (n : ℕ) (us vs : List ℕ) (p q x y : ℕ) where
  pub record Pair : Type 0 where
    pub long : n ≤ length us
    pub wide : n ≤ length vs
    pub p_low : p < n
    pub q_low : q < n
    pub x_low : x < n
    pub y_low : y < n
    pub at_p : get_or us p 0 ≡ x
    pub at_q : get_or us q 0 ≡ y
    pub of_x : get_or vs x 0 ≡ p
    pub of_y : get_or vs y 0 ≡ q

  abbrev us' : List ℕ
  us' = set (set us p y) q x

  abbrev vs' : List ℕ
  vs' = set (set vs y p) x q

  swap_inverse : Pair → Inverse n us vs → Inverse n us' vs'
  swap_inverse w inv m h = go (ℕ_discrete m q) (ℕ_discrete m p)
    where
      named : {z : ℕ} → get_or us' m 0 ≡ z → z < n → get_or vs' z 0 ≡ m → (get_or us' m 0 < n) × (get_or vs' (get_or us' m 0) 0 ≡ m)
      named e l k = (omega arith, ap (λ (j : ℕ). get_or vs' j 0) e ∙ k)

      go : Dec (m ≡ q) → Dec (m ≡ p) → (get_or us' m 0 < n) × (get_or vs' (get_or us' m 0) 0 ≡ m)
      go (yes e) d =
          named (ap (λ (j : ℕ). get_or us' j 0) e ∙ two_last us p y q x (omega (arith, w.long, w.q_low))) w.x_low
          (two_last vs y p x q (omega (arith, w.wide, w.x_low)) ∙ sym e)
      go (no e) (yes d) =
          named (ap (λ (j : ℕ). get_or us' j 0) d ∙ two_first us p y q x (omega (arith, w.long, w.p_low)) (λ z. e (d ∙ z))) w.y_low
          (two_first vs y p x q (omega (arith, w.wide, w.y_low)) (λ z. e (d ∙ sym w.of_x ∙ sym (ap (λ (j : ℕ). get_or vs j 0) z) ∙ w.of_y)) ∙ sym d)
      go (no e) (no d) =
          named (two_other us p y q x m e d) (inv m h).0
          (two_other vs y p x q (get_or us m 0)
          (λ z. d (sym (inv m h).1 ∙ ap (λ (j : ℕ). get_or vs j 0) z ∙ w.of_x))
          (λ z. e (sym (inv m h).1 ∙ ap (λ (j : ℕ). get_or vs j 0) z ∙ w.of_y))
          ∙ (inv m h).1)

module _ {n count : ℕ} {c : Columns} {o : OrderHeld} where
  -- ---- nodes are taken
  pub peeled-order : {tail : ℕ} → Peeled n count c o tail → Links n count c → tail ≡ n → Order n count c.from c.to c.fraction o.order o.turn
  peeled-order h w e = record {
    node = λ k q. (h.node k q).0;
    turn_of = h.turn_of;
    of_turn = λ k q. (h.node k q).1;
    falls = λ j q x. h.falls j q x (omega (arith, (h.turn_of (get_or c.from j 0) (w.ends j q).0).0));
  }

  -- the node at place k is taken in turn `tail`
  module _ {k tail : ℕ} (w : Links n count c) (h : Peeled n count c o tail) (b : NextAt k n count c o tail) (low : tail < n) {new : OrderHeld} (e : Swapped k tail o new) where
    abbrev ord : List ℕ
    ord = o.order

    abbrev turn : List ℕ
    turn = o.turn

    abbrev x : ℕ
    x = get_or ord k 0

    abbrev y : ℕ
    y = get_or ord tail 0

    pair : Pair n ord turn k tail x y
    pair = record {
      long = omega (arith, e.order_long, w.nodes);
      wide = omega (arith, e.turn_long, w.nodes);
      p_low = b.within;
      q_low = low;
      x_low = (h.node k b.within).0;
      y_low = (h.node tail low).0;
      at_p = refl;
      at_q = refl;
      of_x = (h.node k b.within).1;
      of_y = (h.node tail low).1;
    }

    -- the same from the turns' side
    pair_back : Pair n turn ord y x tail k
    pair_back = record {
      long = pair.wide;
      wide = pair.long;
      p_low = pair.y_low;
      q_low = pair.x_low;
      x_low = low;
      y_low = b.within;
      at_p = pair.of_y;
      at_q = pair.of_x;
      of_x = refl;
      of_y = refl;
    }

    abbrev ord' : List ℕ
    ord' = set (set ord k y) tail x

    abbrev turn' : List ℕ
    turn' = set (set turn y k) x tail

    -- who was taken keeps his turn
    kept : (v : ℕ) → get_or turn v 0 < tail → get_or turn' v 0 ≡ get_or turn v 0
    kept v l =
        two_other turn y k x tail v (λ z. omega (arith, ap (λ (j : ℕ). get_or turn j 0) z, pair.of_x, b.from))
        (λ z. omega (arith, ap (λ (j : ℕ). get_or turn j 0) z, pair.of_y))

    -- a flowing link from f to t
    module _ (f t : ℕ) (f-low : f < n) (bare : f ≡ x → get_or turn t 0 < tail) (falls : get_or turn f 0 < tail → get_or turn t 0 < get_or turn f 0) where
      at_turn : {u v : ℕ} → u ≡ v → get_or turn' u 0 ≡ get_or turn' v 0
      at_turn e = ap (λ (i : ℕ). get_or turn' i 0) e

      still_falls : get_or turn' f 0 < tail + 1 → get_or turn' t 0 < get_or turn' f 0
      still_falls l = go (ℕ_discrete f x) (ℕ_discrete f y) (ℕ_discrete (get_or turn f 0) tail)
        where
          go : Dec (f ≡ x) → Dec (f ≡ y) → Dec (get_or turn f 0 ≡ tail) → get_or turn' t 0 < get_or turn' f 0
          go (yes e) d z =
              omega (arith, bare e, kept t (bare e), at_turn e, two_last turn y k x tail (omega (arith, pair.wide, pair.x_low)))
          go (no e) (yes d) z =
              let here : get_or turn' y 0 ≡ k = two_first turn y k x tail (omega (arith, pair.wide, pair.y_low)) (λ v. e (d ∙ v)) in
              let same : k ≡ tail = omega (arith, here, at_turn d, b.from) in
              absurd (e (d ∙ ap (λ (i : ℕ). get_or ord i 0) (sym same)))
          go (no e) (no d) (yes z) = absurd (d (sym (h.turn_of f f-low).1 ∙ ap (λ (i : ℕ). get_or ord i 0) z))
          go (no e) (no d) (no z) =
              let same : get_or turn' f 0 ≡ get_or turn f 0 = two_other turn y k x tail f e d in
              let far : get_or turn t 0 < get_or turn f 0 = falls (omega arith) in
              omega (arith, kept t (omega arith))

    taken : Peeled n count c (record { order = ord'; turn = turn' }) (tail + 1)
    taken = record {
      node = swap_inverse n ord turn k tail x y pair h.node;
      turn_of = swap_inverse n turn ord y x tail k pair_back h.turn_of;
      within = omega arith;
      falls = λ j q p. still_falls (get_or c.from j 0) (get_or c.to j 0) (w.ends j q).0 (b.bare j q p) (h.falls j q p);
    }

    pub peeled-more : Peeled n count c new (tail + 1)
    peeled-more =
        subst (λ (p : List ℕ). Peeled n count c (record { order = p; turn = new.turn }) (tail + 1)) (sym e.order)
        (subst (λ (u : List ℕ). Peeled n count c (record { order = ord'; turn = u }) (tail + 1)) (sym e.turns) taken)

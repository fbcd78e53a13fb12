-- What the links in the columns say of the sheet: an order excludes loops, and where no further node can be taken there is one.
use Prim.Native.Nat.{ℕ, ◌<◌}
use native.Mathlib.Omega.{arith}
use native.Mathlib.Decide.{dec_lt}
use mathlib.Core.Path.{◌≡◌, sym, ◌∙◌, subst}
use mathlib.Core.Bool.{Bool, true, false}
use mathlib.Core.List.Memᴰ
use mathlib.Core.List.{List, [], map, Memᴰ as In}
use lib.ListN.{length, get_or}
use lib.Dec.{ltb, eqb}
use borrow.Author.Tests.{ltb-true, lt-ltb, le-ltb, eq-eqb}
use Rattle.rules.specs.Lists.{below, nowhere, first}
use Rattle.rules.specs.Sheet.{Link, Sheet, flows}
use Rattle.rules.specs.Loop.{marked, on_loop}
use Rattle.rules.proofs.Tests.{clash, or_left, or_right}
use Rattle.rules.proofs.Lists.{below_in, in_below, table_at, mark_gives, mark_holds}
use Rattle.rules.proofs.First.{Lowest, none_below, lowest-below}
use Rattle.rules.proofs.Reach.{Ends}
use Rattle.rules.proofs.Rank.{falls_free, free_iff}
use Rattle.rules.proofs.Walk.{rest-marks}
use Rattle.rules.proofs.Peel.{Pass, rest_loop}
use Rattle.sheet.specs.Held.{held_at, held, found_said}
use Rattle.sheet.specs.declared.Columns.{Columns}
use Rattle.sheet.specs.declared.SheetHeld.{SheetHeld}
use Rattle.std.specs.Prelude.{Option, Some, None, MatchOption}
use Rattle.order.specs.declared.OrderHeld.{OrderHeld}
use Rattle.order.specs.Order.{Links, Falling, Order, sheet_of, OrderGiven}
use Rattle.order.specs.Inside.{PeeledOut, AllLed, Closed}
use Rattle.order.proofs.Taking.{peeled-order}

-- what a search of the numbers below n finds
pub lowest_found : (p : ℕ → Bool) (n : ℕ) (r : Option ℕ) → MatchOption r ((k : ℕ) → k < n → p k ≡ false) (λ k. (k < n) × (p k ≡ true) × ((j : ℕ) → j < k → p j ≡ false)) → found_said r ≡ first p (below n)
lowest_found p n None h = sym ((none_below p n).1 h)
lowest_found p n (Some k) h = sym ((lowest-below p n k).1 (record { inside = h.0; passes = h.1; before = h.2 }))

module _ (count : ℕ) (c : Columns) (ls : List ℕ) where
  -- what holds at each place holds of each link
  pub each-held : (P : Link → Type 0) → ((j : ℕ) → j < count → P (held_at c.from c.to ls c.fraction j)) → (l : Link) → In l (held count c.from c.to ls c.fraction) → P l
  each-held P p l m =
      let w = Memᴰ.of_map (held_at c.from c.to ls c.fraction) (below count) m in
      subst P w.2 (p w.0 (in_below count w.1))

  pub held_in : (j : ℕ) → j < count → In (held_at c.from c.to ls c.fraction j) (held count c.from c.to ls c.fraction)
  held_in j q = Memᴰ.map (held_at c.from c.to ls c.fraction) (below_in count j q)

module _ (h : SheetHeld) {c : Columns} (w : Links h.head.nodes h.links c) where
  module _ (traffic ls : List ℕ) where
    abbrev s : Sheet
    s = sheet_of h c traffic ls

    ends : Ends s
    ends = each-held h.links c ls (λ l. (l.from < h.head.nodes) × (l.to < h.head.nodes)) w.ends

    no_loop : (turn : List ℕ) → Falling h.links c.from c.to c.fraction turn → first (on_loop s) (below h.head.nodes) ≡ nowhere
    no_loop turn falls =
        (none_below (on_loop s) h.head.nodes).1 ((free_iff s ends).0 (falls_free s (λ i. get_or turn i 0)
        (each-held h.links c ls (λ l. flows l ≡ true → get_or turn l.to 0 < get_or turn l.from 0) (λ j q f. falls j q (ltb-true 0 (get_or c.fraction j 0) f)))))

    -- the nodes that are taken, as marks
    module _ {tail : ℕ} {o : OrderHeld} (out : PeeledOut tail h.head.nodes h.links c o) (left : tail < h.head.nodes) where
      abbrev early : ℕ → Bool
      early i = ltb (get_or o.turn i 0) tail

      pass : Pass s (map early (below h.head.nodes)) (map early (below h.head.nodes))
      pass i q bare = go (dec_lt (get_or o.turn i 0) tail)
        where
          go : Dec (get_or o.turn i 0 < tail) → marked (map early (below h.head.nodes)) i ≡ true
          go (yes l) = mark_holds early h.head.nodes i q (lt-ltb (get_or o.turn i 0) tail l)
          go (no l) =
              let place = out.peeled.turn_of i q in
              absurd (out.rest (get_or o.turn i 0) (omega arith) place.0 (λ j m x e.
              ltb-true (get_or o.turn (get_or c.to j 0) 0) tail (mark_gives early h.head.nodes (get_or c.to j 0)
              (bare (held_at c.from c.to ls c.fraction j) (held_in h.links c ls j m) (lt-ltb 0 (get_or c.fraction j 0) x) (e ∙ place.1)))))

      pub left_loop : (k : ℕ) × Lowest (on_loop s) h.head.nodes k
      left_loop =
          let here = out.peeled.node tail left in
          rest_loop s ends (map early (below h.head.nodes)) pass (get_or o.order tail 0) here.0
          (table_at early false h.head.nodes (get_or o.order tail 0) here.0 ∙ le-ltb (get_or o.turn (get_or o.order tail 0) 0) tail (omega (arith, here.1)))

    -- marks at rest
    pub rest-on_loop : (i : ℕ) (r : List Bool) → AllLed h.links c i r → Closed h.links c i r → marked r i ≡ on_loop s i
    rest-on_loop i r led closed =
        rest-marks s i ends r (led ls)
        (each-held h.links c ls (λ l. flows l ≡ true → l.from ≡ i → marked r l.to ≡ true)
        (λ j q f e. closed j q (ltb-true 0 (get_or c.fraction j 0) f) (or_left (marked r (get_or c.from j 0)) (eq-eqb (get_or c.from j 0) i e))))
        (record {
          keeps = λ j t. t;
          goes =
              each-held h.links c ls (λ l. flows l ≡ true → marked r l.from ≡ true → marked r l.to ≡ true)
              (λ j q f t. closed j q (ltb-true 0 (get_or c.fraction j 0) f) (or_right (eqb (get_or c.from j 0) i) t));
        })
        i

  -- ---- what find_order answers
  module _ {o : OrderHeld} (order_long : length o.order ≡ 64) (turn_long : length o.turn ≡ 64) where
    pub order_given : Order h.head.nodes h.links c.from c.to c.fraction o.order o.turn → OrderGiven None h c o
    order_given r = record { said = λ traffic ls. sym (no_loop traffic ls o.turn r.falls); sorted = λ e. r; order_long = order_long; turn_long = turn_long }

    module _ {tail : ℕ} (out : PeeledOut tail h.head.nodes h.links c o) where
      pub peeled_given : tail ≡ h.head.nodes → OrderGiven None h c o
      peeled_given e = order_given (peeled-order out.peeled w e)

      pub loop_given : {r : Option ℕ} → (tail ≡ h.head.nodes → ⊥) → ((traffic ls : List ℕ) → found_said r ≡ first (on_loop (sheet_of h c traffic ls)) (below h.head.nodes))
          → OrderGiven r h c o
      loop_given n said = record {
        said = said;
        sorted = λ e.
            let low = left_loop [] [] out (omega (arith, out.peeled.within)) in
            clash low.1.passes ((none_below (on_loop (sheet_of h c [] [])) h.head.nodes).0 (sym (said [] []) ∙ e) low.0 low.1.inside);
        order_long = order_long;
        turn_long = turn_long;
      }

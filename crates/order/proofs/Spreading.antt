-- The pass that marks, and how it comes to rest.
use Prim.Native.Nat.{ℕ, ◌+◌, ◌-◌, ◌<◌}
use native.Mathlib.Omega.{arith}
use native.Mathlib.Decide.{dec_lt, ℕ_discrete}
use mathlib.Core.Path.{◌≡◌, refl, sym, ap, ◌∙◌, subst}
use mathlib.Core.Logic.{◌⊎◌, inl, inr}
use mathlib.Core.Bool.{Bool, true, false, ◌&&◌, ◌||◌, not}
use mathlib.Core.List.{List, []}
use lib.ListN.{length, get_or, set, length-set, replicate, get_or-replicate, get_or-eq_default}
use lib.Seq.{get_or-set_same, get_or-set_other}
use lib.Dec.{ltb, eqb}
use borrow.Author.Count.{below_more}
use borrow.Author.Tests.{lt-ltb, eqb-true, not-true}
use Rattle.rules.specs.Lists.{bit}
use Rattle.rules.specs.Sheet.{Sheet}
use Rattle.rules.specs.Loop.{Leads, marked}
use Rattle.rules.proofs.Tests.{known, clash, and_gives, or_gives}
use Rattle.rules.proofs.Marks.{marks, marks_le, fewer}
use Rattle.rules.proofs.Walk.{led-from, led_on}
use Rattle.sheet.specs.declared.Columns.{Columns}
use Rattle.sheet.specs.Held.{held_at, held}
use Rattle.order.specs.Inside.{AllLed, Closed, Spread}
use Rattle.order.proofs.Loops.{held_in}

-- link j leads on to a node without a mark
abbrev pub leads : Columns → ℕ → List Bool → ℕ → Bool
leads c i r j = ltb 0 (get_or c.fraction j 0) && ((eqb (get_or c.from j 0) i || marked r (get_or c.from j 0)) && not (marked r (get_or c.to j 0)))

set_more : (r : List Bool) (t : ℕ) → t < length r → marked r t ≡ false → marks r < marks (set r t true)
set_more r t l n = fewer r (set r t true) t (sym (length-set r t true)) keeps (get_or-set_same r t true false l) n
  where
    keeps : (j : ℕ) → marked r j ≡ true → marked (set r t true) j ≡ true
    keeps j m = go (ℕ_discrete j t)
      where
        go : Dec (j ≡ t) → marked (set r t true) j ≡ true
        go (yes e) = rw e (get_or-set_same r t true false l)
        go (no e) = get_or-set_other r t j true false e ∙ m

module _ {count : ℕ} {c : Columns} {i : ℕ} {old : List Bool} where
  module _ {grew : Bool} {j : ℕ} {r : List Bool} (h : Spread grew count j c i old r) where
    spread_mark : j < count → get_or c.to j 0 < length r → leads c i r j ≡ true → Spread true count (j + 1) c i old (set r (get_or c.to j 0) true)
    spread_mark l inside e =
        let p = and_gives (ltb 0 (get_or c.fraction j 0)) ((eqb (get_or c.from j 0) i || marked r (get_or c.from j 0)) && not (marked r (get_or c.to j 0))) e in
        let q = and_gives (eqb (get_or c.from j 0) i || marked r (get_or c.from j 0)) (not (marked r (get_or c.to j 0))) p.1 in
        let up = set_more r (get_or c.to j 0) inside (not-true (marked r (get_or c.to j 0)) q.1) in
        record {
          size = length-set r (get_or c.to j 0) true ∙ h.size;
          led = λ w ls. on_from ls p.0 (or_gives (eqb (get_or c.from j 0) i) (marked r (get_or c.from j 0)) q.0) (h.led w ls);
          more = λ t. grown up (known grew);
          rest = λ t. clash refl t;
        }
      where
        -- any sheet with these links
        net : List ℕ → Sheet
        net ls = record { nodes = 0; destination = 0; step = 0; traffic = []; links = held count c.from c.to ls c.fraction }

        on_from : (ls : List ℕ) → ltb 0 (get_or c.fraction j 0) ≡ true → (eqb (get_or c.from j 0) i ≡ true) ⊎ (marked r (get_or c.from j 0) ≡ true)
            → ((k : ℕ) → marked r k ≡ true → Leads (held count c.from c.to ls c.fraction) i k) → (k : ℕ) → marked (set r (get_or c.to j 0) true) k ≡ true → Leads (held count c.from c.to ls c.fraction) i k
        on_from ls f (inl a) w = led-from (net ls) i r (held_at c.from c.to ls c.fraction j) (held_in count c ls j l) f w (eqb-true (get_or c.from j 0) i a)
        on_from ls f (inr a) w = led_on (net ls) i r (held_at c.from c.to ls c.fraction j) (held_in count c ls j l) f w a

        grown : marks r < marks (set r (get_or c.to j 0) true) → (grew ≡ true) ⊎ (grew ≡ false) → marks old < marks (set r (get_or c.to j 0) true)
        grown up (inl t) = omega (arith, h.more t)
        grown up (inr f) = omega (arith, ap marks (h.rest f).0)

    spread_skip : leads c i r j ≡ false → Spread grew count (j + 1) c i old r
    spread_skip e = record {
      size = h.size;
      led = h.led;
      more = h.more;
      rest = λ t. ((h.rest t).0, below_more _ j (h.rest t).1 (λ x a. go x a (known (marked r (get_or c.to j 0)))));
    }
      where
        go : 0 < get_or c.fraction j 0 → (eqb (get_or c.from j 0) i || marked r (get_or c.from j 0)) ≡ true → (marked r (get_or c.to j 0) ≡ true) ⊎ (marked r (get_or c.to j 0) ≡ false) → marked r (get_or c.to j 0) ≡ true
        go x a (inl t) = t
        go x a (inr f) = clash (rw (lt-ltb 0 (get_or c.fraction j 0) x, a, f)) e

    -- as the code has it: what was told of link j, and what it left
    module _ {told g : Bool} {m : List Bool} (e : told ≡ leads c i r j) where
      pub spread_taken : j < count → get_or c.to j 0 < length r → told ≡ true → m ≡ set r (get_or c.to j 0) true → g ≡ true → Spread g count (j + 1) c i old m
      spread_taken l inside t p q =
          subst (λ (b : Bool). Spread b count (j + 1) c i old m) (sym q)
          (subst (λ (u : List Bool). Spread true count (j + 1) c i old u) (sym p) (spread_mark l inside (sym e ∙ t)))

      pub spread_left : told ≡ false → m ≡ r → g ≡ grew → Spread g count (j + 1) c i old m
      spread_left t p q =
          subst (λ (b : Bool). Spread b count (j + 1) c i old m) (sym q)
          (subst (λ (u : List Bool). Spread grew count (j + 1) c i old u) (sym p) (spread_skip (sym e ∙ t)))

-- ---- pass after pass
pub record Resting (grew : Bool) (count : ℕ) (c : Columns) (i : ℕ) (r : List Bool) : Type 0 where
  pub size : length r ≡ 64
  pub led : AllLed count c i r
  pub closed : grew ≡ false → Closed count c i r

module _ {count : ℕ} {c : Columns} {i : ℕ} where
  pub resting_none : Resting true count c i (replicate 64 false)
  resting_none = record { size = refl; led = λ ls j t. clash t (go (dec_lt j 64)); closed = λ e. clash refl e }
    where
      go : {j : ℕ} → Dec (j < 64) → marked (replicate 64 false) j ≡ false
      go {j} (yes l) = get_or-replicate 64 j false false l
      go {j} (no l) = get_or-eq_default (replicate 64 false) false {n = j} (omega arith)

  module _ {grew : Bool} {old r : List Bool} (s : Spread grew count count c i old r) where
    pub resting_less : length old ≡ 64 → bit grew + (64 - marks r) < bit true + (64 - marks old)
    resting_less h = go grew refl
      where
        go : (b : Bool) → grew ≡ b → bit b + (64 - marks r) < bit true + (64 - marks old)
        go true e = omega (arith, s.more e, marks_le r, s.size)
        go false e = omega (arith, ap marks (s.rest e).0)

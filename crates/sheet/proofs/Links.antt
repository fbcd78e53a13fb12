-- The loop over the link records: what the whole reading says is what it says from here on, behind the links held so far.
use Prim.Native.Nat.{ℕ, suc, ◌+◌, ◌-◌, ◌*◌, ◌≤◌, ◌<◌}
use mathlib.Core.Path.{◌≡◌, refl, sym, ap, ap₂, ◌∙◌}
use mathlib.Core.Logic.{⊎_elim}
use mathlib.Core.Bool.{Bool, true, false, cond, ◌&&◌}
use mathlib.Core.List.{List, [], ◌∷◌, ◌++◌, map, map-append}
use Rattle.std.specs.Prelude.{Option, None, Some}
use native.Mathlib.Omega.{arith}
use native.Mathlib.Numerals.{add-one}
use native.Mathlib.Decide.{dec_lt}
use lib.ListN.{length, get_or, set, length-set}
use lib.Seq.{get_or-set_same, get_or-set_other}
use lib.Dec.{leb, ltb, eqb}
use borrow.Author.Tests.{lt-ltb, le-leb, leb-true, eq-eqb, ne_eqb, eqb-true}
use Rattle.rules.specs.Lists.{below}
use Rattle.rules.specs.Sheet.{Link}
use Rattle.rules.specs.Bytes.{AreBytes}
use Rattle.rules.specs.Check.{Read, wrong, read, record_at, in_range, link_fields, Item, the_end, link, item_at, rises, follows, links_from}
use Rattle.rules.proofs.Tests.{same_test, and_gives, and_holds, or_left, or_right}
use Rattle.rules.proofs.Lists.{map_eq, in_below, below_last}
use Rattle.rules.proofs.Order.{rises_less}
use Rattle.rules.proofs.Records.{unread, record_gives, record_holds}
use Rattle.rules.proofs.Steps.{links_stop, links_end, links-full, links-low, links_on, pushed_all, pushed_last, pushed-wrong, pushed_end}
use Rattle.sheet.specs.declared.Columns.{Columns}
use Rattle.sheet.specs.Held.{held_at, held, links_in, last_held, key_of, LinkRoom, stopped, TakenHeld, Lent}

pub and_true : (a : Bool) {b : Bool} → b ≡ true → (a && b) ≡ a
and_true true q = q
and_true false q = refl

-- ---- the order by keys
abbrev key : Link → ℕ
key l = key_of l.from l.to

rises_by_key : (l m : Link) → l.to < 256 → m.to < 256 → rises l m ≡ leb (key l + 1) (key m)
rises_by_key l m p q = same_test (rises l m) (leb (key l + 1) (key m)) up down
  where
    up : rises l m ≡ true → leb (key l + 1) (key m) ≡ true
    up r = le-leb (key l + 1) (key m) (⊎_elim (λ a. omega arith) (λ a. omega arith) (rises_less l m r))

    down : leb (key l + 1) (key m) ≡ true → rises l m ≡ true
    down r = go (dec_lt l.from m.from) (leb-true (key l + 1) (key m) r)
      where
        go : Dec (l.from < m.from) → key l + 1 ≤ key m → rises l m ≡ true
        go (yes a) h = or_left (eqb l.from m.from && ltb l.to m.to) (lt-ltb l.from m.from a)
        go (no a) h =
            let same : l.from ≡ m.from = omega arith in
            let less : l.to < m.to = omega arith in
            or_right (ltb l.from m.from) (and_holds (eq-eqb l.from m.from same) (lt-ltb l.to m.to less))

-- ---- what stands where a link is due
module _ (b : List ℕ) (o n : ℕ) where
  fields : Link → Read Item
  fields l = cond (in_range n l) (read (link l) (o + 8)) (wrong 3 o)

  pub item_taken : get_or b o 0 ≡ 3 → o + 8 ≤ length b → in_range n (link_fields b o) ≡ true → item_at b o n ≡ read (link (link_fields b o)) (o + 8)
  unfolding fields
  item_taken kind room range =
      let other : get_or b o 0 ≡ 9 → ⊥ = λ e. omega (arith, kind, e) in
      rw (ne_eqb (get_or b o 0) 9 other) (record_holds b o 3 7 (fields (link_fields b o)) kind (omega arith) ∙ rw range)

  pub item_link : {l : Link} {e : ℕ} → item_at b o n ≡ read (link l) e
      → (get_or b o 0 ≡ 3) × (o + 8 ≤ length b) × (in_range n (link_fields b o) ≡ true) × (link_fields b o ≡ l)
  unfolding fields
  item_link {l} {e} q = go (eqb (get_or b o 0) 9) q
    where
      passed : (c : Bool) → in_range n (link_fields b o) ≡ c → cond c (read (link (link_fields b o)) (o + 8)) (wrong 3 o) ≡ read (link l) e
          → (in_range n (link_fields b o) ≡ true) × (link_fields b o ≡ l)
      passed true r p = (r, cc)
      passed false r p = unread p

      go : (c : Bool) → cond c (read the_end (o + 1)) (record_at b o 3 7 (fields (link_fields b o))) ≡ read (link l) e
          → (get_or b o 0 ≡ 3) × (o + 8 ≤ length b) × (in_range n (link_fields b o) ≡ true) × (link_fields b o ≡ l)
      go true p = let z : ◌≡◌ {A = ℕ} 0 1 = cc in absurd (omega arith)
      go false p =
          let w = record_gives b o 3 7 (fields (link_fields b o)) p in
          let v = passed (in_range n (link_fields b o)) refl w.2 in
          (w.0, omega (arith, w.1), v.0, v.1)

-- the four lists with a link stored at k
module _ (k : ℕ) (fs ts ls xs : List ℕ) (l : Link) (hf : k < length fs) (ht : k < length ts) (hl : k < length ls) (hx : k < length xs) where
  abbrev stored_at : ℕ → Link
  stored_at i = held_at (set fs k l.from) (set ts k l.to) (set ls k l.load) (set xs k l.fraction) i

  stored_here : stored_at k ≡ l
  stored_here = rw (get_or-set_same fs k l.from 0 hf, get_or-set_same ts k l.to 0 ht, get_or-set_same ls k l.load 0 hl, get_or-set_same xs k l.fraction 0 hx)

  stored_other : (i : ℕ) → i < k → stored_at i ≡ held_at fs ts ls xs i
  stored_other i h =
      let n : i ≡ k → ⊥ = λ e. omega arith in
      rw (get_or-set_other fs k i l.from 0 n, get_or-set_other ts k i l.to 0 n, get_or-set_other ls k i l.load 0 n, get_or-set_other xs k i l.fraction 0 n)

  held_more : held k fs ts ls xs ++ (l ∷ []) ≡ held (k + 1) (set fs k l.from) (set ts k l.to) (set ls k l.load) (set xs k l.fraction)
  held_more = sym (
      ap (λ (n : ℕ). map stored_at (below n)) (add-one k)
      ∙ ap (map stored_at) (below_last k)
      ∙ map-append stored_at (below k) (k ∷ [])
      ∙ ap₂ (λ (ys : List Link) (y : Link). ys ++ (y ∷ [])) (map_eq stored_at (held_at fs ts ls xs) (below k) (λ i m. stored_other i (in_below k m))) stored_here)

  last_more : Some l ≡ last_held (k + 1) (set fs k l.from) (set ts k l.to) (set ls k l.load) (set xs k l.fraction)
  last_more = rw add-one (ap Some (sym stored_here))

pub room_left : {r k o : ℕ} {b : List ℕ} {start : ℕ} → LinkRoom r b start → k < r → o ≡ start + 8 * k → o + 8 ≤ length b
room_left {r} {k} room p at = omega (arith, room.fits k p)

-- the columns with a link stored at k
abbrev pub stored : ℕ → Link → Columns → Columns
stored k l c = record c { from = set c.from k l.from; to = set c.to k l.to; load = set c.load k l.load; fraction = set c.fraction k l.fraction }

pub lent_more : (k : ℕ) (l : Link) {c : Columns} → Lent c → Lent (stored k l c)
lent_more k l {c} h = record {
  nodes = h.nodes;
  froms = length-set c.from k l.from ∙ h.froms;
  tos = length-set c.to k l.to ∙ h.tos;
  loads = length-set c.load k l.load ∙ h.loads;
  fractions = length-set c.fraction k l.fraction ∙ h.fractions;
}

pub record LinksSoFar (b : List ℕ) (start n : ℕ) (c : Columns) (k o least : ℕ) : Type 0 where
  pub few : k ≤ 512
  pub at : o ≡ start + 8 * k
  pub order : (l : Link) → l.to < 256 → follows (last_held k c.from c.to c.load c.fraction) l ≡ leb least (key l)
  pub rest : links_from 512 b start n None ≡ pushed_all (links_in k c) (links_from (512 - k) b o n (last_held k c.from c.to c.load c.fraction))

module _ {b : List ℕ} {start n : ℕ} {c : Columns} where
  module _ {k o least : ℕ} (h : LinksSoFar b start n c k o least) where
    -- what is held so far
    abbrev done : List Link
    done = links_in k c

    abbrev last : Option Link
    last = last_held k c.from c.to c.load c.fraction

    -- no more is taken: then a link that stands there is wrong
    stop : ((l : Link) (e : ℕ) → item_at b o n ≡ read (link l) e → links_from (512 - k) b o n last ≡ wrong 4 o)
        → TakenHeld (record { count = k; behind = o }) b start n c
    stop over = record { said = sym (h.rest ∙ go (item_at b o n) refl); room = h.few }
      where
        go : (x : Read Item) → item_at b o n ≡ x → pushed_all done (links_from (512 - k) b o n last) ≡ stopped x o done
        go (wrong m p) q = ap (pushed_all done) (links_stop b o n last (512 - k) q) ∙ pushed-wrong done m p
        go (read the_end e) q = ap (pushed_all done) (links_end b o n last (512 - k) q) ∙ pushed_end done e
        go (read (link l) e) q = ap (pushed_all done) (over l e q) ∙ pushed-wrong done 4 o

    -- for want of room: there stands no link, or it is one too many
    pub so_far_full : {r : ℕ} → LinkRoom r b start → r ≡ k → TakenHeld (record { count = r; behind = o }) b start n c
    so_far_full {r} room same = rw same (stop (λ l e q. go (dec_lt k 512) l q))
      where
        go : Dec (k < 512) → (l : Link) {e : ℕ} → item_at b o n ≡ read (link l) e → links_from (512 - k) b o n last ≡ wrong 4 o
        go (yes a) l q = absurd (omega (arith, (item_link b o n q).1, room.ends k (omega arith) a, h.at))
        go (no a) l q =
            let z : 512 - k ≡ 0 = omega (arith, h.few) in
            ap (λ (m : ℕ). links_from m b o n last) z ∙ links-full b o n last q

    module _ (fit : AreBytes b) {l : Link} {t : Bool} (is : l ≡ link_fields b o) (tested : t ≡ (leb least (key l) && (eqb (get_or b o 0) 3 && in_range n l))) where
      small : l.to < 256
      small = omega (arith, ap (λ (m : Link). m.to) is, fit (o + 2))

      -- it is none, or does not follow
      pub so_far_stop : t ≡ false → TakenHeld (record { count = k; behind = o }) b start n c
      so_far_stop f = stop (λ m e q. low m q (item_link b o n q))
        where
          low : (m : Link) {e : ℕ} → item_at b o n ≡ read (link m) e
              → (get_or b o 0 ≡ 3) × (o + 8 ≤ length b) × (in_range n (link_fields b o) ≡ true) × (link_fields b o ≡ m)
              → links_from (512 - k) b o n last ≡ wrong 4 o
          low m q w =
              let same : l ≡ m = is ∙ w.3 in
              let range : in_range n l ≡ true = ap (in_range n) is ∙ w.2 in
              let under : leb least (key l) ≡ false = sym (and_true (leb least (key l)) (and_holds (eq-eqb (get_or b o 0) 3 w.0) range)) ∙ sym tested ∙ f in
              links-low b o n last q (512 - k) (ap (follows last) (sym same) ∙ h.order l small ∙ under)

      pub so_far_more : {r v : ℕ} → LinkRoom r b start → k < r → t ≡ true → v ≡ key l
          → Lent c
          → LinksSoFar b start n (stored k l c) (k + 1) (o + 8) (v + 1)
      so_far_more {r} {v} room p f made lent =
          let tests = and_gives (leb least (key l)) (eqb (get_or b o 0) 3 && in_range n l) (sym tested ∙ f) in
          let two = and_gives (eqb (get_or b o 0) 3) (in_range n l) tests.1 in
          let kind : get_or b o 0 ≡ 3 = eqb-true (get_or b o 0) 3 two.0 in
          let space : o + 8 ≤ length b = room_left room p h.at in
          let here : item_at b o n ≡ read (link l) (o + 8) =
          item_taken b o n kind space (ap (in_range n) (sym is) ∙ two.1) ∙ ap (λ (m : Link). read (link m) (o + 8)) (sym is) in
          let follow : follows last l ≡ true = h.order l small ∙ tests.0 in
          let inside : k < 512 = omega (arith, p, room.cap) in
          let hf : k < length c.from = omega (arith, inside, lent.froms) in
          let ht : k < length c.to = omega (arith, inside, lent.tos) in
          let hl : k < length c.load = omega (arith, inside, lent.loads) in
          let hx : k < length c.fraction = omega (arith, inside, lent.fractions) in
          let y : 512 - k ≡ suc (512 - (k + 1)) = omega (arith, inside) in
          let more = held_more k c.from c.to c.load c.fraction l hf ht hl hx in
          let next = last_more k c.from c.to c.load c.fraction l hf ht hl hx in
          record {
            few = omega (arith, inside);
            at = omega (arith, h.at);
            order = λ m q. ap (λ (before : Option Link). follows before m) (sym next) ∙ rw made (rises_by_key l m small q);
            rest =
                h.rest
                ∙ ap (λ (m : ℕ). pushed_all done (links_from m b o n last)) y
                ∙ ap (pushed_all done) (links_on b o n last here (512 - (k + 1)) follow)
                ∙ pushed_last done l (links_from (512 - (k + 1)) b (o + 8) n (Some l))
                ∙ λ i. pushed_all (more i) (links_from (512 - (k + 1)) b (o + 8) n (next i));
          }

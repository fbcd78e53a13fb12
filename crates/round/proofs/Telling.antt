-- The nodes tell their words one after another, and each has heard all that it needs when its turn comes.
use Prim.Native.Nat.{ℕ, ◌+◌, ◌/◌, ◌≤◌, ◌<◌}
use native.Mathlib.Omega.{arith}
use native.Mathlib.Decide.{ℕ_discrete, dec_lt}
use mathlib.Core.Path.{◌≡◌, sym, ap, ◌∙◌}
use mathlib.Core.Bool.{true}
use mathlib.Core.List.Memᴰ
use mathlib.Core.List.{List}
use lib.ListN.{length, get_or}
use borrow.Author.Tests.{ltb-true}
use Rattle.rules.specs.Lists.{below}
use Rattle.rules.specs.Sheet.{Link, Sheet, flows, largest_stored}
use Rattle.rules.specs.Desk.{silent, heard, delay_told, message, status}
use Rattle.rules.specs.Round.{full_desk}
use Rattle.rules.specs.Messages.{State, back, desk, link_of}
use Rattle.rules.proofs.Tests.{clash}
use Rattle.rules.proofs.Lists.{in_below, full_count}
use Rattle.rules.proofs.Sound.{Sound, row_from, row-link}
use Rattle.rules.proofs.Words.{delay-top}
use Rattle.rules.proofs.Right.{Right, ready-one, heard-ready, message-right}
use Rattle.rules.proofs.Run.{outcome-done}
use Rattle.desk.specs.declared.Message.{Message}
use Rattle.desk.specs.Ways.{told_of, message_said}
use Rattle.desk.proofs.Places.{delay_is}
use Rattle.sheet.specs.declared.SheetHeld.{SheetHeld}
use Rattle.sheet.specs.Held.{held_at}
use Rattle.sheet.proofs.Facts.{held-length, held-at}
use Rattle.node.specs.declared.NetHeld.{NetHeld}
use Rattle.node.specs.Net.{RowAt, Tells, RowsRise, state_said, SmallInbox, Lendable, Renewed, net_sheet}
use Rattle.node.proofs.Held.{state_length, state_at, links-few, turns, back-held, held_in, desk-held, row-held, outcome-held, far-rise, lendable}
use Rattle.round.specs.Calculated.{Tellable, Noted, Ordered, Given, AllTold, Calculated, ToldFor, CalculatedFor, with_ends}

-- ---- the nodes in the first k turns have told the calculation's word, and no other has told anything
pub record ToldTo (h : SheetHeld) (net : NetHeld) (k : ℕ) (inbox : List ℕ) : Type 0 where
  pub size : length inbox ≡ 512
  pub word : (j : ℕ) → j < h.links → get_or net.order.turn (get_or net.columns.from j 0) 0 < k
      → told_of (get_or inbox (get_or net.opposite j 0) 0) ≡ message (full_desk (net_sheet h net) (get_or net.columns.from j 0))
  pub still : (j : ℕ) → j < h.links → k ≤ get_or net.order.turn (get_or net.columns.from j 0) 0 → get_or inbox (get_or net.opposite j 0) 0 ≡ 0
  pub rest : (p : ℕ) → h.links ≤ p → get_or inbox p 0 ≡ 0

module _ {h : SheetHeld} {net : NetHeld} {line : List ℕ} (given : Ordered h net line) where
  abbrev tr : List ℕ
  tr = net.columns.traffic

  abbrev fs : List ℕ
  fs = net.columns.from

  abbrev ts : List ℕ
  ts = net.columns.to

  abbrev ls : List ℕ
  ls = net.columns.load

  abbrev xs : List ℕ
  xs = net.columns.fraction

  abbrev ss : List ℕ
  ss = net.rows.starts

  abbrev gs : List ℕ
  gs = net.rows.flow_starts

  abbrev ps : List ℕ
  ps = net.rows.flow

  abbrev os : List ℕ
  os = net.opposite

  abbrev ord : List ℕ
  ord = net.order.order

  abbrev turn : List ℕ
  turn = net.order.turn

  abbrev s : Sheet
  s = net_sheet h net

  ok : Sound s
  ok = given.held.graph.sound

  end_in : (i : ℕ) → i < h.head.nodes → get_or ss (i + 1) 0 ≤ h.links
  end_in i low = given.held.graph.rows.top (i + 1) (omega arith)

  from_low : (j : ℕ) → j < h.links → get_or fs j 0 < h.head.nodes
  from_low j a = (ok.fits (held_at fs ts ls xs j) (held_in given.held.graph j a)).from_in

  -- whose turn it is, in a list of the turns
  pub turn_in : (is : List ℕ) → length is ≡ h.head.nodes → ((k : ℕ) → k < h.head.nodes → get_or is k 0 ≡ get_or ord k 0) → {k : ℕ} → k < length is
      → (k < h.head.nodes) × (get_or is k 0 ≡ get_or ord k 0) × (get_or is k 0 < h.head.nodes)
  turn_in is z same {k} b =
      let low : k < h.head.nodes = omega arith in
      (low, same k low, rw (same k low) (given.order.node k low))

  module _ {k : ℕ} {inbox : List ℕ} (so : ToldTo h net k inbox) where
    abbrev st : State
    st = state_said h.links os inbox

    -- what link j's node hears over it
    heard-from : (j : ℕ) → j < h.links → get_or turn (get_or ts j 0) 0 < k
        → told_of (get_or inbox j 0) ≡ message (full_desk s (get_or ts j 0))
    heard-from j a b =
        let o = given.held.graph.opposites in
        let e : get_or fs (get_or os j 0) 0 ≡ get_or ts j 0 = o.from j a in
        ap (λ (x : ℕ). told_of (get_or inbox x 0)) (sym (turns given.held.graph j a))
        ∙ so.word (get_or os j 0) (o.low j a) (rw e b)
        ∙ ap (λ (i : ℕ). message (full_desk s i)) e

    told-right : Right s st
    told-right = record {
      size = state_length h.links os inbox ∙ sym (held-length h.links fs ts ls xs);
      holds = λ j a e. let b : j < h.links = omega (arith, held-length h.links fs ts ls xs) in
          at j b e (dec_lt (get_or turn (get_or fs j 0) 0) k);
    }
      where
        at : (j : ℕ) → j < h.links → heard (get_or st j silent) ≡ true → Dec (get_or turn (get_or fs j 0) 0 < k)
            → get_or st j silent ≡ message (full_desk s (link_of s j).from)
        at j a e (yes b) =
            state_at h.links os inbox j a ∙ so.word j a b
            ∙ ap (λ (l : Link). message (full_desk s l.from)) (sym (held-at h.links fs ts ls xs j a))
        at j a e (no b) = clash e (ap heard (state_at h.links os inbox j a ∙ ap told_of (so.still j a (omega arith))))

    pub told-small : SmallInbox inbox
    told-small p = go (dec_lt p h.links) (dec_lt (get_or turn (get_or ts p 0) 0) k)
      where
        go : Dec (p < h.links) → Dec (get_or turn (get_or ts p 0) 0 < k) → get_or inbox p 0 / 4 ≤ largest_stored
        go (yes a) (yes b) =
            omega (
              arith,
              delay_is (get_or inbox p 0),
              ap delay_told (heard-from p a b),
              delay-top ok (get_or ts p 0) (ok.fits (held_at fs ts ls xs p) (held_in given.held.graph p a)).to_in,
            )
        go (yes a) (no b) = let o = given.held.graph.opposites in
            let e : get_or inbox p 0 ≡ 0 =
            ap (λ (x : ℕ). get_or inbox x 0) (sym (turns given.held.graph p a))
            ∙ so.still (get_or os p 0) (o.low p a) (omega (arith, ap (λ (x : ℕ). get_or turn x 0) (o.from p a))) in
            rw e (omega arith)
        go (no a) d = rw (so.rest p (omega arith)) (omega arith)

    -- any node's row can be lent to its desk, and its word be told
    module _ {i : ℕ} (low : i < h.head.nodes) where
      pub row-ready : RowAt i ss gs ps line xs inbox
      row-ready = row-held given.held inbox so.size i low told-small

      pub tell_ready : Tellable i ss os
      tell_ready = record {
        node = omega (arith, ok.few);
        rise = given.held.graph.rows.rise i low;
        top = omega (arith, end_in i low, links-few given.held.graph);
        low = λ l b. omega (arith, given.held.graph.opposites.low l (omega (arith, end_in i low)), links-few given.held.graph);
      }

    -- the node whose turn it is
    module _ (low : k < h.head.nodes) {i : ℕ} (is : i ≡ get_or ord k 0) where
      i_low : i < h.head.nodes
      i_low = rw is (given.order.node k low)

      i_turn : get_or turn i 0 ≡ k
      i_turn = rw is (given.order.of_turn k low)

      -- every node that it has a flowing link to had its turn
      status-one : 1 ≤ status (desk s st i)
      status-one = ready-one (desk s st i) (heard-ready s (back s.links st) i (λ l m f.
          let r = Memᴰ.of_map (held_at fs ts ls xs) (below h.links) (row-link i s.links m) in
          at r.0 (in_below h.links r.1) l r.2 (row_from i s.links m) f))
        where
          at : (j : ℕ) → j < h.links → (l : Link) → held_at fs ts ls xs j ≡ l → l.from ≡ i → flows l ≡ true → heard (back s.links st l) ≡ true
          at j a l e from f =
              let near : get_or fs j 0 ≡ i = ap (λ (x : Link). x.from) e ∙ from in
              let flow : 0 < get_or xs j 0 = ltb-true 0 (get_or xs j 0) (ap flows e ∙ f) in
              let turn_at : get_or turn (get_or fs j 0) 0 ≡ k = ap (λ (x : ℕ). get_or turn x 0) near ∙ i_turn in
              ap (λ (x : Link). heard (back s.links st x)) (sym e)
              ∙ ap heard (back-held given.held.graph inbox j a ∙ heard-from j a (omega (arith, given.order.falls j a flow)))

      word-right : {m : Message} → Tells m h.head.step.0 (get_or tr i 0) ss line xs inbox i → message_said m ≡ message (full_desk s i)
      word-right t =
          t.said ts (omega (arith, end_in i i_low, links-few given.held.graph, given.held.graph.to-size))
          ∙ ap message (sym (desk-held given.held inbox so.size i i_low))
          ∙ message-right ok told-right i status-one

      pub told_more : {m : Message} {w : ℕ} {new : List ℕ} → Tells m h.head.step.0 (get_or tr i 0) ss line xs inbox i → told_of w ≡ message_said m
          → length new ≡ 512 → Noted (get_or ss i 0) (get_or ss (i + 1) 0) os w inbox new → ToldTo h net (k + 1) new
      told_more {m} {w} {new} t e long put = record {
        size = long;
        word = λ j a b. at j a b (ℕ_discrete (get_or fs j 0) i);
        still = λ j a b. kept j a (λ q. omega (arith, turn_is j q)) ∙ so.still j a (omega arith);
        rest = λ p b. put.other p (λ l c d q. omega (arith, given.held.graph.opposites.low l (omega (arith, end_in i i_low)))) ∙ so.rest p b;
      }
        where
          turn_is : (j : ℕ) → get_or fs j 0 ≡ i → get_or turn (get_or fs j 0) 0 ≡ k
          turn_is j q = ap (λ (x : ℕ). get_or turn x 0) q ∙ i_turn

          -- another node's word stays
          kept : (j : ℕ) → j < h.links → (get_or fs j 0 ≡ i → ⊥) → get_or new (get_or os j 0) 0 ≡ get_or inbox (get_or os j 0) 0
          kept j a other = put.other (get_or os j 0) (λ l c d q.
              let same : l ≡ j = sym (turns given.held.graph l (omega (arith, end_in i i_low))) ∙ ap (λ (x : ℕ). get_or os x 0) q ∙ turns given.held.graph j a in
              other (ap (λ (x : ℕ). get_or fs x 0) (sym same) ∙ given.held.graph.rows.inside i l i_low c d))

          at : (j : ℕ) → j < h.links → get_or turn (get_or fs j 0) 0 < k + 1 → Dec (get_or fs j 0 ≡ i)
              → told_of (get_or new (get_or os j 0) 0) ≡ message (full_desk s (get_or fs j 0))
          at j a b (yes q) =
              let r = given.held.graph.rows.found j a in
              let first : get_or ss i 0 ≤ j = omega (arith, r.0, ap (λ (x : ℕ). get_or ss x 0) q) in
              let last : j < get_or ss (i + 1) 0 = omega (arith, r.1, ap (λ (x : ℕ). get_or ss (x + 1) 0) q) in
              ap told_of (put.here j first last) ∙ e ∙ word-right t ∙ ap (λ (x : ℕ). message (full_desk s x)) (sym q)
          at j a b (no ne) =
              let apart : get_or turn (get_or fs j 0) 0 ≡ k → ⊥ = λ q. ne (sym (given.order.turn_of (get_or fs j 0) (from_low j a)).1 ∙ ap (λ (x : ℕ). get_or ord x 0) q ∙ sym is) in
              ap told_of (kept j a ne) ∙ so.word j a (omega arith)

  pub told_all : {k : ℕ} {inbox : List ℕ} → ToldTo h net k inbox → h.head.nodes ≤ k → AllTold h net inbox
  told_all {k} {inbox} so last = record {
    small = told-small so;
    right = told-right so;
    done = full_count heard (state_said h.links os inbox) (λ w m.
        let r = Memᴰ.of_map (λ j. told_of (get_or inbox (get_or os j 0) 0)) (below h.links) m in
        let a : r.0 < h.links = in_below h.links r.1 in
        ap heard (sym r.2 ∙ so.word r.0 a (omega (arith, (given.order.turn_of (get_or fs r.0 0) (from_low r.0 a)).0))))
        ∙ state_length h.links os inbox;
  }

  -- ---- the new rows
  module _ {inbox : List ℕ} (all : AllTold h net inbox) (z : length inbox ≡ 512) where
    pub rows-ready : {n : ℕ} → n ≤ h.head.nodes → Lendable n ss gs ps line xs inbox
    rows-ready b = record { rows = λ i a. (lendable given.held inbox z all.small).rows i (omega arith) }

    pub taken_all : {ys : List ℕ}
        → ((ts' : List ℕ) → ((i : ℕ) → i < h.head.nodes → RowsRise i ss ts') → Renewed h.head.step.0 h.head.nodes tr ss ts' line xs inbox ys)
        → Calculated h net ys
    taken_all {ys} renewed =
        outcome-held given.held inbox ys z (renewed ts (far-rise given.held))
        ∙ outcome-done ok all.right (all.done ∙ sym (held-length h.links fs ts ls xs))

-- ---- whatever the links' ends, their load steps and the nodes' turns are
pub record Telling (h : SheetHeld) (net : NetHeld) (line : List ℕ) (k : ℕ) (inbox : List ℕ) : Type 0 where
  pub so_far : (fs ts ls turn : List ℕ) → Ordered h (with_ends net fs ts ls turn) line → ToldTo h (with_ends net fs ts ls turn) k inbox

module _ {h : SheetHeld} {net : NetHeld} {line : List ℕ} where
  pub telling_all : {k : ℕ} {inbox : List ℕ} → Telling h net line k inbox → h.head.nodes ≤ k → ToldFor h net line inbox
  telling_all so last fs' ts' ls' turn' o = told_all o (so.so_far fs' ts' ls' turn' o) last

  module _ {k : ℕ} {inbox : List ℕ} (so : Telling h net line k inbox) where
    pub telling_more : {i w : ℕ} {m : Message} {new : List ℕ} → k < h.head.nodes → i ≡ get_or net.order.order k 0
        → Tells m h.head.step.0 (get_or net.columns.traffic i 0) net.rows.starts line net.columns.fraction inbox i → told_of w ≡ message_said m
        → length new ≡ 512 → Noted (get_or net.rows.starts i 0) (get_or net.rows.starts (i + 1) 0) net.opposite w inbox new → Telling h net line (k + 1) new
    telling_more low is t e long put = record {
      so_far = λ fs' ts' ls' turn' o. told_more o (so.so_far fs' ts' ls' turn' o) low is t e long put;
    }

  module _ (g : Given h net line) where
    abbrev own : NetHeld
    own = with_ends net g.from g.to g.load g.turn

    module _ {k : ℕ} {inbox : List ℕ} (so : Telling h net line k inbox) where
      own_told : ToldTo h own k inbox
      own_told = so.so_far g.from g.to g.load g.turn g.ordered

      pub telling_row : {i : ℕ} → i < h.head.nodes → RowAt i net.rows.starts net.rows.flow_starts net.rows.flow line net.columns.fraction inbox
      telling_row low = row-ready g.ordered own_told low

      pub telling_fit : {i : ℕ} → i < h.head.nodes → Tellable i net.rows.starts net.opposite
      telling_fit low = tell_ready g.ordered own_told low

    -- and then every node takes its row
    module _ {inbox : List ℕ} (all : ToldFor h net line inbox) (z : length inbox ≡ 512) where
      pub taking_ready : {n : ℕ} → n ≤ h.head.nodes → Lendable n net.rows.starts net.rows.flow_starts net.rows.flow line net.columns.fraction inbox
      taking_ready low = rows-ready g.ordered (all g.from g.to g.load g.turn g.ordered) z low

      pub taking_all : {ys : List ℕ}
          → ((ts' : List ℕ) → ((i : ℕ) → i < h.head.nodes → RowsRise i net.rows.starts ts')
          → Renewed h.head.step.0 h.head.nodes net.columns.traffic net.rows.starts ts' line net.columns.fraction inbox ys)
          → CalculatedFor h net line ys
      taking_all new fs' ts' ls' turn' o = taken_all o (all fs' ts' ls' turn' o) z new

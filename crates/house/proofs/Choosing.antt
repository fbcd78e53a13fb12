-- The choices, one by one: the numbers written, with the choices that are left, are the house order.
use Prim.Native.Nat.{ℕ, suc, ◌+◌, ◌-◌, ◌≤◌, ◌<◌}
use native.Mathlib.Omega.{arith}
use native.Mathlib.Numerals.{add-one}
use native.Mathlib.Decide.{ℕ_discrete, dec_lt}
use mathlib.Core.Path.{◌≡◌, refl, sym, ap, ap₂, ◌∙◌}
use mathlib.Core.Bool.{true}
use mathlib.Core.List.{List, [], ◌∷◌, ◌++◌, map, append_assoc, append-nil}
use lib.ListN.{length, get_or, take, drop, set, length-set, length-map, length-replicate, take-append-drop}
use lib.Seq.{take-suc-set, drop-set-lt, drop-drop, get_or-set_same, get_or-set_other}
use Rattle.rules.specs.Lists.{bit, below, Place, at}
use Rattle.rules.specs.Sheet.{Sheet, line_delay}
use Rattle.rules.specs.Desk.{silent, heard, message}
use Rattle.rules.specs.Messages.{State, start, sender, waits, deliver, delivered, lowest_waiting, chosen, house_from, house}
use Rattle.rules.proofs.Lists.{below_length, table_at, table_out}
use Rattle.rules.proofs.Desk.{line-top}
use Rattle.rules.proofs.First.{Lowest, lowest-below}
use Rattle.rules.proofs.Right.{undelivered}
use Rattle.rules.proofs.Live.{count_start, some-waits}
use Rattle.rules.proofs.Alike.{HeardAlike, waits_alike}
use Rattle.desk.specs.Ways.{told_of}
use Rattle.sheet.specs.declared.SheetHeld.{SheetHeld}
use Rattle.sheet.specs.Held.{sheet_said}
use Rattle.network.specs.Rows.{Flow}
use Rattle.sheet.proofs.Facts.{held-length}
use Rattle.network.proofs.Rows.{rising_sorted}
use Rattle.node.specs.declared.NetHeld.{NetHeld}
use Rattle.node.specs.Net.{state_said, Graph, Net, Empty}
use Rattle.node.proofs.Held.{state_length, links-few}
use Rattle.messages.specs.declared.StateHeld.{StateHeld}
use Rattle.messages.specs.declared.Tally.{Tally}
use Rattle.messages.specs.declared.Change.{Change}
use Rattle.messages.specs.State.{waiting_at, step_of, Kept, Stored, Begun}
use Rattle.messages.proofs.Counts.{heard-set}
use Rattle.messages.proofs.Storing.{from_in, waits_kept, link_at_lem, counted-kept}
use Rattle.messages.proofs.Beginning.{state_start, begun_kept}
use Rattle.house.specs.declared.Search.{Search}
use Rattle.messages.specs.State.{LinkIn, CountedIn}
use Rattle.house.specs.House.{near, Passed, Fresh, Searchable, Found, ChosenStored, GraphIn, HouseIn}

-- ---- the net of a graph: its lines' delays stand in no slice here
module _ {h : SheetHeld} {tr fs ts ls xs ss os : List ℕ} (graph : Graph h tr fs ts ls xs ss os) where
  abbrev lines : List ℕ
  lines = map (λ j. line_delay (get_or ls j 0)) (below 512)

  line_small : (j : ℕ) → get_or lines j 0 ≤ 1048576
  line_small j = go (dec_lt j 512)
    where
      go : Dec (j < 512) → get_or lines j 0 ≤ 1048576
      go (yes a) = omega (arith, table_at (λ j. line_delay (get_or ls j 0)) 0 512 j a, line-top (get_or ls j 0))
      go (no a) = omega (arith, table_out (λ j. line_delay (get_or ls j 0)) 0 512 j (omega arith))

  graph-net : {gs ps : List ℕ} → Flow h.head.nodes ss xs gs ps → length gs ≡ 65 → length ps ≡ 512 → Net h tr fs ts ls xs ss gs ps os lines
  graph-net flow a b = record {
    graph = graph;
    flow = flow;
    line-right = λ j l. table_at (λ j. line_delay (get_or ls j 0)) 0 512 j (omega (arith, links-few graph));
    line_small = line_small;
    flow-start_size = a;
    flow-size = b;
    line-size = length-map (below 512) (λ j. line_delay (get_or ls j 0)) ∙ below_length 512;
  }

-- ---- for the sheet with traffic tr, far nodes ts and load steps ls, k choices on
pub record Standing (h : SheetHeld) (tr fs ts ls ss xs os inbox qs out : List ℕ) (t : Tally) (k : ℕ) : Type 0 where
  pub kept : Kept h tr fs ts ls xs ss os inbox qs t
  pub made : delivered (state_said h.links os inbox) ≡ k
  -- the state with the messages that the nodes work out, where the lists have the one word
  pub real : State
  pub real_size : length real ≡ h.links
  pub alike : HeardAlike (sheet_said h tr fs ts ls xs) (state_said h.links os inbox) real
  pub rest : house (sheet_said h tr fs ts ls xs) ≡ take k out ++ house_from (h.links - k) (sheet_said h tr fs ts ls xs) real

module _ {h : SheetHeld} {tr fs ts ls xs ss os : List ℕ} (graph : Graph h tr fs ts ls xs ss os) where
  abbrev s : Sheet
  s = sheet_said h tr fs ts ls xs

  many : length s.links ≡ h.links
  many = held-length h.links fs ts ls xs

  standing_none : {gs ps inbox qs out : List ℕ} {t : Tally} → Flow h.head.nodes ss xs gs ps → length gs ≡ 65 → length ps ≡ 512
      → Empty inbox → Begun h.head.nodes ss gs qs t → Standing h tr fs ts ls ss xs os inbox qs out t 0
  standing_none {inbox = inbox} {out = out} flow a b empty begun =
      let net = graph-net graph flow a b in
      record {
        kept = begun_kept net empty begun;
        made = ap delivered (state_start net empty) ∙ count_start (length s.links);
        real = start s;
        real_size = length-replicate (length s.links) silent ∙ many;
        alike = λ k l. ap (λ (st : State). heard (get_or st k silent)) (state_start net empty);
        rest = let z : length s.links ≡ h.links - 0 = omega (arith, many) in ap (λ (m : ℕ). house_from m s (start s)) z;
      }

  module _ {inbox qs out : List ℕ} {t : Tally} {k : ℕ} (inv : Standing h tr fs ts ls ss xs os inbox qs out t k) where
    abbrev st : State
    st = state_said h.links os inbox

    -- some link waits
    standing_some : k < h.links → (j : ℕ) × (j < h.links) × (waiting_at j fs xs os inbox qs ≡ true)
    standing_some low =
        let w = some-waits graph.sound st (state_length h.links os inbox ∙ sym many) (omega (arith, inv.made, many)) in
        let inside : w.0 < h.links = omega (arith, w.2, many) in
        (w.0, inside, waits_kept inv.kept inside ∙ w.3)

    standing_all : k ≡ h.links → take k out ≡ house s
    standing_all end =
        let z : h.links - k ≡ 0 = omega arith in
        sym (inv.rest ∙ ap (λ (m : ℕ). take k out ++ house_from m s inv.real) z ∙ append-nil (take k out))

    module _ {j : ℕ} (lowest : Lowest (λ p. waiting_at p fs xs os inbox qs) h.links j) where
      waits-here : (p : ℕ) → p < h.links → waits s inv.real p ≡ waiting_at p fs xs os inbox qs
      waits-here p a = sym (waits_kept inv.kept a ∙ waits_alike s st inv.real p (λ i b e. inv.alike i b) (inv.alike p (omega (arith, many))))

      choice : lowest_waiting s inv.real ≡ at j
      choice = (lowest-below (waits s inv.real) (length s.links) j).1 (record {
        inside = omega (arith, lowest.inside, many);
        passes = waits-here j lowest.inside ∙ lowest.passes;
        before = λ p l. waits-here p (omega (arith, lowest.inside)) ∙ lowest.before p l;
      })

      standing_more : {inbox' qs' : List ℕ} {c : Change} → k < h.links → k < length out → Stored j 1 fs xs os inbox qs inbox' qs' c
          → Standing h tr fs ts ls ss xs os inbox' qs' (set out k j) (step_of t c) (k + 1)
      standing_more low room put = record {
        kept = put.keeps inv.kept lowest.inside;
        made = omega (
          arith,
          ap delivered (put.said inv.kept lowest.inside),
          heard-set st j (told_of 1) (omega (arith, state_length h.links os inbox, lowest.inside)),
          ap bit (undelivered s st j (sym (waits_kept inv.kept lowest.inside) ∙ lowest.passes)),
          inv.made,
        );
        real = deliver s inv.real j;
        real_size = length-set inv.real j (message (sender s inv.real j)) ∙ inv.real_size;
        alike = λ p a. ap (λ (su : State). heard (get_or su p silent)) (put.said inv.kept lowest.inside) ∙ same p a (ℕ_discrete p j);
        rest =
            let z : h.links - k ≡ suc (h.links - (k + 1)) = omega arith in
            let front : take (k + 1) (set out k j) ≡ take k out ++ (j ∷ []) = ap (λ (m : ℕ). take m (set out k j)) (add-one k) ∙ take-suc-set out k j room in
            let left : List ℕ = house_from (h.links - (k + 1)) s (deliver s inv.real j) in
            inv.rest
            ∙ ap (λ (m : ℕ). take k out ++ house_from m s inv.real) z
            ∙ ap (λ (q : Place). take k out ++ chosen q (λ i. house_from (h.links - (k + 1)) s (deliver s inv.real i))) choice
            ∙ sym (append_assoc (take k out) (j ∷ []) left)
            ∙ ap (λ (m : List ℕ). m ++ left) (sym front);
      }
        where
          same : (p : ℕ) → p < length s.links → Dec (p ≡ j) → heard (get_or (set st j (told_of 1)) p silent) ≡ heard (get_or (deliver s inv.real j) p silent)
          same p a (yes e) = rw e (
              ap heard (get_or-set_same st j (told_of 1) silent (omega (arith, state_length h.links os inbox, lowest.inside)))
              ∙ sym (ap heard (get_or-set_same inv.real j (message (sender s inv.real j)) silent (omega (arith, inv.real_size, lowest.inside)))))
          same p a (no ne) =
              ap heard (get_or-set_other st j p (told_of 1) silent ne) ∙ inv.alike p a
              ∙ sym (ap heard (get_or-set_other inv.real j p (message (sender s inv.real j)) silent ne))

-- ---- for every such sheet, with the tally that the state would have
pub record Choosing (h : SheetHeld) (net : NetHeld) (st : StateHeld) (search : Search) (out₀ out : List ℕ) (k : ℕ) : Type 0 where
  pub behind : drop k out ≡ drop k out₀
  pub passed : Passed h.links net st search
  pub tally : Tally
  pub each : {tr ts ls : List ℕ} → Graph h tr net.columns.from ts ls net.columns.fraction net.rows.starts net.opposite
      → Standing h tr net.columns.from ts ls net.rows.starts net.columns.fraction net.opposite st.inbox st.quiet out tally k

module _ {h : SheetHeld} (net : NetHeld) (held : GraphIn h net) where
  pub choosing_none : {st : StateHeld} {search : Search} {out : List ℕ} {t : Tally} → Empty st.inbox → Begun h.head.nodes net.rows.starts net.rows.flow_starts st.quiet t → Fresh search → Choosing h net st search out out 0
  choosing_none {st} {t = t} empty begun fresh = record {
    behind = refl;
    passed = record { behind = λ p a b. absurd (omega (arith, fresh.cursor (near net p) (from_low p a))); shut = λ p a b. absurd (omega (arith, fresh.live (near net p) (from_low p a))) };
    tally = t;
    each = λ graph. standing_none graph held.flow held.flow-start_size held.flow-size empty begun;
  }
    where
      from_low : (p : ℕ) → p < h.links → near net p < 64
      from_low p a = omega (arith, held.graph.sound.few, from_in (standing_none held.graph {out = []} held.flow held.flow-start_size held.flow-size empty begun).kept a)

  module _ {st : StateHeld} {search : Search} {out₀ out : List ℕ} {k : ℕ} (inv : Choosing h net st search out₀ out k) where
    abbrev now : Standing h held.tr net.columns.from held.ts held.ls net.rows.starts net.columns.fraction net.opposite st.inbox st.quiet out inv.tally k
    now = inv.each held.graph

    pub choosing_search : k < h.links → Searchable h net st search
    choosing_search a =
        let w = standing_some held.graph now a in
        record {
          few = held.graph.sound.few;
          links = λ j b. link_at_lem now.kept b;
          rows = held.graph.rows;
          sorted = rising_sorted h.links net.columns.from held.ts held.ls net.columns.fraction held.graph.sound.rising (λ j b. from_in now.kept b);
          passed = inv.passed;
          some = w.0;
          some_in = w.1;
          some-waits = w.2;
        }

    pub choosing_all : k ≡ h.links → HouseIn h net out₀ out
    choosing_all end = record {
      said = λ graph.
          sym (take-append-drop k out) ∙ ap₂ (λ (a b : List ℕ). a ++ b) (standing_all graph (inv.each graph) end) (inv.behind ∙ ap (λ (m : ℕ). drop m out₀) end);
    }

    module _ {j : ℕ} {search' : Search} (found : Found h j net st search') where
      pub choosing_link : LinkIn j net
      choosing_link = link_at_lem now.kept found.lowest.inside

      pub choosing_counted : CountedIn j net st
      choosing_counted = counted-kept now.kept found.lowest.inside

      pub choosing_more : {st' : StateHeld} {search'' : Search} → k < h.links → k < length out → ChosenStored j net st search' st' search''
          → Choosing h net st' search'' out₀ (set out k j) (k + 1)
      choosing_more a room put = record {
        behind = drop-set-lt (k + 1) out k j (omega arith) ∙ sym (drop-drop 1 k out) ∙ ap (drop 1) inv.behind ∙ drop-drop 1 k out₀;
        passed = put.passed now.kept found.lowest.inside found.passed;
        tally = step_of inv.tally put.change;
        each = λ graph. standing_more graph (inv.each graph) found.lowest a room put.stored;
      }

-- What a word stored makes of the counts and the tally.
use Prim.Native.Nat.{ℕ, ◌+◌, ◌-◌, ◌*◌, ◌≤◌, ◌<◌}
use native.Mathlib.Omega.{arith}
use native.Mathlib.Decide.{ℕ_discrete}
use mathlib.Core.Path.{◌≡◌, refl, sym, ap, ap₂, ◌∙◌}
use mathlib.Core.Logic.{◌≢◌}
use mathlib.Core.Bool.{Bool, true, false, cond, not, ◌&&◌}
use mathlib.Core.List.{List}
use lib.ListN.{length, get_or, set, length-set}
use lib.Seq.{get_or-set_same, get_or-set_other}
use lib.Dec.{ltb, eqb}
use borrow.Author.Tests.{ne_eqb}
use Rattle.rules.specs.Lists.{bit, how_many, below}
use Rattle.rules.specs.Sheet.{Link}
use Rattle.rules.specs.Desk.{Told, silent, heard, status}
use Rattle.rules.specs.Messages.{desk, waits_on, waits, delivered, is_finished}
use Rattle.rules.proofs.Tests.{clash}
use Rattle.rules.proofs.Lists.{total_but, count_le, below_length}
use Rattle.desk.specs.Ways.{told_of}
use Rattle.sheet.specs.declared.SheetHeld.{SheetHeld}
use Rattle.sheet.specs.Held.{held_at, sheet_said}
use Rattle.sheet.proofs.Facts.{held-at}
use Rattle.node.specs.Net.{state_said, Graph}
use Rattle.node.proofs.Held.{state_length, state_at, links-few, held_in, stored}
use Rattle.messages.specs.declared.Tally.{Tally}
use Rattle.messages.specs.declared.Change.{Change}
use Rattle.messages.specs.declared.StateHeld.{StateHeld}
use Rattle.messages.specs.declared.Change.TheVariants.{Again, Heard, Finished}
use Rattle.messages.specs.State.{is_silent, is_silent_flow, quiet_of, status_by, fewer, change_of, step_of, Spare, Kept, LinkAt, waiting_at, Counted, StoredAt, Stored}
use Rattle.messages.proofs.Counts.{count_same, count_but, heard-set}
use Rattle.sheet.proofs.Links.{and_true}
use Rattle.messages.proofs.Statuses.{heard-told, status-some, status_by_lem, finished_by}

no_and : (a : Bool) {b : Bool} → b ≡ false → (a && b) ≡ false
no_and true e = e
no_and false e = refl

not_not : (x : Bool) → not (not x) ≡ x
not_not true = refl
not_not false = refl

one_more : (t : Tally) (q : ℕ) → ((step_of t (change_of q)).deliveries ≡ t.deliveries + 1) × ((step_of t (change_of q)).finished ≡ t.finished + bit (eqb (status_by q) 2))
one_more t q = go (eqb (status_by q) 2)
  where
    go : (b : Bool) → ((step_of t (cond b Finished Heard)).deliveries ≡ t.deliveries + 1) × ((step_of t (cond b Finished Heard)).finished ≡ t.finished + bit b)
    go true = (refl, refl)
    go false = (refl, omega arith)

-- ---- a word at place p of the inbox
module _ {h : SheetHeld} {tr fs ts ls xs ss os : List ℕ} (graph : Graph h tr fs ts ls xs ss os) (inbox : List ℕ) (size : length inbox ≡ 512) (p : ℕ) (inside : p < h.links) where
  -- the node that hears it
  abbrev b : ℕ
  b = get_or fs p 0

  abbrev a : ℕ
  a = get_or ss b 0

  abbrev n : ℕ
  n = get_or ss (b + 1) 0 - get_or ss b 0

  far_in : b < h.head.nodes
  far_in = (graph.sound.fits (held_at fs ts ls xs p) (held_in graph p inside)).from_in

  module _ {w : ℕ} (word : 0 < w) where
    abbrev box : List ℕ
    box = set inbox p w

    elsewhere : (k : ℕ) → k ≢ p → get_or box k 0 ≡ get_or inbox k 0
    elsewhere k ne = get_or-set_other inbox p k w 0 ne

    told_now : is_silent box p ≡ false
    told_now = ne_eqb (get_or box p 0) 0 (λ e. omega (arith, get_or-set_same inbox p w 0 (omega (arith, links-few graph))))

    quiet_there : quiet_of ss xs box b + (bit (is_silent inbox p) * 1024 + bit (is_silent_flow xs inbox p)) ≡ quiet_of ss xs inbox b
    quiet_there =
        let r = graph.rows.found p inside in
        let end : p < a + n = omega (arith, r.1) in
        omega (
          arith,
          ap bit told_now,
          ap bit (no_and (ltb 0 (get_or xs p 0)) told_now),
          count_but (λ k. bit (is_silent box k)) (λ k. bit (is_silent inbox k)) p a n (λ k ne. ap (λ (v : ℕ). bit (eqb v 0)) (elsewhere k ne)) r.0 end,
          count_but (λ k. bit (is_silent_flow xs box k)) (λ k. bit (is_silent_flow xs inbox k)) p a n (λ k ne. ap (λ (v : ℕ). bit (ltb 0 (get_or xs k 0) && eqb v 0)) (elsewhere k ne)) r.0 end,
        )

    -- the rows of the other nodes have nothing at that place
    quiet-elsewhere : (i : ℕ) → i < h.head.nodes → i ≢ b → quiet_of ss xs box i ≡ quiet_of ss xs inbox i
    quiet-elsewhere i low ne =
        omega (
          arith,
          count_same (λ k. bit (is_silent box k)) (λ k. bit (is_silent inbox k)) (get_or ss i 0) (get_or ss (i + 1) 0 - get_or ss i 0) (λ k x y. ap (λ (v : ℕ). bit (eqb v 0)) (elsewhere k (other k x y))),
          count_same (λ k. bit (is_silent_flow xs box k)) (λ k. bit (is_silent_flow xs inbox k)) (get_or ss i 0) (get_or ss (i + 1) 0 - get_or ss i 0) (λ k x y. ap (λ (v : ℕ). bit (ltb 0 (get_or xs k 0) && eqb v 0)) (elsewhere k (other k x y))),
        )
      where
        other : (k : ℕ) → get_or ss i 0 ≤ k → k < get_or ss i 0 + (get_or ss (i + 1) 0 - get_or ss i 0) → k ≢ p
        other k x y e = ne (sym (graph.rows.inside i k low x (omega (arith, graph.rows.rise i low))) ∙ ap (λ (v : ℕ). get_or fs v 0) e)

    -- counts that are right, and differ at the hearer's alone
    module _ (qs new : List ℕ) (right : (i : ℕ) → i < h.head.nodes → get_or qs i 0 ≡ quiet_of ss xs inbox i) (same : (i : ℕ) → i ≢ b → get_or new i 0 ≡ get_or qs i 0)
        (fall : get_or new b 0 + (bit (is_silent inbox p) * 1024 + bit (is_silent_flow xs inbox p)) ≡ get_or qs b 0) where
      right_now : (i : ℕ) → i < h.head.nodes → get_or new i 0 ≡ quiet_of ss xs box i
      right_now i low = go (ℕ_discrete i b)
        where
          go : Dec (i ≡ b) → get_or new i 0 ≡ quiet_of ss xs box i
          go (yes e) = rw e (omega (arith, fall, quiet_there, right b far_in))
          go (no ne) = same i ne ∙ right i low ∙ sym (quiet-elsewhere i low ne)

      finished_now : how_many (λ i. eqb (status_by (get_or new i 0)) 2) (below h.head.nodes) + bit (eqb (status_by (get_or qs b 0)) 2)
          ≡ how_many (λ i. eqb (status_by (get_or qs i 0)) 2) (below h.head.nodes) + bit (eqb (status_by (get_or new b 0)) 2)
      finished_now = total_but (λ i. bit (eqb (status_by (get_or new i 0)) 2)) (λ i. bit (eqb (status_by (get_or qs i 0)) 2)) b
          (λ i ne. ap (λ (x : ℕ). bit (eqb (status_by x) 2)) (same i ne)) h.head.nodes far_in

-- ---- link j of a state that is kept
module _ {h : SheetHeld} {tr fs ts ls xs ss os inbox qs : List ℕ} {t : Tally} (kept : Kept h tr fs ts ls xs ss os inbox qs t) where
  pub status-kept : (i : ℕ) → i < h.head.nodes → status (desk (sheet_said h tr fs ts ls xs) (state_said h.links os inbox) i) ≡ status_by (get_or qs i 0)
  status-kept = status_by_lem kept.graph inbox qs kept.quiet

  pub spare-kept : Spare t
  spare-kept = record {
    deliveries = omega (arith, kept.deliveries, count_le heard (state_said h.links os inbox), state_length h.links os inbox, links-few kept.graph);
    finished = omega (arith, kept.finished-right, count_le (is_finished (sheet_said h tr fs ts ls xs) (state_said h.links os inbox)) (below h.head.nodes), below_length h.head.nodes, kept.graph.sound.few);
  }

  module _ {j : ℕ} (inside : j < h.links) where
    pub from_in : get_or fs j 0 < h.head.nodes
    from_in = (kept.graph.sound.fits (held_at fs ts ls xs j) (held_in kept.graph j inside)).from_in

    pub waits_kept : waiting_at j fs xs os inbox qs ≡ waits (sheet_said h tr fs ts ls xs) (state_said h.links os inbox) j
    waits_kept =
        ap₂ (λ (stat : ℕ) (w : Told). waits_on stat (held_at fs ts ls xs j) w) (sym (status-kept (get_or fs j 0) from_in)) (sym (state_at h.links os inbox j inside))
        ∙ ap (λ (m : Link). waits_on (status (desk (sheet_said h tr fs ts ls xs) (state_said h.links os inbox) m.from)) m (get_or (state_said h.links os inbox) j silent)) (sym (held-at h.links fs ts ls xs j inside))

    -- its place in the inbox, and the node that hears it
    abbrev place : ℕ
    place = get_or os j 0

    abbrev far : ℕ
    far = get_or fs place 0

    place_in : place < h.links
    place_in = kept.graph.opposites.low j inside

    hearer_in : far < h.head.nodes
    hearer_in = far_in kept.graph inbox kept.inbox_size place place_in

    silent_is : is_silent inbox place ≡ not (heard (told_of (get_or inbox place 0)))
    silent_is = sym (ap not (heard-told (get_or inbox place 0)) ∙ not_not (is_silent inbox place))

    quiet-low : is_silent inbox place ≡ true → 1024 + bit (ltb 0 (get_or xs place 0)) ≤ get_or qs far 0
    quiet-low e = omega (
      arith,
      quiet_there kept.graph inbox kept.inbox_size place place_in {w = 1} (omega arith),
      kept.quiet far hearer_in,
      ap bit e,
      ap bit (and_true (ltb 0 (get_or xs place 0)) e),
    )

    pub link_at_lem : LinkAt j fs os
    link_at_lem = record {
      low = omega (arith, links-few kept.graph);
      place = omega (arith, links-few kept.graph, place_in);
      near = omega (arith, from_in, kept.graph.sound.few);
      far = omega (arith, hearer_in, kept.graph.sound.few);
    }

    pub counted-kept : Counted j fs xs os inbox qs
    counted-kept e = quiet-low (silent_is ∙ ap not e)

    -- the state is kept with the counts and the tally amended
    module _ {w : ℕ} (word : 0 < w) where
      state_now : state_said h.links os (set inbox place w) ≡ set (state_said h.links os inbox) j (told_of w)
      state_now = stored kept.graph inbox j w inside kept.inbox_size

      delivered_now : delivered (state_said h.links os (set inbox place w)) + bit (heard (told_of (get_or inbox place 0))) ≡ delivered (state_said h.links os inbox) + 1
      delivered_now = omega (
        arith,
        ap delivered state_now,
        heard-set (state_said h.links os inbox) j (told_of w) (omega (arith, state_length h.links os inbox)),
        ap (λ (t : Told). bit (heard t)) (state_at h.links os inbox j inside),
        ap bit (heard-told w ∙ ap not (ne_eqb w 0 (λ e. omega arith))),
      )

      amended : (new : List ℕ) (r : Tally) → length new ≡ 64 → ((i : ℕ) → i ≢ far → get_or new i 0 ≡ get_or qs i 0)
          → get_or new far 0 + (bit (is_silent inbox place) * 1024 + bit (is_silent_flow xs inbox place)) ≡ get_or qs far 0
          → r.deliveries + bit (heard (told_of (get_or inbox place 0))) ≡ t.deliveries + 1
          → r.finished + bit (eqb (status_by (get_or qs far 0)) 2) ≡ t.finished + bit (eqb (status_by (get_or new far 0)) 2)
          → Kept h tr fs ts ls xs ss os (set inbox place w) new r
      amended new r long same fall more done = record {
        graph = kept.graph;
        inbox_size = length-set inbox place w ∙ kept.inbox_size;
        beyond = λ k l. get_or-set_other inbox place k w 0 (λ e. omega (arith, place_in)) ∙ kept.beyond k l;
        quiet-size = long;
        quiet = right;
        deliveries = omega (arith, kept.deliveries, delivered_now);
        finished-right = omega (
          arith,
          kept.finished-right,
          finished_by kept.graph inbox qs kept.quiet,
          finished_by kept.graph (set inbox place w) new right,
          finished_now kept.graph inbox kept.inbox_size place place_in word qs new kept.quiet same fall,
        );
      }
        where
          right : (i : ℕ) → i < h.head.nodes → get_or new i 0 ≡ quiet_of ss xs (set inbox place w) i
          right = right_now kept.graph inbox kept.inbox_size place place_in word qs new kept.quiet same fall

      store_again : heard (told_of (get_or inbox place 0)) ≡ true → Kept h tr fs ts ls xs ss os (set inbox place w) qs t
      store_again e =
          let known : is_silent inbox place ≡ false = silent_is ∙ ap not e in
          amended qs t kept.quiet-size (λ i ne. refl) (omega (arith, ap bit known, ap bit (no_and (ltb 0 (get_or xs place 0)) known))) (omega (arith, ap bit e)) refl

      store_first : heard (told_of (get_or inbox place 0)) ≡ false
          → Kept h tr fs ts ls xs ss os (set inbox place w) (set qs far (fewer (get_or qs far 0) (get_or xs place 0))) (step_of t (change_of (fewer (get_or qs far 0) (get_or xs place 0))))
      store_first e =
          let known : is_silent inbox place ≡ true = silent_is ∙ ap not e in
          let q : ℕ = fewer (get_or qs far 0) (get_or xs place 0) in
          let there : get_or (set qs far q) far 0 ≡ q = get_or-set_same qs far q 0 (omega (arith, link_at_lem.far, kept.quiet-size)) in
          let more = one_more t q in
          amended (set qs far q) (step_of t (change_of q)) (length-set qs far q ∙ kept.quiet-size) (λ i ne. get_or-set_other qs far i q 0 ne)
          (omega (arith, there, quiet-low known, ap bit known, ap bit (and_true (ltb 0 (get_or xs place 0)) known)))
          (omega (arith, more.0, ap bit e))
          (omega (arith, more.1, ap (λ (x : ℕ). bit (eqb (status_by x) 2)) there, ap bit (status-some (get_or qs far 0) (omega (arith, quiet-low known)))))

-- ---- what store_at promises, where a word stood there and where none did
module _ {p b x w : ℕ} {st : StateHeld} where
  pub put_again : heard (told_of (get_or st.inbox p 0)) ≡ true → StoredAt p b x w st (record st { inbox = set st.inbox p w }) Again
  put_again e = record { word = refl; again = λ _. (refl, refl); first = λ f. clash e f }

  pub put_first : {q : ℕ} {c : Change} → heard (told_of (get_or st.inbox p 0)) ≡ false → q ≡ fewer (get_or st.quiet b 0) x → c ≡ change_of q
      → StoredAt p b x w st (record { inbox = set st.inbox p w; quiet = set st.quiet b q }) c
  put_first e n d = record { word = refl; again = λ f. clash f e; first = λ _. (ap (set st.quiet b) n, d ∙ ap change_of n) }

-- ---- and so store
pub stored_at_lem : {j w : ℕ} {fs xs os : List ℕ} {st st' : StateHeld} {c : Change} → 0 < w
    → StoredAt (get_or os j 0) (get_or fs (get_or os j 0) 0) (get_or xs (get_or os j 0) 0) w st st' c → Stored j w fs xs os st.inbox st.quiet st'.inbox st'.quiet c
stored_at_lem {j} {w} {fs} {xs} {os} {st} {st'} {c} word put = go (heard (told_of (get_or st.inbox (get_or os j 0) 0))) refl
  where
    go : (b : Bool) → heard (told_of (get_or st.inbox (get_or os j 0) 0)) ≡ b → Stored j w fs xs os st.inbox st.quiet st'.inbox st'.quiet c
    go true e = let r = put.again e in rw (put.word, r.0, r.1) (record { said = λ kept inside. state_now kept inside word; keeps = λ kept inside. store_again kept inside word e })
    go false e = let r = put.first e in rw (put.word, r.0, r.1) (record { said = λ kept inside. state_now kept inside word; keeps = λ kept inside. store_first kept inside word e })

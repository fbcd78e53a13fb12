-- A word stored in any state leaves the stored delays small, so the code can go on from there; what it then works out.
use Prim.Native.Nat.{ℕ, ◌/◌, ◌≤◌, ◌<◌}
use native.Mathlib.Omega.{arith}
use native.Mathlib.Decide.{ℕ_discrete, dec_lt}
use mathlib.Core.Path.{◌≡◌, refl, sym, ap, ap₂, subst, ◌∙◌}
use mathlib.Core.Bool.{false}
use mathlib.Core.List.{List, [], ◌∷◌}
use lib.ListN.{length, get_or, set, take, drop, replicate}
use lib.Seq.{get_or-set_same, get_or-set_other, take_at}
use Rattle.std.specs.Prelude.{Result, Ok, Err}
use Rattle.rules.specs.Sheet.{Link, Sheet, largest_stored}
use Rattle.rules.specs.Bytes.{bytes}
use Rattle.rules.specs.Judge.{accepted}
use Rattle.rules.specs.Check.{check}
use Rattle.rules.specs.Desk.{Told, silent, told, delay_told}
use Rattle.rules.specs.Messages.{State, link_of, deliver, left, run, outcome, house}
use Rattle.rules.specs.Plates.{plate_a}
use Rattle.rules.proofs.Demands.{sound-accepted, plate_a-sound, house-order}
use Rattle.numbers.specs.Lines.{LinesOf}
use Rattle.answers.specs.declared.Refusal.{Refusal}
use Rattle.desk.specs.declared.Message.{Message}
use Rattle.desk.specs.Ways.{told_of, message_said}
use Rattle.desk.proofs.Places.{delay_is}
use Rattle.sheet.specs.declared.SheetHeld.{SheetHeld}
use Rattle.sheet.proofs.Facts.{held-length, held-at}
use Rattle.node.specs.declared.NetHeld.{NetHeld}
use Rattle.node.specs.declared.NetLent.{NetLent}
use Rattle.node.specs.Net.{state_said, SmallInbox, NetIn, net_sheet, net_of, unordered, RowsRise, Renewed, Lendable, Empty}
use Rattle.node.proofs.Lent.{lent, given_back}
use Rattle.node.proofs.Held.{state_length, state_at, turns, lendable, far-rise, outcome-held}
use Rattle.messages.specs.declared.Tally.{Tally}
use Rattle.messages.specs.declared.Change.{Change}
use Rattle.messages.specs.declared.StateHeld.{StateHeld}
use Rattle.messages.specs.State.{Kept, LinkIn, CountedIn, step_of, Spare, Stored, StoredIn, Begun}
use Rattle.messages.specs.Round.{DeliverableIn, DeliveredIn, HeldIn, ListRunIn}
use Rattle.messages.proofs.Beginning.{state_start, begun_kept}
use Rattle.messages.proofs.Storing.{link_at_lem, counted-kept, spare-kept}
use Rattle.messages.proofs.Delivering.{deliverable}
use Rattle.messages.proofs.Running.{run_small}
use Rattle.messages.proofs.Zeros.{empty_zeros}
use Rattle.house.specs.House.{GraphIn, HouseIn}
use Rattle.admit.specs.Opened.{Admitted, OpenedGiven}
use Rattle.admit.proofs.Lines.{net-ready}
use Rattle.false_states.specs.declared.Question.{Question}
use Rattle.false_states.specs.declared.Follows.{Follows}
use Rattle.false_states.specs.False.{carried_by, taken_by, NetWith, net_sheet_with, Placed, Word, SentAsked, Sent, RowsAsked, RowsTaken, TakenWith, word_said, FollowedBy, Followed, sent_by, row_by, everything}

-- each row is its desk's new row, whatever far nodes the rows have
abbrev AllRenewed : ℕ → ℕ → List ℕ → List ℕ → List ℕ → List ℕ → List ℕ → List ℕ → Type 0
AllRenewed s n tr ss line xs inbox ys = (ts : List ℕ) → ((i : ℕ) → i < n → RowsRise i ss ts) → Renewed s n tr ss ts line xs inbox ys

-- ---- what is lent is what is held
module _ (net : NetHeld) (l : NetLent) {line : List ℕ} (is : net_of l ≡ unordered net) (at : l.line.now ≡ line) where
  pub lendable-lent : {n : ℕ} {xs inbox : List ℕ} → Lendable n net.rows.starts net.rows.flow_starts net.rows.flow line xs inbox
      → Lendable n l.rows.starts.now l.rows.flow_starts.now l.rows.flow.now line xs inbox
  lendable-lent {n} {xs} {inbox} = lent net l is at (λ h ls. Lendable n h.rows.starts h.rows.flow_starts h.rows.flow line xs inbox)

  pub renewed-back : {s n : ℕ} {tr xs inbox ys : List ℕ} → AllRenewed s n tr l.rows.starts.now line xs inbox ys → AllRenewed s n tr net.rows.starts line xs inbox ys
  renewed-back {s} {n} {tr} {xs} {inbox} {ys} = given_back net l is at (λ h ls. AllRenewed s n tr h.rows.starts line xs inbox ys)

  pub deliverable-lent : {step j : ℕ} {st : StateHeld} {t : Tally} → DeliverableIn step j net line st t → DeliverableIn step j (net_of l) l.line.now st t
  deliverable-lent {step} {j} {st} {t} = lent net l is at (λ n ls. DeliverableIn step j n ls st t)

  pub delivered-back : {h : SheetHeld} {j : ℕ} {st st' : StateHeld} {t t' : Tally} → DeliveredIn h j (net_of l) l.line.now st st' t t' → DeliveredIn h j net line st st' t t'
  delivered-back {h} {j} {st} {st'} {t} {t'} = given_back net l is at (λ n ls. DeliveredIn h j n ls st st' t t')

  pub run-back : {r : Result Tally Refusal} {h : SheetHeld} {js : List ℕ} {st : StateHeld} → ListRunIn r h js (net_of l) l.line.now st → ListRunIn r h js net line st
  run-back {r} {h} {js} {st} = given_back net l is at (λ n ls. ListRunIn r h js n ls st)

-- ---- a word stored on link j
module _ {h : SheetHeld} {tr fs ts ls xs ss os : List ℕ} where
  -- what stands at place k was stored on the opposite link
  at_place : {inbox qs : List ℕ} {t : Tally} → Kept h tr fs ts ls xs ss os inbox qs t → (k : ℕ) → k < h.links
      → told_of (get_or inbox k 0) ≡ get_or (state_said h.links os inbox) (get_or os k 0) silent
  at_place {inbox} kept k a =
      sym (state_at h.links os inbox (get_or os k 0) (kept.graph.opposites.low k a) ∙ ap (λ (x : ℕ). told_of (get_or inbox x 0)) (turns kept.graph k a))

  module _ {j w : ℕ} {inbox qs inbox' qs' : List ℕ} {t : Tally} {c : Change} (kept : Kept h tr fs ts ls xs ss os inbox qs t) (inside : j < h.links) (put : Stored j w fs xs os inbox qs inbox' qs' c) where
    kept_now : Kept h tr fs ts ls xs ss os inbox' qs' (step_of t c)
    kept_now = put.keeps kept inside

    stored-small : Word w → SmallInbox inbox → SmallInbox inbox'
    stored-small word small k = go (dec_lt k h.links)
      where
        st : State
        st = state_said h.links os inbox

        -- the word there is the new one, or the old
        other : (o : ℕ) → Dec (o ≡ j) → delay_told (get_or st o silent) ≤ largest_stored → delay_told (get_or (set st j (told_of w)) o silent) ≤ largest_stored
        other o (yes e) b = omega (
          arith,
          ap (λ (x : ℕ). delay_told (get_or (set st j (told_of w)) x silent)) e,
          ap delay_told (get_or-set_same st j (told_of w) silent (omega (arith, state_length h.links os inbox))),
          delay_is w,
          word.small,
        )
        other o (no ne) b = omega (arith, ap delay_told (get_or-set_other st j o (told_of w) silent ne))

        go : Dec (k < h.links) → get_or inbox' k 0 / 4 ≤ largest_stored
        go (no n) = let z = kept_now.beyond k (omega arith) in rw z (omega arith)
        go (yes a) = omega (
          arith,
          delay_is (get_or inbox' k 0),
          ap delay_told (at_place kept_now k a ∙ ap (λ (x : State). get_or x (get_or os k 0) silent) (put.said kept inside)),
          other (get_or os k 0) (ℕ_discrete (get_or os k 0) j) (omega (arith, ap delay_told (at_place kept k a), delay_is (get_or inbox k 0), small k)),
        )

pub empty-small : {inbox : List ℕ} → Empty inbox → SmallInbox inbox
empty-small empty k = omega (arith, empty.silence k)

-- ---- only link j was delivered, and w is stored there; then the delivery on link k
module _ {j w k : ℕ} {h : SheetHeld} {net : NetHeld} {line : List ℕ} (asked : SentAsked j w k h net line) {inbox : List ℕ} (empty : Empty inbox) {qs : List ℕ} {t : Tally} (begun : Begun h.head.nodes net.rows.starts net.rows.flow_starts qs t) where
  -- the state with its counts
  abbrev st : StateHeld
  st = record { inbox = inbox; quiet = qs }

  begun_now : {ts ls : List ℕ} → NetWith h net ts ls line → Kept h net.columns.traffic net.columns.from ts ls net.columns.fraction net.rows.starts net.opposite st.inbox st.quiet t
  begun_now n = begun_kept n empty begun

  pub link_there : LinkIn j net
  link_there = link_at_lem (begun_now asked.held.net) asked.stored

  pub counted_there : CountedIn j net st
  counted_there = counted-kept (begun_now asked.held.net) asked.stored

  pub steppable : Spare t
  steppable = spare-kept (begun_now asked.held.net)

  module _ {st' : StateHeld} {t' : Tally} {c : Change} (put : StoredIn j w net st st' c) (step : t' ≡ step_of t c) where
    false_now : {ts ls : List ℕ} → NetWith h net ts ls line → Kept h net.columns.traffic net.columns.from ts ls net.columns.fraction net.rows.starts net.opposite st'.inbox st'.quiet t'
    false_now n = rw step (put.keeps (begun_now n) asked.stored)

    pub sendable : DeliverableIn h.head.step.0 k net line st' t'
    sendable = deliverable asked.held.net (false_now asked.held.net) asked.sent (stored-small (begun_now asked.held.net) asked.stored put asked.word (empty-small empty))

    module _ {st'' : StateHeld} {t'' : Tally} (done : DeliveredIn h k net line st' st'' t' t'') where
      pub placed : Placed k net.opposite st''.inbox
      placed =
          let at = link_at_lem (done.keeps asked.held.net (false_now asked.held.net) asked.sent) asked.sent in
          record { link = omega (arith, at.low, asked.held.net.graph.opposite-size); place = omega (arith, at.place, (done.keeps asked.held.net (false_now asked.held.net) asked.sent).inbox_size) }

      pub sent : {r : ℕ} → r ≡ get_or st''.inbox (get_or net.opposite k 0) 0 → Sent r j w k h net line
      sent e = record {
        said = λ {ts} {ls} n.
            ap told_of e
            ∙ sym (state_at h.links net.opposite st''.inbox k asked.sent)
            ∙ ap (λ (s : State). get_or s k silent) (done.said n (false_now n) asked.sent)
            ∙ ap (λ (s : State). get_or (deliver (net_sheet_with h net ts ls net.columns.fraction) s k) k silent)
            (put.said (begun_now n) asked.stored ∙ ap (λ (s : State). set s j (told_of w)) (state_start n empty));
      }

-- ---- a list was delivered, then w is stored on link j, and the rows are taken
module _ {j w : ℕ} {h : SheetHeld} {net : NetHeld} {line : List ℕ} (asked : RowsAsked j w h net line) {js : List ℕ} {st : StateHeld} where
  module _ {t : Tally} (ran : ListRunIn (Ok t) h js net line st) where
    kept-left : {ts ls : List ℕ} → NetWith h net ts ls line → Kept h net.columns.traffic net.columns.from ts ls net.columns.fraction net.rows.starts net.opposite st.inbox st.quiet t
    kept-left n = ran.keeps n

    pub link_left : LinkIn j net
    link_left = link_at_lem (kept-left asked.held.net) asked.stored

    pub counted_left : CountedIn j net st
    counted_left = counted-kept (kept-left asked.held.net) asked.stored

    module _ {st' : StateHeld} {c : Change} (put : StoredIn j w net st st' c) where
      size_now : length st'.inbox ≡ 512
      size_now = (put.keeps (kept-left asked.held.net) asked.stored).inbox_size

      pub takable : Lendable h.head.nodes net.rows.starts net.rows.flow_starts net.rows.flow line net.columns.fraction st'.inbox
      takable =
          lendable asked.held.net st'.inbox size_now (stored-small (kept-left asked.held.net) asked.stored put asked.word (run_small ran asked.held.net))

      pub taken_rows : {ys : List ℕ}
          → AllRenewed h.head.step.0 h.head.nodes net.columns.traffic net.rows.starts line net.columns.fraction st'.inbox ys
          → RowsTaken (Ok tt) js j w h net line ys
      taken_rows {ys} renewed = record {
        said = λ {ts} {ls} n s q.
            let same : state_said h.links net.opposite st.inbox ≡ s = unleft (ran.said n ∙ q) in (
              refl,
              outcome-held n st'.inbox ys size_now (renewed ts (far-rise n))
                  ∙ ap (outcome (net_sheet_with h net ts ls net.columns.fraction)) (put.said (kept-left n) asked.stored ∙ ap (λ (x : State). set x j (told_of w)) same),
            );
      }
        where
          unleft : {a b : State} → left a ≡ left b → a ≡ b
          unleft e = cc

-- ---- over an accepted sheet
module _ {h : SheetHeld} {net : NetHeld} (opened : Admitted h net) where
  pub graph-held : GraphIn h net
  graph-held = record {
    tr = net.columns.traffic;
    ts = net.columns.to;
    ls = net.columns.load;
    ps = net.rows.flow;
    graph = opened.graph;
    flow = opened.flow;
    flow-start_size = opened.sizes.flow-starts;
    flow-size = opened.sizes.flow;
  }

  module _ {line : List ℕ} (lines : LinesOf (take h.links net.columns.load) (replicate 512 0) line) where
    lined : NetIn h net line
    lined = net-ready opened lines empty_zeros.size empty_zeros.silence

    its : HeldIn h net line
    its = record { ts = net.columns.to; ls = net.columns.load; net = lined }

    module _ {j w d : ℕ} (inside : j < h.links) (top : d ≤ largest_stored) (same : w / 4 ≡ d) (told : 0 < w) where
      pub rows-asked : RowsAsked j w h net line
      rows-asked = record { held = its; word = record { heard = told; small = omega arith }; stored = inside }

      pub sent-asked : {k : ℕ} → k < h.links → SentAsked j w k h net line
      sent-asked sends = record { held = its; word = record { heard = told; small = omega arith }; stored = inside; sent = sends }

    module _ {j w : ℕ} {m : Message} (word : told_of w ≡ message_said m) where
      pub sent_with : {k r : ℕ} → Sent r j w k h net line → told_of r ≡ carried_by (net_sheet h net) j (message_said m) k
      sent_with {k} sends = sends.said lined ∙ ap (λ (x : Told). carried_by (net_sheet h net) j x k) word

      -- the front of the list that was delivered is the house order
      pub taken_with : {r : Result Unit Refusal} {zeros list ys : List ℕ} → HouseIn h net zeros list → RowsTaken r (take h.links list) j w h net line ys → TakenWith r j m h net ys
      taken_with {zeros = zeros} {list = list} written takes = record {
        said = λ st q.
            let s : Sheet = net_sheet h net in
            let long : length (house s) ≡ h.links = (house-order s opened.graph.sound).1 ∙ held-length h.links net.columns.from net.columns.to net.columns.load net.columns.fraction in
            let front : take h.links list ≡ house s = ap (take h.links) (written.said opened.graph) ∙ take_at (house s) (drop h.links zeros) h.links long in
            let done = takes.said lined st (ap (run s) front ∙ q) in
            (done.0, done.1 ∙ ap (taken_by s st j) word);
      }

-- ---- of a sheet's bytes
module _ {b : List ℕ} {net : NetHeld} {h : SheetHeld} (given : OpenedGiven (Ok h) b net) where
  is_sheet : (s : Sheet) → check b ≡ accepted s → net_sheet h net ≡ s
  is_sheet s a = inside (given.said ∙ a)
    where
      inside : {s t : Sheet} → accepted s ≡ accepted t → s ≡ t
      inside e = cc

  many : length (net_sheet h net).links ≡ h.links
  many = held-length h.links net.columns.from net.columns.to net.columns.load net.columns.fraction

module _ {b : List ℕ} {net : NetHeld} {q : Question} {j : ℕ} {m : Message} {r : Follows} {ys : List ℕ} where
  module _ {h : SheetHeld} (given : OpenedGiven (Ok h) b net) where
    -- what holds of the sheet that the columns hold
    followed_by : (j < h.links → FollowedBy q (net_sheet h net) j (message_said m) r ys) → Followed q b j m r ys
    followed_by f = record {
      said = λ s a.
          subst (λ (t : Sheet). j < length t.links → FollowedBy q t j (message_said m) r ys) (is_sheet given s a) (λ low. f (omega (arith, many given)));
    }

    pub followed_outside : h.links ≤ j → Followed q b j m r ys
    followed_outside out = followed_by (λ low. absurd (omega arith))

module _ {b : List ℕ} {net : NetHeld} {h : SheetHeld} (given : OpenedGiven (Ok h) b net) {j : ℕ} {m : Message} {ys : List ℕ} where
  pub followed_nowhere : {k : ℕ} {r : Follows} → h.links ≤ k → Followed (Question.Carries k) b j m r ys
  followed_nowhere out = followed_by given (λ low sends. absurd (omega (arith, many given)))

  pub followed_rows : TakenWith (Ok tt) j m h net ys → Followed Question.Rows b j m (Follows.Taken h.links) ys
  followed_rows takes = followed_by given (λ low st ran. (
    ap Follows.Taken (sym (many given)),
    λ i inside.
        ap (λ (l : Link). l.fraction) (sym (held-at h.links net.columns.from net.columns.to net.columns.load ys i (omega (arith, many given))))
        ∙ ap (λ (t : Sheet). (link_of t i).fraction) (takes.said st ran).1,
  ))

-- the house order runs
pub never_stopped : {X : Type 0} {h : SheetHeld} {net : NetHeld} → Admitted h net → {e : Refusal} {j : ℕ} {m : Message} {ys : List ℕ} → TakenWith (Err e) j m h net ys → X
never_stopped {h = h} {net = net} opened takes =
    let done = house-order (net_sheet h net) opened.graph.sound in absurd (apart (takes.said done.0 done.2).0)
  where
    apart : {e : Refusal} → ◌≡◌ {A = Result Unit Refusal} (Err e) (Ok tt) → ⊥
    apart e = let z : ◌≡◌ {A = ℕ} 0 1 = cc in omega arith

-- ---- plate A
plate-accepted : check (bytes plate_a) ≡ accepted plate_a
plate-accepted = sound-accepted plate_a plate_a-sound

module _ {d : ℕ} {f : Follows} {ys : List ℕ} where
  pub plate-word : {t : Told} → t ≡ word_said f → Followed (Question.Carries 3) (bytes plate_a) 0 (record { delay = record { 0 = d }; blocked = false }) f ys → t ≡ sent_by plate_a d
  plate-word e follows = e ∙ follows.said plate_a plate-accepted (omega arith) (omega arith)

  pub plate-row : Followed Question.Rows (bytes plate_a) 5 (record { delay = record { 0 = d }; blocked = false }) f ys
      → (get_or ys 2 0 ∷ get_or ys 3 0 ∷ []) ≡ row_by plate_a (everything plate_a) d
  plate-row follows =
      let each = (follows.said plate_a plate-accepted (omega arith) (everything plate_a) refl).1 in
      ap₂ (λ (x y : ℕ). x ∷ y ∷ []) (each 2 (omega arith)) (each 3 (omega arith))

-- ---- document 01's figures, and the true ones beside them
pub figures_sent : (sent_by plate_a 100 ≡ told 356 false) × (sent_by plate_a 0 ≡ told 256 false)
figures_sent = (refl, refl)

pub figures_row : (row_by plate_a (everything plate_a) 100 ≡ 61056 ∷ 4480 ∷ []) × (row_by plate_a (everything plate_a) 16 ≡ 58368 ∷ 7168 ∷ [])
figures_row = (refl, refl)

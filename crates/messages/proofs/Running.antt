-- The deliveries of a list, one by one: what is left of the list, from the state that stands, ends as the whole does.
use Prim.Native.Nat.{ℕ, suc, ◌+◌, ◌≤◌, ◌<◌}
use native.Mathlib.Omega.{arith}
use native.Mathlib.Numerals.{add-one}
use mathlib.Core.Path.{◌≡◌, refl, sym, ap, ◌∙◌}
use mathlib.Core.Bool.{Bool, true, false, cond}
use mathlib.Core.List.{List, ◌∷◌}
use Rattle.std.proofs.lemmas.Option.{same_Some, none-some}
use Rattle.std.specs.Prelude.{Option, Some, None, Ok, Err}
use lib.ListN.{length, get_or, drop}
use lib.Seq.{drop-cons, drop-length}
use lib.Dec.{leb}
use borrow.Author.Tests.{leb-true, leb-false, le-leb, lt-leb}
use Rattle.rules.specs.Sheet.{Sheet}
use Rattle.rules.specs.Messages.{State, waits, stopped, left, run_from, run}
use Rattle.rules.proofs.Right.{Right, start_right, deliver-right}
use Rattle.rules.proofs.Run.{run-right}
use Rattle.answers.specs.declared.Fault.{Fault}
use Rattle.answers.specs.declared.Fault.TheVariants.{NotWaiting, NoSuchLink}
use Rattle.answers.specs.Answers.{fault_number}
use Rattle.sheet.specs.declared.SheetHeld.{SheetHeld}
use Rattle.sheet.specs.Held.{sheet_said}
use Rattle.sheet.proofs.Facts.{held-length}
use Rattle.node.specs.declared.NetHeld.{NetHeld}
use Rattle.node.specs.Net.{state_said, SmallInbox, Net, Empty}
use Rattle.messages.specs.declared.StateHeld.{StateHeld}
use Rattle.messages.specs.declared.Tally.{Tally}
use Rattle.messages.specs.State.{AlikeAt, waiting_at, refusal_at, Kept, LinkAt, Begun}
use Rattle.messages.specs.Round.{Deliverable, Delivered, SomeNet, ListRun}
use Rattle.messages.proofs.Alike.{refusal_alike}
use Rattle.messages.proofs.Storing.{waits_kept, link_at_lem}
use Rattle.messages.proofs.Beginning.{state_start, begun_kept}
use Rattle.messages.proofs.Delivering.{deliverable, right-small}

-- k entries on, for the sheet with far nodes ts and load steps ls
pub record Standing (h : SheetHeld) (js tr fs ts ls ss xs os inbox qs : List ℕ) (t : Tally) (k : ℕ) : Type 0 where
  pub kept : Kept h tr fs ts ls xs ss os inbox qs t
  pub right : Right (sheet_said h tr fs ts ls xs) (state_said h.links os inbox)
  pub rest : run (sheet_said h tr fs ts ls xs) js ≡ run_from k (sheet_said h tr fs ts ls xs) (state_said h.links os inbox) (drop k js)

module _ {h : SheetHeld} {tr fs ts ls xs ss gs ps os line : List ℕ} (net : Net h tr fs ts ls xs ss gs ps os line) where
  abbrev s : Sheet
  s = sheet_said h tr fs ts ls xs

  standing_none : {js inbox qs : List ℕ} {t : Tally} → Empty inbox → Begun h.head.nodes ss gs qs t → Standing h js tr fs ts ls ss xs os inbox qs t 0
  standing_none {js} empty begun = record {
    kept = begun_kept net empty begun;
    right = rw (state_start net empty) (start_right s);
    rest = ap (λ (st : State). run_from 0 s st js) (sym (state_start net empty));
  }

  module _ {js inbox qs : List ℕ} {t : Tally} {k : ℕ} (inv : Standing h js tr fs ts ls ss xs os inbox qs t k) where
    abbrev st : State
    st = state_said h.links os inbox

    standing_all : length js ≤ k → k ≤ length js → left st ≡ run s js
    standing_all a b =
        let z : k ≡ length js = omega arith in
        sym (inv.rest ∙ ap (run_from k s st) (ap (λ (m : ℕ). drop m js) z ∙ drop-length js))

    module _ (low : k < length js) {j : ℕ} (number : j ≡ get_or js k 0) where
      split : run s js ≡ run_from k s st (j ∷ drop (suc k) js)
      split = inv.rest ∙ ap (run_from k s st) (drop-cons js k 0 low ∙ ap (λ (i : ℕ). i ∷ drop (suc k) js) (sym number))

      standing_twelve : h.links ≤ j → stopped 12 k ≡ run s js
      standing_twelve a = sym (split ∙ rw (le-leb (length s.links) j (omega (arith, held-length h.links fs ts ls xs))))

      module _ (inside : j < h.links) where
        in_list : j < length s.links
        in_list = omega (arith, held-length h.links fs ts ls xs)

        standing_ten : waiting_at j fs xs os inbox qs ≡ false → stopped 10 k ≡ run s js
        standing_ten e =
            let w : waits s st j ≡ false = sym (waits_kept inv.kept inside) ∙ e in
            sym (split ∙ rw (lt-leb (length s.links) j in_list, w))

        standing_more : {inbox' qs' : List ℕ} {t' : Tally} → waiting_at j fs xs os inbox qs ≡ true
            → Delivered h j tr fs ss gs ps line xs os inbox qs inbox' qs' t t' → Standing h js tr fs ts ls ss xs os inbox' qs' t' (k + 1)
        standing_more e done =
            let w : waits s st j ≡ true = sym (waits_kept inv.kept inside) ∙ e in
            let said = done.said net inv.kept inside in
            record {
              kept = done.keeps net inv.kept inside;
              right = rw said (deliver-right net.graph.sound inv.right j in_list w);
              rest = rw (add-one k, said) (split ∙ rw (lt-leb (length s.links) j in_list, w));
            }

-- for every such sheet
pub record Running (h : SheetHeld) (js tr fs ss gs ps line xs os inbox qs : List ℕ) (t : Tally) (k : ℕ) : Type 0 where
  pub within : k ≤ length js
  pub each : {ts ls : List ℕ} → Net h tr fs ts ls xs ss gs ps os line → Standing h js tr fs ts ls ss xs os inbox qs t k

abbrev pub RunningIn : SheetHeld → List ℕ → NetHeld → List ℕ → StateHeld → Tally → ℕ → Type 0
RunningIn h js net line st t k =
    Running h js net.columns.traffic net.columns.from net.rows.starts net.rows.flow_starts net.rows.flow line net.columns.fraction net.opposite st.inbox st.quiet t k

module _ {h : SheetHeld} {js tr fs ss gs ps line xs os inbox qs : List ℕ} {t : Tally} where
  pub running_none : Empty inbox → Begun h.head.nodes ss gs qs t → Running h js tr fs ss gs ps line xs os inbox qs t 0
  running_none empty begun = record { within = omega arith; each = λ net. standing_none net empty begun }

  module _ {k : ℕ} (inv : Running h js tr fs ss gs ps line xs os inbox qs t k) where
    pub running_all : length js ≤ k → ListRun (Ok t) h js tr fs ss gs ps line xs os inbox qs
    running_all end = record { said = λ net. standing_all net (inv.each net) end inv.within; keeps = λ net. (inv.each net).kept }

    module _ (j : ℕ) where
      module _ (inside : j < h.links) (held : SomeNet h tr fs ss gs ps line xs os) where
        abbrev now : Standing h js tr fs held.ts held.ls ss xs os inbox qs t k
        now = inv.each held.net

        pub running_link : LinkAt j fs os
        running_link = link_at_lem now.kept inside

        pub running_deliverable : Deliverable h.head.step.0 j fs ss gs ps line xs os inbox qs t
        running_deliverable = deliverable held.net now.kept inside (right-small now.kept now.right)

        pub running_more : {inbox' qs' : List ℕ} {t' : Tally} → k < length js → j ≡ get_or js k 0 → waiting_at j fs xs os inbox qs ≡ true
            → Delivered h j tr fs ss gs ps line xs os inbox qs inbox' qs' t t' → Running h js tr fs ss gs ps line xs os inbox' qs' t' (k + 1)
        running_more low number waiting done = record { within = omega arith; each = λ net. standing_more net (inv.each net) low number inside waiting done }

      -- the entry at k, by what it is refused with: fractions ys of a list of the links
      module _ (ys : List ℕ) (same : (k : ℕ) → k < h.links → AlikeAt k ys xs) {answer : Option Fault} (by : answer ≡ refusal_at h.links j fs ys os inbox qs) where
        answered : {a b : Bool} → leb h.links j ≡ a → waiting_at j fs xs os inbox qs ≡ b → answer ≡ cond a (Some NoSuchLink) (cond b None (Some NotWaiting))
        answered e w = by ∙ refusal_alike h.links j fs ys xs os inbox qs same ∙ rw (e, w)

        pub running_stopped : {fault : Fault} → k < length js → j ≡ get_or js k 0 → answer ≡ Some fault
            → ListRun (Err (record { fault = fault; place = k })) h js tr fs ss gs ps line xs os inbox qs
        running_stopped {fault} low number is = record { said = λ net. go net (leb h.links j) (waiting_at j fs xs os inbox qs) refl refl; keeps = λ net. tt }
          where
            go : {ts ls : List ℕ} → Net h tr fs ts ls xs ss gs ps os line → (a b : Bool) → leb h.links j ≡ a → waiting_at j fs xs os inbox qs ≡ b
                → stopped (fault_number fault) k ≡ run (sheet_said h tr fs ts ls xs) js
            go net true b e w = rw (same_Some _ _ (sym is ∙ answered e w)) (standing_twelve net (inv.each net) low number (leb-true h.links j e))
            go net false false e w = rw (same_Some _ _ (sym is ∙ answered e w)) (standing_ten net (inv.each net) low number (leb-false h.links j e) w)
            go net false true e w = absurd (none-some _ (sym (answered e w) ∙ is))

        pub running_clear : answer ≡ None → (j < h.links) × (waiting_at j fs xs os inbox qs ≡ true)
        running_clear is = go (leb h.links j) (waiting_at j fs xs os inbox qs) refl refl
          where
            go : (a b : Bool) → leb h.links j ≡ a → waiting_at j fs xs os inbox qs ≡ b → (j < h.links) × (waiting_at j fs xs os inbox qs ≡ true)
            go true b e w = absurd (none-some _ (sym is ∙ answered e w))
            go false false e w = absurd (none-some _ (sym is ∙ answered e w))
            go false true e w = (leb-false h.links j e, w)

-- what a list leaves can be lent to the desks
pub run_small : {h : SheetHeld} {js tr fs ts ls ss gs ps line xs os inbox qs : List ℕ} {t : Tally}
    → ListRun (Ok t) h js tr fs ss gs ps line xs os inbox qs → Net h tr fs ts ls xs ss gs ps os line → SmallInbox inbox
run_small {js = js} ran net = right-small (ran.keeps net) (run-right net.graph.sound js (sym (ran.said net)))

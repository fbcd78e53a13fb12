-- From what a sheet is opened as to the reply that the rules give.
use Rattle.std.specs.Prelude.{ℕ, ◌≤◌, List, [], ◌++◌, Bool, true, false, length, drop, ltb, Result, Ok, Err, IfOk}
use mathlib.Core.Path.{◌≡◌, refl, sym, ap, subst, ◌∙◌}
use borrow.Author.Tests.{ltb-false}
use Rattle.answers.specs.Answers.{number_of, place_of, numbers, Answered}
use Rattle.answers.specs.declared.Fault.TheVariants.{TooShort}
use Rattle.answers.specs.declared.Refusal.{Refusal}
use Rattle.rules.specs.Sheet.{Sheet}
use Rattle.rules.specs.Bytes.{bytes}
use Rattle.rules.specs.Judge.{Verdict}
use Rattle.rules.specs.Check.{check}
use Rattle.rules.specs.Round.{next}
use Rattle.rules.specs.Messages.{house}
use Rattle.rules.specs.Calls.{Reply, refusal, answer, on_sheet, room, writes, check_reply, house_reply}
use Rattle.rules.proofs.Next.{next-length}
use Rattle.rules.proofs.Demands.{house-order}
use Rattle.sheet.specs.declared.SheetHeld.{SheetHeld}
use Rattle.sheet.specs.Held.{sheet_in}
use Rattle.sheet.proofs.Facts.{held-length}
use Rattle.node.specs.declared.NetHeld.{NetHeld}
use Rattle.admit.specs.Opened.{opened_said, OpenedGiven, Ready}
use Rattle.calls.specs.Written.{roomy, NextWritten}

-- 9, and what is known where it is not given
module _ (have need : ℕ) {a : Result Unit Refusal} (asked : a ≡ roomy have need) (r : Reply) where
  pub no_room : {e : Refusal} → a ≡ Err e → room have need r ≡ refusal (number_of e) (place_of e)
  no_room {e} q = go (ltb have need) refl
    where
      go : (t : Bool) → ltb have need ≡ t → room have need r ≡ refusal (number_of e) (place_of e)
      go true z =
          let is : a ≡ Err (record { fault = TooShort; place = need }) = asked ∙ rw z in
          let same : e ≡ record { fault = TooShort; place = need } = cc in
          rw (z, same)
      go false z = let is : a ≡ Ok tt = asked ∙ rw z in cc

  pub some-room : {u : Unit} → a ≡ Ok u → (need ≤ have) × (room have need r ≡ r)
  some-room {u} q = go (ltb have need) refl
    where
      go : (t : Bool) → ltb have need ≡ t → (need ≤ have) × (room have need r ≡ r)
      go true z = let is : a ≡ Err (record { fault = TooShort; place = need }) = asked ∙ rw z in cc
      go false z = (ltb-false have need z, rw z)

module _ {b : List ℕ} {net : NetHeld} {r : Result SheetHeld Refusal} (given : OpenedGiven r b net) where
  -- refused: any call gives it
  pub refused_reply : {e : Refusal} → r ≡ Err e → (go : Sheet → Reply) → on_sheet (check b) go ≡ refusal (number_of e) (place_of e)
  refused_reply q go = ap (λ (v : Verdict). on_sheet v go) (sym given.said ∙ ap (λ (x : Result SheetHeld Refusal). opened_said x net.columns) q)

  module _ {h : SheetHeld} (e : r ≡ Ok h) where
    abbrev s : Sheet
    s = sheet_in h net.columns

    pub is_ready : Ready h b net
    is_ready = subst (λ (x : Result SheetHeld Refusal). IfOk x (λ k. Ready k b net)) e given.ready

    pub accepted_reply : (go : Sheet → Reply) → on_sheet (check b) go ≡ go s
    accepted_reply go = ap (λ (v : Verdict). on_sheet v go) (sym given.said ∙ ap (λ (x : Result SheetHeld Refusal). opened_said x net.columns) e)

    many : length s.links ≡ h.links
    many = held-length h.links net.columns.from net.columns.to net.columns.load net.columns.fraction

    pub links_reply : check_reply b ≡ answer h.links []
    links_reply = accepted_reply (λ s. answer (length s.links) []) ∙ ap (λ (n : ℕ). answer n []) many

    pub house_accepted : (have : ℕ) → house_reply b have ≡ room have h.links (writes (house s))
    house_accepted have = accepted_reply (λ s. room have (length s.links) (writes (house s))) ∙ ap (λ (n : ℕ). room have n (writes (house s))) many

    -- ---- what is written
    pub next_answered : {old out : List ℕ} → NextWritten h b net old out → Answered (Ok (length b)) (writes (bytes (next s))) old out
    next_answered {old} q =
        let z : length (bytes (next s)) ≡ length b = next-length s ∙ ap length is_ready.stand in
        record { says = ap (λ (n : ℕ). numbers (answer n [])) (sym z); writes = q ∙ ap (λ (k : ℕ). bytes (next s) ++ drop k old) (sym z) }

    pub house_answered : {old out : List ℕ} → out ≡ house s ++ drop h.links old → Answered (Ok h.links) (writes (house s)) old out
    house_answered {old} q =
        let z : length (house s) ≡ h.links = (house-order s is_ready.held.graph.sound).1 ∙ many in
        record { says = ap (λ (n : ℕ). numbers (answer n [])) (sym z); writes = q ∙ ap (λ (k : ℕ). house s ++ drop k old) (sym z) }

-- ---- a call's whole promise
pub answered_refused : {a : Result ℕ Refusal} {e : Refusal} {reply : Reply} (old : List ℕ) → a ≡ Err e → reply ≡ refusal (number_of e) (place_of e) → Answered a reply old old
answered_refused old p q = rw (p, q) (record { says = refl; writes = refl })

pub answered_by : {a : Result ℕ Refusal} {reply full : Reply} {old new : List ℕ} → full ≡ reply → Answered a reply old new → Answered a full old new
answered_by {a} {old = old} {new} q = subst (λ (x : Reply). Answered a x old new) (sym q)

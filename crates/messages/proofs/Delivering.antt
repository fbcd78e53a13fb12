-- A delivery over the lists is a delivery by the rules.
use Prim.Native.Nat.{ℕ, ◌+◌, ◌/◌, ◌≤◌, ◌<◌}
use native.Mathlib.Omega.{arith}
use native.Mathlib.Decide.{dec_lt}
use mathlib.Core.Path.{◌≡◌, refl, sym, ap, ◌∙◌}
use mathlib.Core.Bool.{true}
use mathlib.Core.List.{List}
use lib.ListN.{get_or, set}
use Rattle.rules.specs.Sheet.{Link, Sheet, largest_step, largest_stored}
use Rattle.rules.specs.Desk.{Told, silent, told, heard, delay_told, message}
use Rattle.rules.specs.Messages.{desk, link_of, sender}
use Rattle.rules.proofs.Right.{Right}
use Rattle.rules.proofs.Words.{delay-top}
use Rattle.desk.specs.declared.Message.{Message}
use Rattle.desk.specs.Ways.{told_of, message_said}
use Rattle.desk.proofs.Places.{delay_is}
use Rattle.sheet.specs.declared.SheetHeld.{SheetHeld}
use Rattle.sheet.specs.Held.{sheet_said}
use Rattle.sheet.proofs.Facts.{held-length, held-at}
use Rattle.node.specs.Net.{RowAt, Tells, state_said, SmallInbox, Net}
use Rattle.node.proofs.Held.{state_at, links-few, turns, desk-held, row-held}
use Rattle.messages.specs.declared.Tally.{Tally}
use Rattle.messages.specs.declared.Change.{Change}
use Rattle.messages.specs.declared.StateHeld.{StateHeld}
use Rattle.messages.specs.State.{step_of, AlikeAt, Kept, StoredAt, Stored}
use Rattle.messages.specs.Round.{Deliverable, Delivered}
use Rattle.messages.proofs.Storing.{from_in, link_at_lem, counted-kept, spare-kept, stored_at_lem}

module _ {h : SheetHeld} {tr fs ts ls xs ss gs ps os line : List ℕ} (net : Net h tr fs ts ls xs ss gs ps os line) {inbox qs : List ℕ} {t : Tally} (kept : Kept h tr fs ts ls xs ss os inbox qs t) {j : ℕ} (inside : j < h.links) where
  pub deliverable : SmallInbox inbox → Deliverable h.head.step.0 j fs ss gs ps line xs os inbox qs t
  deliverable small = record {
    step-top = net.graph.sound.step-top;
    link = link_at_lem kept inside;
    row = row-held net inbox kept.inbox_size (get_or fs j 0) (from_in kept inside) small;
    counted = counted-kept kept inside;
    spare = spare-kept kept;
  }

  -- the message that link j's node works out
  message-held : {m : Message} → Tells m h.head.step.0 (get_or tr (get_or fs j 0) 0) ss line xs inbox (get_or fs j 0)
      → message_said m ≡ message (sender (sheet_said h tr fs ts ls xs) (state_said h.links os inbox) j)
  message-held tells =
      let low : get_or fs j 0 < h.head.nodes = from_in kept inside in
      tells.said ts (omega (arith, net.graph.rows.top (get_or fs j 0 + 1) (omega arith), links-few net.graph, net.graph.to-size))
      ∙ ap message (sym (desk-held net inbox kept.inbox_size (get_or fs j 0) low))
      ∙ ap (λ (l : Link). message (desk (sheet_said h tr fs ts ls xs) (state_said h.links os inbox) l.from)) (sym (held-at h.links fs ts ls xs j inside))

pub delivered_is : {h : SheetHeld} {j w : ℕ} {tr fs ss gs ps line xs os inbox qs inbox' qs' : List ℕ} {t t' : Tally} {m : Message} {c : Change}
    → Tells m h.head.step.0 (get_or tr (get_or fs j 0) 0) ss line xs inbox (get_or fs j 0) → told_of w ≡ message_said m
    → Stored j w fs xs os inbox qs inbox' qs' c → t' ≡ step_of t c → Delivered h j tr fs ss gs ps line xs os inbox qs inbox' qs' t t'
delivered_is {h} {j} {os = os} {inbox = inbox} tells word put amended = record {
  said = λ net kept inside. put.said kept inside ∙ ap (set (state_said h.links os inbox) j) (word ∙ message-held net kept inside tells);
  keeps = λ net kept inside. rw amended (put.keeps kept inside);
}

-- ---- the same where the nodes and the fraction were read from the list of the links: i is link j's node, b its far node, x the fraction there
pub node_row : {step j i : ℕ} {fs ss gs ps line xs os inbox qs : List ℕ} {t : Tally} → Deliverable step j fs ss gs ps line xs os inbox qs t
    → i ≡ get_or fs j 0 → RowAt i ss gs ps line xs inbox × (step ≤ largest_step)
node_row d near = (rw near d.row, d.step-top)

pub delivered_by : {h : SheetHeld} {j i k p b x w : ℕ} {tr fs ss gs ps line xs os : List ℕ} (ys : List ℕ) {st st' : StateHeld} {t t' : Tally} {m : Message} {c : Change}
    → i ≡ get_or fs j 0 → k ≡ i → p ≡ get_or os j 0 → b ≡ get_or fs p 0 → x ≡ get_or ys p 0 → AlikeAt (get_or os j 0) ys xs → 0 < w
    → Tells m h.head.step.0 (get_or tr k 0) ss line xs st.inbox i → told_of w ≡ message_said m
    → StoredAt p b x w st st' c → t' ≡ step_of t c → Delivered h j tr fs ss gs ps line xs os st.inbox st.quiet st'.inbox st'.quiet t t'
delivered_by ys near as_index place far part alike some tells word put amended =
    delivered_is (rw (as_index, near) at tells) word (stored_at_lem some (rw (far, part, place, alike) at put)) amended

-- ---- in a right state the stored delays are small
module _ {h : SheetHeld} {tr fs ts ls xs ss os inbox qs : List ℕ} {t : Tally} (kept : Kept h tr fs ts ls xs ss os inbox qs t) where
  abbrev s : Sheet
  s = sheet_said h tr fs ts ls xs

  pub right-small : Right s (state_said h.links os inbox) → SmallInbox inbox
  right-small right k = go (dec_lt k h.links)
    where
      -- what stands at place k was delivered on the opposite link
      at_place : k < h.links → told_of (get_or inbox k 0) ≡ get_or (state_said h.links os inbox) (get_or os k 0) silent
      at_place a = sym (state_at h.links os inbox (get_or os k 0) (kept.graph.opposites.low k a) ∙ ap (λ (x : ℕ). told_of (get_or inbox x 0)) (turns kept.graph k a))

      small : (w : Told) → (heard w ≡ true → delay_told w ≤ largest_stored) → delay_told w ≤ largest_stored
      small silent f = omega arith
      small (told m b) f = f refl

      go : Dec (k < h.links) → get_or inbox k 0 / 4 ≤ largest_stored
      go (no n) = let z = kept.beyond k (omega arith) in rw z (omega arith)
      go (yes a) =
          let o : get_or os k 0 < h.links = kept.graph.opposites.low k a in
          omega (
            arith,
            delay_is (get_or inbox k 0),
            small (told_of (get_or inbox k 0)) (λ e.
                omega (
                  arith,
                  ap delay_told (at_place a ∙ right.holds (get_or os k 0) (omega (arith, held-length h.links fs ts ls xs)) (ap heard (sym (at_place a)) ∙ e)),
                  delay-top kept.graph.sound (link_of s (get_or os k 0)).from (rw (held-at h.links fs ts ls xs (get_or os k 0) o) (from_in kept o)),
                )),
          )

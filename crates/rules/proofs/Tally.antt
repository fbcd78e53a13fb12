-- The tally of finished nodes, and what a frame shows.
use Prim.Native.Nat.{ℕ, zero, suc, ◌+◌, ◌*◌, ◌<◌}
use native.Mathlib.Omega.{arith}
use mathlib.Core.Path.{◌≡◌, refl, ap, ap₂, ◌∙◌}
use mathlib.Core.Bool.{Bool, true, false}
use mathlib.Core.List.{List, [], ◌∷◌, Memᴰ as In}
use lib.ListN.{length, get_or, set, length-append}
use lib.Dec.{eqb}
use borrow.Author.Tests.{ne_eqb}
use Rattle.rules.specs.Lists.{bit}
use Rattle.rules.specs.Sheet.{Link, Sheet}
use Rattle.rules.specs.Bytes.{four}
use Rattle.rules.specs.Desk.{silent, told, heard, Desk, status, delay, blocked}
use Rattle.rules.specs.Round.{full_desk}
use Rattle.rules.specs.Messages.{State, back, desk, no_link, link_of, sender, waits, deliver, delivered, is_finished, finished}
use Rattle.rules.specs.Calls.{node_frame, frames_of}
use Rattle.rules.proofs.Tests.{clash}
use Rattle.rules.proofs.Lists.{get_or_in, total_but}
use Rattle.rules.proofs.Order.{once}
use Rattle.rules.proofs.Sound.{Sound, in_row}
use Rattle.rules.proofs.Local.{opposite-ends, desk-elsewhere}
use Rattle.rules.proofs.Right.{two_full, full-heard, undelivered, twin, Right, delay-right, blocked-right}

-- for every state, right or not: one delivery more, unless it was made before
delivered-set : (st : State) (j : ℕ) (m : ℕ) (b : Bool) → j < length st → delivered (set st j (told m b)) + bit (heard (get_or st j silent)) ≡ suc (delivered st)
delivered-set [] j m b h = absurd (omega arith)
delivered-set (w ∷ st) zero m b h = omega arith
delivered-set (w ∷ st) (suc j) m b h = omega (arith, delivered-set st j m b (omega arith))

pub delivered_law : (s : Sheet) (st : State) (j : ℕ) → j < length st → delivered (deliver s st j) + bit (heard (get_or st j silent)) ≡ suc (delivered st)
delivered_law s st j h = delivered-set st j (delay (sender s st j)) (blocked (sender s st j)) h

-- for every state, right or not: only the node that the message goes to may finish by it
pub finished_law : (s : Sheet) (st : State) (j : ℕ) → (link_of s j).to < s.nodes
    → finished s (deliver s st j) + bit (is_finished s st (link_of s j).to) ≡ finished s st + bit (is_finished s (deliver s st j) (link_of s j).to)
finished_law s st j a = total_but (λ i. bit (is_finished s (deliver s st j) i)) (λ i. bit (is_finished s st i)) (link_of s j).to
    (λ i n. ap (λ (d : Desk). bit (eqb (status d) 2)) (desk-elsewhere s st j i n)) s.nodes a

module _ {s : Sheet} (ok : Sound s) where
  -- the node that an undelivered message goes to has not finished: it is the one message that b has from a
  unfinished : (st : State) (j : ℕ) → j < length s.links → heard (get_or st j silent) ≡ false → status (desk s st (link_of s j).to) ≡ 2 → ⊥
  unfinished st j a q e =
      let t = twin ok (link_of s j) (get_or_in s.links j no_link a) in
      let l : Link = link_of s t.place in
      let m : In l s.links = get_or_in s.links t.place no_link t.inside in
      let u = twin ok l m in
      let there = opposite-ends (link_of s j) l t.turned in
      let again = opposite-ends l (link_of s u.place) u.turned in
      let same : u.place ≡ j = once s.links ok.rising u.place j u.inside a (again.0 ∙ there.1) (again.1 ∙ there.0) in
      let told : heard (back s.links st l) ≡ true =
      full-heard s (back s.links st) l.from (two_full (desk s st l.from) (ap (λ (i : ℕ). status (desk s st i)) there.0 ∙ e)) l (in_row m) in
      clash told (ap heard (u.stored st ∙ ap (λ (x : ℕ). get_or st x silent) same) ∙ q)

  pub finished-waits : (st : State) (j : ℕ) → j < length s.links → waits s st j ≡ true
      → finished s (deliver s st j) ≡ finished s st + bit (is_finished s (deliver s st j) (link_of s j).to)
  finished-waits st j a q =
      let law = finished_law s st j (ok.fits (link_of s j) (get_or_in s.links j no_link a)).to_in in
      let not_yet : is_finished s st (link_of s j).to ≡ false = ne_eqb (status (desk s st (link_of s j).to)) 2 (unfinished st j a (undelivered s st j q)) in
      omega (arith, rw not_yet at law)

  -- what a frame shows of a right state is the calculation's
  pub frame_right : {st : State} → Right s st → (i k : ℕ) → status (desk s st i) ≡ k → node_frame k (desk s st i) ≡ node_frame k (full_desk s i)
  frame_right right i zero e = refl
  frame_right right i (suc k) e =
      ap₂ (λ (m : ℕ) (b : Bool). suc k ∷ bit b ∷ four m) (delay-right ok right i (omega arith)) (blocked-right ok right i (omega arith))

-- six bytes a node
frame_six : (k : ℕ) (d : Desk) → length (node_frame k d) ≡ 6
frame_six zero d = refl
frame_six (suc k) d = refl

pub frames_length : (s : Sheet) (st : State) (is : List ℕ) → length (frames_of s st is) ≡ 6 * length is
frames_length s st [] = refl
frames_length s st (i ∷ is) =
    let k : ℕ = status (desk s st i) in
    omega (arith, length-append (node_frame k (desk s st i)) (frames_of s st is), frame_six k (desk s st i), frames_length s st is)

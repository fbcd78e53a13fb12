-- The value of a reply, a refusal's place or what is answered, is at most 4,488 whatever the input.
use Prim.Native.Nat.{ℕ, zero, suc, ◌*◌, ◌≤◌}
use native.Mathlib.Omega.{arith}
use mathlib.Core.Path.{◌≡◌, ◌∙◌}
use mathlib.Core.Bool.{not}
use mathlib.Core.List.{List, [], ◌∷◌}
use lib.ListN.{length, length-map, length-set, length-replicate}
use lib.Dec.{ltb, leb}
use borrow.Author.Tests.{not-false, leb-false, ltb-true}
use Rattle.rules.specs.Lists.{below, Place, nowhere, at}
use Rattle.rules.specs.Sheet.{Link, Sheet}
use Rattle.rules.specs.Bytes.{bytes}
use Rattle.rules.specs.Judge.{Verdict, refused, accepted}
use Rattle.rules.specs.Check.{check}
use Rattle.rules.specs.Desk.{Told, silent, heard, message}
use Rattle.rules.specs.Round.{new_link, rerouted, word_for, words, next}
use Rattle.rules.specs.Messages.{State, start, back, sender, waits, deliver, delivered, Ran, stopped, left, run_from, run, lowest_waiting, chosen, house_from, house}
use Rattle.rules.specs.Calls.{Reply, refusal, answer, writes, on_sheet, room, after_list, check_reply, next_reply, frames_of, play_reply, frame_reply, house_reply}
use Rattle.rules.proofs.Lists.{below_length, count_le}
use Rattle.rules.proofs.Reading.{bytes-length}
use Rattle.rules.proofs.Live.{deliver_count}
use Rattle.rules.proofs.Tally.{frames_length}
use Rattle.rules.proofs.Replies.{play_end, play_list, frame_list}
use Rattle.rules.proofs.Places.{either, Sized, Low, check-low}

-- ---- a list stops at index L at the latest: each entry before it was a delivery, and made on a link of its own
data StopsBy (top : ℕ) : Ran → Type 0 where
  stops : {n k : ℕ} → k ≤ top → StopsBy top (stopped n k)
  goes : {st : State} → StopsBy top (left st)

module _ (s : Sheet) where
  run-stops : (k : ℕ) (st : State) (js : List ℕ) → length st ≡ length s.links → k ≤ delivered st → StopsBy (length s.links) (run_from k s st js)
  run-stops k st [] z h = goes
  run-stops k st (j ∷ js) z h =
      let here : k ≤ length s.links = omega (arith, count_le heard st) in
      either (StopsBy (length s.links)) (leb (length s.links) j) (λ a. stops here) (λ a.
      either (StopsBy (length s.links)) (not (waits s st j)) (λ q. stops here) (λ q.
      run-stops (suc k) (deliver s st j) js (length-set st j (message (sender s st j)) ∙ z)
      (omega (arith, deliver_count s st j z (leb-false (length s.links) j a) (not-false (waits s st j) q)))))

  -- House order gives no more numbers than it makes choices
  house-low : (k : ℕ) (st : State) → length (house_from k s st) ≤ k
  house-low zero st = omega arith
  house-low (suc k) st = go (lowest_waiting s st) (house-low k)
    where
      go : (q : Place) → ((st : State) → length (house_from k s st) ≤ k) → length (chosen q (λ j. house_from k s (deliver s st j))) ≤ suc k
      go nowhere ih = omega arith
      go (at j) ih = omega (arith, ih (deliver s st j))

-- ---- the calls
-- a refusal's place, or what is answered
abbrev pub value_of : Reply → ℕ
value_of (refusal n p) = p
value_of (answer v new) = v

abbrev Small : Reply → Type 0
Small r = value_of r ≤ 4488

verdict_small : (b : List ℕ) (v : Verdict) (go : Sheet → Reply) → Low b v → ((s : Sheet) → Sized b s → Small (go s)) → Small (on_sheet v go)
verdict_small b (refused n p) go h f = h
verdict_small b (accepted s) go h f = f s h

stop_small : {top : ℕ} {r : Ran} (end : State → Reply) → top ≤ 4488 → StopsBy top r → ((st : State) → Small (end st)) → Small (after_list r end)
stop_small end h (stops l) f = omega arith
stop_small end h (goes {st}) f = f st

module _ (b : List ℕ) where
  -- the sheet, then the room, then the rest
  call_small : (have : ℕ) (need : Sheet → ℕ) (go : Sheet → Reply) → ((s : Sheet) → Sized b s → (need s ≤ 4488) × Small (go s))
      → Small (on_sheet (check b) (λ s. room have (need s) (go s)))
  call_small have need go f = verdict_small b (check b) (λ s. room have (need s) (go s)) (check-low b) (λ s z.
      either Small (ltb have (need s)) (λ e. (f s z).0) (λ e. (f s z).1))

  -- with whatever fractions
  bytes_small : (s : Sheet) → Sized b s → (w : Link → Told) → length (bytes (rerouted s w)) ≤ 4488
  bytes_small s z w = omega (arith, bytes-length (rerouted s w), length-map s.links (new_link s w))

  pub check-small : value_of (check_reply b) ≤ 4488
  check-small = verdict_small b (check b) (λ s. answer (length s.links) []) (check-low b) (λ s z. omega arith)

  pub next_small : (have : ℕ) → value_of (next_reply b have) ≤ 4488
  next_small have = call_small have (λ s. length b) (λ s. writes (bytes (next s))) (λ s z. (z.row, bytes_small s z (word_for (words s))))

  pub house-small : (have : ℕ) → value_of (house_reply b have) ≤ 4488
  house-small have = call_small have (λ s. length s.links) (λ s. writes (house s)) (λ s z.
      (omega arith, omega (arith, house-low s (length s.links) (start s))))

  module _ (js : List ℕ) (have : ℕ) where
    list_small : (s : Sheet) → Sized b s → (end : State → Reply) → ((st : State) → Small (end st)) → Small (after_list (run s js) end)
    list_small s z end =
        stop_small end (omega arith) (run-stops s 0 (start s) js (length-replicate (length s.links) silent) (omega arith))

    pub play-small : value_of (play_reply b js have) ≤ 4488
    play-small = call_small have (λ s. length b) (λ s. play_list s js) (λ s z. (
      z.row,
      list_small s z (play_end s js) (λ st.
          either Small (ltb (length js) (length s.links)) (λ e. omega (arith, ltb-true (length js) (length s.links) e))
          (λ e. bytes_small s z (back s.links st))),
    ))

    pub frame_small : value_of (frame_reply b js have) ≤ 4488
    frame_small = call_small have (λ s. 6 * s.nodes) (λ s. frame_list s js) (λ s z. (
      omega arith,
      list_small s z (λ st. writes (frames_of s st (below s.nodes))) (λ st.
          omega (arith, frames_length s st (below s.nodes), below_length s.nodes)),
    ))

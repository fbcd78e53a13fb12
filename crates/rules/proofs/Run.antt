-- Runs: every complete run of deliveries, in whatever order, ends in the calculation's sheet; and the house order is such a run.
use Prim.Native.Nat.{ℕ, zero, suc, ◌+◌, ◌≤◌, ◌<◌}
use native.Mathlib.Omega.{arith}
use mathlib.Core.Path.{◌≡◌, refl, ap, ap₂, ◌∙◌}
use mathlib.Core.Bool.{Bool, true, false, cond, not}
use mathlib.Core.List.{List, [], ◌∷◌, Memᴰ as In}
use lib.ListN.{length, get_or, take}
use lib.Dec.{leb, ltb}
use borrow.Author.Tests.{leb-false, lt-leb, le-ltb}
use Rattle.rules.specs.Lists.{below, at}
use Rattle.rules.specs.Sheet.{Link, Sheet, with_links, with_fraction}
use Rattle.rules.specs.Bytes.{bytes}
use Rattle.rules.specs.Judge.{accepted}
use Rattle.rules.specs.Check.{check}
use Rattle.rules.specs.Desk.{Told, heard, Desk, status, new_fraction}
use Rattle.rules.specs.Round.{way_of, new_link, word_for, words, next}
use Rattle.rules.specs.Messages.{State, start, back, desk, waits, deliver, delivered, is_finished, finished, stopped, left, run_from, run, outcome, lowest_waiting, house_from, house}
use Rattle.rules.specs.Calls.{refusal, writes, room, after_list, play_reply, next_reply}
use Rattle.rules.proofs.Lists.{map_eq, count_le, full_count, below_length}
use Rattle.rules.proofs.Sound.{Sound, row-link}
use Rattle.rules.proofs.Right.{full_two, heard-full, twin, Right, back-right, desk-right, deliver-right, start_right}
use Rattle.rules.proofs.Live.{count_start, deliver_count, heard_all, some-waits}

-- ---- a run that goes on, taken apart and put together
stopped-left : {G : Type 0} (n k : ℕ) (st : State) → stopped n k ≡ left st → G
stopped-left n k st e = let z : ◌≡◌ {A = ℕ} 0 1 = cc in absurd (omega arith)

pub run_step : (k : ℕ) (s : Sheet) (st : State) (j : ℕ) (js : List ℕ) (end : State) → run_from k s st (j ∷ js) ≡ left end
    → (j < length s.links) × (waits s st j ≡ true) × (run_from (suc k) s (deliver s st j) js ≡ left end)
run_step k s st j js end e = go (leb (length s.links) j) (waits s st j) refl refl e
  where
    go : (a b : Bool) → leb (length s.links) j ≡ a → waits s st j ≡ b
        → cond a (stopped 12 k) (cond (not b) (stopped 10 k) (run_from (suc k) s (deliver s st j) js)) ≡ left end
        → (j < length s.links) × (b ≡ true) × (run_from (suc k) s (deliver s st j) js ≡ left end)
    go true b p q e = stopped-left 12 k end e
    go false true p q e = (leb-false (length s.links) j p, refl, e)
    go false false p q e = stopped-left 10 k end e

pub step_run : (k : ℕ) (s : Sheet) (st : State) (j : ℕ) (js : List ℕ) → j < length s.links → waits s st j ≡ true
    → run_from k s st (j ∷ js) ≡ run_from (suc k) s (deliver s st j) js
step_run k s st j js a q = rw (lt-leb (length s.links) j a, q)

module _ {s : Sheet} (ok : Sound s) where
  runs : (k : ℕ) (st : State) (js : List ℕ) (end : State) → Right s st → run_from k s st js ≡ left end
      → Right s end × (delivered end ≡ delivered st + length js)
  runs k st [] end r e = let z : st ≡ end = cc in (rw (← z) r, omega (arith, ap delivered z))
  runs k st (j ∷ js) end r e =
      let p = run_step k s st j js end e in
      let q = runs (suc k) (deliver s st j) js end (deliver-right ok r j p.0 p.1) p.2 in
      (q.0, omega (arith, q.1, deliver_count s st j r.size p.0 p.1))

  -- a run leaves a right state, with as many deliveries as the list has entries, so at most one for each link
  module _ (js : List ℕ) {st : State} (e : run s js ≡ left st) where
    pub run-right : Right s st
    run-right = (runs 0 (start s) js st (start_right s) e).0

    pub run_count : delivered st ≡ length js
    run_count = omega (arith, (runs 0 (start s) js st (start_right s) e).1, count_start (length s.links))

    pub run-size : length js ≤ length s.links
    run-size = omega (arith, run_count, count_le heard st, run-right.size)

  -- ---- when all is delivered
  module _ {st : State} (right : Right s st) (done : delivered st ≡ length s.links) where
    back_done : (l : Link) → In l s.links → heard (back s.links st l) ≡ true
    back_done l m =
        let t = twin ok l m in
        let z : length st ≡ length s.links = right.size in
        ap heard (t.stored st) ∙ heard_all st (omega arith) t.place (omega (arith, t.inside))

    pub status-done : (i : ℕ) → status (desk s st i) ≡ 2
    status-done i = full_two (desk s st i) (heard-full s (back s.links st) i (λ l m. back_done l (row-link i s.links m)))

    pub outcome-done : outcome s st ≡ next s
    outcome-done = ap (with_links s) (map_eq (new_link s (back s.links st)) (new_link s (word_for (words s))) s.links (λ l m.
        ap₂ (λ (d : Desk) (w : Told). with_fraction l (new_fraction d (way_of (λ x. w) l)))
        (desk-right ok right l.from (status-done l.from)) (back-right ok right l m (back_done l m))))

    pub finished-done : finished s st ≡ s.nodes
    finished-done = full_count (is_finished s st) (below s.nodes) (λ i m. rw (status-done i)) ∙ below_length s.nodes

  -- ---- the house order
  house-run : (k m : ℕ) (st : State) → Right s st → delivered st + k ≡ length s.links
      → (end : State) × (length (house_from k s st) ≡ k) × (run_from m s st (house_from k s st) ≡ left end)
  house-run zero m st r e = (st, refl, refl)
  house-run (suc k) m st r e =
      let w = some-waits ok st r.size (omega arith) in
      let j : ℕ = w.0 in
      let q = house-run k (suc m) (deliver s st j) (deliver-right ok r j w.2 w.3) (omega (arith, deliver_count s st j r.size w.2 w.3)) in
      (q.0, rw w.1 (ap suc q.1), rw (w.1, step_run m s st j (house_from k s (deliver s st j)) w.2 w.3) q.2)

  pub house_complete : (st : State) × (length (house s) ≡ length s.links) × (run s (house s) ≡ left st)
  house_complete = house-run (length s.links) 0 (start s) (start_right s) (omega (arith, count_start (length s.links)))

  -- each entry is the lowest that waits once those before it were delivered
  house-from : (k m : ℕ) (st : State) → Right s st → delivered st + k ≡ length s.links → (p : ℕ) → p < k
      → (su : State) × (run_from m s st (take p (house_from k s st)) ≡ left su) × (lowest_waiting s su ≡ at (get_or (house_from k s st) p 0))
  house-from zero m st r e p h = absurd (omega arith)
  house-from (suc k) m st r e zero h = let w = some-waits ok st r.size (omega arith) in (st, refl, rw w.1)
  house-from (suc k) m st r e (suc p) h =
      let w = some-waits ok st r.size (omega arith) in
      let j : ℕ = w.0 in
      let rest : List ℕ = house_from k s (deliver s st j) in
      let q = house-from k (suc m) (deliver s st j) (deliver-right ok r j w.2 w.3) (omega (arith, deliver_count s st j r.size w.2 w.3)) p (omega arith) in
      (q.0, rw (w.1, step_run m s st j (take p rest) w.2 w.3) q.1, rw w.1 q.2)

  pub house-lowest : (k : ℕ) → k < length s.links → (st : State) × (run s (take k (house s)) ≡ left st) × (lowest_waiting s st ≡ at (get_or (house s) k 0))
  house-lowest = house-from (length s.links) 0 (start s) (start_right s) (omega (arith, count_start (length s.links)))

  -- ---- Play with a complete list writes what Next writes
  pub play_complete : (b js : List ℕ) (have : ℕ) (st : State) → check b ≡ accepted s → run s js ≡ left st → length js ≡ length s.links
      → play_reply b js have ≡ next_reply b have
  play_complete b js have st a e z = rw a (ap (room have (length b)) inner)
    where
      inner : after_list (run s js) (λ x. cond (ltb (length js) (length s.links)) (refusal 11 (length js)) (writes (bytes (outcome s x)))) ≡ writes (bytes (next s))
      inner = rw (e, le-ltb (length js) (length s.links) (omega arith))
          (ap (λ (x : Sheet). writes (bytes x)) (outcome-done (run-right js e) (run_count js e ∙ z)))

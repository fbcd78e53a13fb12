-- Refusals 9 to 12, exactly when; and which refusals a call can give.
use Prim.Native.Nat.{ℕ, zero, suc, ◌+◌, ◌*◌, ◌≤◌, ◌<◌}
use native.Mathlib.Omega.{arith}
use mathlib.Core.Path.{◌≡◌, refl, sym, ap, ap₂, ◌∙◌}
use mathlib.Core.Logic.Iff
use mathlib.Core.Logic.{◌⊎◌, inl, inr, ⊎_elim, ◌↔◌, ◌≢◌}
use mathlib.Core.Bool.{Bool, true, false, cond, not}
use mathlib.Core.List.{List, [], ◌∷◌}
use lib.ListN.{length, get_or, take}
use lib.Dec.{leb, ltb}
use borrow.Author.Tests.{leb-true, leb-false, le-leb, lt-leb, ltb-true, ltb-false, lt-ltb, le-ltb}
use Rattle.rules.specs.Lists.{below}
use Rattle.rules.specs.Sheet.{Sheet}
use Rattle.rules.specs.Bytes.{bytes}
use Rattle.rules.specs.Judge.{Verdict, refused, accepted}
use Rattle.rules.specs.Check.{check}
use Rattle.rules.specs.Round.{next}
use Rattle.rules.specs.Messages.{State, start, waits, deliver, Ran, stopped, left, run_from, run, outcome, house}
use Rattle.rules.specs.Calls.{Reply, refusal, answer, writes, on_sheet, room, after_list, check_reply, next_reply, frames_of, play_reply, frame_reply, house_reply}
use Rattle.rules.proofs.Refusals.{check-number}
use Rattle.rules.proofs.Run.{run_step, step_run}

-- ---- the list
-- an entry j that is not delivered in a state, and the number it is refused with
pub data Undue (s : Sheet) (st : State) (j : ℕ) : ℕ → Type 0 where
  no-link : length s.links ≤ j → Undue s st j 12
  not_waiting : j < length s.links → waits s st j ≡ false → Undue s st j 10

-- the k entries before it were all delivered, and leave a state in which entry k is refused
pub record Stops (s : Sheet) (js : List ℕ) (n k : ℕ) : Type 0 where
  pub inside : k < length js
  pub state : State
  pub before : run s (take k js) ≡ left state
  pub undue : Undue s state (get_or js k 0) n

same_stop : {m n j k : ℕ} → stopped m j ≡ stopped n k → (m ≡ n) × (j ≡ k)
same_stop e = (cc, cc)

module _ (s : Sheet) where
  -- the same from a state, where the entries are counted from m
  record StopsFrom (m : ℕ) (st : State) (js : List ℕ) (n k : ℕ) : Type 0 where
    place : ℕ
    counts : k ≡ m + place
    inside : place < length js
    state : State
    before : run_from m s st (take place js) ≡ left state
    undue : Undue s state (get_or js place 0) n

  entry_stops : (m : ℕ) (st : State) (j : ℕ) (js : List ℕ) {n : ℕ} → Undue s st j n → run_from m s st (j ∷ js) ≡ stopped n m
  entry_stops m st j js (no-link h) = rw (le-leb (length s.links) j h)
  entry_stops m st j js (not_waiting h q) = rw (lt-leb (length s.links) j h, q)

  from_gives : (m : ℕ) (st : State) (js : List ℕ) {n k : ℕ} → run_from m s st js ≡ stopped n k → StopsFrom m st js n k
  from_gives m st [] {n} {k} e = let z : ◌≡◌ {A = ℕ} 0 1 = cc in absurd (omega arith)
  from_gives m st (j ∷ js) {n} {k} e = go (leb (length s.links) j) (waits s st j) refl refl e (from_gives (suc m) (deliver s st j) js)
    where
      here-stops : {a : ℕ} → stopped a m ≡ stopped n k → Undue s st j a → StopsFrom m st (j ∷ js) n k
      here-stops q u =
          let z = same_stop q in
          record { place = 0; counts = omega (arith, z.1); inside = omega arith; state = st; before = refl; undue = rw z.0 at u }

      go : (a b : Bool) → leb (length s.links) j ≡ a → waits s st j ≡ b
          → cond a (stopped 12 m) (cond (not b) (stopped 10 m) (run_from (suc m) s (deliver s st j) js)) ≡ stopped n k
          → (run_from (suc m) s (deliver s st j) js ≡ stopped n k → StopsFrom (suc m) (deliver s st j) js n k) → StopsFrom m st (j ∷ js) n k
      go true b p q w ih = here-stops w (no-link (leb-true (length s.links) j p))
      go false false p q w ih = here-stops w (not_waiting (leb-false (length s.links) j p) q)
      go false true p q w ih =
          let r = ih w in
          record {
            place = suc r.place;
            counts = omega (arith, r.counts);
            inside = omega (arith, r.inside);
            state = r.state;
            before = step_run m s st j (take r.place js) (leb-false (length s.links) j p) q ∙ r.before;
            undue = r.undue;
          }

  from_holds : (m : ℕ) (st : State) (js : List ℕ) (k : ℕ) (end : State) {n : ℕ} → k < length js → run_from m s st (take k js) ≡ left end → Undue s end (get_or js k 0) n
      → run_from m s st js ≡ stopped n (m + k)
  from_holds m st [] k end h e u = absurd (omega arith)
  from_holds m st (j ∷ js) zero end {n} h e u =
      let z : st ≡ end = cc in
      let y : m ≡ m + 0 = omega arith in
      entry_stops m st j js (rw (← z) at u) ∙ ap (stopped n) y
  from_holds m st (j ∷ js) (suc k) end {n} h e u =
      let p = run_step m s st j (take k js) end e in
      let y : suc m + k ≡ m + suc k = omega arith in
      step_run m s st j js p.0 p.1 ∙ from_holds (suc m) (deliver s st j) js k end (omega arith) p.2 u ∙ ap (stopped n) y

  pub stops_iff : (js : List ℕ) (n k : ℕ) → (run s js ≡ stopped n k) ↔ Stops s js n k
  stops_iff js n k = (gives, holds)
    where
      holds : Stops s js n k → run s js ≡ stopped n k
      holds h = let z : 0 + k ≡ k = omega arith in from_holds 0 (start s) js k h.state h.inside h.before h.undue ∙ ap (stopped n) z

      gives : run s js ≡ stopped n k → Stops s js n k
      gives e =
          let r = from_gives 0 (start s) js e in
          let z : r.place ≡ k = omega (arith, r.counts) in
          record {
            inside = omega (arith, r.inside);
            state = r.state;
            before = ap (λ (i : ℕ). run s (take i js)) (sym z) ∙ r.before;
            undue = rw z at r.undue;
          }

-- 12 at k: those before were all delivered, and entry k is no link's number
abbrev pub NoLinkAt : Sheet → List ℕ → ℕ → Type 0
NoLinkAt s js k = (st : State) × (k < length js) × (run s (take k js) ≡ left st) × (length s.links ≤ get_or js k 0)

-- 10 at k: those before were all delivered, and entry k names a message that does not wait then
abbrev pub NotWaitingAt : Sheet → List ℕ → ℕ → Type 0
NotWaitingAt s js k =
    (st : State) × (k < length js) × (run s (take k js) ≡ left st) × (get_or js k 0 < length s.links) × (waits s st (get_or js k 0) ≡ false)

-- 11 at p: all are delivered, they are fewer than L, and p is their number
abbrev pub EndsEarly : Sheet → List ℕ → ℕ → Type 0
EndsEarly s js p = (st : State) × (run s js ≡ left st) × (length js < length s.links) × (p ≡ length js)

module _ {s : Sheet} {st : State} {j : ℕ} where
  undue_12 : {n : ℕ} → n ≡ 12 → Undue s st j n → length s.links ≤ j
  undue_12 e (no-link h) = h
  undue_12 e (not_waiting h q) = absurd (omega arith)

  undue_10 : {n : ℕ} → n ≡ 10 → Undue s st j n → (j < length s.links) × (waits s st j ≡ false)
  undue_10 e (no-link h) = absurd (omega arith)
  undue_10 e (not_waiting h q) = (h, q)

  undue_number : {n : ℕ} → Undue s st j n → (10 ≤ n) × (n ≤ 12) × (n ≢ 11)
  undue_number (no-link h) = (omega arith, omega arith, omega arith)
  undue_number (not_waiting h q) = (omega arith, omega arith, omega arith)

module _ (s : Sheet) (js : List ℕ) where
  pub stops_12_iff : (k : ℕ) → (run s js ≡ stopped 12 k) ↔ NoLinkAt s js k
  stops_12_iff k = (
    λ e. let h = (stops_iff s js 12 k).0 e in (h.state, h.inside, h.before, undue_12 refl h.undue),
    λ h. (stops_iff s js 12 k).1 (record { inside = h.1; state = h.0; before = h.2; undue = no-link h.3 }),
  )

  pub stops_10_iff : (k : ℕ) → (run s js ≡ stopped 10 k) ↔ NotWaitingAt s js k
  stops_10_iff k = (
    λ e. let h = (stops_iff s js 10 k).0 e in let u = undue_10 refl h.undue in (h.state, h.inside, h.before, u.0, u.1),
    λ h. (stops_iff s js 10 k).1 (record { inside = h.1; state = h.0; before = h.2; undue = not_waiting h.3 h.4 }),
  )

  stops-number : (n k : ℕ) → run s js ≡ stopped n k → (10 ≤ n) × (n ≤ 12) × (n ≢ 11)
  stops-number n k e = undue_number ((stops_iff s js n k).0 e).undue

-- ---- a call: the sheet, then the room, then the rest
answered : {G : Type 0} {n p m : ℕ} {xs : List ℕ} → answer m xs ≡ refusal n p → G
answered e = let z : ◌≡◌ {A = ℕ} 0 1 = cc in absurd (omega arith)

same-refusal : {m n p q : ℕ} → refusal m p ≡ refusal n q → (m ≡ n) × (p ≡ q)
same-refusal e = (cc, cc)

module _ (b : List ℕ) (have : ℕ) (need : Sheet → ℕ) (go : Sheet → Reply) where
  abbrev call : Reply
  call = on_sheet (check b) (λ s. room have (need s) (go s))

  -- what refuses
  data Refuses (n p : ℕ) : Type 0 where
    the_sheet : check b ≡ refused n p → Refuses n p
    the_room : (s : Sheet) → check b ≡ accepted s → have < need s → n ≡ 9 → p ≡ need s → Refuses n p
    the_rest : (s : Sheet) → check b ≡ accepted s → need s ≤ have → go s ≡ refusal n p → Refuses n p

  refuses : (n p : ℕ) → call ≡ refusal n p → Refuses n p
  refuses n p e = by_sheet (check b) refl e
    where
      by_room : (s : Sheet) → check b ≡ accepted s → (c : Bool) → ltb have (need s) ≡ c → cond c (refusal 9 (need s)) (go s) ≡ refusal n p → Refuses n p
      by_room s a true h q = let z = same-refusal q in the_room s a (ltb-true have (need s) h) (sym z.0) (sym z.1)
      by_room s a false h q = the_rest s a (ltb-false have (need s) h) q

      by_sheet : (v : Verdict) → check b ≡ v → on_sheet v (λ s. room have (need s) (go s)) ≡ refusal n p → Refuses n p
      by_sheet (refused m o) a q = let z = same-refusal q in the_sheet (a ∙ ap₂ refused z.0 z.1)
      by_sheet (accepted s) a q = by_room s a (ltb have (need s)) refl q

  -- 1 to 8 are Check's, 9 comes when the output is too short, and the others from what is left to do
  pub record Call (top : ℕ) (r : Reply) : Type 0 where
    pub early : (n p : ℕ) → n ≤ 8 → (r ≡ refusal n p) ↔ (check b ≡ refused n p)
    pub short : (p : ℕ) → (r ≡ refusal 9 p) ↔ ((s : Sheet) × (check b ≡ accepted s) × (have < need s) × (p ≡ need s))
    pub late : (n p : ℕ) → 10 ≤ n → (r ≡ refusal n p) ↔ ((s : Sheet) × (check b ≡ accepted s) × (need s ≤ have) × (go s ≡ refusal n p))
    pub number : (n p : ℕ) → r ≡ refusal n p → (1 ≤ n) × (n ≤ top)

  call_laws : (top : ℕ) → 9 ≤ top → ((s : Sheet) (n p : ℕ) → go s ≡ refusal n p → (10 ≤ n) × (n ≤ top)) → Call top call
  call_laws top nine rest = record {
    early = λ n p h. (λ e. early n p h (refuses n p e), λ e. rw e);
    short = λ p. (λ e. short p (refuses 9 p e), λ h. rw (h.1, lt-ltb have (need h.0) h.2, h.3));
    late = λ n p h. (λ e. late n p h (refuses n p e), λ k. rw (k.1, le-ltb have (need k.0) k.2) k.3);
    number = λ n p e. number n p (refuses n p e);
  }
    where
      early : (n p : ℕ) → n ≤ 8 → Refuses n p → check b ≡ refused n p
      early n p h (the_sheet e) = e
      early n p h (the_room s a l z y) = absurd (omega arith)
      early n p h (the_rest s a l e) = absurd (omega (arith, rest s n p e))

      short : (p : ℕ) → Refuses 9 p → (s : Sheet) × (check b ≡ accepted s) × (have < need s) × (p ≡ need s)
      short p (the_sheet e) = absurd (omega (arith, check-number b 9 p e))
      short p (the_room s a l z y) = (s, a, l, y)
      short p (the_rest s a l e) = absurd (omega (arith, rest s 9 p e))

      late : (n p : ℕ) → 10 ≤ n → Refuses n p → (s : Sheet) × (check b ≡ accepted s) × (need s ≤ have) × (go s ≡ refusal n p)
      late n p h (the_sheet e) = absurd (omega (arith, check-number b n p e))
      late n p h (the_room s a l z y) = absurd (omega arith)
      late n p h (the_rest s a l e) = (s, a, l, e)

      number : (n p : ℕ) → Refuses n p → (1 ≤ n) × (n ≤ top)
      number n p (the_sheet e) = let z = check-number b n p e in (omega arith, omega arith)
      number n p (the_room s a l z y) = (omega arith, omega arith)
      number n p (the_rest s a l e) = let z = rest s n p e in (omega arith, omega arith)

-- ---- Check, Next and House order
pub check-refusal_iff : (b : List ℕ) (n p : ℕ) → (check_reply b ≡ refusal n p) ↔ (check b ≡ refused n p)
check-refusal_iff b n p = (λ e. go (check b) e, λ e. rw e)
  where
    go : (v : Verdict) → on_sheet v (λ s. answer (length s.links) []) ≡ refusal n p → v ≡ refused n p
    go (refused m k) e = let z = same-refusal e in ap₂ refused z.0 z.1
    go (accepted s) e = answered e

pub next_laws : (b : List ℕ) (have : ℕ) → Call b have (λ s. length b) (λ s. writes (bytes (next s))) 9 (next_reply b have)
next_laws b have = call_laws b have (λ s. length b) (λ s. writes (bytes (next s))) 9 (omega arith) (λ s n p e. answered e)

pub house_laws : (b : List ℕ) (have : ℕ) → Call b have (λ s. length s.links) (λ s. writes (house s)) 9 (house_reply b have)
house_laws b have = call_laws b have (λ s. length s.links) (λ s. writes (house s)) 9 (omega arith) (λ s n p e. answered e)

-- ---- Play and Frame: an entry of the list stops them, or its end
stopped_or_left : (r : Ran) (end : State → Reply) {n p : ℕ} → after_list r end ≡ refusal n p → (r ≡ stopped n p) ⊎ ((st : State) × (r ≡ left st) × (end st ≡ refusal n p))
stopped_or_left (stopped m k) end e = let z = same-refusal e in inl (ap₂ stopped z.0 z.1)
stopped_or_left (left st) end e = inr (st, refl, e)

module _ (s : Sheet) (js : List ℕ) where
  abbrev pub play_end : State → Reply
  play_end st = cond (ltb (length js) (length s.links)) (refusal 11 (length js)) (writes (bytes (outcome s st)))

  abbrev pub play_list : Reply
  play_list = after_list (run s js) play_end

  abbrev pub frame_list : Reply
  frame_list = after_list (run s js) (λ st. writes (frames_of s st (below s.nodes)))

  play_end_lem : (st : State) {n p : ℕ} → play_end st ≡ refusal n p → (n ≡ 11) × (p ≡ length js) × (length js < length s.links)
  play_end_lem st {n} {p} e = go (ltb (length js) (length s.links)) refl e
    where
      go : (c : Bool) → ltb (length js) (length s.links) ≡ c → cond c (refusal 11 (length js)) (writes (bytes (outcome s st))) ≡ refusal n p
          → (n ≡ 11) × (p ≡ length js) × (length js < length s.links)
      go true h q = let z = same-refusal q in (sym z.0, sym z.1, ltb-true (length js) (length s.links) h)
      go false h q = answered q

  -- all but 11 come from an entry
  play-stops : (n p : ℕ) → n ≢ 11 → (play_list ≡ refusal n p) ↔ (run s js ≡ stopped n p)
  play-stops n p h = (λ e. ⊎_elim (λ q. q) (λ w. absurd (h (play_end_lem w.0 w.2).0)) (stopped_or_left (run s js) play_end e), λ e. rw e)

  frame_stops : (n p : ℕ) → (frame_list ≡ refusal n p) ↔ (run s js ≡ stopped n p)
  frame_stops n p = (
    λ e. ⊎_elim (λ q. q) (λ w. answered w.2) (stopped_or_left (run s js) (λ st. writes (frames_of s st (below s.nodes))) e),
    λ e. rw e,
  )

  play-ends : (p : ℕ) → (play_list ≡ refusal 11 p) ↔ EndsEarly s js p
  play-ends p = (
    λ e. ⊎_elim (λ q. absurd ((stops-number s js 11 p q).2 refl)) (λ w. let z = play_end_lem w.0 w.2 in (w.0, w.1, z.2, z.1))
        (stopped_or_left (run s js) play_end e),
    λ h. rw (h.1, lt-ltb (length js) (length s.links) h.2, h.3),
  )

  play-number : (n p : ℕ) → play_list ≡ refusal n p → (10 ≤ n) × (n ≤ 12)
  play-number n p e = ⊎_elim (λ q. let z = stops-number s js n p q in (z.0, z.1))
      (λ w. let z = (play_end_lem w.0 w.2).0 in (omega arith, omega arith)) (stopped_or_left (run s js) play_end e)

  frame_number : (n p : ℕ) → frame_list ≡ refusal n p → (10 ≤ n) × (n ≤ 12)
  frame_number n p e = let z = stops-number s js n p ((frame_stops n p).0 e) in (z.0, z.1)

within : {A B P Q : Sheet → Type 0} → ((s : Sheet) → P s ↔ Q s) → ((s : Sheet) × A s × B s × P s) ↔ ((s : Sheet) × A s × B s × Q s)
within h = (λ x. (x.0, x.1, x.2, (h x.0).0 x.3), λ x. (x.0, x.1, x.2, (h x.0).1 x.3))

module _ (b js : List ℕ) (have : ℕ) where
  pub play_laws : Call b have (λ s. length b) (λ s. play_list s js) 12 (play_reply b js have)
  play_laws = call_laws b have (λ s. length b) (λ s. play_list s js) 12 (omega arith) (λ s n p e. play-number s js n p e)

  pub frame_laws : Call b have (λ s. 6 * s.nodes) (λ s. frame_list s js) 12 (frame_reply b js have)
  frame_laws = call_laws b have (λ s. 6 * s.nodes) (λ s. frame_list s js) 12 (omega arith) (λ s n p e. frame_number s js n p e)

  -- 12, 10 and 11 of Play
  pub play_12_iff : (k : ℕ) → (play_reply b js have ≡ refusal 12 k) ↔ ((s : Sheet) × (check b ≡ accepted s) × (length b ≤ have) × NoLinkAt s js k)
  play_12_iff k = Iff.trans (play_laws.late 12 k (omega arith)) (within (λ s. Iff.trans (play-stops s js 12 k (λ e. absurd (omega arith))) (stops_12_iff s js k)))

  pub play_10_iff : (k : ℕ) → (play_reply b js have ≡ refusal 10 k) ↔ ((s : Sheet) × (check b ≡ accepted s) × (length b ≤ have) × NotWaitingAt s js k)
  play_10_iff k = Iff.trans (play_laws.late 10 k (omega arith)) (within (λ s. Iff.trans (play-stops s js 10 k (λ e. absurd (omega arith))) (stops_10_iff s js k)))

  pub play_11_iff : (p : ℕ) → (play_reply b js have ≡ refusal 11 p) ↔ ((s : Sheet) × (check b ≡ accepted s) × (length b ≤ have) × EndsEarly s js p)
  play_11_iff p = Iff.trans (play_laws.late 11 p (omega arith)) (within (λ s. play-ends s js p))

  -- 12 and 10 of Frame, which never gives 11
  pub frame_12_iff : (k : ℕ) → (frame_reply b js have ≡ refusal 12 k) ↔ ((s : Sheet) × (check b ≡ accepted s) × (6 * s.nodes ≤ have) × NoLinkAt s js k)
  frame_12_iff k = Iff.trans (frame_laws.late 12 k (omega arith)) (within (λ s. Iff.trans (frame_stops s js 12 k) (stops_12_iff s js k)))

  pub frame_10_iff : (k : ℕ) → (frame_reply b js have ≡ refusal 10 k) ↔ ((s : Sheet) × (check b ≡ accepted s) × (6 * s.nodes ≤ have) × NotWaitingAt s js k)
  frame_10_iff k = Iff.trans (frame_laws.late 10 k (omega arith)) (within (λ s. Iff.trans (frame_stops s js 10 k) (stops_10_iff s js k)))

  pub frame_not_11 : (p : ℕ) → frame_reply b js have ≢ refusal 11 p
  frame_not_11 p e = let w = (frame_laws.late 11 p (omega arith)).0 e in (stops-number w.0 js 11 p ((frame_stops w.0 js 11 p).0 w.3)).2 refl

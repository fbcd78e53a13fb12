-- What document 01 demands, as theorems about the definitions of specs/.
use Prim.Native.Nat.{ℕ, suc, ◌+◌, ◌-◌, ◌*◌, ◌/◌, min, ◌≤◌, ◌<◌}
use native.Mathlib.Omega.{arith}
use mathlib.Core.Path.{◌≡◌, refl, sym, ap, ◌∙◌, subst}
use mathlib.Core.Logic.{◌≢◌, ◌↔◌}
use mathlib.Core.Bool.{Bool, true, false}
use mathlib.Core.List.{List, [], ◌∷◌, ◌++◌, map, Memᴰ as In}
use lib.ListN.{length, get_or, take}
use lib.Seq.{get_or-set_same, get_or-set_other}
use lib.Dec.{eqb}
use borrow.Author.Tests.{le-ltb}
use Rattle.rules.specs.Lists.{total, bit, below, at}
use Rattle.rules.specs.Sheet.{Link, Sheet, whole, largest_delay, largest_stored, flows, opposite, row_of, traffic_of, line_delay, with_fraction}
use Rattle.rules.specs.Bytes.{AreBytes, bytes}
use Rattle.rules.specs.Loop.{Leads, on_loop}
use Rattle.rules.specs.Judge.{refused, accepted, row_sum, due, judge}
use Rattle.rules.specs.Check.{word_at, wrong, read, head_right, head_fields, head_at, node_at, nodes_from, in_range, link_fields, item_at, links_from, sheet_at, check}
use Rattle.rules.specs.Desk.{Told, silent, delay_told, mark_told, heard, Desk, cost, status, delay, blocked, message, new_row}
use Rattle.rules.specs.Round.{way_of, word_for, words_from, words, full_desk, md, is_blocked, c, is_improper, next}
use Rattle.rules.specs.Messages.{State, start, back, desk, no_link, link_of, sender, waits, deliver, delivered, is_finished, finished, stopped, left, run, outcome, lowest_waiting, house}
use Rattle.rules.specs.Calls.{refusal, answer, over, node_frame, frames_of, check_reply, next_reply, play_reply, frame_reply, house_reply}
use Rattle.rules.specs.Plates.{plate_a}
use Rattle.rules.proofs.Rank.{Falls, rank}
use Rattle.rules.proofs.Sound.{Sound, falls, low}
use Rattle.rules.proofs.Lists.{below_length}
use Rattle.rules.proofs.First.{Passes, Lowest}
use Rattle.rules.proofs.Reach.{Ends, on_loop_iff}
use Rattle.rules.proofs.Verdicts.{unpaired, unsummed, Paired, Adds, refused_6_iff, refused_7_iff, refused_8_iff, refused_8_way}
use Rattle.rules.proofs.Reading.{check_gives, check_holds, bytes-length, bytes_fit, tested_bytes, sheet_read}
use Rattle.rules.proofs.Longest.{longest}
use Rattle.rules.proofs.Refusals.{Fault, fault_iff, item_fault_iff, Refused, refused_records_iff, refused_5_iff, refused-whole_iff, check-number}
use Rattle.rules.proofs.Desk.{line_low, line-top}
use Rattle.rules.proofs.Local.{AgreeInto, desk_local, message_in, desk_own}
use Rattle.rules.proofs.Words.{fixed, words_only, sink_word, delay-low, delay-top, cost-top, state_cost_top, state_delay_top}
use Rattle.rules.proofs.Next.{newly, taken_is, taken_alike, next-sound, next-length}
use Rattle.rules.proofs.Equations.{Improper, Reason, Blocked, is_candidate, BestLink, cut_from, cut_off, md_is, improper_iff, blocked_iff, blocked_only, blocked_least, best-exists, best_only, cut_zero, cut_pos, new_other, new_best, new_shut, new_sink}
use Rattle.rules.proofs.Right.{status-same, delay-right, blocked-right}
use Rattle.rules.proofs.Live.{deliver_count, some-waits, none-waits}
use Rattle.rules.proofs.Start.{sink_starts, other-starts}
use Rattle.rules.proofs.Run.{run-right, run_count, run-size, outcome-done, finished-done, house_complete, house-lowest, play_complete}
use Rattle.rules.proofs.Buffer.{over-refused, over-written, over-beyond, over-length}
use Rattle.rules.proofs.Replies.{NoLinkAt, NotWaitingAt, EndsEarly, stops_12_iff, stops_10_iff, check-refusal_iff, next_laws, house_laws, play_laws, frame_laws, play_12_iff, play_10_iff, play_11_iff, frame_12_iff, frame_10_iff, frame_not_11}
use Rattle.rules.proofs.Values.{value_of, check-small, next_small, house-small, play-small, frame_small}
use Rattle.rules.proofs.Fields.{fraction_at, InFraction, with_fractions, bytes_alike, fraction_stands, next-bytes, next-fraction}
use Rattle.rules.proofs.Alike.{HeardInto, HeardAlike, waits_alike, frame_alike, state_alike, run-heard, same_entries}
use Rattle.rules.proofs.Tally.{delivered_law, finished_law, finished-waits, frame_right, frames_length}

-- ==== The sheet
-- an accepted sheet is sound, and each content has one sheet
pub accepted-sound : (b : List ℕ) → AreBytes b → (s : Sheet) → (check b ≡ accepted s) ↔ (Sound s × (bytes s ≡ b))
accepted-sound b fit s = (check_gives b s fit, λ h. subst (λ (x : List ℕ). check x ≡ accepted s) h.1 (check_holds s h.0))

pub one_sheet : (b : List ℕ) (s t : Sheet) → check b ≡ accepted s → check b ≡ accepted t → s ≡ t
one_sheet b s t p q = cc

pub one-row : (b d : List ℕ) (s : Sheet) → AreBytes b → AreBytes d → check b ≡ accepted s → check d ≡ accepted s → b ≡ d
one-row b d s fit fits p q = sym (check_gives b s fit p).1 ∙ (check_gives d s fits q).1

pub bytes-alone : (s t : Sheet) → Sound s → Sound t → bytes s ≡ bytes t → s ≡ t
bytes-alone s t p q e = one_sheet (bytes s) s t (check_holds s p) (ap check e ∙ check_holds t q)

-- what is written of a sound sheet passes Check
pub sound-accepted : (s : Sheet) → Sound s → check (bytes s) ≡ accepted s
sound-accepted s ok = check_holds s ok

pub sound-bytes : (s : Sheet) → Sound s → AreBytes (bytes s)
sound-bytes s ok = bytes_fit s ok

-- the longest has 4,488 bytes
pub sheet_length : (s : Sheet) → Sound s → (length (bytes s) ≡ 8 + 6 * s.nodes + 8 * length s.links) × (length (bytes s) ≤ 4488)
sheet_length s ok =
    let e = bytes-length s in
    (omega (arith, ok.figures), omega (arith, ok.figures, ok.few, ok.many))

pub sheet_longest : (s : Sheet) × Sound s × (length (bytes s) ≡ 4488)
sheet_longest = longest

-- Check answers the number of links, or what is refused
pub check_call : (b : List ℕ) (s : Sheet) → check b ≡ accepted s → check_reply b ≡ answer (length s.links) []
check_call b s e = rw e

pub check-refusal : (b : List ℕ) (n p : ℕ) → (check_reply b ≡ refusal n p) ↔ (check b ≡ refused n p)
check-refusal = check-refusal_iff

-- 1 to 4: the records before an offset are fine, and the one due there has that fault first
pub refusal_1_to_4 : (b : List ℕ) (m p : ℕ) → m ≤ 4 → (check b ≡ refused m p) ↔ Refused b 0 m p
refusal_1_to_4 = refused_records_iff

-- the faults of a record that is due, in their order: the head, a node, a link (4: not rising, or a 513th, see Refused)
pub head_fault : (b : List ℕ) (o m p : ℕ) → (head_at b o ≡ wrong m p) ↔ ((p ≡ o) × Fault b o 1 6 (head_right (head_fields b o)) m)
head_fault b o = fault_iff b o 1 6 (head_right (head_fields b o)) (head_fields b o) (o + 7)

pub node_fault : (b : List ℕ) (o i m p : ℕ) → (node_at b o i ≡ wrong m p) ↔ ((p ≡ o) × Fault b o 2 5 (eqb (get_or b (o + 1) 0) i) m)
node_fault b o i = fault_iff b o 2 5 (eqb (get_or b (o + 1) 0) i) (word_at b (o + 2)) (o + 6)

pub link_fault : (b : List ℕ) (o n m p : ℕ)
    → (item_at b o n ≡ wrong m p) ↔ ((get_or b o 0 ≢ 9) × (p ≡ o) × Fault b o 3 7 (in_range n (link_fields b o)) m)
link_fault = item_fault_iff

-- 5: the records are fine up to the end record, and a byte stands after it
pub refusal_5 : (b : List ℕ) (p : ℕ) → (check b ≡ refused 5 p) ↔ ((s : Sheet) × (sheet_at b 0 ≡ read s p) × (p < length b))
refusal_5 = refused_5_iff

-- 6 to 8: the records are fine up to the end record, nothing stands after it, and the sheet as a whole is refused
pub refusal_6_to_8 : (b : List ℕ) (n p : ℕ) → 6 ≤ n
    → (check b ≡ refused n p) ↔ ((s : Sheet) × (e : ℕ) × (sheet_at b 0 ≡ read s e) × (length b ≤ e) × (judge s ≡ refused n p))
refusal_6_to_8 = refused-whole_iff

-- 6: the first link without its opposite
pub refusal_6 : (s : Sheet) (k : ℕ) → (judge s ≡ refused 6 k) ↔ Passes (unpaired s) no_link s.links k
refusal_6 = refused_6_iff

-- 7: the lowest node whose row has a wrong sum
pub refusal_7 : (s : Sheet) (k : ℕ) → (judge s ≡ refused 7 k) ↔ (Paired s × Lowest (unsummed s) s.nodes k)
refusal_7 = refused_7_iff

-- 8: the lowest node on a loop; and on_loop means that flowing links lead from it back to it
pub refusal_8 : (s : Sheet) (k : ℕ) → (judge s ≡ refused 8 k) ↔ (Paired s × Adds s × Lowest (on_loop s) s.nodes k)
refusal_8 = refused_8_iff

pub loop_means : (s : Sheet) → Ends s → (i : ℕ) → (on_loop s i ≡ true) ↔ Leads s.links i i
loop_means = on_loop_iff

pub refusal_8_leads : (b : List ℕ) → AreBytes b → (k : ℕ) → check b ≡ refused 8 k
    → (s : Sheet) × (e : ℕ) × (sheet_at b 0 ≡ read s e) × Leads s.links k k × ((j : ℕ) → j < k → ¬ Leads s.links j j)
refusal_8_leads b fit k q =
    let r = (refused-whole_iff b 8 k (omega arith)).0 q in
    let w = refused_8_way r.0 (sheet_read b fit 0 r.2).ends k r.4 in
    (r.0, r.1, r.2, w.0, w.1)

-- no loop: a rank falls along every flowing link, and is below the number of nodes
pub rank_of : (s : Sheet) → Sound s → Falls s (rank s) × ((i : ℕ) → i < s.nodes → rank s i ≤ s.nodes - 1)
rank_of s ok = (falls ok, low ok)

-- D' goes from 16 to 1,048,576
pub line_range : (k : ℕ) → k < 256 → (16 ≤ line_delay k) × (line_delay k ≤ 1048576)
line_range k h = (line_low k h, line-top k)

-- plate A is sound
pub plate_a-sound : Sound plate_a
unfolding nodes_from links_from
plate_a-sound = (check_gives (bytes plate_a) plate_a (tested_bytes (bytes plate_a) refl) refl).0

-- ==== The round as a calculation
module _ (s : Sheet) (ok : Sound s) where
  -- md(destination) = 0, and the destination is never blocked
  pub md-destination : md s s.destination ≡ 0
  md-destination = ap delay_told (sink_word ok)

  pub destination_open : is_blocked s s.destination ≡ false
  destination_open = ap mark_told (sink_word ok)

  -- every md(i) = floor(sum over b of φ(i,b) × c(i,b), divided by 65,536)
  pub md_equation : (i : ℕ) → md s i ≡ total (λ l. l.fraction * c s l) (row_of i s.links) / whole
  md_equation = md_is ok

  -- it is at least 16 and at most 63 × 1,048,576, and no c exceeds 64 × 1,048,576
  pub md-low : (i : ℕ) → i < s.nodes → i ≢ s.destination → 16 ≤ md s i
  md-low = delay-low ok

  pub md-top : (i : ℕ) → i < s.nodes → md s i ≤ largest_stored
  md-top = delay-top ok

  pub c-top : (l : Link) → In l s.links → c s l ≤ largest_delay
  c-top = cost-top ok

  -- improper: it flows, md(i) ≤ md(b), and φ(i,b) × t(i) ≥ s × (c(i,b) − md(i))
  pub improper_means : (l : Link) → In l s.links → (is_improper s l ≡ true) ↔ Improper s l
  improper_means = improper_iff ok

  -- blocked: an improper link out, or a flowing link to a blocked node; the least such set, and the only one
  pub blocked_means : (i : ℕ) → (is_blocked s i ≡ true) ↔ Reason s (is_blocked s) i
  blocked_means = blocked_iff ok

  pub blocked_is_least : (i : ℕ) → (is_blocked s i ≡ true) ↔ Blocked s i
  blocked_is_least = blocked_least ok

  pub blocked-alone : (p : ℕ → Bool) → ((i : ℕ) → i < s.nodes → (p i ≡ true) ↔ Reason s p i) → (i : ℕ) → i < s.nodes → p i ≡ is_blocked s i
  blocked-alone = blocked_only ok

  -- the best candidate has the smallest c; among equals, the lowest far node: there is one, and no other
  pub best_there : (i : ℕ) → i < s.nodes → i ≢ s.destination → (l : Link) × (l.from ≡ i) × BestLink s l
  best_there = best-exists ok

  pub best-alone : (l k : Link) → BestLink s l → BestLink s k → l.from ≡ k.from → l.to ≡ k.to
  best-alone l k p q e = (best_only ok l k p q e).0

  -- from each other candidate is cut min(φ, floor(s × (c − c of the best) / t)) when t > 0, and all of φ when t = 0
  pub cut-some : (b l : Link) → 0 < traffic_of s l.from → cut_from s b l ≡ min l.fraction (s.step * (c s l - c s b) / traffic_of s l.from)
  cut-some b l h = cut_pos s.step (traffic_of s l.from) (c s l - c s b) l.fraction h

  pub cut_all : (b l : Link) → traffic_of s l.from ≡ 0 → cut_from s b l ≡ l.fraction
  cut_all b l e = cut_zero s.step (traffic_of s l.from) (c s l - c s b) l.fraction e

  pub others_lose : (b : Link) → BestLink s b → (l : Link) → In l s.links → l.from ≡ b.from → l.to ≢ b.to → is_candidate s l ≡ true
      → (newly s l).fraction ≡ l.fraction - cut_from s b l
  others_lose = new_other ok

  -- the best gains all that is cut
  pub best_gains : (b : Link) → BestLink s b → (newly s b).fraction ≡ b.fraction + total (cut_off s b) (row_of b.from s.links)
  best_gains = new_best ok

  -- links that are no candidates stay 0; the destination's row stays 0
  pub shut_stay : (l : Link) → In l s.links → is_candidate s l ≡ false → (l.fraction ≡ 0) × ((newly s l).fraction ≡ 0)
  shut_stay = new_shut ok

  pub destination_stays : (l : Link) → In l s.links → l.from ≡ s.destination → (newly s l).fraction ≡ 0
  destination_stays = new_sink ok

  -- the words keep to the rules, and no other words do
  pub words_settled : words_from s (words s) ≡ words s
  words_settled = fixed ok

  pub words-alone : (ws : List Told) → words_from s ws ≡ ws → ws ≡ words s
  words-alone = words_only ok

  -- ==== Demand 2: Next
  pub next_is_sound : Sound (next s)
  next_is_sound = next-sound ok

  -- what it writes passes Check
  pub next_passes : check (bytes (next s)) ≡ accepted (next s)
  next_passes = check_holds (next s) (next-sound ok)

  -- the sheet with new fractions and nothing else changed
  pub next-links : (next s).links ≡ map (newly s) s.links
  next-links = refl

  pub next_alike : ((next s).nodes ≡ s.nodes) × ((next s).destination ≡ s.destination) × ((next s).step ≡ s.step) × ((next s).traffic ≡ s.traffic)
      × (map (λ l. with_fraction l 0) (next s).links ≡ map (λ l. with_fraction l 0) s.links)
  next_alike = (refl, refl, refl, refl, taken_alike s (word_for (words s)))

  -- in the bytes: the length stays, only bytes of fraction fields change, and there the new fractions stand
  pub next-bytes_length : length (bytes (next s)) ≡ length (bytes s)
  next-bytes_length = next-length s

  pub next-bytes_kept : (i : ℕ) → ¬ InFraction s i → get_or (bytes (next s)) i 0 ≡ get_or (bytes s) i 0
  next-bytes_kept = next-bytes s ok

  pub next-bytes_new : (j : ℕ) → j < length s.links → word_at (bytes (next s)) (fraction_at s j) ≡ (newly s (link_of s j)).fraction
  next-bytes_new = next-fraction s ok

  -- the same for any new fractions; and where a link's fraction stands
  pub bytes-kept : (f : Link → ℕ) (i : ℕ) → ¬ InFraction s i → get_or (bytes (with_fractions s f)) i 0 ≡ get_or (bytes s) i 0
  bytes-kept = bytes_alike s ok.figures

  pub bytes-fraction : (j : ℕ) → j < length s.links → word_at (bytes s) (fraction_at s j) ≡ (link_of s j).fraction
  bytes-fraction = fraction_stands s ok

  -- the fractions out of each node add up as before, and no loop arises
  pub next-rows : (i : ℕ) → i < s.nodes → row_sum (next s) i ≡ due s i
  next-rows = (next-sound ok).sums

  pub next_free : (i : ℕ) → ¬ Leads (next s).links i i
  next_free = (next-sound ok).free

  -- it answers the bytes written, the sheet's own length
  pub next_call : (b : List ℕ) (have : ℕ) → AreBytes b → check b ≡ accepted s → length b ≤ have → next_reply b have ≡ answer (length b) (bytes (next s))
  next_call b have fit e h =
      let same : length (bytes (next s)) ≡ length b = next-length s ∙ ap length (check_gives b s fit e).1 in
      rw (e, le-ltb have (length b) h) (ap (λ (n : ℕ). answer n (bytes (next s))) same)

  -- ==== Demand 3: the round as messages, for every run of free choices
  -- the destination starts at status 1, and every other node at 0
  pub destination-starts : status (desk s (start s) s.destination) ≡ 1
  destination-starts = sink_starts ok

  pub others-start : (i : ℕ) → i < s.nodes → i ≢ s.destination → status (desk s (start s) i) ≡ 0
  others-start = other-starts ok

  module _ (js : List ℕ) (st : State) (ran : run s js ≡ left st) where
    -- each delivery counts, and no run is longer than L
    pub run_delivers : (delivered st ≡ length js) × (length js ≤ length s.links)
    run_delivers = (run_count ok js ran, run-size ok js ran)

    -- while fewer than L are delivered some message waits, and there is a lowest; then none
    pub run_goes_on : length js < length s.links → (j : ℕ) × (lowest_waiting s st ≡ at j) × (j < length s.links) × (waits s st j ≡ true)
    run_goes_on h = some-waits ok st (run-right ok js ran).size (omega (arith, run_count ok js ran))

    pub run_ends : length js ≡ length s.links → (j : ℕ) → j < length s.links → waits s st j ≡ false
    run_ends e = none-waits ok st (run-right ok js ran).size (run_count ok js ran ∙ e)

    -- a node with status 1 or 2 has the calculation's md and mark, and its frame shows them
    pub run_values : (i : ℕ) → 1 ≤ status (desk s st i) → (delay (desk s st i) ≡ md s i) × (blocked (desk s st i) ≡ is_blocked s i)
    run_values i h = (delay-right ok (run-right ok js ran) i h, blocked-right ok (run-right ok js ran) i h)

    pub run_frames : (i : ℕ) → let k = status (desk s st i) in node_frame k (desk s st i) ≡ node_frame k (full_desk s i)
    run_frames i = frame_right ok (run-right ok js ran) i (status (desk s st i)) refl

    -- 6 bytes a node
    pub run_frame_length : length (frames_of s st (below s.nodes)) ≡ 6 * s.nodes
    run_frame_length = frames_length s st (below s.nodes) ∙ ap (λ (n : ℕ). 6 * n) (below_length s.nodes)

    pub frame_call : (b : List ℕ) (have : ℕ) → check b ≡ accepted s → 6 * s.nodes ≤ have → frame_reply b js have ≡ answer (6 * s.nodes) (frames_of s st (below s.nodes))
    frame_call b have e h =
        rw (e, le-ltb have (6 * s.nodes) h, ran) (ap (λ (n : ℕ). answer n (frames_of s st (below s.nodes))) run_frame_length)

    -- the outcome does not depend on the order: it is the calculation's sheet, and every node has finished
    pub run-outcome : length js ≡ length s.links → (outcome s st ≡ next s) × (finished s st ≡ s.nodes)
    run-outcome e =
        let done : delivered st ≡ length s.links = run_count ok js ran ∙ e in
        (outcome-done ok (run-right ok js ran) done, finished-done ok (run-right ok js ran) done)

    -- Play writes the same as Next
    pub play_is_next : (b : List ℕ) (have : ℕ) → check b ≡ accepted s → length js ≡ length s.links → play_reply b js have ≡ next_reply b have
    play_is_next b have e z = play_complete ok b js have st e ran z

    -- it was delivered exactly if the list names it
    pub run-delivered : (k : ℕ) → k < length s.links → (heard (get_or st k silent) ≡ true) ↔ In k js
    run-delivered = run-heard s js ran

    -- against another run
    module _ (ks : List ℕ) (su : State) (also : run s ks ≡ left su) where
      -- what Frame shows of a node is fixed by whom it has heard
      pub frame_from_heard : (i : ℕ) → HeardInto s i st su → frames_of s st (i ∷ []) ≡ frames_of s su (i ∷ [])
      frame_from_heard i h = ap (λ (xs : List ℕ). xs ++ []) (frame_alike ok (run-right ok js ran) (run-right ok ks also) i h)

      -- the whole state, and so each frame and each message that waits, is fixed by who has heard whom
      pub state_from_heard : HeardAlike s st su → st ≡ su
      state_from_heard = state_alike ok (run-right ok js ran) (run-right ok ks also)

      pub frames_from_heard : HeardAlike s st su → frames_of s st (below s.nodes) ≡ frames_of s su (below s.nodes)
      frames_from_heard h = ap (λ (x : State). frames_of s x (below s.nodes)) (state_from_heard h)

      -- so the order of the list does not matter to Frame
      pub frame_any_order : ((k : ℕ) → k < length s.links → In k js ↔ In k ks) → (b : List ℕ) (have : ℕ) → check b ≡ accepted s → frame_reply b js have ≡ frame_reply b ks have
      frame_any_order h b have e =
          let same : st ≡ su = state_from_heard (same_entries s js ks ran also h) in
          rw (e, ran, also, same)

      -- and any two complete runs give the same outcome
      pub outcome_any_order : length js ≡ length s.links → length ks ≡ length s.links → outcome s st ≡ outcome s su
      outcome_any_order p q = (run-outcome p).0 ∙ sym (outcome-done ok (run-right ok ks also) (run_count ok ks also ∙ q))

      pub play_any_order : (b : List ℕ) (have : ℕ) → check b ≡ accepted s → length js ≡ length s.links → length ks ≡ length s.links
          → play_reply b js have ≡ play_reply b ks have
      play_any_order b have e p q = play_complete ok b js have st e ran p ∙ sym (play_complete ok b ks have su e also q)

  -- house order: L numbers, each time the lowest that waits; all are delivered
  pub house-order : (st : State) × (length (house s) ≡ length s.links) × (run s (house s) ≡ left st)
  house-order = house_complete ok

  pub house-each : (k : ℕ) → k < length s.links → (st : State) × (run s (take k (house s)) ≡ left st) × (lowest_waiting s st ≡ at (get_or (house s) k 0))
  house-each = house-lowest ok

  pub house_call : (b : List ℕ) (have : ℕ) → check b ≡ accepted s → length s.links ≤ have → house_reply b have ≡ answer (length s.links) (house s)
  house_call b have e h = rw (e, le-ltb have (length s.links) h) (ap (λ (n : ℕ). answer n (house s)) (house_complete ok).1)

  -- a delivery amends the tally: one delivery more, and one node finished if the far node now has status 2
  pub tally : (st : State) (j : ℕ) → length st ≡ length s.links → j < length s.links → waits s st j ≡ true
      → (delivered (deliver s st j) ≡ suc (delivered st)) × (finished s (deliver s st j) ≡ finished s st + bit (is_finished s (deliver s st j) (link_of s j).to))
  tally st j z a q = (deliver_count s st j z a q, finished-waits ok st j a q)

  -- stored delays of at most 63 × 1,048,576, false ones too, keep every c and every md that a node works out within the largest delay
  pub state_bounds : (st : State) → ((k : ℕ) → delay_told (get_or st k silent) ≤ largest_stored)
      → ((l : Link) → cost (way_of (back s.links st) l) ≤ largest_delay) × ((i : ℕ) → i < s.nodes → delay (desk s st i) ≤ largest_delay)
  state_bounds st small = (state_cost_top ok st small, state_delay_top ok st small)

-- ==== A delivery, and what is taken from a state: for every sheet and every state, false ones too
-- a delivery on link j stores there what its node works out, and changes nothing else
pub delivery_stores : (s : Sheet) (st : State) (j : ℕ) → j < length st → get_or (deliver s st j) j silent ≡ message (sender s st j)
delivery_stores s st j h = get_or-set_same st j (message (sender s st j)) silent h

pub delivery_leaves : (s : Sheet) (st : State) (j k : ℕ) → k ≢ j → get_or (deliver s st j) k silent ≡ get_or st k silent
delivery_leaves s st j k n = get_or-set_other st j k (message (sender s st j)) silent n

-- message, status, md, mark and new row are functions of the desk alone; and the desk follows from what is stored on the node's links in
pub desk-from_links_in : (s : Sheet) (st su : State) (i : ℕ) → AgreeInto s i st su → desk s st i ≡ desk s su i
desk-from_links_in = desk_local

-- and from the node's own records: the step, its traffic, its links out
pub desk-from_own_records : (s t : Sheet) (st su : State) (i : ℕ) → s.step ≡ t.step → traffic_of s i ≡ traffic_of t i → row_of i s.links ≡ row_of i t.links
    → ((l : Link) → In l (row_of i s.links) → back s.links st l ≡ back t.links su l) → desk s st i ≡ desk t su i
desk-from_own_records = desk_own

-- the message from what is stored against the node's flowing links alone
pub message-from_flowing : (s : Sheet) (st su : State) (i : ℕ)
    → ((k : ℕ) (l : Link) → k < length s.links → In l (row_of i s.links) → flows l ≡ true → opposite l (link_of s k) ≡ true → get_or st k silent ≡ get_or su k silent)
    → message (desk s st i) ≡ message (desk s su i)
message-from_flowing = message_in

-- and the status from who has heard whom alone
pub status-from_heard : (s : Sheet) (st su : State) (i : ℕ)
    → ((l : Link) → In l (row_of i s.links) → heard (back s.links st l) ≡ heard (back s.links su l)) → status (desk s st i) ≡ status (desk s su i)
status-from_heard s st su i h = status-same s (back s.links st) (back s.links su) i h

-- so is whether a message waits, and with it refusal 10
pub waits-from_heard : (s : Sheet) (st su : State) (j : ℕ) → HeardInto s (link_of s j).from st su → heard (get_or st j silent) ≡ heard (get_or su j silent)
    → waits s st j ≡ waits s su j
waits-from_heard = waits_alike

-- what Frame shows of a node follows from what is stored on its links in, and from its own records
pub frame_from_links_in : (s : Sheet) (st su : State) (i : ℕ) → AgreeInto s i st su → frames_of s st (i ∷ []) ≡ frames_of s su (i ∷ [])
frame_from_links_in s st su i h = ap (λ (d : Desk). node_frame (status d) d ++ []) (desk_local s st su i h)

pub frame_from_own_records : (s t : Sheet) (st su : State) (i : ℕ) → s.step ≡ t.step → traffic_of s i ≡ traffic_of t i → row_of i s.links ≡ row_of i t.links
    → ((l : Link) → In l (row_of i s.links) → back s.links st l ≡ back t.links su l) → frames_of s st (i ∷ []) ≡ frames_of t su (i ∷ [])
frame_from_own_records s t st su i p q r h = ap (λ (d : Desk). node_frame (status d) d ++ []) (desk_own s t st su i p q r h)

-- the row that the outcome gives a node is its desk's new row
pub outcome-row : (s : Sheet) (st : State) (i : ℕ) → map (λ l. l.fraction) (row_of i (outcome s st).links) ≡ new_row (desk s st i)
outcome-row s st i = taken_is s (back s.links st) i

-- one delivery more, unless it was made before; and only the far node may finish by it
pub tally_delivered : (s : Sheet) (st : State) (j : ℕ) → j < length st → delivered (deliver s st j) + bit (heard (get_or st j silent)) ≡ suc (delivered st)
tally_delivered = delivered_law

pub tally_any_state : (s : Sheet) (st : State) (j : ℕ) → (link_of s j).to < s.nodes
    → finished s (deliver s st j) + bit (is_finished s st (link_of s j).to) ≡ finished s st + bit (is_finished s (deliver s st j) (link_of s j).to)
tally_any_state = finished_law

-- ==== Refusals of the calls
-- 12 and 10 stop a list at entry k: those before it were delivered, and it is no link's number, or names a message that does not wait
pub list_12 : (s : Sheet) (js : List ℕ) (k : ℕ) → (run s js ≡ stopped 12 k) ↔ NoLinkAt s js k
list_12 = stops_12_iff

pub list_10 : (s : Sheet) (js : List ℕ) (k : ℕ) → (run s js ≡ stopped 10 k) ↔ NotWaitingAt s js k
list_10 = stops_10_iff

module _ (b : List ℕ) where
  -- 1 to 8 of any call are Check's
  pub next_early : (have n p : ℕ) → n ≤ 8 → (next_reply b have ≡ refusal n p) ↔ (check b ≡ refused n p)
  next_early have = (next_laws b have).early

  pub house_early : (have n p : ℕ) → n ≤ 8 → (house_reply b have ≡ refusal n p) ↔ (check b ≡ refused n p)
  house_early have = (house_laws b have).early

  pub play_early : (js : List ℕ) (have n p : ℕ) → n ≤ 8 → (play_reply b js have ≡ refusal n p) ↔ (check b ≡ refused n p)
  play_early js have = (play_laws b js have).early

  pub frame_early : (js : List ℕ) (have n p : ℕ) → n ≤ 8 → (frame_reply b js have ≡ refusal n p) ↔ (check b ≡ refused n p)
  frame_early js have = (frame_laws b js have).early

  -- 9: the sheet is accepted, and the output is too short; the place is the length needed
  pub next_9 : (have p : ℕ) → (next_reply b have ≡ refusal 9 p) ↔ ((s : Sheet) × (check b ≡ accepted s) × (have < length b) × (p ≡ length b))
  next_9 have = (next_laws b have).short

  pub house_9 : (have p : ℕ) → (house_reply b have ≡ refusal 9 p) ↔ ((s : Sheet) × (check b ≡ accepted s) × (have < length s.links) × (p ≡ length s.links))
  house_9 have = (house_laws b have).short

  module _ (js : List ℕ) (have : ℕ) where
    pub play_9 : (p : ℕ) → (play_reply b js have ≡ refusal 9 p) ↔ ((s : Sheet) × (check b ≡ accepted s) × (have < length b) × (p ≡ length b))
    play_9 = (play_laws b js have).short

    pub frame_9 : (p : ℕ) → (frame_reply b js have ≡ refusal 9 p) ↔ ((s : Sheet) × (check b ≡ accepted s) × (have < 6 * s.nodes) × (p ≡ 6 * s.nodes))
    frame_9 = (frame_laws b js have).short

    -- 12: the output is long enough, those before it were delivered, and it is a link number not below L
    pub play_12 : (k : ℕ) → (play_reply b js have ≡ refusal 12 k) ↔ ((s : Sheet) × (check b ≡ accepted s) × (length b ≤ have) × NoLinkAt s js k)
    play_12 = play_12_iff b js have

    pub frame_12 : (k : ℕ) → (frame_reply b js have ≡ refusal 12 k) ↔ ((s : Sheet) × (check b ≡ accepted s) × (6 * s.nodes ≤ have) × NoLinkAt s js k)
    frame_12 = frame_12_iff b js have

    -- 10: likewise, and the message named doesn't wait
    pub play_10 : (k : ℕ) → (play_reply b js have ≡ refusal 10 k) ↔ ((s : Sheet) × (check b ≡ accepted s) × (length b ≤ have) × NotWaitingAt s js k)
    play_10 = play_10_iff b js have

    pub frame_10 : (k : ℕ) → (frame_reply b js have ≡ refusal 10 k) ↔ ((s : Sheet) × (check b ≡ accepted s) × (6 * s.nodes ≤ have) × NotWaitingAt s js k)
    frame_10 = frame_10_iff b js have

    -- 11: the list ends before all L are delivered; Frame's list may stop early
    pub play_11 : (p : ℕ) → (play_reply b js have ≡ refusal 11 p) ↔ ((s : Sheet) × (check b ≡ accepted s) × (length b ≤ have) × EndsEarly s js p)
    play_11 = play_11_iff b js have

    pub frame_never_11 : (p : ℕ) → frame_reply b js have ≢ refusal 11 p
    frame_never_11 = frame_not_11 b js have

  -- no call gives another number
  pub check-numbers : (n p : ℕ) → check_reply b ≡ refusal n p → (1 ≤ n) × (n ≤ 8)
  check-numbers n p e = check-number b n p ((check-refusal_iff b n p).0 e)

  pub next-numbers : (have n p : ℕ) → next_reply b have ≡ refusal n p → (1 ≤ n) × (n ≤ 9)
  next-numbers have = (next_laws b have).number

  pub house-numbers : (have n p : ℕ) → house_reply b have ≡ refusal n p → (1 ≤ n) × (n ≤ 9)
  house-numbers have = (house_laws b have).number

  pub play-numbers : (js : List ℕ) (have n p : ℕ) → play_reply b js have ≡ refusal n p → (1 ≤ n) × (n ≤ 12)
  play-numbers js have = (play_laws b js have).number

  pub frame_numbers : (js : List ℕ) (have n p : ℕ) → frame_reply b js have ≡ refusal n p → (1 ≤ n) × (n ≤ 12)
  frame_numbers js have = (frame_laws b js have).number

  -- and no call a value above 4,488, whatever the input: a refusal's place, or what is answered
  pub check_values : value_of (check_reply b) ≤ 4488
  check_values = check-small b

  pub next_values : (have : ℕ) → value_of (next_reply b have) ≤ 4488
  next_values = next_small b

  pub house_values : (have : ℕ) → value_of (house_reply b have) ≤ 4488
  house_values = house-small b

  pub play_values : (js : List ℕ) (have : ℕ) → value_of (play_reply b js have) ≤ 4488
  play_values = play-small b

  pub frame_values : (js : List ℕ) (have : ℕ) → value_of (frame_reply b js have) ≤ 4488
  frame_values = frame_small b

-- ==== The output buffer
-- on refusal it keeps its former content; what is written stands at its start, and beyond the answered length it stays as it stood
pub buffer_kept : (n p : ℕ) (old : List ℕ) → over (refusal n p) old ≡ old
buffer_kept = over-refused

pub buffer_written : (n : ℕ) (new old : List ℕ) (i : ℕ) → i < length new → get_or (over (answer n new) old) i 0 ≡ get_or new i 0
buffer_written = over-written

pub buffer_beyond : (n : ℕ) (new old : List ℕ) (i : ℕ) → length new ≤ i → get_or (over (answer n new) old) i 0 ≡ get_or old i 0
buffer_beyond = over-beyond

pub buffer_length : (n : ℕ) (new old : List ℕ) → length new ≤ length old → length (over (answer n new) old) ≡ length old
buffer_length = over-length

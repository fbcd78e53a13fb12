-- What a list leaves, as the answers and outputs of Play and Frame.
use Rattle.std.specs.Prelude.{ℕ, ◌*◌, ◌≤◌, ◌<◌, List, [], ◌++◌, length, drop, take, replicate, Result, Ok, Err}
use native.Mathlib.Omega.{arith}
use mathlib.Core.Path.{◌≡◌, refl, sym, ap, subst, ◌∙◌}
use lib.ListN.{length-map}
use borrow.Author.Tests.{lt-ltb, le-ltb}
use Rattle.answers.specs.Answers.{numbers, Answered}
use Rattle.answers.specs.declared.Fault.TheVariants.{ListEnds}
use Rattle.answers.specs.declared.Refusal.{Refusal}
use Rattle.rules.specs.Lists.{below}
use Rattle.rules.specs.Sheet.{Sheet}
use Rattle.rules.specs.Bytes.{bytes}
use Rattle.rules.specs.Messages.{State, back, Ran as RunEnd, run, outcome}
use Rattle.rules.specs.Round.{new_link}
use Rattle.rules.specs.Calls.{Reply, answer, after_list, frames_of}
use Rattle.rules.proofs.Lists.{below_length}
use Rattle.rules.proofs.Reading.{bytes-length}
use Rattle.rules.proofs.Tally.{frames_length}
use Rattle.numbers.specs.Lines.{LinesOf}
use Rattle.sheet.specs.declared.SheetHeld.{SheetHeld}
use Rattle.sheet.specs.Held.{held, sheet_said, WriteAsked, FractionsWritten}
use Rattle.sheet.proofs.Facts.{held-length}
use Rattle.node.specs.declared.NetHeld.{NetHeld}
use Rattle.node.specs.declared.NetLent.{NetLent}
use Rattle.node.specs.Net.{state_said, NetIn, net_sheet, net_of, unordered, RowsRise, Renewed, Lendable}
use Rattle.node.proofs.Lent.{lent, given_back}
use Rattle.node.proofs.Held.{links-few, outcome-held, lendable, far-rise}
use Rattle.messages.specs.declared.Tally.{Tally}
use Rattle.messages.specs.declared.StateHeld.{StateHeld}
use Rattle.messages.specs.Round.{HeldIn, ListRunIn}
use Rattle.messages.proofs.Running.{run_small}
use Rattle.messages.proofs.Zeros.{empty_zeros}
use Rattle.frames.specs.Frames.{FramesWritten}
use Rattle.frames.proofs.Framing.{frames_over}
use Rattle.admit.specs.Opened.{Ready}
use Rattle.admit.proofs.Lines.{net-ready}
use Rattle.play.specs.Replies.{played_from, framed_from}
use Rattle.play.specs.Played.{retold, Ended, Played, Framed}

-- other fractions leave the sheet as long as it was
pub outcome-length : (s : Sheet) (st : State) → length (bytes (outcome s st)) ≡ length (bytes s)
outcome-length s st = omega (arith, bytes-length (outcome s st), bytes-length s, length-map s.links (new_link s (back s.links st)))

-- ---- Play's end
module _ {h : SheetHeld} {b js tr ss gs ps line inbox xs old : List ℕ} where
  pub ended_short : length js < h.links → Ended (Err (record { fault = ListEnds; place = length js })) h b js tr ss gs ps line inbox xs old old
  ended_short a = record {
    said = λ {fs} {ts} {ls} {os} net size stand.
        rw (lt-ltb (length js) (length (held h.links fs ts ls xs)) (omega (arith, held-length h.links fs ts ls xs))) (record { says = refl; writes = refl });
  }

  pub ended_all : {ys new : List ℕ} → h.links ≤ length js
      → ((ts : List ℕ) → ((i : ℕ) → i < h.head.nodes → RowsRise i ss ts) → Renewed h.head.step.0 h.head.nodes tr ss ts line xs inbox ys)
      → FractionsWritten h b ys old new → Ended (Ok (length b)) h b js tr ss gs ps line inbox xs old new
  ended_all {ys} a renewed written = record {
    said = λ {fs} {ts} {ls} {os} net size stand.
        let t : Sheet = outcome (sheet_said h tr fs ts ls xs) (state_said h.links os inbox) in
        let long : length b ≡ length (bytes t) = sym (ap length stand) ∙ sym (outcome-length (sheet_said h tr fs ts ls xs) (state_said h.links os inbox)) in
        rw (le-ltb (length js) (length (held h.links fs ts ls xs)) (omega (arith, held-length h.links fs ts ls xs))) (record {
          says = ap (λ (v : ℕ). numbers (answer v [])) long;
          writes = written.said tr fs ts ls xs stand
              ∙ ap (λ (s : Sheet). bytes s ++ drop (length b) old) (outcome-held net inbox ys size (renewed ts (far-rise net)))
              ∙ ap (λ (n : ℕ). bytes t ++ drop n old) long;
        });
  }

-- ---- what a list leaves
module _ (h : SheetHeld) (js : List ℕ) (net : NetHeld) {line : List ℕ} (right : NetIn h net line) where
  abbrev s : Sheet
  s = net_sheet h net

  module _ (state : StateHeld) where
    abbrev st : State
    st = state_said h.links net.opposite state.inbox

    answered_stopped : (go : State → Reply) {e : Refusal} {a : Result ℕ Refusal} {old : List ℕ} → ListRunIn (Err e) h js net line state → a ≡ Err e → Answered a (after_list (run s js) go) old old
    answered_stopped go {e} ran is = rw (is, sym (ran.said right)) (record { says = refl; writes = refl })

    module _ {t : Tally} (ran : ListRunIn (Ok t) h js net line state) where
      answered_left : (go : State → Reply) {a : Result ℕ Refusal} {old new : List ℕ} → Answered a (go st) old new → Answered a (after_list (run s js) go) old new
      answered_left go {a} {old} {new} = subst (λ (x : RunEnd). Answered a (after_list x go) old new) (ran.said right)

      rows-left : Lendable h.head.nodes net.rows.starts net.rows.flow_starts net.rows.flow line net.columns.fraction state.inbox
      rows-left = lendable right state.inbox (ran.keeps right).inbox_size (run_small ran right)

-- the lines are written over zeros, whatever the far nodes and the order are
held_lines : {h : SheetHeld} {b ts ord turn line : List ℕ} (net : NetHeld) → Ready h b (retold net ts ord turn)
    → LinesOf (take h.links net.columns.load) (replicate 512 0) line → NetIn h (retold net ts ord turn) line
held_lines net ready lines = net-ready ready.held lines empty_zeros.size empty_zeros.silence

module _ (h : SheetHeld) (net : NetHeld) (l : NetLent) {line : List ℕ} (is : net_of l ≡ unordered net) (at : l.line.now ≡ line)
    (lines : LinesOf (take h.links net.columns.load) (replicate 512 0) line) where
  pub held-lent : {b ts ord turn : List ℕ} → Ready h b (retold net ts ord turn) → HeldIn h (net_of l) l.line.now
  held-lent {ts = ts} ready = lent net l is at (λ n ls. HeldIn h n ls) (record { ts = ts; ls = net.columns.load; net = held_lines net ready lines })

  module _ {x : Result Tally Refusal} {js : List ℕ} {state : StateHeld} (run : ListRunIn x h js (net_of l) l.line.now state) where
    ran : {y : Result Tally Refusal} → x ≡ y → ListRunIn y h js net line state
    ran {y} q = given_back net l is at (λ n ls. ListRunIn y h js n ls state) (subst (λ (x : Result Tally Refusal). ListRunIn x h js (net_of l) l.line.now state) q run)

    -- refused on the way
    module _ {e : Refusal} (q : x ≡ Err e) {a : Result ℕ Refusal} (z : a ≡ Err e) {old : List ℕ} where
      pub played-stopped : {b : List ℕ} → Played a h b js net old old
      played-stopped = record {
        said = λ {ts} {ord} {turn} ready.
            answered_stopped h js (retold net ts ord turn) (held_lines net ready lines) state (played_from (net_sheet h (retold net ts ord turn)) js) (ran q) z;
      }

      pub framed-stopped : Framed a h js net old old
      framed-stopped = record {
        said = λ {b} {ts} {ord} {turn} ready.
            answered_stopped h js (retold net ts ord turn) (held_lines net ready lines) state (framed_from (net_sheet h (retold net ts ord turn))) (ran q) z;
      }

    -- or through
    module _ {t : Tally} (q : x ≡ Ok t) where
      pub rows-lent : {b ts ord turn : List ℕ} → Ready h b (retold net ts ord turn)
          → Lendable h.head.nodes l.rows.starts.now l.rows.flow_starts.now l.rows.flow.now l.line.now net.columns.fraction state.inbox
      rows-lent {ts = ts} {ord} {turn} ready =
          lent net l is at (λ n ls. Lendable h.head.nodes n.rows.starts n.rows.flow_starts n.rows.flow ls net.columns.fraction state.inbox)
          (rows-left h js (retold net ts ord turn) (held_lines net ready lines) state (ran q))

      pub played-left : {b old new : List ℕ} {a : Result ℕ Refusal}
          → Ended a h b js l.columns.now.traffic l.rows.starts.now l.rows.flow_starts.now l.rows.flow.now l.line.now state.inbox net.columns.fraction old new → Played a h b js net old new
      played-left {b} {old} {new} {a} ended = record {
        said = λ {ts} {ord} {turn} ready.
            let right : NetIn h (retold net ts ord turn) line = held_lines net ready lines in
            let e = given_back net l is at (λ n ls. Ended a h b js n.columns.traffic n.rows.starts n.rows.flow_starts n.rows.flow ls state.inbox net.columns.fraction old new) ended in
            answered_left h js (retold net ts ord turn) right state (ran q) (played_from (net_sheet h (retold net ts ord turn)) js)
            (e.said right ((ran q).keeps right).inbox_size ready.stand);
      }

      pub framed-left : {old new : List ℕ}
          → FramesWritten h.head.nodes h net.columns.traffic l.rows.starts.now l.rows.flow_starts.now l.rows.flow.now l.line.now net.columns.fraction state.inbox state.quiet old new
          → Framed (Ok (6 * h.head.nodes)) h js net old new
      framed-left {old} {new} written = record {
        said = λ {b} {ts} {ord} {turn} ready.
            let right : NetIn h (retold net ts ord turn) line = held_lines net ready lines in
            let s : Sheet = net_sheet h (retold net ts ord turn) in
            let st : State = state_said h.links net.opposite state.inbox in
            let w = given_back net l is at (λ n ls. FramesWritten h.head.nodes h net.columns.traffic n.rows.starts n.rows.flow_starts n.rows.flow ls net.columns.fraction state.inbox state.quiet old new) written in
            let long : 6 * h.head.nodes ≡ length (frames_of s st (below h.head.nodes)) = omega (arith, frames_length s st (below h.head.nodes), below_length h.head.nodes) in
            answered_left h js (retold net ts ord turn) right state (ran q) (framed_from s) {a = Ok (6 * h.head.nodes)}
            (record { says = ap (λ (v : ℕ). numbers (answer v [])) long; writes = frames_over right ((ran q).keeps right) old w });
      }

pub write-asked : {h : SheetHeld} {b out ts ord turn : List ℕ} (net : NetHeld) → Ready h b (retold net ts ord turn) → length b ≤ length out → WriteAsked h b out
write-asked net ready room = record { few = links-few ready.held.graph; nodes = ready.held.graph.sound.few; room = room; long = ready.long }

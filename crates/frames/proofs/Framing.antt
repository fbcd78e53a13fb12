-- Each node's frame, and the frames put into a buffer one after the other.
use Prim.Native.Nat.{ℕ, zero, suc, ◌+◌, ◌*◌, ◌<◌}
use native.Mathlib.Omega.{arith}
use native.Mathlib.Numerals.{add-one}
use mathlib.Core.Path.{◌≡◌, refl, sym, ap, ap₂, ◌∙◌}
use mathlib.Core.List.{List, [], ◌∷◌, ◌++◌, append_assoc, append-nil}
use lib.ListN.{length, get_or, take, drop}
use lib.Seq.{take_at, drop-append-add, drop-drop}
use Rattle.rules.specs.Lists.{below}
use Rattle.rules.specs.Sheet.{Sheet}
use Rattle.rules.specs.Desk.{Desk, status}
use Rattle.rules.specs.Messages.{State, desk}
use Rattle.rules.specs.Calls.{writes, over, node_frame, frames_of}
use Rattle.rules.proofs.Lists.{below_last, below_length}
use Rattle.rules.proofs.Tally.{frames_length}
use Rattle.sheet.specs.declared.SheetHeld.{SheetHeld}
use Rattle.sheet.specs.Held.{sheet_said, patched}
use Rattle.node.specs.Net.{row_desk, state_said, Net}
use Rattle.node.proofs.Held.{links-few, desk-held}
use Rattle.messages.specs.declared.Tally.{Tally}
use Rattle.messages.specs.State.{status_by, Kept}
use Rattle.messages.proofs.Storing.{status-kept}
use Rattle.frames.specs.Frames.{Shows, FramesWritten}

-- ---- one node
six_bytes : (n : ℕ) (d : Desk) → length (node_frame n d) ≡ 6
six_bytes zero d = refl
six_bytes (suc k) d = refl

pub shows_nothing : {frame : List ℕ} {s t q n i : ℕ} {ss line xs inbox : List ℕ} → n ≡ status_by q
    → n ≡ 0 → frame ≡ 0 ∷ 0 ∷ 0 ∷ 0 ∷ 0 ∷ 0 ∷ [] → Shows frame s t q ss line xs inbox i
shows_nothing {s = s} {t} {i = i} {ss} {line} {xs} {inbox} right z is = record {
  said = λ ts inside. is ∙ ap (λ (k : ℕ). node_frame k (row_desk s t ss ts line xs inbox i)) (sym z ∙ right);
}

-- ---- what is put behind a front
patched-behind : (o : ℕ) (front w rest : List ℕ) {d : List ℕ} → length front ≡ o → d ≡ front ++ rest → patched o w d ≡ front ++ (w ++ drop (length w) rest)
patched-behind o front w rest {d} e is =
    let p : take o d ≡ front = ap (take o) is ∙ take_at front rest o e in
    let q : drop (o + length w) d ≡ drop (length w) rest = ap₂ (λ (n : ℕ) (l : List ℕ). drop (n + length w) l) (sym e) is ∙ drop-append-add front rest (length w) in
    ap₂ (λ (x y : List ℕ). x ++ (w ++ y)) p q

-- ---- all of them
frames_append : (s : Sheet) (st : State) (is js : List ℕ) → frames_of s st (is ++ js) ≡ frames_of s st is ++ frames_of s st js
frames_append s st [] js = refl
frames_append s st (i ∷ is) js =
    let w : List ℕ = node_frame (status (desk s st i)) (desk s st i) in
    ap (λ (l : List ℕ). w ++ l) (frames_append s st is js) ∙ sym (append_assoc w (frames_of s st is) (frames_of s st js))

frames_more : (s : Sheet) (st : State) (k : ℕ) → frames_of s st (below (k + 1)) ≡ frames_of s st (below k) ++ node_frame (status (desk s st k)) (desk s st k)
frames_more s st k =
    ap (λ (n : ℕ). frames_of s st (below n)) (add-one k) ∙ ap (frames_of s st) (below_last k) ∙ frames_append s st (below k) (k ∷ [])
    ∙ ap (λ (l : List ℕ). frames_of s st (below k) ++ l) (append-nil (node_frame (status (desk s st k)) (desk s st k)))

-- node k's frame is put behind those of the nodes before it
module _ {h : SheetHeld} {tr fs ts ls xs ss gs ps os line inbox qs : List ℕ} {t : Tally}
    (net : Net h tr fs ts ls xs ss gs ps os line) (kept : Kept h tr fs ts ls xs ss os inbox qs t) {k : ℕ} (low : k < h.head.nodes)
    {frame : List ℕ} (shows : Shows frame h.head.step.0 (get_or tr k 0) (get_or qs k 0) ss line xs inbox k) where
  abbrev s : Sheet
  s = sheet_said h tr fs ts ls xs

  abbrev st : State
  st = state_said h.links os inbox

  frame_is : frame ≡ node_frame (status (desk s st k)) (desk s st k)
  frame_is =
      shows.said ts (omega (arith, net.graph.rows.top (k + 1) (omega arith), links-few net.graph, net.graph.to-size))
      ∙ ap₂ node_frame (sym (status-kept kept k low)) (sym (desk-held net inbox kept.inbox_size k low))

  one_more : (old : List ℕ) {new : List ℕ} → new ≡ frames_of s st (below k) ++ drop (6 * k) old
      → patched (6 * k) frame new ≡ frames_of s st (below (k + 1)) ++ drop (6 * (k + 1)) old
  one_more old is =
      let six : length frame ≡ 6 = ap length frame_is ∙ six_bytes (status (desk s st k)) (desk s st k) in
      let done : List ℕ = frames_of s st (below k) in
      let long : length done ≡ 6 * k = omega (arith, frames_length s st (below k), below_length k) in
      let n : 6 * k + 6 ≡ 6 * (k + 1) = omega arith in
      patched-behind (6 * k) done frame (drop (6 * k) old) long is
      ∙ sym (append_assoc done frame (drop (length frame) (drop (6 * k) old)))
      ∙ ap₂ (λ (y z : List ℕ). y ++ z) (ap (λ (w : List ℕ). done ++ w) frame_is ∙ sym (frames_more s st k))
      (ap (λ (m : ℕ). drop m (drop (6 * k) old)) six ∙ drop-drop 6 (6 * k) old ∙ ap (λ (m : ℕ). drop m old) n)

-- the loop that writes, behind node k
pub framing_more : {h : SheetHeld} {tr ss gs ps line xs inbox qs old new frame next : List ℕ} {k o : ℕ}
    → FramesWritten k h tr ss gs ps line xs inbox qs old new → k < h.head.nodes
    → Shows frame h.head.step.0 (get_or tr k 0) (get_or qs k 0) ss line xs inbox k → o ≡ 6 * k → next ≡ patched o frame new
    → FramesWritten (k + 1) h tr ss gs ps line xs inbox qs old next
framing_more {old = old} {new = new} {frame = frame} f low shows at put = record {
  said = λ net kept. put ∙ ap (λ (x : ℕ). patched x frame new) at ∙ one_more net kept low shows old (f.said net kept);
}

-- ---- for a caller who holds a sheet and keeps a state
module _ {h : SheetHeld} {tr fs ts ls xs ss gs ps os line inbox qs : List ℕ} {t : Tally}
    (net : Net h tr fs ts ls xs ss gs ps os line) (kept : Kept h tr fs ts ls xs ss os inbox qs t) (old : List ℕ) where
  pub frames_over : {new : List ℕ} → FramesWritten h.head.nodes h tr ss gs ps line xs inbox qs old new
      → new ≡ over (writes (frames_of (sheet_said h tr fs ts ls xs) (state_said h.links os inbox) (below h.head.nodes))) old
  frames_over written =
      let frames : List ℕ = frames_of (sheet_said h tr fs ts ls xs) (state_said h.links os inbox) (below h.head.nodes) in
      let long : 6 * h.head.nodes ≡ length frames =
      omega (arith, frames_length (sheet_said h tr fs ts ls xs) (state_said h.links os inbox) (below h.head.nodes), below_length h.head.nodes) in
      written.said net kept ∙ ap (λ (n : ℕ). frames ++ drop n old) long

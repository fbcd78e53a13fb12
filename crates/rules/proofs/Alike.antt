-- What a run leaves is fixed by who has heard whom, and that by the entries of its list.
use Prim.Native.Nat.{ℕ, suc, ◌<◌}
use native.Mathlib.Omega.{arith}
use native.Mathlib.Decide.{ℕ_discrete}
use mathlib.Core.Path.{◌≡◌, refl, sym, ap, ◌∙◌}
use mathlib.Core.Logic.{◌↔◌, ◌⊎◌, inl, inr}
use mathlib.Core.Bool.{true, false}
use mathlib.Core.List.Memᴰ.{head as here}
use mathlib.Core.List.Memᴰ.{tail as there}
use mathlib.Core.List.{List, [], ◌∷◌, Memᴰ as In}
use lib.ListN.{length, get_or, set, length-set, length-replicate, get_or-replicate}
use lib.Seq.{ext_get_or, get_or-set_same, get_or-set_other}
use Rattle.rules.specs.Sheet.{Link, Sheet}
use Rattle.rules.specs.Desk.{Told, silent, told, heard, message, status}
use Rattle.rules.specs.Round.{full_desk}
use Rattle.rules.specs.Messages.{State, start, back, desk, link_of, sender, waits_on, waits, deliver, left, run_from, run}
use Rattle.rules.specs.Calls.{node_frame}
use Rattle.rules.proofs.Tests.{known, clash, same_test}
use Rattle.rules.proofs.Sound.{Sound, row_from}
use Rattle.rules.proofs.Local.{opposite-ends, heard_local}
use Rattle.rules.proofs.Right.{status-same, Right}
use Rattle.rules.proofs.Run.{run_step}
use Rattle.rules.proofs.Tally.{frame_right}

-- the same messages have reached node i; and all nodes
abbrev pub HeardInto : Sheet → ℕ → State → State → Type 0
HeardInto s i st su = (k : ℕ) → k < length s.links → (link_of s k).to ≡ i → heard (get_or st k silent) ≡ heard (get_or su k silent)

abbrev pub HeardAlike : Sheet → State → State → Type 0
HeardAlike s st su = (k : ℕ) → k < length s.links → heard (get_or st k silent) ≡ heard (get_or su k silent)

-- ---- for every sheet and every state
module _ (s : Sheet) (st su : State) where
  pub status_alike : (i : ℕ) → HeardInto s i st su → status (desk s st i) ≡ status (desk s su i)
  status_alike i h = status-same s (back s.links st) (back s.links su) i (λ l m.
      heard_local s.links l st su (λ k a o. h k a ((opposite-ends l (link_of s k) o).1 ∙ row_from i s.links m)))

  waits_on_lem : (n : ℕ) (l : Link) (w v : Told) → heard w ≡ heard v → waits_on n l w ≡ waits_on n l v
  waits_on_lem n l w v e = rw e

  pub waits_alike : (j : ℕ) → HeardInto s (link_of s j).from st su → heard (get_or st j silent) ≡ heard (get_or su j silent) → waits s st j ≡ waits s su j
  waits_alike j h e =
      ap (λ (n : ℕ). waits_on n (link_of s j) (get_or st j silent)) (status_alike (link_of s j).from h)
      ∙ waits_on_lem (status (sender s su j)) (link_of s j) (get_or st j silent) (get_or su j silent) e

-- ---- right states
module _ {s : Sheet} (ok : Sound s) {st su : State} (p : Right s st) (q : Right s su) where
  pub frame_alike : (i : ℕ) → HeardInto s i st su → node_frame (status (desk s st i)) (desk s st i) ≡ node_frame (status (desk s su i)) (desk s su i)
  frame_alike i h =
      frame_right ok p i (status (desk s st i)) refl
      ∙ ap (λ (k : ℕ). node_frame k (full_desk s i)) (status_alike s st su i h)
      ∙ sym (frame_right ok q i (status (desk s su i)) refl)

  silence : (w : Told) → heard w ≡ false → w ≡ silent
  silence silent e = refl
  silence (told m b) e = clash refl e

  pub state_alike : HeardAlike s st su → st ≡ su
  state_alike h = ext_get_or silent st su (p.size ∙ sym q.size) (λ k a. go k (omega (arith, p.size)) (known (heard (get_or st k silent))))
    where
      go : (k : ℕ) → k < length s.links → (heard (get_or st k silent) ≡ true) ⊎ (heard (get_or st k silent) ≡ false) → get_or st k silent ≡ get_or su k silent
      go k a (inl e) = p.holds k a e ∙ sym (q.holds k a (sym (h k a) ∙ e))
      go k a (inr e) = silence (get_or st k silent) e ∙ sym (silence (get_or su k silent) (sym (h k a) ∙ e))

-- ---- after a run a message was delivered exactly if the list names it
module _ (s : Sheet) where
  abbrev Had : State → List ℕ → ℕ → Type 0
  Had st js k = (heard (get_or st k silent) ≡ true) ⊎ In k js

  runs-heard : (m : ℕ) (st : State) (js : List ℕ) (end : State) → length st ≡ length s.links → run_from m s st js ≡ left end
      → (k : ℕ) → (heard (get_or end k silent) ≡ true) ↔ Had st js k
  runs-heard m st [] end z e k = let same : st ≡ end = cc in (λ h. inl (rw same h), λ h. stays h same)
    where
      stays : Had st [] k → st ≡ end → heard (get_or end k silent) ≡ true
      stays (inl h) same = rw (← same) h
      stays (inr m) same = elim m [ ]
  runs-heard m st (j ∷ js) end z e k =
      let p = run_step m s st j js end e in
      let r = runs-heard (suc m) (deliver s st j) js end (length-set st j (message (sender s st j)) ∙ z) p.2 k in
      (λ h. back_one (r.0 h) (ℕ_discrete k j), λ h. r.1 (on_one (rw z p.0) h (ℕ_discrete k j)))
    where
      mail : Told
      mail = message (sender s st j)

      back_one : Had (set st j mail) js k → Dec (k ≡ j) → Had st (j ∷ js) k
      back_one h (yes q) = inr (here q)
      back_one (inl h) (no n) = inl (ap heard (sym (get_or-set_other st j k mail silent n)) ∙ h)
      back_one (inr i) (no n) = inr (there i)

      on_one : j < length st → Had st (j ∷ js) k → Dec (k ≡ j) → Had (set st j mail) js k
      on_one a h (yes q) = inl (rw (q, get_or-set_same st j mail silent a))
      on_one a (inl h) (no n) = inl (ap heard (get_or-set_other st j k mail silent n) ∙ h)
      on_one a (inr (here q)) (no n) = absurd (n q)
      on_one a (inr (there i)) (no n) = inr i

  pub run-heard : (js : List ℕ) {st : State} → run s js ≡ left st → (k : ℕ) → k < length s.links → (heard (get_or st k silent) ≡ true) ↔ In k js
  run-heard js {st} e k a =
      let r = runs-heard 0 (start s) js st (length-replicate (length s.links) silent) e k in
      (λ h. new (r.0 h), λ i. r.1 (inr i))
    where
      new : Had (start s) js k → In k js
      new (inl h) = clash h (ap heard (get_or-replicate (length s.links) k silent silent a))
      new (inr i) = i

  -- so lists with the same entries, in whatever order, leave states that agree on who has heard whom
  pub same_entries : (js ks : List ℕ) {st su : State} → run s js ≡ left st → run s ks ≡ left su → ((k : ℕ) → k < length s.links → In k js ↔ In k ks) → HeardAlike s st su
  same_entries js ks {st} {su} p q h k a = same_test (heard (get_or st k silent)) (heard (get_or su k silent))
      (λ e. (run-heard ks q k a).1 ((h k a).0 ((run-heard js p k a).0 e)))
      (λ e. (run-heard js p k a).1 ((h k a).1 ((run-heard ks q k a).0 e)))

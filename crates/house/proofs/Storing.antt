-- A word stored: what did not wait does not wait now, but where its node's status changed.
use Prim.Native.Nat.{ℕ, ◌<◌}
use native.Mathlib.Omega.{arith}
use native.Mathlib.Decide.{ℕ_discrete}
use mathlib.Core.Path.{◌≡◌, refl, sym, ap, ap₂, ◌∙◌}
use mathlib.Core.Logic.{◌≢◌}
use mathlib.Core.Bool.{true, false}
use mathlib.Core.List.{List}
use lib.ListN.{length, get_or, set}
use lib.Seq.{get_or-set_same, get_or-set_other}
use Rattle.rules.specs.Sheet.{Link, Sheet}
use Rattle.rules.specs.Desk.{Told, silent, heard, status}
use Rattle.rules.specs.Messages.{State, desk, link_of, waits_on, waits}
use Rattle.rules.proofs.Alike.{status_alike}
use Rattle.desk.specs.Ways.{told_of}
use Rattle.sheet.specs.declared.SheetHeld.{SheetHeld}
use Rattle.sheet.specs.Held.{sheet_said}
use Rattle.sheet.proofs.Facts.{held-at}
use Rattle.node.specs.declared.NetHeld.{NetHeld}
use Rattle.node.specs.Net.{state_said}
use Rattle.node.proofs.Held.{state_length}
use Rattle.messages.specs.declared.StateHeld.{StateHeld}
use Rattle.messages.specs.declared.Tally.{Tally}
use Rattle.messages.specs.declared.Change.{Change}
use Rattle.messages.proofs.Storing.{status-kept, from_in, waits_kept}
use Rattle.std.specs.Int.{bit_at}
use Rattle.house.specs.Nodes.{With}
use Rattle.house.specs.declared.Search.{Search}
use Rattle.messages.specs.State.{waiting_in, StoredIn}
use Rattle.house.specs.House.{KeptIn, status_in, near, far, ChosenStored}

-- ---- for every sheet and every state
module _ (s : Sheet) (st : State) (j : ℕ) (w : Told) where
  status-elsewhere : (i : ℕ) → i ≢ (link_of s j).to → status (desk s (set st j w) i) ≡ status (desk s st i)
  status-elsewhere i ne = status_alike s (set st j w) st i (λ k a e. ap heard (get_or-set_other st j k w silent (λ q. ne (sym e ∙ ap (λ (x : ℕ). (link_of s x).to) q))))

  told-waits : (n : ℕ) (l : Link) (v : Told) → heard v ≡ true → waits_on n l v ≡ false
  told-waits n l v e = rw e

  waits_still : j < length st → heard w ≡ true → (p : ℕ) → status (desk s (set st j w) (link_of s p).from) ≡ status (desk s st (link_of s p).from)
      → waits s st p ≡ false → waits s (set st j w) p ≡ false
  waits_still inside word p e q = go (ℕ_discrete p j)
    where
      go : Dec (p ≡ j) → waits s (set st j w) p ≡ false
      go (yes z) = told-waits (status (desk s (set st j w) (link_of s p).from)) (link_of s p) (get_or (set st j w) p silent)
          (ap (λ (x : ℕ). heard (get_or (set st j w) x silent)) z ∙ ap heard (get_or-set_same st j w silent inside) ∙ word)
      go (no ne) = ap₂ (λ (n : ℕ) (v : Told). waits_on n (link_of s p) v) e (get_or-set_other st j p w silent ne) ∙ q

-- ---- over the net
module _ {h : SheetHeld} {j : ℕ} (net : NetHeld) {st st' : StateHeld} {tr ts ls ss : List ℕ} {t : Tally} {c : Change} (kept : KeptIn h tr ts ls ss net st t) (inside : j < h.links) (put : StoredIn j 1 net st st' c) where
  abbrev s : Sheet
  s = sheet_said h tr net.columns.from ts ls net.columns.fraction

  abbrev now : State
  now = state_said h.links net.opposite st.inbox

  far_is : (link_of s j).to ≡ far net j
  far_is = ap (λ (l : Link). l.to) (held-at h.links net.columns.from ts ls net.columns.fraction j inside) ∙ sym (kept.graph.opposites.from j inside)

  status_now : (i : ℕ) → i < h.head.nodes → (i ≡ far net j → status_in st' i ≡ status_in st i) → status (desk s (set now j (told_of 1)) i) ≡ status (desk s now i)
  status_now i low same = go (ℕ_discrete i (far net j))
    where
      go : Dec (i ≡ far net j) → status (desk s (set now j (told_of 1)) i) ≡ status (desk s now i)
      go (yes e) =
          ap (λ (su : State). status (desk s su i)) (sym (put.said kept inside))
          ∙ status-kept (put.keeps kept inside) i low ∙ same e ∙ sym (status-kept kept i low)
      go (no ne) = status-elsewhere s now j (told_of 1) i (λ e. ne (e ∙ far_is))

  waiting_still : (p : ℕ) → p < h.links → (near net p ≡ far net j → status_in st' (near net p) ≡ status_in st (near net p)) → waiting_in p net st ≡ false → waiting_in p net st' ≡ false
  waiting_still p a same e =
      let own : (link_of s p).from ≡ near net p = ap (λ (l : Link). l.from) (held-at h.links net.columns.from ts ls net.columns.fraction p a) in
      waits_kept (put.keeps kept inside) a
      ∙ ap (λ (su : State). waits s su p) (put.said kept inside)
      ∙ waits_still s now j (told_of 1) (omega (arith, state_length h.links net.opposite st.inbox)) refl p
      (ap (λ (i : ℕ). status (desk s (set now j (told_of 1)) i)) own ∙ status_now (near net p) (from_in kept a) same ∙ ap (λ (i : ℕ). status (desk s now i)) (sym own))
      (sym (waits_kept kept a) ∙ e)

-- ---- what store_chosen promises, by whether the far node's status changed
module _ {j : ℕ} (net : NetHeld) {st st' : StateHeld} {search : Search} {c : Change} (put : StoredIn j 1 net st st' c) where
  pub chosen-same : status_in st (far net j) ≡ status_in st' (far net j) → ChosenStored j net st search st' search
  chosen-same e = record {
    change = c;
    stored = put;
    passed = λ kept inside old. record {
      behind = λ p a b. waiting_still net kept inside put p a (λ q. same (near net p) q) (old.behind p a b);
      shut = λ p a b. waiting_still net kept inside put p a (λ q. same (near net p) q) (old.shut p a b);
    };
  }
    where
      same : (i : ℕ) → i ≡ far net j → status_in st' i ≡ status_in st i
      same i q = rw q (sym e)

  pub chosen_anew : {search' : Search} → length search.cursor ≡ 64 → far net j < 64 → search'.cursor ≡ set search.cursor (far net j) 0 → With search.live (far net j) search'.live → ChosenStored j net st search st' search'
  chosen_anew {search'} size far_in back more = record {
    change = c;
    stored = put;
    passed = λ kept inside old. record {
      behind = λ p a b.
          let ne : near net p ≢ far net j = λ q. omega (arith, cleared p q) in
          waiting_still net kept inside put p a (λ q. absurd (ne q)) (old.behind p a (omega (arith, ap (λ (cs : List ℕ). get_or cs (near net p) 0) back, get_or-set_other search.cursor (far net j) (near net p) 0 0 ne)));
      shut = λ p a b.
          let ne : near net p ≢ far net j = λ q. omega (arith, opened p q) in
          waiting_still net kept inside put p a (λ q. absurd (ne q)) (old.shut p a (sym (more.elsewhere (near net p) ne) ∙ b));
    };
  }
    where
      cleared : (p : ℕ) → near net p ≡ far net j → get_or search'.cursor (near net p) 0 ≡ 0
      cleared p q = rw (q, back) (get_or-set_same search.cursor (far net j) 0 0 (omega arith))

      opened : (p : ℕ) → near net p ≡ far net j → bit_at search'.live (near net p) ≡ 1
      opened p q = ap (bit_at search'.live) q ∙ more.here

-- The state before any delivery: the destination has status 1, every other node 0.
use Prim.Native.Nat.{ℕ, zero, suc, ◌≤◌, ◌<◌}
use native.Mathlib.Omega.{arith}
use native.Mathlib.Decide.{ℕ_discrete}
use mathlib.Core.Path.{◌≡◌, sym, ap, ◌∙◌, subst}
use mathlib.Core.Logic.{◌⊎◌, inl, inr, ◌≢◌}
use mathlib.Core.Bool.{true, false}
use mathlib.Core.List.{Memᴰ as In}
use lib.ListN.{length, get_or-replicate}
use borrow.Author.Tests.{ltb-false}
use Rattle.rules.specs.Lists.{exists}
use Rattle.rules.specs.Sheet.{Link, Sheet, flows, row_of}
use Rattle.rules.specs.Desk.{silent, heard, status}
use Rattle.rules.specs.Messages.{State, start, back, desk, no_link, link_of}
use Rattle.rules.proofs.Tests.{known, clash, refuted}
use Rattle.rules.proofs.Lists.{get_or_in, exists_gives, exists_holds, total_zero}
use Rattle.rules.proofs.Rank.{rank}
use Rattle.rules.proofs.Sound.{Sound, row-link, row-falls, in_row, due-other}
use Rattle.rules.proofs.Local.{opposite-ends}
use Rattle.rules.proofs.Words.{sink_still}
use Rattle.rules.proofs.Right.{status_le, two_full, ready-one, one-ready, full-heard, ready-heard, heard-ready, twin}

module _ {s : Sheet} (ok : Sound s) where
  -- the destination has status 1 or 2 in every state
  pub sink_ready : (st : State) → 1 ≤ status (desk s st s.destination)
  sink_ready st = ready-one (desk s st s.destination) (heard-ready s (back s.links st) s.destination (λ l m f. clash f (sink_still ok l m)))

  -- every other node has a flowing link out, and so one leads to the destination
  flowing_out : (i : ℕ) → i < s.nodes → i ≢ s.destination → (l : Link) × In l (row_of i s.links) × (flows l ≡ true)
  flowing_out i h n = go (known (exists flows (row_of i s.links)))
    where
      go : (exists flows (row_of i s.links) ≡ true) ⊎ (exists flows (row_of i s.links) ≡ false) → (l : Link) × In l (row_of i s.links) × (flows l ≡ true)
      go (inl e) = exists_gives flows (row_of i s.links) e
      go (inr e) =
          let dry = total_zero (λ (l : Link). l.fraction) (row_of i s.links) (λ l m.
          omega (arith, ltb-false 0 l.fraction (refuted (flows l) (λ f. clash (exists_holds flows m f) e)))) in
          absurd (omega (arith, dry, ok.sums i h, due-other s i n))

  to_sink : (k i : ℕ) → rank s i < k → i < s.nodes → i ≢ s.destination → (l : Link) × In l s.links × (l.to ≡ s.destination)
  to_sink zero i r h n = absurd (omega arith)
  to_sink (suc k) i r h n =
      let o = flowing_out i h n in
      let l : Link = o.0 in
      let m = row-link i s.links o.1 in
      let lower : rank s l.to < k = omega (arith, row-falls ok i l o.1 o.2) in
      go l m (ℕ_discrete l.to s.destination) (to_sink k l.to lower (ok.fits l m).to_in)
    where
      go : (l : Link) → In l s.links → Dec (l.to ≡ s.destination) → (l.to ≢ s.destination → (l : Link) × In l s.links × (l.to ≡ s.destination))
          → (l : Link) × In l s.links × (l.to ≡ s.destination)
      go l m (yes e) ih = (l, m, e)
      go l m (no e) ih = ih e

  -- a node that is not the destination
  another : (i : ℕ) × (i < s.nodes) × (i ≢ s.destination)
  another = go (ℕ_discrete s.destination 0)
    where
      go : Dec (s.destination ≡ 0) → (i : ℕ) × (i < s.nodes) × (i ≢ s.destination)
      go (yes e) = (1, omega (arith, ok.two), omega arith)
      go (no e) = (0, omega (arith, ok.two), λ q. e (sym q))

  -- before any delivery nobody has heard anybody
  unheard : (l : Link) → In l s.links → heard (back s.links (start s) l) ≡ false
  unheard l m = let t = twin ok l m in ap heard (t.stored (start s) ∙ get_or-replicate (length s.links) t.place silent silent t.inside)

  pub sink_starts : status (desk s (start s) s.destination) ≡ 1
  sink_starts =
      let a = another in
      let o = to_sink (suc (rank s a.0)) a.0 (omega arith) a.1 a.2 in
      let t = twin ok o.0 o.1 in
      let l : Link = link_of s t.place in
      let m : In l s.links = get_or_in s.links t.place no_link t.inside in
      let e : l.from ≡ s.destination = (opposite-ends o.0 l t.turned).0 ∙ o.2 in
      let d = desk s (start s) s.destination in
      let not-two : status d ≢ 2 = λ q.
      clash (full-heard s (back s.links (start s)) s.destination (two_full d q) l (subst (λ (i : ℕ). In l (row_of i s.links)) e (in_row m))) (unheard l m) in
      omega (arith, sink_ready (start s), status_le d)

  pub other-starts : (i : ℕ) → i < s.nodes → i ≢ s.destination → status (desk s (start s) i) ≡ 0
  other-starts i h n =
      let o = flowing_out i h n in
      let d = desk s (start s) i in
      let low : ¬ (1 ≤ status d) = λ q.
      clash (ready-heard s (back s.links (start s)) i (one-ready d q) o.0 o.1 o.2) (unheard o.0 (row-link i s.links o.1)) in
      omega arith

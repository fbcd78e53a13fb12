-- The state with nothing delivered.
use Prim.Native.Nat.{ℕ, ◌+◌, ◌-◌, ◌≤◌, ◌<◌}
use native.Mathlib.Omega.{arith}
use native.Mathlib.Numerals.{add-one}
use native.Mathlib.Decide.{ℕ_discrete}
use mathlib.Core.Path.{◌≡◌, refl, sym, ap, ◌∙◌}
use mathlib.Core.Bool.{Bool, true, false}
use mathlib.Core.List.{List}
use lib.ListN.{length, get_or, set, length-set, length-replicate, get_or-replicate}
use lib.Seq.{ext_get_or, get_or-set_same, get_or-set_other}
use lib.Dec.{ltb, eqb}
use borrow.Author.Tests.{eq-eqb}
use Rattle.rules.specs.Lists.{keep, bit, how_many, below}
use Rattle.rules.specs.Desk.{silent}
use Rattle.rules.specs.Messages.{start, delivered}
use Rattle.rules.proofs.Lists.{total_eq, total_last, in_below}
use Rattle.rules.proofs.Live.{count_start}
use Rattle.desk.specs.Ways.{told_of}
use Rattle.sheet.specs.declared.SheetHeld.{SheetHeld}
use Rattle.sheet.specs.Held.{sheet_said}
use Rattle.network.specs.Rows.{part}
use Rattle.network.proofs.Rows.{part_length, part-get_or}
use Rattle.sheet.proofs.Facts.{held-length}
use Rattle.node.specs.Net.{state_said, Net, Empty}
use Rattle.node.proofs.Held.{state_length, state_at, links-few}
use Rattle.messages.specs.declared.Tally.{Tally}
use Rattle.messages.specs.State.{is_silent, is_silent_flow, row_numbers, quiet_of, status_by, Kept, row_quiet, RowsAt, Begun}
use Rattle.messages.proofs.Counts.{count_all, count_kept}
use Rattle.sheet.proofs.Links.{and_true}
use Rattle.messages.proofs.Statuses.{finished_by}

bit_small : (b : Bool) → bit b ≤ 1
bit_small true = omega arith
bit_small false = omega arith

-- ---- the loop, i nodes on
pub record Beginning (ss gs qs : List ℕ) (finished i : ℕ) : Type 0 where
  pub size : length qs ≡ 64
  pub counts : (k : ℕ) → k < i → get_or qs k 0 ≡ row_quiet ss gs k
  pub done : finished ≡ how_many (λ k. eqb (status_by (row_quiet ss gs k)) 2) (below i)
  pub small : finished ≤ i

module _ {ss gs qs : List ℕ} where
  pub beginning_none : length qs ≡ 64 → Beginning ss gs qs 0 0
  beginning_none size = record { size = size; counts = λ k b. absurd (omega arith); done = refl; small = omega arith }

  pub beginning_more : {finished i q f : ℕ} → Beginning ss gs qs finished i → i < 64 → q ≡ row_quiet ss gs i → f ≡ bit (eqb (status_by q) 2)
      → Beginning ss gs (set qs i q) (finished + f) (i + 1)
  beginning_more {finished} {i} {q} {f} inv low e g = record {
    size = length-set qs i q ∙ inv.size;
    counts = λ k b. at k b (ℕ_discrete k i);
    done = rw (add-one i) (omega (arith, inv.done, g, ap (λ (x : ℕ). bit (eqb (status_by x) 2)) e, total_last (λ k. bit (eqb (status_by (row_quiet ss gs k)) 2)) i));
    small = omega (arith, inv.small, g, bit_small (eqb (status_by q) 2));
  }
    where
      at : (k : ℕ) → k < i + 1 → Dec (k ≡ i) → get_or (set qs i q) k 0 ≡ row_quiet ss gs k
      at k b (yes s) = rw s (get_or-set_same qs i q 0 (omega (arith, inv.size)) ∙ e)
      at k b (no ne) = get_or-set_other qs i k q 0 ne ∙ inv.counts k (omega arith)

  pub beginning_all : {n i finished : ℕ} → Beginning ss gs qs finished i → i ≡ n → Begun n ss gs qs (record { deliveries = 0; finished = finished })
  beginning_all inv end = rw (sym end) (record { size = inv.size; counts = inv.counts; none = refl; finished-right = inv.done })

-- ---- what it says
module _ {h : SheetHeld} {tr fs ts ls xs ss gs ps os line : List ℕ} (net : Net h tr fs ts ls xs ss gs ps os line) where
  pub rows_at : RowsAt h.head.nodes ss gs
  rows_at = record {
    few = net.graph.sound.few;
    rise = net.graph.rows.rise;
    flow-rise = net.flow.rise;
  }

  module _ {inbox : List ℕ} (empty : Empty inbox) where
    pub state_start : state_said h.links os inbox ≡ start (sheet_said h tr fs ts ls xs)
    state_start = ext_get_or silent (state_said h.links os inbox) (start (sheet_said h tr fs ts ls xs))
        (state_length h.links os inbox ∙ sym (held-length h.links fs ts ls xs) ∙ sym (length-replicate (length (sheet_said h tr fs ts ls xs).links) silent))
        (λ j b. let low : j < h.links = omega (arith, state_length h.links os inbox) in
        state_at h.links os inbox j low ∙ ap told_of (empty.silence (get_or os j 0))
        ∙ sym (get_or-replicate (length (sheet_said h tr fs ts ls xs).links) j silent silent (omega (arith, held-length h.links fs ts ls xs))))

    module _ (i : ℕ) (low : i < h.head.nodes) where
      abbrev a : ℕ
      a = get_or ss i 0

      abbrev e : ℕ
      e = get_or ss (i + 1) 0

      silent-at : (k : ℕ) → is_silent inbox k ≡ true
      silent-at k = eq-eqb (get_or inbox k 0) 0 (empty.silence k)

      flows-at : (p : ℕ) → p < e - a → ltb 0 (get_or (part xs a e) (0 + p) 0) ≡ is_silent_flow xs inbox (a + p)
      flows-at p b =
          let z : 0 + p ≡ p = omega arith in
          ap (λ (q : ℕ). ltb 0 (get_or (part xs a e) q 0)) z ∙ ap (ltb 0) (part-get_or xs a e p b) ∙ sym (and_true (ltb 0 (get_or xs (a + p) 0)) (silent-at (a + p)))

      flowing-at : get_or gs (i + 1) 0 - get_or gs i 0 ≡ how_many (is_silent_flow xs inbox) (row_numbers ss i)
      flowing-at =
          sym (part_length ps (get_or gs i 0) (get_or gs (i + 1) 0) (omega (arith, net.flow.top (i + 1) (omega arith), net.flow-size)))
          ∙ ap length (net.flow.places i low)
          ∙ ap (λ (m : ℕ). length (keep (λ p. ltb 0 (get_or (part xs a e) p 0)) (below m))) (part_length xs a e (omega (arith, net.graph.rows.top (i + 1) (omega arith), links-few net.graph, net.graph.fraction-size)))
          ∙ count_kept (λ p. ltb 0 (get_or (part xs a e) p 0)) (is_silent_flow xs inbox) a 0 (e - a) flows-at

      quiet_at : row_quiet ss gs i ≡ quiet_of ss xs inbox i
      quiet_at = omega (arith, flowing-at, count_all (is_silent inbox) a (e - a) silent-at)

    pub begun_kept : {qs : List ℕ} {t : Tally} → Begun h.head.nodes ss gs qs t → Kept h tr fs ts ls xs ss os inbox qs t
    begun_kept {qs} {t} begun = record {
      graph = net.graph;
      inbox_size = empty.size;
      beyond = λ k l. empty.silence k;
      quiet-size = begun.size;
      quiet = right;
      deliveries = begun.none ∙ sym (ap delivered state_start ∙ count_start (length (sheet_said h tr fs ts ls xs).links));
      finished-right = begun.finished-right ∙ sym (finished_by net.graph inbox qs right
          ∙ total_eq (λ i. bit (eqb (status_by (get_or qs i 0)) 2)) (λ i. bit (eqb (status_by (row_quiet ss gs i)) 2)) (below h.head.nodes)
          (λ i m. ap (λ (x : ℕ). bit (eqb (status_by x) 2)) (begun.counts i (in_below h.head.nodes m))));
    }
      where
        right : (i : ℕ) → i < h.head.nodes → get_or qs i 0 ≡ quiet_of ss xs inbox i
        right i low = begun.counts i low ∙ quiet_at i low

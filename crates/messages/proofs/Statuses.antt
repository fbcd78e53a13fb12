-- The status of each node, by the counts.
use Prim.Native.Nat.{ℕ, ◌+◌, ◌-◌, ◌%◌, ◌≤◌, ◌<◌}
use native.Mathlib.Omega.{arith}
use mathlib.Core.Path.{◌≡◌, refl, sym, ap, ap₂, ◌∙◌}
use mathlib.Core.Bool.{Bool, true, false, cond, not, ◌&&◌, ◌||◌}
use mathlib.Core.List.{List, map}
use lib.ListN.{get_or}
use lib.Dec.{ltb, eqb}
use borrow.Author.Tests.{le-ltb}
use Rattle.rules.specs.Lists.{every, bit, how_many, below}
use Rattle.rules.specs.Sheet.{Link, Sheet}
use Rattle.rules.specs.Desk.{Told, heard, hears, hears_flow, full, ready, status}
use Rattle.rules.specs.Round.{way_of}
use Rattle.rules.specs.Messages.{State, back, desk, is_finished, finished}
use Rattle.rules.proofs.Tests.{and_gives, bit_le}
use Rattle.rules.proofs.Lists.{total_eq, total_le, count_le, counted-length, in_below}
use Rattle.desk.specs.Ways.{told_of}
use Rattle.sheet.specs.declared.SheetHeld.{SheetHeld}
use Rattle.sheet.specs.Held.{held_at, held, sheet_said}
use Rattle.network.proofs.Rows.{row_range_lem}
use Rattle.node.specs.Net.{state_said, Graph}
use Rattle.node.proofs.Held.{links-few, back-held}
use Rattle.messages.specs.State.{row_numbers, is_silent, is_silent_flow, quiet_of, status_by}
use Rattle.messages.proofs.Counts.{none_left, status_two}

pub heard-told : (x : ℕ) → heard (told_of x) ≡ not (eqb x 0)
heard-told x = go (eqb x 0) refl
  where
    go : (b : Bool) → eqb x 0 ≡ b → heard (told_of x) ≡ not b
    go true e = rw e
    go false e = rw e

-- with a neighbour to hear, a node has not finished
pub status-some : (q : ℕ) → 1024 ≤ q → eqb (status_by q) 2 ≡ false
status-some q l = rw (le-ltb q 1024 l) (go (eqb (q % 1024) 0))
  where
    go : (b : Bool) → eqb (cond b 1 0) 2 ≡ false
    go true = refl
    go false = refl

flow-told : (a b : Bool) → (not a || not b) ≡ not (a && b)
flow-told true b = refl
flow-told false b = refl

module _ {h : SheetHeld} {tr fs ts ls xs ss os : List ℕ} (graph : Graph h tr fs ts ls xs ss os) (inbox : List ℕ) where
  abbrev s : Sheet
  s = sheet_said h tr fs ts ls xs

  abbrev st : State
  st = state_said h.links os inbox

  abbrev told_in : Link → Told
  told_in = back (held h.links fs ts ls xs) st

  module _ (i : ℕ) (low : i < h.head.nodes) where
    abbrev a : ℕ
    a = get_or ss i 0

    abbrev n : ℕ
    n = get_or ss (i + 1) 0 - get_or ss i 0

    word_in : (k : ℕ) → k < a + n → heard (told_in (held_at fs ts ls xs k)) ≡ not (is_silent inbox k)
    word_in k b = ap heard (back-held graph inbox k (omega (arith, graph.rows.rise i low, graph.rows.top (i + 1) (omega arith)))) ∙ heard-told (get_or inbox k 0)

    full_by : full (desk s st i) ≡ eqb (how_many (is_silent inbox) (row_numbers ss i)) 0
    full_by =
        ap (λ (ms : List Link). every hears (map (way_of told_in) ms)) (row_range_lem graph.rows low ts ls xs)
        ∙ none_left hears (way_of told_in) (held_at fs ts ls xs) (is_silent inbox) a n (λ k x y. word_in k y)

    ready_by : ready (desk s st i) ≡ eqb (how_many (is_silent_flow xs inbox) (row_numbers ss i)) 0
    ready_by =
        ap (λ (ms : List Link). every hears_flow (map (way_of told_in) ms)) (row_range_lem graph.rows low ts ls xs)
        ∙ none_left hears_flow (way_of told_in) (held_at fs ts ls xs) (is_silent_flow xs inbox) a n
        (λ k x y. ap (λ (b : Bool). not (ltb 0 (get_or xs k 0)) || b) (word_in k y) ∙ flow-told (ltb 0 (get_or xs k 0)) (is_silent inbox k))

    flow-fewer : how_many (is_silent_flow xs inbox) (row_numbers ss i) ≤ how_many (is_silent inbox) (row_numbers ss i)
    flow-fewer = total_le (λ k. bit (is_silent_flow xs inbox k)) (λ k. bit (is_silent inbox k)) (row_numbers ss i)
        (λ k m. bit_le (is_silent_flow xs inbox k) (is_silent inbox k) (λ e. (and_gives (ltb 0 (get_or xs k 0)) (is_silent inbox k) e).1))

    row-few : how_many (is_silent_flow xs inbox) (row_numbers ss i) < 1024
    row-few = omega (arith, count_le (is_silent_flow xs inbox) (row_numbers ss i), counted-length a n, links-few graph, graph.rows.top (i + 1) (omega arith))

    status-row : status (desk s st i) ≡ status_by (quiet_of ss xs inbox i)
    status-row =
        ap₂ (λ (x y : Bool). cond x 2 (cond y 1 0)) full_by ready_by
        ∙ status_two (how_many (is_silent inbox) (row_numbers ss i)) (how_many (is_silent_flow xs inbox) (row_numbers ss i)) flow-fewer row-few

  module _ (qs : List ℕ) (right : (i : ℕ) → i < h.head.nodes → get_or qs i 0 ≡ quiet_of ss xs inbox i) where
    pub status_by_lem : (i : ℕ) → i < h.head.nodes → status (desk s st i) ≡ status_by (get_or qs i 0)
    status_by_lem i low = status-row i low ∙ ap status_by (sym (right i low))

    -- so many have finished
    pub finished_by : finished s st ≡ how_many (λ i. eqb (status_by (get_or qs i 0)) 2) (below h.head.nodes)
    finished_by = total_eq (λ i. bit (is_finished s st i)) (λ i. bit (eqb (status_by (get_or qs i 0)) 2)) (below h.head.nodes)
        (λ i m. ap (λ (x : ℕ). bit (eqb x 2)) (status_by_lem i (in_below h.head.nodes m)))

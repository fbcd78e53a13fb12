-- What a node's desk answers, in the lists that its row is a part of.
use Prim.Native.Nat.{ℕ, zero, suc, ◌+◌, ◌-◌, ◌≤◌, ◌<◌}
use native.Mathlib.Omega.{arith}
use native.Mathlib.Decide.{ℕ_discrete}
use native.Mathlib.Numerals.{add-one}
use mathlib.Core.Path.{◌≡◌, refl, sym, ap, subst, ◌∙◌}
use mathlib.Core.List.{List, [], ◌∷◌, ◌++◌}
use lib.ListN.{length, get_or, take, length-map, get_or-append}
use lib.Seq.{ext_get_or, length-take-le, get_or-take, get_or-drop, get_or-append-add}
use borrow.Rule.Slice.PartMut.{post_of, put_mid, same_len_mid, drop_put}
use Rattle.rules.specs.Lists.{below}
use Rattle.rules.specs.Sheet.{largest_delay}
use Rattle.rules.specs.Desk.{message, new_row, new_fraction}
use Rattle.rules.proofs.Lists.{below_at, below_length}
use Rattle.desk.specs.declared.Message.{Message}
use Rattle.desk.specs.Ways.{message_said, ways_from, ways_of, desk_with, Row, Rises}
use Rattle.network.specs.Rows.{part}
use Rattle.network.proofs.Rows.{part_length, part-get_or}
use Rattle.node.specs.Net.{row_part, row_desk, RowAt, Tells, RowsRise, RowTaken, Lendable}

pub ways-length : (i : ℕ) (fs ls xs ks : List ℕ) → length (ways_from i fs ls xs ks) ≡ length fs
ways-length i [] ls xs ks = refl
ways-length i (f ∷ fs) ls xs ks = ap suc (ways-length (suc i) fs ls xs ks)

module _ {i : ℕ} {ss gs ps line xs inbox : List ℕ} (row : RowAt i ss gs ps line xs inbox) where
  same_wide : (ts : List ℕ) → get_or ss (i + 1) 0 ≤ length ts → length (row_part ss ts i) ≡ length (row_part ss xs i)
  same_wide ts h = part_length ts (get_or ss i 0) (get_or ss (i + 1) 0) h ∙ sym (part_length xs (get_or ss i 0) (get_or ss (i + 1) 0) row.in_fractions)

  -- a message that its desk worked out of the parts from a up to e
  pub tells : (r : Message) (s t : ℕ) {a e : ℕ} → a ≡ get_or ss i 0 → e ≡ get_or ss (i + 1) 0
      → ((fs : List ℕ) → length fs ≡ length (part xs a e) → message_said r ≡ message (desk_with s t (ways_of fs (part line a e) (part xs a e) (part inbox a e))))
      → r.delay.0 ≤ largest_delay
      → Tells r s t ss line xs inbox i
  tells r s t p q said small = let own = rw (p, q) at said in record { said = λ ts h. own (row_part ss ts i) (same_wide ts h); small = small }

  module _ (s t : ℕ) (ts : List ℕ) (far : RowsRise i ss ts) where
    abbrev a : ℕ
    a = get_or ss i 0

    abbrev e : ℕ
    e = get_or ss (i + 1) 0

    abbrev new : List ℕ
    new = new_row (row_desk s t ss ts line xs inbox i)

    new_length : length new ≡ e - a
    new_length =
        length-map (row_desk s t ss ts line xs inbox i).ways (new_fraction (row_desk s t ss ts line xs inbox i))
        ∙ ways-length 0 (row_part ss ts i) (row_part ss line i) (row_part ss xs i) (row_part ss inbox i)
        ∙ part_length ts a e far.inside

    put_row : (ys : List ℕ) → ys ≡ new → RowTaken ss i xs new (put_mid a (e - a) xs ys)
    put_row ys q =
        let wide : length ys ≡ e - a = ap length q ∙ new_length in
        let front : length (take a xs) ≡ a = length-take-le a xs (omega (arith, row.rise, row.in_fractions)) in
        record {
          long = same_len_mid a (e - a) xs ys (wide ∙ sym (part_length xs a e row.in_fractions));
          inside = λ p b.
              ap (λ (k : ℕ). get_or (put_mid a (e - a) xs ys) (k + p) 0) (sym front)
              ∙ get_or-append-add (take a xs) (ys ++ post_of a (e - a) xs) p 0
              ∙ get_or-append ys (post_of a (e - a) xs) 0 p (omega arith)
              ∙ ap (λ (l : List ℕ). get_or l p 0) q;
          before = λ k b. get_or-append (take a xs) (ys ++ post_of a (e - a) xs) 0 k (omega arith) ∙ get_or-take a xs k 0 b;
          behind = λ k b.
              let z : e + (k - e) ≡ k = omega arith in
              ap (λ (x : ℕ). get_or (put_mid a (e - a) xs ys) x 0) (sym z)
              ∙ sym (get_or-drop e (put_mid a (e - a) xs ys) (k - e) 0)
              ∙ ap (λ (l : List ℕ). get_or l (k - e) 0) (drop_put a e xs ys row.rise row.in_fractions wide)
              ∙ get_or-drop e xs (k - e) 0
              ∙ ap (λ (x : ℕ). get_or xs x 0) z;
        }

  -- a new row that its desk wrote in place of the old, where it stands from a up to e
  pub row_taken : (s t : ℕ) (ys : List ℕ) {a e : ℕ} → a ≡ get_or ss i 0 → e ≡ get_or ss (i + 1) 0
      → ((fs : List ℕ) → length fs ≡ length (part xs a e) → Rises fs → ys ≡ new_row (desk_with s t (ways_of fs (part line a e) (part xs a e) (part inbox a e))))
      → (ts : List ℕ) → RowsRise i ss ts
      → RowTaken ss i xs (new_row (row_desk s t ss ts line xs inbox i)) (put_mid a (e - a) xs ys)
  row_taken s t ys p q h ts far =
      let own = rw (p, q) at h in
      rw (p, q) (put_row s t ts far ys (own (row_part ss ts i) (same_wide ts far.inside) far.rises))

-- ---- row after row
-- there are far nodes that rise
some-far : (i : ℕ) (ss : List ℕ) → RowsRise i ss (below (get_or ss (i + 1) 0))
some-far i ss = record {
  inside = omega (arith, below_length e);
  rises = λ p q b c.
      let n : length (part (below e) a e) ≡ e - a = part_length (below e) a e (omega (arith, below_length e)) in
      omega (arith, at p (omega arith), at q (omega arith));
}
  where
    a : ℕ
    a = get_or ss i 0

    e : ℕ
    e = get_or ss (i + 1) 0

    at : (p : ℕ) → p < e - a → get_or (part (below e) a e) p 0 ≡ a + p
    at p b = part-get_or (below e) a e p b ∙ below_at e (a + p) 0 (omega arith)

-- two lists that agree from a on have the same parts from a on
part_same : (xs ys : List ℕ) (a e : ℕ) → length ys ≡ length xs → e ≤ length xs → ((p : ℕ) → a ≤ p → get_or ys p 0 ≡ get_or xs p 0) → part ys a e ≡ part xs a e
part_same xs ys a e z h g =
    let n : length (part ys a e) ≡ e - a = part_length ys a e (omega arith) in
    ext_get_or 0 (part ys a e) (part xs a e) (n ∙ sym (part_length xs a e h)) (λ p b.
    let l : p < e - a = omega arith in
    part-get_or ys a e p l ∙ g (a + p) (omega arith) ∙ sym (part-get_or xs a e p l))

-- a row ends before a later one begins
starts-rise : (n : ℕ) (ss : List ℕ) → ((j : ℕ) → j < n → get_or ss j 0 ≤ get_or ss (j + 1) 0) → (i m : ℕ) → m < n → i < m → get_or ss (i + 1) 0 ≤ get_or ss m 0
starts-rise n ss h i zero c d = absurd (omega arith)
starts-rise n ss h i (suc m) c d = go (ℕ_discrete i m) (starts-rise n ss h i m)
  where
    go : Dec (i ≡ m) → (m < n → i < m → get_or ss (i + 1) 0 ≤ get_or ss m 0) → get_or ss (i + 1) 0 ≤ get_or ss (suc m) 0
    go (yes e) r = omega (arith, ap (λ (x : ℕ). get_or ss (x + 1) 0) e, ap (λ (x : ℕ). get_or ss x 0) (add-one m))
    go (no ne) r = omega (arith, r (omega arith) (omega arith), h m (omega arith), ap (λ (x : ℕ). get_or ss x 0) (add-one m))

-- the first k rows are taken, the others as they were
pub record Taken (k s n : ℕ) (tr ss line xs inbox ys : List ℕ) : Type 0 where
  pub long : length ys ≡ length xs
  pub rest : (p : ℕ) → get_or ss k 0 ≤ p → get_or ys p 0 ≡ get_or xs p 0
  pub done : (ts : List ℕ) → ((i : ℕ) → i < n → RowsRise i ss ts) → (i p : ℕ) → i < k → p < get_or ss (i + 1) 0 - get_or ss i 0
      → get_or ys (get_or ss i 0 + p) 0 ≡ get_or (new_row (row_desk s (get_or tr i 0) ss ts line xs inbox i)) p 0

module _ {s n : ℕ} {tr ss gs ps line xs inbox : List ℕ} (lent : Lendable n ss gs ps line xs inbox) {k : ℕ} {ys : List ℕ}
    (t : Taken k s n tr ss line xs inbox ys) (b : k < n) where
  row_as_was : row_part ss ys k ≡ row_part ss xs k
  row_as_was = part_same xs ys (get_or ss k 0) (get_or ss (k + 1) 0) t.long (lent.rows k b).in_fractions t.rest

  -- row k can be lent still
  pub taken_row : RowAt k ss gs ps line ys inbox
  taken_row =
      let r = lent.rows k b in
      record {
        node = r.node;
        rise = r.rise;
        in_lines = r.in_lines;
        in_fractions = omega (arith, r.in_fractions, t.long);
        in_inbox = r.in_inbox;
        flow-rise = r.flow-rise;
        in_flow = r.in_flow;
        row = subst (λ (zs : List ℕ). Row (row_part ss line k) zs (row_part ss inbox k) (row_part gs ps k)) (sym row_as_was) r.row;
      }

  before : (i : ℕ) → i < k → get_or ss (i + 1) 0 ≤ get_or ss k 0
  before i h = starts-rise n ss (λ j c. (lent.rows j c).rise) i k b h

  pub taken_more : (zs : List ℕ)
      → ((ts : List ℕ) → RowsRise k ss ts → RowTaken ss k ys (new_row (row_desk s (get_or tr k 0) ss ts line ys inbox k)) zs)
      → Taken (k + 1) s n tr ss line xs inbox zs
  taken_more zs new =
      let some = new (below (get_or ss (k + 1) 0)) (some-far k ss) in
      record {
        long = some.long ∙ t.long;
        rest = λ p h. some.behind p h ∙ t.rest p (omega (arith, (lent.rows k b).rise));
        done = λ ts far i p c d. go ts far i p c d (ℕ_discrete i k);
      }
    where
      go : (ts : List ℕ) → ((i : ℕ) → i < n → RowsRise i ss ts) → (i p : ℕ) → i < k + 1 → p < get_or ss (i + 1) 0 - get_or ss i 0 → Dec (i ≡ k)
          → get_or zs (get_or ss i 0 + p) 0 ≡ get_or (new_row (row_desk s (get_or tr i 0) ss ts line xs inbox i)) p 0
      go ts far i p c d (no ne) =
          (new ts (far k b)).before (get_or ss i 0 + p) (omega (arith, before i (omega arith)))
          ∙ t.done ts far i p (omega arith) d
      go ts far i p c d (yes e) = subst
          (λ (j : ℕ). p < get_or ss (j + 1) 0 - get_or ss j 0 → get_or zs (get_or ss j 0 + p) 0 ≡ get_or (new_row (row_desk s (get_or tr j 0) ss ts line xs inbox j)) p 0)
          (sym e)
          (λ l. (new ts (far k b)).inside p l
          ∙ ap (λ (row : List ℕ). get_or (new_row (desk_with s (get_or tr k 0) (ways_of (row_part ss ts k) (row_part ss line k) row (row_part ss inbox k)))) p 0) row_as_was)
          d

-- Refusals 1 to 5, exactly when: the records before an offset are fine, and the one due there has that fault first.
use Prim.Native.Nat.{ℕ, zero, suc, ◌+◌, ◌-◌, ◌≤◌, ◌<◌}
use native.Mathlib.Omega.{arith}
use mathlib.Core.Path.{◌≡◌, refl, sym, ap, ap₂, ◌∙◌, subst}
use mathlib.Core.Logic.{◌⊎◌, inl, inr, ◌↔◌, ◌≢◌}
use mathlib.Core.Bool.{Bool, true, false, cond, not}
use mathlib.Core.List.{List, [], ◌∷◌}
use Rattle.std.specs.Prelude.{Option, None, Some}
use lib.ListN.{length, get_or}
use lib.Dec.{ltb, leb, eqb}
use borrow.Author.Tests.{leb-true, leb-false, le-leb, lt-leb, ltb-true, ltb-false, lt-ltb, le-ltb, eqb-true, eqb-false, eq-eqb, ne_eqb}
use Rattle.rules.specs.Lists.{Place, nowhere, at, below, first}
use Rattle.rules.specs.Sheet.{Link, Sheet}
use Rattle.rules.specs.Loop.{on_loop}
use Rattle.rules.specs.Judge.{refused, accepted, refused_at, paired, adds, judge}
use Rattle.rules.specs.Check.{word_at, Read, wrong, read, then, pushed, record_at, Head, head_right, head_fields, head_at, node_at, nodes_from, in_range, link_fields, Item, the_end, link, item_at, follows, links_from, sheet_with, sheet_at, alone, judged, check}
use Rattle.rules.proofs.Tests.{known}
use Rattle.rules.proofs.Verdicts.{never}
use Rattle.rules.proofs.Records.{unread, read_as, pushed_gives}
use Rattle.rules.proofs.Steps.{nodes-done, nodes_stop, nodes_on, links_stop, links_end, links-full, links-low, links_on}

-- ---- one record
-- the fault of a record of a kind at offset o, whose fields are right or not
pub data Fault (b : List ℕ) (o kind body : ℕ) (right : Bool) : ℕ → Type 0 where
  no_kind : length b ≤ o → Fault b o kind body right 1
  other_kind : o < length b → get_or b o 0 ≢ kind → Fault b o kind body right 2
  cut_short : o < length b → get_or b o 0 ≡ kind → length b < o + 1 + body → Fault b o kind body right 1
  bad_fields : get_or b o 0 ≡ kind → o + 1 + body ≤ length b → right ≡ false → Fault b o kind body right 3

-- wrong alike, and so the same number and place
wrong_as : {A : Type 0} (P : ℕ → ℕ → Type 0) {m n p q : ℕ} → ◌≡◌ {A = Read A} (wrong m p) (wrong n q) → P m p → P n q
wrong_as P {m} {n} {p} {q} e h =
    let s : m ≡ n = cc in
    let t : p ≡ q = cc in
    rw (← s, ← t) h

module _ {A : Type 0} (b : List ℕ) (o kind body : ℕ) (right : Bool) (x : A) (e : ℕ) where
  abbrev here : Read A
  here = record_at b o kind body (cond right (read x e) (wrong 3 o))

  pub fault_iff : (m p : ℕ) → (here ≡ wrong m p) ↔ ((p ≡ o) × Fault b o kind body right m)
  fault_iff m p = (gives (leb (length b) o) (eqb (get_or b o 0) kind) (ltb (length b) (o + 1 + body)) right refl refl refl refl, λ h. rw h.0 (holds h.1))
    where
      gives : (s t u v : Bool) → leb (length b) o ≡ s → eqb (get_or b o 0) kind ≡ t → ltb (length b) (o + 1 + body) ≡ u → right ≡ v
          → cond s (wrong 1 o) (cond (not t) (wrong 2 o) (cond u (wrong 1 o) (cond v (read x e) (wrong 3 o)))) ≡ wrong m p → (p ≡ o) × Fault b o kind body right m
      gives true t u v f g h k q = wrong_as (λ (n r : ℕ). (r ≡ o) × Fault b o kind body right n) q (refl, no_kind (leb-true (length b) o f))
      gives false false u v f g h k q =
          wrong_as (λ (n r : ℕ). (r ≡ o) × Fault b o kind body right n) q (refl, other_kind (leb-false (length b) o f) (eqb-false (get_or b o 0) kind g))
      gives false true true v f g h k q =
          wrong_as (λ (n r : ℕ). (r ≡ o) × Fault b o kind body right n) q
          (refl, cut_short (leb-false (length b) o f) (eqb-true (get_or b o 0) kind g) (ltb-true (length b) (o + 1 + body) h))
      gives false true false true f g h k q = unread (sym q)
      gives false true false false f g h k q =
          wrong_as (λ (n r : ℕ). (r ≡ o) × Fault b o kind body right n) q
          (refl, bad_fields (eqb-true (get_or b o 0) kind g) (ltb-false (length b) (o + 1 + body) h) k)

      holds : {n : ℕ} → Fault b o kind body right n → here ≡ wrong n o
      holds (no_kind f) = rw (le-leb (length b) o f)
      holds (other_kind f g) = rw (lt-leb (length b) o f, ne_eqb (get_or b o 0) kind g)
      holds (cut_short f g h) = rw (lt-leb (length b) o f, eq-eqb (get_or b o 0) kind g, lt-ltb (length b) (o + 1 + body) h)
      holds (bad_fields g h k) =
          let f : o < length b = omega arith in
          rw (lt-leb (length b) o f, eq-eqb (get_or b o 0) kind g, le-ltb (length b) (o + 1 + body) h, k)

-- where a link is due, it has another kind than the end record's
pub item_fault_iff : (b : List ℕ) (o n m p : ℕ)
    → (item_at b o n ≡ wrong m p) ↔ ((get_or b o 0 ≢ 9) × (p ≡ o) × Fault b o 3 7 (in_range n (link_fields b o)) m)
item_fault_iff b o n m p = (
  gives (eqb (get_or b o 0) 9) refl,
  λ h. rw (ne_eqb (get_or b o 0) 9 h.0) ((fault_iff b o 3 7 (in_range n (link_fields b o)) (link (link_fields b o)) (o + 8) m p).1 (h.1, h.2)),
)
  where
    l : Link
    l = link_fields b o

    gives : (t : Bool) → eqb (get_or b o 0) 9 ≡ t → cond t (read the_end (o + 1)) (record_at b o 3 7 (cond (in_range n l) (read (link l) (o + 8)) (wrong 3 o))) ≡ wrong m p
        → (get_or b o 0 ≢ 9) × (p ≡ o) × Fault b o 3 7 (in_range n l) m
    gives true f q = unread (sym q)
    gives false f q = let r = (fault_iff b o 3 7 (in_range n l) (link l) (o + 8) m p).0 q in (eqb-false (get_or b o 0) 9 f, r.0, r.1)

pushed-stops : {A : Type 0} (x : A) (r : Read (List A)) {m p : ℕ} → pushed x r ≡ wrong m p → r ≡ wrong m p
pushed-stops x (wrong n q) e = e
pushed-stops x (read xs f) e = unread (sym e)

-- ---- the record that is due, those before it being fine
module _ (b : List ℕ) (start : ℕ) where
  -- node i of n, at offset o
  pub data NodeDue : ℕ → ℕ → ℕ → Type 0 where
    first-node : {h : Head} {e : ℕ} → head_at b start ≡ read h e → NodeDue h.nodes 0 e
    next-node : {n i o t e : ℕ} → NodeDue n i o → i < n → node_at b o i ≡ read t e → NodeDue n (suc i) e

  -- a link or the end record after j links, at offset o; n nodes, and the link before
  pub data ItemDue : ℕ → ℕ → Option Link → ℕ → Type 0 where
    first_item : {n o : ℕ} → NodeDue n n o → ItemDue n 0 None o
    next_item : {n j o e : ℕ} {before : Option Link} {l : Link} → ItemDue n j before o → j < 512 → item_at b o n ≡ read (link l) e → follows before l ≡ true
        → ItemDue n (suc j) (Some l) e

  -- a refusal's number and place
  pub data Refused : ℕ → ℕ → Type 0 where
    at_head : {m p : ℕ} → head_at b start ≡ wrong m p → Refused m p
    at-node : {n i o m p : ℕ} → NodeDue n i o → i < n → node_at b o i ≡ wrong m p → Refused m p
    at_item : {n j o m p : ℕ} {before : Option Link} → ItemDue n j before o → item_at b o n ≡ wrong m p → Refused m p
    not_rising : {n j o e : ℕ} {before : Option Link} {l : Link} → ItemDue n j before o → item_at b o n ≡ read (link l) e → follows before l ≡ false → Refused 4 o
    too_many : {n o e : ℕ} {before : Option Link} {l : Link} → ItemDue n 512 before o → item_at b o n ≡ read (link l) e → Refused 4 o

  -- ---- what is refused has such a record
  nodes_fail : (k n i o : ℕ) {m p : ℕ} → NodeDue n i o → i + k ≡ n → nodes_from k b o i ≡ wrong m p → Refused m p
  nodes_fail zero n i o d z q = unread (sym q ∙ nodes-done b o i)
  nodes_fail (suc k) n i o {m} {p} d z q = go (node_at b o i) refl (λ e f w. nodes_fail k n (suc i) e f (omega arith) w)
    where
      go : (r : Read ℕ) → node_at b o i ≡ r → ((e : ℕ) → NodeDue n (suc i) e → nodes_from k b e (suc i) ≡ wrong m p → Refused m p) → Refused m p
      go (wrong a c) f ih = wrong_as {A = List ℕ} Refused (sym (nodes_stop b o i k f) ∙ q) (at-node d (omega arith) f)
      go (read t e) f ih = ih e (next-node d (omega arith) f) (pushed-stops t (nodes_from k b e (suc i)) (sym (nodes_on b o i k f) ∙ q))

  -- and behind the nodes the first link is due
  nodes_past : (k n i o : ℕ) {ts : List ℕ} {f : ℕ} → NodeDue n i o → i + k ≡ n → nodes_from k b o i ≡ read ts f → NodeDue n n f
  nodes_past zero n i o {ts} {f} d z q =
      let e : i ≡ n = omega arith in
      read_as (λ (x : List ℕ) (g : ℕ). NodeDue n n g) (sym (nodes-done b o i) ∙ q) (subst (λ (j : ℕ). NodeDue n j o) e d)
  nodes_past (suc k) n i o {ts} {f} d z q = go (node_at b o i) refl (λ us e c w. nodes_past k n (suc i) e {ts = us} c (omega arith) w)
    where
      go : (r : Read ℕ) → node_at b o i ≡ r → ((us : List ℕ) (e : ℕ) → NodeDue n (suc i) e → nodes_from k b e (suc i) ≡ read us f → NodeDue n n f) → NodeDue n n f
      go (wrong a c) r ih = unread (sym (nodes_stop b o i k r) ∙ q)
      go (read t e) r ih =
          let w = pushed_gives t (nodes_from k b e (suc i)) (sym (nodes_on b o i k r) ∙ q) in
          ih w.0 e (next-node d (omega arith) r) w.1

  links_fail : (k n j o : ℕ) (before : Option Link) {m p : ℕ} → ItemDue n j before o → j + k ≡ 512 → links_from k b o n before ≡ wrong m p → Refused m p
  links_fail zero n j o before {m} {p} d z q = go (item_at b o n) refl
    where
      go : (r : Read Item) → item_at b o n ≡ r → Refused m p
      go (wrong a c) f = wrong_as {A = List Link} Refused (sym (links_stop b o n before zero f) ∙ q) (at_item d f)
      go (read the_end e) f = unread (sym q ∙ links_end b o n before zero f)
      go (read (link l) e) f =
          let full : j ≡ 512 = omega arith in
          wrong_as {A = List Link} Refused (sym (links-full b o n before f) ∙ q) (too_many (subst (λ (i : ℕ). ItemDue n i before o) full d) f)
  links_fail (suc k) n j o before {m} {p} d z q = go (item_at b o n) refl (λ l e f w. links_fail k n (suc j) e (Some l) f (omega arith) w)
    where
      go : (r : Read Item) → item_at b o n ≡ r → ((l : Link) (e : ℕ) → ItemDue n (suc j) (Some l) e → links_from k b e n (Some l) ≡ wrong m p → Refused m p) → Refused m p
      go (wrong a c) f ih = wrong_as {A = List Link} Refused (sym (links_stop b o n before (suc k) f) ∙ q) (at_item d f)
      go (read the_end e) f ih = unread (sym q ∙ links_end b o n before (suc k) f)
      go (read (link l) e) f ih = by_order (known (follows before l))
        where
          by_order : (follows before l ≡ true) ⊎ (follows before l ≡ false) → Refused m p
          by_order (inl up) =
              ih l e (next_item d (omega arith) f up) (pushed-stops l (links_from k b e n (Some l)) (sym (links_on b o n before f k up) ∙ q))
          by_order (inr low) = wrong_as {A = List Link} Refused (sym (links-low b o n before f (suc k) low) ∙ q) (not_rising d f low)

  sheet_fail : {m p : ℕ} → sheet_at b start ≡ wrong m p → Refused m p
  sheet_fail {m} {p} q = by_head (head_at b start) refl q
    where
      by_links : (h : Head) (ts : List ℕ) (f : ℕ) → NodeDue h.nodes h.nodes f → (r : Read (List Link)) → links_from 512 b f h.nodes None ≡ r
          → then r (λ ls g. read (sheet_with h ts ls) g) ≡ wrong m p → Refused m p
      by_links h ts f d (wrong a c) r w = wrong_as {A = Sheet} Refused w (links_fail 512 h.nodes 0 f None (first_item d) refl r)
      by_links h ts f d (read ls g) r w = unread (sym w)

      by_nodes : (h : Head) (e : ℕ) → head_at b start ≡ read h e → (r : Read (List ℕ)) → nodes_from h.nodes b e 0 ≡ r
          → then r (λ ts f. then (links_from 512 b f h.nodes None) (λ ls g. read (sheet_with h ts ls) g)) ≡ wrong m p → Refused m p
      by_nodes h e c (wrong a d) r w = wrong_as {A = Sheet} Refused w (nodes_fail h.nodes h.nodes 0 e (first-node c) (omega arith) r)
      by_nodes h e c (read ts f) r w =
          by_links h ts f (nodes_past h.nodes h.nodes 0 e (first-node c) (omega arith) r) (links_from 512 b f h.nodes None) refl w

      by_head : (r : Read Head) → head_at b start ≡ r
          → then r (λ h e. then (nodes_from h.nodes b e 0) (λ ts f. then (links_from 512 b f h.nodes None) (λ ls g. read (sheet_with h ts ls) g))) ≡ wrong m p → Refused m p
      by_head (wrong a c) r w = wrong_as {A = Sheet} Refused w (at_head r)
      by_head (read h e) r w = by_nodes h e r (nodes_from h.nodes b e 0) refl w

  -- ---- and such a record is refused
  fail_node : {n i o : ℕ} → NodeDue n i o → (k : ℕ) {m p : ℕ} → i + k ≡ n → nodes_from k b o i ≡ wrong m p → sheet_at b start ≡ wrong m p
  fail_node (first-node {h} {e} q) k {m} {p} z w =
      let all : k ≡ h.nodes = omega arith in
      let r : nodes_from h.nodes b e 0 ≡ wrong m p = subst (λ (j : ℕ). nodes_from j b e 0 ≡ wrong m p) all w in
      rw (q, r)
  fail_node (next-node {n} {i} {o} {t} {e} d l q) k {m} {p} z w =
      fail_node d (suc k) (omega arith) (nodes_on b o i k q ∙ ap (pushed t) w)

  -- the head and all nodes that are read behind it
  record Behind (n f : ℕ) : Type 0 where
    head : Head
    after : ℕ
    traffic : List ℕ
    head_is : head_at b start ≡ read head after
    many : head.nodes ≡ n
    nodes_are : nodes_from n b after 0 ≡ read traffic f

  behind : {n i o : ℕ} → NodeDue n i o → (k : ℕ) (us : List ℕ) (f : ℕ) → i + k ≡ n → nodes_from k b o i ≡ read us f → Behind n f
  behind (first-node {h} {e} q) k us f z w =
      let all : k ≡ h.nodes = omega arith in
      record {
        head = h;
        after = e;
        traffic = us;
        head_is = q;
        many = refl;
        nodes_are = subst (λ (j : ℕ). nodes_from j b e 0 ≡ read us f) all w;
      }
  behind (next-node {n} {i} {o} {t} {e} d l q) k us f z w = behind d (suc k) (t ∷ us) f (omega arith) (nodes_on b o i k q ∙ ap (pushed t) w)

  fail_item : {n j o : ℕ} {before : Option Link} → ItemDue n j before o → (k : ℕ) {m p : ℕ} → j + k ≡ 512 → links_from k b o n before ≡ wrong m p → sheet_at b start ≡ wrong m p
  fail_item (first_item {n} {o} d) k {m} {p} z w =
      let r = behind d 0 [] o (omega arith) (nodes-done b o n) in
      let all : k ≡ 512 = omega arith in
      let ns : nodes_from r.head.nodes b r.after 0 ≡ read r.traffic o = rw r.many r.nodes_are in
      let ls : links_from 512 b o r.head.nodes None ≡ wrong m p = rw (r.many, ← all) w in
      rw (r.head_is, ns, ls)
  fail_item (next_item {n} {j} {o} {e} {before} {l} d few q up) k z w =
      fail_item d (suc k) (omega arith) (links_on b o n before q k up ∙ ap (pushed l) w)

  few_items : {n j o : ℕ} {before : Option Link} → ItemDue n j before o → j ≤ 512
  few_items (first_item d) = omega arith
  few_items (next_item d few q up) = omega (arith, few)

  fails : {m p : ℕ} → Refused m p → sheet_at b start ≡ wrong m p
  fails (at_head q) = rw q
  fails (at-node {n} {i} {o} d l q) = fail_node d (suc (n - suc i)) (omega arith) (nodes_stop b o i (n - suc i) q)
  fails (at_item {n} {j} {o} {m} {p} {before} d q) = fail_item d (512 - j) (omega (arith, few_items d)) (links_stop b o n before (512 - j) q)
  fails (not_rising {n} {j} {o} {e} {before} d q low) = fail_item d (512 - j) (omega (arith, few_items d)) (links-low b o n before q (512 - j) low)
  fails (too_many {n} {o} {e} {before} d q) = fail_item d 0 (omega arith) (links-full b o n before q)

  -- a sheet at any offset
  pub sheet_refused_iff : (m p : ℕ) → (sheet_at b start ≡ wrong m p) ↔ Refused m p
  sheet_refused_iff m p = (sheet_fail, fails)

  fault_number : {o kind body m : ℕ} {right : Bool} → Fault b o kind body right m → (1 ≤ m) × (m ≤ 4)
  fault_number (no_kind f) = (omega arith, omega arith)
  fault_number (other_kind f g) = (omega arith, omega arith)
  fault_number (cut_short f g h) = (omega arith, omega arith)
  fault_number (bad_fields f g h) = (omega arith, omega arith)

  refused-number : {m p : ℕ} → Refused m p → (1 ≤ m) × (m ≤ 4)
  refused-number {m} {p} (at_head q) =
      fault_number ((fault_iff b start 1 6 (head_right (head_fields b start)) (head_fields b start) (start + 7) m p).0 q).1
  refused-number (at-node {n} {i} {o} {m} {p} d l q) =
      fault_number ((fault_iff b o 2 5 (eqb (get_or b (o + 1) 0) i) (word_at b (o + 2)) (o + 6) m p).0 q).1
  refused-number (at_item {n} {j} {o} {m} {p} d q) = fault_number ((item_fault_iff b o n m p).0 q).2
  refused-number (not_rising d q low) = (omega arith, omega arith)
  refused-number (too_many d q) = (omega arith, omega arith)

-- ---- Check
same-refusal : {m n p q : ℕ} → refused m p ≡ refused n q → (m ≡ n) × (p ≡ q)
same-refusal e = (cc, cc)

judge-number : (s : Sheet) {m p : ℕ} → judge s ≡ refused m p → (6 ≤ m) × (m ≤ 8)
judge-number s {m} {p} q = go (first (λ l. not (paired s.links l)) s.links) (first (λ i. not (adds s i)) (below s.nodes)) (first (on_loop s) (below s.nodes)) q
  where
    go : (x y z : Place) → refused_at 6 x (refused_at 7 y (refused_at 8 z (accepted s))) ≡ refused m p → (6 ≤ m) × (m ≤ 8)
    go (at k) y z e = let q = (same-refusal e).0 in (omega arith, omega arith)
    go nowhere (at k) z e = let q = (same-refusal e).0 in (omega arith, omega arith)
    go nowhere nowhere (at k) e = let q = (same-refusal e).0 in (omega arith, omega arith)
    go nowhere nowhere nowhere e = never (sym e)

module _ (b : List ℕ) where
  -- by what is read, and whether more stands behind it
  by_read : {G : Type 0} {m p : ℕ} → check b ≡ refused m p
      → (sheet_at b 0 ≡ wrong m p → G) → ((s : Sheet) → sheet_at b 0 ≡ read s p → p < length b → m ≡ 5 → G)
      → ((s : Sheet) (e : ℕ) → sheet_at b 0 ≡ read s e → length b ≤ e → judge s ≡ refused m p → G) → G
  by_read {G} {m} {p} q in-records after whole = go (sheet_at b 0) refl q
    where
      go : (r : Read Sheet) → sheet_at b 0 ≡ r → judged (then r (alone b)) ≡ refused m p → G
      go (wrong n o) e w = let z = same-refusal w in in-records (e ∙ ap₂ wrong z.0 z.1)
      go (read s f) e w = more (ltb f (length b)) refl w
        where
          more : (t : Bool) → ltb f (length b) ≡ t → judged (cond t (wrong 5 f) (read s f)) ≡ refused m p → G
          more true h v =
              let z = same-refusal v in
              after s (e ∙ ap (read s) z.1) (omega (arith, z.1, ltb-true f (length b) h)) (sym z.0)
          more false h v = whole s f e (ltb-false f (length b) h) v

  -- 1 to 4
  pub refused_records_iff : (m p : ℕ) → m ≤ 4 → (check b ≡ refused m p) ↔ Refused b 0 m p
  refused_records_iff m p h = (
    λ q. by_read q (λ e. (sheet_refused_iff b 0 m p).0 e) (λ s e l z. absurd (omega arith)) (λ s e f l v. absurd (omega (arith, judge-number s v))),
    λ r. rw ((sheet_refused_iff b 0 m p).1 r),
  )

  -- 5
  pub refused_5_iff : (p : ℕ) → (check b ≡ refused 5 p) ↔ ((s : Sheet) × (sheet_at b 0 ≡ read s p) × (p < length b))
  refused_5_iff p = (
    λ q.
        by_read q (λ e. absurd (omega (arith, refused-number b 0 ((sheet_refused_iff b 0 5 p).0 e)))) (λ s e l z. (s, e, l))
        (λ s e f l v. absurd (omega (arith, judge-number s v))),
    λ h. rw (h.1, lt-ltb p (length b) h.2),
  )

  -- 6 to 8: the records are fine up to the end record, nothing stands after it, and the sheet as a whole is refused
  pub refused-whole_iff : (m p : ℕ) → 6 ≤ m → (check b ≡ refused m p) ↔ ((s : Sheet) × (e : ℕ) × (sheet_at b 0 ≡ read s e) × (length b ≤ e) × (judge s ≡ refused m p))
  refused-whole_iff m p h = (
    λ q.
        by_read q (λ e. absurd (omega (arith, refused-number b 0 ((sheet_refused_iff b 0 m p).0 e)))) (λ s e l z. absurd (omega arith))
        (λ s e f l v. (s, e, f, l, v)),
    λ r. rw (r.2, le-ltb r.1 (length b) r.3) r.4,
  )

  -- no other number
  pub check-number : (m p : ℕ) → check b ≡ refused m p → (1 ≤ m) × (m ≤ 8)
  check-number m p q =
      by_read q (λ e. let z = refused-number b 0 ((sheet_refused_iff b 0 m p).0 e) in (omega arith, omega arith)) (λ s e l z. (omega arith, omega arith))
      (λ s e f l v. let z = judge-number s v in (omega arith, omega arith))

-- Where Check refuses: at 4,488 at most, however long the row of bytes is. Seven bytes of head, at most 64 node records of six
-- and 512 link records of eight, and the end record are all that is read.
use Prim.Native.Nat.{ℕ, zero, suc, ◌+◌, ◌*◌, ◌≤◌}
use native.Mathlib.Omega.{arith}
use mathlib.Core.Path.{◌≡◌, refl}
use mathlib.Core.Bool.{Bool, true, false, cond, not}
use mathlib.Core.List.{List, [], ◌∷◌}
use Rattle.std.specs.Prelude.{Option, None, Some}
use lib.ListN.{length, get_or}
use lib.Dec.{ltb, leb, eqb}
use borrow.Author.Tests.{ltb-false}
use Rattle.rules.specs.Lists.{below, Place, nowhere, at, first}
use Rattle.rules.specs.Sheet.{Link, Sheet}
use Rattle.rules.specs.Loop.{on_loop}
use Rattle.rules.specs.Judge.{Verdict, refused, accepted, refused_at, judge}
use Rattle.rules.specs.Check.{Read, wrong, read, then, pushed, record_at, Head, head_right, head_fields, head_at, node_at, nodes_from, in_range, link_fields, Item, the_end, link, item_at, by_item, follows, links_from, sheet_at, sheet_alone, judged, check}
use Rattle.rules.specs.Messages.{no_link}
use Rattle.rules.proofs.First.{first_iff, lowest-below}
use Rattle.rules.proofs.Verdicts.{unpaired, unsummed}
use Rattle.rules.proofs.Records.{head_gives}

-- what holds in both cases of a test
pub either : {A : Type 0} (P : A → Type 0) (c : Bool) {x y : A} → (c ≡ true → P x) → (c ≡ false → P y) → P (cond c x y)
either P true g h = g refl
either P false g h = h refl

-- ---- what is read: a fault's place is low, or P holds of what stands there and the offset behind it
data Reads {A : Type 0} (P : A → ℕ → Type 0) : Read A → Type 0 where
  fault : {n p : ℕ} → p ≤ 4488 → Reads P (wrong n p)
  stands : {x : A} {e : ℕ} → P x e → Reads P (read x e)

then_reads : {A B : Type 0} {P : A → ℕ → Type 0} {Q : B → ℕ → Type 0} {r : Read A} {go : A → ℕ → Read B}
    → Reads P r → ((x : A) (e : ℕ) → P x e → Reads Q (go x e)) → Reads Q (then r go)
then_reads (fault h) f = fault h
then_reads (stands {x} {e} h) f = f x e h

pushed_reads : {A : Type 0} {P Q : List A → ℕ → Type 0} {r : Read (List A)} (x : A) → Reads P r → ((xs : List A) (e : ℕ) → P xs e → Q (x ∷ xs) e)
    → Reads Q (pushed x r)
pushed_reads x (fault h) f = fault h
pushed_reads x (stands {x = xs} {e} h) f = stands (f xs e h)

module _ (b : List ℕ) where
  record_reads : {A : Type 0} {P : A → ℕ → Type 0} {fields : Read A} (o kind body : ℕ) → o ≤ 4488 → Reads P fields → Reads P (record_at b o kind body fields)
  record_reads {P = P} o kind body h w =
      either (Reads P) (leb (length b) o) (λ e. fault h) (λ e.
      either (Reads P) (not (eqb (get_or b o 0) kind)) (λ e. fault h) (λ e.
      either (Reads P) (ltb (length b) (o + 1 + body)) (λ e. fault h) (λ e. w)))

  abbrev HeadRead : Head → ℕ → Type 0
  HeadRead h e = (h.nodes ≤ 64) × (e ≡ 7)

  head_reads : Reads HeadRead (head_at b 0)
  head_reads =
      record_reads 0 1 6 (omega arith)
      (either (Reads HeadRead) (head_right (head_fields b 0)) (λ e. stands ((head_gives (head_fields b 0) e).1, refl)) (λ e. fault (omega arith)))

  node_reads : (o i : ℕ) → o ≤ 4488 → Reads (λ t e. e ≡ o + 6) (node_at b o i)
  node_reads o i h =
      record_reads o 2 5 h (either (Reads (λ t e. e ≡ o + 6)) (eqb (get_or b (o + 1) 0) i) (λ e. stands refl) (λ e. fault h))

  abbrev NodesRead : ℕ → ℕ → List ℕ → ℕ → Type 0
  NodesRead k o ts e = (length ts ≡ k) × (e ≡ o + 6 * k)

  nodes_reads : (k o i : ℕ) → o + 6 * k ≤ 4488 → Reads (NodesRead k o) (nodes_from k b o i)
  unfolding nodes_from
  nodes_reads zero o i h = stands {x = []} {e = o} (refl, omega arith)
  nodes_reads (suc k) o i h = then_reads (node_reads o i (omega arith)) (λ t e p.
      pushed_reads t (nodes_reads k e (suc i) (omega arith)) (λ ts f q. (omega arith, omega arith)))

  abbrev ItemRead : ℕ → Item → ℕ → Type 0
  ItemRead o the_end e = e ≡ o + 1
  ItemRead o (link l) e = e ≡ o + 8

  item_reads : (o n : ℕ) → o ≤ 4488 → Reads (ItemRead o) (item_at b o n)
  item_reads o n h =
      either (Reads (ItemRead o)) (eqb (get_or b o 0) 9) (λ e. stands refl) (λ e.
      record_reads o 3 7 h (either (Reads (ItemRead o)) (in_range n (link_fields b o)) (λ e. stands refl) (λ e. fault h)))

  abbrev LinksRead : ℕ → ℕ → List Link → ℕ → Type 0
  LinksRead k o ls e = (length ls ≤ k) × (e ≤ o + 8 * k + 1)

  links_reads : (k o n : ℕ) (before : Option Link) → o + 8 * k ≤ 4488 → Reads (LinksRead k o) (links_from k b o n before)
  unfolding links_from
  links_reads zero o n before h = then_reads (item_reads o n (omega arith)) go
    where
      go : (x : Item) (e : ℕ) → ItemRead o x e → Reads (LinksRead zero o) (by_item (λ l e. wrong 4 o) x e)
      go the_end e p = stands {x = []} {e = e} (omega arith, omega arith)
      go (link l) e p = fault {p = o} (omega arith)
  links_reads (suc k) o n before h = then_reads (item_reads o n (omega arith)) (go (links_reads k))
    where
      go : ((o n : ℕ) (before : Option Link) → o + 8 * k ≤ 4488 → Reads (LinksRead k o) (links_from k b o n before)) → (x : Item) (e : ℕ) → ItemRead o x e
          → Reads (LinksRead (suc k) o) (by_item (λ l e. cond (follows before l) (pushed l (links_from k b e n (Some l))) (wrong 4 o)) x e)
      go ih the_end e p = stands {x = []} {e = e} (omega arith, omega arith)
      go ih (link l) e p =
          either (Reads (LinksRead (suc k) o)) (follows before l)
          (λ u. pushed_reads l (ih e n (Some l) (omega arith)) (λ ls f q. (omega arith, omega arith))) (λ u. fault {p = o} (omega arith))

  -- ---- the whole row: what an accepted sheet has, and its bytes
  pub record Sized (s : Sheet) : Type 0 where
    pub few : s.nodes ≤ 64
    pub figures : length s.traffic ≤ 64
    pub many : length s.links ≤ 512
    pub row : length b ≤ 4488

  sheet_reads : Reads (λ s e. (length b ≤ e → Sized s) × (e ≤ 4488)) (sheet_at b 0)
  sheet_reads =
      then_reads head_reads (λ h e p.
      then_reads (nodes_reads h.nodes e 0 (omega arith)) (λ ts f q.
      then_reads (links_reads 512 f h.nodes None (omega arith)) (λ ls g r.
      stands (λ l. record { few = omega arith; figures = omega arith; many = omega arith; row = omega arith }, omega arith))))

  alone_reads : Reads (λ s e. Sized s) (sheet_alone b)
  alone_reads = then_reads sheet_reads (λ s e p.
      either (Reads (λ s e. Sized s)) (ltb e (length b)) (λ t. fault p.1) (λ t. stands (p.0 (ltb-false e (length b) t))))

  -- ---- Check: 6 stands at a link, 7 and 8 at a node
  abbrev pub Low : Verdict → Type 0
  Low (refused n p) = p ≤ 4488
  Low (accepted s) = Sized s

  refused-low : (n : ℕ) (q : Place) (v : Verdict) → ((k : ℕ) → q ≡ at k → k ≤ 4488) → Low v → Low (refused_at n q v)
  refused-low n nowhere v h w = w
  refused-low n (at k) v h w = h k refl

  judge-low : (s : Sheet) → Sized s → Low (judge s)
  judge-low s z =
      refused-low 6 (first (unpaired s) s.links) sums (λ k e. omega (arith, ((first_iff (unpaired s) no_link s.links (at k)).0 e).inside))
      (refused-low 7 (first (unsummed s) (below s.nodes)) loops (λ k e. omega (arith, ((lowest-below (unsummed s) s.nodes k).0 e).inside))
      (refused-low 8 (first (on_loop s) (below s.nodes)) (accepted s) (λ k e. omega (arith, ((lowest-below (on_loop s) s.nodes k).0 e).inside)) z))
    where
      loops : Verdict
      loops = refused_at 8 (first (on_loop s) (below s.nodes)) (accepted s)

      sums : Verdict
      sums = refused_at 7 (first (unsummed s) (below s.nodes)) loops

  judged-low : {r : Read Sheet} → Reads (λ s e. Sized s) r → Low (judged r)
  judged-low (fault h) = h
  judged-low (stands {x = s} z) = judge-low s z

  pub check-low : Low (check b)
  check-low = judged-low alone_reads

-- Check accepts exactly the bytes of sound sheets: each content has one sheet.
use Prim.Native.Nat.{ℕ, zero, suc, ◌+◌, ◌*◌, ◌≤◌, ◌<◌}
use native.Mathlib.Omega.{arith}
use mathlib.Core.Path.{◌≡◌, refl, sym, ap, ◌∙◌, subst}
use mathlib.Core.Logic.{◌⊎◌, inl, inr}
use mathlib.Core.Bool.{Bool, true, false, cond}
use mathlib.Core.List.Memᴰ.{head as here}
use mathlib.Core.List.Memᴰ.{tail as there}
use mathlib.Core.List.{List, [], ◌∷◌, ◌++◌, append_assoc, append-nil, Memᴰ as In}
use Rattle.std.specs.Prelude.{Option, None, Some}
use lib.ListN.{length, drop, length-append, drop_of_length-le}
use lib.Dec.{ltb}
use borrow.Author.Tests.{ltb-true, ltb-false, le-ltb}
use Rattle.rules.specs.Lists.{every}
use Rattle.rules.specs.Sheet.{Link, Sheet}
use Rattle.rules.specs.Bytes.{AreBytes, four, head_record, node_record, link_record, node_records, link_records, bytes}
use Rattle.rules.specs.Judge.{accepted}
use Rattle.rules.specs.Check.{Read, wrong, read, then, pushed, Head, head_right, head_at, node_at, nodes_from, Item, the_end, link, item_at, follows, links_from, sheet_with, sheet_at, alone, judged, check}
use Rattle.rules.proofs.Tests.{known, and_gives}
use Rattle.rules.proofs.Lists.{each}
use Rattle.rules.proofs.Reach.{Ends}
use Rattle.rules.proofs.Rank.{Free, free_iff}
use Rattle.rules.proofs.Order.{Chain, chain_rising, rising_chain}
use Rattle.rules.proofs.Sound.{Fits, Sound, ends_of}
use Rattle.rules.proofs.Verdicts.{never, Paired, Adds, accepted_iff}
use Rattle.rules.proofs.Records.{unread, read_as, pushed_gives, then_gives, head_gives, head_holds, LinkRead, EndRead, head_read, node-read, item_read, moved, head_held, node-held, link-held, end_held}
use Rattle.rules.proofs.Steps.{nodes-done, nodes_stop, nodes_on, links_stop, links_end, links-full, links-low, links_on}

-- ---- what is read stands there
pub record NodesRead (b : List ℕ) (k o i : ℕ) (ts : List ℕ) (e : ℕ) : Type 0 where
  pub behind : e ≡ o + 6 * k
  pub count_is : length ts ≡ k
  pub small : (t : ℕ) → In t ts → t < 4294967296
  pub stand : drop o b ≡ node_records i ts ++ drop e b

module _ (b : List ℕ) (fit : AreBytes b) where
  pub nodes-read : (k o i : ℕ) (ts : List ℕ) (e : ℕ) → nodes_from k b o i ≡ read ts e → NodesRead b k o i ts e
  nodes-read zero o i ts e q =
      let none_read : NodesRead b zero o i [] o = record { behind = omega arith; count_is = refl; small = λ t m. elim m [ ]; stand = refl } in
      read_as (NodesRead b zero o i) (sym (nodes-done b o i) ∙ q) none_read
  nodes-read (suc k) o i ts e q = go (node_at b o i) refl (nodes-read k)
    where
      one-read : (t f : ℕ) → node_at b o i ≡ read t f → (us : List ℕ) → NodesRead b k f (suc i) us e → NodesRead b (suc k) o i (t ∷ us) e
      one-read t f p us r =
          let w = node-read b fit o i p in
          record {
            behind = omega (arith, w.behind, r.behind);
            count_is = ap suc r.count_is;
            small = each (λ (x : ℕ). x < 4294967296) w.small r.small;
            stand = w.stand ∙ ap (λ (x : List ℕ). node_record i t ++ x) r.stand;
          }

      go : (x : Read ℕ) → node_at b o i ≡ x → ((o j : ℕ) (us : List ℕ) (f : ℕ) → nodes_from k b o j ≡ read us f → NodesRead b k o j us f) → NodesRead b (suc k) o i ts e
      go (wrong m p) r ih = unread (sym (nodes_stop b o i k r) ∙ q)
      go (read t f) r ih =
          let w = pushed_gives t (nodes_from k b f (suc i)) (sym (nodes_on b o i k r) ∙ q) in
          subst (λ (x : List ℕ). NodesRead b (suc k) o i x e) w.2 (one-read t f r w.0 (ih f (suc i) w.0 e w.1))

-- the link records and the end record
pub record LinksRead (b : List ℕ) (k o n : ℕ) (before : Option Link) (ls : List Link) (e : ℕ) : Type 0 where
  pub behind : e ≡ o + 8 * length ls + 1
  pub room : length ls ≤ k
  pub fits : (l : Link) → In l ls → Fits n l
  pub chain : Chain before ls
  pub stand : drop o b ≡ link_records ls ++ (9 ∷ drop e b)

module _ (b : List ℕ) (fit : AreBytes b) (n : ℕ) where
  none_read : (k o : ℕ) (before : Option Link) {e : ℕ} → EndRead b o e → LinksRead b k o n before [] e
  none_read k o before r = record {
    behind = omega (arith, r.behind);
    room = omega arith;
    fits = λ l m. elim m [ ];
    chain = tt;
    stand = r.stand;
  }

  one-read : (k o : ℕ) (before : Option Link) {l : Link} {ls : List Link} {f e : ℕ} → LinkRead b o n l f → follows before l ≡ true
      → LinksRead b k f n (Some l) ls e → LinksRead b (suc k) o n before (l ∷ ls) e
  one-read k o before {l} w up r = record {
    behind = omega (arith, w.behind, r.behind);
    room = omega (arith, r.room);
    fits = each (Fits n) w.fits r.fits;
    chain = (up, r.chain);
    stand = w.stand ∙ ap (λ (x : List ℕ). link_record l ++ x) r.stand;
  }

  pub links-read : (k o : ℕ) (before : Option Link) (ls : List Link) (e : ℕ) → links_from k b o n before ≡ read ls e → LinksRead b k o n before ls e
  links-read zero o before ls e q = go (item_at b o n) refl
    where
      go : (x : Read Item) → item_at b o n ≡ x → LinksRead b zero o n before ls e
      go (wrong m p) r = unread (sym (links_stop b o n before zero r) ∙ q)
      go (read the_end f) r =
          read_as (LinksRead b zero o n before) (sym (links_end b o n before zero r) ∙ q) (none_read zero o before (item_read b fit o n r))
      go (read (link l) f) r = unread (sym (links-full b o n before r) ∙ q)
  links-read (suc k) o before ls e q = go (item_at b o n) refl (links-read k)
    where
      go : (x : Read Item) → item_at b o n ≡ x → ((o : ℕ) (last : Option Link) (us : List Link) (f : ℕ) → links_from k b o n last ≡ read us f → LinksRead b k o n last us f)
          → LinksRead b (suc k) o n before ls e
      go (wrong m p) r ih = unread (sym (links_stop b o n before (suc k) r) ∙ q)
      go (read the_end f) r ih =
          read_as (LinksRead b (suc k) o n before) (sym (links_end b o n before (suc k) r) ∙ q) (none_read (suc k) o before (item_read b fit o n r))
      go (read (link l) f) r ih = by_order (known (follows before l))
        where
          by_order : (follows before l ≡ true) ⊎ (follows before l ≡ false) → LinksRead b (suc k) o n before ls e
          by_order (inl up) =
              let w = pushed_gives l (links_from k b f n (Some l)) (sym (links_on b o n before r k up) ∙ q) in
              subst (λ (x : List Link). LinksRead b (suc k) o n before x e) w.2
              (one-read k o before (item_read b fit o n r) up (ih f (Some l) w.0 e w.1))
          by_order (inr low) = unread (sym (links-low b o n before r (suc k) low) ∙ q)

-- ---- lengths
pub node-length : (i : ℕ) (ts : List ℕ) → length (node_records i ts) ≡ 6 * length ts
node-length i [] = refl
node-length i (t ∷ ts) = omega (arith, node-length (suc i) ts)

pub link-length : (ls : List Link) → length (link_records ls) ≡ 8 * length ls
link-length [] = refl
link-length (l ∷ ls) = omega (arith, link-length ls)

pub bytes-length : (s : Sheet) → length (bytes s) ≡ 8 + 6 * length s.traffic + 8 * length s.links
bytes-length s =
    omega (
      arith,
      length-append (head_record s) (node_records 0 s.traffic ++ (link_records s.links ++ (9 ∷ []))),
      length-append (node_records 0 s.traffic) (link_records s.links ++ (9 ∷ [])),
      length-append (link_records s.links) (9 ∷ []),
      node-length 0 s.traffic,
      link-length s.links,
    )

-- the parts of a sheet's bytes, with more behind them
parts : (s : Sheet) (rest : List ℕ) → bytes s ++ rest ≡ head_record s ++ (node_records 0 s.traffic ++ (link_records s.links ++ (9 ∷ rest)))
parts s rest = simp append_assoc

joined : (s : Sheet) (rest : List ℕ) {x y z : List ℕ} → x ≡ head_record s ++ y → y ≡ node_records 0 s.traffic ++ z → z ≡ link_records s.links ++ (9 ∷ rest)
    → x ≡ bytes s ++ rest
joined s rest p q r =
    p ∙ ap (λ (u : List ℕ). head_record s ++ u) (q ∙ ap (λ (u : List ℕ). node_records 0 s.traffic ++ u) r) ∙ sym (parts s rest)

-- ---- a whole sheet, at any offset
pub record SheetRead (b : List ℕ) (o : ℕ) (s : Sheet) (e : ℕ) : Type 0 where
  pub behind : e ≡ o + length (bytes s)
  pub ends : Ends s
  pub sound : Paired s → Adds s → Free s → Sound s
  pub stand : drop o b ≡ bytes s ++ drop e b

pub sheet_read : (b : List ℕ) → AreBytes b → (o : ℕ) {s : Sheet} {e : ℕ} → sheet_at b o ≡ read s e → SheetRead b o s e
sheet_read b fit o {s} {e} q =
    let h = then_gives (head_at b o) (λ h e. then (nodes_from h.nodes b e 0) (λ ts f. then (links_from 512 b f h.nodes None) (λ ls g. read (sheet_with h ts ls) g))) q in
    let ns = then_gives (nodes_from h.0.nodes b h.1 0) (λ ts f. then (links_from 512 b f h.0.nodes None) (λ ls g. read (sheet_with h.0 ts ls) g)) h.3 in
    let ls = then_gives (links_from 512 b ns.1 h.0.nodes None) (λ ls g. read (sheet_with h.0 ns.0 ls) g) ns.3 in
    let hr = head_read b fit o h.2 in
    let nr = nodes-read b fit h.0.nodes h.1 0 ns.0 ns.1 ns.2 in
    let lr = links-read b fit h.0.nodes 512 ns.1 None ls.0 ls.1 ls.2 in
    let t : Sheet = sheet_with h.0 ns.0 ls.0 in
    let right = head_gives h.0 hr.right in
    read_as (SheetRead b o) ls.3 (record {
      behind = omega (arith, bytes-length t, hr.behind, nr.behind, nr.count_is, lr.behind);
      ends = λ l m. ((lr.fits l m).from_in, (lr.fits l m).to_in);
      sound = λ pairs sums free. record {
        two = right.0;
        few = right.1;
        sink = right.2;
        step-low = right.3;
        step-top = right.4;
        figures = nr.count_is;
        measured = nr.small;
        many = lr.room;
        fits = lr.fits;
        rising = (chain_rising None ls.0 lr.chain).1;
        duplex = pairs;
        sums = sums;
        free = free;
      };
      stand = joined t (drop ls.1 b) hr.stand nr.stand lr.stand;
    })

-- ---- what stands is read
nodes-held : (b : List ℕ) (ts : List ℕ) (o i : ℕ) (rest : List ℕ) → ((t : ℕ) → In t ts → t < 4294967296) → drop o b ≡ node_records i ts ++ rest
    → nodes_from (length ts) b o i ≡ read ts (o + 6 * length ts)
nodes-held b [] o i rest small e = let z : o ≡ o + 6 * 0 = omega arith in nodes-done b o i ∙ ap (read []) z
nodes-held b (t ∷ ts) o i rest small e =
    let z : o + 6 + 6 * length ts ≡ o + 6 * suc (length ts) = omega arith in
    nodes_on b o i (length ts) (node-held b o i t (node_records (suc i) ts ++ rest) (small t (here refl)) e)
    ∙ ap (pushed t) (nodes-held b ts (o + 6) (suc i) rest (λ x m. small x (there m)) (moved b o (node_record i t) (node_records (suc i) ts ++ rest) e))
    ∙ ap (read (t ∷ ts)) z

links-held : (b : List ℕ) (n k : ℕ) (ls : List Link) (o : ℕ) (before : Option Link) (rest : List ℕ)
    → length ls ≤ k → ((l : Link) → In l ls → Fits n l) → Chain before ls
    → drop o b ≡ link_records ls ++ (9 ∷ rest) → links_from k b o n before ≡ read ls (o + 8 * length ls + 1)
links-held b n k [] o before rest room fits chain e =
    let z : o + 1 ≡ o + 8 * 0 + 1 = omega arith in
    links_end b o n before k (end_held b o n rest e) ∙ ap (read []) z
links-held b n zero (l ∷ ls) o before rest room fits chain e = absurd (omega arith)
links-held b n (suc k) (l ∷ ls) o before rest room fits chain e =
    let next : List ℕ = link_records ls ++ (9 ∷ rest) in
    let z : o + 8 + 8 * length ls + 1 ≡ o + 8 * suc (length ls) + 1 = omega arith in
    links_on b o n before (link-held b o n l next (fits l (here refl)) e) k chain.0
    ∙ ap (pushed l) (links-held b n k ls (o + 8) (Some l) rest (omega arith) (λ x m. fits x (there m)) chain.1 (moved b o (link_record l) next e))
    ∙ ap (read (l ∷ ls)) z

pub sheet_held : (b : List ℕ) (o : ℕ) (s : Sheet) (rest : List ℕ) → Sound s → drop o b ≡ bytes s ++ rest → sheet_at b o ≡ read s (o + length (bytes s))
sheet_held b o s rest ok e =
    rw (head_held b o h behind right here_is, nodes_are, links_are) (ap (read s) behind_all)
  where
    h : Head
    h = record { nodes = s.nodes; destination = s.destination; step = s.step }

    right : head_right h ≡ true
    right = head_holds h ok.two ok.few ok.sink ok.step-low ok.step-top

    last : List ℕ
    last = link_records s.links ++ (9 ∷ rest)

    behind : List ℕ
    behind = node_records 0 s.traffic ++ last

    here_is : drop o b ≡ head_record s ++ behind
    here_is = e ∙ parts s rest

    after_head : drop (o + 7) b ≡ behind
    after_head = moved b o (head_record s) behind here_is

    nodes_are : nodes_from s.nodes b (o + 7) 0 ≡ read s.traffic (o + 7 + 6 * length s.traffic)
    nodes_are =
        ap (λ (k : ℕ). nodes_from k b (o + 7) 0) (sym ok.figures) ∙ nodes-held b s.traffic (o + 7) 0 last ok.measured after_head

    after_nodes : drop (o + 7 + 6 * length s.traffic) b ≡ last
    after_nodes =
        ap (λ (k : ℕ). drop (o + 7 + k) b) (sym (node-length 0 s.traffic)) ∙ moved b (o + 7) (node_records 0 s.traffic) last after_head

    links_are : links_from 512 b (o + 7 + 6 * length s.traffic) s.nodes None ≡ read s.links (o + 7 + 6 * length s.traffic + 8 * length s.links + 1)
    links_are =
        links-held b s.nodes 512 s.links (o + 7 + 6 * length s.traffic) None rest ok.many ok.fits
        (rising_chain None s.links (λ m i. refl) ok.rising) after_nodes

    behind_all : o + 7 + 6 * length s.traffic + 8 * length s.links + 1 ≡ o + length (bytes s)
    behind_all = omega (arith, bytes-length s)

pub check_holds : (s : Sheet) → Sound s → check (bytes s) ≡ accepted s
check_holds s ok =
    let e : ℕ = 0 + length (bytes s) in
    ap (λ (r : Read Sheet). judged (then r (alone (bytes s)))) (sheet_held (bytes s) 0 s [] ok (sym (append-nil (bytes s))))
    ∙ ap (λ (c : Bool). judged (cond c (wrong 5 e) (read s e))) (le-ltb e (length (bytes s)) (omega arith))
    ∙ (accepted_iff s s).1 (refl, ok.duplex, ok.sums, (free_iff s (ends_of ok)).0 ok.free)

pub check_gives : (b : List ℕ) (s : Sheet) → AreBytes b → check b ≡ accepted s → Sound s × (bytes s ≡ b)
check_gives b s fit q = go (sheet_at b 0) refl q
  where
    whole_row : (t : Sheet) (e : ℕ) → SheetRead b 0 t e → (c : Bool) → ltb e (length b) ≡ c → judged (cond c (wrong 5 e) (read t e)) ≡ accepted s → Sound s × (bytes s ≡ b)
    whole_row t e r true p v = never v
    whole_row t e r false p v =
        let w = (accepted_iff t s).0 v in
        let no_more : length b ≤ e = ltb-false e (length b) p in
        let is : bytes t ≡ b = sym (r.stand ∙ ap (λ (x : List ℕ). bytes t ++ x) (drop_of_length-le b no_more) ∙ append-nil (bytes t)) in
        subst (λ (u : Sheet). Sound u × (bytes u ≡ b)) w.0 (r.sound w.1 w.2 ((free_iff t r.ends).1 w.3), is)

    go : (x : Read Sheet) → sheet_at b 0 ≡ x → judged (then x (alone b)) ≡ accepted s → Sound s × (bytes s ≡ b)
    go (wrong n p) r v = never v
    go (read t e) r v = whole_row t e (sheet_read b fit 0 r) (ltb e (length b)) refl v

-- ---- and they are bytes
abbrev Small : List ℕ → Type 0
Small [] = Unit {0}
Small (x ∷ xs) = (x < 256) × Small xs

small_bytes : (xs : List ℕ) → Small xs → AreBytes xs
small_bytes [] h i = omega arith
small_bytes (x ∷ xs) h zero = h.0
small_bytes (x ∷ xs) h (suc i) = small_bytes xs h.1 i

four-small : (x : ℕ) (xs : List ℕ) → Small xs → Small (four x ++ xs)
four-small x xs h = (omega arith, (omega arith, (omega arith, (omega arith, h))))

nodes-small : (i : ℕ) (ts rest : List ℕ) → i + length ts ≤ 256 → Small rest → Small (node_records i ts ++ rest)
nodes-small i [] rest h r = r
nodes-small i (t ∷ ts) rest h r =
    (omega arith, (omega arith, four-small t (node_records (suc i) ts ++ rest) (nodes-small (suc i) ts rest (omega arith) r)))

links-small : (n : ℕ) (ls : List Link) (rest : List ℕ) → n ≤ 256 → ((l : Link) → In l ls → Fits n l) → Small rest → Small (link_records ls ++ rest)
links-small n [] rest h fits r = r
links-small n (l ∷ ls) rest h fits r =
    let p = fits l (here refl) in
    let after = links-small n ls rest h (λ x m. fits x (there m)) r in
    (omega arith, (omega arith, (omega arith, (omega arith, four-small l.fraction (link_records ls ++ rest) after))))

pub bytes_fit : (s : Sheet) → Sound s → AreBytes (bytes s)
bytes_fit s ok =
    let ls : Small (link_records s.links ++ (9 ∷ [])) = links-small s.nodes s.links (9 ∷ []) (omega arith) ok.fits (omega arith, tt) in
    let ns = nodes-small 0 s.traffic (link_records s.links ++ (9 ∷ [])) (omega arith) ls in
    small_bytes (bytes s)
    (omega arith, (omega arith, (omega arith, four-small s.step (node_records 0 s.traffic ++ (link_records s.links ++ (9 ∷ []))) ns)))

-- by the test, for a row that is written out
pub tested_bytes : (b : List ℕ) → every (λ x. ltb x 256) b ≡ true → AreBytes b
tested_bytes [] e i = omega arith
tested_bytes (x ∷ xs) e zero = ltb-true x 256 (and_gives (ltb x 256) (every (λ y. ltb y 256) xs) e).0
tested_bytes (x ∷ xs) e (suc i) = tested_bytes xs (and_gives (ltb x 256) (every (λ y. ltb y 256) xs) e).1 i

-- A sheet of the greatest length: 64 nodes in a ring, each with links to the four before and the four after it.
use Prim.Native.Nat.{ℕ, zero, suc, ◌+◌, ◌≤◌, ◌<◌}
use native.Mathlib.Omega.{arith}
use mathlib.Core.Path.{◌≡◌, refl, subst}
use mathlib.Core.Logic.{◌⊎◌, inl, inr, ⊎_elim, ◌≢◌}
use mathlib.Core.Bool.{Bool, true, false, cond, ◌&&◌, ◌||◌}
use mathlib.Core.List.Memᴰ
use mathlib.Core.List.Memᴰ.{append_cases}
use mathlib.Core.List.Memᴰ.{head as here}
use mathlib.Core.List.Memᴰ.{tail as there}
use mathlib.Core.List.{List, [], ◌∷◌, ◌++◌, map, Memᴰ as In}
use Rattle.std.specs.Prelude.{Option, None, Some}
use lib.ListN.{length, replicate}
use lib.Dec.{ltb, leb, eqb}
use borrow.Author.Tests.{ltb-true, eqb-true}
use Rattle.rules.specs.Lists.{every, keep, below}
use Rattle.rules.specs.Sheet.{Link, Sheet, whole, flows, opposite}
use Rattle.rules.specs.Bytes.{bytes}
use Rattle.rules.specs.Judge.{paired, row_sum, due, adds}
use Rattle.rules.specs.Check.{follows}
use Rattle.rules.proofs.Tests.{clash, and_gives, and_holds, or_gives, or_left, or_right, eqb_self}
use Rattle.rules.proofs.Lists.{every_gives, exists_holds, in_keep, keep_in, below_in, in_below}
use Rattle.rules.proofs.Rank.{falls_free}
use Rattle.rules.proofs.Order.{Chain, chain_rising}
use Rattle.rules.proofs.Sound.{Fits, Sound}
use Rattle.rules.proofs.Reading.{bytes-length}

-- a is at most four before b in the ring, or as far behind it over its seam
abbrev close : ℕ → ℕ → Bool
close a b = ltb a b && (leb b (a + 4) || leb (a + 60) b)

abbrev near : ℕ → ℕ → Bool
near i j = close i j || close j i

-- all that node i has goes to node i - 1
abbrev ring_link : ℕ → ℕ → Link
ring_link i j = record { from = i; to = j; load = 0; fraction = cond (eqb i (suc j)) whole 0 }

abbrev ring_row : ℕ → List Link
ring_row i = map (ring_link i) (keep (near i) (below 64))

abbrev ring_rows : List ℕ → List Link
ring_rows [] = []
ring_rows (i ∷ is) = ring_row i ++ ring_rows is

abbrev ring_of : List Link → Sheet
ring_of ls = record { nodes = 64; destination = 0; step = 1; traffic = replicate 64 0; links = ls }

abbrev ring : Sheet
ring = ring_of (ring_rows (below 64))

-- ---- its links
in_rows : (is : List ℕ) {i : ℕ} {l : Link} → In i is → In l (ring_row i) → In l (ring_rows is)
in_rows [] n m = elim n [ ]
in_rows (k ∷ is) {l = l} (here e) m = Memᴰ.append_left (ring_rows is) (subst (λ (i : ℕ). In l (ring_row i)) e m)
in_rows (k ∷ is) (there n) m = Memᴰ.append_right (ring_row k) (in_rows is n m)

record Ringed (l : Link) : Type 0 where
  i : ℕ
  j : ℕ
  i_in : i < 64
  j_in : j < 64
  next : near i j ≡ true
  is : ring_link i j ≡ l

of_rows : (is : List ℕ) {l : Link} → ((i : ℕ) → In i is → i < 64) → In l (ring_rows is) → Ringed l
of_rows [] low m = elim m [ ]
of_rows (i ∷ is) {l} low m = ⊎_elim own (of_rows is (λ k n. low k (there n))) (append_cases (ring_row i) m)
  where
    own : In l (ring_row i) → Ringed l
    own n =
        let t = Memᴰ.of_map (ring_link i) (keep (near i) (below 64)) n in
        let k = in_keep (near i) (below 64) t.1 in
        record { i = i; j = t.0; i_in = low i (here refl); j_in = in_below 64 k.0; next = k.1; is = t.2 }

ringed : (l : Link) → In l ring.links → Ringed l
ringed l m = of_rows (below 64) (λ i n. in_below 64 n) m

-- ---- what is computed
abbrev chained : Option Link → List Link → Bool
chained before [] = true
chained before (l ∷ ls) = follows before l && chained (Some l) ls

ring_chained : chained None ring.links ≡ true
ring_chained = refl

abbrev adds_all : List Link → Bool
adds_all ls = every (adds (ring_of ls)) (below 64)

ring_adds : adds_all (ring_rows (below 64)) ≡ true
ring_adds = refl

chain : (before : Option Link) (ls : List Link) → chained before ls ≡ true → Chain before ls
chain before [] e = tt
chain before (l ∷ ls) e = let r = and_gives (follows before l) (chained (Some l) ls) e in (r.0, chain (Some l) ls r.1)

-- ---- so it is sound
turn : (i j : ℕ) → near i j ≡ true → (near j i ≡ true) × (i ≢ j)
turn i j e = go (or_gives (close i j) (close j i) e)
  where
    go : (close i j ≡ true) ⊎ (close j i ≡ true) → (near j i ≡ true) × (i ≢ j)
    go (inl q) = (or_right (close j i) q, omega (arith, ltb-true i j (and_gives (ltb i j) (leb j (i + 4) || leb (i + 60) j) q).0))
    go (inr q) = (or_left (close i j) q, omega (arith, ltb-true j i (and_gives (ltb j i) (leb i (j + 4) || leb (j + 60) i) q).0))

ring_fits : (l : Link) → Ringed l → Fits 64 l
ring_fits l r = subst (Fits 64) r.is (record {
  from_in = r.i_in;
  to_in = r.j_in;
  differ = (turn r.i r.j r.next).1;
  loaded = omega arith;
  part = part (eqb r.i (suc r.j));
})
  where
    part : (b : Bool) → cond b whole 0 ≤ whole
    part true = omega arith
    part false = omega arith

ring_paired : (l : Link) → Ringed l → paired ring.links l ≡ true
ring_paired l r = subst (λ (x : Link). paired ring.links x ≡ true) r.is
    (exists_holds (opposite (ring_link r.i r.j))
    (in_rows (below 64) (below_in 64 r.j r.j_in) (Memᴰ.map (ring_link r.j) (keep_in (near r.j) (below_in 64 r.i r.i_in) (turn r.i r.j r.next).0)))
    (and_holds (eqb_self r.j) (eqb_self r.i)))

ring_falls : (l : Link) → Ringed l → flows l ≡ true → l.to < l.from
ring_falls l r = subst (λ (x : Link). flows x ≡ true → x.to < x.from) r.is (go (eqb r.i (suc r.j)) refl)
  where
    go : (b : Bool) → eqb r.i (suc r.j) ≡ b → ltb 0 (cond b whole 0) ≡ true → r.j < r.i
    go true e f = omega (arith, eqb-true r.i (suc r.j) e)
    go false e f = clash f refl

zeros : (n : ℕ) {t : ℕ} → In t (replicate n 0) → t ≡ 0
zeros zero m = elim m [ ]
zeros (suc n) (here e) = e
zeros (suc n) (there m) = zeros n m

ring_sound : Sound ring
ring_sound = record {
  two = omega arith;
  few = omega arith;
  sink = omega arith;
  step-low = omega arith;
  step-top = omega arith;
  figures = refl;
  measured = λ t m. omega (arith, zeros 64 m);
  many = omega arith;
  fits = λ l m. ring_fits l (ringed l m);
  rising = (chain_rising None ring.links (chain None ring.links ring_chained)).1;
  duplex = λ l m. ring_paired l (ringed l m);
  sums = λ i h. eqb-true (row_sum ring i) (due ring i) (every_gives (adds ring) (below 64) ring_adds (below_in 64 i h));
  free = falls_free ring (λ i. i) (λ l m. ring_falls l (ringed l m));
}

-- the longest sheet
pub longest : (s : Sheet) × Sound s × (length (bytes s) ≡ 4488)
longest = (ring, ring_sound, bytes-length ring)

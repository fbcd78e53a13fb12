-- Where the fractions stand in a sheet's bytes: with new fractions no other byte changes.
use Prim.Native.Nat.{ℕ, zero, suc, ◌+◌, ◌*◌, ◌≤◌, ◌<◌}
use native.Mathlib.Omega.{arith}
use mathlib.Core.Path.{◌≡◌, refl, sym, ap, ◌∙◌}
use mathlib.Core.List.{List, [], ◌∷◌, ◌++◌, map}
use lib.ListN.{length, get_or, drop, length-map}
use lib.Seq.{drop-drop}
use Rattle.rules.specs.Sheet.{Link, Sheet, with_fraction, with_links}
use Rattle.rules.specs.Bytes.{four, head_record, node_records, link_record, link_records, bytes}
use Rattle.rules.specs.Check.{word_at}
use Rattle.rules.specs.Round.{way_of, desk_of, word_for, words, next}
use Rattle.rules.specs.Desk.{new_fraction}
use Rattle.rules.specs.Messages.{no_link, link_of}
use Rattle.rules.proofs.Lists.{get_or_in, map_at}
use Rattle.rules.proofs.Sound.{Sound}
use Rattle.rules.proofs.Records.{moved, reads_word}
use Rattle.rules.proofs.Reading.{node-length}
use Rattle.rules.proofs.Next.{newly, next-sound}

-- where the fraction field of link j begins: behind the head, the nodes, the links before it, and its kind, ends and load step
abbrev pub fraction_at : Sheet → ℕ → ℕ
fraction_at s j = 7 + 6 * s.nodes + 8 * j + 4

-- byte i lies in the fraction field of a link
abbrev pub InFraction : Sheet → ℕ → Type 0
InFraction s i = (j : ℕ) × (j < length s.links) × (fraction_at s j ≤ i) × (i < fraction_at s j + 4)

-- a sheet with new fractions and nothing else changed
abbrev pub with_fractions : Sheet → (Link → ℕ) → Sheet
with_fractions s f = with_links s (map (λ l. with_fraction l (f l)) s.links)

-- behind the same bytes
behind : (p x y : List ℕ) (i : ℕ) → ((j : ℕ) → i ≡ length p + j → get_or x j 0 ≡ get_or y j 0) → get_or (p ++ x) i 0 ≡ get_or (p ++ y) i 0
behind [] x y i h = h i (omega arith)
behind (a ∷ p) x y zero h = refl
behind (a ∷ p) x y (suc i) h = behind p x y i (λ j e. h j (omega arith))

links_alike : (f : Link → ℕ) (ls : List Link) (rest : List ℕ) (i : ℕ) → ((j : ℕ) → j < length ls → 8 * j + 4 ≤ i → i < 8 * j + 8 → ⊥)
    → get_or (link_records (map (λ l. with_fraction l (f l)) ls) ++ rest) i 0 ≡ get_or (link_records ls ++ rest) i 0
links_alike f [] rest i h = refl
links_alike f (l ∷ ls) rest zero h = refl
links_alike f (l ∷ ls) rest (suc zero) h = refl
links_alike f (l ∷ ls) rest (suc (suc zero)) h = refl
links_alike f (l ∷ ls) rest (suc (suc (suc zero))) h = refl
links_alike f (l ∷ ls) rest (suc (suc (suc (suc zero)))) h = absurd (h 0 (omega arith) (omega arith) (omega arith))
links_alike f (l ∷ ls) rest (suc (suc (suc (suc (suc zero))))) h = absurd (h 0 (omega arith) (omega arith) (omega arith))
links_alike f (l ∷ ls) rest (suc (suc (suc (suc (suc (suc zero)))))) h = absurd (h 0 (omega arith) (omega arith) (omega arith))
links_alike f (l ∷ ls) rest (suc (suc (suc (suc (suc (suc (suc zero))))))) h = absurd (h 0 (omega arith) (omega arith) (omega arith))
links_alike f (l ∷ ls) rest (suc (suc (suc (suc (suc (suc (suc (suc i)))))))) h =
    links_alike f ls rest i (λ j a b c. h (suc j) (omega arith) (omega arith) (omega arith))

pub bytes_alike : (s : Sheet) → length s.traffic ≡ s.nodes → (f : Link → ℕ) (i : ℕ) → ¬ InFraction s i → get_or (bytes (with_fractions s f)) i 0 ≡ get_or (bytes s) i 0
bytes_alike s z f i h =
    behind (head_record s) (ns ++ new) (ns ++ old) i (λ k e. behind ns new old k (λ m d.
    links_alike f s.links (9 ∷ []) m (λ j a b c. h (j, a, omega (arith, node-length 0 s.traffic), omega (arith, node-length 0 s.traffic)))))
  where
    ns : List ℕ
    ns = node_records 0 s.traffic

    new : List ℕ
    new = link_records (with_fractions s f).links ++ (9 ∷ [])

    old : List ℕ
    old = link_records s.links ++ (9 ∷ [])

-- a link's record stands behind those before it
link_stands : (ls : List Link) (rest : List ℕ) (j : ℕ) → j < length ls → (more : List ℕ) × (drop (8 * j) (link_records ls ++ rest) ≡ link_record (get_or ls j no_link) ++ more)
link_stands [] rest j h = absurd (omega arith)
link_stands (l ∷ ls) rest zero h = (link_records ls ++ rest, refl)
link_stands (l ∷ ls) rest (suc j) h =
    let z : 8 * suc j ≡ suc (suc (suc (suc (suc (suc (suc (suc (8 * j)))))))) = omega arith in
    let r = link_stands ls rest j (omega arith) in
    (r.0, ap (λ (n : ℕ). drop n (link_records (l ∷ ls) ++ rest)) z ∙ r.1)

-- and its fraction field holds its fraction
pub fraction_stands : (s : Sheet) → Sound s → (j : ℕ) → j < length s.links → word_at (bytes s) (fraction_at s j) ≡ (link_of s j).fraction
fraction_stands s ok j h =
    let l : Link = link_of s j in
    let b : List ℕ = bytes s in
    let ns : List ℕ = node_records 0 s.traffic in
    let ls : List ℕ = link_records s.links ++ (9 ∷ []) in
    let r = link_stands s.links (9 ∷ []) j h in
    let after_nodes : drop (0 + 7 + length ns) b ≡ ls = moved b (0 + 7) ns ls (moved b 0 (head_record s) (ns ++ ls) refl) in
    let at-link : drop (0 + 7 + length ns + 8 * j) b ≡ link_record l ++ r.0 = sym (drop-drop (8 * j) (0 + 7 + length ns) b) ∙ ap (drop (8 * j)) after_nodes ∙ r.1 in
    let field : drop (0 + 7 + length ns + 8 * j + 4) b ≡ four l.fraction ++ r.0 =
    moved b (0 + 7 + length ns + 8 * j) (3 ∷ l.from ∷ l.to ∷ l.load ∷ []) (four l.fraction ++ r.0) at-link in
    let z : fraction_at s j ≡ 0 + 7 + length ns + 8 * j + 4 = omega (arith, node-length 0 s.traffic, ok.figures) in
    ap (word_at b) z ∙ reads_word b (0 + 7 + length ns + 8 * j + 4) l.fraction r.0 (omega (arith, (ok.fits l (get_or_in s.links j no_link h)).part)) field

-- the round's new fractions
pub next-bytes : (s : Sheet) → Sound s → (i : ℕ) → ¬ InFraction s i → get_or (bytes (next s)) i 0 ≡ get_or (bytes s) i 0
next-bytes s ok = bytes_alike s ok.figures (λ l. new_fraction (desk_of s (word_for (words s)) l.from) (way_of (word_for (words s)) l))

pub next-fraction : (s : Sheet) → Sound s → (j : ℕ) → j < length s.links → word_at (bytes (next s)) (fraction_at s j) ≡ (newly s (link_of s j)).fraction
next-fraction s ok j h =
    fraction_stands (next s) (next-sound ok) j (omega (arith, length-map s.links (newly s)))
    ∙ ap (λ (l : Link). l.fraction) (map_at (newly s) s.links j no_link no_link h)

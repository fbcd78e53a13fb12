-- The sheet written again: the fractions put over its copy one link after the other.
use Prim.Native.Nat.{ℕ, suc, ◌+◌, ◌-◌, ◌*◌, ◌≤◌, ◌<◌}
use mathlib.Core.Path.{◌≡◌, refl, sym, ap, ap₂, ◌∙◌}
use mathlib.Core.List.{List, [], ◌∷◌, ◌++◌, map, map-append, append_assoc}
use native.Mathlib.Omega.{arith}
use native.Mathlib.Numerals.{add-one}
use lib.ListN.{length, get_or, take, drop, set, length-append, length-set}
use lib.Seq.{length-take-le, drop-cons, take-suc, append_snoc, set_at, take_at, drop_at}
use Rattle.std.proofs.lemmas.List.{take_all}
use Rattle.rules.specs.Lists.{counted, below}
use Rattle.rules.specs.Sheet.{Link, Sheet}
use Rattle.rules.specs.Bytes.{four, head_record, node_records, link_record, link_records}
use Rattle.rules.proofs.Lists.{below_last}
use Rattle.rules.proofs.Reading.{node-length, link-length, bytes-length}
use Rattle.sheet.specs.Held.{held_at, held, sheet_said, patched, Filled, WriteAsked, FractionsWritten}
use Rattle.sheet.specs.declared.SheetHeld.{SheetHeld}
use Rattle.sheet.proofs.Facts.{held-length}

-- ---- the copy
copied_more : (i : ℕ) (b d : List ℕ) → i < length b → length b ≤ length d → set (take i b ++ drop i d) i (get_or b i 0) ≡ take (i + 1) b ++ drop (i + 1) d
copied_more i b d h r =
    let inside : i < length d = omega arith in
    let short : i ≤ length b = omega arith in
    rw (add-one, drop-cons d i 0 inside, take-suc b i 0 h)
    (set_at (take i b) (get_or d i 0) (drop (suc i) d) (get_or b i 0) i (length-take-le i b short)
    ∙ sym (append_snoc (take i b) (get_or b i 0) (drop (suc i) d)))

-- the loop that copies, at index i
pub record Copying (b old new : List ℕ) (i : ℕ) : Type 0 where
  pub within : i ≤ length b
  pub same : length new ≡ length old
  pub is : new ≡ take i b ++ drop i old

module _ {b old : List ℕ} where
  pub copying_none : Copying b old old 0
  copying_none = record { within = omega arith; same = refl; is = refl }

  module _ {new : List ℕ} {i : ℕ} (h : Copying b old new i) where
    pub copying_more : {x : ℕ} → x ≡ get_or b i 0 → i < length b → length b ≤ length old → Copying b old (set new i x) (i + 1)
    copying_more e p room = rw e (record {
      within = omega (arith, p);
      same = length-set new i (get_or b i 0) ∙ h.same;
      is = ap (λ (l : List ℕ). set l i (get_or b i 0)) h.is ∙ copied_more i b old p room;
    })

    pub copying_all : length b ≤ i → new ≡ b ++ drop (length b) old
    copying_all p = let z : i ≡ length b = omega (arith, h.within) in rw (z, take_all (length b) b (omega arith)) at h.is

-- a word patched in behind a front
patched-at : (o : ℕ) (front w v behind : List ℕ) {d : List ℕ} → length front ≡ o → length w ≡ length v → d ≡ front ++ (v ++ behind)
    → patched o w d ≡ front ++ (w ++ behind)
patched-at o front w v behind {d} e same is =
    let p : take o d ≡ front = ap (take o) is ∙ take_at front (v ++ behind) o e in
    let n : length (front ++ v) ≡ o + length w = omega (arith, length-append front v) in
    let q : drop (o + length w) d ≡ behind = ap (drop (o + length w)) (is ∙ sym (append_assoc front v behind)) ∙ drop_at (front ++ v) behind (o + length w) n in
    ap₂ (λ (x y : List ℕ). x ++ (w ++ y)) p q

-- ---- the records of links
records_append : (ls ms : List Link) → link_records (ls ++ ms) ≡ link_records ls ++ link_records ms
records_append [] ms = refl
records_append (l ∷ ls) ms = ap (λ (x : List ℕ). link_record l ++ x) (records_append ls ms) ∙ sym (append_assoc (link_record l) (link_records ls) (link_records ms))

records_more : (j : ℕ) (fs ts ls xs : List ℕ) → link_records (held (j + 1) fs ts ls xs) ≡ link_records (held j fs ts ls xs) ++ link_record (held_at fs ts ls xs j)
records_more j fs ts ls xs =
    ap (λ (n : ℕ). link_records (held n fs ts ls xs)) (add-one j)
    ∙ ap (λ (is : List ℕ). link_records (map (held_at fs ts ls xs) is)) (below_last j)
    ∙ ap link_records (map-append (held_at fs ts ls xs) (below j) (j ∷ []))
    ∙ records_append (held j fs ts ls xs) (held_at fs ts ls xs j ∷ [])

joined : (a b c d : List ℕ) → (a ++ (b ++ c)) ++ d ≡ a ++ (b ++ (c ++ d))
joined a b c d = simp append_assoc

-- up to link j the fractions are xs, from there on still ys
pub record Filling (start count : ℕ) (xs old new : List ℕ) (j : ℕ) : Type 0 where
  pub so_far : (front fs ts ls ys behind : List ℕ) → length front ≡ start → old ≡ front ++ (link_records (held count fs ts ls ys) ++ behind)
      → new ≡ front ++ (link_records (held j fs ts ls xs) ++ (link_records (map (held_at fs ts ls ys) (counted j (count - j))) ++ behind))

-- one word more
module _ {start count : ℕ} {xs old new : List ℕ} {j : ℕ} (h : Filling start count xs old new j) where
  pub filling_more : {next : List ℕ} → j < count → next ≡ patched (start + 8 * j + 4) (four (get_or xs j 0)) new → Filling start count xs old next (j + 1)
  filling_more p put = record { so_far = λ front fs ts ls ys behind e is. put ∙ step front fs ts ls ys behind e (h.so_far front fs ts ls ys behind e is) }
    where
      step : (front fs ts ls ys behind : List ℕ) → length front ≡ start
          → new ≡ front ++ (link_records (held j fs ts ls xs) ++ (link_records (map (held_at fs ts ls ys) (counted j (count - j))) ++ behind))
          → patched (start + 8 * j + 4) (four (get_or xs j 0)) new
          ≡ front ++ (link_records (held (j + 1) fs ts ls xs) ++ (link_records (map (held_at fs ts ls ys) (counted (j + 1) (count - (j + 1)))) ++ behind))
      step front fs ts ls ys behind e is =
          let done : List ℕ = link_records (held j fs ts ls xs) in
          let lead : List ℕ = 3 ∷ get_or fs j 0 ∷ get_or ts j 0 ∷ get_or ls j 0 ∷ [] in
          let rest : List ℕ = link_records (map (held_at fs ts ls ys) (counted (suc j) (count - (j + 1)))) in
          let z : count - j ≡ suc (count - (j + 1)) = omega arith in
          let long : length (front ++ (done ++ lead)) ≡ start + 8 * j + 4 =
          omega (arith, length-append front (done ++ lead), length-append done lead, link-length (held j fs ts ls xs), held-length j fs ts ls xs) in
          let now-is : new ≡ (front ++ (done ++ lead)) ++ (four (get_or ys j 0) ++ (rest ++ behind)) =
          is ∙ ap (λ (k : ℕ). front ++ (done ++ (link_records (map (held_at fs ts ls ys) (counted j k)) ++ behind))) z
          ∙ sym (joined front done lead (four (get_or ys j 0) ++ (rest ++ behind))) in
          patched-at (start + 8 * j + 4) (front ++ (done ++ lead)) (four (get_or xs j 0)) (four (get_or ys j 0)) (rest ++ behind) long refl now-is
          ∙ joined front done lead (four (get_or xs j 0) ++ (rest ++ behind))
          ∙ ap (λ (x : List ℕ). front ++ x) (sym (append_assoc done (link_record (held_at fs ts ls xs j)) (rest ++ behind)))
          ∙ ap₂ (λ (x : List ℕ) (k : ℕ). front ++ (x ++ (link_records (map (held_at fs ts ls ys) (counted k (count - (j + 1)))) ++ behind)))
          (sym (records_more j fs ts ls xs)) (sym (add-one j))

-- ---- the whole
parts : (a b c d e : List ℕ) → (a ++ (b ++ (c ++ d))) ++ e ≡ (a ++ b) ++ (c ++ (d ++ e))
parts a b c d e = simp append_assoc

pub filled_written : {h : SheetHeld} {n : ℕ} {b xs old mid new : List ℕ} → WriteAsked h b old → n ≡ h.head.nodes → mid ≡ b ++ drop (length b) old
    → Filled (7 + 6 * n) h.links xs mid new → FractionsWritten h b xs old new
filled_written {h} {n} {b} {xs} {old} asked nodes copy f = record {
  said = λ traffic fs ts ls ys e.
      let s : List ℕ → Sheet = λ zs. sheet_said h traffic fs ts ls zs in
      let figures : List ℕ = node_records 0 (s ys).traffic in
      let front : List ℕ = head_record (s ys) ++ figures in
      let after : List ℕ = drop (length b) old in
      let count : length (s ys).traffic ≡ h.head.nodes = omega (arith, bytes-length (s ys), ap length e, asked.long, held-length h.links fs ts ls ys) in
      let long : length front ≡ 7 + 6 * n = omega (arith, length-append (head_record (s ys)) figures, node-length 0 (s ys).traffic) in
      f.said front fs ts ls ys (9 ∷ after) long
      (copy ∙ ap (λ (l : List ℕ). l ++ after) (sym e) ∙ parts (head_record (s ys)) figures (link_records (held h.links fs ts ls ys)) (9 ∷ []) after)
      ∙ sym (parts (head_record (s xs)) figures (link_records (held h.links fs ts ls xs)) (9 ∷ []) after);
}

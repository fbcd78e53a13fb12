-- What a caller knows of a sheet that was read: refusals 1 to 5 leave these facts. In terms of the five columns.
use Prim.Native.Nat.{ℕ, zero, suc, ◌+◌, ◌*◌, ◌≤◌, ◌<◌}
use mathlib.Core.Path.{◌≡◌, refl, sym, ap, ◌∙◌}
use mathlib.Core.Bool.{Bool, true, false, cond}
use mathlib.Core.List.Memᴰ
use mathlib.Core.List.{List, [], ◌∷◌, ◌++◌, append-nil, Memᴰ as In}
use Rattle.std.specs.Prelude.{None, Ok}
use native.Mathlib.Omega.{arith}
use lib.ListN.{length, get_or, take, length-map, drop_of_length-le}
use lib.Dec.{ltb}
use borrow.Author.Tests.{ltb-false}
use Rattle.rules.specs.Lists.{below}
use Rattle.rules.specs.Sheet.{Link, Sheet, whole, largest_step}
use Rattle.rules.specs.Bytes.{AreBytes, bytes}
use Rattle.rules.specs.Messages.{no_link}
use Rattle.rules.specs.Check.{wrong, read, then, head_at, nodes_from, rises, links_from, sheet_with, sheet_at, alone, sheet_alone}
use Rattle.rules.proofs.Lists.{get_or_in, below_length, table_at}
use Rattle.rules.proofs.Order.{Less, Rising, rises_less, chain_rising}
use Rattle.rules.proofs.Sound.{Fits}
use Rattle.rules.proofs.Records.{unread, read_as, then_gives, head_gives, head_read}
use Rattle.rules.proofs.Reading.{nodes-read, links-read, sheet_read, bytes-length}
use Rattle.sheet.specs.Held.{held_at, held, sheet_said, SheetGiven}
use Rattle.sheet.specs.declared.SheetHeld.{SheetHeld}
use Rattle.sheet.specs.declared.Columns.{Columns}

-- ---- of a sheet
pub record Sane (s : Sheet) : Type 0 where
  pub two : 2 ≤ s.nodes
  pub few : s.nodes ≤ 64
  pub sink : s.destination < s.nodes
  pub step-low : 1 ≤ s.step
  pub step-top : s.step ≤ largest_step
  pub figures : length s.traffic ≡ s.nodes
  pub measured : (t : ℕ) → In t s.traffic → t < 4294967296
  pub many : length s.links ≤ 512
  pub fits : (l : Link) → In l s.links → Fits s.nodes l
  pub rising : Rising s.links

pub at_sane : (b : List ℕ) → AreBytes b → (o : ℕ) {s : Sheet} {e : ℕ} → sheet_at b o ≡ read s e → Sane s
at_sane b fit o q =
    let h = then_gives (head_at b o) (λ h e. then (nodes_from h.nodes b e 0) (λ ts f. then (links_from 512 b f h.nodes None) (λ ls g. read (sheet_with h ts ls) g))) q in
    let ns = then_gives (nodes_from h.0.nodes b h.1 0) (λ ts f. then (links_from 512 b f h.0.nodes None) (λ ls g. read (sheet_with h.0 ts ls) g)) h.3 in
    let ls = then_gives (links_from 512 b ns.1 h.0.nodes None) (λ ls g. read (sheet_with h.0 ns.0 ls) g) ns.3 in
    let right = head_gives h.0 (head_read b fit o h.2).right in
    let nr = nodes-read b fit h.0.nodes h.1 0 ns.0 ns.1 ns.2 in
    let lr = links-read b fit h.0.nodes 512 ns.1 None ls.0 ls.1 ls.2 in
    read_as (λ (s : Sheet) (e : ℕ). Sane s) {x = sheet_with h.0 ns.0 ls.0} {e = ls.1} ls.3 (record {
      two = right.0;
      few = right.1;
      sink = right.2;
      step-low = right.3;
      step-top = right.4;
      figures = nr.count_is;
      measured = nr.small;
      many = lr.room;
      fits = lr.fits;
      rising = (chain_rising None ls.0 lr.chain).1;
    })

module _ (b : List ℕ) {s : Sheet} {e : ℕ} (q : sheet_alone b ≡ read s e) where
  alone_at : (sheet_at b 0 ≡ read s e) × (length b ≤ e)
  alone_at = let h = then_gives (sheet_at b 0) (alone b) q in go h.0 h.1 h.2 (ltb h.1 (length b)) refl h.3
    where
      go : (t : Sheet) (f : ℕ) → sheet_at b 0 ≡ read t f → (c : Bool) → ltb f (length b) ≡ c → cond c (wrong 5 f) (read t f) ≡ read s e
          → (sheet_at b 0 ≡ read s e) × (length b ≤ e)
      go t f p true r v = unread v
      go t f p false r v = (p ∙ v, read_as (λ (u : Sheet) (g : ℕ). length b ≤ g) v (ltb-false f (length b) r))

  module _ (fit : AreBytes b) where
    pub alone_sane : Sane s
    alone_sane = at_sane b fit 0 alone_at.0

    -- the bytes are those of the sheet
    pub alone-bytes : bytes s ≡ b
    alone-bytes =
        sym ((sheet_read b fit 0 alone_at.0).stand
        ∙ ap (λ (x : List ℕ). bytes s ++ x) (drop_of_length-le b alone_at.1)
        ∙ append-nil (bytes s))

-- ---- of the links that the columns hold
pub rising_at : (ls : List Link) → Rising ls → (j k : ℕ) → j < k → k < length ls → rises (get_or ls j no_link) (get_or ls k no_link) ≡ true
rising_at [] r j k p q = absurd (omega arith)
rising_at (l ∷ ls) r j zero p q = absurd (omega arith)
rising_at (l ∷ ls) r zero (suc k) p q = r.0 (get_or ls k no_link) (get_or_in ls k no_link (omega arith))
rising_at (l ∷ ls) r (suc j) (suc k) p q = rising_at ls r.1 j k (omega arith) (omega arith)

module _ (n : ℕ) (fs ts ls xs : List ℕ) where
  pub held-length : length (held n fs ts ls xs) ≡ n
  held-length = length-map (below n) (held_at fs ts ls xs) ∙ below_length n

  pub held-at : (j : ℕ) → j < n → get_or (held n fs ts ls xs) j no_link ≡ held_at fs ts ls xs j
  held-at j h = table_at (held_at fs ts ls xs) no_link n j h

  pub held_in : (j : ℕ) → j < n → In (held_at fs ts ls xs j) (held n fs ts ls xs)
  held_in j h = Memᴰ.cast (sym (held-at j h)) (get_or_in (held n fs ts ls xs) j no_link (omega (arith, held-length)))

-- all that refusals 1 to 5 leave of the sheet that the columns hold
pub record SheetFacts (b : List ℕ) (s : SheetHeld) (traffic fs ts ls xs : List ℕ) : Type 0 where
  pub sane : Sane (sheet_said s traffic fs ts ls xs)
  pub stand : bytes (sheet_said s traffic fs ts ls xs) ≡ b
  pub long : length b ≡ 8 + 6 * s.head.nodes + 8 * s.links
  pub two : 2 ≤ s.head.nodes
  pub few : s.head.nodes ≤ 64
  pub sink : s.head.destination < s.head.nodes
  pub step-low : 1 ≤ s.head.step.0
  pub step-top : s.head.step.0 ≤ largest_step
  pub figures : length (take s.head.nodes traffic) ≡ s.head.nodes
  pub many : s.links ≤ 512
  pub from_in : (j : ℕ) → j < s.links → get_or fs j 0 < s.head.nodes
  pub to_in : (j : ℕ) → j < s.links → get_or ts j 0 < s.head.nodes
  pub differ : (j : ℕ) → j < s.links → get_or fs j 0 ≡ get_or ts j 0 → ⊥
  pub part : (j : ℕ) → j < s.links → get_or xs j 0 ≤ whole
  pub rise : (j k : ℕ) → j < k → k < s.links → Less (held_at fs ts ls xs j) (held_at fs ts ls xs k)

module _ (b : List ℕ) (fit : AreBytes b) {s : SheetHeld} {e : ℕ} {traffic fs ts ls xs : List ℕ} where
  pub sheet_facts : sheet_alone b ≡ read (sheet_said s traffic fs ts ls xs) e → SheetFacts b s traffic fs ts ls xs
  sheet_facts q =
      let ok : Sane (sheet_said s traffic fs ts ls xs) = alone_sane b q fit in
      let n : ℕ = s.links in
      let count : length (held n fs ts ls xs) ≡ n = held-length n fs ts ls xs in
      let fits : (j : ℕ) → j < n → Fits s.head.nodes (held_at fs ts ls xs j) = λ j h. ok.fits (held_at fs ts ls xs j) (held_in n fs ts ls xs j h) in
      record {
        sane = ok;
        stand = alone-bytes b q fit;
        long = omega (arith, bytes-length (sheet_said s traffic fs ts ls xs), ap length (alone-bytes b q fit), ok.figures);
        two = ok.two;
        few = ok.few;
        sink = ok.sink;
        step-low = ok.step-low;
        step-top = ok.step-top;
        figures = ok.figures;
        many = omega (arith, ok.many);
        from_in = λ j h. (fits j h).from_in;
        to_in = λ j h. (fits j h).to_in;
        differ = λ j h. (fits j h).differ;
        part = λ j h. (fits j h).part;
        rise = λ j k p q. rises_less (held_at fs ts ls xs j) (held_at fs ts ls xs k)
            (rw (held-at n fs ts ls xs j (omega arith), held-at n fs ts ls xs k q) at (rising_at (held n fs ts ls xs) ok.rising j k p (omega (arith, count))));
      }

-- from what read_alone ensures, in the case that it read the sheet
pub given_facts : (b : List ℕ) → AreBytes b → {s : SheetHeld} {e : ℕ} {c : Columns} → SheetGiven (Ok (s, e)) (sheet_alone b) c
    → SheetFacts b s c.traffic c.from c.to c.load c.fraction
given_facts b fit g = sheet_facts b fit (sym g.said)

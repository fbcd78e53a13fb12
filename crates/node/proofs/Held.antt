-- What the lists say: each node's desk, a delivery, the outcome.
use Prim.Native.Nat.{ℕ, zero, suc, ◌+◌, ◌-◌, ◌/◌, ◌≤◌, ◌<◌}
use native.Mathlib.Omega.{arith}
use native.Mathlib.Decide.{ℕ_discrete, dec_lt}
use mathlib.Core.Path.{◌≡◌, sym, ap, ap₂, ◌∙◌, subst}
use mathlib.Core.List.{List, [], ◌∷◌, map, map-map, Memᴰ as In}
use lib.ListN.{length, get_or, take, drop, set, length-take, length-set, length-map, get_or-eq_default}
use lib.Seq.{ext_get_or, get_or-take, get_or-set_same, get_or-set_other}
use Rattle.rules.specs.Lists.{counted, below}
use Rattle.rules.specs.Sheet.{Link, Sheet, traffic_of, line_delay, with_fraction, with_links, largest_stored}
use Rattle.rules.specs.Desk.{Told, silent, Way, Desk, new_row, new_fraction}
use Rattle.rules.specs.Round.{way_of, desk_of, new_link}
use Rattle.rules.specs.Messages.{State, back, desk, outcome, no_link}
use Rattle.rules.proofs.Sound.{due_le}
use Rattle.rules.proofs.Lists.{from_at, table_at, counted-length, below_length, in_below, get_or_in, map_eq}
use Rattle.rules.specs.Check.{rises}
use Rattle.rules.proofs.Order.{rises-to}
use Rattle.rules.proofs.Local.{back-first}
use Rattle.desk.specs.Ways.{told_of, ways_from, ways_of, desk_with}
use Rattle.sheet.specs.declared.SheetHeld.{SheetHeld}
use Rattle.sheet.specs.Held.{held_at, held, sheet_said}
use Rattle.network.specs.Rows.{part}
use Rattle.network.proofs.Rows.{part_length, part-get_or}
use Rattle.sheet.proofs.Facts.{held-length, held-at, rising_at}
use Rattle.network.proofs.Rows.{row_range_lem, row_sum_lem, opposite-turns, opposite-first}
use Rattle.node.proofs.Rows.{ways-length}
use Rattle.node.specs.Net.{row_part, row_desk, RowAt, state_said, SmallInbox, RowsRise, Graph, Net, Lendable, Renewed}

no_way : Way
no_way = record { far = 0; line = 0; fraction = 0; word = silent }

-- ---- ways by their place
abbrev way_with : ℕ → ℕ → ℕ → Told → Way
way_with f l x w = record { far = f; line = l; fraction = x; word = w }

ways-at : (i p : ℕ) (fs ls xs ks : List ℕ) → p < length fs
    → get_or (ways_from i fs ls xs ks) p no_way ≡ way_with (get_or fs p 0) (get_or ls (i + p) 0) (get_or xs (i + p) 0) (told_of (get_or ks (i + p) 0))
ways-at i p [] ls xs ks h = absurd (omega arith)
ways-at i zero (f ∷ fs) ls xs ks h = ap (λ (k : ℕ). way_with f (get_or ls k 0) (get_or xs k 0) (told_of (get_or ks k 0))) (omega arith)
ways-at i (suc p) (f ∷ fs) ls xs ks h =
    ways-at (suc i) p fs ls xs ks (omega arith)
    ∙ ap (λ (k : ℕ). way_with (get_or fs p 0) (get_or ls k 0) (get_or xs k 0) (told_of (get_or ks k 0))) (omega arith)

-- what holds of every element, and of 0, holds of a part's
part_all : (P : ℕ → Type 0) → P 0 → (xs : List ℕ) → ((k : ℕ) → P (get_or xs k 0)) → (a e p : ℕ) → P (get_or (part xs a e) p 0)
part_all P z xs h a e p = go (dec_lt p (e - a))
  where
    short : (n : ℕ) (ys : List ℕ) → n ≤ p → get_or (take n ys) p 0 ≡ 0
    short n ys b = get_or-eq_default (take n ys) 0 (omega (arith, length-take n ys))

    go : Dec (p < e - a) → P (get_or (part xs a e) p 0)
    go (yes b) = subst P (sym (part-get_or xs a e p b)) (h (a + p))
    go (no b) = subst P (sym (short (e - a) (drop a xs) (omega arith))) z

-- ---- a state
module _ (count : ℕ) (os inbox : List ℕ) where
  pub state_length : length (state_said count os inbox) ≡ count
  state_length = length-map (below count) (λ j. told_of (get_or inbox (get_or os j 0) 0)) ∙ below_length count

  pub state_at : (j : ℕ) → j < count → get_or (state_said count os inbox) j silent ≡ told_of (get_or inbox (get_or os j 0) 0)
  state_at j h = table_at (λ j. told_of (get_or inbox (get_or os j 0) 0)) silent count j h

module _ {h : SheetHeld} {tr fs ts ls xs ss os : List ℕ} (graph : Graph h tr fs ts ls xs ss os) where
  pub links-few : h.links ≤ 512
  links-few = omega (arith, graph.sound.many, held-length h.links fs ts ls xs)

  pub turns : (j : ℕ) → j < h.links → get_or os (get_or os j 0) 0 ≡ j
  turns j a = opposite-turns ls xs graph.sound.rising graph.opposites a

  -- what node i hears over link j is in its own row
  pub back-held : (inbox : List ℕ) (j : ℕ) → j < h.links
      → back (held h.links fs ts ls xs) (state_said h.links os inbox) (held_at fs ts ls xs j) ≡ told_of (get_or inbox j 0)
  back-held inbox j a =
      back-first (held h.links fs ts ls xs) (held_at fs ts ls xs j) (opposite-first ls xs graph.sound.rising graph.opposites a) (state_said h.links os inbox)
      ∙ state_at h.links os inbox (get_or os j 0) (graph.opposites.low j a)
      ∙ ap (λ (k : ℕ). told_of (get_or inbox k 0)) (turns j a)

  pub held_in : (j : ℕ) → j < h.links → In (held_at fs ts ls xs j) (held h.links fs ts ls xs)
  held_in j a = subst (λ (l : Link). In l (held h.links fs ts ls xs)) (held-at h.links fs ts ls xs j a)
      (get_or_in (held h.links fs ts ls xs) j no_link (omega (arith, held-length h.links fs ts ls xs)))

  -- a message stored is a delivery's
  pub stored : (inbox : List ℕ) (j w : ℕ) → j < h.links → length inbox ≡ 512
      → state_said h.links os (set inbox (get_or os j 0) w) ≡ set (state_said h.links os inbox) j (told_of w)
  stored inbox j w a z = ext_get_or silent (state_said h.links os (set inbox (get_or os j 0) w)) (set (state_said h.links os inbox) j (told_of w))
      (state_length h.links os (set inbox (get_or os j 0) w) ∙ sym (length-set (state_said h.links os inbox) j (told_of w) ∙ state_length h.links os inbox))
      (λ k b. at k (omega (arith, state_length h.links os (set inbox (get_or os j 0) w))) (ℕ_discrete k j))
    where
      at : (k : ℕ) → k < h.links → Dec (k ≡ j)
          → get_or (state_said h.links os (set inbox (get_or os j 0) w)) k silent ≡ get_or (set (state_said h.links os inbox) j (told_of w)) k silent
      at k b (yes e) =
          state_at h.links os (set inbox (get_or os j 0) w) k b
          ∙ ap (λ (x : ℕ). told_of (get_or (set inbox (get_or os j 0) w) (get_or os x 0) 0)) e
          ∙ ap told_of (get_or-set_same inbox (get_or os j 0) w 0 (omega (arith, graph.opposites.low j a, links-few)))
          ∙ sym (get_or-set_same (state_said h.links os inbox) j (told_of w) silent (omega (arith, state_length h.links os inbox)))
          ∙ ap (λ (x : ℕ). get_or (set (state_said h.links os inbox) j (told_of w)) x silent) (sym e)
      at k b (no ne) =
          state_at h.links os (set inbox (get_or os j 0) w) k b
          ∙ ap told_of (get_or-set_other inbox (get_or os j 0) (get_or os k 0) w 0 (λ q. ne (sym (turns k b) ∙ ap (λ (x : ℕ). get_or os x 0) q ∙ turns j a)))
          ∙ sym (state_at h.links os inbox k b)
          ∙ sym (get_or-set_other (state_said h.links os inbox) j k (told_of w) silent ne)

module _ {h : SheetHeld} {tr fs ts ls xs ss gs ps os line : List ℕ} (net : Net h tr fs ts ls xs ss gs ps os line) where
  abbrev s : Sheet
  s = sheet_said h tr fs ts ls xs

  module _ (inbox : List ℕ) (size : length inbox ≡ 512) (i : ℕ) (low : i < h.head.nodes) where
    abbrev a : ℕ
    a = get_or ss i 0

    abbrev e : ℕ
    e = get_or ss (i + 1) 0

    end_in : e ≤ h.links
    end_in = net.graph.rows.top (i + 1) (omega arith)

    abbrev st : State
    st = state_said h.links os inbox

    pub way_held : (p : ℕ) → p < e - a
        → way_of (back (held h.links fs ts ls xs) st) (held_at fs ts ls xs (a + p))
        ≡ way_with (get_or (row_part ss ts i) p 0) (get_or (row_part ss line i) p 0) (get_or (row_part ss xs i) p 0) (told_of (get_or (row_part ss inbox i) p 0))
    way_held p b =
        let j : a + p < h.links = omega (arith, end_in) in
        let far : get_or ts (a + p) 0 ≡ get_or (row_part ss ts i) p 0 = sym (part-get_or ts a e p b) in
        let own : line_delay (get_or ls (a + p) 0) ≡ get_or (row_part ss line i) p 0 = sym (net.line-right (a + p) j) ∙ sym (part-get_or line a e p b) in
        let part : get_or xs (a + p) 0 ≡ get_or (row_part ss xs i) p 0 = sym (part-get_or xs a e p b) in
        let word : back (held h.links fs ts ls xs) st (held_at fs ts ls xs (a + p)) ≡ told_of (get_or (row_part ss inbox i) p 0) =
        back-held net.graph inbox (a + p) j ∙ ap told_of (sym (part-get_or inbox a e p b)) in
        ap (λ (f : ℕ). way_with f (line_delay (get_or ls (a + p) 0)) (get_or xs (a + p) 0) (back (held h.links fs ts ls xs) st (held_at fs ts ls xs (a + p)))) far
        ∙ ap (λ (l : ℕ). way_with (get_or (row_part ss ts i) p 0) l (get_or xs (a + p) 0) (back (held h.links fs ts ls xs) st (held_at fs ts ls xs (a + p)))) own
        ∙ ap₂ (λ (x : ℕ) (w : Told). way_with (get_or (row_part ss ts i) p 0) (get_or (row_part ss line i) p 0) x w) part word

    -- a node's ways, by their places
    abbrev ways : List Way
    ways = map (way_of (back (held h.links fs ts ls xs) st)) (map (held_at fs ts ls xs) (counted a (e - a)))

    ways-size : length ways ≡ e - a
    ways-size =
        length-map (map (held_at fs ts ls xs) (counted a (e - a))) (way_of (back (held h.links fs ts ls xs) st))
        ∙ length-map (counted a (e - a)) (held_at fs ts ls xs) ∙ counted-length a (e - a)

    ways-same : ways ≡ ways_of (row_part ss ts i) (row_part ss line i) (row_part ss xs i) (row_part ss inbox i)
    ways-same =
        let fars : length (row_part ss ts i) ≡ e - a = part_length ts a e (omega (arith, end_in, links-few net.graph, net.graph.to-size)) in
        ext_get_or no_way ways (ways_of (row_part ss ts i) (row_part ss line i) (row_part ss xs i) (row_part ss inbox i))
        (ways-size ∙ sym (ways-length 0 (row_part ss ts i) (row_part ss line i) (row_part ss xs i) (row_part ss inbox i) ∙ fars))
        (λ p b. let q : p < e - a = omega (arith, ways-size) in at p q ∙ sym (ways-at 0 p (row_part ss ts i) (row_part ss line i) (row_part ss xs i) (row_part ss inbox i) (omega arith) ∙ zero p))
      where
        at : (p : ℕ) → p < e - a
            → get_or ways p no_way ≡ way_with (get_or (row_part ss ts i) p 0) (get_or (row_part ss line i) p 0) (get_or (row_part ss xs i) p 0) (told_of (get_or (row_part ss inbox i) p 0))
        at p b =
            ap (λ (ws : List Way). get_or ws p no_way) (map-map (way_of (back (held h.links fs ts ls xs) st)) (held_at fs ts ls xs) (counted a (e - a)))
            ∙ from_at (λ j. way_of (back (held h.links fs ts ls xs) st) (held_at fs ts ls xs j)) no_way a (e - a) p b ∙ way_held p b

        zero : (p : ℕ)
            → way_with (get_or (row_part ss ts i) p 0) (get_or (row_part ss line i) (0 + p) 0) (get_or (row_part ss xs i) (0 + p) 0) (told_of (get_or (row_part ss inbox i) (0 + p) 0))
            ≡ way_with (get_or (row_part ss ts i) p 0) (get_or (row_part ss line i) p 0) (get_or (row_part ss xs i) p 0) (told_of (get_or (row_part ss inbox i) p 0))
        zero p = ap (λ (k : ℕ). way_with (get_or (row_part ss ts i) p 0) (get_or (row_part ss line i) k 0) (get_or (row_part ss xs i) k 0) (told_of (get_or (row_part ss inbox i) k 0))) (omega arith)

    -- node i's desk is its row
    pub desk-held : desk s st i ≡ row_desk h.head.step.0 (get_or tr i 0) ss ts line xs inbox i
    desk-held =
        ap (λ (ls' : List Link). desk_with h.head.step.0 (traffic_of s i) (map (way_of (back (held h.links fs ts ls xs) st)) ls')) (row_range_lem net.graph.rows low ts ls xs)
        ∙ ap₂ (λ (t : ℕ) (ws : List Way). desk_with h.head.step.0 t ws) (get_or-take h.head.nodes tr i 0 low) ways-same

    -- and can be lent to it
    pub row-held : SmallInbox inbox → RowAt i ss gs ps line xs inbox
    row-held small = record {
      node = omega (arith, net.graph.sound.few);
      rise = net.graph.rows.rise i low;
      in_lines = omega (arith, end_in, links-few net.graph, net.line-size);
      in_fractions = omega (arith, end_in, links-few net.graph, net.graph.fraction-size);
      in_inbox = omega (arith, end_in, links-few net.graph, size);
      flow-rise = net.flow.rise i low;
      in_flow = omega (arith, net.flow.top (i + 1) (omega arith), net.flow-size);
      row = record {
        lines = part_length line a e (omega (arith, end_in, links-few net.graph, net.line-size)) ∙ sym wide;
        words = part_length inbox a e (omega (arith, end_in, links-few net.graph)) ∙ sym wide;
        few = omega (arith, wide, end_in, links-few net.graph);
        line_small = part_all (λ (x : ℕ). x ≤ 1048576) (omega arith) line net.line_small a e;
        told-small = part_all (λ (x : ℕ). x / 4 ≤ largest_stored) (omega arith) inbox small a e;
        parts = omega (arith, row_sum_lem net.graph.rows low ts ls xs (omega (arith, links-few net.graph, net.graph.fraction-size)), net.graph.sound.sums i low, due_le s i);
        flow = net.flow.places i low;
      };
    }
      where
        wide : length (row_part ss xs i) ≡ e - a
        wide = part_length xs a e (omega (arith, end_in, links-few net.graph, net.graph.fraction-size))

    -- its new row, place by place
    new_at : (p : ℕ) → p < e - a
        → get_or (new_row (desk s st i)) p 0 ≡ new_fraction (desk s st i) (way_of (back (held h.links fs ts ls xs) st) (held_at fs ts ls xs (a + p)))
    new_at p b =
        let d : Desk = desk s st i in
        let f : Link → Way = way_of (back (held h.links fs ts ls xs) st) in
        ap (λ (ls' : List Link). get_or (map (new_fraction d) (map f ls')) p 0) (row_range_lem net.graph.rows low ts ls xs)
        ∙ ap (λ (ws : List ℕ). get_or ws p 0) (map-map (new_fraction d) f (map (held_at fs ts ls xs) (counted a (e - a)))
        ∙ map-map (λ l. new_fraction d (f l)) (held_at fs ts ls xs) (counted a (e - a)))
        ∙ from_at (λ j. new_fraction d (f (held_at fs ts ls xs j))) 0 a (e - a) p b

  -- what each link's far node told
  abbrev told_in : List ℕ → Link → Told
  told_in inbox = back (held h.links fs ts ls xs) (state_said h.links os inbox)

  -- the new rows are the outcome of the state
  pub outcome-held : (inbox ys : List ℕ) → length inbox ≡ 512 → Renewed h.head.step.0 h.head.nodes tr ss ts line xs inbox ys
      → sheet_said h tr fs ts ls ys ≡ outcome s (state_said h.links os inbox)
  outcome-held inbox ys z new =
      ap (with_links s) (map_eq (held_at fs ts ls ys) (λ j. new_link s (told_in inbox) (held_at fs ts ls xs j)) (below h.links) (λ k m. ap (with_fraction (held_at fs ts ls xs k)) (at k (in_below h.links m)))
      ∙ sym (map-map (new_link s (told_in inbox)) (held_at fs ts ls xs) (below h.links)))
    where
      at : (k : ℕ) → k < h.links → get_or ys k 0 ≡ new_fraction (desk_of s (told_in inbox) (get_or fs k 0)) (way_of (told_in inbox) (held_at fs ts ls xs k))
      at k b =
          let i : ℕ = get_or fs k 0 in
          let r = net.graph.rows.found k b in
          let low : i < h.head.nodes = (net.graph.sound.fits (held_at fs ts ls xs k) (held_in net.graph k b)).from_in in
          let p : k - get_or ss i 0 < get_or ss (i + 1) 0 - get_or ss i 0 = omega arith in
          let e : get_or ss i 0 + (k - get_or ss i 0) ≡ k = omega arith in
          ap (λ (x : ℕ). get_or ys x 0) (sym e)
          ∙ new.rows i (k - get_or ss i 0) low p
          ∙ ap (λ (d : Desk). get_or (new_row d) (k - get_or ss i 0) 0) (sym (desk-held inbox z i low))
          ∙ new_at inbox z i low (k - get_or ss i 0) p
          ∙ ap (λ (x : ℕ). new_fraction (desk_of s (told_in inbox) i) (way_of (told_in inbox) (held_at fs ts ls xs x))) e

-- ---- for every node at once
module _ {h : SheetHeld} {tr fs ts ls xs ss gs ps os line : List ℕ} (net : Net h tr fs ts ls xs ss gs ps os line) where
  -- the far nodes of a row rise, as its links do
  pub far-rise : (i : ℕ) → i < h.head.nodes → RowsRise i ss ts
  far-rise i low = record {
    inside = omega (arith, end, links-few net.graph, net.graph.to-size);
    rises = λ p q b c.
        let y : q < e - a = omega (arith, part_length ts a e (omega (arith, end, links-few net.graph, net.graph.to-size))) in
        let x : p < e - a = omega arith in
        omega (arith, part-get_or ts a e p x, part-get_or ts a e q y, later (a + p) (a + q) (omega arith) (omega arith) (omega arith));
  }
    where
      a : ℕ
      a = get_or ss i 0

      e : ℕ
      e = get_or ss (i + 1) 0

      end : e ≤ h.links
      end = net.graph.rows.top (i + 1) (omega arith)

      later : (j k : ℕ) → a ≤ j → j < k → k < e → get_or ts j 0 < get_or ts k 0
      later j k c d f =
          let links : List Link = held h.links fs ts ls xs in
          let g : k < h.links = omega (arith, end) in
          let same : get_or fs j 0 ≡ get_or fs k 0 = net.graph.rows.inside i j low c (omega arith) ∙ sym (net.graph.rows.inside i k low (omega arith) f) in
          rises-to (held_at fs ts ls xs j) (held_at fs ts ls xs k) same
          (ap₂ rises (sym (held-at h.links fs ts ls xs j (omega arith))) (sym (held-at h.links fs ts ls xs k g))
          ∙ rising_at links net.graph.sound.rising j k d (omega (arith, held-length h.links fs ts ls xs)))

  pub lendable : (inbox : List ℕ) → length inbox ≡ 512 → SmallInbox inbox → Lendable h.head.nodes ss gs ps line xs inbox
  lendable inbox z small = record { rows = λ i low. row-held net inbox z i low small }

-- What the code's answers say, and the links that the columns hold.
use Rattle.std.specs.Prelude.{ℕ, zero, suc, ◌+◌, ◌*◌, ◌≤◌, ◌<◌, ◌≡◌, List, ◌++◌, map, length, get_or, take, drop, replicate, Option, Some, None, Result, Ok, Err, IfOk}
use Rattle.rules.specs.Lists.{below, Place, nowhere, at}
use Rattle.rules.specs.Sheet.{Link, Sheet}
use Rattle.rules.specs.Bytes.{link_records, bytes}
use Rattle.rules.specs.Check.{Read, wrong, read, Head, Item, the_end, link, item_at, links_from, sheet_with}
use Rattle.answers.specs.declared.Refusal.{Refusal}
use Rattle.answers.specs.Answers.{number_of, place_of}
use Rattle.sheet.specs.declared.Kind.{Kind}
use Rattle.sheet.specs.declared.HeadHeld.{HeadHeld}
use Rattle.sheet.specs.declared.LinkHeld.{LinkHeld}
use Rattle.sheet.specs.declared.Columns.{Columns}
use Rattle.sheet.specs.declared.LinksTaken.{LinksTaken}
use Rattle.sheet.specs.declared.SheetHeld.{SheetHeld}

-- ---- what the code's values say
-- a refusal says its number and place, and a value what it is read as
abbrev pub read_said : {A B : Type 0} → (A → Read B) → Result A Refusal → Read B
read_said reads (Ok x) = reads x
read_said reads (Err r) = wrong (number_of r) (place_of r)

-- the byte that begins a record of the kind
abbrev pub kind_number : Kind → ℕ
kind_number Kind.Head = 1
kind_number Kind.Node = 2
kind_number Kind.Link = 3
kind_number Kind.End = 9

abbrev pub head_said : HeadHeld → Head
head_said h = record { nodes = h.nodes; destination = h.destination; step = h.step.0 }

abbrev pub link_said : LinkHeld → Link
link_said l = record { from = l.from; to = l.to; load = l.load; fraction = l.fraction.0 }

abbrev pub link_of : ℕ → ℕ → ℕ → ℕ → Link
link_of f t d x = record { from = f; to = t; load = d; fraction = x }

-- where a link is due
abbrev pub item_said : Option LinkHeld → Item
item_said None = the_end
item_said (Some l) = link (link_said l)

-- ---- what the columns hold
-- all 0: nothing is read yet
unfoldable pub no_columns : Columns
no_columns = record { traffic = replicate 64 0; from = replicate 512 0; to = replicate 512 0; load = replicate 512 0; fraction = replicate 512 0 }

-- the link at place i of the four lists
abbrev pub held_at : List ℕ → List ℕ → List ℕ → List ℕ → ℕ → Link
held_at fs ts ls xs i = record { from = get_or fs i 0; to = get_or ts i 0; load = get_or ls i 0; fraction = get_or xs i 0 }

-- the first k, in order
abbrev pub held : ℕ → List ℕ → List ℕ → List ℕ → List ℕ → List Link
held k fs ts ls xs = map (held_at fs ts ls xs) (below k)

abbrev pub links_in : ℕ → Columns → List Link
links_in k c = held k c.from c.to c.load c.fraction

-- the last of them
abbrev pub last_held : ℕ → List ℕ → List ℕ → List ℕ → List ℕ → Option Link
last_held zero fs ts ls xs = None
last_held (suc k) fs ts ls xs = Some (held_at fs ts ls xs k)

-- a link's place in the order of (from, to), where both are bytes
abbrev pub key_of : ℕ → ℕ → ℕ
key_of f t = f * 256 + t

-- for how many link records there is room behind an offset, at most 512
pub record LinkRoom (r : ℕ) (b : List ℕ) (start : ℕ) : Type 0 where
  pub cap : r ≤ 512
  pub fits : (k : ℕ) → k < r → start + 8 * k + 8 ≤ length b
  pub ends : (k : ℕ) → r ≤ k → k < 512 → length b < start + 8 * k + 8

-- what the whole reading says, by what stands at the offset o where the links taken end
abbrev pub stopped : Read Item → ℕ → List Link → Read (List Link)
stopped (wrong m p) o ls = wrong m p
stopped (read the_end e) o ls = read ls e
stopped (read (link l) e) o ls = wrong 4 o

pub record TakenHeld (r : LinksTaken) (b : List ℕ) (start n : ℕ) (c : Columns) : Type 0 where
  pub said : stopped (item_at b r.behind n) r.behind (links_in r.count c) ≡ links_from 512 b start n None
  pub room : r.count ≤ 512

-- what is read behind the head's nodes
pub record LinksHeld (r : Result LinksTaken Refusal) (b : List ℕ) (start n : ℕ) (c : Columns) : Type 0 where
  pub said : read_said (λ t. read (links_in t.count c) t.behind) r ≡ links_from 512 b start n None
  pub room : IfOk r (λ t. t.count ≤ 512)

-- ---- a whole sheet
-- the columns are as long as their type says, for a caller that lends them again
pub record Lent (c : Columns) : Type 0 where
  pub nodes : length c.traffic ≡ 64
  pub froms : length c.from ≡ 512
  pub tos : length c.to ≡ 512
  pub loads : length c.load ≡ 512
  pub fractions : length c.fraction ≡ 512

abbrev pub sheet_said : SheetHeld → List ℕ → List ℕ → List ℕ → List ℕ → List ℕ → Sheet
sheet_said s traffic fs ts ls xs = sheet_with (head_said s.head) (take s.head.nodes traffic) (held s.links fs ts ls xs)

-- the sheet that the columns hold
abbrev pub sheet_in : SheetHeld → Columns → Sheet
sheet_in s c = sheet_said s c.traffic c.from c.to c.load c.fraction

-- the answer says what the definition reads
pub record SheetGiven (r : Result (SheetHeld × ℕ) Refusal) (due : Read Sheet) (c : Columns) : Type 0 where
  pub said : read_said (λ p. read (sheet_in p.0 c) p.1) r ≡ due
  pub room : IfOk r (λ p. p.0.links ≤ 512)

-- ---- a first place
abbrev pub found_said : Option ℕ → Place
found_said None = nowhere
found_said (Some k) = at k

-- ---- the sheet written again
-- w over what stands at offset o of d
abbrev pub patched : ℕ → List ℕ → List ℕ → List ℕ
patched o w d = take o d ++ (w ++ drop (o + length w) d)

-- where link records stand at offset start of old, new has the same with the fractions xs, and all else as it stood
pub record Filled (start count : ℕ) (xs old new : List ℕ) : Type 0 where
  pub said : (front fs ts ls ys behind : List ℕ) → length front ≡ start → old ≡ front ++ (link_records (held count fs ts ls ys) ++ behind)
      → new ≡ front ++ (link_records (held count fs ts ls xs) ++ behind)

pub record WriteAsked (h : SheetHeld) (b out : List ℕ) : Type 0 where
  pub few : h.links ≤ 512
  pub nodes : h.head.nodes ≤ 64
  pub room : length b ≤ length out
  pub long : length b ≡ 8 + 6 * h.head.nodes + 8 * h.links

-- where b is a sheet with any fractions ys, new begins with the bytes of that sheet with the fractions xs, and stays as old behind them
pub record FractionsWritten (h : SheetHeld) (b xs old new : List ℕ) : Type 0 where
  pub said : (traffic fs ts ls ys : List ℕ) → bytes (sheet_said h traffic fs ts ls ys) ≡ b
      → new ≡ bytes (sheet_said h traffic fs ts ls xs) ++ drop (length b) old

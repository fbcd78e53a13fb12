-- The links as one list of records: the one at a place, a node's row, and the opposite.
use Rattle.std.specs.Prelude.{ℕ, ◌+◌, ◌<◌, ◌≡◌, Bool, List, map, ltb, length, get_or}
use Rattle.std.specs.List.{prefix_len}
use Rattle.rules.specs.Sheet.{Link as SheetLink, opposite}
use Rattle.sheet.specs.declared.Columns.{Columns}
use Rattle.links.specs.declared.Link.{Link}
use Rattle.links.specs.declared.RowRange.{RowRange}

-- the sheet's link that a record says
abbrev pub link_said : Link → SheetLink
link_said l = record { from = l.from; to = l.to; load = l.load; fraction = l.fraction.0 }

abbrev pub record_of : ℕ → ℕ → ℕ → ℕ → Link
record_of f t d x = record { kind = 3; from = f; to = t; load = d; fraction = record { 0 = x } }

-- what stands where there is no link
abbrev pub no_link : Link
no_link = record { kind = 0; from = 0; to = 0; load = 0; fraction = record { 0 = 0 } }

-- the link at a place
abbrev pub link_at : List Link → ℕ → Link
link_at ls j = get_or ls j no_link

-- the near nodes and the fractions of a list
abbrev pub froms : List Link → List ℕ
froms ls = map (λ l. l.from) ls

abbrev pub fractions : List Link → List ℕ
fractions ls = map (λ l. l.fraction.0) ls

-- the first place of a link from node i or a higher one; the list's length where there is none
abbrev pub row_start : ℕ → List Link → ℕ
row_start i ls = prefix_len (λ l. ltb l.from i) ls

-- node i's row, where links rise by from: from its first link up to the first of a higher node
abbrev pub row_range : ℕ → List Link → RowRange
row_range i ls = record { start = row_start i ls; end = row_start (i + 1) ls }

-- the link at k is the opposite of the link at j
abbrev pub turns_at : List Link → ℕ → ℕ → Bool
turns_at ls j k = opposite (link_said (link_at ls j)) (link_said (link_at ls k))

-- the list of the links that stand in four lists
pub record Listed (count : ℕ) (fs ts ds xs : List ℕ) (r : List Link) : Type 0 where
  pub size : length r ≡ 512
  pub each : (j : ℕ) → j < count → link_at r j ≡ record_of (get_or fs j 0) (get_or ts j 0) (get_or ds j 0) (get_or xs j 0)

-- the list of the links that stand in a sheet's columns
abbrev pub ListedIn : ℕ → Columns → List Link → Type 0
ListedIn count columns r = Listed count columns.from columns.to columns.load columns.fraction r

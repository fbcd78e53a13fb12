-- A row in the code: lists of one length, and the places that flow. The ways that they hold, and what a row has to keep to.
use Rattle.std.specs.Prelude.{ℕ, suc, ◌/◌, ◌%◌, ◌≤◌, ◌<◌, ◌≡◌, cond, List, [], ◌∷◌, length, get_or, eqb}
use Rattle.rules.specs.Lists.{total, flowing}
use Rattle.rules.specs.Sheet.{whole, largest_stored}
use Rattle.rules.specs.Desk.{Told, silent, told, Way, Desk}
use Rattle.desk.specs.declared.Message.{Message}

-- a word is kept as one number: 0 while the far node is silent; else four times the delay it told, and 1, and 2 more with the blocked mark
abbrev pub told_of : ℕ → Told
told_of x = cond (eqb x 0) silent (told (x / 4) (eqb (x / 2 % 2) 1))

abbrev pub message_said : Message → Told
message_said m = told m.delay.0 m.blocked

-- far node, line, fraction, the word's number
abbrev pub way_of : ℕ → ℕ → ℕ → ℕ → Way
way_of f l x k = record { far = f; line = l; fraction = x; word = told_of k }

-- a way for each far node: the i-th and those after it, with what stands at its place in the other lists
abbrev pub ways_from : ℕ → List ℕ → List ℕ → List ℕ → List ℕ → List Way
ways_from i [] ls xs ks = []
ways_from i (f ∷ fs) ls xs ks = way_of f (get_or ls i 0) (get_or xs i 0) (get_or ks i 0) ∷ ways_from (suc i) fs ls xs ks

-- far nodes, lines, fractions, words
abbrev pub ways_of : List ℕ → List ℕ → List ℕ → List ℕ → List Way
ways_of fs ls xs ks = ways_from 0 fs ls xs ks

-- step, traffic, ways
abbrev pub desk_with : ℕ → ℕ → List Way → Desk
desk_with s t ws = record { step = s; traffic = t; ways = ws }

abbrev pub sum_of : List ℕ → ℕ
sum_of xs = total (λ x. x) xs

-- what a row has to keep to, in false states too: lines, fractions, words, the places that flow
pub record Row (ls xs ks ps : List ℕ) : Type 0 where
  pub lines : length ls ≡ length xs
  pub words : length ks ≡ length xs
  pub few : length xs ≤ 512
  pub line_small : (i : ℕ) → get_or ls i 0 ≤ 1048576
  pub told-small : (i : ℕ) → get_or ks i 0 / 4 ≤ largest_stored
  pub parts : sum_of xs ≤ whole
  pub flow : ps ≡ flowing xs

-- far nodes rise strictly
abbrev pub Rises : List ℕ → Type 0
Rises fs = (i j : ℕ) → i < j → j < length fs → get_or fs i 0 < get_or fs j 0

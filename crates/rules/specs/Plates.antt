-- The starred plates of document 01, in one table under one claim.
use Rattle.std.specs.Prelude.{ℕ, ◌-◌, ◌*◌, ◌≡◌, refl, Bool, true, false, ◌&&◌, List, [], ◌∷◌, map, length, get_or, set, replicate, eqb}
use Rattle.rules.specs.Lists.{every, bit, below}
use Rattle.rules.specs.Sheet.{Link, Sheet, traffic_of, line_delay}
use Rattle.rules.specs.Bytes.{bytes}
use Rattle.rules.specs.Check.{nodes_from, links_from}
use Rattle.rules.specs.Desk.{Told, silent, told, delay_told, mark_told, message, new_row}
use Rattle.rules.specs.Round.{full_desk, md, is_blocked, c, is_improper, next}
use Rattle.rules.specs.Messages.{State, start, desk, link_of, deliver, outcome, house}
use Rattle.rules.specs.Calls.{Reply, refusal, answer, over, check_reply, next_reply, frames_of, play_reply, frame_reply}

abbrev link : ℕ → ℕ → ℕ → ℕ → Link
link a b k f = record { from = a; to = b; load = k; fraction = f }

-- three nodes, destination 0, all six links
abbrev net : ℕ → List ℕ → ℕ → ℕ → ℕ → ℕ → ℕ → ℕ → Sheet
net s ts k10 k20 f10 f12 f20 f21 =
    record {
      nodes = 3;
      destination = 0;
      step = s;
      traffic = ts;
      links = link 0 1 0 0 ∷ link 0 2 0 0 ∷ link 1 0 k10 f10 ∷ link 1 2 0 f12 ∷ link 2 0 k20 f20 ∷ link 2 1 0 f21 ∷ [];
    }

-- with traffic t at node 1
abbrev plate_at : ℕ → Sheet
plate_at t = net 64 (5 ∷ t ∷ 5 ∷ []) 192 0 65536 0 65536 0

abbrev pub plate_a : Sheet
plate_a = plate_at 2

-- with the fractions of case 1
abbrev routed_a : Sheet
routed_a = net 64 (5 ∷ 2 ∷ 5 ∷ []) 192 0 58368 7168 65536 0

-- with step s
abbrev pub plate_b : ℕ → Sheet
plate_b s = net s (5 ∷ 1 ∷ 100 ∷ []) 0 192 32768 32768 65536 0

abbrev looped : Sheet
looped = net 64 (5 ∷ 2 ∷ 5 ∷ []) 192 0 0 65536 0 65536

abbrev delays : Sheet → List ℕ
delays s = map (md s) (below s.nodes)

abbrev marks : Sheet → List ℕ
marks s = map (λ i. bit (is_blocked s i)) (below s.nodes)

abbrev fractions : Sheet → List ℕ
fractions s = map (λ l. l.fraction) s.links

abbrev new_fractions : Sheet → List ℕ
new_fractions s = fractions (next s)

-- the two products that "improper" compares at link j, and what it says
abbrev products : Sheet → ℕ → List ℕ
products s j =
    let l : Link = link_of s j in
    l.fraction * traffic_of s l.from ∷ s.step * (c s l - md s l.from)
    ∷ bit (is_improper s l) ∷ []

-- no refusal has the number 0
abbrev shown : Reply → List ℕ
shown (refusal n p) = n ∷ p ∷ []
shown (answer n xs) = 0 ∷ n ∷ xs

abbrev play : Sheet → List ℕ → List ℕ
play s js = shown (play_reply (bytes s) js 74)

-- everything delivered, with the calculation's values
abbrev all_delivered : Sheet → State
all_delivered s = map (λ l. message (full_desk s l.from)) s.links

-- what is sent on link j in a state
abbrev sent : Sheet → State → ℕ → List ℕ
sent s st j =
    let w : Told = get_or (deliver s st j) j silent in
    delay_told w ∷ bit (mark_told w) ∷ []

-- case, what the rules give, what document 01 says
pub record Plate : Type 0 where
  pub case : ℕ
  pub got : List ℕ
  pub due : List ℕ

abbrev plate : ℕ → List ℕ → List ℕ → Plate
plate n g d = record { case = n; got = g; due = d }

abbrev same : List ℕ → List ℕ → Bool
same [] [] = true
same [] (y ∷ ys) = false
same (x ∷ xs) [] = false
same (x ∷ xs) (y ∷ ys) = eqb x y && same xs ys

abbrev table : List Plate
table =
    -- 0, the marginal delays that the document names; and plate A has 74 bytes
    plate 0 (map line_delay (0 ∷ 128 ∷ 192 ∷ 224 ∷ 240 ∷ 255 ∷ [])) (16 ∷ 64 ∷ 256 ∷ 1024 ∷ 4096 ∷ 1048576 ∷ [])
    ∷ plate 0 (length (bytes plate_a) ∷ []) (74 ∷ [])
    ∷ plate 1 (delays plate_a) (0 ∷ 256 ∷ 16 ∷ [])
    ∷ plate 1 (new_fractions plate_a) (0 ∷ 0 ∷ 58368 ∷ 7168 ∷ 65536 ∷ 0 ∷ [])
    ∷ plate 2 (new_fractions (plate_at 0)) (0 ∷ 0 ∷ 0 ∷ 65536 ∷ 65536 ∷ 0 ∷ [])
    ∷ plate 3 (delays (plate_b 256)) (0 ∷ 144 ∷ 256 ∷ [])
    ∷ plate 3 (products (plate_b 256) 3) (32768 ∷ 32768 ∷ 1 ∷ [])
    ∷ plate 3 (marks (plate_b 256)) (0 ∷ 1 ∷ 0 ∷ [])
    ∷ plate 3 (c (plate_b 256) (link_of (plate_b 256) 5) ∷ []) (160 ∷ [])
    ∷ plate 3 (new_fractions (plate_b 256)) (0 ∷ 0 ∷ 65536 ∷ 0 ∷ 65536 ∷ 0 ∷ [])
    ∷ plate 4 (marks (plate_b 257)) (0 ∷ 0 ∷ 0 ∷ [])
    ∷ plate 4 (new_fractions (plate_b 257)) (0 ∷ 0 ∷ 65536 ∷ 0 ∷ 65290 ∷ 246 ∷ [])
    ∷ plate 5 (house plate_a) (0 ∷ 1 ∷ 3 ∷ 4 ∷ 5 ∷ 2 ∷ [])
    ∷ plate 6 (play plate_a (2 ∷ [])) (10 ∷ 0 ∷ [])
    ∷ plate 6 (play plate_a (0 ∷ 0 ∷ [])) (10 ∷ 1 ∷ [])
    ∷ plate 6 (play plate_a (6 ∷ [])) (12 ∷ 0 ∷ [])
    ∷ plate 6 (play plate_a []) (11 ∷ 0 ∷ [])
    ∷ plate 6 (shown (frame_reply (bytes plate_a) [] 18))
    (0 ∷ 18 ∷ 1 ∷ 0 ∷ 0 ∷ 0 ∷ 0 ∷ 0 ∷ 0 ∷ 0 ∷ 0 ∷ 0 ∷ 0 ∷ 0 ∷ 0 ∷ 0 ∷ 0 ∷ 0 ∷ 0 ∷ 0 ∷ [])
    ∷ plate 7 (shown (check_reply (bytes looped))) (8 ∷ 1 ∷ [])
    -- 9, false states: only (0,1) delivered, and 100 stored there: what goes on (1,2)
    ∷ plate 9 (sent plate_a (set (start plate_a) 0 (told 100 false)) 3) (356 ∷ 0 ∷ [])
    -- everything delivered, but 100, unmarked, on (2,1): node 1's row
    ∷ plate 9 (new_row (desk plate_a (set (all_delivered plate_a) 5 (told 100 false)) 1)) (61056 ∷ 4480 ∷ [])
    -- 10, our own, for mistakes that those do not show: the floor alone is the rule (144.5 here); the best may be a blocked node
    ∷ plate 10 (sent (plate_b 256) (set (all_delivered (plate_b 256)) 0 (told 1 false)) 3) (144 ∷ 1 ∷ [])
    ∷ plate 10 (new_row (desk (plate_b 256) (set (all_delivered (plate_b 256)) 0 (told 0 true)) 1)) (65536 ∷ 0 ∷ [])
    -- 11, what Frame and Play take from those false states
    ∷ plate 11 (frames_of plate_a (set (start plate_a) 0 (told 100 false)) (1 ∷ [])) (1 ∷ 0 ∷ 0 ∷ 0 ∷ 1 ∷ 100 ∷ [])
    ∷ plate 11 (fractions (outcome plate_a (set (all_delivered plate_a) 5 (told 100 false)))) (0 ∷ 0 ∷ 61056 ∷ 4480 ∷ 65536 ∷ 0 ∷ [])
    -- 12, the bytes that Next and Play write; a list that goes wrong in an output too short; a buffer after Frame, and after a refusal
    ∷ plate 12 (shown (next_reply (bytes plate_a) 74)) (0 ∷ 74 ∷ bytes routed_a)
    ∷ plate 12 (play plate_a (house plate_a)) (0 ∷ 74 ∷ bytes routed_a)
    ∷ plate 12 (shown (play_reply (bytes plate_a) (6 ∷ []) 73)) (9 ∷ 74 ∷ [])
    ∷ plate 12 (over (frame_reply (bytes plate_a) (0 ∷ []) 20) (replicate 20 7))
    (1 ∷ 0 ∷ 0 ∷ 0 ∷ 0 ∷ 0 ∷ 1 ∷ 0 ∷ 0 ∷ 0 ∷ 1 ∷ 0 ∷ 0 ∷ 0 ∷ 0 ∷ 0 ∷ 0 ∷ 0 ∷ 7 ∷ 7 ∷ [])
    ∷ plate 12 (over (frame_reply (bytes plate_a) (0 ∷ []) 17) (replicate 3 7)) (7 ∷ 7 ∷ 7 ∷ [])
    ∷ []

pub plates : every (λ p. same p.got p.due) table ≡ true
unfolding nodes_from links_from
plates = refl

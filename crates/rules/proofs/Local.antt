-- Locality, for every sheet and every state, false ones too: a node works from its own records and what is stored on its links in.
use Prim.Native.Nat.{ℕ, zero, suc, ◌/◌, ◌≤◌, ◌<◌}
use native.Mathlib.Omega.{arith}
use native.Mathlib.Nat.{zero-mul}
use mathlib.Core.Path.{◌≡◌, refl, sym, ap, ap₂, ◌∙◌}
use mathlib.Core.Logic.{◌⊎◌, inl, inr, ◌≢◌}
use mathlib.Core.Bool.{true, false}
use mathlib.Core.List.Memᴰ.{head as here}
use mathlib.Core.List.Memᴰ.{tail as there}
use mathlib.Core.List.{List, [], ◌∷◌, map, Memᴰ as In}
use lib.ListN.{length, get_or}
use lib.Seq.{get_or-set_other}
use lib.Dec.{eqb}
use borrow.Author.Tests.{eqb-true}
use Rattle.rules.specs.Lists.{exists, keep, at, first}
use Rattle.rules.specs.Sheet.{Link, Sheet, whole, flows, opposite, row_of, traffic_of}
use Rattle.rules.specs.Desk.{Told, silent, heard, told, delay_told, Way, Desk, carries, cost, weighed, delay, blocks, blocked, message}
use Rattle.rules.specs.Round.{way_of, desk_from}
use Rattle.rules.specs.Messages.{State, back, desk, no_link, link_of, sender, deliver}
use Rattle.rules.proofs.Tests.{known, clash, and_gives, or_fails}
use Rattle.rules.proofs.Lists.{total-keep, exists-keep, map_eq}
use Rattle.rules.proofs.First.{first_iff}
use Rattle.rules.proofs.Sound.{row_from}
use Rattle.rules.proofs.Desk.{dry}

-- ---- delay and mark follow from the ways that carry
abbrev pub carrying : Desk → Desk
carrying d = record { step = d.step; traffic = d.traffic; ways = keep carries d.ways }

pub delay_local : (d : Desk) → delay d ≡ delay (carrying d)
delay_local d = ap (λ (n : ℕ). n / whole) (total-keep weighed carries d.ways (λ w e. let z = dry w e in rw z (zero-mul (cost w))))

pub blocked_local : (d : Desk) → blocked d ≡ blocked (carrying d)
blocked_local d =
    exists-keep (blocks d.step d.traffic (delay d)) carries d.ways (λ w e. rw e) ∙ ap (λ (m : ℕ). exists (blocks d.step d.traffic m) (keep carries d.ways)) (delay_local d)

message_local : (d : Desk) → message d ≡ message (carrying d)
message_local d = ap₂ told (delay_local d) (blocked_local d)

-- ---- two desks with the same records, that heard w and v
module _ (s t : ℕ) (ls : List Link) (w v : Link → Told) where
  pub desk-same : ((l : Link) → In l ls → w l ≡ v l) → desk_from s t ls w ≡ desk_from s t ls v
  desk-same h = ap (λ (ws : List Way). record { step = s; traffic = t; ways = ws }) (map_eq (way_of w) (way_of v) ls (λ l m. ap (λ (x : Told). way_of (λ y. x) l) (h l m)))

carrying_same : (w v : Link → Told) (ls : List Link) → ((l : Link) → In l ls → flows l ≡ true → w l ≡ v l)
    → keep carries (map (way_of w) ls) ≡ keep carries (map (way_of v) ls)
carrying_same w v [] h = refl
carrying_same w v (l ∷ ls) h = go (known (flows l)) (carrying_same w v ls (λ m a. h m (there a)))
  where
    go : (flows l ≡ true) ⊎ (flows l ≡ false) → keep carries (map (way_of w) ls) ≡ keep carries (map (way_of v) ls)
        → keep carries (map (way_of w) (l ∷ ls)) ≡ keep carries (map (way_of v) (l ∷ ls))
    go (inl e) ih = rw (e, h l (here refl) e, ih)
    go (inr e) ih = rw e ih

-- what was told on ways that do not carry plays no part in the message
pub message-same : (s t : ℕ) (ls : List Link) (w v : Link → Told) → ((l : Link) → In l ls → flows l ≡ true → w l ≡ v l)
    → message (desk_from s t ls w) ≡ message (desk_from s t ls v)
message-same s t ls w v h =
    message_local (desk_from s t ls w)
    ∙ ap (λ (ws : List Way). message (record { step = s; traffic = t; ways = ws })) (carrying_same w v ls h)
    ∙ sym (message_local (desk_from s t ls v))

-- ---- what is stored on the link opposite to l stands at one place, whatever the state
pub opposite-ends : (l m : Link) → opposite l m ≡ true → (m.from ≡ l.to) × (m.to ≡ l.from)
opposite-ends l m e =
    let r = and_gives (eqb m.from l.to) (eqb m.to l.from) e in
    (eqb-true m.from l.to r.0, eqb-true m.to l.from r.1)

-- place k of the links has the opposite of l
pub record Twin (ls : List Link) (l : Link) : Type 0 where
  pub place : ℕ
  pub inside : place < length ls
  pub turned : opposite l (get_or ls place no_link) ≡ true
  pub stored : (st : State) → back ls st l ≡ get_or st place silent

pub twin_of : (ls : List Link) (l : Link) → exists (opposite l) ls ≡ true → Twin ls l
twin_of [] l e = clash e refl
twin_of (m ∷ ms) l e = go (known (opposite l m)) (twin_of ms l)
  where
    at_once : opposite l m ≡ true → (st : State) → back (m ∷ ms) st l ≡ get_or st 0 silent
    at_once q [] = refl
    at_once q (w ∷ st) = rw q

    later : opposite l m ≡ false → (k : ℕ) → ((st : State) → back ms st l ≡ get_or st k silent) → (st : State) → back (m ∷ ms) st l ≡ get_or st (suc k) silent
    later q k f [] = refl
    later q k f (w ∷ st) = rw q (f st)

    go : (opposite l m ≡ true) ⊎ (opposite l m ≡ false) → (exists (opposite l) ms ≡ true → Twin ms l) → Twin (m ∷ ms) l
    go (inl q) ih = record { place = 0; inside = omega arith; turned = q; stored = at_once q }
    go (inr q) ih =
        let r = ih (rw q at e) in
        record { place = suc r.place; inside = omega (arith, r.inside); turned = r.turned; stored = later q r.place r.stored }

back_none : (ls : List Link) (l : Link) (st : State) → exists (opposite l) ls ≡ false → back ls st l ≡ silent
back_none [] l st e = refl
back_none (m ∷ ms) l [] e = refl
back_none (m ∷ ms) l (w ∷ st) e = let n = or_fails (opposite l m) (exists (opposite l) ms) e in rw n.0 (back_none ms l st n.1)

-- the first link that is the opposite of l has it
pub back-first : (ls : List Link) (l : Link) {k : ℕ} → first (opposite l) ls ≡ at k → (st : State) → back ls st l ≡ get_or st k silent
back-first ls l {k} e st = let r = (first_iff (opposite l) no_link ls (at k)).0 e in go ls k st r.inside r.passes r.before
  where
    go : (ms : List Link) (k : ℕ) (st : State) → k < length ms → opposite l (get_or ms k no_link) ≡ true → ((j : ℕ) → j < k → opposite l (get_or ms j no_link) ≡ false)
        → back ms st l ≡ get_or st k silent
    go [] k st h p f = absurd (omega arith)
    go (m ∷ ms) zero [] h p f = refl
    go (m ∷ ms) (suc k) [] h p f = refl
    go (m ∷ ms) zero (w ∷ st) h p f = rw p
    go (m ∷ ms) (suc k) (w ∷ st) h p f = let q = f 0 (omega arith) in rw q (go ms k st (omega arith) p (λ j i. f (suc j) (omega arith)))

back_local : (ls : List Link) (l : Link) (st su : State)
    → ((k : ℕ) → k < length ls → opposite l (get_or ls k no_link) ≡ true → get_or st k silent ≡ get_or su k silent)
    → back ls st l ≡ back ls su l
back_local ls l st su h = go (known (exists (opposite l) ls))
  where
    go : (exists (opposite l) ls ≡ true) ⊎ (exists (opposite l) ls ≡ false) → back ls st l ≡ back ls su l
    go (inl e) = let r = twin_of ls l e in r.stored st ∙ h r.place r.inside r.turned ∙ sym (r.stored su)
    go (inr e) = back_none ls l st e ∙ sym (back_none ls l su e)

-- whether it was heard, from whether those were delivered
pub heard_local : (ls : List Link) (l : Link) (st su : State)
    → ((k : ℕ) → k < length ls → opposite l (get_or ls k no_link) ≡ true → heard (get_or st k silent) ≡ heard (get_or su k silent))
    → heard (back ls st l) ≡ heard (back ls su l)
heard_local ls l st su h = go (known (exists (opposite l) ls))
  where
    go : (exists (opposite l) ls ≡ true) ⊎ (exists (opposite l) ls ≡ false) → heard (back ls st l) ≡ heard (back ls su l)
    go (inl e) = let r = twin_of ls l e in ap heard (r.stored st) ∙ h r.place r.inside r.turned ∙ ap heard (sym (r.stored su))
    go (inr e) = ap heard (back_none ls l st e ∙ sym (back_none ls l su e))

-- ---- a node's desk in a state
-- two states of one sheet that agree on the links into node i
abbrev pub AgreeInto : Sheet → ℕ → State → State → Type 0
AgreeInto s i st su = (k : ℕ) → k < length s.links → (link_of s k).to ≡ i → get_or st k silent ≡ get_or su k silent

into : (s : Sheet) (st su : State) (l : Link) → AgreeInto s l.from st su → back s.links st l ≡ back s.links su l
into s st su l h = back_local s.links l st su (λ k a o. h k a (opposite-ends l (link_of s k) o).1)

pub desk_local : (s : Sheet) (st su : State) (i : ℕ) → AgreeInto s i st su → desk s st i ≡ desk s su i
desk_local s st su i h = desk-same s.step (traffic_of s i) (row_of i s.links) (back s.links st) (back s.links su)
    (λ l m. into s st su l (λ k a e. h k a (e ∙ row_from i s.links m)))

-- its delay and mark, at those alone that bring the word of a node that it has a flowing link to
pub message_in : (s : Sheet) (st su : State) (i : ℕ)
    → ((k : ℕ) (l : Link) → k < length s.links → In l (row_of i s.links) → flows l ≡ true → opposite l (link_of s k) ≡ true → get_or st k silent ≡ get_or su k silent)
    → message (desk s st i) ≡ message (desk s su i)
message_in s st su i h = message-same s.step (traffic_of s i) (row_of i s.links) (back s.links st) (back s.links su)
    (λ l m f. back_local s.links l st su (λ k a o. h k l a m f o))

-- two sheets, alike in the step and in node i's own records
pub desk_own : (s t : Sheet) (st su : State) (i : ℕ) → s.step ≡ t.step → traffic_of s i ≡ traffic_of t i → row_of i s.links ≡ row_of i t.links
    → ((l : Link) → In l (row_of i s.links) → back s.links st l ≡ back t.links su l) → desk s st i ≡ desk t su i
desk_own s t st su i p q r h =
    desk-same s.step (traffic_of s i) (row_of i s.links) (back s.links st) (back t.links su) h
    ∙ λ k. desk_from (p k) (q k) (r k) (back t.links su)

pub back-top : (ls : List Link) (l : Link) (st : State) (x : ℕ) → ((k : ℕ) → delay_told (get_or st k silent) ≤ x) → delay_told (back ls st l) ≤ x
back-top ls l st x h = go (known (exists (opposite l) ls))
  where
    go : (exists (opposite l) ls ≡ true) ⊎ (exists (opposite l) ls ≡ false) → delay_told (back ls st l) ≤ x
    go (inl e) = let r = twin_of ls l e in omega (arith, ap delay_told (r.stored st), h r.place)
    go (inr e) = omega (arith, ap delay_told (back_none ls l st e))

-- a delivery on (a,b) changes no desk but b's
pub desk-elsewhere : (s : Sheet) (st : State) (j i : ℕ) → i ≢ (link_of s j).to → desk s (deliver s st j) i ≡ desk s st i
desk-elsewhere s st j i n = desk_local s (deliver s st j) st i (λ k a e.
    get_or-set_other st j k (message (sender s st j)) silent (λ q. n (sym e ∙ ap (λ (x : ℕ). (link_of s x).to) q)))

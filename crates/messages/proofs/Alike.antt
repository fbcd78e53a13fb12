-- What is said of a sheet and of a round looks at the links' lists only as far as there are links.
use Prim.Native.Nat.{ℕ, ◌+◌, ◌<◌}
use native.Mathlib.Omega.{arith}
use mathlib.Core.Path.{◌≡◌, refl, sym, ap, subst, ◌∙◌}
use mathlib.Core.Bool.{Bool, true, false, cond}
use mathlib.Core.List.{List}
use Rattle.std.specs.Prelude.{Option, Some, None, Result, Ok, Err}
use lib.ListN.{length, get_or, take}
use lib.Dec.{leb}
use borrow.Author.Tests.{leb-false}
use Rattle.rules.specs.Lists.{below}
use Rattle.rules.specs.Sheet.{Sheet}
use Rattle.rules.specs.Messages.{finished, deliver, run}
use Rattle.rules.specs.Check.{sheet_with}
use Rattle.rules.proofs.Lists.{map_eq, in_below}
use Rattle.rules.proofs.Sound.{Sound}
use Rattle.answers.specs.declared.Fault.{Fault}
use Rattle.answers.specs.declared.Fault.TheVariants.{NotWaiting, NoSuchLink}
use Rattle.answers.specs.declared.Refusal.{Refusal}
use Rattle.sheet.specs.declared.SheetHeld.{SheetHeld}
use Rattle.sheet.specs.Held.{link_of, held_at, held, head_said, sheet_said}
use Rattle.links.specs.Opposites.{Opposites}
use Rattle.network.specs.Rows.{Rows}
use Rattle.node.specs.Net.{state_said, Graph, Net}
use Rattle.messages.specs.declared.Tally.{Tally}
use Rattle.messages.specs.State.{Kept, waits_by, waiting_at, refusal_at, AlikeAt, Alike}
use Rattle.messages.specs.Round.{Deliverable, Delivered, SomeNet, RanKept, ListRun}

module _ {count : ℕ} {fs fs' : List ℕ} (alike : Alike count fs fs') where
  pub alike_turned : length fs ≡ 512 → Alike count fs' fs
  alike_turned size = record { same = λ j low. sym (alike.same j low); size = size }

  pub held_alike : (ts ls xs : List ℕ) → held count fs ts ls xs ≡ held count fs' ts ls xs
  held_alike ts ls xs = map_eq (held_at fs ts ls xs) (held_at fs' ts ls xs) (below count)
      (λ j m. ap (λ (f : ℕ). link_of f (get_or ts j 0) (get_or ls j 0) (get_or xs j 0)) (alike.same j (in_below count m)))

  rows_alike : {n : ℕ} {ss : List ℕ} → Rows n count fs ss → Rows n count fs' ss
  rows_alike r = record {
    rise = r.rise;
    top = r.top;
    inside = λ i k low a b. sym (alike.same k (omega (arith, r.top (i + 1) (omega arith)))) ∙ r.inside i k low a b;
    found = λ k low. rw (sym (alike.same k low)) (r.found k low);
  }

  opposites_alike : {ts os : List ℕ} → Opposites count fs ts os → Opposites count fs' ts os
  opposites_alike {os = os} o = record {
    low = o.low;
    from = λ j low. sym (alike.same (get_or os j 0) (o.low j low)) ∙ o.from j low;
    to = λ j low. o.to j low ∙ alike.same j low;
  }

pub said_alike : (h : SheetHeld) (tr : List ℕ) {fs fs' : List ℕ} (ts ls xs : List ℕ) → Alike h.links fs fs' → sheet_said h tr fs ts ls xs ≡ sheet_said h tr fs' ts ls xs
said_alike h tr ts ls xs alike = ap (sheet_with (head_said h.head) (take h.head.nodes tr)) (held_alike alike ts ls xs)

-- ---- what the lists keep
module _ {h : SheetHeld} {tr fs fs' ts ls xs ss os : List ℕ} where
  pub graph_alike : Graph h tr fs ts ls xs ss os → Alike h.links fs fs' → Graph h tr fs' ts ls xs ss os
  graph_alike g alike = record {
    sound = subst Sound (said_alike h tr ts ls xs alike) g.sound;
    rows = rows_alike alike g.rows;
    opposites = opposites_alike alike g.opposites;
    traffic-size = g.traffic-size;
    from-size = alike.size;
    to-size = g.to-size;
    fraction-size = g.fraction-size;
    start-size = g.start-size;
    opposite-size = g.opposite-size;
  }

  pub net_alike : {gs ps line : List ℕ} → Net h tr fs ts ls xs ss gs ps os line → Alike h.links fs fs' → Net h tr fs' ts ls xs ss gs ps os line
  net_alike net alike = record {
    graph = graph_alike net.graph alike;
    flow = net.flow;
    line-right = net.line-right;
    line_small = net.line_small;
    flow-start_size = net.flow-start_size;
    flow-size = net.flow-size;
    line-size = net.line-size;
  }

  pub kept_alike : {inbox qs : List ℕ} {t : Tally} → Kept h tr fs ts ls xs ss os inbox qs t → Alike h.links fs fs' → Kept h tr fs' ts ls xs ss os inbox qs t
  kept_alike {inbox} kept alike = record {
    graph = graph_alike kept.graph alike;
    inbox_size = kept.inbox_size;
    beyond = kept.beyond;
    quiet-size = kept.quiet-size;
    quiet = kept.quiet;
    deliveries = kept.deliveries;
    finished-right = kept.finished-right ∙ ap (λ (s : Sheet). finished s (state_said h.links os inbox)) (said_alike h tr ts ls xs alike);
  }

-- ---- what was made over the second list holds of the first
module _ {h : SheetHeld} {tr fs fs' ss gs ps line xs os : List ℕ} where
  pub delivered_alike : {j : ℕ} {inbox qs inbox' qs' : List ℕ} {t t' : Tally} → Delivered h j tr fs' ss gs ps line xs os inbox qs inbox' qs' t t'
      → Alike h.links fs fs' → Delivered h j tr fs ss gs ps line xs os inbox qs inbox' qs' t t'
  delivered_alike {j} {inbox} done alike = record {
    said = λ {ts} {ls} net kept inside.
        done.said (net_alike net alike) (kept_alike kept alike) inside
        ∙ ap (λ (s : Sheet). deliver s (state_said h.links os inbox) j) (sym (said_alike h tr ts ls xs alike));
    keeps = λ net kept inside. kept_alike (done.keeps (net_alike net alike) (kept_alike kept alike) inside) (alike_turned alike net.graph.from-size);
  }

  pub ran_alike : {r : Result Tally Refusal} {js inbox qs : List ℕ} → ListRun r h js tr fs' ss gs ps line xs os inbox qs
      → Alike h.links fs fs' → ListRun r h js tr fs ss gs ps line xs os inbox qs
  ran_alike {r} {js} {inbox} {qs} ran alike = record {
    said = λ {ts} {ls} net. ran.said (net_alike net alike) ∙ ap (λ (s : Sheet). run s js) (sym (said_alike h tr ts ls xs alike));
    keeps = λ {ts} {ls} net. back ts ls (alike_turned alike net.graph.from-size) r (ran.keeps (net_alike net alike));
  }
    where
      back : (ts ls : List ℕ) → Alike h.links fs' fs → (r : Result Tally Refusal) → RanKept r h tr fs' ts ls xs ss os inbox qs → RanKept r h tr fs ts ls xs ss os inbox qs
      back ts ls turned (Err e) kept = tt
      back ts ls turned (Ok t) kept = kept_alike kept turned

-- ---- what is asked of the first list is given of the second
pub held-net_alike : {h : SheetHeld} {tr fs fs' ss gs ps line xs os : List ℕ} → SomeNet h tr fs ss gs ps line xs os → Alike h.links fs fs' → SomeNet h tr fs' ss gs ps line xs os
held-net_alike held alike = record { ts = held.ts; ls = held.ls; net = net_alike held.net alike }

pub deliverable_alike : {step j : ℕ} {fs fs' ss gs ps line xs os inbox qs : List ℕ} {t : Tally} → Deliverable step j fs ss gs ps line xs os inbox qs t
    → AlikeAt j fs fs' → AlikeAt (get_or os j 0) fs fs' → Deliverable step j fs' ss gs ps line xs os inbox qs t
deliverable_alike d near far = record {
  step-top = d.step-top;
  link = record {
    low = d.link.low;
    place = d.link.place;
    near = omega (arith, near, d.link.near);
    far = omega (arith, far, d.link.far);
  };
  row = rw (sym near) d.row;
  counted = rw (sym far) d.counted;
  spare = d.spare;
}

-- ---- a refusal, by the fractions
pub refusal_alike : (count j : ℕ) (fs xs xs' os inbox qs : List ℕ) → ((k : ℕ) → k < count → AlikeAt k xs xs')
    → refusal_at count j fs xs os inbox qs ≡ refusal_at count j fs xs' os inbox qs
refusal_alike count j fs xs xs' os inbox qs same = go (leb count j) refl
  where
    go : (b : Bool) → leb count j ≡ b → ◌≡◌ {A = Option Fault} (cond b (Some NoSuchLink) (cond (waiting_at j fs xs os inbox qs) None (Some NotWaiting))) (cond b (Some NoSuchLink) (cond (waiting_at j fs xs' os inbox qs) None (Some NotWaiting)))
    go true e = refl
    go false e = ap (λ (x : ℕ). cond (waits_by (get_or qs (get_or fs j 0) 0) x (get_or inbox (get_or os j 0) 0)) None (Some NotWaiting)) (same j (leb-false count j e))

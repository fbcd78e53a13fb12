-- 6, 7 and 8, each judged where those before it are not given.
use Rattle.std.specs.Prelude.{ℕ, ◌+◌, ◌*◌, not, List, length, Option, Some, None, Result, Ok, Err, IfOk, IsErr, IsErrAnd}
use native.Mathlib.Omega.{arith}
use borrow.Author.Rules.{rules}
use mathlib.Core.Path.{◌≡◌, refl, sym, ap, subst, ◌∙◌}
use Rattle.answers.specs.declared.Fault.{Fault}
use Rattle.answers.specs.declared.Fault.TheVariants.{NoOpposite, WrongSum, OnLoop}
use Rattle.answers.specs.declared.Refusal.{Refusal}
use Rattle.rules.specs.Lists.{below, Place, first}
use Rattle.rules.specs.Sheet.{Sheet}
use Rattle.rules.specs.Loop.{on_loop}
use Rattle.rules.specs.Bytes.{AreBytes, bytes}
use Rattle.rules.specs.Judge.{Verdict, accepted, refused_at, adds, judge}
use Rattle.rules.specs.Check.{read, sheet_alone, judged as judged_of, check}
use Rattle.rules.proofs.Reading.{check_gives, bytes-length}
use Rattle.rules.proofs.Sound.{Sound}
use Rattle.sheet.specs.declared.SheetHeld.{SheetHeld}
use Rattle.sheet.specs.declared.Columns.{Columns}
use Rattle.sheet.specs.Held.{read_said, sheet_in, found_said, SheetGiven}
use Rattle.sheet.proofs.Facts.{SheetFacts, given_facts}
use Rattle.links.specs.Opposites.{Paired}
use Rattle.network.specs.Answers.{SurveyedIn}
use Rattle.sheet.proofs.Facts.{held-length}
use Rattle.network.proofs.Rows.{rising_sorted}
use Rattle.order.specs.Order as order
use Rattle.node.specs.declared.NetHeld.{NetHeld}
use Rattle.admit.specs.Opened.{refusing, verdict_said, Sized, Worked, JudgeAsked, Judged, ReadJudged, Ready, OpenedGiven}

none_of : (f : Fault) {p : Option ℕ} {u : Unit} → refusing f p ≡ Ok u → p ≡ None
none_of f {p = None} e = refl
none_of f {p = Some k} e = cc

-- what `?` hands on
pub handed_on : {T : Type 0} {r : Result T Refusal} {e : Refusal} → IsErr r × IsErrAnd r (λ x. x ≡ e) → r ≡ Err e
handed_on {r = Ok x} p = absurd (search rules)
handed_on {r = Err x} p = ap Err p.1

module _ (h : SheetHeld) (net : NetHeld) where
  abbrev s : Sheet
  s = sheet_in h net.columns

  -- the verdict once 6 is not given, and once 7 is not given either
  abbrev by_8 : Place → Verdict
  by_8 p = refused_at 8 p (accepted s)

  abbrev by_7 : Place → Verdict
  by_7 p = refused_at 7 p (by_8 (first (on_loop s) (below s.nodes)))

  abbrev by_6 : Place → Verdict
  by_6 p = refused_at 6 p (by_7 (first (λ i. not (adds s i)) (below s.nodes)))

  module _ {a w : Option ℕ} (pairs : Paired a h.links net.columns.from net.columns.to net.opposite)
      (surveyed : SurveyedIn w h net.columns net.rows) where
    at_6 : by_6 (found_said a) ≡ judge s
    at_6 = ap by_6 (pairs.said net.columns.load net.columns.fraction)

    at_7 : a ≡ None → by_7 (found_said w) ≡ judge s
    at_7 e = ap by_7 (surveyed.said s.traffic net.columns.to net.columns.load) ∙ ap (λ (x : Option ℕ). by_6 (found_said x)) (sym e) ∙ at_6

    -- a row with a wrong sum
    pub judged_sum : {u : Unit} {e : Refusal} {r : Result Unit Refusal} → refusing NoOpposite a ≡ Ok u → refusing WrongSum w ≡ Err e → r ≡ refusing WrongSum w → Judged r h net
    judged_sum {u} {e} {r} p q z = go w refl
      where
        go : (x : Option ℕ) → w ≡ x → Judged r h net
        go None k = cc
        go (Some i) k = rw (z, k) (record { said = sym (ap (λ (x : Option ℕ). by_7 (found_said x)) k) ∙ at_7 (none_of NoOpposite p); worked = tt })

    -- a loop, or none
    pub judged_loop : {u v : Unit} {l : Option ℕ} {r : Result Unit Refusal} → refusing NoOpposite a ≡ Ok u → refusing WrongSum w ≡ Ok v
        → order.OrderGiven l h net.columns net.order
        → r ≡ refusing OnLoop l → Judged r h net
    judged_loop {u} {v} {l} {r} p q ordered z = go l refl
      where
        at_8 : by_8 (found_said l) ≡ judge s
        at_8 = ap by_8 (ordered.said s.traffic net.columns.load) ∙ ap (λ (x : Option ℕ). by_7 (found_said x)) (sym (none_of WrongSum q)) ∙ at_7 (none_of NoOpposite p)

        go : (x : Option ℕ) → l ≡ x → Judged r h net
        go None k = rw (z, k) (record {
          said = sym (ap (λ (x : Option ℕ). by_8 (found_said x)) k) ∙ at_8;
          worked = record { rows = surveyed.rows; flow = surveyed.flow; opposites = pairs.told (ap found_said (none_of NoOpposite p)); sorted = ordered.sorted (ap found_said k) };
        })
        go (Some i) k = rw (z, k) (record { said = sym (ap (λ (x : Option ℕ). by_8 (found_said x)) k) ∙ at_8; worked = tt })

-- ---- the whole of Check
module _ (b : List ℕ) (fit : AreBytes b) {g : Result (SheetHeld × ℕ) Refusal} {h : SheetHeld} {f : ℕ} {c : Columns} (given : SheetGiven g (sheet_alone b) c) (e : g ≡ Ok (h, f)) where
  facts : SheetFacts b h c.traffic c.from c.to c.load c.fraction
  facts = given_facts b fit (subst (λ (x : Result (SheetHeld × ℕ) Refusal). SheetGiven x (sheet_alone b) c) e given)

  pub judge-asked : JudgeAsked h c
  judge-asked = record {
    few = facts.few;
    many = facts.many;
    sorted = rising_sorted h.links c.from c.to c.load c.fraction facts.sane.rising facts.from_in;
    to_in = facts.to_in;
  }

  pub read_judged : {r : Result Unit Refusal} {u : Unit} {net : NetHeld} → net.columns ≡ c → Judged r h net → r ≡ Ok u → ReadJudged (Ok h) b net
  read_judged {r} {u} {net} kept judged q = record {
    said = ap (λ (x : Result Unit Refusal). verdict_said x (sheet_in h net.columns)) (sym q) ∙ judged.said
        ∙ ap (λ (x : Columns). judge (sheet_in h x)) kept
        ∙ ap judged_of (ap (read_said (λ p. read (sheet_in p.0 c) p.1)) (sym e) ∙ given.said);
    worked = subst (λ (x : Result Unit Refusal). IfOk x (λ v. Worked h net)) q judged.worked;
  }

-- ---- with the lengths of what was lent
module _ (b : List ℕ) (fit : AreBytes b) {net : NetHeld} (sizes : Sized net) where
  accepted_ready : {h : SheetHeld} → accepted (sheet_in h net.columns) ≡ check b → Worked h net → Ready h b net
  accepted_ready {h} is_check worked = ready
    where
      sound : Sound (sheet_in h net.columns) × (bytes (sheet_in h net.columns) ≡ b)
      sound = check_gives b (sheet_in h net.columns) fit (sym is_check)

      figures : 8 + 6 * length (sheet_in h net.columns).traffic + 8 * length (sheet_in h net.columns).links ≡ 8 + 6 * h.head.nodes + 8 * h.links
      figures = omega (arith, sound.0.figures, held-length h.links net.columns.from net.columns.to net.columns.load net.columns.fraction)

      ready : Ready h b net
      ready = record {
        held = record {
          graph = record {
            sound = sound.0;
            rows = worked.rows;
            opposites = worked.opposites;
            traffic-size = sizes.traffic;
            from-size = sizes.froms;
            to-size = sizes.tos;
            fraction-size = sizes.fractions;
            start-size = sizes.starts;
            opposite-size = sizes.opposites;
          };
          flow = worked.flow;
          sorted = worked.sorted;
          sizes = sizes;
        };
        stand = sound.1;
        long = sym (ap length sound.1) ∙ bytes-length (sheet_in h net.columns) ∙ figures;
      }

  pub opened : {r : Result SheetHeld Refusal} → ReadJudged r b net → OpenedGiven r b net
  opened {r = Ok h} judged = record { said = judged.said; ready = accepted_ready judged.said judged.worked; sizes = sizes }
  opened {r = Err x} judged = record { said = judged.said; ready = tt; sizes = sizes }

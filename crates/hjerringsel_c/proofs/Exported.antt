-- An answer as one number: value and number are each told whole.
use Rattle.std.specs.Prelude.{ℕ, ◌≤◌, ◌<◌, Result}
use native.Mathlib.Omega.{arith}
use mathlib.Core.Path.{◌≡◌, refl, ap, ◌∙◌}
use mathlib.Core.List.{List}
use Rattle.rules.specs.Calls.{Reply, refusal, answer}
use Rattle.rules.proofs.Values.{value_of}
use Rattle.answers.specs.Answers.{Numbers, told, numbers, Answered, packed, Exported}
use Rattle.answers.specs.declared.Refusal.{Refusal}

-- what an answer tells fits its half
value_of_lem : (reply : Reply) → (numbers reply).value ≡ value_of reply
value_of_lem (refusal n p) = refl
value_of_lem (answer v new) = refl

pub value-fits : (a : Result ℕ Refusal) (reply : Reply) → told a ≡ numbers reply → value_of reply ≤ 4488 → (told a).value < 4294967296
value-fits a reply e h = omega (arith, ap (λ (x : Numbers). x.value) e, value_of_lem reply)

pub answered_fits : {a : Result ℕ Refusal} {reply : Reply} {old new : List ℕ} → Answered a reply old new → value_of reply ≤ 4488 → (told a).value < 4294967296
answered_fits {a} {reply} w h = value-fits a reply w.says h

pub exported : {a : Result ℕ Refusal} {r : ℕ} {reply : Reply} {old new : List ℕ} → r ≡ packed (told a) → Answered a reply old new → Exported r reply old new
exported e w = record { says = e ∙ ap packed w.says; writes = w.writes }

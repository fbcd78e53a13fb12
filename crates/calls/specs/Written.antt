-- What the calls write once their sheet is accepted and there is room.
use Rattle.std.specs.Prelude.{ℕ, ◌≡◌, cond, List, ◌++◌, length, drop, ltb, Result, Ok, Err}
use Rattle.answers.specs.declared.Fault.TheVariants.{TooShort}
use Rattle.answers.specs.declared.Refusal.{Refusal}
use Rattle.rules.specs.Bytes.{bytes}
use Rattle.rules.specs.Round.{next}
use Rattle.sheet.specs.declared.SheetHeld.{SheetHeld}
use Rattle.sheet.specs.Held.{sheet_in}
use Rattle.node.specs.declared.NetHeld.{NetHeld}

-- 9, with the room that is needed, where there is less
abbrev pub roomy : ℕ → ℕ → Result Unit Refusal
roomy have need = cond (ltb have need) (Err (record { fault = TooShort; place = need })) (Ok tt)

-- the bytes of the next sheet, and behind them what stood there
abbrev pub NextWritten : SheetHeld → List ℕ → NetHeld → List ℕ → List ℕ → Type 0
NextWritten h b net old new = new ≡ bytes (next (sheet_in h net.columns)) ++ drop (length b) old

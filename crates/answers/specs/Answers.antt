-- The paper's number and place for every case of an answer, and the one number that the C interface gives.
use Rattle.std.specs.Prelude.{ℕ, ◌+◌, ◌*◌, List, ◌≡◌, Result, Ok, Err}
use Rattle.rules.specs.Calls.{Reply, refusal, answer, over}
use Rattle.answers.specs.declared.Fault.{Fault}
use Rattle.answers.specs.declared.Fault.TheVariants.{CutShort, WrongKind, OutOfRange, NotRising, BytesAfter, NoOpposite, WrongSum, OnLoop, TooShort, NotWaiting, ListEnds, NoSuchLink}
use Rattle.answers.specs.declared.Refusal.{Refusal}

-- the fault's number in the table
abbrev pub fault_number : Fault → ℕ
fault_number CutShort = 1
fault_number WrongKind = 2
fault_number OutOfRange = 3
fault_number NotRising = 4
fault_number BytesAfter = 5
fault_number NoOpposite = 6
fault_number WrongSum = 7
fault_number OnLoop = 8
fault_number TooShort = 9
fault_number NotWaiting = 10
fault_number ListEnds = 11
fault_number NoSuchLink = 12

-- the refusal's number
abbrev pub number_of : Refusal → ℕ
number_of r = fault_number r.fault

-- its place
abbrev pub place_of : Refusal → ℕ
place_of r = r.place

-- number and value: a refusal's number and place; or 0 and what is answered
pub record Numbers : Type 0 where
  pub number : ℕ
  pub value : ℕ

abbrev pub both : ℕ → ℕ → Numbers
both n v = record { number = n; value = v }

-- what the code's answer tells
abbrev pub told : Result ℕ Refusal → Numbers
told (Ok n) = both 0 n
told (Err r) = both (number_of r) (place_of r)

-- what the rules' reply says
abbrev pub numbers : Reply → Numbers
numbers (refusal n p) = both n p
numbers (answer v new) = both 0 v

-- a call's whole promise: number and value, and every element of the output buffer
pub record Answered (r : Result ℕ Refusal) (reply : Reply) (old new : List ℕ) : Type 0 where
  pub says : told r ≡ numbers reply
  pub writes : new ≡ over reply old

-- as one number of 64 bits: number × 2^32 + value
abbrev pub packed : Numbers → ℕ
packed x = x.number * 4294967296 + x.value

-- what an exported call gives, and writes
pub record Exported (r : ℕ) (reply : Reply) (old new : List ℕ) : Type 0 where
  pub says : r ≡ packed (numbers reply)
  pub writes : new ≡ over reply old

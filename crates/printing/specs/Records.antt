-- A list cut into records.
use Rattle.std.specs.Prelude.{ℕ, ◌/◌, List, length}
use Rattle.std.specs.Simd.{first_chunks}

-- every whole record of n bytes, from the front on
abbrev pub records : ℕ → List ℕ → List (List ℕ)
records n bytes = first_chunks n (length bytes / n) bytes

use Rattle.std.proofs.lemmas.List.{get_or-replicate}
use Rattle.std.proofs.lemmas.Nat.Bits.{bit_at_ones}
use Rattle.house.proofs.Search.new.Goals as goal

pub returns : goal.returns
returns c = record { cursor = λ i a. get_or-replicate 64 i 0 0 a; live = bit_at_ones 64 }

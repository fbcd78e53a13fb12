-- What Play and Frame answer of a sheet once it is accepted and there is room.
use Rattle.std.specs.Prelude.{cond, ℕ, List, length, ltb}
use Rattle.rules.specs.Lists.{below}
use Rattle.rules.specs.Sheet.{Sheet}
use Rattle.rules.specs.Bytes.{bytes}
use Rattle.rules.specs.Messages.{State, run, outcome}
use Rattle.rules.specs.Calls.{Reply, refusal, writes, after_list, frames_of}

-- 11, or the sheet that the state gives
abbrev pub played_from : Sheet → List ℕ → State → Reply
played_from s js st = cond (ltb (length js) (length s.links)) (refusal 11 (length js)) (writes (bytes (outcome s st)))

abbrev pub played : Sheet → List ℕ → Reply
played s js = after_list (run s js) (played_from s js)

-- every node's frame in the state
abbrev pub framed_from : Sheet → State → Reply
framed_from s st = writes (frames_of s st (below s.nodes))

abbrev pub framed : Sheet → List ℕ → Reply
framed s js = after_list (run s js) (framed_from s)

use Rattle.frames.specs.Frames.{FramesWritten}
use Rattle.frames.proofs.write_frames.Given as goal

abbrev pub invariant-loop-i : goal.invariant-loop-i
invariant-loop-i l =
    FramesWritten l.i l.h l.traffic l.rows.starts.now l.rows.flow_starts.now l.rows.flow.now l.line l.fraction l.inbox l.quiet l.initial.out l.out

use Rattle.node.specs.Net.{net_of}
use Rattle.messages.specs.Round.{linked}
use Rattle.messages.proofs.Running.{RunningIn}
use Rattle.messages.proofs.run_links.Given as goal

abbrev pub invariant-loop-k : goal.invariant-loop-k
invariant-loop-k l = RunningIn l.h l.order (linked l.links (net_of l.net)) l.net.line.now l.state l.t l.k

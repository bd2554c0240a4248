use Rattle.automaton.proofs.Nodes.{Going}
use Rattle.automaton.proofs.walk.Given as goal

-- What is left of the nodes still builds the one tree on top of what waits: one law for each node, of the room it has and of what it leaves.
abbrev pub invariant-loop-node : goal.invariant-loop-node
invariant-loop-node l =
    Going l.nodes l.node-index l.alone l.follow l.waiting

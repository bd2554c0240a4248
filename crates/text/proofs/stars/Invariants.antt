use Rattle.std.proofs.Common.{◌≡◌, ℕ, ◌+◌, ◌-◌, ◌≤◌, length}
use Rattle.text.specs.Reads.{State, state, Part}
use Rattle.text.proofs.stars.Given as goal

-- Whatever unit ended before the stars ends after those read so far, as many nodes further as places.
abbrev pub invariant-loop-draft : goal.invariant-loop-draft
invariant-loop-draft l = record {
  ended : (d : ℕ) (o : State) → Part l.text.bytes.now d o (state l.from l.initial.draft) → Part l.text.bytes.now d o (state l.place l.draft);
  nodes : l.draft.nodes.count + l.from ≡ l.initial.draft.nodes.count + l.place;
  literals : l.draft.literals.count ≡ l.initial.draft.literals.count;
  along : l.from ≤ l.place;
  inside : l.place ≤ length l.text.bytes.now;
}

abbrev pub decreases-loop-draft : goal.decreases-loop-draft
decreases-loop-draft l = length l.text.bytes.now - l.place

-- The weights of the fast pass over node bytes: one sum counts the waiting subtrees above and the leaves below. Inner contracts cite this.
use Rattle.std.specs.Prelude.{ℕ, ◌+◌, ◌-◌, ◌*◌}
use Rattle.rules.specs.Limits.{node_limit}
use Rattle.sheet.specs.Nodes.{Node, arity, is_leaf}

-- one waiting subtree; no count of leaves reaches it
abbrev pub one_waiting : ℕ
one_waiting = 65536

-- none waits; so high that the nodes of a sheet cannot bring it below zero
abbrev pub none_waiting : ℕ
none_waiting = one_waiting * (node_limit + 1)

-- what a node adds, before one is taken off for every node
abbrev pub weight_of : Node → ℕ
weight_of n = one_waiting * (2 - arity n) + is_leaf n

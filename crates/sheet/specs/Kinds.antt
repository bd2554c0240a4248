-- The kinds of node as code has them: the byte of each, and the bytes that are read as it.
use Rattle.std.specs.Prelude.{◌≡◌, ℕ, ◌≤◌}
use Rattle.sheet.specs.Nodes.{Node as Nodes·Node, node_of, leaf_node, empty_node, cat_node, union_node, star_node}
use Rattle.sheet.specs.declared.node.Node.{Node}
use Rattle.sheet.specs.declared.node.Node.TheVariants.{Leaf, Empty, Cat, Union, Star}

abbrev pub byte_of : Node → ℕ
byte_of Leaf = leaf_node
byte_of Empty = empty_node
byte_of Cat = cat_node
byte_of Union = union_node
byte_of Star = star_node

-- a byte above that of a star is read as one too
abbrev pub Reads : Node → ℕ → Type 0
Reads Leaf b = b ≡ leaf_node
Reads Empty b = b ≡ empty_node
Reads Cat b = b ≡ cat_node
Reads Union b = b ≡ union_node
Reads Star b = star_node ≤ b

-- what f says of every byte that is read as a kind
abbrev pub Gives : (Nodes·Node → ℕ) → Node → ℕ → Type 0
Gives f kind n = (b : ℕ) → Reads kind b → n ≡ f (node_of b)

-- Why 26 has no input left once 24 and 25 have passed: with at most 255 nodes and one tree at the end, at most 128 subtrees wait at once.
use mathlib.Core.Path.{◌≡◌, refl}
use mathlib.Core.Bool.{false}
use mathlib.Core.List.{List, [], ◌∷◌}
use Prim.Native.Nat.{ℕ, ◌+◌, ◌≤◌}
use native.Mathlib.Omega.{arith}
use lib.Dec.{ltb}
use lib.ListN.{length}
use borrow.Author.Tests.{le-ltb, ltb-false}
use Rattle.rules.specs.Limits.{node_limit, waiting_limit}
use Rattle.rules.proofs.Truth.{or_false_left, or_false_right}
use Rattle.sheet.specs.Nodes.{Node, a_leaf, an_empty, a_cat, a_union, a_star, no_node, arity, after_node, too_few, at_end, too_many}

arity-most : (n : Node) → arity n ≤ 2
arity-most a_leaf = omega arith
arity-most an_empty = omega arith
arity-most a_cat = omega arith
arity-most a_union = omega arith
arity-most a_star = omega arith
arity-most no_node = omega arith

-- a node takes away at most one of those that wait
most-left : (h : ℕ) (ns : List Node) → too_few h ns ≡ false → h ≤ at_end h ns + length ns
most-left h [] f = omega arith
most-left h (n ∷ ns) f =
    let enough : arity n ≤ h = ltb-false h (arity n) (or_false_left (ltb h (arity n)) (too_few (after_node h n) ns) f) in
    let after = most-left (after_node h n) ns (or_false_right (ltb h (arity n)) (too_few (after_node h n) ns) f) in
    omega (arith, arity-most n)

-- k nodes were read, so at most k wait; and so few are left to read that they must soon become one
few_wait : (k h : ℕ) (ns : List Node) → h ≤ k → k + length ns ≤ node_limit → too_few h ns ≡ false → at_end h ns ≡ 1 → too_many h ns ≡ false
few_wait k h [] g l f e = refl
few_wait k h (n ∷ ns) g l f e =
    let rest = or_false_right (ltb h (arity n)) (too_few (after_node h n) ns) f in
    let left = most-left (after_node h n) ns rest in
    let few : after_node h n ≤ waiting_limit = omega arith in
    let on = few_wait (k + 1) (after_node h n) ns (omega arith) (omega arith) rest e in
    rw (le-ltb waiting_limit (after_node h n) few, on) refl

pub never_too_many : (ns : List Node) → length ns ≤ node_limit → too_few 0 ns ≡ false → at_end 0 ns ≡ 1 → too_many 0 ns ≡ false
never_too_many ns l f e = few_wait 0 0 ns (omega arith) (omega arith) f e

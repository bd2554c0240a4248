-- The fast pass over node bytes: what its sum says as long as some subtree waits after every node.
use mathlib.Core.Path.{◌≡◌, refl, sym, ◌∙◌}
use mathlib.Core.Bool.{true, false, ◌||◌}
use mathlib.Core.Option.{none}
use mathlib.Core.List.{List, map}
use Prim.Native.Nat.{ℕ, suc, ◌+◌, ◌-◌, ◌*◌, ◌<◌, ◌≤◌}
use native.Mathlib.Numerals.{add-one}
use native.Mathlib.Omega.{arith}
use lib.Dec.{eqb, ltb}
use lib.ListN.{length, get_or, drop, length-map, drop_of_length-le}
use lib.Seq.{drop-cons}
use borrow.Author.Tests.{le-ltb, eqb-true, eq-eqb}
use Rattle.rules.specs.Limits.{node_limit}
use Rattle.rules.specs.Grounds.{first_of}
use Rattle.sheet.specs.Nodes.{Node, a_leaf, an_empty, a_cat, a_union, a_star, no_node, node_of, arity, after_node, is_leaf, too_few, at_end, leaf_nodes}
use Rattle.sheet.specs.Refusals.{node_grounds}
use Rattle.sheet.specs.Weights.{one_waiting, none_waiting, weight_of}
use Rattle.sheet.proofs.FewWait.{never_too_many}

-- before node i: so many wait and so many leaves were seen, and what is left says the same as the whole
pub record Weighed (xs : List ℕ) (i sum : ℕ) : Type 0 where
  pub waiting : ℕ
  pub leaves : ℕ
  pub weight : sum ≡ none_waiting + one_waiting * waiting + leaves
  pub seen : leaves ≤ i
  pub few : too_few waiting (map node_of (drop i xs)) ≡ too_few 0 (map node_of xs)
  pub left : at_end waiting (map node_of (drop i xs)) ≡ at_end 0 (map node_of xs)
  pub saw : leaves + leaf_nodes (map node_of (drop i xs)) ≡ leaf_nodes (map node_of xs)

pub weighed_none : (xs : List ℕ) → Weighed xs 0 none_waiting
weighed_none xs = record { waiting = 0; leaves = 0; weight = refl; seen = omega arith; few = refl; left = refl; saw = omega arith }

-- where one waits after a node, the node found enough
record Stepped (n : Node) (h l next : ℕ) : Type 0 where
  enough : arity n ≤ h
  weight : next ≡ none_waiting + one_waiting * after_node h n + (l + is_leaf n)
  seen : is_leaf n ≤ 1

stepped : (n : Node) (h l next : ℕ) → l ≤ node_limit → next + one_waiting ≡ none_waiting + one_waiting * h + l + weight_of n → none_waiting + one_waiting ≤ next → Stepped n h l next
stepped a_leaf h l next s e o = record { enough = omega arith; weight = omega arith; seen = omega arith }
stepped an_empty h l next s e o = record { enough = omega arith; weight = omega arith; seen = omega arith }
stepped a_cat h l next s e o = record { enough = omega arith; weight = omega arith; seen = omega arith }
stepped a_union h l next s e o = record { enough = omega arith; weight = omega arith; seen = omega arith }
stepped a_star h l next s e o = record { enough = omega arith; weight = omega arith; seen = omega arith }
stepped no_node h l next s e o = record { enough = omega arith; weight = omega arith; seen = omega arith }

module _ {xs : List ℕ} {i sum : ℕ} (c : Weighed xs i sum) where
  pub weighed_on : (next : ℕ) → i < length xs → i ≤ node_limit → next + one_waiting ≡ sum + weight_of (node_of (get_or xs i 0)) → none_waiting + one_waiting ≤ next → Weighed xs (i + 1) next
  weighed_on next h b e o =
      let n = node_of (get_or xs i 0) in
      let rest = map node_of (drop (suc i) xs) in
      let d = drop-cons xs i 0 h in
      let s = stepped (node_of (get_or xs i 0)) c.waiting c.leaves next (omega (arith, c.seen)) (rw c.weight at e) o in
      let few : (ltb c.waiting (arity n) || too_few (after_node c.waiting n) rest) ≡ too_few 0 (map node_of xs) = rw d at c.few in
      let left : at_end (after_node c.waiting n) rest ≡ at_end 0 (map node_of xs) = rw d at c.left in
      let saw : c.leaves + (is_leaf n + leaf_nodes rest) ≡ leaf_nodes (map node_of xs) = rw d at c.saw in
      record {
        waiting = after_node c.waiting n;
        leaves = c.leaves + is_leaf n;
        weight = s.weight;
        seen = omega (arith, c.seen, s.seen);
        few = rw (add-one i) (rw (le-ltb c.waiting (arity n) s.enough) at few);
        left = rw (add-one i) left;
        saw = rw (add-one i) (omega (arith, saw));
      }

  -- one waits at the end, and the leaves are as many as they should be
  pub weighed_right : (L : ℕ) → length xs ≤ i → i ≤ node_limit → length xs ≤ node_limit → L ≤ node_limit → sum ≡ none_waiting + one_waiting + L → first_of (node_grounds L (map node_of xs)) ≡ none
  weighed_right L z b m k e =
      let d = drop_of_length-le xs {i = i} z in
      let few : false ≡ too_few 0 (map node_of xs) = rw d at c.few in
      let left : c.waiting ≡ at_end 0 (map node_of xs) = rw d at c.left in
      let saw : c.leaves + 0 ≡ leaf_nodes (map node_of xs) = rw d at c.saw in
      let one : c.waiting ≡ 1 = omega (arith, c.weight, c.seen) in
      let all : leaf_nodes (map node_of xs) ≡ L = omega (arith, c.weight, c.seen) in
      let never = never_too_many (map node_of xs) (simp length-map m) (sym few) (sym left ∙ one) in
      rw (← few, ← left, eq-eqb c.waiting 1 one, never, all, eq-eqb L L refl) refl

-- the fast pass before node i: no sum wraps, and where the least sum so far is high enough, the sum says what it counts
pub record Passing (xs : List ℕ) (i sum least : ℕ) : Type 0 where
  pub inside : i ≤ length xs
  pub low : none_waiting ≤ sum + one_waiting * i
  pub high : sum ≤ none_waiting + (one_waiting + 1) * i
  pub weighed : none_waiting + one_waiting ≤ least → Weighed xs i sum

pub passing-none : (xs : List ℕ) → Passing xs 0 none_waiting (none_waiting + one_waiting)
passing-none xs = record { inside = omega arith; low = omega arith; high = omega arith; weighed = λ e. weighed_none xs }

module _ {xs : List ℕ} {i sum least : ℕ} (c : Passing xs i sum least) where
  pub passing_on : {w k : ℕ} → i < length xs → length xs ≤ node_limit → w ≡ weight_of (node_of (get_or xs i 0)) → w ≤ 2 * one_waiting + 1
      → k ≤ least → k ≤ sum + w - one_waiting → Passing xs (i + 1) (sum + w - one_waiting) k
  passing_on {w} h b e m low high =
      let next : sum + w - one_waiting + one_waiting ≡ sum + weight_of (node_of (get_or xs i 0)) = omega (arith, c.low) in
      record {
        inside = omega arith;
        low = omega (arith, c.low);
        high = omega (arith, c.high);
        weighed = λ f. weighed_on (c.weighed (omega arith)) (sum + w - one_waiting) h (omega arith) next (omega arith);
      }

  pub passing-right : (L : ℕ) → length xs ≤ i → length xs ≤ node_limit → L ≤ node_limit → none_waiting + one_waiting ≤ least
      → eqb sum (none_waiting + one_waiting + L) ≡ true → first_of (node_grounds L (map node_of xs)) ≡ none
  passing-right L z m k f e = weighed_right (c.weighed f) L z (omega (arith, c.inside)) m k (eqb-true sum (none_waiting + one_waiting + L) e)

pub ruleset passes = (passing-none, passing_on, passing-right)

use mathlib.Core.Path.{ap}
use native.Mathlib.Omega.{arith}
use Prim.Native.Nat.{◌<◌}
use lib.ListN.{length}
use Rattle.automaton.proofs.Nodes.{start, not_deep, leaf-fits, leaf_turn, empty-fits, empty_turn, cat_turn, alt_turn, star_turn}
use Rattle.automaton.proofs.walk.Goals as goal
use Rattle.automaton.proofs.walk.Goals.{in-Leaf, in-Empty, in-Cat, in-Union, in-Star}

pub loop-node-init : goal.loop-node-init
loop-node-init c =
    let (t, built, small) = c.requires.one_tree in
    start c.args.nodes.now c.args.follow.now c.on-waiting.result t c.of-alone.result c.of-alone.ensures built small c.requires.few c.requires.table.1 c.on-waiting.ensures

pub push-requires : goal.push-requires
push-requires c =
    let room = leaf-fits c.loop-node.invariant (omega arith) c.in-Leaf.ensures in
    omega arith

pub push-requires-in-Empty : goal.push-requires-in-Empty
push-requires-in-Empty c = empty-fits c.loop-node.invariant (omega arith) c.in-Empty.ensures

pub push-requires-in-Cat : goal.push-requires-in-Cat
push-requires-in-Cat c = omega (arith, ap length c.pop-right.ensures, ap length c.pop-left.ensures, not_deep c.loop-node.invariant (omega arith))

pub push-requires-in-Union : goal.push-requires-in-Union
push-requires-in-Union c = omega (arith, ap length c.pop-right-in-Union.ensures, ap length c.pop-left-in-Union.ensures, not_deep c.loop-node.invariant (omega arith))

pub push-requires-in-Star : goal.push-requires-in-Star
push-requires-in-Star c = omega (arith, ap length c.pop-inner.ensures, not_deep c.loop-node.invariant (omega arith))

pub loop-node-preserved : goal.loop-node-preserved
loop-node-preserved c =
    let i = c.loop-node.invariant in
    let h : c.loop-node.node-index < length c.args.nodes.now = omega arith in
    elim c.match-from.branch [
      | in-Leaf w ↦ rw (w.alone-is, w.follow-is, w.waiting-is, w.push.ensures) (leaf_turn i h w.in-Leaf.ensures w.leaf.result w.leaf.ensures w.moved-alone.result w.moved-alone.ensures)
      | in-Empty w ↦ rw (w.alone-is, w.follow-is, w.waiting-is, w.push-in-Empty.ensures) (empty_turn i h w.in-Empty.ensures w.empty.result w.empty.ensures)
      | in-Cat w ↦ rw (w.alone-is, w.follow-is, w.waiting-is, w.push-in-Cat.ensures)
          (cat_turn i h w.pop-right.ensures w.pop-left.ensures w.in-Cat.ensures w.link.ensures w.then.ensures)
      | in-Union w ↦ rw (w.alone-is, w.follow-is, w.waiting-is, w.push-in-Union.ensures)
          (alt_turn i h w.pop-right-in-Union.ensures w.pop-left-in-Union.ensures w.in-Union.ensures w.or.ensures)
      | in-Star w ↦ rw (w.alone-is, w.follow-is, w.waiting-is, w.push-in-Star.ensures)
          (star_turn i h w.pop-inner.ensures w.in-Star.ensures w.link-in-Star.ensures w.starred.ensures)
    ]

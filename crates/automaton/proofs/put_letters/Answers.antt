use mathlib.Core.Path.{◌≡◌, refl}
use Prim.Native.Nat.{◌+◌}
use native.Mathlib.Omega.{arith}
use Rattle.sheet.specs.Layout.{leaf_count}
use Rattle.automaton.proofs.Filled.{letters_turn}
use Rattle.automaton.proofs.put_letters.Goals as goal

pub loop-i-preserved : goal.loop-i-preserved
loop-i-preserved c =
    letters_turn c.args.sheet.bytes.now c.loop-i.letters c.insert.new.self (c.loop-i.i + 1) c.from.result c.loop-i.i (omega arith) refl
    (rw c.from.ensures c.byte_at.ensures.0) c.loop-i.invariant c.insert.ensures

pub returns : goal.returns
returns c =
    let all : c.loop-i.i ≡ leaf_count c.args.sheet.bytes.now = omega (arith, c.leaf_count-n.ensures.0) in
    rw all at c.loop-i.invariant

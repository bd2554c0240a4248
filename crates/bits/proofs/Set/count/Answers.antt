use native.Mathlib.Omega.{arith}
use lib.Count.{ones-le}
use Rattle.bits.specs.Sets.{word_bits}
use Rattle.bits.proofs.Ones.{count_turn}
use Rattle.bits.proofs.Set.count.Goals as goal

pub loop-word-preserved : goal.loop-word-preserved
loop-word-preserved c =
    let l = c.loop-word in
    let f = c.loop-word-test.element_fits.fits in
    (omega (arith, ones-le word_bits _ f), count_turn c.args.self l.word-index l.n (omega arith) f l.invariant.1)

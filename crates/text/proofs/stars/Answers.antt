use Rattle.std.proofs.Common.{arith, sym, ◌∙◌}
use Rattle.lexer.proofs.Front.{byte_inside}
use Rattle.lexer.specs.Bytes.{asterisk}
use Rattle.text.proofs.Parts.{part_star}
use Rattle.text.proofs.stars.Goals as goal

pub loop-draft-preserved : goal.loop-draft-preserved
loop-draft-preserved c =
    let star = sym c.is-in-loop-draft.ensures ∙ c.loop-draft-test.true in
    record {
      ended = λ d o p. part_star (c.loop-draft.invariant.ended d o p) star c.node.ensures;
      nodes = omega arith;
      literals = omega arith;
      along = omega arith;
      inside = omega (arith, byte_inside c.args.text.bytes.now c.loop-draft.place asterisk star);
    }

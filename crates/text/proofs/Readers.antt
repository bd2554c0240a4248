-- How far a reader came.
use mathlib.Core.List.{List, [], ◌∷◌}
use Prim.Native.Nat.{ℕ, ◌+◌, ◌<◌, ◌≤◌}
use native.Mathlib.Omega.{arith}
use lib.ListN.{length, replicate, length-replicate}
use Rattle.sheet.specs.Nodes.{leaf_node, empty_node}
use Rattle.sheet.specs.Make.{postorder}
use Rattle.lexer.specs.declared.Literal.{Literal}
use Rattle.lexer.specs.Places.{Taken}
use Rattle.repeats.specs.Copies.{copies}
use Rattle.repeats.proofs.Copies.{copies-short}
use Rattle.text.specs.declared.Draft.{Draft}
use Rattle.text.specs.Reads.{Stored, Begun, Onward, State, state}

module _ {len : ℕ} where
  -- a reader may be called where another is done
  pub begun : {from p : State} {s : ℕ} → Onward len from p s → Begun len p
  begun o = record { inside = o.inside; nodes = omega (arith, o.nodes); leaves = o.leaves }

  -- one byte more, of which nothing is made
  pub past : {o from : State} {here s : ℕ} {p : Draft} → Onward len from (state here p) s → o.place ≤ from.place → here < len → Onward len o (state (here + 1) p) 2
  past o h l = record { further = omega (arith, o.further); inside = omega arith; nodes = omega (arith, o.nodes); leaves = omega (arith, o.leaves) }

  module _ {here : ℕ} {o p : Draft} (g : Begun len (state here o)) where
    -- a plain literal
    pub plain_onward : {b : ℕ} → here < len → Stored o p (leaf_node ∷ []) (b ∷ []) → Onward len (state here o) (state (here + 1) p) 2
    plain_onward h w = record { further = omega arith; inside = omega arith; nodes = omega (arith, g.nodes, w.nodes.count); leaves = omega (arith, g.leaves, w.literals.count) }

    -- the empty word
    pub void_onward : here + 1 < len → Stored o p (empty_node ∷ []) [] → Onward len (state here o) (state (here + 2) p) 2
    void_onward h w = record { further = omega arith; inside = omega arith; nodes = omega (arith, g.nodes, w.nodes.count); leaves = omega (arith, g.leaves, w.literals.count) }

-- a literal with its repeat
pub literal_onward : {t : List ℕ} {here : ℕ} {o p : Draft} {l : Literal} → Begun (length t) (state here o) → Taken t here l
    → Stored o p (postorder (copies l.byte l.least l.most)) (replicate l.most l.byte) → Onward (length t) (state here o) (state l.next p) 2
literal_onward {l = l} g h w = record {
  further = h.further;
  inside = h.inside;
  nodes = omega (arith, copies-short l.byte l.least l.most h.least, w.nodes.count, h.most, h.further, g.nodes);
  leaves = omega (arith, length-replicate {A = ℕ} l.most l.byte, w.literals.count, h.most, h.further, g.leaves);
}

-- Units, sequences and alternations, part by part: how the walk goes on and what has been stored.
use mathlib.Core.Path.{◌≡◌, refl, sym, ◌∙◌}
use mathlib.Core.Bool.{true, false, true≢false}
use mathlib.Core.Option.{Option, none, some}
use mathlib.Core.List.{List, [], ◌∷◌, ◌++◌, append-nil}
use Prim.Native.Nat.{ℕ, suc, ◌+◌, ◌≤◌}
use native.Mathlib.Omega.{arith}
use lib.ListN.{length-drop, length, get_or, drop, replicate}
use Rattle.rules.specs.declared.TextFault.TheVariants.{OpenUnclosed}
use Rattle.rules.specs.Limits.{open_limit}
use Rattle.rules.specs.Fault.{Refusal, at}
use Rattle.buffers.proofs.Stores.{wrote_both, wrote_as}
use Rattle.language.specs.Tree.{Tree, leaf, empty, cat, star}
use Rattle.sheet.specs.Nodes.{leaf_node, empty_node, cat_node, union_node, star_node}
use Rattle.sheet.specs.Make.{postorder}
use Rattle.lexer.specs.Bytes.{bar, asterisk, left_parenthesis, right_parenthesis}
use Rattle.lexer.specs.Tokens.{placed, a_close, starts, tokens_from}
use Rattle.lexer.specs.Places.{plain_at, Taken}
use Rattle.lexer.specs.declared.Literal.{Literal}
use Rattle.lexer.proofs.Front.{tokens_end, tokens_bar, tokens_star, tokens_open, tokens_close}
use Rattle.lexer.proofs.Units.{tokens_plain}
use Rattle.repeats.specs.Copies.{copies}
use Rattle.repeats.proofs.Leaves.{copies-leaves}
use Rattle.text.specs.declared.Draft.{Draft}
use Rattle.text.specs.Walk.{Frame, begin, going, after, value, tree, parse}
use Rattle.text.specs.Reads.{Stored, State, state, go, Part, SeqPart, AltPart, Ends, Fails, ends_at}
use Rattle.text.proofs.Parsing.{starred-put}

-- two parts of a draft stored one after the other
pub stored_both : {o p q : Draft} {vs ws xs ys : List ℕ} → Stored o p vs ws → Stored p q xs ys → Stored o q (vs ++ xs) (ws ++ ys)
stored_both a b = record { nodes = wrote_both a.nodes b.nodes; literals = wrote_both a.literals b.literals }

pub stored_as : {o p : Draft} {vs xs ws ys : List ℕ} → vs ≡ xs → ws ≡ ys → Stored o p vs ws → Stored o p xs ys
stored_as e f a = record { nodes = wrote_as e a.nodes; literals = wrote_as f a.literals }

-- an operator after what was stored
pub stored_op : {o p q : Draft} {vs ws : List ℕ} {k : ℕ} → Stored o p vs ws → Stored p q (k ∷ []) [] → Stored o q (vs ++ k ∷ []) ws
stored_op {ws = ws} a b = stored_as refl (append-nil ws) (stored_both a b)

-- A UNIT
module _ {t : List ℕ} {d here : ℕ} {o p : Draft} where
  pub part_plain : plain_at (drop here t) ≡ true → Stored o p (leaf_node ∷ []) (get_or t here 0 ∷ []) → Part t d (state here o) (state (here + 1) p)
  part_plain e w = record { made = leaf (get_or t here 0); stored = w; walk = λ f gs. rw (tokens_plain t here e) refl }

  pub part_literal : {l : Literal} → Taken t here l → Stored o p (postorder (copies l.byte l.least l.most)) (replicate l.most l.byte) → Part t d (state here o) (state l.next p)
  part_literal {l} g w = record {
    made = copies l.byte l.least l.most;
    stored = stored_as refl (sym (copies-leaves l.byte l.least l.most g.least)) w;
    walk = λ f gs. rw g.token refl;
  }

-- a parenthesis opens here, and e more may be opened in it
pub record Opens (t : List ℕ) (d e here : ℕ) : Type 0 where
  pub deeper : d ≡ suc e
  pub bracket : starts (drop here t) left_parenthesis ≡ true

module _ {t : List ℕ} {d e here : ℕ} (b : Opens t d e here) where
  pub part_void : {o p : Draft} → starts (drop (here + 1) t) right_parenthesis ≡ true → Stored o p (empty_node ∷ []) [] → Part t d (state here o) (state (here + 2) p)
  part_void c w =
      let z : here + 1 + 1 ≡ here + 2 = omega arith in
      let g : tokens_from t (here + 1) ≡ placed (here + 1) a_close ∷ tokens_from t (here + 2) = rw z at (tokens_close t (here + 1) c) in
      record { made = empty; stored = w; walk = λ f gs. rw (tokens_open t here b.bracket, b.deeper, g) refl }

  pub fails_group : starts (drop (here + 1) t) right_parenthesis ≡ false → (k : Refusal) → ((gs : List Frame) → Ends t e (here + 1) k (begin none) gs) → Fails t d here k
  fails_group n k h f gs r c = rw (tokens_open t here b.bracket, b.deeper) (h (f ∷ gs) n (omega (arith, b.deeper)))

  module _ {o p : Draft} {next : ℕ} (w : AltPart t e (state (here + 1) o) (state next p)) where
    pub part_group : starts (drop next t) right_parenthesis ≡ true → Part t d (state here o) (state (next + 1) p)
    part_group c = record {
      made = value w.a w.s w.u;
      stored = w.stored;
      walk = λ f gs. rw (tokens_open t here b.bracket, b.deeper) (w.walk (f ∷ gs) ∙ rw (tokens_close t next c) refl);
    }

    pub fails_unclosed : next ≤ length t → length t ≤ next → Fails t d here (at next OpenUnclosed)
    fails_unclosed h g f gs r c =
        let z : length t ≡ next = omega arith in
        rw (tokens_open t here b.bracket, b.deeper) (w.walk (f ∷ gs) ∙ rw (tokens_end t next g, z) refl)

-- a star after it
pub part_star : {t : List ℕ} {d : ℕ} {o : State} {here : ℕ} {p q : Draft} → Part t d o (state here p) → starts (drop here t) asterisk ≡ true
    → Stored p q (star_node ∷ []) [] → Part t d o (state (here + 1) q)
part_star {t} {d} {here = here} w e v = record {
  made = star w.made;
  stored = stored_op w.stored v;
  walk = λ f gs. w.walk f gs ∙ rw (tokens_star t here e) (starred-put (length t) d here w.made (tokens_from t (here + 1)) f gs);
}

-- A SEQUENCE
module _ {t : List ℕ} {d : ℕ} {o : State} where
  module _ {here : ℕ} {p : Draft} (w : SeqPart t d o (state here p)) where
    -- a unit more, and the concatenation
    pub seq_more : {next : ℕ} {q r : Draft} → Part t d (state here p) (state next q) → Stored q r (cat_node ∷ []) [] → SeqPart t d o (state next r)
    seq_more v e = record {
      s = some (after cat w.s w.u);
      u = v.made;
      stored = stored_op (stored_both w.stored v.stored) e;
      walk = λ a gs. w.walk a gs ∙ v.walk (going a w.s w.u) gs;
    }

-- AN ALTERNATION
module _ {t : List ℕ} {d : ℕ} {o : State} where
  module _ {here : ℕ} {p : Draft} (w : AltPart t d o (state here p)) (e : starts (drop here t) bar ≡ true) where
    barred : (gs : List Frame) → go t d o.place (begin none) gs ≡ go t d (here + 1) (begin (some (value w.a w.s w.u))) gs
    barred gs = w.walk gs ∙ rw (tokens_bar t here e) refl

    -- a sequence more after its bar, and the union
    pub alt_more : {next : ℕ} {q r : Draft} → SeqPart t d (state (here + 1) p) (state next q) → Stored q r (union_node ∷ []) [] → AltPart t d o (state next r)
    alt_more v e = record {
      a = some (value w.a w.s w.u);
      s = v.s;
      u = v.u;
      stored = stored_op (stored_both w.stored v.stored) e;
      walk = λ gs. barred gs ∙ v.walk (some (value w.a w.s w.u)) gs;
    }

    pub alt_fails : (k : Refusal) → ((a : Option (Tree ℕ)) (gs : List Frame) → Ends t d (here + 1) k (begin a) gs) → (gs : List Frame) → Ends t d o.place k (begin none) gs
    alt_fails k h gs r c = barred gs ∙ h (some (value w.a w.s w.u)) gs tt c

-- WHERE AN ALTERNATION ENDS
end_is : (s : List ℕ) → ends_at s ≡ true → starts s right_parenthesis ≡ false → length s ≡ 0
end_is [] e c = refl
end_is (b ∷ s) e c = absurd (true≢false (sym e ∙ c))

-- an alternation that does not end at a closed parenthesis ends with the text
pub at_end_lem : (t : List ℕ) (here : ℕ) → ends_at (drop here t) ≡ true → starts (drop here t) right_parenthesis ≡ false → length t ≤ here
at_end_lem t here e c = omega (arith, length-drop here t, end_is (drop here t) e c)

-- A WHOLE TEXT
module _ {t : List ℕ} {o : Draft} {here : ℕ} {p : Draft} (w : AltPart t open_limit (state 0 o) (state here p)) where
  pub found_end : length t ≤ here → parse t ≡ tree (value w.a w.s w.u)
  found_end h = w.walk [] ∙ rw (tokens_end t here h) refl

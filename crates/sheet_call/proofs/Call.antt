-- The whole call: which refusal is the first, and what is made where there is none.
use mathlib.Core.Path.{◌≡◌, refl, ap, ◌∙◌}
use mathlib.Core.Option.{Option, none, some}
use mathlib.Core.List.{List, [], ◌∷◌, ◌++◌}
use Prim.Native.Nat.{ℕ, zero, suc, ◌+◌, ◌<◌, ◌≤◌}
use native.Mathlib.Omega.{arith}
use lib.ListN.{length, take, drop}
use lib.Seq.{sets, sets-eq, take_at}
use borrow.Author.Tests.{lt-ltb, le-ltb}
use Rattle.rules.specs.Limits.{text_limit, open_limit, leaf_limit, node_limit, wiped, filled}
use Rattle.rules.specs.declared.TextFault.TheVariants.{TextLong, LeavesMany, NodesMany, SheetShort}
use Rattle.rules.specs.Fault.{Refusal, at}
use Rattle.rules.specs.Grounds.{refused, answered}
use Rattle.buffers.specs.Wrote.{Wrote}
use Rattle.language.specs.Tree.{Tree}
use Rattle.sheet.specs.Form1.{length_for, laid_out}
use Rattle.sheet.specs.Make.{leaves, postorder, sheet_of}
use Rattle.sheet.proofs.Own.{length-leaves, own_length}
use Rattle.lexer.specs.Tokens.{Placed, placed, a_literal, a_bar, a_star, an_open, a_close, a_fault, tokens_from}
use Rattle.lexer.specs.Faults.{lexical, passing}
use Rattle.std.specs.Prelude.{Ok, Err}
use Rattle.lexer.specs.Places.{PassesAt}
use Rattle.lexer.proofs.Literals.{writable}
use Rattle.lexer.proofs.Walks.{total, passed_total, passing-none}
use Rattle.text.specs.Walk.{Frame, begin, going, tree, fault, run, parse}
use Rattle.text.specs.Refusals.{text_refusal}
use Rattle.text.specs.Outcome.{made, short, SheetCall}
use Rattle.text.specs.declared.Draft.{Draft}
use Rattle.text.specs.Reads.{Whole}
use Rattle.text.proofs.Parsing.{parse_iff}
use Rattle.text.proofs.Made.{known}
use Rattle.sheet_call.specs.Answer.{sheet_end}

never : {A : Type 0} {f : Refusal} {t : Tree ℕ} → fault f ≡ tree t → A
never e = let z : ◌≡◌ {A = ℕ} 0 1 = cc in absurd (omega arith)

-- a walk that finds a tree meets no fault among the tokens
clean : (e d : ℕ) (ps : List Placed) (f : Frame) (gs : List Frame) (t : Tree ℕ) → run e d ps f gs ≡ tree t → lexical ps ≡ none
clean e d [] f gs t q = refl
clean e d (placed i (a_literal b x y) ∷ ps) f gs t q = clean e d ps _ gs t q
clean e d (placed i a_star ∷ ps) (begin a) gs t q = never q
clean e d (placed i a_star ∷ ps) (going a s u) gs t q = clean e d ps _ gs t q
clean e d (placed i a_bar ∷ ps) (begin a) gs t q = never q
clean e d (placed i a_bar ∷ ps) (going a s u) gs t q = clean e d ps _ gs t q
clean e zero (placed i an_open ∷ ps) f gs t q = never q
clean e (suc d) (placed i an_open ∷ ps) f gs t q = clean e d ps (begin none) (f ∷ gs) t q
clean e d (placed i a_close ∷ ps) f [] t q = never q
clean e d (placed i a_close ∷ ps) (begin none) (g ∷ gs) t q = clean e (suc d) ps _ gs t q
clean e d (placed i a_close ∷ ps) (begin (some r)) (g ∷ gs) t q = never q
clean e d (placed i a_close ∷ ps) (going a s u) (g ∷ gs) t q = clean e (suc d) ps _ gs t q
clean e d (placed i (a_fault k) ∷ ps) f gs t q = never q

-- WHAT REFUSES
pub refusal_long : (text : List ℕ) → text_limit < length text → text_refusal text ≡ some (at text_limit TextLong)
refusal_long text h = rw (lt-ltb text_limit (length text) h) refl

module _ (text : List ℕ) (h : length text ≤ text_limit) where
  module _ (t : Tree ℕ) (q : parse text ≡ tree t) where
    tokens_clean : lexical (tokens_from text 0) ≡ none
    tokens_clean = clean (length text) open_limit (tokens_from text 0) (begin none) [] t q

    leaves_total : length (leaves t) ≡ total (tokens_from text 0)
    leaves_total = length-leaves t ∙ (known ((parse_iff text t).0 q) (writable text 0)).sized

    -- 16
    pub refusal_leaves : (p : ℕ) → leaf_limit < length (leaves t) → PassesAt text p → text_refusal text ≡ some (at p LeavesMany)
    refusal_leaves p g w = go (passing 0 (tokens_from text 0)) refl
      where
        go : (o : Option Refusal) → passing 0 (tokens_from text 0) ≡ o → text_refusal text ≡ some (at p LeavesMany)
        go none e = absurd (omega (arith, passed_total 0 (tokens_from text 0) (omega arith) e, leaves_total))
        go (some f) e = rw (le-ltb text_limit (length text) h, tokens_clean, q, e) (ap some (w f e))

    module _ (g : length (leaves t) ≤ leaf_limit) where
      few : passing 0 (tokens_from text 0) ≡ none
      few = passing-none 0 (tokens_from text 0) (omega (arith, leaves_total))

      -- 17
      pub refusal_nodes : node_limit < length (postorder t) → text_refusal text ≡ some (at (length text) NodesMany)
      refusal_nodes k = rw (le-ltb text_limit (length text) h, tokens_clean, q, few, lt-ltb node_limit (length (postorder t)) k) refl

      pub no_refusal : length (postorder t) ≤ node_limit → text_refusal text ≡ none
      no_refusal k = rw (le-ltb text_limit (length text) h, tokens_clean, q, few, le-ltb node_limit (length (postorder t)) k) refl

-- WHAT THE CALL ENDS WITH
pub call_refused : (text buffer : List ℕ) (why : Refusal) → text_refusal text ≡ some why → SheetCall text buffer (sheet_end (Err why) (wiped buffer))
call_refused text buffer why e = refused e

-- what was stored is the front of a buffer
stored : {n : ℕ} {zs : List ℕ} {m : ℕ} {ys vs : List ℕ} → n ≡ 0 → Wrote n zs m ys vs → m ≤ length zs → take m ys ≡ vs
stored {n} {zs} {m} {ys} {vs} o w c =
    let e : ys ≡ sets zs 0 vs = rw o at w.bytes in
    let k : m ≡ length vs = omega (arith, w.count) in
    let i : 0 + length vs ≡ length vs = omega arith in
    let f : sets zs 0 vs ≡ vs ++ drop (length vs) zs = rw i at (sets-eq vs zs 0 (omega arith)) in
    rw (e ∙ f, k) (take_at vs (drop (length vs) zs) (length vs) refl)

-- the text has been read
module _ {text : List ℕ} {draft : Draft} (h : length text ≤ text_limit) (v : Whole text draft) where
  node_count_lem : length (postorder v.made) ≡ draft.nodes.count
  node_count_lem = omega (arith, v.stored.nodes.count, v.fresh.nodes)

  leaf-count : length (leaves v.made) ≡ draft.literals.count
  leaf-count = omega (arith, v.stored.literals.count, v.fresh.literals)

  pub call_leaves : {buffer : List ℕ} {why : Refusal} {here : ℕ} → leaf_limit < draft.literals.count → PassesAt text here → why ≡ at here LeavesMany
      → SheetCall text buffer (sheet_end (Err why) (wiped buffer))
  call_leaves {here = here} g w e = rw e (refused (refusal_leaves text h v.made v.found here (omega (arith, leaf-count)) w))

  pub call_nodes : {buffer : List ℕ} {why : Refusal} {end : ℕ} → draft.literals.count ≤ leaf_limit → node_limit < draft.nodes.count → end ≡ length text → why ≡ at end NodesMany
      → SheetCall text buffer (sheet_end (Err why) (wiped buffer))
  call_nodes g k z e = rw (e, z) (refused (refusal_nodes text h v.made v.found (omega (arith, leaf-count)) (omega (arith, node_count_lem))))

  module _ (g : draft.literals.count ≤ leaf_limit) (k : draft.nodes.count ≤ node_limit) {needed : ℕ} (q : needed ≡ length_for draft.literals.count draft.nodes.count) where
    none_refuses : text_refusal text ≡ none
    none_refuses = no_refusal text h v.made v.found (omega (arith, leaf-count)) (omega (arith, node_count_lem))

    sheet-length : length (sheet_of v.made) ≡ needed
    sheet-length = own_length v.made ∙ rw (leaf-count, node_count_lem, q) refl

    pub call_short : {buffer : List ℕ} {why : Refusal} → length buffer < needed → why ≡ at needed SheetShort → SheetCall text buffer (sheet_end (Err why) (wiped buffer))
    call_short {buffer} c e =
        let s : length buffer < length (sheet_of v.made) = omega (arith, sheet-length) in
        rw (e, ← sheet-length) (answered none_refuses (short ((parse_iff text v.made).0 v.found) s))

    pub call_made : {buffer after ls ns : List ℕ} → needed ≤ length buffer → ls ≡ take draft.literals.count draft.literals.bytes → ns ≡ take draft.nodes.count draft.nodes.bytes → after ≡ filled buffer (laid_out ls ns)
        → SheetCall text buffer (sheet_end (Ok needed) after)
    call_made {buffer} {after} c x y w =
        let s : length (sheet_of v.made) ≤ length buffer = omega (arith, sheet-length) in
        let l = x ∙ stored v.fresh.literals v.stored.literals (omega (arith, v.fresh.literal_room)) in
        let n = y ∙ stored v.fresh.nodes v.stored.nodes (omega (arith, v.fresh.node_room)) in
        let z : after ≡ filled buffer (sheet_of v.made) = w ∙ rw (l, n) refl in
        rw (z, ← sheet-length) (answered none_refuses (made ((parse_iff text v.made).0 v.found) s))

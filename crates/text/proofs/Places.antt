-- How large the second number of the sheet call can be: a place is at most the text limit, and a made sheet's length at most that of the largest sheet.
use mathlib.Core.Path.{◌≡◌, refl}
use mathlib.Core.Bool.{Bool, true, false, cond}
use mathlib.Core.Option.{Option, none, some}
use mathlib.Core.List.{List, [], ◌∷◌}
use Prim.Native.Nat.{ℕ, zero, suc, ◌+◌, ◌≤◌}
use native.Mathlib.Omega.{arith}
use lib.Dec.{ltb}
use lib.ListN.{length}
use borrow.Author.Tests.{ltb-false}
use Rattle.rules.specs.Limits.{text_limit, open_limit, leaf_limit, node_limit}
use Rattle.rules.specs.declared.TextFault.TheVariants.{TextLong, LeavesMany, NodesMany}
use Rattle.rules.specs.Grounds.{because, first_of}
use Rattle.rules.specs.Fault.{Refusal, at}
use Rattle.rules.proofs.Grounds.{some_eq, Gives, AllGive, because_gives, first_gives}
use Rattle.language.specs.Tree.{Tree}
use Rattle.lexer.specs.Tokens.{a_literal, a_bar, a_star, an_open, a_close, a_fault, Placed, placed, tokens_from}
use Rattle.lexer.specs.Faults.{lexical, leaves_of, passing}
use Rattle.lexer.proofs.Inside.{Inside, inside}
use Rattle.sheet.specs.Make.{postorder, sheet_of}
use Rattle.sheet.proofs.Own.{length-leaves, own_length}
use Rattle.text.specs.Walk.{Frame, begin, going, Answer, tree, fault, run, parse}
use Rattle.text.specs.Refusals.{grammatical, too_big, text_refusal}
use Rattle.text.specs.Outcome.{TreeOfText}
use Rattle.text.proofs.Made.{within}

module _ (e : ℕ) where
  abbrev Near : Refusal → Type 0
  Near f = f.place ≤ e

  lexical_near : (ps : List Placed) → Inside e ps → Gives Near (lexical ps)
  lexical_near [] w = tt
  lexical_near (placed i (a_fault k) ∷ ps) (h, w) = h
  lexical_near (placed i (a_literal b x y) ∷ ps) (h, w) = lexical_near ps w
  lexical_near (placed i a_bar ∷ ps) (h, w) = lexical_near ps w
  lexical_near (placed i a_star ∷ ps) (h, w) = lexical_near ps w
  lexical_near (placed i an_open ∷ ps) (h, w) = lexical_near ps w
  lexical_near (placed i a_close ∷ ps) (h, w) = lexical_near ps w

  run_near : (d : ℕ) (ps : List Placed) (f : Frame) (gs : List Frame) → Inside e ps → Gives Near (grammatical (run e d ps f gs))
  run_near d [] (begin a) [] w = omega arith
  run_near d [] (going a s u) [] w = tt
  run_near d [] f (g ∷ gs) w = omega arith
  run_near d (placed i (a_literal b x y) ∷ ps) f gs (h, w) = run_near d ps _ gs w
  run_near d (placed i a_star ∷ ps) (begin a) gs (h, w) = h
  run_near d (placed i a_star ∷ ps) (going a s u) gs (h, w) = run_near d ps _ gs w
  run_near d (placed i a_bar ∷ ps) (begin a) gs (h, w) = h
  run_near d (placed i a_bar ∷ ps) (going a s u) gs (h, w) = run_near d ps _ gs w
  run_near zero (placed i an_open ∷ ps) f gs (h, w) = h
  run_near (suc d) (placed i an_open ∷ ps) f gs (h, w) = run_near d ps (begin none) (f ∷ gs) w
  run_near d (placed i a_close ∷ ps) f [] (h, w) = h
  run_near d (placed i a_close ∷ ps) (begin none) (g ∷ gs) (h, w) = run_near (suc d) ps _ gs w
  run_near d (placed i a_close ∷ ps) (begin (some r)) (g ∷ gs) (h, w) = h
  run_near d (placed i a_close ∷ ps) (going a s u) (g ∷ gs) (h, w) = run_near (suc d) ps _ gs w
  run_near d (placed i (a_fault k) ∷ ps) f gs (h, w) = h

  passing_near : (n : ℕ) (ps : List Placed) → Inside e ps → Gives Near (passing n ps)
  passing_near n [] w = tt
  passing_near n (placed i t ∷ ps) (h, w) = go (ltb leaf_limit (n + leaves_of t)) (passing_near (n + leaves_of t) ps w)
    where
      go : (b : Bool) → Gives Near (passing (n + leaves_of t) ps) → Gives Near (cond b (some (at i LeavesMany)) (passing (n + leaves_of t) ps))
      go true rest = h
      go false rest = rest

  big_near : (o : Answer) → Gives Near (too_big e o)
  big_near (tree t) = because_gives Near (ltb node_limit (length (postorder t))) (at e NodesMany) (omega arith)
  big_near (fault f) = tt

-- the place of a refusal
pub place_small : (text : List ℕ) (f : Refusal) → text_refusal text ≡ some f → f.place ≤ text_limit
place_small text f e = go (ltb text_limit (length text)) refl e
  where
    rest : List (Option Refusal)
    rest = lexical (tokens_from text 0) ∷ grammatical (parse text) ∷ passing 0 (tokens_from text 0) ∷ too_big (length text) (parse text) ∷ []

    near : AllGive (Near (length text)) rest
    near = (
      lexical_near (length text) (tokens_from text 0) (inside text),
      (
        run_near (length text) open_limit (tokens_from text 0) (begin none) [] (inside text),
        (passing_near (length text) 0 (tokens_from text 0) (inside text), (big_near (length text) (parse text), tt)),
      ),
    )

    go : (b : Bool) → ltb text_limit (length text) ≡ b → first_of (because b (at text_limit TextLong) ∷ rest) ≡ some f → f.place ≤ text_limit
    go true l q = rw (← some_eq q) (omega arith)
    go false l q =
        let n : f.place ≤ length text = rw q at (first_gives (Near (length text)) rest near) in
        omega (arith, ltb-false text_limit (length text) l)

-- the length of a made sheet
pub sheet_small : (text : List ℕ) (t : Tree ℕ) → text_refusal text ≡ none → TreeOfText text t → length (sheet_of t) ≤ 3 + leaf_limit + node_limit
sheet_small text t e p = let w = within text e t p in omega (arith, own_length t, length-leaves t, w.few, w.small)

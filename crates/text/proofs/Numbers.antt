-- Which numbers refuse a text: 10 to 19, and never 18.
use mathlib.Core.Path.{◌≡◌}
use mathlib.Core.Logic.{inl, inr}
use mathlib.Core.Bool.{Bool, true, false, cond}
use mathlib.Core.Option.{Option, none, some}
use mathlib.Core.List.{List, [], ◌∷◌}
use Prim.Native.Nat.{ℕ, zero, suc, ◌+◌, ◌≤◌}
use native.Mathlib.Omega.{arith}
use lib.Dec.{ltb}
use lib.ListN.{length}
use Rattle.rules.specs.Limits.{text_limit, open_limit, leaf_limit, node_limit}
use Rattle.rules.specs.Numbers.{text_long, nodes_many, repeat_fault, sheet_short}
use Rattle.rules.specs.declared.TextFault.{TextFault}
use Rattle.rules.specs.declared.TextFault.TheVariants.{TextLong, OperandMissing, CloseUnopened, OpenUnclosed, OpenDeep, LeavesMany, NodesMany}
use Rattle.rules.specs.Fault.{Refusal, text_fault_number, at}
use Rattle.rules.proofs.Grounds.{Gives, AllGive, because_gives, first_gives}
use Rattle.lexer.specs.Tokens.{a_literal, a_bar, a_star, an_open, a_close, a_fault, Placed, placed, tokens_from}
use Rattle.lexer.specs.Faults.{lexical, leaves_of, passing}
use Rattle.lexer.proofs.Literals.{Literal, Writable, writable}
use Rattle.sheet.specs.Make.{postorder}
use Rattle.text.specs.Walk.{Frame, begin, going, Answer, tree, fault, run, parse}
use Rattle.text.specs.Refusals.{grammatical, too_big, text_grounds, text_refusal}

pub record TextNumber (k : ℕ) : Type 0 where
  pub low : text_long ≤ k
  pub high : k ≤ repeat_fault
  pub other : k ≡ sheet_short → ⊥

-- the fault of a refusal, if there is one, has such a number
abbrev Right : Refusal → Type 0
Right f = TextNumber (text_fault_number f.fault)

abbrev Numbered : Option Refusal → Type 0
Numbered = Gives Right

token-number : (k : TextFault) → Literal (a_fault k) → TextNumber (text_fault_number k)
token-number k (inl e) = rw e (record { low = omega arith; high = omega arith; other = λ f. omega arith })
token-number k (inr e) = rw e (record { low = omega arith; high = omega arith; other = λ f. omega arith })

lexical_numbered : (ps : List Placed) → Writable ps → Numbered (lexical ps)
lexical_numbered [] w = tt
lexical_numbered (placed i (a_fault k) ∷ ps) (l, w) = token-number k l
lexical_numbered (placed i (a_literal b x y) ∷ ps) (l, w) = lexical_numbered ps w
lexical_numbered (placed i a_bar ∷ ps) (l, w) = lexical_numbered ps w
lexical_numbered (placed i a_star ∷ ps) (l, w) = lexical_numbered ps w
lexical_numbered (placed i an_open ∷ ps) (l, w) = lexical_numbered ps w
lexical_numbered (placed i a_close ∷ ps) (l, w) = lexical_numbered ps w

fixed : (k : TextFault) → text_long ≤ text_fault_number k → text_fault_number k ≤ nodes_many → TextNumber (text_fault_number k)
fixed k a b = record { low = a; high = omega arith; other = λ e. omega arith }

run_numbered : (e d : ℕ) (ps : List Placed) (f : Frame) (gs : List Frame) → Writable ps → Numbered (grammatical (run e d ps f gs))
run_numbered e d [] (begin a) [] w = fixed OperandMissing (omega arith) (omega arith)
run_numbered e d [] (going a s u) [] w = tt
run_numbered e d [] f (g ∷ gs) w = fixed OpenUnclosed (omega arith) (omega arith)
run_numbered e d (placed i (a_literal b x y) ∷ ps) f gs (l, w) = run_numbered e d ps _ gs w
run_numbered e d (placed i a_star ∷ ps) (begin a) gs w = fixed OperandMissing (omega arith) (omega arith)
run_numbered e d (placed i a_star ∷ ps) (going a s u) gs (l, w) = run_numbered e d ps _ gs w
run_numbered e d (placed i a_bar ∷ ps) (begin a) gs w = fixed OperandMissing (omega arith) (omega arith)
run_numbered e d (placed i a_bar ∷ ps) (going a s u) gs (l, w) = run_numbered e d ps _ gs w
run_numbered e zero (placed i an_open ∷ ps) f gs w = fixed OpenDeep (omega arith) (omega arith)
run_numbered e (suc d) (placed i an_open ∷ ps) f gs (l, w) = run_numbered e d ps (begin none) (f ∷ gs) w
run_numbered e d (placed i a_close ∷ ps) f [] w = fixed CloseUnopened (omega arith) (omega arith)
run_numbered e d (placed i a_close ∷ ps) (begin none) (g ∷ gs) (l, w) = run_numbered e (suc d) ps _ gs w
run_numbered e d (placed i a_close ∷ ps) (begin (some r)) (g ∷ gs) w = fixed OperandMissing (omega arith) (omega arith)
run_numbered e d (placed i a_close ∷ ps) (going a s u) (g ∷ gs) (l, w) = run_numbered e (suc d) ps _ gs w
run_numbered e d (placed i (a_fault k) ∷ ps) f gs (l, w) = token-number k l

passing_numbered : (n : ℕ) (ps : List Placed) → Numbered (passing n ps)
passing_numbered n [] = tt
passing_numbered n (placed i t ∷ ps) = go (ltb leaf_limit (n + leaves_of t)) (passing_numbered (n + leaves_of t) ps)
  where
    go : (b : Bool) → Numbered (passing (n + leaves_of t) ps) → Numbered (cond b (some (at i LeavesMany)) (passing (n + leaves_of t) ps))
    go true rest = fixed LeavesMany (omega arith) (omega arith)
    go false rest = rest

big_numbered : (e : ℕ) (o : Answer) → Numbered (too_big e o)
big_numbered e (tree t) = because_gives Right (ltb node_limit (length (postorder t))) (at e NodesMany) (fixed NodesMany (omega arith) (omega arith))
big_numbered e (fault f) = tt

pub text_number : (text : List ℕ) (f : Refusal) → text_refusal text ≡ some f → TextNumber (text_fault_number f.fault)
text_number text f e =
    let w = writable text 0 in
    let long = because_gives Right (ltb text_limit (length text)) (at text_limit TextLong) (fixed TextLong (omega arith) (omega arith)) in
    let lexes = lexical_numbered (tokens_from text 0) w in
    let runs = run_numbered (length text) open_limit (tokens_from text 0) (begin none) [] w in
    let all : AllGive Right (text_grounds text) = (long, (lexes, (runs, (passing_numbered 0 (tokens_from text 0), (big_numbered (length text) (parse text), tt))))) in
    rw e at (first_gives Right (text_grounds text) all)

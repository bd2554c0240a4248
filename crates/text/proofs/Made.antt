-- A text that is not refused: its tree has the tokens' leaves and is within the limits, so its sheet is accepted and stands for that tree.
use mathlib.Core.Path.{◌≡◌, refl, ap, sym}
use mathlib.Core.Bool.{false}
use mathlib.Core.Option.{none}
use mathlib.Core.List.{List, [], ◌∷◌, ◌++◌}
use Prim.Native.Nat.{ℕ, zero, suc, ◌+◌, ◌≤◌}
use native.Mathlib.Omega.{arith}
use lib.Dec.{ltb}
use lib.ListN.{length, replicate, length-replicate}
use borrow.Author.Tests.{ltb-false}
use Rattle.rules.specs.Limits.{open_limit, leaf_limit, node_limit, outside}
use Rattle.rules.proofs.Grounds.{no_some, passed, not_because}
use Rattle.language.specs.Tree.{Tree, size}
use Rattle.lexer.specs.Tokens.{a_bar, a_star, a_close, Placed, placed, tokens_from}
use Rattle.lexer.specs.Faults.{passing}
use Rattle.lexer.proofs.Walks.{total, passed_total}
use Rattle.lexer.proofs.Literals.{Writable, writable}
use Rattle.sheet.specs.Make.{leaves, postorder, sheet_of}
use Rattle.sheet.specs.Nodes.{any_of}
use Rattle.sheet.specs.Refusals.{sheet_refusal}
use Rattle.sheet.proofs.Own.{length-leaves, own_accepted, any_append}
use Rattle.repeats.specs.Copies.{copies}
use Rattle.repeats.proofs.Leaves.{copies-leaves}
use Rattle.text.specs.Grammar.{Level, Parses, literal, void, group, starred, one, then, only, or}
use Rattle.text.specs.Walk.{Answer, tree, fault, parse}
use Rattle.text.specs.Refusals.{grammatical, too_big, text_grounds, text_refusal}
use Rattle.text.specs.Outcome.{TreeOfText}
use Rattle.text.proofs.Parsing.{parse_iff, unambiguous}

total_append : (ps qs : List Placed) → total (ps ++ qs) ≡ total ps + total qs
total_append [] qs = omega arith
total_append (placed i t ∷ ps) qs = omega (arith, total_append ps qs)

-- a tree whose leaves are bytes that may be written
abbrev Plain : Tree ℕ → Type 0
Plain t = any_of outside (leaves t) ≡ false

same_plain : (b : ℕ) → outside b ≡ false → (n : ℕ) → any_of outside (replicate n b) ≡ false
same_plain b h zero = refl
same_plain b h (suc n) = rw (h, same_plain b h n) refl

-- what is known of a tree from its tokens
pub record Known (ps : List Placed) (t : Tree ℕ) : Type 0 where
  pub sized : size t ≡ total ps
  pub plain : any_of outside (leaves t) ≡ false

front : (ps qs : List Placed) → Writable (ps ++ qs) → Writable ps
front [] qs w = tt
front (placed i t ∷ ps) qs (l, w) = (l, front ps qs w)

back : (ps qs : List Placed) → Writable (ps ++ qs) → Writable qs
back [] qs w = w
back (placed i t ∷ ps) qs (l, w) = back ps qs w

pub known : {d : ℕ} {l : Level} {ps : List Placed} {t : Tree ℕ} → Parses d l ps t → Writable ps → Known ps t
known (literal {b = b} {x = x} {y = y}) ((h, r), w) =
    let all = copies-leaves b x y r in
    record { sized = omega (arith, length-leaves (copies b x y), ap length all, length-replicate y b); plain = rw all (same_plain b h y) }
known void w = record { sized = refl; plain = refl }
known (group j {ps = ps} p) (l, w) =
    let k = known p (front ps (placed j a_close ∷ []) w) in
    record { sized = omega (arith, k.sized, total_append ps (placed j a_close ∷ [])); plain = k.plain }
known (starred i {ps = ps} p) w =
    let k = known p (front ps (placed i a_star ∷ []) w) in
    record { sized = omega (arith, k.sized, total_append ps (placed i a_star ∷ [])); plain = k.plain }
known (one p) w = known p w
known (then {ps = ps} {qs = qs} {r = r} {t = t} p q) w =
    let j = known p (front ps qs w) in
    let k = known q (back ps qs w) in
    record { sized = omega (arith, j.sized, k.sized, total_append ps qs); plain = any_append outside (leaves r) (leaves t) j.plain k.plain }
known (only p) w = known p w
known (or i {ps = ps} {qs = qs} {r = r} {t = t} p q) w =
    let j = known p (front ps (placed i a_bar ∷ qs) w) in
    let k = known q (back ps (placed i a_bar ∷ qs) w).1 in
    record { sized = omega (arith, j.sized, k.sized, total_append ps (placed i a_bar ∷ qs)); plain = any_append outside (leaves r) (leaves t) j.plain k.plain }

-- a text that is not refused has a tree within the limits
pub record Within (text : List ℕ) (t : Tree ℕ) : Type 0 where
  pub tree : TreeOfText text t
  pub few : size t ≤ leaf_limit
  pub small : length (postorder t) ≤ node_limit
  pub plain : any_of outside (leaves t) ≡ false

module _ (text : List ℕ) (e : text_refusal text ≡ none) where
  pub has-tree : (t : Tree ℕ) × Within text t
  has-tree =
      let (a, (b, (c, (d, (f, z))))) = passed (text_grounds text) e in
      go (parse text) refl c d f
    where
      go : (o : Answer) → parse text ≡ o → grammatical o ≡ none → passing 0 (tokens_from text 0) ≡ none → too_big (length text) o ≡ none → (t : Tree ℕ) × Within text t
      go (fault f) q c d g = no_some (sym c)
      go (tree t) q c d g =
          let p = (parse_iff text t).0 q in
          let k = known p (writable text 0) in (
            t,
            record {
              tree = p;
              few = omega (arith, k.sized, passed_total 0 (tokens_from text 0) (omega arith) d);
              small = ltb-false node_limit (length (postorder t)) (not_because (ltb node_limit (length (postorder t))) _ g);
              plain = k.plain;
            },
          )

  -- the tree of a text that is not refused is within the limits
  pub within : (t : Tree ℕ) → TreeOfText text t → Within text t
  within t p = let (u, w) = has-tree in rw (unambiguous open_limit (tokens_from text 0) u t w.tree p) at w

  -- its sheet is accepted
  pub made-accepted : (t : Tree ℕ) → TreeOfText text t → sheet_refusal (sheet_of t) ≡ none
  made-accepted t p = let w = within t p in own_accepted t w.few w.small w.plain

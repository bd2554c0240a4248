-- Form 1: what its functions read, refuse and write, what a sheet that passes 21 to 23 has, and the parts of a sheet laid out.
use mathlib.Core.Path.{◌≡◌, refl, ap, sym, ◌∙◌}
use mathlib.Core.Bool.{Bool, false, not, ◌||◌}
use mathlib.Core.Option.{none}
use mathlib.Core.List.{List, [], ◌∷◌, ◌++◌}
use Prim.Native.Nat.{ℕ, zero, suc, ◌+◌, ◌-◌, ◌<◌, ◌≤◌}
use native.Mathlib.Omega.{arith}
use lib.Dec.{eqb, ltb}
use lib.ListN.{length, get_or, take, drop, set, length-append, length-drop}
use lib.Seq.{sets, sets-eq, length-sets, take_at, length-take-le, get_or-take, get_or-drop, take-append_seam, drop-append-add, get_or-append_seam}
use borrow.Author.Tests.{ltb-false, leb-false, eqb-true, not-false, le-ltb, lt-leb, eq-eqb}
use Rattle.rules.specs.Limits.{byte_values, leaf_limit, node_limit, lowest_byte, highest_byte, outside, filled}
use Rattle.rules.specs.Grounds.{first_of}
use Rattle.rules.proofs.Grounds.{passed, not_because}
use Rattle.rules.proofs.Truth.{or_false_left, or_false_right}
use Rattle.buffers.proofs.Stores.{sets-append}
use Rattle.sheet.specs.Nodes.{highest_node, any_of}
use Rattle.sheet.specs.Form1.{form_one, literal_count, literal_bytes, node_count, node_part, length_for, literal, absent, length_wrong, byte_wrong, literal_grounds, laid_out}

-- READING
module _ (s : List ℕ) where
  pub all_literals : (l : ℕ) → l ≡ literal_count s → take (2 + l - 2) (drop 2 s) ≡ literal_bytes s
  all_literals l e = let f : 2 + l - 2 ≡ literal_count s = omega arith in rw f refl

-- PASSING
is_right : (s : List ℕ) → length_wrong s ≡ false → literal_count s ≤ leaf_limit → byte_wrong s ≡ false → first_of (literal_grounds s) ≡ none
is_right s fits few right = rw (fits, le-ltb leaf_limit (literal_count s) few, right) refl

-- WHAT PASSES
pub is_so : (a b : ℕ) → not (eqb a b) ≡ false → a ≡ b
is_so a b e = eqb-true a b (not-false (eqb a b) e)

any_none : (f : ℕ → Bool) (xs : List ℕ) (i : ℕ) → any_of f xs ≡ false → i < length xs → f (get_or xs i 0) ≡ false
any_none f [] i e h = absurd (omega arith)
any_none f (x ∷ xs) zero e h = or_false_left (f x) (any_of f xs) e
any_none f (x ∷ xs) (suc i) e h = any_none f xs i (or_false_right (f x) (any_of f xs) e) (omega arith)

module _ (s : List ℕ) (fits : length_wrong s ≡ false) where
  abbrev other : Bool
  other = not (eqb (length s) (length_for (literal_count s) (node_count s)))

  pub both_counts : 2 + literal_count s < length s
  both_counts = leb-false (length s) (2 + literal_count s) (or_false_right (absent s 1) (absent s (2 + literal_count s)) (or_false_left (absent s 1 || absent s (2 + literal_count s)) other fits))

  pub right-length : length s ≡ length_for (literal_count s) (node_count s)
  right-length = is_so (length s) (length_for (literal_count s) (node_count s)) (or_false_right (absent s 1 || absent s (2 + literal_count s)) other fits)

-- 21 to 23 are passed
pub record Literals (s : List ℕ) : Type 0 where
  pub counts : 2 + literal_count s < length s
  pub fits : length s ≡ length_for (literal_count s) (node_count s)
  pub few : literal_count s ≤ leaf_limit
  pub plain : any_of outside (literal_bytes s) ≡ false
  pub known : any_of (ltb highest_node) (node_part s) ≡ false

pub literals : (s : List ℕ) → first_of (literal_grounds s) ≡ none → Literals s
literals s e =
    let (a, (b, (c, z))) = passed (literal_grounds s) e in
    let fits = not_because (length_wrong s) _ a in
    let right = not_because (byte_wrong s) _ c in
    record {
      counts = both_counts s fits;
      fits = right-length s fits;
      few = ltb-false leaf_limit (literal_count s) (not_because (ltb leaf_limit (literal_count s)) _ b);
      plain = or_false_left (any_of outside (literal_bytes s)) (any_of (ltb highest_node) (node_part s)) right;
      known = or_false_right (any_of outside (literal_bytes s)) (any_of (ltb highest_node) (node_part s)) right;
    }

module _ (s : List ℕ) (c : Literals s) where
  -- the literal of a position is one
  pub literal-inside : (q : ℕ) → 1 ≤ q → q ≤ literal_count s → (lowest_byte ≤ literal s q) × (literal s q ≤ highest_byte)
  literal-inside q l h =
      let here : 2 + (q - 1) ≡ 1 + q = omega arith in
      let long = length-take-le (literal_count s) (drop 2 s) (omega (arith, c.counts, length-drop 2 s)) in
      let in_bytes = any_none outside (literal_bytes s) (q - 1) c.plain (omega (arith, long)) in
      let in-sheet = rw (get_or-take (literal_count s) (drop 2 s) (q - 1) 0 (omega arith), get_or-drop 2 s (q - 1) 0, here) at in_bytes in
      let low = or_false_left (ltb (literal s q) lowest_byte) (ltb highest_byte (literal s q)) in-sheet in
      let high = or_false_right (ltb (literal s q) lowest_byte) (ltb highest_byte (literal s q)) in-sheet in
      (ltb-false (literal s q) lowest_byte low, ltb-false highest_byte (literal s q) high)

  -- the count of nodes is a byte
  pub part_few : ((i : ℕ) → get_or s i 0 < byte_values) → length (node_part s) ≤ node_limit
  part_few bytes = omega (arith, length-drop (3 + literal_count s) s, c.fits, bytes (2 + literal_count s))

-- LAID OUT
module _ (xs ns : List ℕ) where
  pub laid_nodes : node_part (laid_out xs ns) ≡ ns
  laid_nodes = rw (past (length xs)) (drop-append-add xs (length ns ∷ ns) 1)
    where
      past : (n : ℕ) → 3 + n ≡ suc (suc (n + 1))
      past n = omega arith

  pub laid_literals : literal_bytes (laid_out xs ns) ≡ xs
  laid_literals = take-append_seam xs (length ns ∷ ns)

  pub laid_count : node_count (laid_out xs ns) ≡ length ns
  laid_count = let e : 2 + length xs ≡ suc (suc (length xs)) = omega arith in rw e (get_or-append_seam xs (length ns) ns 0)

  pub laid_length : length (laid_out xs ns) ≡ length_for (length xs) (length ns)
  laid_length = omega (arith, length-append xs (length ns ∷ ns))

  -- it passes 21 to 23
  pub laid_right : length xs ≤ leaf_limit → any_of outside xs ≡ false → any_of (ltb highest_node) ns ≡ false → first_of (literal_grounds (laid_out xs ns)) ≡ none
  laid_right few plain known =
      let counted : 1 < length (laid_out xs ns) = omega (arith, laid_length) in
      let further : 2 + length xs < length (laid_out xs ns) = omega (arith, laid_length) in
      let fits : length (laid_out xs ns) ≡ length_for (length xs) (node_count (laid_out xs ns)) = laid_length ∙ rw laid_count refl in
      let long : length_wrong (laid_out xs ns) ≡ false =
      rw (lt-leb (length (laid_out xs ns)) 1 counted, lt-leb (length (laid_out xs ns)) (2 + length xs) further, eq-eqb (length (laid_out xs ns)) (length_for (length xs) (node_count (laid_out xs ns))) fits) refl in
      let right : byte_wrong (laid_out xs ns) ≡ false = rw (laid_literals, plain, laid_nodes, known) refl in
      is_right (laid_out xs ns) long few right

-- WRITING
-- bytes stored from the start stand in front
sets-front : (xs vs : List ℕ) → length vs ≤ length xs → sets xs 0 vs ≡ vs ++ drop (length vs) xs
sets-front xs vs h =
    let z : 0 + length vs ≡ length vs = omega arith in
    rw z at (sets-eq vs xs 0 (omega arith))

-- the sheet's parts stored one after the other, and zeros after them
module _ (buffer xs ns : List ℕ) (h : length_for (length xs) (length ns) ≤ length buffer) where
  abbrev counted : List ℕ
  counted = set (set buffer 0 form_one) 1 (length xs)

  abbrev whole : List ℕ
  whole = sets (set (sets counted 2 xs) (2 + length xs) (length ns)) (2 + length xs + 1) ns

  laid : whole ≡ sets buffer 0 (laid_out xs ns)
  laid =
      let next : 2 + length xs + 1 ≡ suc (2 + length xs) = omega arith in
      rw next (sym (sets-append counted 2 xs (length ns ∷ ns)))

  pub laid_filled : {after : List ℕ} → after ≡ filled whole (take (length_for (length xs) (length ns)) whole) → after ≡ filled buffer (laid_out xs ns)
  laid_filled e =
      let sheet = laid_out xs ns in
      let end = length_for (length xs) (length ns) in
      let long = laid_length xs ns in
      let same : length whole ≡ length buffer = ap length laid ∙ length-sets buffer 0 sheet in
      let front : whole ≡ sheet ++ drop (length sheet) buffer = laid ∙ sets-front buffer sheet (omega arith) in
      let taken : take end whole ≡ sheet = ap (take end) front ∙ take_at sheet (drop (length sheet) buffer) end long in
      e ∙ rw (taken, same) refl

-- Form 1 of a sheet (document 01, "The sheet"): the form byte, a count L, L literal bytes, a count N, N node bytes. Only these lines know its offsets.
use Rattle.std.specs.Prelude.{Bool, ◌||◌, not, List, [], ◌∷◌, ◌++◌, ℕ, ◌+◌, eqb, leb, ltb, length, get_or, take, drop}
use Rattle.std.proofs.Math.Option.{Option}
use Rattle.rules.specs.Limits.{leaf_limit, outside}
use Rattle.rules.specs.Numbers.{sheet_length, sheet_leaves, sheet_byte}
use Rattle.rules.specs.Grounds.{because}
use Rattle.sheet.specs.Nodes.{any_of, highest_node}

-- "the form byte, 1"
abbrev pub form_one : ℕ
form_one = 1

abbrev pub literal_count : List ℕ → ℕ
literal_count s = get_or s 1 0

abbrev pub literal_bytes : List ℕ → List ℕ
literal_bytes s = take (literal_count s) (drop 2 s)

abbrev pub node_count : List ℕ → ℕ
node_count s = get_or s (2 + literal_count s) 0

abbrev pub node_part : List ℕ → List ℕ
node_part s = drop (3 + literal_count s) s

-- "Length is exactly 3 + L + N"
abbrev pub length_for : ℕ → ℕ → ℕ
length_for L N = 3 + L + N

-- the literal byte at a position; positions count from 1
abbrev pub literal : List ℕ → ℕ → ℕ
literal s p = get_or s (1 + p) 0

-- the leaf at position p takes its literal
abbrev pub takes_literal : List ℕ → ℕ → ℕ → Bool
takes_literal s p b = eqb (literal s p) b

-- no byte stands at i
abbrev pub absent : List ℕ → ℕ → Bool
absent s i = leb (length s) i

-- 21: "a count byte absent, or length not 3 + L + N"
abbrev pub length_wrong : List ℕ → Bool
length_wrong s = absent s 1 || absent s (2 + literal_count s) || not (eqb (length s) (length_for (literal_count s) (node_count s)))

-- 23: "leaf byte outside 0x20 to 0x7E, or node byte above 4"
abbrev pub byte_wrong : List ℕ → Bool
byte_wrong s = any_of outside (literal_bytes s) || any_of (ltb highest_node) (node_part s)

-- 21, 22 and 23
abbrev pub literal_grounds : List ℕ → List (Option ℕ)
literal_grounds s =
    because (length_wrong s) sheet_length
    ∷ because (ltb leaf_limit (literal_count s)) sheet_leaves
    ∷ because (byte_wrong s) sheet_byte
    ∷ []

-- the sheet with these literals and these nodes
abbrev pub laid_out : List ℕ → List ℕ → List ℕ
laid_out literals nodes = form_one ∷ length literals ∷ literals ++ length nodes ∷ nodes

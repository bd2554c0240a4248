-- The tree of a literal with its repeat (document 01, "Expressions as text"; the repeat is that of source document 001).
use Rattle.std.specs.Prelude.{Bool, true, false, List, [], ◌∷◌, ◌++◌, ℕ, ◌-◌, replicate}
use Rattle.language.specs.Tree.{Tree, leaf, empty, cat, alt}

-- concatenated from the left; nothing is the empty word
abbrev pub cat_from : Tree ℕ → List (Tree ℕ) → Tree ℕ
cat_from r [] = r
cat_from r (t ∷ ts) = cat_from (cat r t) ts

abbrev pub cat_all : List (Tree ℕ) → Tree ℕ
cat_all [] = empty
cat_all (t ∷ ts) = cat_from t ts

-- one copy: the literal, if it must stand, else "(literal or empty word)"
abbrev pub copy : ℕ → Bool → Tree ℕ
copy b true = leaf b
copy b false = alt (leaf b) empty

-- "x copies followed by y-x copies of (literal or empty word), concatenated from the left, as one unit"
abbrev pub copies : ℕ → ℕ → ℕ → Tree ℕ
copies b x y = cat_all (replicate x (copy b true) ++ replicate (y - x) (copy b false))

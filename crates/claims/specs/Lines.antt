-- The other cases of document 01 and of the decided points that speak of definitions, and what "next" says after "no more".
use Rattle.std.specs.Prelude.{◌≡◌, List, [], ◌∷◌, ◌++◌, ℕ, replicate}
use Rattle.std.proofs.Math.Option.{none, some}
use Rattle.rules.specs.Limits.{wiped}
use Rattle.rules.specs.Numbers.{no, no_reading}
use Rattle.rules.specs.Grounds.{first_of}
use Rattle.language.specs.Reading.{Pattern, Language}
use Rattle.sheet.specs.Stands.{stands_for}
use Rattle.reader.specs.Refusals.{mapping_grounds}
use Rattle.reader.specs.Outcome.{End, NextCall}
use Rattle.claims.specs.Cases.{bytes, Case, makes, has_nodes, is_made, refused, bad_sheet, bad_call}

-- a and so many stars
abbrev starred : ℕ → List ℕ
starred n = bytes "a" ++ replicate n 0x2a

abbrev parentheses : ℕ → List ℕ
parentheses n = replicate n 0x28 ++ bytes "a" ++ replicate n 0x29

abbrev pub texts : List Case
texts =
    refused (bytes "") 12 0
    ∷ refused (bytes ")") 13 0
    ∷ refused (bytes "(a|") 14 3
    ∷ refused (bytes "a|*") 12 2
    ∷ refused (bytes "a*{1,2}") 19 2
    ∷ is_made (bytes "a{99,99}b{21,21}")
    ∷ refused (bytes "a{99,99}b{22,22}") 16 8
    ∷ is_made (bytes "a{0,64}")
    ∷ refused (bytes "a{0,65}") 17 7
    ∷ is_made (starred 254)
    ∷ refused (starred 255) 17 256
    ∷ refused (starred 512) 10 512
    -- 11 and 19 anywhere come before 12 to 15 anywhere
    ∷ refused (bytes ")\u{1}") 11 1
    ∷ refused (bytes "a|)") 13 2
    ∷ refused (bytes "(a|)") 12 3
    ∷ refused (bytes "(|a)") 12 1
    ∷ refused (bytes "(") 14 1
    ∷ refused (bytes "((") 14 2
    ∷ makes (bytes "(())") (0x01 ∷ 0x00 ∷ 0x01 ∷ 0x01 ∷ [])
    ∷ is_made (parentheses 32)
    ∷ refused (parentheses 33) 15 32
    -- a backslash before no mark, before a byte outside, at the end
    ∷ refused (bytes "\\a") 11 0
    ∷ refused (bytes "\\\u{7f}") 11 0
    ∷ refused (bytes "a\\") 11 1
    -- where a repeat may stand, and what it has
    ∷ refused (bytes "{1,2}") 19 0
    ∷ refused (bytes "a{1,2}{1,2}") 19 6
    ∷ refused (bytes "(a){1,2}") 19 3
    ∷ refused (bytes "(){1,2}") 19 2
    ∷ refused (bytes "a|{1,2}") 19 2
    ∷ refused (bytes "a{2,1}") 19 1
    ∷ refused (bytes "a{1,234}") 19 1
    ∷ refused (bytes "a{1;2}") 19 1
    ∷ refused (bytes "a{,2}") 19 1
    ∷ refused (bytes "a}") 19 1
    ∷ is_made (bytes "\\*{02,03}")
    ∷ has_nodes (bytes "a{0,1}") (0x00 ∷ 0x01 ∷ 0x03 ∷ [])
    ∷ has_nodes (bytes "a{1,1}") (0x00 ∷ [])
    ∷ has_nodes (bytes "a{0,0}") (0x01 ∷ [])
    ∷ []

abbrev pub sheets : List Case
sheets =
    bad_sheet [] 20
    ∷ bad_sheet (2 ∷ 0 ∷ 1 ∷ 1 ∷ []) 20
    ∷ bad_sheet (1 ∷ []) 21
    ∷ bad_sheet (1 ∷ 1 ∷ 0x61 ∷ []) 21
    ∷ bad_sheet (1 ∷ 9 ∷ 0x61 ∷ 1 ∷ 0 ∷ []) 21
    -- bytes after the nodes; 21 before 22
    ∷ bad_sheet (1 ∷ 0 ∷ 1 ∷ 1 ∷ 1 ∷ []) 21
    ∷ bad_sheet (1 ∷ 121 ∷ replicate 121 0x61) 21
    ∷ bad_sheet (1 ∷ 121 ∷ replicate 121 0x61 ++ 0 ∷ []) 22
    ∷ bad_sheet (1 ∷ 1 ∷ 0x1f ∷ 1 ∷ 0 ∷ []) 23
    ∷ bad_sheet (1 ∷ 1 ∷ 0x7f ∷ 1 ∷ 0 ∷ []) 23
    -- 23 anywhere comes before 24 anywhere
    ∷ bad_sheet (1 ∷ 0 ∷ 2 ∷ 4 ∷ 5 ∷ []) 23
    ∷ bad_sheet (1 ∷ 0 ∷ 1 ∷ 4 ∷ []) 24
    ∷ bad_sheet (1 ∷ 0 ∷ 2 ∷ 1 ∷ 1 ∷ []) 25
    ∷ bad_sheet (1 ∷ 0 ∷ 0 ∷ []) 25
    -- 129 subtrees and nothing else: 25 comes before 26
    ∷ bad_sheet (1 ∷ 0 ∷ 129 ∷ replicate 129 1) 25
    ∷ bad_sheet (1 ∷ 0 ∷ 1 ∷ 0 ∷ []) 27
    ∷ bad_call [] (replicate 256 0x61) [] [] 20
    ∷ bad_call (1 ∷ 0 ∷ 1 ∷ 1 ∷ []) (replicate 256 0x61) [] [] 30
    ∷ bad_call (1 ∷ 0 ∷ 1 ∷ 1 ∷ []) (replicate 255 0x61) (replicate 254 0) [] 31
    ∷ bad_call (1 ∷ 0 ∷ 1 ∷ 1 ∷ []) (bytes "a") (0 ∷ []) (replicate 127 0) 32
    ∷ []

-- "After 'no more', next again is 33 for a name of one byte or more (zeros are no positions), and 1 again for an empty accepted name."
pub record AfterNoMore : Type 0 where
  pub again : (sheet name mapping work : List ℕ) (b : ℕ) (s : End) → first_of (mapping_grounds sheet (b ∷ name) (wiped mapping) work) ≡ none
      → NextCall sheet (b ∷ name) (wiped mapping) work s → s.number ≡ no_reading
  pub empty : (sheet mapping work : List ℕ) (P : Pattern) (s : End) → first_of (mapping_grounds sheet [] mapping work) ≡ none → stands_for sheet ≡ some P
      → Language P [] → NextCall sheet [] mapping work s → s.number ≡ no

-- P1 TO P14: the marked cases of document 01, "Both sides of the line", as one table; proofs/Cases.antt proves it by one theorem.
use Rattle.std.specs.Prelude.{List, [], ◌∷◌}
use Rattle.claims.specs.Cases.{bytes, Case, makes, has_nodes, reads}

abbrev pub marked : List Case
marked =
    -- P1
    makes (bytes "(a|(ba))*") (0x01 ∷ 0x03 ∷ 0x61 ∷ 0x62 ∷ 0x61 ∷ 0x06 ∷ 0x00 ∷ 0x00 ∷ 0x00 ∷ 0x02 ∷ 0x03 ∷ 0x04 ∷ [])
    -- P2
    ∷ reads (bytes "(a|(ba))*") (bytes "aaba") ((1 ∷ 1 ∷ 2 ∷ 3 ∷ []) ∷ [])
    -- P3, P4
    ∷ reads (bytes "(a|a)*") (bytes "aa") ((1 ∷ 1 ∷ []) ∷ (1 ∷ 2 ∷ []) ∷ (2 ∷ 1 ∷ []) ∷ (2 ∷ 2 ∷ []) ∷ [])
    ∷ reads (bytes "(a|a)*") (bytes "") ([] ∷ [])
    -- P5
    ∷ reads (bytes "a*a*") (bytes "aa") ((1 ∷ 1 ∷ []) ∷ (1 ∷ 2 ∷ []) ∷ (2 ∷ 2 ∷ []) ∷ [])
    -- P6
    ∷ reads (bytes "(a*)*") (bytes "aaa") ((1 ∷ 1 ∷ 1 ∷ []) ∷ [])
    -- P7
    ∷ reads (bytes "(a|ab)(c|bcd)d*") (bytes "abcd") ((1 ∷ 5 ∷ 6 ∷ 7 ∷ []) ∷ (2 ∷ 3 ∷ 4 ∷ 8 ∷ []) ∷ [])
    -- P8
    ∷ reads (bytes "a*ab") (bytes "ab") ((2 ∷ 3 ∷ []) ∷ [])
    -- P9
    ∷ reads (bytes "(a*b*)*") (bytes "ba") ((2 ∷ 1 ∷ []) ∷ [])
    -- P10: its sheet, and the empty name is accepted
    ∷ makes (bytes "()") (0x01 ∷ 0x00 ∷ 0x01 ∷ 0x01 ∷ [])
    ∷ reads (bytes "()") (bytes "") ([] ∷ [])
    -- P11: a is not
    ∷ reads (bytes "()") (bytes "a") []
    -- P12, P13
    ∷ has_nodes (bytes "abc") (0x00 ∷ 0x00 ∷ 0x02 ∷ 0x00 ∷ 0x02 ∷ [])
    ∷ has_nodes (bytes "a(bc)") (0x00 ∷ 0x00 ∷ 0x00 ∷ 0x02 ∷ 0x02 ∷ [])
    -- P14
    ∷ reads (bytes "a{0,2}") (bytes "a") ((1 ∷ []) ∷ (2 ∷ []) ∷ [])
    ∷ []

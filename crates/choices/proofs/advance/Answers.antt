use Rattle.choices.proofs.Onward.{advanced}
use Rattle.mapping.specs.Entries.{given}
use Rattle.mapping.proofs.Entries.{entries-length}
use lib.ListN.{length}
use Prim.Native.Nat.{◌<◌}
use native.Mathlib.Numerals.{add-one}
use native.Mathlib.Omega.{arith}
use Rattle.choices.proofs.advance.Goals as goal

-- The entry that moves is put, and choosing goes on after it.
pub returns-clause-advanced : goal.returns-clause-advanced
returns-clause-advanced c P f =
    let name = c.args.rows.now.name.now in
    let w = given name c.args.mapping.now in
    let i = c.in-Some.next.place.0 in
    let (inside, small) = c.in-Some.ensures.within in
    let there : i < length w = omega (arith, entries-length (length name) c.args.mapping.now c.requires.fits) in
    let (readable, next) = c.in-Some.ensures.moved P f in
    advanced P name w c.in-Some.next.position.0 there (c.put.ensures.there (length name) inside)
    (c.choose.ensures.mapping_after P f (rw (add-one i) readable)) next

-- A comma, unless the entry is the first, and then its number.
use Rattle.std.proofs.Common.{◌≡◌, [], ◌∷◌, ◌++◌, arith}
use Rattle.std.specs.Prelude.{decimal}
use Rattle.std.proofs.lemmas.Bool.Decides.{nat_tests}
use Rattle.console.proofs.Puts.{puts_then}
use Rattle.console.specs.Reading.{entry_shown}
use Rattle.console.proofs.page.Page.put_entry.Goals as goal
use Rattle.console.proofs.page.Page.put_entry.Goals.{then-i-gt0+in_ok-put, else-i-gt0}

pub returns : goal.returns
returns g c =
    elim c.if-i-gt0.branch [
      | then-i-gt0+in_ok-put w ↦
          let e : entry_shown c.args.i c.args.mapping.now ≡ (44 ∷ []) ++ decimal c.entry_at.result = grind (arith, nat_tests) in
          rw e (puts_then _ _ _ _ _ _ _ w.in_ok-put.ensures (rw w.self-is at c.put_number.ensures))
      | else-i-gt0 w ↦
          let e : entry_shown c.args.i c.args.mapping.now ≡ decimal c.entry_at.result = grind (arith, nat_tests) in
          rw e (rw w.self-is at c.put_number.ensures)
    ]

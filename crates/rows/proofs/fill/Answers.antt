use Rattle.rows.proofs.Live.{rows_start, rows_turn, row_later}
use Rattle.rows.proofs.Parts.{part_after, row_back, after_back}
use Rattle.rules.specs.Limits.{row_size}
use lib.ListN.{length}
use native.Mathlib.Omega.{arith}
use Prim.Native.Nat.{◌+◌, ◌-◌, ◌*◌, ◌≤◌}
use mathlib.Core.Path.{◌≡◌, ◌∙◌}
use Rattle.rows.proofs.fill.Goals as goal

pub loop-i-init : goal.loop-i-init
loop-i-init c =
    let g = c.args in
    let i = c.in-Some.last in
    let row = c.fill_last.new.row in
    let filled = c.fill_last.ensures in
    let whole = c.in-Some.ensures in
    let fits : row_size * i ≤ length g.work.now = omega arith in
    let end : i + 1 ≡ length g.name.now = omega arith in
    record {
      rows = λ P f s l. rows_start P g.name.now _ i (omega arith) (rw (row_back g.work.now i row fits) (filled.last_live P s l));
      rest_unchanged = rw end at (after_back g.work.now i row fits filled.rest);
    }

pub loop-i-preserved : goal.loop-i-preserved
loop-i-preserved c =
    let g = c.args in
    let l = c.loop-i in
    let i = l.i - 1 in
    let row = c.fill_row.new.row in
    let filled = c.fill_row.ensures in
    let whole = c.in-Some.ensures in
    let fits : row_size * i ≤ length l.work = omega arith in
    let later = after_back l.work i row fits filled.rest in
    record {
      rows = λ P f s t.
          rows_turn P g.name.now l.work _ i l.i (omega arith) (omega arith) later
          (λ b bs old. rw (row_back l.work i row fits) (filled.live P b bs f t (rw (part_after l.work i) old))) (l.invariant.rows P f s t);
      rest_unchanged = row_later l.work _ i (length g.name.now) (omega arith) later ∙ l.invariant.rest_unchanged;
    }

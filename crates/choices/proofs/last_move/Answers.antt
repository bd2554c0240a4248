use Rattle.choices.proofs.Onward.{tried_none, tried_more, tried_found, tried_all, still_turn, moves, before_small}
use Rattle.choices.proofs.Checked.{table_has}
use Rattle.mapping.specs.Entries.{given}
use Rattle.mapping.proofs.Entries.{entries-length}
use lib.ListN.{length}
use Prim.Native.Nat.{◌-◌, ◌<◌}
use native.Mathlib.Omega.{arith}
use mathlib.Core.Path.{◌≡◌, sym, ◌∙◌}
use Rattle.choices.proofs.last_move.Goals as goal

pub positions-init : goal.positions-init
positions-init c =
    let rows = c.args.rows.now in
    let n = length rows.name.now in
    let i = c.search.i - 1 in
    let inside : i < n = omega arith in
    let small = before_small (given rows.name.now c.args.mapping.now) i {n = n} (omega arith) c.requires.small in
    record {
      before = omega (arith, c.entry_before-before.ensures n (omega arith), small);
      within = c.entry-entry.ensures.1;
      none = c.search.invariant.none;
      tried = rw (c.entry-entry.ensures.0 n inside) tried_none;
    }

pub positions-preserved : goal.positions-preserved
positions-preserved c =
    let old = c.positions.invariant in
    record {
      before = old.before;
      within = omega (arith, c.in-Some.ensures.within);
      none = old.none;
      tried = tried_more old.tried c.in-Some.ensures.least (table_has _ _ _ ∙ sym c.has.ensures ∙ c.if-has.false);
    }

pub search-preserved : goal.search-preserved
search-preserved c =
    let rows = c.args.rows.now in
    let old = c.positions.invariant in
    let before = c.entry_before-before.ensures (length rows.name.now) (omega arith) in
    record {
      none = old.none;
      still = λ P f.
          still_turn (c.search.invariant.still P f) (omega arith) (entries-length _ _ c.requires.fits) rows.tables.now.follow rows.work.now f.steps f.rows
          (c.search.i - 1) (omega arith) before (tried_all old.tried c.in_default.ensures.least);
    }

pub returns-after-search-clause-moved : goal.returns-after-search-clause-moved
returns-after-search-clause-moved c P f =
    let none-left : c.search.i ≡ 0 = omega arith in
    rw c.search.invariant.none (rw none-left at (c.search.invariant.still P f)).stays

pub returns-then-has-clause-moved : goal.returns-then-has-clause-moved
returns-then-has-clause-moved c P f =
    let rows = c.args.rows.now in
    let before = c.entry_before-before.ensures (length rows.name.now) (omega arith) in
    moves (c.search.invariant.still P f) (omega arith) (entries-length _ _ c.requires.fits) rows.tables.now.follow rows.work.now f.steps f.rows
    (c.search.i - 1) (omega arith) before
    (tried_found c.positions.invariant.tried c.in-Some.ensures.least (table_has _ _ _ ∙ sym c.has.ensures ∙ c.if-has.true))

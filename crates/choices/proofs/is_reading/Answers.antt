use Rattle.choices.proofs.Checked.{followed_on, followed_off, followed_end}
use Rattle.mapping.proofs.Entries.{entries-length}
use lib.ListN.{length}
use borrow.Author.Count.{below_more}
use Rattle.choices.proofs.is_reading.Goals as goal

pub returns-then-not-reads_on-clause-value : goal.returns-then-not-reads_on-clause-value
returns-then-not-reads_on-clause-value c P n f s l =
    let tables = c.args.tables.now in
    followed_off (entries-length _ _ c.requires) (c.loop-i.invariant.followed P n f l) n tables.follow tables.letters f l c.loop-i-test.true
    (c.entry-q.ensures.0 (length c.args.name.now) c.loop-i-test.true) c.reads_on.ensures.value c.if-not-reads_on.true

pub loop-i-preserved : goal.loop-i-preserved
loop-i-preserved c =
    let g = c.args in
    let inside = c.loop-i-test.true in
    let entry = c.entry-q.ensures.0 (length g.name.now) inside in
    let within = c.reads_on.ensures.within c.if-not-reads_on.false in record {
      within = within;
      small = below_more _ _ c.loop-i.invariant.small (rw entry at within);
      followed = λ P n f l.
          followed_on (entries-length _ _ c.requires) (c.loop-i.invariant.followed P n f l) n g.tables.now.follow g.tables.now.letters f l inside
          entry c.reads_on.ensures.value c.if-not-reads_on.false;
    }

pub returns-clause-value : goal.returns-clause-value
returns-clause-value c P n f s l =
    followed_end (entries-length _ _ c.requires) (c.loop-i.invariant.followed P n f l) c.args.tables.now.stops s c.loop-i-test.false c.has.ensures

use Rattle.sheet_call.proofs.Call.{call_leaves, call_nodes, call_short, call_made}
use Rattle.sheet_call.proofs.write_draft.Goals as goal

pub returns-then-many : goal.returns-then-many
returns-then-many c = call_leaves c.args.text.short c.requires c.if-many.true c.passing_place.ensures c.refused_at.ensures

pub returns-then-draft-gt-NODE_LIMIT : goal.returns-then-draft-gt-NODE_LIMIT
returns-then-draft-gt-NODE_LIMIT c =
    call_nodes c.args.text.short c.requires c.if-many.false c.if-draft-gt-NODE_LIMIT.true c.len.ensures c.refused_at-then-draft-gt-NODE_LIMIT.ensures

pub returns-then-sheet-needed : goal.returns-then-sheet-needed
returns-then-sheet-needed c =
    call_short c.args.text.short c.requires c.if-many.false c.if-draft-gt-NODE_LIMIT.false c.length_for-needed.ensures c.if-sheet-needed.true c.refused_at-then-sheet-needed.ensures

pub returns : goal.returns
returns c =
    call_made c.args.text.short c.requires c.if-many.false c.if-draft-gt-NODE_LIMIT.false c.length_for-needed.ensures c.if-sheet-needed.false
    c.kept.ensures c.kept-2.ensures c.write.ensures

use Rattle.std.proofs.Common.{ℕ, ap, ◌∙◌}
use Rattle.satchelram.specs.Packing.{packed}
use Rattle.satchelram.proofs.Small.{sheet-fits, sheet_exports}
use Rattle.satchelram.proofs.satchelram_sheet.Goals as goal

pub pack-requires : goal.pack-requires
pack-requires c =
    let w = sheet-fits _ _ _ c.in-Ok.ensures in
    (w.low, w.high)

pub pack-requires-in-Err : goal.pack-requires-in-Err
pack-requires-in-Err c =
    let w = sheet-fits _ _ _ c.in-Err.ensures in
    (rw c.number.ensures w.low, w.high)

pub returns-in-Ok : goal.returns-in-Ok
returns-in-Ok c = sheet_exports _ _ _ c.in-Ok.ensures c.pack.ensures

pub returns-in-Err : goal.returns-in-Err
returns-in-Err c = sheet_exports _ _ _ c.in-Err.ensures (c.pack-in-Err.ensures ∙ ap (λ (n : ℕ). packed n c.in-Err.f.place 0) c.number.ensures)

use lib.Dec.{ltb}
use lib.ListN.{take, drop}
use mathlib.Core.Bool.{Bool, false, ◌||◌}
use mathlib.Core.Path.{◌≡◌, ◌∙◌}
use Prim.Native.Nat.{ℕ, ◌+◌, ◌-◌}
use Rattle.std.proofs.Common.{rules, tests}
use Rattle.std.proofs.lemmas.Iterator.{YieldsList-from_slice}
use Rattle.std.proofs.lemmas.Iterator.Consumers.{fold_from_yields_List}
use Rattle.rules.specs.Limits.{outside}
use Rattle.sheet.specs.Form1.{node_part}
use Rattle.sheet.specs.Nodes.{any_of, highest_node}
use Rattle.sheet.proofs.Literals.{all_literals}
use Rattle.sheet.proofs.Tests.{any_folded}
use Rattle.sheet.proofs.form1.byte_wrong.Goals as goal

pub returns : goal.returns
returns c =
    let sheet = c.args.sheet.now in
    let count = c.literal_count in
    let here = take (2 + count.result - 2) (drop 2 sheet) in
    let strange : c.fold-strange.result ≡ any_of outside here =
    fold_from_yields_List {all = here} _ (λ (t : Bool) (x : ℕ). t || outside x) false _ c.fold-strange.ensures.ran (YieldsList-from_slice here cc) (λ a x b q k. search (rules, tests))
    ∙ any_folded outside false here in
    let unknown : c.fold-unknown.result ≡ any_of (ltb highest_node) (node_part sheet) =
    fold_from_yields_List {all = node_part sheet} _ (λ (t : Bool) (x : ℕ). t || ltb highest_node x) false _ c.fold-unknown.ensures.ran (YieldsList-from_slice (node_part sheet) cc) (λ a x b q k. search (rules, tests))
    ∙ any_folded (ltb highest_node) false (node_part sheet) in
    rw (strange, unknown, all_literals sheet count.result count.ensures.0)

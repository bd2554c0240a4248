-- A repeat {x,y} has y leaves, all of its byte.
use mathlib.Core.Path.{◌≡◌, refl, sym, ◌∙◌}
use mathlib.Core.Bool.{Bool, true, false}
use mathlib.Core.List.{List, [], ◌∷◌, ◌++◌, append_assoc, append-nil}
use Prim.Native.Nat.{ℕ, zero, suc, ◌+◌, ◌-◌, ◌≤◌}
use native.Mathlib.Omega.{arith}
use lib.ListN.{replicate, replicate-append-replicate}
use Rattle.language.specs.Tree.{Tree, cat}
use Rattle.sheet.specs.Make.{leaves}
use Rattle.repeats.specs.Copies.{cat_from, cat_all, copy, copies}

-- the leaves of trees one after the other
abbrev all_leaves : List (Tree ℕ) → List ℕ
all_leaves [] = []
all_leaves (t ∷ ts) = leaves t ++ all_leaves ts

from_leaves : (r : Tree ℕ) (ts : List (Tree ℕ)) → leaves (cat_from r ts) ≡ leaves r ++ all_leaves ts
from_leaves r [] = sym (append-nil (leaves r))
from_leaves r (t ∷ ts) = from_leaves (cat r t) ts ∙ append_assoc (leaves r) (leaves t) (all_leaves ts)

all_leaves_lem : (ts : List (Tree ℕ)) → leaves (cat_all ts) ≡ all_leaves ts
all_leaves_lem [] = refl
all_leaves_lem (t ∷ ts) = from_leaves t ts

-- n copies before other trees
same-leaves : (b : ℕ) (sure : Bool) (n : ℕ) (ts : List (Tree ℕ)) → all_leaves (replicate n (copy b sure) ++ ts) ≡ replicate n b ++ all_leaves ts
same-leaves b sure zero ts = refl
same-leaves b true (suc n) ts = rw (same-leaves b true n ts) refl
same-leaves b false (suc n) ts = rw (same-leaves b false n ts) refl

pub copies-leaves : (b x y : ℕ) → x ≤ y → leaves (copies b x y) ≡ replicate y b
copies-leaves b x y h =
    let e : x + (y - x) ≡ y = omega arith in
    let free : all_leaves (replicate (y - x) (copy b false)) ≡ replicate (y - x) b = rw (append-nil (replicate (y - x) (copy b false)), append-nil (replicate (y - x) b)) at (same-leaves b false (y - x) []) in
    all_leaves_lem (replicate x (copy b true) ++ replicate (y - x) (copy b false))
    ∙ same-leaves b true x (replicate (y - x) (copy b false))
    ∙ rw (free, replicate-append-replicate x (y - x) b, e) refl

-- The nodes that the loop over copies stores are those of the repeat's tree.
use mathlib.Core.Path.{◌≡◌, refl, ap, sym, ◌∙◌}
use mathlib.Core.Logic.{by_cases}
use mathlib.Core.Bool.{Bool, true, false}
use mathlib.Core.List.{List, [], ◌∷◌, ◌++◌, append_assoc, append-nil}
use Prim.Native.Nat.{ℕ, zero, suc, ◌+◌, ◌*◌, ◌-◌, ◌<◌, ◌≤◌, min}
use native.Mathlib.Decide.{dec_lt}
use native.Mathlib.Omega.{arith}
use lib.ListN.{length, replicate, length-append, length-replicate, replicate-append-replicate}
use lib.Dec.{ltb}
use borrow.Author.Tests.{lt-ltb, le-ltb}
use Rattle.language.specs.Tree.{Tree, cat}
use Rattle.sheet.specs.Nodes.{empty_node, cat_node}
use Rattle.sheet.specs.Make.{postorder}
use Rattle.buffers.specs.Wrote.{Wrote}
use Rattle.buffers.proofs.Stores.{wrote_both}
use Rattle.repeats.specs.Copies.{cat_from, cat_all, copy, copies}

pub copy-short : (b : ℕ) (sure : Bool) → length (postorder (copy b sure)) ≤ 3
copy-short b true = omega arith
copy-short b false = omega arith

-- one tree more at the end
from_more : (r : Tree ℕ) (ts : List (Tree ℕ)) (t : Tree ℕ) → cat_from r (ts ++ t ∷ []) ≡ cat (cat_from r ts) t
from_more r [] t = refl
from_more r (s ∷ ts) t = from_more (cat r s) ts t

all_more : (ts : List (Tree ℕ)) (t : Tree ℕ) → 0 < length ts → cat_all (ts ++ t ∷ []) ≡ cat (cat_all ts) t
all_more [] t h = absurd (omega arith)
all_more (s ∷ ts) t h = from_more s ts t

module _ (b x : ℕ) where
  -- the first copy and k after it
  abbrev pub joined : ℕ → Tree ℕ
  joined zero = copy b (ltb 0 x)
  joined (suc k) = cat (joined k) (copy b (ltb (suc k) x))

  pub joined-short : (k : ℕ) → length (postorder (joined k)) ≤ 4 * k + 3
  joined-short zero = copy-short b (ltb 0 x)
  joined-short (suc k) =
      let r = postorder (joined k) in
      let t = postorder (copy b (ltb (suc k) x)) in
      omega (arith, joined-short k, copy-short b (ltb (suc k) x), length-append (r ++ t) (cat_node ∷ []), length-append r t)

  -- m copies, of which the first n must stand
  abbrev parts : ℕ → ℕ → List (Tree ℕ)
  parts n m = replicate n (copy b true) ++ replicate (m - n) (copy b false)

  parts-length : (n m : ℕ) → n ≤ m → length (parts n m) ≡ m
  parts-length n m h =
      omega (arith, length-append (replicate n (copy b true)) (replicate (m - n) (copy b false)), length-replicate n (copy b true), length-replicate (m - n) (copy b false))

  -- one copy more
  parts-more : (m : ℕ) → parts (min x (suc m)) (suc m) ≡ parts (min x m) m ++ copy b (ltb m x) ∷ []
  parts-more m =
      by_cases (dec_lt m x)
      (λ (h : m < x).
      let p : min x (suc m) ≡ m + 1 = omega arith in
      let q : min x m ≡ m = omega arith in
      let z : suc m - (m + 1) ≡ 0 = omega arith in
      let w : m - m ≡ 0 = omega arith in
      rw (p, q, z, w, lt-ltb m x h, append-nil (replicate (m + 1) (copy b true)), append-nil (replicate m (copy b true))) (sym (replicate-append-replicate m 1 (copy b true))))
      (λ (h : ¬ (m < x)).
      let p : min x (suc m) ≡ x = omega arith in
      let q : min x m ≡ x = omega arith in
      let z : suc m - x ≡ m - x + 1 = omega arith in
      let w : x ≤ m = omega arith in
      rw (p, q, z, le-ltb m x w, append_assoc (replicate x (copy b true)) (replicate (m - x) (copy b false)) (copy b false ∷ []))
      (ap (λ (ts : List (Tree ℕ)). replicate x (copy b true) ++ ts) (sym (replicate-append-replicate (m - x) 1 (copy b false)))))

  joined-all : (k : ℕ) → joined k ≡ cat_all (parts (min x (suc k)) (suc k))
  joined-all zero = let e : min x 0 ≡ 0 = omega arith in sym (ap cat_all (parts-more 0) ∙ rw e refl)
  joined-all (suc k) =
      let here : 0 < length (parts (min x (suc k)) (suc k)) = omega (arith, parts-length (min x (suc k)) (suc k)) in
      sym (ap cat_all (parts-more (suc k)) ∙ all_more (parts (min x (suc k)) (suc k)) (copy b (ltb (suc k) x)) here ∙ rw (← joined-all k) refl)

  -- all of them
  pub joined-copies : (y : ℕ) → x ≤ y → (y ≡ 0 → ⊥) → postorder (joined (y - 1)) ≡ postorder (copies b x y)
  joined-copies zero h f = absurd (f refl)
  joined-copies (suc k) h f =
      let e : min x (suc k) ≡ x = omega arith in
      let d : suc k - 1 ≡ k = omega arith in
      rw (d, joined-all k, e) refl

  -- one copy more is stored
  pub copied_on : {n : ℕ} {xs : List ℕ} {m : ℕ} {ys : List ℕ} {k : ℕ} {zs : List ℕ} {l : ℕ} {ws : List ℕ} (i : ℕ) → 1 ≤ i → Wrote n xs m ys (postorder (joined (i - 1)))
      → Wrote m ys k zs (postorder (copy b (ltb i x))) → Wrote k zs l ws (cat_node ∷ []) → Wrote n xs l ws (postorder (joined (i + 1 - 1)))
  copied_on zero h p q r = absurd (omega arith)
  copied_on (suc i) h p q r =
      let e : suc i + 1 - 1 ≡ suc i = omega arith in
      let d : suc i - 1 ≡ i = omega arith in
      rw e (wrote_both (wrote_both (rw d at p) q) r)

-- none: the empty word
pub no_copies : (b x y : ℕ) → x ≤ y → y ≡ 0 → empty_node ∷ [] ≡ postorder (copies b x y)
no_copies b x y h e = let z : x ≡ 0 = omega arith in rw (e, z) refl

-- a repeat has few nodes
pub copies-short : (b x y : ℕ) → x ≤ y → length (postorder (copies b x y)) ≤ 4 * y + 1
copies-short b x zero h = omega (arith, ap length (no_copies b x 0 h refl))
copies-short b x (suc k) h = omega (arith, ap length (joined-copies b x (suc k) h (λ e. omega arith)), joined-short b x (suc k - 1))

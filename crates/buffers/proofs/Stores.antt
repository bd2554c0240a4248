-- Laws of bytes stored one after the other.
use mathlib.Core.Path.{◌≡◌, refl, ap, ap₂, sym, ◌∙◌}
use mathlib.Core.List.{List, [], ◌∷◌, ◌++◌, append_assoc}
use Prim.Native.Nat.{ℕ, suc, ◌+◌, ◌≤◌}
use native.Mathlib.Nat.{add-zero}
use native.Mathlib.Omega.{arith}
use lib.ListN.{length, take, drop, replicate, set, length-append, replicate-append-replicate}
use lib.Seq.{sets, sets-eq, drop-drop}
use borrow.Rule.Slice.PartMut.{put_mid}
use Rattle.buffers.specs.Wrote.{Wrote}

pub sets-append : (xs : List ℕ) (n : ℕ) (vs ws : List ℕ) → sets xs n (vs ++ ws) ≡ sets (sets xs n vs) (n + length vs) ws
sets-append xs n [] ws = ap (λ (k : ℕ). sets xs k ws) (sym (add-zero n))
sets-append xs n (v ∷ vs) ws =
    let e : suc n + length vs ≡ n + suc (length vs) = omega arith in
    sets-append (set xs n v) (suc n) vs ws ∙ ap (λ (k : ℕ). sets (sets (set xs n v) (suc n) vs) k ws) e

-- two runs of stores are one
pub wrote_both : {n : ℕ} {xs : List ℕ} {m : ℕ} {ys : List ℕ} {k : ℕ} {zs vs ws : List ℕ} → Wrote n xs m ys vs → Wrote m ys k zs ws → Wrote n xs k zs (vs ++ ws)
wrote_both {n} {xs} {m} {ys} {k} {zs} {vs} {ws} p q = record {
  count = omega (arith, length-append vs ws, p.count, q.count);
  bytes = q.bytes ∙ ap₂ (λ (l : List ℕ) (i : ℕ). sets l i ws) p.bytes p.count ∙ sym (sets-append xs n vs ws);
}

pub wrote_as : {n : ℕ} {xs : List ℕ} {m : ℕ} {ys vs ws : List ℕ} → vs ≡ ws → Wrote n xs m ys vs → Wrote n xs m ys ws
wrote_as e p = rw e at p

-- one byte stored
pub wrote_one : {n : ℕ} {xs ys : List ℕ} {b : ℕ} → ys ≡ set xs n b → Wrote n xs (n + 1) ys (b ∷ [])
wrote_one e = record { count = refl; bytes = e }

-- the same byte once more
pub wrote_again : {n : ℕ} {xs : List ℕ} {m : ℕ} {ys : List ℕ} {k : ℕ} {zs : List ℕ} {b : ℕ} (i : ℕ) → Wrote n xs m ys (replicate i b) → Wrote m ys k zs (b ∷ []) → Wrote n xs k zs (replicate (i + 1) b)
wrote_again {b = b} i p q = wrote_as (replicate-append-replicate i 1 b) (wrote_both p q)

-- a part of a buffer, written whole
pub stored : (a k : ℕ) (buffer xs : List ℕ) → length xs ≡ k → a + k ≤ length buffer → put_mid a k buffer xs ≡ sets buffer a xs
stored a k buffer xs e h =
    let within : a + length xs ≤ length buffer = omega arith in
    rw (sets-eq xs buffer a within, e, drop-drop k a buffer) (sym (append_assoc (take a buffer) xs (drop (a + k) buffer)))

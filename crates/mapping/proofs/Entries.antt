-- Laws of the entries of a mapping.
use mathlib.Core.Path.{◌≡◌, refl, sym, ap, ◌∙◌}
use mathlib.Core.List.{List, ◌∷◌}
use Prim.Native.Nat.{ℕ, zero, suc, ◌*◌, ◌-◌, ◌<◌, ◌≤◌}
use native.Mathlib.Omega.{arith}
use lib.ListN.{length, get_or, take, set, replicate}
use Rattle.std.specs.Prelude.{min}
use Rattle.std.proofs.Math.ListN.{get_or-eq_default}
use Rattle.std.proofs.lemmas.List.{length-take}
use lib.Seq.{get_or-take, length-take-le, take_at, take-set-lt, drop-set-lt}
use Rattle.rules.specs.Limits.{wiped, filled}
use Rattle.mapping.specs.Entries.{entry_size, stored, entries, beyond, Put}

module _ (n : ℕ) (mapping : List ℕ) where
  pub entries-length : entry_size * n ≤ length mapping → length (entries n mapping) ≡ n
  unfolding entries
  entries-length h = length-take-le (entry_size * n) mapping h ∙ omega arith

  pub entry_is : (i : ℕ) → i < n → get_or mapping (entry_size * i) 0 ≡ get_or (entries n mapping) i 0
  unfolding entries
  entry_is i h = let e : entry_size * i ≡ i = omega arith in rw e (rw (get_or-take (entry_size * n) mapping i 0 (omega arith)) refl)

  -- an entry that a mapping does not hold
  pub not_held : (i : ℕ) → min (entry_size * n) (length mapping) ≤ entry_size * i → 0 ≡ get_or (entries n mapping) i 0
  unfolding entries
  not_held i h = sym (get_or-eq_default (take (entry_size * n) mapping) 0 (omega (arith, length-take (entry_size * n) mapping)))

-- a reading that fills a mapping is what its entries are
pub entries-filled : (n : ℕ) (mapping reading : List ℕ) → length reading ≡ n → entries n (filled mapping (stored reading)) ≡ reading
unfolding entries stored
entries-filled n mapping reading e = take_at reading (replicate (length mapping - length reading) 0) (entry_size * n) (omega arith)

-- nothing is kept
pub none_kept : (mapping : List ℕ) → filled mapping (stored (entries 0 mapping)) ≡ wiped mapping
unfolding entries stored
none_kept mapping = let e : length mapping - 0 ≡ length mapping = omega arith in rw e refl

take_zeros : (n m : ℕ) → n ≤ m → take n (replicate {A = ℕ} m 0) ≡ replicate n 0
take_zeros zero m h = refl
take_zeros (suc n) zero h = absurd (omega arith)
take_zeros (suc n) (suc m) h = ap (λ (zs : List ℕ). 0 ∷ zs) (take_zeros n m (omega arith))

-- the entries of zeros are zeros
pub entries-wiped : (n : ℕ) (mapping : List ℕ) → entry_size * n ≤ length mapping → entries n (wiped mapping) ≡ replicate n 0
unfolding entries
entries-wiped n mapping h = let e : entry_size * n ≡ n = omega arith in take_zeros (entry_size * n) (length mapping) h ∙ rw e refl

-- a byte is set
pub put_byte : (mapping : List ℕ) (i q : ℕ) → Put i q mapping (set mapping (entry_size * i) q)
unfolding entries beyond
put_byte mapping i q =
    let e : entry_size * i ≡ i = omega arith in
    rw e (record {
      there = λ n h. take-set-lt (entry_size * n) mapping i q (omega arith);
      rest = λ n h. drop-set-lt (entry_size * n) mapping i q (omega arith);
    })

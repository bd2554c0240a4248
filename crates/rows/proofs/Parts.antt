-- A row lent as the part of the work area from its place on, and what the whole area is when it comes back.
use mathlib.Core.Path.{◌≡◌, refl, sym, ◌∙◌, ap}
use mathlib.Core.List.{List, ◌++◌, append-nil}
use Prim.Native.Nat.{ℕ, ◌+◌, ◌*◌, ◌-◌, ◌≤◌}
use native.Mathlib.Omega.{arith}
use lib.ListN.{length, get_or, take, drop, length-drop, drop_of_length-le}
use lib.Seq.{take_all, drop_at, drop-drop, get_or-drop, length-take-le, ext_get_or}
use Rattle.rules.specs.Limits.{row_size}
use Rattle.bits.specs.Sets.{set_bytes}
use Rattle.rows.specs.Rows.{row_at}

-- bytes that are the same one by one from n on
pub drop-same : (n m : ℕ) (xs ys : List ℕ) → length ys ≡ length xs → n ≤ m → ((i : ℕ) → n ≤ i → get_or ys i 0 ≡ get_or xs i 0) → drop m ys ≡ drop m xs
drop-same n m xs ys e h f =
    ext_get_or 0 (drop m ys) (drop m xs) (rw (length-drop m ys, length-drop m xs, e) refl) (λ i l. rw (get_or-drop m ys i 0, get_or-drop m xs i 0) (f (m + i) (omega arith)))

-- all after a set is as it was
pub rest_same : (xs ys : List ℕ) → length ys ≡ length xs → ((i : ℕ) → set_bytes ≤ i → get_or ys i 0 ≡ get_or xs i 0)
    → drop row_size ys ≡ drop row_size xs
rest_same xs ys e f = drop-same set_bytes row_size xs ys e (omega arith) f

-- the rest of a slice, as it is lent
pub rest_of : (xs : List ℕ) (a : ℕ) → take (length xs - a) (drop a xs) ≡ drop a xs
rest_of xs a = take_all (length xs - a) (drop a xs) (omega (arith, length-drop a xs))

module _ (xs : List ℕ) (i : ℕ) where
  -- what is lent for place i
  abbrev pub part : List ℕ
  part = take (length xs - row_size * i) (drop (row_size * i) xs)

  next : row_size * i + row_size ≡ row_size * (i + 1)
  next = omega arith

  pub part_after : drop row_size part ≡ row_at xs (i + 1)
  part_after = rw (rest_of xs (row_size * i), drop-drop row_size (row_size * i) xs, next) refl

  -- it comes back as ys
  module _ (ys : List ℕ) (fits : row_size * i ≤ length xs) where
    abbrev pub back : List ℕ
    back = take (row_size * i) xs ++ (ys ++ drop (length xs - row_size * i) (drop (row_size * i) xs))

    pub row_back : row_at back i ≡ ys
    row_back =
        rw (drop_of_length-le (drop (row_size * i) xs) {i = length xs - row_size * i} (omega (arith, length-drop (row_size * i) xs)), append-nil)
        (drop_at (take (row_size * i) xs) ys (row_size * i) (length-take-le (row_size * i) xs fits))

    pub after_back : drop row_size ys ≡ drop row_size part → row_at back (i + 1) ≡ row_at xs (i + 1)
    after_back e =
        ap (λ (n : ℕ). drop n back) (sym next) ∙ sym (drop-drop row_size (row_size * i) back) ∙ ap (drop row_size) row_back ∙ e ∙ part_after

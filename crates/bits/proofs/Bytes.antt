-- A set in the bytes of a row: words as bytes, the lowest first.
use mathlib.Core.Path.{◌≡◌, refl, ap, sym, ◌∙◌}
use mathlib.Core.Logic.{by_cases}
use mathlib.Core.Bool.{false}
use mathlib.Core.List.{List, ◌++◌}
use Prim.Native.Nat.{ℕ, zero, suc, ◌+◌, ◌*◌, ◌/◌, ◌%◌, ◌^◌, ◌-◌, ◌<◌, ◌≤◌}
use native.Mathlib.Decide.{dec_lt}
use native.Mathlib.Nat.{div-one, pow-suc}
use native.Mathlib.Omega.{arith}
use lib.Pow.{pow-add}
use lib.ListN.{length, get_or, take, drop, get_or-eq_default}
use Rattle.std.proofs.lemmas.Nat.{le_bytes_8}
use Rattle.std.proofs.lemmas.List.{length-take-le, get_or_append_left, get_or-append_right, get_or-take, get_or-drop}
use borrow.Rule.Slice.PartMut.{put_mid}
use borrow.Author.Tests.{lt-ltb, le-ltb}
use Rattle.std.specs.Int.{w64, byte_at, bytes_low_first, to_le_bytes, from_le_bytes}
use Rattle.bits.specs.declared.Set.{Set}
use Rattle.bits.specs.Sets.{word_bits, word_bytes, byte_bits, set_words, set_bits, bit, member, row_has}
use Rattle.bits.specs.Words.{WordAt}
use Rattle.bits.proofs.Bits.{bit_shr, bit_mod}
use Rattle.bits.proofs.Members.{word_at, member_out, by_words}

-- ---- the bytes of a word

bytes-at : (j k n i : ℕ) → i < k → get_or (bytes_low_first j k n) i 0 ≡ byte_at (j + i) n
bytes-at j zero n i h = absurd (omega arith)
bytes-at j (suc k) n zero h = let e : j + 0 ≡ j = omega arith in rw e refl
bytes-at j (suc k) n (suc i) h = let e : suc j + i ≡ j + suc i = omega arith in bytes-at (suc j) k n i (omega arith) ∙ rw e refl

bytes-of-two : (i : ℕ) → 256 ^ i ≡ 2 ^ (byte_bits * i)
bytes-of-two zero = refl
bytes-of-two (suc i) =
    let e : byte_bits * suc i ≡ byte_bits * i + byte_bits = omega arith in
    rw (e, pow-add, pow-suc 256 i, bytes-of-two i) refl

byte-is : (i n : ℕ) → byte_at i n ≡ n / 2 ^ (byte_bits * i) % 2 ^ byte_bits
byte-is zero n = ap (λ (m : ℕ). m % 256) (sym (div-one n))
byte-is (suc i) n = ap (λ (m : ℕ). n / m % 256) (bytes-of-two (suc i))

-- bit b % 8 of byte b / 8
pub byte_bit : (n b : ℕ) → b < word_bits → bit (get_or (to_le_bytes w64 n) (b / byte_bits) 0) (b % byte_bits) ≡ bit n b
byte_bit n b h =
    let z : 0 + b / byte_bits ≡ b / byte_bits = omega arith in
    let m : byte_bits * (b / byte_bits) + b % byte_bits ≡ b = omega arith in
    ap (λ (v : ℕ). bit v (b % byte_bits)) (bytes-at 0 8 n (b / byte_bits) (omega arith) ∙ ap (λ (i : ℕ). byte_at i n) z ∙ byte-is (b / byte_bits) n)
    ∙ bit_mod (n / 2 ^ (byte_bits * (b / byte_bits))) byte_bits (b % byte_bits) (omega arith)
    ∙ bit_shr n (byte_bits * (b / byte_bits)) (b % byte_bits)
    ∙ ap (bit n) m

-- ---- a word from a row, and into one

module _ (row bytes : List ℕ) (at k : ℕ) (long : length bytes ≡ word_bytes) (from : bytes ≡ take k (drop at row)) (w : k ≡ word_bytes) where
  got_here : (i : ℕ) → i < word_bytes → get_or bytes i 0 ≡ get_or row (at + i) 0
  got_here i h = rw from (get_or-take k (drop at row) i 0 (omega arith) ∙ get_or-drop at row i 0)

  got_fits : ((i : ℕ) → get_or row i 0 < 2 ^ byte_bits) → (i : ℕ) → get_or bytes i 0 < 2 ^ byte_bits
  got_fits f i =
      by_cases (dec_lt i word_bytes)
      (λ (h : i < word_bytes). rw (got_here i h) (f (at + i)))
      (λ (h : ¬ (i < word_bytes)). rw (get_or-eq_default {A = ℕ} bytes 0 {n = i} (omega arith)) (omega arith))

  pub got : (n : ℕ) → ((i : ℕ) → get_or row i 0 < 2 ^ byte_bits) → n ≡ from_le_bytes w64 bytes
      → (b : ℕ) → b < word_bits → bit n b ≡ bit (get_or row (at + b / byte_bits) 0) (b % byte_bits)
  got n f e b l = sym (byte_bit n b l) ∙ rw (le_bytes_8 bytes n long (got_fits f) e, got_here (b / byte_bits) (omega arith)) refl

module _ (xs ys : List ℕ) (at k : ℕ) (fits : at + k ≤ length xs) (long : length ys ≡ k) where
  front : length (take at xs) ≡ at
  front = length-take-le at xs (omega arith)

  -- element at + i of the list with ys put in at `at`
  put_here : (i : ℕ) → i < k → get_or (put_mid at k xs ys) (at + i) 0 ≡ get_or ys i 0
  put_here i h =
      let e : at + i - at ≡ i = omega arith in
      get_or-append_right (take at xs) (ys ++ drop k (drop at xs)) at (at + i) 0 front (omega arith)
      ∙ rw e (get_or_append_left ys (drop k (drop at xs)) 0 i (omega arith))

  put_before : (i : ℕ) → i < at → get_or (put_mid at k xs ys) i 0 ≡ get_or xs i 0
  put_before i h = get_or_append_left (take at xs) (ys ++ drop k (drop at xs)) 0 i (omega (arith, front)) ∙ get_or-take at xs i 0 h

  put_after : (i : ℕ) → at + k ≤ i → get_or (put_mid at k xs ys) i 0 ≡ get_or xs i 0
  put_after i h =
      let e : at + (k + (i - at - k)) ≡ i = omega arith in
      get_or-append_right (take at xs) (ys ++ drop k (drop at xs)) at i 0 front (omega arith)
      ∙ get_or-append_right ys (drop k (drop at xs)) k (i - at) 0 long (omega arith)
      ∙ get_or-drop k (drop at xs) (i - at - k) 0
      ∙ get_or-drop at xs (k + (i - at - k)) 0
      ∙ ap (λ (m : ℕ). get_or xs m 0) e

pub put : (xs ys : List ℕ) (at k n : ℕ) → at + word_bytes ≤ length xs → k ≡ word_bytes → ys ≡ to_le_bytes w64 n → WordAt xs (put_mid at k xs ys) at n
put xs ys at k n fits w e =
    let long : length ys ≡ k = ap length e ∙ sym w in
    record {
      word = λ b h. ap (λ (v : ℕ). bit v (b % byte_bits)) (put_here xs ys at k (omega arith) long (b / byte_bits) (omega arith)) ∙ rw e (byte_bit n b h);
      before = put_before xs ys at k (omega arith) long;
      after = λ i h. put_after xs ys at k (omega arith) long i (omega arith);
    }

-- ---- a set from a row, and into one

row_in : (row : List ℕ) (x : ℕ) → x < set_bits → row_has row x ≡ bit (get_or row (x / byte_bits) 0) (x % byte_bits)
unfolding row_has
row_in row x h = rw (lt-ltb x set_bits h) refl

row_out : (row : List ℕ) (x : ℕ) → set_bits ≤ x → row_has row x ≡ false
unfolding row_has
row_out row x h = rw (le-ltb x set_bits h) refl

-- word i has the bits of eight bytes of the row
abbrev pub Loaded : List ℕ → ℕ → ℕ → Type 0
Loaded row i v = (b : ℕ) → b < word_bits → bit v b ≡ bit (get_or row (word_bytes * i + b / byte_bits) 0) (b % byte_bits)

pub loaded : (row : List ℕ) (s : Set) → ((i : ℕ) → i < set_words → Loaded row i (get_or s.words i 0)) → (x : ℕ) → member s x ≡ row_has row x
loaded row s h = by_words s (row_has row) (row_out row) go
  where
    go : (i x : ℕ) → i < set_words → x / word_bits ≡ i → bit (get_or s.words i 0) (x % word_bits) ≡ row_has row x
    go i x l e =
        let d : word_bytes * i + x % word_bits / byte_bits ≡ x / byte_bits = omega arith in
        let m : x % word_bits % byte_bits ≡ x % byte_bits = omega arith in
        h i l (x % word_bits) (omega arith) ∙ rw (d, m) (sym (row_in row x (omega arith)))

-- the words of the set below word i are in the row
pub record Storing (xs ys : List ℕ) (s : Set) (i : ℕ) : Type 0 where
  pub members : (x : ℕ) → x < word_bits * i → bit (get_or ys (x / byte_bits) 0) (x % byte_bits) ≡ member s x
  pub after : (m : ℕ) → word_bytes * i ≤ m → get_or ys m 0 ≡ get_or xs m 0

pub store_start : (xs : List ℕ) (s : Set) → Storing xs xs s 0
store_start xs s = record { members = λ x h. absurd (omega arith); after = λ m h. refl }

pub store_turn : (xs ys zs : List ℕ) (s : Set) (i : ℕ) → Storing xs ys s i → i < set_words → WordAt ys zs (word_bytes * i) (get_or s.words i 0) → Storing xs zs s (i + 1)
store_turn xs ys zs s i g l w = record { members = members; after = λ m h. w.after m (omega arith) ∙ g.after m (omega arith) }
  where
    members : (x : ℕ) → x < word_bits * (i + 1) → bit (get_or zs (x / byte_bits) 0) (x % byte_bits) ≡ member s x
    members x h =
        by_cases (dec_lt x (word_bits * i))
        (λ (t : x < word_bits * i). rw (w.before (x / byte_bits) (omega arith)) (g.members x t))
        (λ (t : ¬ (x < word_bits * i)).
        let d : word_bytes * i + x % word_bits / byte_bits ≡ x / byte_bits = omega arith in
        let m : x % word_bits % byte_bits ≡ x % byte_bits = omega arith in
        rw (d, m) at (w.word (x % word_bits) (omega arith)) ∙ word_at s i x l (omega arith))

pub store_end : (xs ys : List ℕ) (s : Set) (i : ℕ) → Storing xs ys s i → set_words ≤ i → (x : ℕ) → row_has ys x ≡ member s x
store_end xs ys s i g l x =
    by_cases (dec_lt x set_bits)
    (λ (h : x < set_bits). row_in ys x h ∙ g.members x (omega arith))
    (λ (h : ¬ (x < set_bits)). row_out ys x (omega arith) ∙ sym (member_out s x (omega arith)))

pub ruleset storing = (store_start, store_turn, store_end)

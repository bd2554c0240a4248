-- The tables hold: a test that is computed over a whole table, and the law that it is sound.
use mathlib.Core.Path.{◌≡◌, refl, ap, ap₂}
use mathlib.Core.Bool.{Bool, true, false, ◌&&◌, not}
use mathlib.Core.Option.{Option, none, some}
use mathlib.Core.List.{List, [], ◌∷◌}
use Prim.Native.Nat.{ℕ, ◌+◌}
use lib.Dec.{T, eqb, eqb→eq, T_not}
use Rattle.rules.specs.Fault.{Refusal, text_fault_number, at, RefusedAs}
use Rattle.rules.specs.Grounds.{first_of}
use Rattle.language.specs.Tree.{Tree, size}
use Rattle.language.specs.Reading.{Pattern, Reading}
use Rattle.language.specs.Order.{NextReading, NoMore}
use Rattle.language.specs.Listing.{Onward, Listing}
use Rattle.language.specs.Local.{Numbered}
use Rattle.language.specs.Search.{accepts, first_reading, next_reading}
use Rattle.language.proofs.Decides.{and_left, and_right}
use Rattle.language.proofs.Search.{Next, moved, stuck}
use Rattle.language.proofs.Computed.{first-right, first-none, next-right}
use Rattle.sheet.specs.Refusals.{sheet_refusal}
use Rattle.sheet.specs.Make.{postorder, sheet_of, pattern_of}
use Rattle.sheet.proofs.Own.{own_stands}
use Rattle.sheet.proofs.Accepted.{standing}
use Rattle.text.specs.Walk.{Answer, tree, fault, parse}
use Rattle.text.specs.Refusals.{text_refusal}
use Rattle.text.proofs.Parsing.{parse_iff}
use Rattle.reader.specs.Refusals.{mapping_grounds}
use Rattle.claims.specs.Cases.{Parsed, Case, makes, has_nodes, is_made, reads, refused, bad_sheet, bad_call, Holds, AllHold}
use Rattle.claims.specs.Marked.{marked}
use Rattle.claims.specs.Lines.{texts, sheets}

-- TESTS
abbrev same : List ℕ → List ℕ → Bool
same [] [] = true
same [] (y ∷ ys) = false
same (x ∷ xs) [] = false
same (x ∷ xs) (y ∷ ys) = eqb x y && same xs ys

abbrev none_is : {A : Type 0} → Option A → Bool
none_is none = true
none_is (some a) = false

abbrev some_is : Option (List ℕ) → List ℕ → Bool
some_is none r = false
some_is (some v) r = same v r

abbrev number_is : Option ℕ → ℕ → Bool
number_is none k = false
number_is (some j) k = eqb j k

abbrev fault_is : Option Refusal → ℕ → ℕ → Bool
fault_is none k i = false
fault_is (some f) k i = eqb (text_fault_number f.fault) k && eqb f.place i

abbrev onward_test : Pattern → List ℕ → List ℕ → List (List ℕ) → Bool
onward_test P name r [] = none_is (next_reading P name r)
onward_test P name r (s ∷ rs) = some_is (next_reading P name r) s && onward_test P name s rs

abbrev listing_test : Pattern → List ℕ → List (List ℕ) → Bool
listing_test P name [] = not (accepts P name)
listing_test P name (r ∷ rs) = accepts P name && (same (first_reading P name) r && onward_test P name r rs)

-- the text is not refused, and its tree passes
abbrev tree_test : Option Refusal → Answer → (Tree ℕ → Bool) → Bool
tree_test none (tree t) f = f t
tree_test none (fault g) f = false
tree_test (some g) o f = false

abbrev made : List ℕ → (Tree ℕ → Bool) → Bool
made text f = tree_test (text_refusal text) (parse text) f

abbrev test : Case → Bool
test (makes text sheet) = made text (λ t. same (sheet_of t) sheet)
test (has_nodes text nodes) = made text (λ t. same (postorder t) nodes)
test (is_made text) = made text (λ t. true)
test (reads text name rs) = made text (λ t. listing_test (pattern_of t) name rs)
test (refused text k i) = fault_is (text_refusal text) k i
test (bad_sheet sheet k) = number_is (sheet_refusal sheet) k
test (bad_call sheet name mapping work k) = number_is (first_of (mapping_grounds sheet name mapping work)) k

abbrev all_test : List Case → Bool
all_test [] = true
all_test (c ∷ cs) = test c && all_test cs

-- THEY ARE SOUND
same_eq : (v w : List ℕ) → T (same v w) → v ≡ w
same_eq [] [] h = refl
same_eq [] (y ∷ ys) h = absurd h
same_eq (x ∷ xs) [] h = absurd h
same_eq (x ∷ xs) (y ∷ ys) h = ap₂ (λ (n : ℕ) (l : List ℕ). n ∷ l) (eqb→eq x y (and_left (eqb x y) (same xs ys) h)) (same_eq xs ys (and_right (eqb x y) (same xs ys) h))

number_eq : (o : Option ℕ) (k : ℕ) → T (number_is o k) → o ≡ some k
number_eq none k h = absurd h
number_eq (some j) k h = ap some (eqb→eq j k h)

fault_eq : (o : Option Refusal) (k i : ℕ) → T (fault_is o k i) → RefusedAs o k i
fault_eq none k i h = absurd h
fault_eq (some f) k i h =
    let number = eqb→eq (text_fault_number f.fault) k (and_left (eqb (text_fault_number f.fault) k) (eqb f.place i) h) in
    let place = eqb→eq f.place i (and_right (eqb (text_fault_number f.fault) k) (eqb f.place i) h) in
    (f.fault, number, ap (λ (i : ℕ). some (at i f.fault)) place)

module _ (P : Pattern) (n : Numbered 1 (1 + size P.tree) P.tree) (name : List ℕ) where
  onward_sound : (r : List ℕ) (rs : List (List ℕ)) → Reading P name r → T (onward_test P name r rs) → Onward P name r rs
  onward_sound r [] a h = go (next_reading P name r) (next-right P n name r a) h
    where
      go : (o : Option (List ℕ)) → Next (Reading P name) r o → T (none_is o) → NoMore P name r
      go none (stuck still) h = still
      go (some v) (moved l) h = absurd h
  onward_sound r (s ∷ rs) a h =
      let l = go (next_reading P name r) (next-right P n name r a) (and_left (some_is (next_reading P name r) s) (onward_test P name s rs) h) in
      (l, onward_sound s rs l.has.has (and_right (some_is (next_reading P name r) s) (onward_test P name s rs) h))
    where
      go : (o : Option (List ℕ)) → Next (Reading P name) r o → T (some_is o s) → NextReading P name r s
      go none (stuck still) h = absurd h
      go (some v) (moved l) h = rw (same_eq v s h) at l

  listing_sound : (rs : List (List ℕ)) → T (listing_test P name rs) → Listing P name rs
  listing_sound [] h = first-none P n name (T_not (accepts P name) h)
  listing_sound (r ∷ rs) h =
      let A = accepts P name in
      let B = same (first_reading P name) r in
      let C = onward_test P name r rs in
      let k = and_right A (B && C) h in
      let f = rw (same_eq (first_reading P name) r (and_left B C k)) at (first-right P n name (and_left A (B && C) h)) in
      (f, onward_sound r rs f.has (and_right B C k))

-- a text that is made has a tree, which passes
made-sound : (text : List ℕ) (f : Tree ℕ → Bool) → T (made text f) → (t : Tree ℕ) × Parsed text t × T (f t)
made-sound text f h = go (text_refusal text) refl (parse text) refl h
  where
    go : (r : Option Refusal) → text_refusal text ≡ r → (o : Answer) → parse text ≡ o → T (tree_test r o f) → (t : Tree ℕ) × Parsed text t × T (f t)
    go none d (tree t) e h = (t, record { fine = d; tree = (parse_iff text t).0 e }, h)
    go none d (fault g) e h = absurd h
    go (some g) d o e h = absurd h

sound : (c : Case) → T (test c) → Holds c
sound (makes text sheet) h = let (t, p, k) = made-sound text (λ t. same (sheet_of t) sheet) h in (t, p, same_eq (sheet_of t) sheet k)
sound (has_nodes text nodes) h = let (t, p, k) = made-sound text (λ t. same (postorder t) nodes) h in (t, p, same_eq (postorder t) nodes k)
sound (is_made text) h = let (t, p, k) = made-sound text (λ t. true) h in (t, p)
sound (reads text name rs) h =
    let (t, p, k) = made-sound text (λ t. listing_test (pattern_of t) name rs) h in
    let e = own_stands t in
    (t, p, pattern_of t, e, listing_sound (pattern_of t) (standing (sheet_of t) (pattern_of t) e).numbered name rs k)
sound (refused text k i) h = fault_eq (text_refusal text) k i h
sound (bad_sheet sheet k) h = number_eq (sheet_refusal sheet) k h
sound (bad_call sheet name mapping work k) h = number_eq (first_of (mapping_grounds sheet name mapping work)) k h

all_sound : (cs : List Case) → T (all_test cs) → AllHold cs
all_sound [] h = tt
all_sound (c ∷ cs) h = (sound c (and_left (test c) (all_test cs) h), all_sound cs (and_right (test c) (all_test cs) h))

-- P1 to P14
pub marked_hold : AllHold marked
marked_hold = all_sound marked tt

-- the other cases
pub texts_hold : AllHold texts
texts_hold = all_sound texts tt

pub sheets_hold : AllHold sheets
sheets_hold = all_sound sheets tt

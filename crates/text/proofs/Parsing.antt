-- The walk finds a tree exactly if the grammar has one, and so the grammar gives a token list at most one tree.
use mathlib.Core.Path.{◌≡◌, refl, ap, ap₂, ◌∙◌}
use mathlib.Core.Logic.{◌↔◌}
use mathlib.Core.Option.{Option, none, some}
use mathlib.Core.List.{List, [], ◌∷◌, ◌++◌, append_assoc, append-nil}
use Prim.Native.Nat.{ℕ, zero, suc}
use native.Mathlib.Omega.{arith}
use lib.ListN.{length}
use Rattle.rules.specs.Limits.{open_limit}
use Rattle.rules.specs.Fault.{Refusal}
use Rattle.language.specs.Tree.{Tree, cat, alt, star}
use Rattle.lexer.specs.Tokens.{a_literal, a_bar, a_star, an_open, a_close, a_fault, Placed, placed, tokens_from}
use Rattle.text.specs.Grammar.{Level, unit, sequence, alternation, Parses, literal, void, group, starred, one, then, only, or}
use Rattle.text.specs.Walk.{Frame, begin, going, after, value, put, tree, fault, run, parse}
use Rattle.text.specs.Outcome.{TreeOfText}

-- e: the text's length
module _ (e : ℕ) where
  -- what a part of the walk does with the tokens of a unit, a sequence, an alternation
  abbrev Meaning : ℕ → Level → List Placed → Tree ℕ → Type 0
  Meaning d unit ts t = (rest : List Placed) (f : Frame) (gs : List Frame) → run e d (ts ++ rest) f gs ≡ run e d rest (put t f) gs
  Meaning d sequence ts t =
      (a : Option (Tree ℕ)) → (s : Option (Tree ℕ)) × (u : Tree ℕ) × (after cat s u ≡ t)
      × ((rest : List Placed) (gs : List Frame) → run e d (ts ++ rest) (begin a) gs ≡ run e d rest (going a s u) gs)
  Meaning d alternation ts t =
      (a : Option (Tree ℕ)) × (s : Option (Tree ℕ)) × (u : Tree ℕ) × (value a s u ≡ t)
      × ((rest : List Placed) (gs : List Frame) → run e d (ts ++ rest) (begin none) gs ≡ run e d rest (going a s u) gs)

  pub starred-put : (d i : ℕ) (t : Tree ℕ) (rest : List Placed) (f : Frame) (gs : List Frame) → run e d (placed i a_star ∷ rest) (put t f) gs ≡ run e d rest (put (star t) f) gs
  starred-put d i t rest (begin a) gs = refl
  starred-put d i t rest (going a s u) gs = refl

  complete : {d : ℕ} {l : Level} {ts : List Placed} {t : Tree ℕ} → Parses d l ts t → Meaning d l ts t
  complete literal = λ rest f gs. refl
  complete void = λ rest f gs. refl
  complete (group {d = d} j {ps = ts} p) =
      let (a, s, u, q, h) = complete p in
      λ rest f gs. rw (append_assoc ts (placed j a_close ∷ []) rest, ← q) (h (placed j a_close ∷ rest) (f ∷ gs))
  complete (starred {d = d} i {ps = ts} {t = t} p) =
      let h = complete p in
      λ rest f gs. rw (append_assoc ts (placed i a_star ∷ []) rest) (h (placed i a_star ∷ rest) f gs ∙ starred-put d i t rest f gs)
  complete (one {t = t} p) = let h = complete p in λ a. (none, t, refl, λ rest gs. h rest (begin a) gs)
  complete (then {ps = us} {qs = vs} {t = t} p q) =
      let m = complete p in
      let n = complete q in
      λ a. let (s, u, z, h) = m a in
      (some (after cat s u), t, ap (λ (r : Tree ℕ). cat r t) z, λ rest gs. rw (append_assoc us vs rest) (h (vs ++ rest) gs ∙ n rest (going a s u) gs))
  complete (only p) = let (s, u, z, h) = complete p none in (none, s, u, z, h)
  complete (or i {ps = us} {qs = vs} p q) =
      let (a, s, u, z, h) = complete p in
      let (s', u', z', h') = complete q (some (value a s u)) in
      (some (value a s u), s', u', ap₂ alt z z', λ rest gs. rw (append_assoc us (placed i a_bar ∷ vs) rest) (h (placed i a_bar ∷ vs ++ rest) gs ∙ h' rest gs))

  pub parsed : (d : ℕ) (ts : List Placed) (t : Tree ℕ) → Parses d alternation ts t → run e d ts (begin none) [] ≡ tree t
  parsed d ts t p =
      let (a, s, u, z, h) = complete p in
      rw (append-nil ts, z) at (h [] [])

-- the grammar gives a token list at most one tree
pub unambiguous : (d : ℕ) (ts : List Placed) (t t' : Tree ℕ) → Parses d alternation ts t → Parses d alternation ts t' → t ≡ t'
unambiguous d ts t t' p q =
    let e = parsed 0 d ts t p in
    let e' = parsed 0 d ts t' q in
    cc

-- THE OTHER WAY: what the walk has seen is grammatical so far
data SeqIn (d : ℕ) : Option (Tree ℕ) → Tree ℕ → List Placed → Type 0 where
  alone : {u : Tree ℕ} {ws : List Placed} → Parses d unit ws u → SeqIn d none u ws
  joined : {r u : Tree ℕ} {xs ys : List Placed} → Parses d sequence xs r → Parses d unit ys u → SeqIn d (some r) u (xs ++ ys)

data FrameIn (d : ℕ) : Frame → List Placed → Type 0 where
  fresh : FrameIn d (begin none) []
  barred : (i : ℕ) {us : List Placed} {r : Tree ℕ} → Parses d alternation us r → FrameIn d (begin (some r)) (us ++ placed i a_bar ∷ [])
  plain : {s : Option (Tree ℕ)} {u : Tree ℕ} {ws : List Placed} → SeqIn d s u ws → FrameIn d (going none s u) ws
  further : (i : ℕ) {us ws : List Placed} {r : Tree ℕ} {s : Option (Tree ℕ)} {u : Tree ℕ} → Parses d alternation us r → SeqIn d s u ws
      → FrameIn d (going (some r) s u) (us ++ placed i a_bar ∷ ws)

-- D parentheses may be open in all, and d more
data StackIn (D : ℕ) : ℕ → List Frame → List Placed → Type 0 where
  bottom : StackIn D D [] []
  opened : {d : ℕ} (i : ℕ) {g : Frame} {gs : List Frame} {pre ws : List Placed} → StackIn D (suc d) gs pre → FrameIn (suc d) g ws
      → StackIn D d (g ∷ gs) (pre ++ (ws ++ placed i an_open ∷ []))

seq_value : {d : ℕ} {s : Option (Tree ℕ)} {u : Tree ℕ} {ws : List Placed} → SeqIn d s u ws → Parses d sequence ws (after cat s u)
seq_value (alone p) = one p
seq_value (joined p q) = then p q

frame_value : {d : ℕ} {a s : Option (Tree ℕ)} {u : Tree ℕ} {ws : List Placed} → FrameIn d (going a s u) ws → Parses d alternation ws (value a s u)
frame_value (plain q) = only (seq_value q)
frame_value (further i p q) = or i p (seq_value q)

seq_star : {d : ℕ} {s : Option (Tree ℕ)} {u : Tree ℕ} {ws : List Placed} (i : ℕ) → SeqIn d s u ws → SeqIn d s (star u) (ws ++ placed i a_star ∷ [])
seq_star i (alone p) = alone (starred i p)
seq_star i (joined {xs = xs} {ys = ys} p q) = rw (append_assoc xs ys (placed i a_star ∷ [])) (joined p (starred i q))

frame_star : {d : ℕ} {a s : Option (Tree ℕ)} {u : Tree ℕ} {ws : List Placed} (i : ℕ) → FrameIn d (going a s u) ws → FrameIn d (going a s (star u)) (ws ++ placed i a_star ∷ [])
frame_star i (plain q) = plain (seq_star i q)
frame_star i (further j {us = us} {ws = ws} p q) = rw (append_assoc us (placed j a_bar ∷ ws) (placed i a_star ∷ [])) (further j p (seq_star i q))

frame_put : {d : ℕ} {f : Frame} {ws ys : List Placed} {t : Tree ℕ} → FrameIn d f ws → Parses d unit ys t → FrameIn d (put t f) (ws ++ ys)
frame_put fresh p = plain (alone p)
frame_put {ys = ys} (barred i {us = us} q) p = rw (append_assoc us (placed i a_bar ∷ []) ys) (further i q (alone p))
frame_put (plain q) p = plain (joined (seq_value q) p)
frame_put {ys = ys} (further i {us = us} {ws = ws} r q) p = rw (append_assoc us (placed i a_bar ∷ ws) ys) (further i r (joined (seq_value q) p))

never : {A : Type 0} {f : Refusal} {t : Tree ℕ} → fault f ≡ tree t → A
never e = let z : ◌≡◌ {A = ℕ} 0 1 = cc in absurd (omega arith)

module _ (len D : ℕ) where
  -- one token more was seen
  moved_on : {t : Tree ℕ} (pre ws : List Placed) (x : Placed) (ts : List Placed) → Parses D alternation (pre ++ (ws ++ x ∷ [] ++ ts)) t
      → Parses D alternation (pre ++ (ws ++ x ∷ ts)) t
  moved_on pre ws x ts p = rw (append_assoc ws (x ∷ []) ts) at p

  -- a parenthesis was closed
  closed : {t : Tree ℕ} (o c : Placed) (pre vs ws ts : List Placed) → Parses D alternation (pre ++ (vs ++ (o ∷ ws ++ c ∷ []) ++ ts)) t
      → Parses D alternation (pre ++ (vs ++ o ∷ []) ++ (ws ++ c ∷ ts)) t
  closed o c pre vs ws ts p = simp append_assoc (simp append_assoc at p)

  sound : (d : ℕ) (ts : List Placed) (f : Frame) (gs : List Frame) {pre ws : List Placed} {t : Tree ℕ} → StackIn D d gs pre → FrameIn d f ws → run len d ts f gs ≡ tree t
      → Parses D alternation (pre ++ (ws ++ ts)) t
  sound d [] (begin a) [] st fr e = never e
  sound d [] (going a s u) [] {ws = ws} {t} bottom fr e = let h : value a s u ≡ t = cc in rw (append-nil ws, ← h) (frame_value fr)
  sound d [] f (g ∷ gs) st fr e = never e
  sound d (placed i (a_literal b x y) ∷ ts) f gs {pre} {ws} st fr e = moved_on pre ws (placed i (a_literal b x y)) ts (sound d ts _ gs st (frame_put fr literal) e)
  sound d (placed i a_star ∷ ts) (begin a) gs st fr e = never e
  sound d (placed i a_star ∷ ts) (going a s u) gs {pre} {ws} st fr e = moved_on pre ws (placed i a_star) ts (sound d ts _ gs st (frame_star i fr) e)
  sound d (placed i a_bar ∷ ts) (begin a) gs st fr e = never e
  sound d (placed i a_bar ∷ ts) (going a s u) gs {pre} {ws} st fr e = moved_on pre ws (placed i a_bar) ts (sound d ts _ gs st (barred i (frame_value fr)) e)
  sound zero (placed i an_open ∷ ts) f gs st fr e = never e
  sound (suc d) (placed i an_open ∷ ts) f gs st fr e = simp append_assoc at (sound d ts (begin none) (f ∷ gs) (opened i st fr) fresh e)
  sound d (placed i a_close ∷ ts) f [] st fr e = never e
  sound d (placed i a_close ∷ ts) (begin none) (g ∷ gs) (opened o {pre = pre} {ws = vs} st fg) fresh e =
      closed (placed o an_open) (placed i a_close) pre vs [] ts (sound (suc d) ts _ gs st (frame_put fg void) e)
  sound d (placed i a_close ∷ ts) (begin (some r)) (g ∷ gs) st fr e = never e
  sound d (placed i a_close ∷ ts) (going a s u) (g ∷ gs) {ws = ws} (opened o {pre = pre} {ws = vs} st fg) fr e =
      closed (placed o an_open) (placed i a_close) pre vs ws ts (sound (suc d) ts _ gs st (frame_put fg (group i (frame_value fr))) e)
  sound d (placed i (a_fault k) ∷ ts) f gs st fr e = never e

-- the walk finds a tree exactly if the grammar has it
pub parse_iff : (text : List ℕ) (t : Tree ℕ) → (parse text ≡ tree t) ↔ TreeOfText text t
parse_iff text t = (λ e. sound (length text) open_limit open_limit (tokens_from text 0) (begin none) [] bottom fresh e, parsed (length text) open_limit (tokens_from text 0) t)

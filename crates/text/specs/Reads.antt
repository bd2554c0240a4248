-- What the inner functions ensure: they do what the walk does, and store the postorder and the leaves of the tree that it makes.
-- The public contract cites none of this.
use Rattle.std.specs.Prelude.{◌≡◌, Bool, true, false, List, [], ◌∷◌, ℕ, ◌+◌, ◌*◌, ◌<◌, ◌≤◌, eqb, length, drop, replicate, Result, MatchResult}
use Rattle.std.proofs.Math.Option.{Option, none, some}
use Rattle.rules.specs.Limits.{open_limit, leaf_limit, node_limit, nodes_a_byte, leaves_a_byte}
use Rattle.rules.specs.Fault.{Refusal}
use Rattle.buffers.specs.Wrote.{Added}
use Rattle.language.specs.Tree.{Tree, cat}
use Rattle.sheet.specs.Make.{postorder, leaves}
use Rattle.lexer.specs.Bytes.{asterisk, right_parenthesis}
use Rattle.lexer.specs.Tokens.{starts, tokens_from}
use Rattle.lexer.specs.Places.{unit_at}
use Rattle.text.specs.declared.Draft.{Draft}
use Rattle.text.specs.Walk.{Frame, begin, going, after, value, put, Answer, tree, fault, run, parse}

-- these nodes and literals were stored
pub record Stored (o p : Draft) (vs ws : List ℕ) : Type 0 where
  pub nodes : Added o.nodes p.nodes vs
  pub literals : Added o.literals p.literals ws

-- how far a reader is, and what has been made up to there
pub record State : Type 0 where
  pub place : ℕ
  pub draft : Draft

abbrev pub state : ℕ → Draft → State
state i d = record { place = i; draft = d }

-- where a reader is called
pub record Begun (len : ℕ) (p : State) : Type 0 where
  pub inside : p.place ≤ len
  pub nodes : p.draft.nodes.count ≤ nodes_a_byte * p.place
  pub leaves : p.draft.literals.count ≤ leaves_a_byte * p.place

-- where it is done; slack: the operators that may yet follow
pub record Onward (len : ℕ) (from p : State) (slack : ℕ) : Type 0 where
  pub further : from.place < p.place
  pub inside : p.place ≤ len
  pub nodes : p.draft.nodes.count + slack ≤ nodes_a_byte * p.place
  pub leaves : p.draft.literals.count ≤ leaves_a_byte * p.place

-- the walk from a place of the text
abbrev pub go : List ℕ → ℕ → ℕ → Frame → List Frame → Answer
go t d here f gs = run (length t) d (tokens_from t here) f gs

module _ (t : List ℕ) (d : ℕ) (o p : State) where
  -- the walk takes the bytes between the two for a unit, and its tree was stored
  pub record Part : Type 0 where
    pub made : Tree ℕ
    pub stored : Stored o.draft p.draft (postorder made) (leaves made)
    pub walk : (f : Frame) (gs : List Frame) → go t d o.place f gs ≡ go t d p.place (put made f) gs

  -- for a sequence, whose last unit is u
  pub record SeqPart : Type 0 where
    pub s : Option (Tree ℕ)
    pub u : Tree ℕ
    pub stored : Stored o.draft p.draft (postorder (after cat s u)) (leaves (after cat s u))
    pub walk : (a : Option (Tree ℕ)) (gs : List Frame) → go t d o.place (begin a) gs ≡ go t d p.place (going a s u) gs

  -- for an alternation, whose last sequence is s and u
  pub record AltPart : Type 0 where
    pub a : Option (Tree ℕ)
    pub s : Option (Tree ℕ)
    pub u : Tree ℕ
    pub stored : Stored o.draft p.draft (postorder (value a s u)) (leaves (value a s u))
    pub walk : (gs : List Frame) → go t d o.place (begin none) gs ≡ go t d p.place (going a s u) gs

-- where a reader may be called, by the bytes from there on: after a unit only where a unit starts; directly after an open parenthesis not at a closed one
abbrev pub Ready : Frame → List Frame → List ℕ → Type 0
Ready (begin none) [] bytes = Unit {0}
Ready (begin none) (g ∷ gs) bytes = starts bytes right_parenthesis ≡ false
Ready (begin (some r)) gs bytes = Unit {0}
Ready (going a s u) gs bytes = unit_at bytes ≡ true

-- the walk from here on ends with this fault: so many parentheses are open as gs has, and d more may be
abbrev pub Ends : List ℕ → ℕ → ℕ → Refusal → Frame → List Frame → Type 0
Ends t d here k f gs = Ready f gs (drop here t) → d + length gs ≡ open_limit → go t d here f gs ≡ fault k

abbrev pub Fails : List ℕ → ℕ → ℕ → Refusal → Type 0
Fails t d here k = (f : Frame) (gs : List Frame) → Ends t d here k f gs

-- an alternation ends before these bytes
abbrev pub ends_at : List ℕ → Bool
ends_at [] = true
ends_at (b ∷ s) = eqb b right_parenthesis

module _ (t : List ℕ) (d : ℕ) (o p : State) where
  -- a unit with its stars was read
  pub record UnitDone : Type 0 where
    pub part : Part t d o p
    pub unstarred : starts (drop p.place t) asterisk ≡ false
    pub far : Onward (length t) o p 2

  -- a sequence was read
  pub record SeqDone : Type 0 where
    pub part : SeqPart t d o p
    pub unstarred : starts (drop p.place t) asterisk ≡ false
    pub over : unit_at (drop p.place t) ≡ false
    pub far : Onward (length t) o p 1

  -- an alternation was read
  pub record AltDone : Type 0 where
    pub part : AltPart t d o p
    pub over : ends_at (drop p.place t) ≡ true
    pub far : Onward (length t) o p 0

-- the stars after a unit: whatever unit ends before them ends after them
abbrev pub StarsRead : List ℕ → State → State → Type 0
StarsRead t p q = (d : ℕ) (o : State) → Part t d o p → Onward (length t) o p 2 → UnitDone t d o q

-- a reader's answer: the place after what it read, or the fault that the walk ends with
module _ (t : List ℕ) (d : ℕ) (o : State) (p : Draft) where
  abbrev pub UnitRead : Result ℕ Refusal → Type 0
  UnitRead r = MatchResult r (λ i. UnitDone t d o (state i p)) (Fails t d o.place)

  abbrev pub SeqRead : Result ℕ Refusal → Type 0
  SeqRead r = MatchResult r (λ i. SeqDone t d o (state i p)) (λ k. (a : Option (Tree ℕ)) (gs : List Frame) → Ends t d o.place k (begin a) gs)

  abbrev pub AltRead : Result ℕ Refusal → Type 0
  AltRead r = MatchResult r (λ i. AltDone t d o (state i p)) (λ k. (gs : List Frame) → Ends t d o.place k (begin none) gs)

-- nothing was stored yet, and there is room for what a sheet may have
pub record Fresh (p : Draft) : Type 0 where
  pub nodes : p.nodes.count ≡ 0
  pub literals : p.literals.count ≡ 0
  pub node_room : length p.nodes.bytes ≡ node_limit
  pub literal_room : length p.literals.bytes ≡ leaf_limit
  pub node_bytes : p.nodes.bytes ≡ replicate node_limit 0
  pub literal_bytes : p.literals.bytes ≡ replicate leaf_limit 0

-- a whole text: the draft holds the walk's tree in postorder, and its leaves
pub record Whole (t : List ℕ) (p : Draft) : Type 0 where
  pub made : Tree ℕ
  pub found : parse t ≡ tree made
  pub from : Draft
  pub fresh : Fresh from
  pub stored : Stored from p (postorder made) (leaves made)

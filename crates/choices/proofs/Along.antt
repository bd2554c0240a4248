-- The choices from the left: what the entries are after some of them, and what is still to come.
use mathlib.Core.Path.{◌≡◌, ap, ◌∙◌}
use mathlib.Core.Bool.{◌&&◌}
use mathlib.Core.List.{List, ◌++◌, append-nil, append_assoc}
use Rattle.mapping.specs.declared.Position.{Position}
use Rattle.std.specs.Prelude.{Option}
use Prim.Native.Nat.{ℕ, suc, ◌+◌, ◌<◌}
use native.Mathlib.Numerals.{add-one}
use native.Mathlib.Omega.{arith}
use lib.Dec.{T}
use lib.ListN.{length, get_or, take, drop, set}
use lib.Seq.{drop-cons, drop-length, take-length, take-suc-set}
use Rattle.language.specs.Tree.{size}
use Rattle.language.specs.Reading.{Pattern}
use Rattle.language.specs.Follow.{stop}
use Rattle.language.specs.Search.{pick, ok_in}
use Rattle.language.proofs.Places.{greedy-at}
use Rattle.bits.specs.declared.Set.{Set}
use Rattle.bits.specs.Sets.{has, row_has}
use Rattle.automaton.specs.Tables.{Follows}
use Rattle.rows.specs.Rows.{readable, row_at, RowOf}
use Rattle.choices.specs.Moves.{LeastPosition, chosen}
use Rattle.choices.proofs.Picks.{or_start, fine, picked_live, first_pick}

-- the entries w are chosen up to place i, the rest is readable after p, and both together are `all`
pub record Along (P : Pattern) (name all w : List ℕ) (i p : ℕ) : Type 0 where
  pub alive : T (readable P (drop i name) p)
  pub whole : take i w ++ chosen P (drop i name) p ≡ all

module _ {P : Pattern} {name all w : List ℕ} {i p : ℕ} (long : length w ≡ length name) (so_far : Along P name all w i p) where
  pub along_turn : (follow : List Set) (work : List ℕ) (o : Option Position) {q : Position} → Follows P follow → RowOf P name work i → i < length name
      → LeastPosition (λ x. row_has (row_at work i) x && has follow p x) 1 o → q ≡ or_start o → Along P name all (set w i q.0) (i + 1) q.0
  along_turn follow work o {q} f row h l d =
      let b = get_or name i 0 in
      let bs = drop (suc i) name in
      let e : q.0 ≡ pick (fine P b bs p) 1 (size P.tree) = ap (λ (x : Position). x.0) d ∙ first_pick P b bs follow (row_at work i) f row p o l in
      record {
        alive = rw (add-one i, e) (picked_live P b bs p 1 (size P.tree) (rw (drop-cons name i 0 h) at so_far.alive));
        whole =
            rw (add-one i, take-suc-set w i q.0 (omega arith), append_assoc)
            (rw (greedy-at (ok_in P) (stop P.tree) (size P.tree) name i p h, ← e) at so_far.whole);
      }

  pub along_end : i ≡ length name → w ≡ all
  along_end e = rw (e, ← long, take-length w, long, drop-length name, append-nil) at so_far.whole

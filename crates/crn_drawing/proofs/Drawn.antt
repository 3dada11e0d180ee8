-- A level's chunks were gone over: what is then answered and left is what the definition says.
use Prim.Native.Nat.{ℕ, ◌-◌, ◌≤◌}
use mathlib.Core.List.{List}
use Rattle.std.specs.Prelude.{Ok, Err}
use mathlib.Core.Path.{◌≡◌, refl, sym, ap, subst, ◌∙◌}
use native.Mathlib.Omega.{arith}
use lib.ListN.{length}
use Rattle.crn_format.specs.Reading.{Step, Spending, from_bits}
use Rattle.crn_format.specs.declared.Kind.{Kind}
use Rattle.crn_format.specs.declared.Kind.TheVariants.{DXT1, DXT5, DXT5A, DXN, Unknown}
use Rattle.crn_format.specs.Level.{Chunk, level}
use Rattle.crn_format.specs.Grid.{insides, chunk_count, painted, blank, block_at, cutouts}
use Rattle.crn_format.specs.Unpacking.{unpacked, declined, cutout_count, ended}
use Rattle.crn_format.proofs.Budget.{left_of, left_falls}
use Rattle.crn_format.specs.Refusals.{number_of}
use Rattle.crn_symbol_codec.specs.Cursors.{place}
use Rattle.crn_symbol_codec.specs.declared.Cursor.{Cursor}
use Rattle.crn_chunks.specs.Meaning.{spending, planes, Coded}
use Rattle.crn_chunks.specs.declared.Carried.{Carried}
use Rattle.crn_chunks.specs.declared.Stream.{Stream}
use Rattle.crn_chunks.specs.declared.Stop.{Stop}
use Rattle.crn_blocks.specs.Sheet.{standing}
use Rattle.crn_blocks.proofs.Whole.{wiped, counted}
use Rattle.crn_unpacker.specs.Going.{Went, Given, Fit, Goes, none, shades}
use Rattle.crn_unpacker.proofs.Whole.{level_course, chunks_here, level_run, Through, through, early}
use Rattle.crn_drawing.specs.declared.Unpacked.{Unpacked}
use Rattle.crn_drawing.specs.declared.Refused.{Refused}
use Rattle.crn_drawing.specs.Unpacks.{answer_of, Unpacks}
use Rattle.crn_drawing.specs.Levels.{ended_by, Refuses, Finishes}

abbrev first : Cursor → ℕ → Stream
first c all = record { cursor = c; blamed = 0; left = all }

module _ (l : Given) (c : Cursor) (all : ℕ) (at_first : place c ≡ 0) (d e : List ℕ) (fit : Fit l (length d)) (w : Went)
    (goes : Goes l 0 (chunk_count l.grid) none (record { cursor = c; blamed = 0; left = all }) d e w) where
  module _ (cs : ℕ → List ℕ) (coded : Coded cs l.planes l.lookup l.sorted) where
    -- the definition starts where the cursor does
    from_first : (k : Kind) → ended_by k cs l all d ≡ ended k l.grid (shades l) all d (level_run l cs (first c all))
    from_first k = rw at_first

    falls : left_of (level_run l cs (first c all)) ≤ all
    falls = left_falls (from_bits l.seg) (level (cs 0) (planes cs l.planes) (insides l.grid 0 (chunk_count l.grid)))
        (spending (first c all))

    on_falls : (r : Carried) (t : Stream) → w ≡ Ok (r, t) → t.left ≤ all
    on_falls r t is = subst (λ (x : Step Spending (List Chunk)). left_of x ≤ all) (through goes cs coded fit is).runs falls

    stop_falls : (x : Stop) → w ≡ Err x → x.left ≤ all
    stop_falls x is = subst (λ (y : Step Spending (List Chunk)). left_of y ≤ all) (early goes cs coded is).runs falls

    -- ---- all chunks were read

    module _ (r : Carried) (t : Stream) (is : w ≡ Ok (r, t)) where
      abbrev block : ℕ → ℕ → ℕ → List ℕ
      block = block_at l.grid (shades l) (chunks_here l (level_course l cs (first c all)))

      went : Through l cs (first c all) t d e
      went = through goes cs coded fit is

      -- cut-outs are counted over the bytes left
      cut : (k : Kind) → cutout_count k l.grid (standing l.grid e) ≡ cutout_count k l.grid block
      unfolding cutout_count
      cut DXT1 =
          ap (λ (b : List ℕ). cutouts l.grid (standing l.grid b) l.grid.faces) went.picture ∙ counted d block fit.room went.sized
      cut DXT5 = refl
      cut DXT5A = refl
      cut DXN = refl
      cut Unknown = refl

      ended-whole : (k : Kind) → ended_by k cs l all d ≡ unpacked (all - t.left) (cutout_count k l.grid block)
          (painted l.grid block l.grid.faces d)
      unfolding ended
      ended-whole k = from_first k ∙ ap (ended k l.grid (shades l) all d) went.runs

      answer-whole : (k : Kind) → answer_of (Ok (record { symbols = all - t.left; cutouts = cutout_count k l.grid (standing l.grid e) })) e
          ≡ unpacked (all - t.left) (cutout_count k l.grid block) (painted l.grid block l.grid.faces d)
      unfolding answer_of
      answer-whole k =
          ap (λ (n : ℕ). unpacked (all - t.left) n e) (cut k) ∙ ap (λ (b : List ℕ). unpacked (all - t.left) (cutout_count k l.grid block) b)
          went.picture

      pub unpacked-whole : (k : Kind) {after : ℕ} {u : Unpacked} → Finishes t.left all k l.grid after e u → Unpacks (ended_by k cs l all d)
          all after e (Ok u)
      unpacked-whole k f =
          record {
            answer = ap (λ (v : Unpacked). answer_of (Ok v) e) f.answer ∙ answer-whole k ∙ sym (ended-whole k);
            spent = rw f.answer (omega (arith, f.budget, on_falls r t is));
          }

    -- ---- or one was refused

    ended-none : (k : Kind) (x : Stop) → w ≡ Err x
        → ended_by k cs l all d ≡ declined (number_of x.refusal) (all - x.left) x.at (painted l.grid (blank l.grid) l.grid.faces d)
    unfolding ended
    ended-none k x is = from_first k ∙ ap (ended k l.grid (shades l) all d) (early goes cs coded is).runs

    answer-none : (x : Stop) (e' : List ℕ) → e' ≡ painted l.grid (blank l.grid) l.grid.faces d
        → answer_of (Err (record { refusal = x.refusal; symbols = all - x.left; at = x.at })) e'
        ≡ declined (number_of x.refusal) (all - x.left) x.at (painted l.grid (blank l.grid) l.grid.faces d)
    unfolding answer_of
    answer-none x e' b = ap (λ (b : List ℕ). declined (number_of x.refusal) (all - x.left) x.at b) b

    pub unpacked-none : (k : Kind) (x : Stop) → w ≡ Err x → {after : ℕ} {e' : List ℕ} {u : Refused} → Refuses x all l.grid after e e' u
        → Unpacks (ended_by k cs l all d) all after e' (Err u)
    unpacked-none k x is {after} {e'} {u} f =
        record {
          answer =
              ap (λ (v : Refused). answer_of (Err v) e') f.answer
              ∙ answer-none x e' (f.cleared ∙ wiped fit.room (early goes cs coded is).rest)
              ∙ sym (ended-none k x is);
          spent = rw f.answer (omega (arith, f.budget, stop_falls x is));
        }

  -- ---- what is left, whatever the codes are

  pub on-left : (r : Carried) (t : Stream) → w ≡ Ok (r, t) → t.left ≤ all
  on-left r t is = on_falls fit.served.codes fit.served.coded r t is

  pub stop-left : (x : Stop) → w ≡ Err x → x.left ≤ all
  stop-left x is = stop_falls fit.served.codes fit.served.coded x is

-- A chunk, by its encoding, its tiles and its positions.
use Rattle.std.specs.Prelude.{Ok, Err, IfOk}
use Prim.Native.Nat.{ℕ, ◌≤◌, ◌<◌}
use mathlib.Core.Bool.{Bool}
use mathlib.Core.List.{List, []}
use mathlib.Core.Path.{◌≡◌, sym, subst, ◌∙◌}
use native.Mathlib.Omega.{arith}
use lib.ListN.{length, get_or}
use Rattle.crn_format.specs.Reading.{got, refused, Source, run}
use Rattle.crn_format.specs.Level.{Plane, Running, plane_endpoints, position_selectors, encoding, tile_counts, lasts, last_row, chunk}
use Rattle.crn_format.proofs.Steps.{go_on, stop, answered}
use Rattle.crn_chunks.specs.Meaning.{source, spending, planes, running_of, chunk_of, Onward}
use Rattle.crn_chunks.specs.Parts.{tile_rows, AllTiled, rows_to, AllPicked, Encodes}
use Rattle.crn_chunks.specs.Reads.{Answer, chunked, inside_of, Reads}
use Rattle.crn_chunks.specs.declared.Planes.{Planes}
use Rattle.crn_chunks.specs.declared.Carried.{Carried}
use Rattle.crn_chunks.specs.declared.Stream.{Stream}
use Rattle.crn_chunks.specs.declared.Stop.{Stop}
use Rattle.crn_chunks.proofs.Tiling.{kept-tiles}

-- ---- over any source

module _ {S : Type 0} (src : Source S) (ls : List ℕ) (ps : List Plane) (inside : List Bool) (r : Running) (w : S) where
  chunk_lost : {x : ℕ} {v : S} → run src (encoding ls r.pending) w ≡ refused x v → run src (chunk ls ps inside r) w ≡ refused x v
  unfolding chunk
  chunk_lost e = stop src _ _ w e

  module _ {e n : ℕ} {pending : List ℕ} {v : S} (a : run src (encoding ls r.pending) w ≡ got (e, pending) v)
      (m : n ≡ get_or tile_counts e 0) where
    chunk-tiles_lost : {x : ℕ} {u : S} → run src (plane_endpoints ps n r.endpoint) v ≡ refused x u → run src (chunk ls ps inside r) w ≡
        refused x u
    unfolding chunk
    chunk-tiles_lost b = go_on src _ _ w a ∙ stop src _ _ v (rw m at b)

    module _ {ts : List (List ℕ)} {u : S} (b : run src (plane_endpoints ps n r.endpoint) v ≡ got ts u) where
      chunk_picks_lost : {x : ℕ} {t : S} → run src (position_selectors ps inside r.selector []) u ≡ refused x t → run src
          (chunk ls ps inside r) w ≡ refused x t
      unfolding chunk
      chunk_picks_lost d = go_on src _ _ w a ∙ go_on src _ _ v (rw m at b) ∙ stop src _ _ u d

      chunk_read : {rows : List (List ℕ)} {t : S} → run src (position_selectors ps inside r.selector []) u ≡ got rows t
          → run src (chunk ls ps inside r) w
          ≡ got (
            record { encoding = e; tiles = ts; positions = rows },
            record { pending = pending; endpoint = lasts r.endpoint ts; selector = last_row r.selector rows },
          ) t
      unfolding chunk
      chunk_read {t = t} d = go_on src _ _ w a ∙ go_on src _ _ v (rw m at b) ∙ go_on src _ _ u d ∙ answered src _ t

-- ---- the answers

-- a refusal is no chunk
refused-on : {P : Type 0} {y : Stop} {e : ℕ} {n : Carried} {t : Stream} → ◌≡◌ {A = Answer} (Err y) (Ok (e, n, t)) → P
refused-on f = absurd cc

read-on : {seg : List ℕ} {e d : ℕ} {n m : Carried} {t u : Stream} → Onward seg n t × (e < 8)
    → ◌≡◌ {A = Answer} (Ok (e, n, t)) (Ok (d, m, u)) → Onward seg m u × (d < 8)
read-on {seg} h f = subst (λ (a : Answer). IfOk a (λ (e, n, t). Onward seg n t × (e < 8))) f h

module _ {lookup sorted seg : List ℕ} (ps : Planes) (right bottom : Bool) (r : Carried) {s : Stream} where
  pub reads_uncoded : {out : List ℕ} {y : Stop} → Encodes lookup sorted seg ps r.pending s (Err y)
      → Reads lookup sorted seg ps right bottom r s out (Err y)
  unfolding chunked running_of
  reads_uncoded x =
      record {
        same = λ cs c. sym (chunk_lost (source seg) (cs 0) (planes cs ps) (inside_of right bottom) (running_of ps.two r) (spending s)
            (sym (x.same cs c)));
        on = λ e n t z. refused-on z;
      }

  module _ {e v : ℕ} {t : Stream} (x : Encodes lookup sorted seg ps r.pending s (Ok (e, v, t))) {n : ℕ} (m : n ≡ get_or tile_counts e 0)
      {mid : List ℕ} where
    pub reads_untiled : {out : List ℕ} {z : Stop} → AllTiled lookup sorted seg ps n r.e0 r.e1 t mid (Err z)
        → Reads lookup sorted seg ps right bottom r s out (Err z)
    unfolding chunked running_of
    reads_untiled y =
        record {
          same = λ cs c.
              sym (chunk-tiles_lost (source seg) (cs 0) (planes cs ps) (inside_of right bottom) (running_of ps.two r) (spending s)
              (sym (x.same cs c)) m (sym (y.same cs c)));
          on = λ e n t z. refused-on z;
        }

    module _ {e0 e1 : ℕ} {u : Stream} (y : AllTiled lookup sorted seg ps n r.e0 r.e1 t mid (Ok (e0, e1, u))) {out : List ℕ} where
      pub reads_unpicked : {k : Stop} → AllPicked lookup sorted seg ps (inside_of right bottom) r.s0 r.s1 u mid out (Err k)
          → Reads lookup sorted seg ps right bottom r s out (Err k)
      unfolding chunked running_of
      reads_unpicked z =
          record {
            same = λ cs c.
                sym (chunk_picks_lost (source seg) (cs 0) (planes cs ps) (inside_of right bottom) (running_of ps.two r) (spending s)
                (sym (x.same cs c)) m (sym (y.same cs c)) (sym (z.same cs c)));
            on = λ e n t q. refused-on q;
          }

      pub reads-chunk : {s0 s1 : ℕ} {k : Stream}
          → AllPicked lookup sorted seg ps (inside_of right bottom) r.s0 r.s1 u mid out (Ok (s0, s1, k)) → n ≤ 4 → length out ≡ length mid
          → Reads lookup sorted seg ps right bottom r s out (Ok (e, (record { pending = v; e0 = e0; e1 = e1; s0 = s0; s1 = s1 }), k))
      unfolding chunked running_of chunk_of rows_to
      reads-chunk {s0} {s1} {k} z l o =
          let j = z.on in
          let p = y.on in
          let q : tile_rows ps.two n out ≡ tile_rows ps.two n mid = rw
          (kept-tiles 8 0 n mid out (omega arith) o z.kept, kept-tiles 8 4 n mid out (omega arith) o z.kept) in
          record {
            same = λ cs c.
                sym (chunk_read (source seg) (cs 0) (planes cs ps) (inside_of right bottom) (running_of ps.two r) (spending s)
                (sym (x.same cs c)) m (sym (y.same cs c)) (sym (z.same cs c))
                ∙ rw (p.1.1.1, j.1.1.1, ← q, m));
            on = λ e n t w. read-on (record { holds = j.0; ends = (p.1.0, p.1.1.0); first = j.1.0; second = j.1.1.0 }, x.on.1) w;
          }

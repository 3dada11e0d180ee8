-- Going over chunks, one part after another.
use Prim.Native.Nat.{ℕ, ◌+◌, ◌*◌, ◌-◌, ◌/◌, ◌%◌, ◌≤◌, ◌<◌}
use Rattle.std.specs.Prelude.{Ok, Err, IsErrAnd}
use mathlib.Core.Path.{◌≡◌, refl, sym, ap, ◌∙◌, subst}
use mathlib.Core.Logic.{⊎_elim}
use mathlib.Core.Bool.{Bool, true, false}
use mathlib.Core.List.{List}
use native.Mathlib.Omega.{arith}
use borrow.Author.Tests.{eq-eqb, ne_eqb}
use lib.ListN.{get_or}
use lib.Dec.{eqb, ltb}
use Rattle.crn_format.specs.Choice.{pick}
use Rattle.crn_format.specs.Grid.{chunk_columns, chunk_rows}
use Rattle.crn_format.specs.declared.Grid.{Grid}
use Rattle.crn_symbol_codec.specs.Cursors.{Holds}
use Rattle.crn_chunks.specs.Meaning.{stopped, chunk_of, Onward}
use Rattle.crn_chunks.specs.Reads.{Reads, Answer, chunked}
use Rattle.crn_format.proofs.Results.{passed}
use Rattle.crn_chunks.specs.declared.Carried.{Carried}
use Rattle.crn_chunks.specs.declared.Stream.{Stream}
use Rattle.crn_chunks.specs.declared.Stop.{Stop}
use Rattle.crn_blocks.specs.Sheet.{Room, Painted, Covered, row_start, chunk_number}
use Rattle.crn_blocks.proofs.Paint as paint
use Rattle.crn_blocks.proofs.Paint.{painted_outside, outside_then, outside_start}
use Rattle.crn_blocks.proofs.Turns.{parity}
use Rattle.crn_blocks.proofs.Rows.{chunk-number-right, chunk-number-left, inside_of, row_later, face-next, face_later}
use Rattle.crn_unpacker.specs.Going.{Went, Given, Fit, Course, Stands, Gone, Halted, Moved, Goes, none, state_at, chunk_here, block_here}
use Rattle.crn_chunk_blocks.specs.Blocks.{block_in}
use Rattle.crn_chunk_blocks.proofs.Ranges.{read_so}
use Rattle.crn_unpacker.proofs.States.{state-got, state_lost, chunk-got, stays}

-- ---- the answers

-- they are the same part by part
on_is : {r q : Carried} {s t : Stream} → ◌≡◌ {A = Went} (Ok (r, s)) (Ok (q, t)) → (r ≡ q) × (s ≡ t)
on_is {r} {q} {s} {t} is =
    let same : ◌≡◌ {A = Carried × Stream} (r, s) (q, t) = cc in
    (ap (λ (x : Carried × Stream). x.0) same, ap (λ (x : Carried × Stream). x.1) same)

module _ {l : Given} {h : Course} {a b : ℕ} {d e : List ℕ} where
  moved_on : {r : Carried} {s : Stream} → Gone l h a b d e r s → Moved l h a b d e (Ok (r, s))
  moved_on {r} {s} gone =
      record {
        on = λ q t is.
            let same = on_is is in
            subst (λ (x : Carried). Gone l h a b d e x t) same.0 (subst (λ (x : Stream). Gone l h a b d e r x) same.1 gone);
        stop = λ x is. absurd (cc);
      }

  moved_off : {x : Stop} → Halted l h b d e x → Moved l h a b d e (Err x)
  moved_off {x} halted =
      record {
        on = λ q t is. absurd (cc);
        stop = λ y is. let same : x ≡ y = cc in subst (λ (z : Stop). Halted l h b d e z) same halted;
      }

onward-on : {seg : List ℕ} {r q : Carried} {s t : Stream} → Onward seg r s → ◌≡◌ {A = Went} (Ok (r, s)) (Ok (q, t)) → Onward seg q t
onward-on {seg} {r} {q} {s} {t} on is =
    let same = on_is is in
    subst (λ (x : Carried). Onward seg x t) same.0 (subst (λ (x : Stream). Onward seg r x) same.1 on)

module _ {l : Given} where
  -- before the first chunk
  pub start : {a b : ℕ} {r : Carried} {s : Stream} {d : List ℕ} → b ≡ a → Onward l.seg r s → Goes l a b r s d d (Ok (r, s))
  start {a} {b} {r} {s} {d} is on =
      subst (λ (k : ℕ). Goes l a k r s d d (Ok (r, s))) (sym is)
      (record {
        long = refl;
        onward = λ q t e. onward-on on e;
        moved = λ h st. moved_on (record { state = st.state; paint = paint.start });
      })

  -- on from where it went to
  pub carry : {n a b c : ℕ} {r q : Carried} {s t : Stream} {d e f : List ℕ} {w : Went} → Room l.grid n → a ≤ b → b ≤ c
      → Goes l a b r s d e (Ok (q, t)) → Goes l b c q t e f w → Goes l a c r s d f w
  carry {n} {a} {b} {c} {r} {q} {s} {t} {d} {e} {f} {w} room ab bc first second =
      record {
        long = second.long ∙ first.long;
        onward = second.onward;
        moved = λ h st.
            let m = (first.moved h st).on q t refl in
            let k = second.moved h (record { coded = st.coded; state = m.state }) in
            record {
              on = λ q₁ t₁ is.
                  let x = k.on q₁ t₁ is in
                  record { state = x.state; paint = paint.then room (omega arith) (omega arith) m.paint x.paint };
              stop = λ x is.
                  let y = k.stop x is in
                  record { why = y.why; rest = outside_then (painted_outside m.paint) y.rest };
            };
      }

  -- on from row y of a face
  pub carry_rows : (f : ℕ) {n x y z : ℕ} {r q : Carried} {s t : Stream} {d e e' : List ℕ} {w : Went} → Room l.grid n → x ≤ y → y ≤ z
      → Goes l (row_start l.grid f x) (row_start l.grid f y) r s d e (Ok (q, t))
      → Goes l (row_start l.grid f y) (row_start l.grid f z) q t e e' w
      → Goes l (row_start l.grid f x) (row_start l.grid f z) r s d e' w
  carry_rows f room xy yz = carry room (row_later l.grid f xy) (row_later l.grid f yz)

  -- what was refused is refused for good, and so `?` hands it on
  pub stop-early : {a b c : ℕ} {r : Carried} {s : Stream} {d e : List ℕ} {w v : Went} {x : Stop} → b ≤ c → w ≡ Err x
      → IsErrAnd v (λ y. y ≡ x) → Goes l a b r s d e w → Goes l a c r s d e v
  stop-early {a} {b} {c} {r} {s} {d} {e} {w} {v} {x} bc is on goes =
      rw (passed on)
      (record {
        long = goes.long;
        onward = λ q t is'. absurd (cc);
        moved = λ h st.
            let m = (goes.moved h st).stop x is in
            moved_off (record { why = stays _ _ _ _ _ _ b c bc m.why; rest = m.rest });
      })

  -- the same chunks, said otherwise
  pub respell : {a a' b b' : ℕ} {r : Carried} {s : Stream} {d e : List ℕ} {v w : Went} → a ≡ a' → b ≡ b' → v ≡ w → Goes l a b r s d e v
      → Goes l a' b' r s d e w
  respell {a} {a'} {b} {b'} {r} {s} {d} {e} {v} {w} ea eb ew goes =
      subst (λ (k : ℕ). Goes l k b' r s d e w) ea
      (subst (λ (k : ℕ). Goes l a k r s d e w) eb (subst (λ (x : Went). Goes l a b r s d e x) ew goes))

-- it can be gone over into as many bytes
pub fit_kept : {l : Given} {m n : ℕ} → Fit l m → n ≡ m → Fit l n
fit_kept {l} {m} {n} fit is = rw is fit

-- the first chunk can be read
pub onward-first : {seg : List ℕ} (s : Stream) → Holds seg s.cursor → Onward seg none s
onward-first s holds =
    record { holds = holds; ends = (omega arith, omega arith); first = omega arith; second = omega arith }

-- ---- a chunk

-- a painting goes by the values of the turns that it paints
revalued : {g : Grid} {value other : ℕ → List ℕ} {a b : ℕ} {d e : List ℕ} → ((t : ℕ) → a ≤ t → t < b → value t ≡ other t)
    → Painted g value a b d e → Painted g other a b d e
revalued same p =
    record {
      long = p.long;
      drawn = λ f x y i at h lo hi. p.drawn f x y i at h lo hi ∙ ap (λ (bs : List ℕ). get_or bs i 0) (same _ lo hi);
      kept = p.kept;
    }

same_block : (l : Given) (h : Course) (e : ℕ) (out : List ℕ) (n t : ℕ) → t / 4 ≡ n → chunk_here l h n ≡ chunk_of l.planes.two e out
    → block_in l.palettes l.planes e out t ≡ block_here l h t
unfolding block_in block_here
same_block l h e out n t is here = rw (is, here)

module _ (l : Given) (f cx cy : ℕ) {r : Carried} {s : Stream} {out : List ℕ} {a : Answer} (at : Covered l.grid f cx cy)
    (reads : Reads l.lookup l.sorted l.seg l.planes (ltb (2 * cx + 1) l.grid.columns) (ltb (2 * cy + 1) l.grid.rows) r s out a) where
  abbrev number : ℕ
  number = chunk_number l.grid f cx cy

  -- read, and its blocks painted
  pub chunk-goes : {e : ℕ} {n : Carried} {t : Stream} {d d' : List ℕ} → a ≡ Ok (e, n, t)
      → Painted l.grid (block_in l.palettes l.planes e out) (4 * number) (4 * number + 4) d d'
      → Goes l number (number + 1) r s d d' (Ok (n, t))
  chunk-goes {e} {n} {t} {d} {d'} is painted =
      record {
        long = painted.long;
        onward = λ q u same. onward-on (reads.on e n t is).0 same;
        moved = λ h st. moved_on (gone h st);
      }
    where
      value : (h : Course) → Stands l h number r s → (u : ℕ) → 4 * number ≤ u → u < 4 * number + 4
          → block_in l.palettes l.planes e out u ≡ block_here l h u
      value h st u lo hi =
          let here-now : u / 4 ≡ number = omega arith in
          let here : chunk_here l h number ≡ chunk_of l.planes.two e out = chunk-got _ _ _ _ _ _ number _ st.state
          (sym (inside_of l.grid f cx cy at)) (read_so reads is h.codes st.coded) in
          same_block l h e out number u here-now here

      gone : (h : Course) → Stands l h number r s → Gone l h number (number + 1) d d' n t
      gone h st =
          record {
            state = state-got _ _ _ _ _ _ number _ st.state (sym (inside_of l.grid f cx cy at)) (read_so reads is h.codes st.coded);
            paint = paint.until (omega arith) (revalued (value h st) painted);
          }

  -- refused
  pub chunk-stops : {x : Stop} {d : List ℕ} → a ≡ Err x → Goes l number (number + 1) r s d d (Err x)
  chunk-stops {x} {d} is =
      record {
        long = refl;
        onward = λ q t same. absurd (cc);
        moved = λ h st. moved_off (record { why = why h st; rest = outside_start });
      }
    where
      why : (h : Course) → Stands l h number r s → state_at l h (number + 1) ≡ stopped x
      why h st =
          state_lost _ _ _ _ _ _ number _ st.state (sym (inside_of l.grid f cx cy at))
          (sym (reads.same h.codes st.coded) ∙ ap (chunked l.planes.two out) is ∙ (unfold chunked in refl))

-- ---- a row

-- chunk k of a row, by its direction
pub chunk-number : (g : Grid) (f k cy cx : ℕ) (turned : Bool) → turned ≡ eqb (cy % 2) 1 → k < chunk_columns g
    → cx ≡ pick turned (chunk_columns g - 1 - k) k → chunk_number g f cx cy ≡ row_start g f cy + k
chunk-number g f k cy cx turned is h at =
    ⊎_elim
    (λ even. ap (λ (x : ℕ). chunk_number g f x cy) (at ∙ ap (λ (b : Bool). pick b (chunk_columns g - 1 - k) k)
    (is ∙ ne_eqb (cy % 2) 1 (λ z. omega arith))) ∙ chunk-number-right g f k cy even)
    (λ odd. ap (λ (x : ℕ). chunk_number g f x cy) (at ∙ ap (λ (b : Bool). pick b (chunk_columns g - 1 - k) k) (is ∙ eq-eqb (cy % 2) 1 odd))
    ∙ chunk-number-left g f k cy odd h)
    (parity cy)

-- it is one of the row's
pub column-below : (m k cx : ℕ) (turned : Bool) → k < m → cx ≡ pick turned (m - 1 - k) k → cx < m
column-below m k cx true h at = omega arith
column-below m k cx false h at = omega arith

-- one chunk more of it
pub carry_chunk : {l : Given} (f k cy cx : ℕ) (turned : Bool) {n : ℕ} {r q : Carried} {s t : Stream} {d e e' : List ℕ} {w : Went} → Room
    l.grid n
    → turned ≡ eqb (cy % 2) 1 → k < chunk_columns l.grid → cx ≡ pick turned (chunk_columns l.grid - 1 - k) k
    → Goes l (row_start l.grid f cy) (row_start l.grid f cy + k) r s d e (Ok (q, t))
    → Goes l (chunk_number l.grid f cx cy) (chunk_number l.grid f cx cy + 1) q t e e' w
    → Goes l (row_start l.grid f cy) (row_start l.grid f cy + (k + 1)) r s d e' w
carry_chunk {l} f k cy cx turned room is h at before here =
    let same = chunk-number l.grid f k cy cx turned is h at in
    carry room (omega arith) (omega arith) before (respell same (omega (arith, same)) refl here)

-- one face more
pub carry_face : {l : Given} (f : ℕ) {n : ℕ} {r q : Carried} {s t : Stream} {d e e' : List ℕ} {w : Went} → Room l.grid n
    → Goes l 0 (row_start l.grid f 0) r s d e (Ok (q, t))
    → Goes l (row_start l.grid f 0) (row_start l.grid f (chunk_rows l.grid)) q t e e' w
    → Goes l 0 (row_start l.grid (f + 1) 0) r s d e' w
carry_face {l} f room before here =
    carry room (omega arith) (face_later l.grid (omega arith)) before (respell refl (face-next l.grid f) refl here)

-- A symbol and an index by the quick way are what the slow way draws.
use Rattle.std.specs.Prelude.{Ok}
use Prim.Native.Nat.{ℕ, ◌+◌, ◌-◌, ◌/◌, ◌%◌, ◌≤◌, ◌<◌}
use mathlib.Core.Bool.{Bool}
use mathlib.Core.List.{List}
use mathlib.Core.Path.{◌≡◌, refl, sym, ap, ◌∙◌}
use native.Mathlib.Omega.{arith}
use Rattle.crn_format.specs.Limits.{max_entries, chunk_symbols}
use Rattle.crn_format.specs.Reading.{symbol, got, spot, run}
use Rattle.crn_format.specs.Level.{limited}
use Rattle.crn_symbol_codec.specs.Cursors.{place, past, Holds}
use Rattle.crn_symbol_codec.specs.Decoders.{Usable, Decodes, found_in}
use Rattle.crn_symbol_codec.specs.declared.Cursor.{Cursor}
use Rattle.crn_symbol_codec.proofs.Drawing.{found-length, found-drawn}
use Rattle.crn_symbol_codec.proofs.Holding.{place-past, after-drop}
use Rattle.crn_symbol_codec.proofs.Taking.{takes-symbol}
use Rattle.crn_chunks.specs.Meaning.{source, spending, lookup_of, sorted_of, Coded, Served}
use Rattle.crn_chunks.specs.Parts.{farthest, Encodes}
use Rattle.crn_chunks.specs.declared.Planes.{Planes}
use Rattle.crn_chunks.specs.declared.Stream.{Stream}
use Rattle.crn_chunks.proofs.Drawing.{symbol-drawn}
use Rattle.crn_chunks.proofs.Indexing.{index-near, reach_near}
use Rattle.crn_chunks.proofs.Encoding.{code_got}
use Rattle.crn_quick.specs.Quick.{stream_at, Found, Stepped}

-- ---- a symbol, and an index

-- lk and so are the decoder table of number `which`, e is what the cursor's bits begin with
module _ {lookup sorted seg lk so : List ℕ} {ps : Planes} {which : ℕ} (served : Served ps lookup sorted) (there : which < ps.tables)
    (l : lk ≡ lookup_of ps lookup which) (o : so ≡ sorted_of ps sorted which) {c : Cursor} (h : Holds seg c) (enough : 16 ≤ c.have)
    {e : ℕ} (is : e ≡ found_in lk so c.bits) (some : e ≡ 0 → ⊥) where
  decodes : (cs : ℕ → List ℕ) → Coded cs ps lookup sorted → Decodes (cs which) lk so
  decodes cs k = rw (l, o) (k which there)

  u : Usable lk so
  u = (decodes served.codes served.coded).usable

  pub code-short : e % 64 ≤ 16
  code-short = found-length h (λ few. absurd (omega arith)) u e is some

  pub code-passed : place (past c (e % 64)) ≡ place c + e % 64
  code-passed = place-past h (omega (arith, code-short))

  pub code_holds : Holds seg (past c (e % 64))
  code_holds = after-drop h (omega (arith, code-short))

  drawn : (b l m : ℕ) → l ≡ m + 1 → (cs : ℕ → List ℕ) → Coded cs ps lookup sorted
      → run (source seg) (symbol (cs which)) (spending (stream_at c b l)) ≡ got (e / 64)
      (spending (stream_at (past c (e % 64)) (place c) m))
  drawn b l m f cs k =
      let r = found-drawn h (λ few. absurd (omega arith)) u e is some (omega (arith, code-short)) in
      let q : l - 1 ≡ m = omega arith in
      rw q at (symbol-drawn (stream_at c b l) {at = place c} (takes-symbol r (decodes cs k)) (λ z. omega arith) refl)

  pub found : e / 64 < farthest → Found lookup sorted seg ps which c (past c (e % 64)) (e / 64) (e % 64)
  found n = record { drawn = λ b l m f. record { same = λ cs k. sym (drawn b l m f cs k); on = (code_holds, n) }; passed = code-passed }

module _ {lookup sorted seg : List ℕ} {ps : Planes} {which : ℕ} {c d : Cursor} {v len : ℕ}
    (x : Found lookup sorted seg ps which c d v len) where
  pub found-small : v < farthest
  found-small = (x.drawn 0 1 0 refl).on.1

  -- an index that is in range is answered wherever its position lies
  pub found-index : (size i : ℕ) {j : ℕ} → j ≡ limited size (i + v) → size ≤ max_entries → j < size → (inside : Bool)
      → Stepped lookup sorted seg ps which size inside i c d j len
  found-index size i q n a inside =
      record {
        drawn = λ b l m f.
            let y = x.drawn b l m f in
            record {
              same = λ cs k. sym (index-near (source seg) (cs which) size inside i (spending (stream_at c b l)) (sym (y.same cs k)) q a);
              on = (y.on.0, reach_near inside i a (omega arith));
            };
        passed = x.passed;
      }

-- a chunk symbol u in range gives an encoding; c is the stream's cursor, filled
pub found-code : {lookup sorted seg : List ℕ} {ps : Planes} {s : Stream} {c d : Cursor} {u len : ℕ} → Found lookup sorted seg ps 0 c d u len
    → place c ≡ place s.cursor → (v : ℕ) → v < 8 → u < chunk_symbols → 0 < s.left → {b : ℕ} → b ≡ place c
    → Encodes lookup sorted seg ps v s (Ok (u % 8, 64 + u / 8 % 64, stream_at d b (s.left - 1)))
found-code {seg = seg} {s = s} x at v none few some {b} q =
    let r = x.drawn s.blamed s.left (s.left - 1) (omega arith) in
    rw q (record {
      same = λ cs k. sym (code_got (source seg) (cs 0) (spending s) v none
          (ap (λ (z : ℕ). run (source seg) (symbol (cs 0)) (record { place = spot z s.blamed; left = s.left })) (sym at) ∙ sym
          (r.same cs k)) few);
      on = (r.on.0, omega arith);
    })

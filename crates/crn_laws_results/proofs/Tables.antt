-- Code tables: what is received is fixed but for the bits that the next cursor has at hand, and every draw from a table that was built is.
use Prim.Native.Nat.{ℕ, ◌<◌}
use mathlib.Core.Path.{◌≡◌, refl, sym, ap, ◌∙◌}
use mathlib.Core.List.{List}
use Rattle.std.specs.Prelude.{Ok, Err}
use Rattle.crn_format.specs.Reading.{Place}
use Rattle.crn_format.specs.Opening.{table_of}
use Rattle.crn_format.specs.Unpacking.{lengths_of}
use Rattle.crn_symbol_codec.specs.Cursors.{place}
use Rattle.crn_symbol_codec.specs.Decoders.{Decodes}
use Rattle.crn_symbol_codec.specs.Telling.{told}
use Rattle.crn_symbol_codec.specs.declared.Cursor.{Cursor}
use Rattle.crn_symbol_codec.specs.declared.Decoder.{Decoder}
use Rattle.crn_code_tables.specs.Receiving.{Received, held_by, Receives}
use Rattle.crn_code_tables.proofs.receive.Reads as receive
use Rattle.crn_static_huffman_data_model.proofs.build.Reads as build
use Rattle.crn_palettes.proofs.build_decoder.Reads as build-decoder
use Rattle.crn_chunks.specs.Meaning.{part}
use Rattle.crn_chunks.proofs.Supply.decoder.Reads as decoder
use Rattle.crn_decoders.specs.Tables.{tables_in}
use Rattle.crn_decoders.proofs.make_tables.Reads as make-tables
use Rattle.crn_laws_results.specs.Settled.{Settled, alike, alike₂}
use Rattle.crn_laws_results.specs.Seen.{received_seen}
use Rattle.crn_laws_results.specs.Draws.{SameDraws, DrawsSettled}
use Rattle.crn_laws_results.proofs.Steps.{got_tells, refused_tells, got_or_refused}
use Rattle.crn_laws_results.proofs.Cursors.{takes-settled}

module _ {seg : List ℕ} {c : Cursor} {d e : List ℕ} where
  steps : {r s : Received} (p : Receives seg c r d) (q : Receives seg c s e)
      → told (λ _. lengths_of (held_by r d)) p.blamed r ≡ told (λ _. lengths_of (held_by s e)) q.blamed s
  steps p q = sym (p.same 0) ∙ q.same 0

  receives_settled : (r s : Received) → Receives seg c r d → Receives seg c s e → received_seen r d ≡ received_seen s e
  receives_settled (Ok (n, x)) (Ok (m, y)) p q =
      let both = got_tells (steps p q) in
      let at : place x ≡ place y = ap (λ (w : Place). w.at) both.1 in
      let table : held_by (Ok (n, x)) d ≡ held_by (Ok (m, y)) e = p.whole ∙ ap table_of both.0 ∙ sym q.whole in
      λ i. record { refusal = 0; at = at i; table = table i }
  receives_settled (Ok (n, x)) (Err f) p q = absurd (got_or_refused (steps p q))
  receives_settled (Err f) (Ok (m, y)) p q = absurd (got_or_refused (sym (steps p q)))
  receives_settled (Err f) (Err g) p q =
      let both = refused_tells (steps p q) in
      λ i. record { refusal = both.0 i; at = (both.1 i).at; table = alike (p.none f refl) (q.none g refl) i }

pub receive-settled : Settled receive.Post (λ a r (seg, (c, (lengths, _))). received_seen r lengths.now)
receive-settled _ _ _ r s _ _ p q = receives_settled r s p q

-- ---- decoder tables, made twice of the same lengths: whatever a draw from the one gives, a draw from the other gives

decodes-settled : {ls l₁ s₁ l₂ s₂ : List ℕ} → Decodes ls l₁ s₁ → Decodes ls l₂ s₂ → (x y : Decoder)
    → x.lookup.now ≡ l₁ → x.sorted.now ≡ s₁ → y.lookup.now ≡ l₂ → y.sorted.now ≡ s₂ → SameDraws x y
decodes-settled {ls} p q x y a b c d =
    let one : Decodes ls x.lookup.now x.sorted.now = rw (a, b) p in
    let other : Decodes ls y.lookup.now y.sorted.now = rw (c, d) q in
    ((λ _ _ _ _ _ _ _ _ u v. takes-settled (u ls one) (v ls other)), (λ _ _ _ _ _ _ _ _ u v. takes-settled (u ls one) (v ls other)))

pub build-settled : DrawsSettled build.Post (λ a. Unit {0}) (λ a (_, (_, (lookup, (sorted, _)))). (lookup.now, sorted.now))
build-settled _ _ _ _ _ _ p q = decodes-settled p q

pub build_decoder-settled : DrawsSettled build-decoder.Post (λ a. Unit {0})
    (λ a (_, (_, (_, (lookup, (sorted, _))))). (lookup.now, sorted.now))
build_decoder-settled _ _ _ _ _ _ p q = decodes-settled p q

-- a level's tables: the same of table number k
module _ (k : ℕ) where
  pub make-tables-settled : DrawsSettled make-tables.Post (λ (color, (alpha, _)). k < tables_in color alpha)
      (λ (_, (_, (_, (z, _)))) (_, (_, (_, (_, (lookup, (sorted, _)))))).
      (part z.lookup_step lookup.now k, part z.sorted_step sorted.now k))
  make-tables-settled _ _ _ _ _ there p q = decodes-settled (p.each k there) (q.each k there)

-- the decoder table of a number: what both of its slices hold
pub decoder-settled : Settled {X = List ℕ × List ℕ} decoder.Post (λ a r e. (r.lookup.now, r.sorted.now))
decoder-settled _ _ _ _ _ _ _ p q = alike₂ p.0 q.0 p.1 q.1

-- The entry for C and Rust.
use Prim.Native.Nat.{ℕ}
use mathlib.Core.Bool.{Bool, true, false}
use mathlib.Core.Path.{◌≡◌, refl, sym, ap, ◌∙◌}
use mathlib.Core.List.{List}
use Rattle.crn_format.specs.Opening.{Palettes, Lengths}
use Rattle.crn_format.specs.Loading.{agrees}
use Rattle.crn_format.specs.declared.Header.{Header}
use Rattle.crn_formats.specs.Lent.{lent_of}
use Rattle.crn_opening.specs.Opens.{Opened}
use Rattle.crn_drawing.specs.Unpacks.{Drawn}
use Rattle.crn_levels.specs.declared.Several.{Several}
use Rattle.crunch_abi.specs.declared.level.Answer.{Answer}
use Rattle.crunch_abi.specs.declared.loading.OpenedHeader.{OpenedHeader}
use Rattle.crunch_abi.specs.Answers.{answer_of}
use Rattle.crunch_abi.specs.Opening.{opened_by, Loads}
use Rattle.crunch_abi.proofs.crunch_look.Reads as crunch-look
use Rattle.crunch_abi.proofs.crunch_look_at.Reads as crunch-look-at
use Rattle.crunch_abi.proofs.crunch_load_parts.Reads as crunch-load-parts
use Rattle.crunch_abi.proofs.crunch_open_parts.Reads as crunch-open-parts
use Rattle.crunch_abi.proofs.crunch_palette_words.Reads as crunch-palette-words
use Rattle.crunch_abi.proofs.crunch_level_sizes.Reads as crunch-level-sizes
use Rattle.crunch_abi.proofs.crunch_unpack_level_parts.Reads as crunch-unpack-level-parts
use Rattle.crunch_abi.proofs.crunch_unpack_levels_parts.Reads as crunch-unpack-levels-parts
use Rattle.crunch_abi.proofs.crunch_abi_version.Reads as crunch-abi-version
use Rattle.crn_laws_results.specs.Settled.{Settled, the_answer, alike, alike₂}
use Rattle.crn_laws_results.proofs.Entry.{unpacks-settled, gives-settled}

pub crunch_look-settled : Settled crunch-look.Post the_answer
crunch_look-settled _ _ _ _ _ _ _ p q = alike p q

pub crunch_look_at-settled : Settled crunch-look-at.Post the_answer
crunch_look_at-settled _ _ _ _ _ _ _ p q = alike p q

pub crunch_palette_words-settled : Settled crunch-palette-words.Post the_answer
crunch_palette_words-settled _ _ _ _ _ _ _ p q = alike p q

pub crunch_level_sizes-settled : Settled crunch-level-sizes.Post the_answer
crunch_level_sizes-settled _ _ _ _ _ _ _ p q = alike p q

pub crunch_abi_version-settled : Settled crunch-abi-version.Post the_answer
crunch_abi_version-settled _ _ _ _ _ _ _ p q = alike p q

pub crunch_open_parts-settled : Settled {X = Opened × Palettes} crunch-open-parts.Post
    (λ a r (file, (ce, (cs, (ae, (al, (t₁, (t₂, (t₃, (t₄, (t₅, _)))))))))).
    (opened_by r t₁.now t₂.now t₃.now t₄.now t₅.now, lent_of ce.now cs.now ae.now al.now))
crunch_open_parts-settled _ _ _ _ _ _ _ p q = alike₂ p.answer q.answer p.leaves q.leaves

abbrev told_by : OpenedHeader → Lengths → Opened
told_by r t = opened_by r t.chunk t.color_ends t.color_sels t.alpha_ends t.alpha_sels

-- also where record and file disagree, and the arrays are as they had been
loads-settled : {h : Header} {file : List ℕ} {lent after₁ after₂ : Palettes} {had left₁ left₂ : Lengths} {r s : OpenedHeader}
    → Loads h file lent after₁ had left₁ r → Loads h file lent after₂ had left₂ s
    → ◌≡◌ {A = Opened × Palettes} (told_by r left₁, after₁) (told_by s left₂, after₂)
loads-settled {h} {file} {lent} {after₁} {after₂} {had} {left₁} {left₂} {r} {s} p q =
    λ i. (by (agrees h file) refl i, alike p.leaves q.leaves i)
  where
    by : (b : Bool) → agrees h file ≡ b → told_by r left₁ ≡ told_by s left₂
    by true e = alike (p.alike e) (q.alike e)
    by false e = rw ((p.apart e).0, (p.apart e).1, (q.apart e).0, (q.apart e).1)

pub crunch_load_parts-settled : Settled {X = Opened × Palettes} crunch-load-parts.Post
    (λ a r (header, (file, (ce, (cs, (ae, (al, (t₁, (t₂, (t₃, (t₄, (t₅, _))))))))))).
    (opened_by r t₁.now t₂.now t₃.now t₄.now t₅.now, lent_of ce.now cs.now ae.now al.now))
crunch_load_parts-settled _ _ _ _ _ _ _ p q = loads-settled p q

pub crunch_unpack_level_parts-settled : Settled {X = Answer × (ℕ × List ℕ)} crunch-unpack-level-parts.Post
    (λ a r (
      header,
      (
        counts,
        (
          t₁,
          (
            t₂,
            (
              t₃,
              (
                t₄,
                (
                  t₅,
                  (
                    bytes,
                    (
                      ce,
                      (cs, (ae, (al, (level, (pitch, (distance, (budget, (dst, _)))))))),
                    ),
                  ),
                ),
              ),
            ),
          ),
        ),
      ),
    ).
    (r, (budget.now, dst.now)))
crunch_unpack_level_parts-settled _ _ _ _ _ _ _ p q =
    let same = unpacks-settled p.unpacks q.unpacks in
    λ i. ((p.same ∙ ap (λ (x : Drawn × (ℕ × List ℕ)). answer_of x.0) same ∙ sym q.same) i, (same i).1)

pub crunch_unpack_levels_parts-settled : Settled {X = Several × (ℕ × List ℕ)} crunch-unpack-levels-parts.Post
    (λ a r (header, (counts, (t₁, (t₂, (t₃, (t₄, (t₅, (bytes, (ce, (cs, (ae, (al, (first, (budget, (dst, _))))))))))))))).
    (r, (budget.now, dst.now)))
crunch_unpack_levels_parts-settled _ _ _ _ _ _ _ p q = gives-settled p q

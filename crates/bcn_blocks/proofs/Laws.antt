-- The texels of each kind, from its tables and selectors. Assumes nothing.
use mathlib.Core.Path.{◌≡◌, refl, ap, ◌∙◌}
use mathlib.Core.Bool.{Bool, true, false≢true}
use mathlib.Core.Logic.{inl, inr}
use mathlib.Core.List.{List, [], ◌∷◌}
use Prim.Native.Nat.{ℕ, ◌+◌, ◌*◌, ◌≤◌, ◌<◌}
use native.Mathlib.Omega.{arith}
use lib.Dec.{ltb}
use Rattle.crn_format.specs.Grid.{little}
use Rattle.crn_format.specs.declared.Kind.TheVariants.{DXT1, DXT5, DXT5A, DXN}
use Rattle.crn_format.specs.Header.{kind_of, known}
use Rattle.crn_utils.specs.Little.{little_at}
use Rattle.crn_formats.proofs.ByFormat.{by_format}
use Rattle.bcn_format.specs.Channels.{byte}
use Rattle.bcn_format.specs.Blocks.{selector, red, green, blue, shade, first_word, second_word, color_selector, level_at, texel}
use Rattle.bcn_format.specs.Packed.{packed}
use Rattle.bcn_format.proofs.Near.{sound_small}
use Rattle.bcn_format.proofs.Sound.{shade_sound, cover_sound, level_sound}
use Rattle.bcn_format.proofs.Packed.{packed-bytes}
use Rattle.bcn_colors.specs.Colors.{Palette, covered, bare}
use Rattle.bcn_levels.specs.Levels.{Levels}
use Rattle.bcn_rows.specs.Rows.{texel_at, Filled, Addable, Added, chosen}
use Rattle.bcn_rows.specs.declared.Sixteen.{Sixteen}
use Rattle.bcn_blocks.specs.declared.halves.Half.{Half}
use Rattle.bcn_blocks.specs.Texels.{Texels, ColorsAt, LevelsAt}

-- ---- numbers of bytes

pub four-little : (b : List ℕ) (at : ℕ) → little_at b at 4 ≡ little_at b at 2 + 65536 * little_at b (at + 2) 2
unfolding little_at
four-little b at = let e : at + 1 + 1 ≡ at + 2 = omega arith in rw e (omega arith)

pub six-little : (b : List ℕ) (at : ℕ) → little_at b at 6 ≡ little_at b at 2 + 65536 * little_at b (at + 2) 2 + 4294967296 * little_at b
    (at + 4) 2
unfolding little_at
six-little b at =
    let e : at + 1 + 1 ≡ at + 2 = omega arith in
    let f : at + 2 + 1 + 1 ≡ at + 4 = omega arith in
    rw (e, f) (omega arith)

-- ---- what the tables and the selectors give

-- texel t's channels of colour
module _ (four : Bool) (bs : List ℕ) (at t : ℕ) where
  abbrev reds : ℕ
  reds = byte (shade four red (first_word bs at) (second_word bs at) (color_selector bs at t))

  abbrev greens : ℕ
  greens = byte (shade four green (first_word bs at) (second_word bs at) (color_selector bs at t))

  abbrev blues : ℕ
  blues = byte (shade four blue (first_word bs at) (second_word bs at) (color_selector bs at t))

  reds-small : reds < 256
  reds-small = sound_small (shade_sound four red _ _ _ (inl refl) (omega arith))

  greens-small : greens < 256
  greens-small = sound_small (shade_sound four green _ _ _ (inr (inl refl)) (omega arith))

  blues-small : blues < 256
  blues-small = sound_small (shade_sound four blue _ _ _ (inl refl) (omega arith))

  colors-there : (alpha : ℕ → ℕ) {half : Half} {table : List ℕ} {r : Sixteen} → ColorsAt bs at half
      → Palette four alpha half.first half.second table → Filled (chosen 2 table half.selectors) r → t < 16
      → texel_at r t ≡ packed reds greens blues (alpha (color_selector bs at t))
  colors-there alpha {half} {table} there palette f h =
      rw (f.each t h, there.selectors)
      (rw (there.selectors, there.first, there.second) at (palette.each (selector 2 half.selectors t) (omega arith)))

-- texel t's level, in its place
module _ (bs : List ℕ) (at t : ℕ) {half : Half} (there : LevelsAt bs at half) where
  level-small : byte (level_at bs at t) < 256
  unfolding level_at
  level-small =
      sound_small (level_sound _ _ _ (rw there.first at there.first_small) (rw there.second at there.second-small)
      (omega arith))

  levels-there : {scale more : ℕ} {table : List ℕ} {r : Sixteen} → Levels half.first half.second scale more table
      → Filled (chosen 3 table half.selectors) r → t < 16 → texel_at r t ≡ byte (level_at bs at t) * scale + more
  unfolding level_at
  levels-there levels f h =
      rw (f.each t h, there.selectors)
      (rw (there.selectors, there.first, there.second) at (levels.each (selector 3 half.selectors t) (omega arith)))

-- ---- each kind

module _ (bs : List ℕ) (at : ℕ) {half : Half} {table : List ℕ} {r : Sixteen} (there : ColorsAt bs at half) where
  pub bc1_there : Palette (ltb half.second half.first) (covered (ltb half.second half.first)) half.first half.second table
      → Filled (chosen 2 table half.selectors) r → Texels bs DXT1 at r
  unfolding texel
  bc1_there palette f = record {
    each = λ t h. rw (there.first, there.second) at
        (by_order (ltb half.second half.first) palette t h);
  }
    where
      by_order : (four : Bool) → Palette four (covered four) half.first half.second table → (t : ℕ) → t < 16
          → little 4 (texel_at r t)
          ≡ reds four bs at t ∷ greens four bs at t ∷ blues four bs at t ∷ covered four (color_selector bs at t) ∷ []
      by_order four p t h =
          ap (little 4) (colors-there four bs at t (covered four) there p f h)
          ∙ packed-bytes _ _ _ _ (reds-small four bs at t) (greens-small four bs at t) (blues-small four bs at t)
          (sound_small (cover_sound four _))

module _ (bs : List ℕ) (at : ℕ) {color : Half} {level : Half} {colors alphas : List ℕ} {c l : Sixteen}
    (c-there : ColorsAt bs (at + 8) color) (l-there : LevelsAt bs at level)
    (palette : Palette true bare color.first color.second colors) (levels : Levels level.first level.second 16777216 0 alphas)
    (c-filled : Filled (chosen 2 colors color.selectors) c) (l-filled : Filled (chosen 3 alphas level.selectors) l) where
  bc3-sum : (t : ℕ) → t < 16
      → texel_at c t + texel_at l t ≡ packed (reds true bs (at + 8) t) (greens true bs (at + 8) t) (blues true bs (at + 8) t)
      (byte (level_at bs at t))
  bc3-sum t h =
      rw (colors-there true bs (at + 8) t bare c-there palette c-filled h, levels-there bs at t l-there levels l-filled h) (omega arith)

  pub bc3_addable : Addable c l
  bc3_addable =
      record {
        each = λ t h.
            rw (bc3-sum t h)
            (omega (
              arith,
              reds-small true bs (at + 8) t,
              greens-small true bs (at + 8) t,
              blues-small true bs
                  (at + 8) t,
              level-small bs at t l-there,
            ));
      }

  pub bc3-there : {r : Sixteen} → Added c l r → Texels bs DXT5 at r
  unfolding texel
  bc3-there sum =
      record {
        each = λ t h.
            ap (little 4) (sum.each t h ∙ bc3-sum t h)
            ∙ packed-bytes _ _ _ _ (reds-small true bs (at + 8) t) (greens-small true bs (at + 8) t) (blues-small true bs (at + 8) t)
            (level-small bs at t l-there);
      }

module _ (bs : List ℕ) (at : ℕ) {half : Half} {table : List ℕ} {r : Sixteen} (there : LevelsAt bs at half) where
  pub bc4_there : Levels half.first half.second 1 4278190080 table → Filled (chosen 3 table half.selectors) r
      → Texels bs DXT5A at r
  unfolding texel byte
  bc4_there levels f =
      record {
        each = λ t h.
            ap (little 4) (levels-there bs at t there levels f h ∙ in_place t)
            ∙ packed-bytes _ 0 0 255 (level-small bs at t there) (omega arith) (omega arith) (omega arith);
      }
    where
      in_place : (t : ℕ) → byte (level_at bs at t) * 1 + 4278190080 ≡ packed (byte (level_at bs at t)) 0 0 255
      in_place t = omega arith

module _ (bs : List ℕ) (at : ℕ) {red green : Half} {reds-of greens-of : List ℕ} {v w : Sixteen}
    (r-there : LevelsAt bs at red) (g-there : LevelsAt bs (at + 8) green)
    (r-levels : Levels red.first red.second 1 4278190080 reds-of) (g-levels : Levels green.first green.second 256 0 greens-of)
    (r-filled : Filled (chosen 3 reds-of red.selectors) v) (g-filled : Filled (chosen 3 greens-of green.selectors) w) where
  bc5_sum : (t : ℕ) → t < 16 → texel_at v t + texel_at w t ≡ packed (byte (level_at bs at t)) (byte (level_at bs (at + 8) t)) 0 255
  bc5_sum t h =
      rw (levels-there bs at t r-there r-levels r-filled h, levels-there bs (at + 8) t g-there g-levels g-filled h) (omega arith)

  pub bc5_addable : Addable v w
  bc5_addable =
      record { each = λ t h. rw (bc5_sum t h) (omega (arith, level-small bs at t r-there, level-small bs (at + 8) t g-there)) }

  pub bc5_there : {r : Sixteen} → Added v w r → Texels bs DXN at r
  unfolding texel byte
  bc5_there sum =
      record {
        each = λ t h.
            ap (little 4) (sum.each t h ∙ bc5_sum t h)
            ∙ packed-bytes _ _ 0 255 (level-small bs at t r-there) (level-small bs (at + 8) t g-there) (omega arith) (omega arith);
      }

-- ---- the kind of a format that is known

pub known_DXT1 : (f : ℕ) → known (kind_of f) ≡ true → f < 2 → kind_of f ≡ DXT1
known_DXT1 =
    by_format (λ f k. known k ≡ true → f < 2 → k ≡ DXT1) (λ _ _. refl) (λ e _. absurd (false≢true e)) (λ f low _ _ h. absurd (omega arith))
    (λ f low _ _ h. absurd (omega arith)) (λ _ h. absurd (omega arith)) (λ f _ e _. absurd (false≢true e))

pub known_DXT5A : (f : ℕ) → known (kind_of f) ≡ true → 9 ≤ f → kind_of f ≡ DXT5A
known_DXT5A =
    by_format (λ f k. known k ≡ true → 9 ≤ f → k ≡ DXT5A) (λ _ h. absurd (omega arith)) (λ e _. absurd (false≢true e))
    (λ f _ high _ h. absurd (omega arith)) (λ f _ high _ h. absurd (omega arith)) (λ _ _. refl) (λ f _ e _. absurd (false≢true e))

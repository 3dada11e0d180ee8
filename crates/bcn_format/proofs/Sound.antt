-- The channels of every texel have the widths, ends and places of the specification, so each byte is near its exact fraction.
-- Assumes nothing.
use mathlib.Core.Path.{◌≡◌, refl}
use mathlib.Core.Bool.{Bool, true, false}
use mathlib.Core.Logic.{inl, inr}
use mathlib.Core.List.{List, [], ◌∷◌}
use Prim.Native.Nat.{ℕ, zero, suc, ◌+◌, ◌%◌, ◌^◌, ◌≤◌, ◌<◌}
use native.Mathlib.Nat.{mod-lt}
use native.Mathlib.Omega.{arith}
use borrow.Author.Tests.{ltb-true}
use lib.Dec.{ltb, eqb}
use lib.Pow.{pow_pos}
use lib.ListN.{get_or}
use Rattle.crn_format.specs.Choice.{pick}
use Rattle.crn_format.specs.declared.Kind.{Kind}
use Rattle.crn_format.specs.declared.Kind.TheVariants.{DXT1, DXT5, DXT5A, DXN, Unknown}
use Rattle.bcn_format.specs.Channels.{Channel, none, exact, byte, placed, ramp, Near}
use Rattle.bcn_format.specs.Blocks.{Part, red, green, blue, part_of, shade, cover, level, level_at, texel}
use Rattle.bcn_format.specs.Picture.{Bytes}
use Rattle.bcn_format.proofs.Near.{Width, Sound, black, white, mixed, near}

-- a choice has what both ways have
picked : {X : Type 0} (P : X → Type 0) (c : Bool) {x y : X} → (c ≡ true → P x) → (c ≡ false → P y) → P (pick c x y)
picked P true first second = first refl
picked P false first second = second refl

-- ---- a ramp

placed_on : (top i : ℕ) → i ≤ top → placed top i ≤ top
unfolding placed
placed_on top i h =
    picked (λ p. p ≤ top) (eqb i 0) (λ _. omega arith) (λ _. picked (λ p. p ≤ top) (eqb i 1) (λ _. omega arith) (λ _. omega arith))

on-ramp : {bits top a b : ℕ} (i : ℕ) → Width bits → 0 < top → i ≤ top → a < 2 ^ bits → b < 2 ^ bits → Sound (ramp bits top a b i)
on-ramp {bits} {top} i w some h first second =
    mixed (record { width = w; parts = some; on = placed_on top i h; first = first; second = second })

-- ---- colours

pub part-width : (p : Part) (w : ℕ) → part_of p w < 2 ^ p.bits
part-width p w = mod-lt _ (pow_pos p.bits)

pub shade_sound : (four : Bool) (p : Part) (v w i : ℕ) → Width p.bits → i < 4 → Sound (shade four p v w i)
unfolding shade
shade_sound true p v w i width h = on-ramp i width (omega arith) (omega arith) (part-width p v) (part-width p w)
shade_sound false p v w i width h =
    picked Sound (ltb i 3) (λ e. on-ramp i width (omega arith) (omega (arith, ltb-true i 3 e)) (part-width p v) (part-width p w))
    (λ _. black)

pub cover_sound : (four : Bool) (i : ℕ) → Sound (cover four i)
unfolding cover
cover_sound true i = white
cover_sound false i = picked Sound (ltb i 3) (λ _. white) (λ _. black)

-- ---- levels

pub level_sound : (a b i : ℕ) → a < 256 → b < 256 → i < 8 → Sound (level a b i)
unfolding level
level_sound a b i ha hb h =
    picked Sound (ltb b a) (λ _. on-ramp i (inr (inr refl)) (omega arith) (omega arith) ha hb)
    (λ _. picked Sound (ltb i 6) (λ e. on-ramp i (inr (inr refl)) (omega arith) (omega (arith, ltb-true i 6 e)) ha hb)
    (λ _. picked Sound (eqb i 6) (λ _. black) (λ _. white)))

-- ---- texels

-- a list whose four entries are sound
each : {p q r s : Channel} → Sound p → Sound q → Sound r → Sound s → (k : ℕ) → Sound (get_or (p ∷ q ∷ r ∷ s ∷ []) k none)
each a b c d zero = a
each a b c d (suc zero) = b
each a b c d (suc (suc zero)) = c
each a b c d (suc (suc (suc zero))) = d
each a b c d (suc (suc (suc (suc k)))) = black

module _ (b : List ℕ) (bytes : Bytes b) (at t : ℕ) where
  level-at : (from : ℕ) → Sound (level_at b from t)
  unfolding level_at
  level-at from = level_sound _ _ _ (bytes from) (bytes (from + 1)) (omega arith)

  colored : (four : Bool) (v w s : ℕ) {q : Channel} → Sound q
      → (k : ℕ) → Sound (get_or (shade four red v w (s % 4) ∷ shade four green v w (s % 4) ∷ shade four blue v w (s % 4) ∷ q ∷ []) k none)
  colored four v w s last =
      each (shade_sound four red v w (s % 4) (inl refl) (omega arith)) (shade_sound four green v w (s % 4) (inr (inl refl)) (omega arith))
      (shade_sound four blue v w (s % 4) (inl refl) (omega arith)) last

  pub texel_sound : (kind : Kind) (k : ℕ) → Sound (get_or (texel b kind at t) k none)
  unfolding texel
  texel_sound DXT1 k = colored _ _ _ _ (cover_sound _ _) k
  texel_sound DXT5 k = colored true _ _ _ (level-at at) k
  texel_sound DXT5A k = each (level-at at) black black white k
  texel_sound DXN k = each (level-at at) (level-at (at + 8)) black white k
  texel_sound Unknown k = black

  -- each channel of each texel is less than two steps of 255 away from the exact fraction
  pub texel-near : (kind : Kind) (k : ℕ) → Near (exact (get_or (texel b kind at t) k none)) (byte (get_or (texel b kind at t) k none))
  texel-near kind k = near (texel_sound kind k)

-- The surfaces of a header within the limits: how many bytes they have, and that a face's levels lie in the whole. Assumes nothing.
use Prim.Native.Nat.{ℕ, zero, suc, ◌+◌, ◌*◌, ◌≤◌, ◌<◌}
use mathlib.Core.Path.{◌≡◌, ap, ◌∙◌}
use mathlib.Core.Bool.{true}
use native.Mathlib.Numerals.{add-one}
use native.Mathlib.Omega.{arith}
use native.Mathlib.Nat.{suc-mul, mul-le-mul}
use borrow.Author.Tests.{lt-ltb}
use Rattle.crn_format.specs.Header.{kind_of, within_limits}
use Rattle.crn_format.specs.Unpacking.{grid_of}
use Rattle.crn_format.specs.declared.Header.{Header}
use Rattle.crn_formats.proofs.Limited.{limited}
use Rattle.crn_formats.proofs.ByFormat.{bytes-at-most}
use Rattle.crn_sizes.specs.Sizes.{level_sizes}
use Rattle.crn_sizes.specs.declared.LevelSizes.{LevelSizes}
use Rattle.crn_sizes.proofs.Few.{few}
use Rattle.crn_sizes.proofs.Enough.{sizes_so}
use Rattle.picture.specs.declared.Picture.{Picture}
use Rattle.picture.specs.Surfaces.{picture_of, surface, chain_to, chain}
use Rattle.picture.proofs.Chains.{chain-none, chain_next, chain-before}

pub chain-after : (p : Picture) (l : ℕ) → chain_to p (l + 1) ≡ chain_to p l + surface p l
chain-after p l = ap (chain_to p) (add-one l) ∙ chain_next p l

module _ (h : Header) (limits : within_limits h ≡ true) where
  -- ---- how many bytes

  pub distance_so : (l : ℕ) → l < h.levels → {z : LevelSizes} → z ≡ level_sizes h l → z.distance ≡ surface (picture_of h) l
  unfolding grid_of surface
  distance_so l number is = ap (λ (y : LevelSizes). y.distance) (is ∙ sizes_so h l limits (lt-ltb l h.levels number))

  pub surface-few : (l : ℕ) → surface (picture_of h) l ≤ 16777216
  unfolding surface
  surface-few l =
      let a = limited h limits in
      mul-le-mul {n₂ = 1024} {m₂ = 1024 * 16} (few h.height l a.height)
      (mul-le-mul (few h.width l a.width) (bytes-at-most (kind_of h.format)))

  chain-few : (n : ℕ) → chain_to (picture_of h) n ≤ n * 16777216
  chain-few zero = omega (arith, chain-none (picture_of h))
  chain-few (suc n) = omega (arith, chain_next (picture_of h) n, chain-few n, surface-few n)

  pub sum-small : (l : ℕ) → l < h.levels → chain_to (picture_of h) l + surface (picture_of h) l ≤ 16777216 * 14
  sum-small l number = omega (arith, chain-few l, surface-few l, (limited h limits).levels)

  pub faces_small : {n : ℕ} → n ≡ chain (picture_of h) → h.faces * n ≤ 6 * (16777216 * 13)
  faces_small e =
      mul-le-mul {m₂ = 16777216 * 13} (limited h limits).faces (omega (arith, e, chain-few h.levels, (limited h limits).levels))

  -- ---- where

  one_of : (n m : ℕ) → 0 < n → m ≤ n * m
  one_of zero m h = absurd (omega arith)
  one_of (suc n) m h = omega (arith, suc-mul n m)

  -- the levels of a face lie in the whole
  in_whole : (l head : ℕ) → l < h.levels
      → head + chain_to (picture_of h) l + surface (picture_of h) l ≤ head + h.faces * chain (picture_of h)
  in_whole l head number =
      omega (arith, chain-before (picture_of h) l h.levels number, one_of h.faces (chain (picture_of h)) (limited h limits).face)

  -- so there is room for one
  pub room_for : (head n : ℕ) {c from l : ℕ} → c ≡ chain (picture_of h) → head + h.faces * c ≤ n
      → from ≡ head + chain_to (picture_of h) l → l < h.levels → from + surface (picture_of h) l ≤ n
  room_for head n {c} {from} {l} e room place number = omega (arith, in_whole l head number, ap (λ (k : ℕ). h.faces * k) e)

-- The levels of a face, end to end, all multiples of four bytes. Assumes nothing.
use Prim.Native.Nat.{ℕ, zero, suc, ◌+◌, ◌*◌, ◌/◌, ◌%◌, ◌≤◌, ◌<◌}
use mathlib.Core.Path.{◌≡◌, refl, sym, ap, ◌∙◌}
use native.Mathlib.Omega.{arith}
use native.Mathlib.Decide.{dec_lt}
use native.Mathlib.Nat.{mul_assoc, mul-mod_left}
use Rattle.crn_format.specs.declared.Kind.{Kind}
use Rattle.crn_format.specs.declared.Kind.TheVariants.{DXT1, DXT5, DXT5A, DXN, Unknown}
use Rattle.crn_format.specs.Header.{kind_of, block_bytes}
use Rattle.picture.specs.declared.Picture.{Picture}
use Rattle.picture.specs.Surfaces.{surface, chain_to}

pub bytes-fours : (k : Kind) → block_bytes k % 4 ≡ 0
bytes-fours DXT1 = refl
bytes-fours DXT5 = refl
bytes-fours DXT5A = refl
bytes-fours DXN = refl
bytes-fours Unknown = refl

-- a multiple of a multiple of four is one
pub times_four : (n m : ℕ) → m % 4 ≡ 0 → n * m % 4 ≡ 0
times_four n m h =
    let e : m ≡ m / 4 * 4 = omega arith in
    ap (λ (k : ℕ). n * k % 4) e ∙ ap (λ (k : ℕ). k % 4) (sym (mul_assoc n (m / 4) 4)) ∙ mul-mod_left (n * (m / 4)) 4

module _ (p : Picture) where
  pub surface-fours : (l : ℕ) → surface p l % 4 ≡ 0
  unfolding surface
  surface-fours l = times_four _ _ (times_four _ _ (bytes-fours (kind_of p.format)))

  pub chain-none : chain_to p 0 ≡ 0
  unfolding chain_to
  chain-none = refl

  pub chain-fours : (n : ℕ) → chain_to p n % 4 ≡ 0
  unfolding chain_to
  chain-fours zero = refl
  chain-fours (suc n) = omega (arith, chain-fours n, surface-fours n)

  pub chain_next : (l : ℕ) → chain_to p (suc l) ≡ chain_to p l + surface p l
  unfolding chain_to
  chain_next l = refl

  pub chain-before : (l m : ℕ) → l < m → chain_to p l + surface p l ≤ chain_to p m
  chain-before l zero h = absurd (omega arith)
  chain-before l (suc m) h = by (dec_lt l m) (chain-before l m)
    where
      by : Dec (l < m) → (l < m → chain_to p l + surface p l ≤ chain_to p m) → chain_to p l + surface p l ≤ chain_to p (suc m)
      by (yes lt) ih = omega (arith, chain_next m, ih lt)
      by (no ge) ih = let e : m ≡ l = omega arith in omega (arith, chain_next m, ap (chain_to p) e, ap (surface p) e)

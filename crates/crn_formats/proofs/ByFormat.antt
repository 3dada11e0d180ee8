-- Formats by cases: "0 DXT1; 2 to 6 DXT5 and its swizzles; 7, 8 DXN; 9 DXT5A".
use mathlib.Core.Path.{◌≡◌, refl, sym, subst}
use Prim.Native.Nat.{ℕ, ◌≤◌}
use native.Mathlib.Omega.{arith}
use borrow.Author.Tests.{le-leb, lt-leb, ne_eqb}
use lib.Dec.{lit≤}
use Rattle.crn_format.specs.Choice.{either}
use Rattle.crn_format.specs.declared.Kind.{Kind}
use Rattle.crn_format.specs.declared.Kind.TheVariants.{DXT1, DXT5, DXT5A, DXN, Unknown}
use Rattle.crn_format.specs.Header.{kind_of, known, has_color, has_alpha, block_bytes}
use Rattle.crn_formats.proofs.Joined.{split}

pub DXT5-from-2 : {f : ℕ} → 2 ≤ f → f ≤ 6 → kind_of f ≡ DXT5
unfolding kind_of
DXT5-from-2 {f} low high = simp (ne_eqb f 0 (λ e. omega arith), le-leb 2 f low, le-leb f 6 high)

pub DXN-from-7 : {f : ℕ} → 7 ≤ f → f ≤ 8 → kind_of f ≡ DXN
unfolding kind_of
DXN-from-7 {f} low high =
    simp (ne_eqb f 0 (λ e. omega arith), le-leb 2 f (omega arith), lt-leb f 6 (omega arith), le-leb 7 f low, le-leb f 8 high)

pub unknown_from_10 : {f : ℕ} → 10 ≤ f → kind_of f ≡ Unknown
unfolding kind_of
unknown_from_10 {f} low =
    simp (
      ne_eqb f 0 (λ e. omega arith),
      le-leb 2 f (omega arith),
      lt-leb f 6 (omega arith),
      le-leb 7 f (omega arith),
      lt-leb f 8 (omega arith),
      ne_eqb f 9 (λ e. omega arith),
    )

-- what holds of each format with its kind holds of every number with the kind that `kind_of` gives it
module _ (P : ℕ → Kind → Type 0) (at0 : P 0 DXT1) (at1 : P 1 Unknown) (from2 : (f : ℕ) → 2 ≤ f → f ≤ 6 → P f DXT5)
    (from7 : (f : ℕ) → 7 ≤ f → f ≤ 8 → P f DXN) (at9 : P 9 DXT5A) (from10 : (f : ℕ) → 10 ≤ f → P f Unknown) where
  at : {f : ℕ} (n : ℕ) → n ≡ f → P n (kind_of n) → P f (kind_of f)
  at n e p = subst (λ (m : ℕ). P m (kind_of m)) e p

  pub by_format : (f : ℕ) → P f (kind_of f)
  unfolding kind_of
  by_format f =
      split f 0 (λ l. at 0 (omega arith) at0) λ g0.
      split f 1 (λ l. at 1 (omega arith) at1) λ g1.
      split f 6 (λ l. subst (P f) (sym (DXT5-from-2 g1 l)) (from2 f g1 l)) λ g6.
      split f 8 (λ l. subst (P f) (sym (DXN-from-7 g6 l)) (from7 f g6 l)) λ g8.
      split f 9 (λ l. at 9 (omega arith) at9) λ g9.
      subst (P f) (sym (unknown_from_10 g9)) (from10 f g9)

-- a format that is known has a plane
pub planes : (k : Kind) → either (has_color k) (has_alpha k) ≡ known k
planes DXT1 = refl
planes DXT5 = refl
planes DXT5A = refl
planes DXN = refl
planes Unknown = refl

pub bytes-at-most : (k : Kind) → block_bytes k ≤ 16
bytes-at-most DXT1 = lit≤ tt
bytes-at-most DXT5 = lit≤ tt
bytes-at-most DXT5A = lit≤ tt
bytes-at-most DXN = lit≤ tt
bytes-at-most Unknown = lit≤ tt

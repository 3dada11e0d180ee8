-- No reading of an opening refuses by the number 0: so an answer 0 tells that all was read.
use Prim.Native.Nat.{ℕ, ◌<◌}
use mathlib.Core.Bool.{Bool}
use mathlib.Core.List.{List}
use mathlib.Core.Path.{refl}
use lib.Dec.{ltb}
use borrow.Author.Tests.{ltb-true}
use Rattle.crn_format.specs.Reading.{Reading, Step, got, refused, Place, run, from_bits}
use Rattle.crn_format.specs.Palettes.{color_endpoints, color_selectors, alpha_endpoints, alpha_selectors}
use Rattle.crn_format.specs.Opening.{sent_tables}
use Rattle.crn_format.specs.declared.Header.{Header}
use Rattle.crn_format.proofs.Refusing.{Refuses, Stops, bits-stop}
use Rattle.crn_format.proofs.OpeningReadings.{tables-refuse, color-endpoints, color-selectors, alpha-endpoints, alpha-selectors}

abbrev numbered : ℕ → Bool
numbered n = ltb 0 n

-- every refusal in a reading has a number
abbrev pub Numbered : {A : Type 0} → Reading A → Type 0
Numbered m = Refuses numbered m

-- and so has a step that refuses
abbrev pub Some : {A : Type 0} → Step Place A → Type 0
Some (got a w) = Unit
Some (refused n w) = 0 < n

pub run-some : {A : Type 0} (seg : List ℕ) (m : Reading A) (w : Place) → Numbered m → Some (run (from_bits seg) m w)
run-some {A} seg m w h = by (run (from_bits seg) m w) (bits-stop numbered refl refl seg m h w)
  where
    by : (x : Step Place A) → Stops numbered x → Some x
    by (got a v) e = tt
    by (refused n v) e = ltb-true 0 n e

pub tables_numbered : (h : Header) → Numbered (sent_tables h)
tables_numbered h = tables-refuse numbered refl h

module _ (n : ℕ) where
  pub color-endpoints_numbered : Numbered (color_endpoints n)
  color-endpoints_numbered = color-endpoints numbered refl n

  pub color-selectors_numbered : Numbered (color_selectors n)
  color-selectors_numbered = color-selectors numbered refl n refl

  pub alpha-endpoints_numbered : Numbered (alpha_endpoints n)
  alpha-endpoints_numbered = alpha-endpoints numbered refl n

  pub alpha-selectors_numbered : Numbered (alpha_selectors n)
  alpha-selectors_numbered = alpha-selectors numbered refl n refl

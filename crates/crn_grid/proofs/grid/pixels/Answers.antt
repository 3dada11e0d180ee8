-- A side halved for each level: from level 32 on nothing is left of it.
use Prim.Native.Nat.{ℕ, zero, suc, ◌/◌, ◌^◌, ◌<◌, ◌≤◌, max}
use mathlib.Core.Path.{◌≡◌, refl, ap, ◌∙◌}
use native.Mathlib.Omega.{arith}
use native.Mathlib.Nat.{div-eq_of_lt, lt_of_lt_of_le}
use borrow.Author.Tests.{ne_eqb}
use lib.Dec.{eqb}
use lib.Pow.{pow_mono}
use Rattle.std.proofs.Common.{Option, Some, None}
use Rattle.std.specs.Option.{SomeIff, unwrap_or}
use Rattle.crn_format.specs.Choice.{pick}
use Rattle.crn_grid.proofs.grid.pixels.Goals as goal

at_least_one : (n : ℕ) → max n 1 ≡ pick (eqb n 0) 1 n
at_least_one zero = refl
at_least_one (suc n) = rw (ne_eqb (suc n) 0 (λ e. omega arith)) (omega arith)

halved : (o : Option ℕ) (side level : ℕ) → side < 2 ^ 32 → SomeIff o (level < 32) (side / 2 ^ level) → unwrap_or o 0 ≡ side / 2 ^ level
halved None side level few past =
    let far : 32 ≤ level = omega (arith, past) in
    let none : side / 2 ^ level ≡ 0 = div-eq_of_lt (lt_of_lt_of_le few (pow_mono far)) in
    rw none refl
halved (Some n) side level few h = h.1

pub returns : goal.returns
returns c =
    let a = c.args in
    let n : c.unwrap_or.result ≡ a.side / 2 ^ a.level = c.unwrap_or.ensures ∙ halved c.checked_shr.result a.side a.level c.ranges.side.fits
    c.checked_shr.ensures in
    (c.max.ensures ∙ ap (λ (t : ℕ). max t 1) n ∙ at_least_one (a.side / 2 ^ a.level), omega arith)

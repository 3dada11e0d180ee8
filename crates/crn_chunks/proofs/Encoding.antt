-- The next encoding.
use Prim.Native.Nat.{ℕ, ◌+◌, ◌/◌, ◌%◌, ◌≤◌, ◌<◌}
use mathlib.Core.List.{List, [], ◌∷◌}
use mathlib.Core.Path.{◌≡◌, ◌∙◌}
use native.Mathlib.Omega.{arith}
use lib.Dec.{ltb}
use borrow.Author.Tests.{lt-ltb, le-ltb}
use Rattle.crn_format.specs.Choice.{pick}
use Rattle.crn_format.specs.Limits.{chunk_symbols}
use Rattle.crn_format.specs.Reading.{Reading, answer, refuse, symbol, got, refused, Source, run}
use Rattle.crn_format.specs.Level.{encoding}
use Rattle.crn_format.proofs.Steps.{go_on, stop, answered, refusing}
use Rattle.crn_chunks.specs.Meaning.{pending_of}

module _ {S : Type 0} (src : Source S) (ls : List ℕ) (w : S) where
  encoding_then : ℕ → Reading (ℕ × List ℕ)
  encoding_then s = pick (ltb s chunk_symbols) (answer (s % 8, s / 8 % 8 ∷ s / 64 % 8 ∷ [])) (refuse 13)

  pub pending-two : (v : ℕ) → 64 ≤ v → run src (encoding ls (pending_of v)) w ≡ got (v % 8, pending_of (8 + v / 8 % 8)) w
  unfolding encoding pending_of
  pending-two v h =
      let a : 8 ≤ v = omega arith in
      let b : 8 ≤ 8 + v / 8 % 8 = omega arith in
      let c : 8 + v / 8 % 8 < 64 = omega arith in
      let d : (8 + v / 8 % 8) % 8 ≡ v / 8 % 8 = omega arith in
      simp (le-ltb _ _ a, le-ltb _ _ h, le-ltb _ _ b, lt-ltb _ _ c, d) (answered src _ w)

  pub pending-one : (v : ℕ) → 8 ≤ v → v < 64 → run src (encoding ls (pending_of v)) w ≡ got (v % 8, pending_of 0) w
  unfolding encoding pending_of
  pending-one v h g = simp (le-ltb _ _ h, lt-ltb _ _ g) (answered src _ w)

  module _ (v : ℕ) (none : v < 8) where
    pub code_lost : {x : ℕ} {u : S} → run src (symbol ls) w ≡ refused x u → run src (encoding ls (pending_of v)) w ≡ refused x u
    unfolding encoding pending_of
    code_lost e = simp (lt-ltb _ _ none) (stop src _ _ w e)

    pub code-far : {s : ℕ} {u : S} → run src (symbol ls) w ≡ got s u → chunk_symbols ≤ s → run src (encoding ls (pending_of v)) w ≡ refused
        13 (src.stopped u)
    unfolding encoding pending_of encoding_then
    code-far {u = u} e g = simp (lt-ltb _ _ none) (go_on src _ encoding_then w e ∙ simp (le-ltb _ _ g) (refusing src 13 u))

    pub code_got : {s : ℕ} {u : S} → run src (symbol ls) w ≡ got s u → s < chunk_symbols
        → run src (encoding ls (pending_of v)) w ≡ got (s % 8, pending_of (64 + s / 8 % 64)) u
    unfolding encoding pending_of encoding_then
    code_got {s} {u} e g =
        let a : 8 ≤ 64 + s / 8 % 64 = omega arith in
        let b : 64 ≤ 64 + s / 8 % 64 = omega arith in
        let c : (64 + s / 8 % 64) % 8 ≡ s / 8 % 8 = omega arith in
        let d : (64 + s / 8 % 64) / 8 % 8 ≡ s / 64 % 8 = omega arith in
        simp (lt-ltb _ _ none) (go_on src _ encoding_then w e ∙ simp (lt-ltb _ _ g, le-ltb _ _ a, le-ltb _ _ b, c, d) (answered src _ u))

-- One level more in its place, or its refusal. Over every plan. Assumes nothing.
use Rattle.std.specs.Prelude.{Ok, Err}
use Prim.Native.Nat.{ℕ, suc, ◌+◌, ◌-◌, ◌≤◌}
use mathlib.Core.Path.{◌≡◌, refl, sym, ap, ◌∙◌}
use mathlib.Core.List.{List, ◌++◌}
use native.Mathlib.Omega.{arith}
use lib.ListN.{length, take, drop, replicate}
use Rattle.crn_format.specs.Opening.{Palettes, zeros}
use Rattle.crn_format.specs.Unpacking.{Unpacking, unpacking}
use Rattle.crn_format.specs.Refusals.{number_of}
use Rattle.crn_format.specs.declared.Record.{Record}
use Rattle.crn_drawing.specs.Unpacks.{answer_of, Unpacks}
use Rattle.crn_drawing.specs.declared.Unpacked.{Unpacked}
use Rattle.crn_drawing.specs.declared.Refused.{Refused}
use Rattle.crn_sizes.specs.Sizes.{level_sizes}
use Rattle.crn_sizes.specs.declared.LevelSizes.{LevelSizes}
use Rattle.crn_sizes.proofs.Counts.{most_cutouts, cutouts-few}
use Rattle.picture.specs.Surfaces.{Plan}
use Rattle.picture.specs.Writing.{Sums, Put, put, stopped, onward, put_from}
use Rattle.picture_levels.specs.declared.Put.{Put as LevelsPut}
use Rattle.picture_levels.specs.declared.NotPut.{NotPut}
use Rattle.picture_levels.specs.Puts.{sums_of, stop_of, Puts}

-- ---- the definition's step

module _ (pl : Plan) (r : Record) (file : List ℕ) (p : Palettes) (level : ℕ) (t : Sums) (dst : List ℕ) (n : ℕ) {m : ℕ} (more : m ≡ suc n)
    {z : LevelSizes} (is : z ≡ level_sizes r.header level) {from : ℕ} (place : from ≡ pl.from level) {rest : List ℕ}
    (last : rest ≡ drop from dst) {step : ℕ} (far : step ≡ pl.step level) where
  abbrev answer : Unpacking
  answer = unpacking r file p level z.pitch step z.symbols rest

  stepped : {u : Unpacking} → u ≡ answer
      → put_from m pl r file p level t dst ≡ onward level from t dst (put_from n pl r file p (level + 1)) u
  unfolding put_from
  stepped e = rw (more, e, is, last, far, place)

  -- the symbols that are taken off its allowance were drawn
  pub on : {left : ℕ} {u : Unpacked} {e after : List ℕ} → after ≡ take from dst ++ e → Unpacks answer z.symbols left e (Ok u)
      → put_from m pl r file p level t dst
      ≡ put_from n pl r file p (level + 1) (record { symbols = t.symbols + (z.symbols - left); cutouts = t.cutouts + u.cutouts }) after
  unfolding onward answer_of
  on {left} {u} put-so o = let drawn : z.symbols - left ≡ u.symbols = omega (arith, o.spent) in rw (put-so, drawn) (stepped o.answer)

  pub off : {left : ℕ} {x : Refused} {e : List ℕ} → Unpacks answer z.symbols left e (Err x)
      → put_from m pl r file p level t dst
      ≡ stopped (record { refusal = number_of x.refusal; level = level; bit = x.at; symbols = t.symbols + (z.symbols - left) })
  unfolding onward answer_of
  off {left} {x} o = let drawn : z.symbols - left ≡ x.symbols = omega (arith, o.spent) in rw drawn (stepped o.answer)

pub none_left : (pl : Plan) (r : Record) (file : List ℕ) (p : Palettes) (level : ℕ) (t : Sums) (dst : List ℕ) {n : ℕ} → n ≡ 0
    → put_from n pl r file p level t dst ≡ put t dst
unfolding put_from
none_left pl r file p level t dst e = rw e

-- a level that went through has few cut-outs
pub few_cuts : (r : Record) (file : List ℕ) (p : Palettes) (level pitch step budget : ℕ) (rest : List ℕ) {left : ℕ}
    {u : Unpacked} {e : List ℕ}
    → Unpacks (unpacking r file p level pitch step budget rest) budget left e (Ok u) → u.cutouts ≤ most_cutouts
unfolding answer_of
few_cuts r file p level pitch step budget rest {left} {u} {e} o =
    cutouts-few r file p level pitch step budget rest u.symbols u.cutouts e (sym o.answer)

-- ---- the answers

pub all_in : (before : List ℕ) {q : Put} (a : LevelsPut) {d : List ℕ} → put (sums_of a) d ≡ q → Puts q before d (Ok a)
unfolding Puts
all_in before a e = rw (sym e) (refl, refl)

-- by a buffer as long as that before
pub not_in : (before : List ℕ) {q : Put} (x : NotPut) (d : List ℕ) {after : List ℕ} → stopped (stop_of x) ≡ q → after ≡ zeros d
    → length d ≡ length before → Puts q before after (Err x)
unfolding Puts
not_in before x d e so long = rw (sym e) (refl, so ∙ ap (λ (n : ℕ). replicate n 0) long)

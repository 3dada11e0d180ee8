-- By which numbers a level is refused in a container: 4, 5, 7, 8, 13 or 14, and why; with its full allowance never by 15. Assumes nothing.
use Prim.Native.Nat.{ℕ, ◌≤◌, ◌<◌}
use mathlib.Core.Path.{◌≡◌, refl, sym, subst, ◌∙◌}
use mathlib.Core.Bool.{Bool, true, false, false≢true}
use mathlib.Core.Logic.{⊎_elim}
use mathlib.Core.List.{List, [], ◌∷◌, ◌++◌}
use native.Mathlib.Omega.{arith}
use borrow.Author.Tests.{lt-ltb}
use Rattle.crn_format.specs.Reading.{Step, got, refused, Place, start}
use Rattle.crn_format.specs.Header.{within_limits}
use Rattle.crn_format.specs.Opening.{Palettes}
use Rattle.crn_format.specs.Level.{Chunk}
use Rattle.crn_format.specs.Grid.{chunk_count, insides}
use Rattle.crn_format.specs.Unpacking.{lengths_of, planes_of, tables_hold, level_stands, palettes_reach, declined, unpacking}
use Rattle.crn_format.specs.declared.Record.{Record}
use Rattle.crn_laws.specs.Scripts.{Draws}
use Rattle.crn_laws.specs.Levels.{Given, grid_in, segment_in, unpacking_in, Passes, ScriptOf, allowed}
use Rattle.crn_laws.proofs.Ending.{reading, ran, answered, with_enough, few-tried, never}
use Rattle.crn_laws.proofs.Theorems.{exact_acceptance, told-allowed}
use Rattle.crn_laws_total.specs.Refusals.{among}
use Rattle.crn_laws_total.proofs.Numbers.{among_first, among_second}
use Rattle.crn_format.proofs.Refusing.{Stops as StopsBy, bits-stop}
use Rattle.crn_laws_total.proofs.LevelReadings.{level_refuses}
use Rattle.picture.specs.Surfaces.{Plan, picture_of}
use Rattle.picture.specs.Writing.{Stop, Container}
use Rattle.law_containers.specs.Standing.{given_at, Sound, Fair, Stops, full_stream, level_numbers, Checked, early_numbers, Refuses}
use Rattle.law_containers.specs.Standing.{Unfair, segment, palettes, script, Early, limits, tables, format, room}
use Rattle.law_containers.proofs.Level.{full}
use Rattle.law_containers.proofs.Passing.{passes}

-- ---- a level that passes its checks, with a budget of its allowance at least

abbrev ok : ℕ → Bool
ok n = among n full_stream

module _ (v : Given) (c : Passes v) (budget : ℕ) (ample : allowed v ≤ budget) {k s bit : ℕ} {after : List ℕ}
    (is : unpacking_in v budget ≡ declined k s bit after) where
  stream : StopsBy ok (ran v)
  stream =
      bits-stop ok refl refl (segment_in v) (reading v)
      (level_refuses ok refl refl (lengths_of v.opened.tables.chunk_encoding) (planes_of v.opened)
      (insides (grid_in v) 0 (chunk_count (grid_in v)))) start

  by_end : (y : Step Place (List Chunk)) → StopsBy ok y → answered v y ≡ declined k s bit after → ok k ≡ true
  by_end (got cs w) stops e = absurd (never (sym e))
  by_end (refused n w) stops e = let z : n ≡ k = cc in subst (λ (m : ℕ). ok m ≡ true) z stops

  pub in_stream : among k full_stream ≡ true
  in_stream = by_end (ran v) stream (sym (with_enough v c budget (omega (arith, few-tried v))) ∙ is)

  no-script : (ds : List Draws) → ScriptOf v ds → ⊥
  no-script ds so = never (sym is ∙ ((exact_acceptance v c budget ample).1 (ds, so)).3)

-- ---- a level in its place

module _ (pl : Plan) (r : Record) (file : List ℕ) (p : Palettes) {head : ℕ} (sound : Sound (picture_of r.header) head pl)
    (within : within_limits r.header ≡ true) (held : tables_hold r.tables ≡ true) (some : 0 < r.header.faces) where
  pub stops_unfair : {s : Stop} → Stops pl r file p s → Unfair pl r file p s.level s.refusal
  unfolding unpacking
  stops_unfair {s} stops = by (level_stands file r.header l) (palettes_reach r.header p) refl refl
    where
      l : ℕ
      l = s.level

      v : Given
      v = given_at pl r file p stops.output l

      is : unpacking_in v (full v) ≡ declined s.refusal stops.drawn s.bit stops.rest
      is = stops.answers

      by : (a b : Bool) → level_stands file r.header l ≡ a → palettes_reach r.header p ≡ b → Unfair pl r file p l s.refusal
      by false b ea eb =
          let e : declined 4 0 0 v.destination ≡ declined s.refusal stops.drawn s.bit stops.rest =
          rw (within, held, lt-ltb _ _ stops.number, ea) at is in
          let z : 4 ≡ s.refusal = cc in
          subst (Unfair pl r file p l) z (segment ea)
      by true false ea eb =
          let e : declined 5 0 0 v.destination ≡ declined s.refusal stops.drawn s.bit stops.rest =
          rw (within, held, lt-ltb _ _ stops.number, ea, eb) at is in
          let z : 5 ≡ s.refusal = cc in
          subst (Unfair pl r file p l) z (palettes ea eb)
      by true true ea eb =
          let c = passes pl r file p sound within held some l stops.number stops.output stops.long ea eb in
          let ample : allowed v ≤ full v = omega (arith, told-allowed v c) in
          script ea eb (in_stream v c (full v) ample is) (no-script v c (full v) ample is)

module _ {pl : Plan} {r : Record} {file : List ℕ} {p : Palettes} {l : ℕ} where
  -- so it is one of six
  pub level-number : {n : ℕ} → Unfair pl r file p l n → among n level_numbers ≡ true
  level-number (segment e) = refl
  level-number (palettes e f) = refl
  level-number {n} (script e f g h) = among_second n (4 ∷ 5 ∷ []) full_stream g

  -- and a level that cannot be unpacked is none that can
  pub not-fair : {n : ℕ} {ds : List Draws} → Unfair pl r file p l n → Fair pl r file p l ds → ⊥
  not-fair (segment e) fair = false≢true (sym e ∙ fair.segment)
  not-fair (palettes e f) fair = false≢true (sym f ∙ fair.palettes)
  not-fair (script e f g h) fair = h _ fair.script

-- ---- before the levels

module _ {c : Container} {r : Record} {dst : List ℕ} where
  pub early-number : {n : ℕ} → Early c r dst n → among n early_numbers ≡ true
  early-number (limits a) = refl
  early-number (tables a b) = refl
  early-number (format a b d) = refl
  early-number (room a b d e) = refl

  pub not-checked : {n : ℕ} → Early c r dst n → Checked c r dst → ⊥
  not-checked (limits a) w = false≢true (sym a ∙ w.limits)
  not-checked (tables a b) w = false≢true (sym b ∙ w.tables)
  not-checked (format a b d) w = false≢true (sym d ∙ w.out)
  not-checked (room a b d e) w = omega (arith, e, w.room)

-- ---- all of them

pub refused-number : {c : Container} {r : Record} {file : List ℕ} {p : Palettes} {dst after : List ℕ} {s : Stop}
    → Refuses c r file p dst s after → among s.refusal (early_numbers ++ level_numbers) ≡ true
refused-number {s = s} e =
    ⊎_elim (λ u. among_first s.refusal early_numbers level_numbers (early-number u.why))
    (λ z. among_second s.refusal early_numbers level_numbers (level-number z.why)) e

-- A load into arrays that are zero: the record that they make is the definition's, also where record and file disagree.
use Prim.Native.Nat.{ℕ}
use mathlib.Core.Bool.{Bool, true, false}
use mathlib.Core.List.{List}
use mathlib.Core.Path.{◌≡◌, refl, sym, ap, ◌∙◌}
use native.Mathlib.Omega.{arith}
use Rattle.std.specs.Prelude.{Err}
use Rattle.std.specs.declared.result.Result.{Result}
use Rattle.crn_format.specs.Refusals.{number_of}
use Rattle.crn_format.specs.Opening.{Palettes, Opening, opened, shut, Lengths}
use Rattle.crn_format.specs.Loading.{agrees, loading}
use Rattle.crn_format.specs.declared.Fault.{Fault}
use Rattle.crn_format.specs.declared.Header.{Header}
use Rattle.crn_format.proofs.Loads.{load_apart}
use Rattle.crn_format.proofs.Numbers.{number-above}
use Rattle.crn_opening.specs.SentTables.{AllZero}
use Rattle.crn_opening.specs.Opens.{Opened, opened_by, whole, closed, to_opened, Opens, Loads}
use Rattle.crn_opening.specs.declared.opening.OpenedParts.{OpenedParts}
use Rattle.crn_opening.proofs.Opens.{closed_by}

module _ (h : Header) (file : List ℕ) (lent after : Palettes) (had left : Lengths) (r : Result OpenedParts Fault)
    (l : Loads h file lent after had left r)
    (none : AllZero had.chunk had.color_ends had.color_sels had.alpha_ends had.alpha_sels) where
  pub loads_whole : Opens (loading h file lent) after
      (opened_by r left.chunk left.color_ends left.color_sels left.alpha_ends left.alpha_sels)
  loads_whole = record { answer = by (agrees h file) refl; leaves = l.leaves }
    where
      by : (b : Bool) → agrees h file ≡ b
          → opened_by r left.chunk left.color_ends left.color_sels left.alpha_ends left.alpha_sels ≡ to_opened
          (loading h file lent)
      by true e = l.alike e
      by false e =
          let a = l.apart e in
          ap (λ (x : Lengths). opened_by r x.chunk x.color_ends x.color_sels x.alpha_ends x.alpha_sels) a.1
          ∙ closed_by a.0 none ∙ ap to_opened (sym (load_apart h file lent e))

-- a refusal is told with the empty record, whatever stands in the arrays
pub refused_whole : {o : Opening} {after : Palettes} (e : Fault) (a b c d f : List ℕ) → Opens o after (opened_by (Err e) a b c d f)
    → Opens o after (whole (Err e))
refused_whole {o} e a b c d f g = record { answer = by o g.answer; leaves = g.leaves }
  where
    by : (o : Opening) → opened_by (Err e) a b c d f ≡ to_opened o → whole (Err e) ≡ to_opened o
    by (opened file w) p =
        let z : number_of e.refusal ≡ 0 = ap (λ (x : Opened). x.refusal) p in
        let some = number-above e.refusal in
        absurd (omega arith)
    by (shut n bit w) p = ap (λ (x : Opened). closed x.refusal x.at) p

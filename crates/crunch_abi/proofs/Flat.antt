-- What is promised of an opening's or a load's answer holds of it as one struct.
use Prim.Native.Nat.{ℕ}
use mathlib.Core.List.{List}
use mathlib.Core.Path.{◌≡◌, refl, ap, ◌∙◌}
use Rattle.std.specs.Prelude.{Ok, Err}
use Rattle.std.specs.declared.result.Result.{Result}
use Rattle.crn_format.specs.Opening.{Palettes, Opening, Lengths}
use Rattle.crn_format.specs.declared.Fault.{Fault}
use Rattle.crn_format.specs.declared.Header.{Header}
use Rattle.crn_opening.specs.Opens.{opened_by as told_by, Opens, Loads as LoadsParts}
use Rattle.crn_opening.specs.declared.opening.OpenedParts.{OpenedParts}
use Rattle.crunch_abi.specs.Opening.{flat_of, opened_by, Loads}

same : (r : Result OpenedParts Fault) (a b c d e : List ℕ) → opened_by (flat_of r) a b c d e ≡ told_by r a b c d e
same (Ok p) a b c d e = refl
same (Err f) a b c d e = refl

pub opens_flat : {o : Opening} {after : Palettes} (r : Result OpenedParts Fault) (a b c d e : List ℕ)
    → Opens o after (told_by r a b c d e) → Opens o after (opened_by (flat_of r) a b c d e)
opens_flat r a b c d e o = record { answer = same r a b c d e ∙ o.answer; leaves = o.leaves }

pub loads_flat : {h : Header} {file : List ℕ} {lent after : Palettes} {had left : Lengths} {r : Result OpenedParts Fault}
    → LoadsParts h file lent after had left r → Loads h file lent after had left (flat_of r)
loads_flat {left = left} {r = r} l =
    record {
      leaves = l.leaves;
      apart = λ n. (ap flat_of (l.apart n).0, (l.apart n).1);
      alike = λ y. same r left.chunk left.color_ends left.color_sels left.alpha_ends left.alpha_sels ∙ l.alike y;
    }

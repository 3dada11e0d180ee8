-- A look and then a load by what it gave are an opening.
use Prim.Native.Nat.{ℕ}
use mathlib.Core.List.{List}
use mathlib.Core.Path.{◌≡◌, sym, ap, ◌∙◌}
use Rattle.std.specs.Prelude.{Ok}
use Rattle.crn_format.specs.Look.{looked, look_of}
use Rattle.crn_format.specs.Opening.{Palettes, opening}
use Rattle.crn_format.specs.Loading.{loading}
use Rattle.crn_format.specs.declared.Header.{Header}
use Rattle.crn_format.specs.declared.Looked.{Looked}
use Rattle.crn_format.proofs.Loads.{load-goes-on, look-agrees}
use Rattle.crn_opening.specs.Opens.{Opened, to_opened, buffers_of, Opens}

pub then-opened : (file : List ℕ) (h : Header) → looked (Ok h) ≡ look_of file → (lent : Palettes) {after : Palettes} {r : Opened}
    → Opens (loading h file lent) after r → Opens (opening file lent) after r
then-opened file h e lent o =
    let seen = look-agrees file (sym (ap (λ (x : Looked). x.refusal) e)) in
    let is = ap (λ (x : Looked). loading x.header file lent) e ∙ load-goes-on (look_of file).header file lent seen in
    record { answer = o.answer ∙ ap to_opened is; leaves = o.leaves ∙ ap buffers_of is }

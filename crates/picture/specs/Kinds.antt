-- Which formats go out in a container.
use Rattle.std.specs.Prelude.{ℕ, Bool, eqb}
use Rattle.crn_format.specs.Choice.{both}
use Rattle.crn_format.specs.declared.Kind.{Kind}
use Rattle.crn_format.specs.declared.Kind.TheVariants.{DXT1, DXT5, DXT5A, DXN, Unknown}
use Rattle.crn_format.specs.Header.{known, kind_of}

-- the CRN number of a kind as it is stored, with no swizzle; 1 is no format
abbrev pub plain_of : Kind → ℕ
plain_of DXT1 = 0
plain_of DXT5 = 2
plain_of DXT5A = 9
plain_of DXN = 7
plain_of Unknown = 1

-- "Formats 0, 2, 7 and 9 go out .. then 16 any other format" (request 1)
abbrev pub goes_out : ℕ → Bool
goes_out f = both (known (kind_of f)) (eqb f (plain_of (kind_of f)))

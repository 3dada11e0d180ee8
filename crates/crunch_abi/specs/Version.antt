-- Which version of the exports this is.
use Rattle.std.specs.Prelude.{ℕ}

-- raised whenever a struct or an argument of one changes; CRUNCH_ABI_VERSION of crunch.h is the same number
abbrev pub abi_version : ℕ
abi_version = 1

-- The sum of so many symbols of a code, modulo 2^64: what the benchmark compares.
use Rattle.std.specs.Prelude.{ℕ, zero, suc, ◌+◌, ◌%◌, ◌^◌, List, length, nat_le}
use Rattle.crn_format.specs.Choice.{pick, both}
use Rattle.crn_format.specs.Limits.{max_symbols}
use Rattle.crn_format.specs.Codes.{is_code}
use Rattle.crn_format.specs.Reading.{Reading, answer, draw, Step, got, refused, Place, start, run, from_bits}

unfoldable pub tally : List ℕ → ℕ → ℕ → Reading ℕ
tally ls zero sum = answer sum
tally ls (suc n) sum = draw ls λ s. tally ls n ((sum + s) % 2 ^ 64)

-- 0 where a draw fails
abbrev pub tallied : Step Place ℕ → ℕ
tallied (got sum w) = sum
tallied (refused n w) = 0

abbrev pub total : List ℕ → List ℕ → ℕ → ℕ
total ls seg n = tallied (run (from_bits seg) (tally ls n 0) start)

abbrev pub sum_of_draws : List ℕ → List ℕ → ℕ → ℕ
sum_of_draws ls seg n = pick (both (nat_le (length ls) max_symbols) (is_code ls)) (total ls seg n) 0

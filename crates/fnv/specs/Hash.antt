-- FNV-1a with 64 bits: for each byte, the hash xor the byte, times 2^40 + 435, modulo 2^64.
use Rattle.std.specs.Prelude.{ℕ, ◌*◌, ◌%◌, ◌^◌, bit_xor}

abbrev pub stepped : ℕ → ℕ → ℕ
stepped h b = bit_xor h b * 1099511628211 % 2 ^ 64

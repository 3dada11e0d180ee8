-- A cursor over a segment: the next bits, kept in a buffer of 64.
use Rattle.std.specs.Prelude.{ℕ, zero, suc, ◌+◌, ◌-◌, ◌*◌, ◌%◌, ◌^◌, ◌≤◌, ◌<◌, ◌≡◌, List, length, ltb}
use Rattle.crn_format.specs.Choice.{pick}
use Rattle.crn_format.specs.Bits.{bit_at}
use Rattle.crn_symbol_codec.specs.declared.Cursor.{Cursor}

-- the n bits at p, with 0 for each from the place e on
unfoldable pub cut_at : List ℕ → ℕ → ℕ → ℕ → ℕ
cut_at s e p zero = 0
cut_at s e p (suc n) = 2 * cut_at s e p n + pick (ltb (p + n) e) (bit_at s (p + n)) 0

-- the place of the next bit
abbrev pub place : Cursor → ℕ
place c = 8 * c.next - c.have

-- the buffer has the segment's bits from its place to some place `end`, and 0 after them
pub record Holds (s : List ℕ) (c : Cursor) : Type 0 where
  pub some : c.have ≤ 63
  pub within : c.next ≤ length s
  pub behind : c.have ≤ 8 * c.next
  pub end : ℕ
  pub after : 8 * c.next ≤ end
  pub before : end ≤ place c + 64
  pub same : c.bits ≡ cut_at s end (place c) 64

-- n bits, or all that are left
abbrev pub Enough : List ℕ → Cursor → ℕ → Type 0
Enough s c n = c.have < n → length s ≤ c.next

-- r is c with 56 bits, or all that are left
pub record Filled (s : List ℕ) (c r : Cursor) : Type 0 where
  pub holds : Holds s r
  pub stays : place r ≡ place c
  pub enough : Enough s r 56

-- the cursor l bits further on, where it has so many
abbrev pub past : Cursor → ℕ → Cursor
past c l = record { bits = c.bits * 2 ^ l % 2 ^ 64; have = c.have - l; next = c.next }

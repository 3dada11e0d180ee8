-- The header's fields, each as its call reads it.
use Rattle.std.proofs.Common.{◌≡◌, ℕ, List, get_or, zero-add, add-zero}
use Rattle.crn_format.specs.Header.{field, header_of}
use Rattle.crn_header.proofs.header_of.Goals as goal

one_byte : (file : List ℕ) (at : ℕ) → field file at 1 ≡ get_or file at 0
unfolding field
one_byte file at = simp (zero-add, add-zero)

pub returns : goal.returns
unfolding header_of
returns c =
    simp (
      c.offsets.ensures,
      c.big24.ensures.0,
      c.big16-7.ensures.0,
      c.part_at-4.ensures,
      c.part_at-3.ensures,
      c.part_at-2.ensures,
      c.part_at.ensures,
      c.big32-4.ensures,
      c.big32-3.ensures,
      c.big32-2.ensures,
      c.big16-6.ensures.0,
      c.byte-2.ensures.0,
      c.byte.ensures.0,
      c.big16-5.ensures.0,
      c.big16-4.ensures.0,
      c.big16-3.ensures.0,
      c.big32.ensures,
      c.big16-2.ensures.0,
      c.big16.ensures.0,
      c.byte-levels.ensures.0,
      one_byte,
    )

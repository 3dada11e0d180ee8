-- 74 bytes at least, and the signature; of less than two bytes the second counts as 0.
use mathlib.Core.Path.{refl}
use Rattle.crn_format.specs.Header.{signed_in}
use Rattle.crn_header.proofs.Signature.{two_bytes}
use Rattle.crn_header.proofs.is_signed.Goals as goal

pub returns : goal.returns
unfolding signed_in
returns c = rw (c.starts_with.ensures.value, two_bytes c.args.head.now 0x48 0x78 refl)

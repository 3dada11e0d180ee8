-- All five tables hold.
use Rattle.crn_format.specs.Unpacking.{tables_hold}
use Rattle.crn_formats.proofs.Joined.{grouped}
use Rattle.crn_decoders.proofs.table_checks.tables_hold.Goals as goal

pub returns : goal.returns
unfolding tables_hold
returns c = simp grouped (cc)

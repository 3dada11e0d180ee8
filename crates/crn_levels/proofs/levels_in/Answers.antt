-- The decoder tables are made in two arrays, and the levels drawn by them.
use native.Mathlib.Omega.{arith}
use Rattle.crn_formats.specs.Records.{tables_sliced}
use Rattle.crn_levels.proofs.Steps.{made-lent}
use Rattle.crn_levels.proofs.levels_in.Goals as goal

pub levels_by-requires : goal.levels_by-requires
levels_by-requires g c = record {
  of = tables_sliced c.args.tables.now;
  made = made-lent c.args.h (tables_sliced c.args.tables.now) c.requires.within_limits c.requires.tables_hold c.requires.able (omega arith)
      (omega arith) c.from-kind.ensures c.has_color.ensures c.has_alpha.ensures c.make_tables.ensures;
}

pub returns : goal.returns
returns g c =
    c.levels_by.ensures (tables_sliced c.args.tables.now) (made-lent c.args.h (tables_sliced c.args.tables.now) c.requires.within_limits
    c.requires.tables_hold c.requires.able (omega arith) (omega arith) c.from-kind.ensures c.has_color.ensures c.has_alpha.ensures
    c.make_tables.ensures)

-- Row by row. Assumes nothing.
use Rattle.bcn_rows.proofs.Laws.{all-chosen}
use Rattle.bcn_rows.proofs.rows_chosen.Goals as goal

pub returns : goal.returns
returns g c =
    all-chosen g.row.BITS c.args.table.now c.args.s _ c.row_chosen.ensures c.row_chosen-2.ensures c.row_chosen-3.ensures
    c.row_chosen-4.ensures

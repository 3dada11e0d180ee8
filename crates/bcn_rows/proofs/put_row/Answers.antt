-- Two stores of eight bytes, or the row's first texels. Assumes nothing.
use Rattle.crn_blocks.proofs.Putting.{put_both}
use Rattle.bcn_rows.proofs.Laws.{whole_row}
use Rattle.bcn_rows.proofs.put_row.Goals as goal

pub returns-then-n-eq4 : goal.returns-then-n-eq4
returns-then-n-eq4 c =
    let a = c.args in
    put_both a.dst.now a.at a.r.left a.r.right
    c.put_eight.ensures c.put_eight-then-n-eq4.ensures
    (whole_row a.r a.n c.if-n-eq4.true)

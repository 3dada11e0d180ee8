-- The chunk table, the alpha plane's where there is one, and then the colour plane's.
use mathlib.Core.Path.{◌≡◌}
use Rattle.crn_format.specs.Choice.{pick}
use Rattle.crn_formats.specs.Records.{tables_sliced}
use Rattle.crn_decoders.specs.Tables.{CodedTo, codes_of}
use Rattle.crn_decoders.proofs.Made.{coded-at, first-made, alpha-made, color-made, colored, alpha-alone}
use Rattle.crn_decoders.proofs.decoders.make_tables.Goals as goal
use Rattle.crn_decoders.proofs.decoders.make_tables.Goals.{then-alpha, else-alpha}

pub returns-then-color-alpha : goal.returns-then-color-alpha
returns-then-color-alpha c =
    let a = c.args in
    let chunk = first-made a.tables.now.counts _ _ _ _ _ a.s a.alpha c.make.ensures in
    let before : CodedTo (codes_of a.alpha (tables_sliced a.tables.now)) (pick a.alpha 3 1) a.s c.if-alpha.lookup c.if-alpha.sorted =
    elim c.if-alpha.branch [
      | then-alpha w ↦
          rw (w.lookup-is, w.sorted-is) (alpha-made a.tables.now.counts _ _ _ _ _ a.s w.if-alpha.true chunk w.make_pair.ensures)
      | else-alpha w ↦ rw (w.lookup-is, w.sorted-is, w.if-alpha.false) (rw w.if-alpha.false at chunk)
    ] in
    let k : c.if-alpha.k ≡ pick a.alpha 3 1 =
    elim c.if-alpha.branch [ then-alpha w ↦ rw w.if-alpha.true w.k-is | else-alpha w ↦ rw w.if-alpha.false w.k-is ] in
    coded-at (colored a.color a.alpha c.if-color-alpha.true)
    (color-made a.tables.now.counts _ _ _ _ _ a.s a.alpha k before c.make_pair-then-color-alpha.ensures)

pub returns-else-color-alpha : goal.returns-else-color-alpha
returns-else-color-alpha c =
    let a = c.args in
    let chunk = first-made a.tables.now.counts _ _ _ _ _ a.s a.alpha c.make.ensures in
    let before : CodedTo (codes_of a.alpha (tables_sliced a.tables.now)) (pick a.alpha 3 1) a.s c.if-alpha.lookup c.if-alpha.sorted =
    elim c.if-alpha.branch [
      | then-alpha w ↦
          rw (w.lookup-is, w.sorted-is) (alpha-made a.tables.now.counts _ _ _ _ _ a.s w.if-alpha.true chunk w.make_pair.ensures)
      | else-alpha w ↦ rw (w.lookup-is, w.sorted-is, w.if-alpha.false) (rw w.if-alpha.false at chunk)
    ] in
    coded-at (alpha-alone a.color a.alpha c.if-color-alpha.false) before

-- So many parts of the one and one of the other, of both at once.
use mathlib.Core.Path.{refl, ◌∙◌}
use borrow.Author.Rules.{rules}
use Rattle.bcn_colors.proofs.Halves.{exchanged, turned}
use Rattle.bcn_colors.proofs.Colors.{shared, mixing, within}
use Rattle.bcn_colors.proofs.between.Goals as goal

pub overflow_mul-parts : goal.overflow_mul-parts
overflow_mul-parts c = record { fits = (within (shared _ c.share-parts.ensures) c.requires.2 (turned c.requires.2 refl)).0 }

pub overflow_add-parts : goal.overflow_add-parts
overflow_add-parts c =
    let back = turned c.requires.2 (c.rotate_left.ensures ∙ exchanged c.args.x (search rules)) in
    record { fits = (within (shared _ c.share-parts.ensures) c.requires.2 back).1 }

pub overflow_mul-parts-2 : goal.overflow_mul-parts-2
overflow_mul-parts-2 c =
    let back = turned c.requires.2 (c.rotate_left.ensures ∙ exchanged c.args.x (search rules)) in
    record { fits = (within (shared _ c.share-parts.ensures) c.requires.2 back).2 }

pub returns : goal.returns
returns c = λ a b h. mixing a b (shared _ c.share-parts.ensures) h
    (turned h (c.rotate_left.ensures ∙ exchanged c.args.x (search rules))) c.low_bits.ensures

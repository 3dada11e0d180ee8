-- Texels: the tables of a block, its rows, its sixteen texels, a row put, a face's picture. Every lent byte is fixed.
use Prim.Native.Nat.{ℕ, zero, suc, ◌+◌, ◌*◌, ◌/◌, ◌%◌, ◌^◌, ◌<◌}
use mathlib.Core.Path.{◌≡◌, sym, ◌∙◌}
use mathlib.Core.List.{List}
use native.Mathlib.Omega.{arith}
use lib.ListN.{length, get_or}
use lib.Seq.{ext_get_or}
use Rattle.std.specs.Prelude.{⊤}
use Rattle.std.specs.declared.result.Result.{Result}
use Rattle.crn_format.specs.declared.Refusal.{Refusal}
use Rattle.bcn_rows.specs.Rows.{texel_of, row_of, texel_at, Filled}
use Rattle.bcn_rows.specs.declared.Row.{Row}
use Rattle.bcn_rows.specs.declared.Sixteen.{Sixteen}
use Rattle.bcn_rows.proofs.Laws.{in_sixteen}
use Rattle.bcn_colors.proofs.four_colors.Reads as four-colors
use Rattle.bcn_colors.proofs.palette.Reads as palette
use Rattle.bcn_levels.proofs.levels.Reads as levels
use Rattle.bcn_rows.proofs.color_rows.Reads as color-rows
use Rattle.bcn_rows.proofs.level_rows.Reads as level-rows
use Rattle.bcn_rows.proofs.added_rows.Reads as added-rows
use Rattle.bcn_rows.proofs.put_row.Reads as put-row
use Rattle.bcn_blocks.proofs.block_texels.Reads as block-texels
use Rattle.texels.proofs.texels.Reads as texels
use Rattle.texels_abi.proofs.crunch_texels.Reads as crunch-texels
use Rattle.crn_laws_results.specs.Settled.{Settled, SettledIf, the_answer, alike, alike₂}
use Rattle.crn_laws_results.proofs.Numbers.{number_in_tells}
use Rattle.crn_laws_results.proofs.Halves.{little_tells}

-- ---- tables: an answer of so many numbers, each of which is fixed

one_table : (n : ℕ) {r s : List ℕ} (value : ℕ → ℕ) → length r ≡ n → length s ≡ n → ((i : ℕ) → i < n → get_or r i 0 ≡ value i)
    → ((i : ℕ) → i < n → get_or s i 0 ≡ value i) → r ≡ s
one_table n {r} {s} value long long' p q =
    ext_get_or 0 r s (long ∙ sym long') (λ i h. alike (p i (omega (arith, long))) (q i (omega (arith, long))))

pub four_colors-settled : SettledIf (λ a r. length r ≡ 4) four-colors.Post the_answer
four_colors-settled _ _ _ r s _ _ h k p q = one_table 4 _ h k p.each q.each

pub palette-settled : SettledIf (λ a r. length r ≡ 4) palette.Post the_answer
palette-settled _ _ _ r s _ _ h k p q = one_table 4 _ h k p.each q.each

pub levels-settled : SettledIf (λ a r. length r ≡ 8) levels.Post the_answer
levels-settled _ _ _ r s _ _ h k p q = one_table 8 _ h k p.each q.each

-- ---- a block's texels are its numbers

one-row : (r s : Row) → ((i : ℕ) → i < 4 → texel_of r i ≡ texel_of s i) → r ≡ s
unfolding texel_of
one-row r s same = λ i. record { left = left i; right = right i }
  where
    left : r.left ≡ s.left
    left = omega (arith, same 0 (omega arith), same 1 (omega arith))

    right : r.right ≡ s.right
    right = omega (arith, same 2 (omega arith), same 3 (omega arith))

one_block : (r s : Sixteen) → ((t : ℕ) → t < 16 → texel_at r t ≡ texel_at s t) → r ≡ s
unfolding row_of
one_block r s same =
    λ i. record {
      a = one-row r.a s.a (row 0 (omega arith)) i;
      b = one-row r.b s.b (row 1 (omega arith)) i;
      c = one-row r.c s.c (row 2 (omega arith)) i;
      d = one-row r.d s.d (row 3 (omega arith)) i;
    }
  where
    row : (j : ℕ) → j < 4 → (i : ℕ) → i < 4 → texel_of (row_of r j) i ≡ texel_of (row_of s j) i
    row j few i h = in_sixteen r j i h ∙ same (4 * j + i) (omega arith) ∙ sym (in_sixteen s j i h)

filled : {f : ℕ → ℕ} (r s : Sixteen) → Filled f r → Filled f s → r ≡ s
filled r s p q = one_block r s (λ t h. alike (p.each t h) (q.each t h))

pub color_rows-settled : Settled color-rows.Post the_answer
color_rows-settled _ _ _ r s _ _ p q = filled r s p q

pub level_rows-settled : Settled level-rows.Post the_answer
level_rows-settled _ _ _ r s _ _ p q = filled r s p q

pub added_rows-settled : Settled added-rows.Post the_answer
added_rows-settled _ _ _ r s _ _ p q = filled r s p q

-- the numbers of an answer are u64, so that a texel has four bytes
pub record Wide (r : Sixteen) : Type 0 where
  pub left : (j : ℕ) → j < 4 → (row_of r j).left < 256 ^ 8
  pub right : (j : ℕ) → j < 4 → (row_of r j).right < 256 ^ 8

four_bytes : (r : Row) → r.left < 256 ^ 8 → r.right < 256 ^ 8 → (i : ℕ) → i < 4 → texel_of r i < 256 ^ 4
unfolding texel_of
four_bytes r h k zero l = omega arith
four_bytes r h k (suc zero) l = omega (arith, h)
four_bytes r h k (suc (suc zero)) l = omega arith
four_bytes r h k (suc (suc (suc i))) l = omega (arith, k)

wide-texel : (r : Sixteen) → Wide r → (t : ℕ) → t < 16 → texel_at r t < 256 ^ 4
wide-texel r wide t h =
    four_bytes (row_of r (t / 4)) (wide.left (t / 4) (omega arith)) (wide.right (t / 4) (omega arith)) (t % 4) (omega arith)

pub block_texels-settled : SettledIf (λ a r. Wide r) block-texels.Post the_answer
block_texels-settled _ _ _ r s _ _ h k p q =
    one_block r s
    (λ t l. little_tells 4 (texel_at r t) (texel_at s t) (wide-texel r h t l) (wide-texel s k t l) (alike (p.each t l) (q.each t l)))

-- ---- what is put

pub put_row-settled : Settled put-row.Post (λ a r (dst, _). dst.now)
put_row-settled _ _ _ _ _ _ _ p q = alike p q

pub texels-settled : Settled {X = Result ⊤ Refusal × List ℕ} texels.Post (λ a r (format, (face, (blocks, (dst, _)))). (r, dst.now))
texels-settled _ _ _ r s _ _ p q = λ i. (number_in_tells r s (alike p.number q.number) i, alike p.left q.left i)

pub crunch_texels-settled : Settled {X = ℕ × List ℕ} crunch-texels.Post (λ a r (format, (face, (blocks, (rgba, _)))). (r, rgba.now))
crunch_texels-settled _ _ _ _ _ _ _ p q = alike₂ p.number q.number p.left q.left

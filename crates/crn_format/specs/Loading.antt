-- Opening in two calls (document 02, request 2): after the look a load, "that takes the look's record and the same file".
use Rattle.std.specs.Prelude.{ℕ, Bool, true, false, List, [], ◌∷◌, eqb}
use Rattle.crn_format.specs.Choice.{pick, both}
use Rattle.crn_format.specs.Look.{look_of}
use Rattle.crn_format.specs.Opening.{Palettes, Opening, shut, after_look}
use Rattle.crn_format.specs.declared.Part.{Part}
use Rattle.crn_format.specs.declared.Header.{Header}
use Rattle.crn_format.specs.declared.Looked.{Looked}

-- ---- the same record, field by field. proofs/Loads has it that two are the same by this exactly where they are equal

-- two lists, element by element
unfoldable pub same_all : {A : Type 0} → (A → A → Bool) → List A → List A → Bool
same_all same [] [] = true
same_all same [] (y ∷ ys) = false
same_all same (x ∷ xs) [] = false
same_all same (x ∷ xs) (y ∷ ys) = both (same x y) (same_all same xs ys)

unfoldable pub same_part : Part → Part → Bool
same_part a b = both (eqb a.offset b.offset) (both (eqb a.size b.size) (eqb a.count b.count))

-- a header's fields, in four groups
unfoldable pub same_sizes : Header → Header → Bool
same_sizes a b =
    both (eqb a.header_size b.header_size)
    (both (eqb a.header_crc16 b.header_crc16)
    (both (eqb a.data_size b.data_size) (eqb a.data_crc16 b.data_crc16)))

unfoldable pub same_kind : Header → Header → Bool
same_kind a b =
    both (eqb a.width b.width)
    (both (eqb a.height b.height)
    (both (eqb a.levels b.levels)
    (both (eqb a.faces b.faces)
    (both (eqb a.format b.format)
    (both (eqb a.flags b.flags)
    (both (eqb a.reserved b.reserved)
    (both (eqb a.userdata0 b.userdata0) (eqb a.userdata1 b.userdata1))))))))

unfoldable pub same_parts : Header → Header → Bool
same_parts a b =
    both (same_part a.color_endpoints b.color_endpoints)
    (both (same_part a.color_selectors b.color_selectors)
    (both (same_part a.alpha_endpoints b.alpha_endpoints)
    (both (same_part a.alpha_selectors b.alpha_selectors)
    (both (eqb a.tables_size b.tables_size) (eqb a.tables_offset b.tables_offset)))))

unfoldable pub same_levels : Header → Header → Bool
same_levels a b = same_all eqb a.level_offsets b.level_offsets

unfoldable pub same_header : Header → Header → Bool
same_header a b = both (same_sizes a b) (both (same_kind a b) (both (same_parts a b) (same_levels a b)))

-- ---- the load

-- "The load checks again that the record equals what this file's header says"
unfoldable pub agrees : Header → List ℕ → Bool
agrees h file = both (eqb seen.refusal 0) (same_header h seen.header)
  where
    seen : Looked
    seen = look_of file

-- "17, record and file disagree (also where the look refuses the file), comes first in the load, palettes untouched"; then as opening goes
-- on after its look
unfoldable pub loading : Header → List ℕ → Palettes → Opening
loading h file lent = pick (agrees h file) (after_look file lent h) (shut 17 0 lent)

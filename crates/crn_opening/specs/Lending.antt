-- What the two structs lend that an opening fills.
use Rattle.std.specs.Prelude.{◌≡◌, length}
use Rattle.crn_format.specs.Opening.{Palettes, Lengths}
use Rattle.crn_formats.specs.Lent.{lent_of}
use Rattle.crn_opening.specs.SentTables.{AllZero}
use Rattle.crn_opening.specs.declared.lent.PalettesMut.{PalettesMut}
use Rattle.crn_opening.specs.declared.lent.LengthsMut.{LengthsMut}

-- the four palettes
abbrev pub held : PalettesMut → Palettes
held p = lent_of p.color_endpoints.now p.color_selectors.now p.alpha_endpoints.now p.alpha_selectors.now

-- they lie where they lay, and are as long
pub record SamePalettes (a b : PalettesMut) : Type 0 where
  pub color_e : b.color_endpoints.ghost_name ≡ a.color_endpoints.ghost_name
  pub color_s : b.color_selectors.ghost_name ≡ a.color_selectors.ghost_name
  pub alpha_e : b.alpha_endpoints.ghost_name ≡ a.alpha_endpoints.ghost_name
  pub alpha_s : b.alpha_selectors.ghost_name ≡ a.alpha_selectors.ghost_name
  pub color_ends : length b.color_endpoints.now ≡ length a.color_endpoints.now
  pub color_sels : length b.color_selectors.now ≡ length a.color_selectors.now
  pub alpha_ends : length b.alpha_endpoints.now ≡ length a.alpha_endpoints.now
  pub alpha_sels : length b.alpha_selectors.now ≡ length a.alpha_selectors.now

-- the lengths of the five tables
abbrev pub lengths_in : LengthsMut → Lengths
lengths_in t =
    record {
      chunk = t.chunk.now;
      color_ends = t.color_ends.now;
      color_sels = t.color_sels.now;
      alpha_ends = t.alpha_ends.now;
      alpha_sels = t.alpha_sels.now;
    }

-- they lie where they lay
pub record SameLengths (a b : LengthsMut) : Type 0 where
  pub chunk : b.chunk.ghost_name ≡ a.chunk.ghost_name
  pub color_ends : b.color_ends.ghost_name ≡ a.color_ends.ghost_name
  pub color_sels : b.color_sels.ghost_name ≡ a.color_sels.ghost_name
  pub alpha_ends : b.alpha_ends.ghost_name ≡ a.alpha_ends.ghost_name
  pub alpha_sels : b.alpha_sels.ghost_name ≡ a.alpha_sels.ghost_name

-- no table has lengths
abbrev pub NoLengths : Lengths → Type 0
NoLengths t = AllZero t.chunk t.color_ends t.color_sels t.alpha_ends t.alpha_sels

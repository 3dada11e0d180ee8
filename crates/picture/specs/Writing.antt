-- Writing a container (document 02, request 1): each level is unpacked straight into its place, "each level with the full symbol
-- allowance", and what is no block is set last; the output region is the first bytes, as many as the whole has. "2 and 6 on the record
-- first, then 16 any other format, then 12, all before any byte is written; a level's later refusal zeroes the whole output region."
use Rattle.std.specs.Prelude.{ℕ, zero, suc, ◌+◌, List, ◌++◌, length, take, drop, replicate, leb}
use Rattle.crn_format.specs.Choice.{pick}
use Rattle.crn_format.specs.Header.{within_limits}
use Rattle.crn_format.specs.Opening.{Palettes}
use Rattle.crn_format.specs.Unpacking.{Unpacking, unpacked, declined, tables_hold, unpacking}
use Rattle.crn_format.specs.declared.Header.{Header}
use Rattle.crn_format.specs.declared.Record.{Record}
use Rattle.crn_sizes.specs.Sizes.{level_sizes}
use Rattle.crn_sizes.specs.declared.LevelSizes.{LevelSizes}
use Rattle.picture.specs.Kinds.{goes_out}
use Rattle.picture.specs.Surfaces.{Plan}

-- ---- the levels

-- the symbols and the cut-outs of the levels that went through
pub record Sums : Type 0 where
  pub symbols : ℕ
  pub cutouts : ℕ

abbrev pub nothing : Sums
nothing = record { symbols = 0; cutouts = 0 }

abbrev pub more : Sums → ℕ → ℕ → Sums
more t symbols cutouts = record { symbols = t.symbols + symbols; cutouts = t.cutouts + cutouts }

-- a refusal, the level and the bit that it names, and the symbols drawn in all levels, this one's too
pub record Stop : Type 0 where
  pub refusal : ℕ
  pub level : ℕ
  pub bit : ℕ
  pub symbols : ℕ

-- all levels went through, and this is the output; or a level was refused
pub data Put : Type 0 where
  put : Sums → List ℕ → Put
  stopped : Stop → Put

-- a level was answered so; the output so far, and where the level begins in it
unfoldable pub onward : ℕ → ℕ → Sums → List ℕ → (Sums → List ℕ → Put) → Unpacking → Put
onward level from t dst next (unpacked symbols cutouts rest) = next (more t symbols cutouts) (take from dst ++ rest)
onward level from t dst next (declined refusal symbols bit rest) =
    stopped (record { refusal = refusal; level = level; bit = bit; symbols = t.symbols + symbols })

-- n levels from `level` on
unfoldable pub put_from : ℕ → Plan → Record → List ℕ → Palettes → ℕ → Sums → List ℕ → Put
put_from zero pl r file p level t dst = put t dst
put_from (suc n) pl r file p level t dst =
    onward level (pl.from level) t dst (put_from n pl r file p (level + 1))
    (unpacking r file p level z.pitch (pl.step level) z.symbols (drop (pl.from level) dst))
  where
    z : LevelSizes
    z = level_sizes r.header level

-- ---- the whole

-- how a container is written: its plan, and what is set besides the blocks, given the cut-outs of all levels
pub record Container : Type 0 where
  pub plan : Plan
  pub stamp : ℕ → List ℕ → List ℕ

-- written, so many bytes, with the symbols and cut-outs of all levels; or refused. And the output
pub data Writing : Type 0 where
  written : ℕ → Sums → List ℕ → Writing
  refused : Stop → List ℕ → Writing

-- what lies beyond the region is as before
unfoldable pub finished : Container → List ℕ → Put → Writing
finished c beyond (put t d) = written c.plan.total t (c.stamp t.cutouts d ++ beyond)
finished c beyond (stopped s) = refused s (replicate c.plan.total 0 ++ beyond)

-- a refusal before the levels names none of them
abbrev pub early : ℕ → Stop
early refusal = record { refusal = refusal; level = 0; bit = 0; symbols = 0 }

unfoldable pub writing : (Header → Container) → Record → List ℕ → Palettes → List ℕ → Writing
writing of r file p dst =
    pick (within_limits h)
    (pick (tables_hold r.tables)
    (pick (goes_out h.format)
    (pick (leb total (length dst))
    (finished (of h) (drop total dst) (put_from h.levels (of h).plan r file p 0 nothing (take total dst))) (no 12))
    (no 16))
    (no 6))
    (no 2)
  where
    h : Header
    h = r.header

    total : ℕ
    total = (of h).plan.total

    no : ℕ → Writing
    no refusal = refused (early refusal) dst

-- The three promises, as theorems over the own contracts of the functions that people call. `Says X.Post (λ a r e. CLAIM ..)` is read:
-- whatever X is given (a), where it answers r and leaves e as its contract allows, CLAIM holds. The claims are in specs/Promises.antt;
-- what a call is, in specs/Calls.antt. Each theorem is proved by the law of its file: Look, Opening, Level, Levels, Ready, Told,
-- ToldAll, Dds, Loading, Texels. The second promise stands first, since the others follow from it.
--
-- `look`, `look_at`, `load`, `open`, `unpack_level`, `unpack_levels`, `write_dds` and `dds_bytes` are what `crunch` hands out; `load_into`,
-- `open_into` and `unpack_level_by` are the same with the record by its parts; `texels` is the crate of that name; those named `crunch_..`
-- are what C and Rust call.
use mathlib.Core.Path.{◌≡◌, refl}
use Rattle.crn_decomp.proofs.look.Reads as look-call
use Rattle.crn_decomp.proofs.look_at.Reads as look_at
use Rattle.crunch.proofs.load.Reads as load-call
use Rattle.crunch.proofs.«open».Reads as open-call
use Rattle.crn_opening.proofs.load_into.Reads as load-into
use Rattle.crn_opening.proofs.open_into.Reads as open-into
use Rattle.crn_level.proofs.unpack_level.Reads as unpack-level
use Rattle.crn_level.proofs.unpack_level_by.Reads as unpack-level-by
use Rattle.crn_levels.proofs.unpack_levels.Reads as unpack-levels
use Rattle.dds.proofs.write_dds.Reads as write-dds
use Rattle.dds.proofs.dds_bytes.Reads as dds-bytes
use Rattle.crunch_abi.proofs.crunch_look.Reads as crunch-look
use Rattle.crunch_abi.proofs.crunch_look_at.Reads as crunch-look-at
use Rattle.crunch_abi.proofs.crunch_load_parts.Reads as crunch-load-parts
use Rattle.crunch_abi.proofs.crunch_open_parts.Reads as crunch-open-parts
use Rattle.crunch_abi.proofs.crunch_palette_words.Reads as crunch-palette-words
use Rattle.crunch_abi.proofs.crunch_level_sizes.Reads as crunch-level-sizes
use Rattle.crunch_abi.proofs.crunch_unpack_level_parts.Reads as crunch-unpack-level-parts
use Rattle.crunch_abi.proofs.crunch_unpack_levels_parts.Reads as crunch-unpack-levels-parts
use Rattle.crunch_abi.proofs.crunch_write_dds_parts.Reads as crunch-write-dds-parts
use Rattle.crunch_abi.proofs.crunch_dds_bytes.Reads as crunch-dds-bytes
use Rattle.crunch_abi.proofs.crunch_abi_version.Reads as crunch-abi-version
use Rattle.texels.proofs.texels.Reads as texels-call
use Rattle.texels_abi.proofs.crunch_texels.Reads as crunch-texels
use Rattle.crn_format.specs.Look.{looked}
use Rattle.crn_sizes.specs.Sizes.{level_sizes}
use Rattle.picture.specs.Answers.{needed, needed_for}
use Rattle.dds.specs.Header.{dds_of}
use Rattle.crunch_abi.specs.Sizes.{palette_words}
use Rattle.crunch_abi.specs.Version.{abi_version}
use Rattle.crn_promises.specs.Calls.{Says, open_call, open_into_call, open_parts_call, load_call, load_into_call, load_parts_call}
use Rattle.crn_promises.specs.Calls.{level_call, level_by_call, level_parts_call, levels_call, levels_parts_call, dds_call, dds_parts_call}
use Rattle.crn_promises.specs.Calls.{texels_call, crunch_texels_call}
use Rattle.crn_promises.specs.Promises.{LookTotal, OpenTotal, LevelTotal, LevelsTotal, OpenSame, LevelSame, LevelsSame, LevelExact, LevelsExact, OpenReady, LevelReady, LevelsReady, OpenTold, LevelTold, LevelsTold}
use Rattle.crn_promises.specs.Promises.{DdsSame, DdsTotal, DdsExact, DdsReady, DdsTold, BytesTotal}
use Rattle.crn_promises.specs.Promises.{TexelsSame, TexelsTotal, TexelsExact, TexelsNear, TexelsModes, TexelsTold}
use Rattle.crn_promises.specs.Promises.{HeadTotal, LoadSame, LoadTotal, LoadExact, TwoCalls, LoadReady, LoadTold}
use Rattle.crn_promises.proofs.Look as look
use Rattle.crn_promises.proofs.Opening as opening
use Rattle.crn_promises.proofs.Level as level
use Rattle.crn_promises.proofs.Levels as levels
use Rattle.crn_promises.proofs.Ready as ready
use Rattle.crn_promises.proofs.Told as told
use Rattle.crn_promises.proofs.ToldAll as told-all
use Rattle.crn_promises.proofs.Dds as dds
use Rattle.crn_promises.proofs.Loading as loading
use Rattle.crn_promises.proofs.Texels as texels

-- ---- 2. THE SAME. "Each accepted file gives the same palettes and, for one face, the same block bytes as the Rust. What we prove
-- against is written from the published crn_decomp.h." The answer and all that is left are the definitions' (crn_format), for accepted
-- and refused calls alike; that the definitions give the Rust's bytes is shown by stored cases (docs/CASES.md).

pub open-same : Says open-call.Post (λ a r e. OpenSame (open_call a r e))
open-same κ a r e p = p

pub open_into-same : Says open-into.Post (λ a r e. OpenSame (open_into_call a r e))
open_into-same κ a r e p = p

pub crunch_open_parts-same : Says crunch-open-parts.Post (λ a r e. OpenSame (open_parts_call a r e))
crunch_open_parts-same κ a r e p = p

pub unpack_level-same : Says unpack-level.Post (λ a r e. LevelSame (level_call a r e))
unpack_level-same κ a r e p = level.level-same (level_call a r e) r refl p

pub unpack_level_by-same : Says unpack-level-by.Post (λ a r e. LevelSame (level_by_call a r e))
unpack_level_by-same κ a r e p = level.level-same (level_by_call a r e) r refl p

pub crunch_unpack_level_parts-same : Says crunch-unpack-level-parts.Post (λ a r e. LevelSame (level_parts_call a r e))
crunch_unpack_level_parts-same κ a r e p = level.level-same (level_parts_call a r e) p.told p.same p.unpacks

pub unpack_levels-same : Says unpack-levels.Post (λ a r e. LevelsSame (levels_call a r e))
unpack_levels-same κ a r e p = p

pub crunch_unpack_levels_parts-same : Says crunch-unpack-levels-parts.Post (λ a r e. LevelsSame (levels_parts_call a r e))
crunch_unpack_levels_parts-same κ a r e p = p

-- ---- 1. TOTAL. "A file may hold anything, and every argument may be wrong. Each call ends, checks its own arguments, and answers with
-- blocks or with a numbered refusal. A level refused before its first draw leaves the destination untouched; one refused later leaves
-- every block of the grid zero and all else as before." None of these functions has a `requires`, so their contracts speak of every
-- call.

pub look-total : Says look-call.Post (λ (file, _) r e. LookTotal file.now (looked r))
look-total κ (file, _) r e p = look.look-total file.now (looked r) p

pub crunch_look-total : Says crunch-look.Post (λ (file, _) r e. LookTotal file.now r)
crunch_look-total κ (file, _) r e p = look.look-total file.now r p

pub open-total : Says open-call.Post (λ a r e. OpenTotal (open_call a r e))
open-total κ a r e p = opening.open-total (open_call a r e) p

pub open_into-total : Says open-into.Post (λ a r e. OpenTotal (open_into_call a r e))
open_into-total κ a r e p = opening.open-total (open_into_call a r e) p

pub crunch_open_parts-total : Says crunch-open-parts.Post (λ a r e. OpenTotal (open_parts_call a r e))
crunch_open_parts-total κ a r e p = opening.open-total (open_parts_call a r e) p

pub unpack_level-total : Says unpack-level.Post (λ a r e. LevelTotal (level_call a r e))
unpack_level-total κ a r e p = level.level-total (level_call a r e) (unpack_level-same κ a r e p)

pub unpack_level_by-total : Says unpack-level-by.Post (λ a r e. LevelTotal (level_by_call a r e))
unpack_level_by-total κ a r e p = level.level-total (level_by_call a r e) (unpack_level_by-same κ a r e p)

pub crunch_unpack_level_parts-total : Says crunch-unpack-level-parts.Post (λ a r e. LevelTotal (level_parts_call a r e))
crunch_unpack_level_parts-total κ a r e p =
    level.level-total (level_parts_call a r e) (crunch_unpack_level_parts-same κ a r e p)

pub unpack_levels-total : Says unpack-levels.Post (λ a r e. LevelsTotal (levels_call a r e))
unpack_levels-total κ a r e p = levels.levels-total (levels_call a r e) p

pub crunch_unpack_levels_parts-total : Says crunch-unpack-levels-parts.Post (λ a r e. LevelsTotal (levels_parts_call a r e))
crunch_unpack_levels_parts-total κ a r e p = levels.levels-total (levels_parts_call a r e) p

-- ---- 3. EXACT. "With a budget of eight symbols for each chunk and plane plus one for each started group of three chunks, a level is
-- accepted exactly when a script for it exists; the script is the only one, and every block of every face is given by its position and
-- the script."

pub unpack_level-exact : Says unpack-level.Post (λ a r e. LevelExact (level_call a r e))
unpack_level-exact κ a r e p = level.level-exact (level_call a r e) (unpack_level-same κ a r e p)

pub unpack_level_by-exact : Says unpack-level-by.Post (λ a r e. LevelExact (level_by_call a r e))
unpack_level_by-exact κ a r e p = level.level-exact (level_by_call a r e) (unpack_level_by-same κ a r e p)

pub crunch_unpack_level_parts-exact : Says crunch-unpack-level-parts.Post (λ a r e. LevelExact (level_parts_call a r e))
crunch_unpack_level_parts-exact κ a r e p =
    level.level-exact (level_parts_call a r e) (crunch_unpack_level_parts-same κ a r e p)

pub unpack_levels-exact : Says unpack-levels.Post (λ a r e. LevelsExact (levels_call a r e))
unpack_levels-exact κ a r e p = levels.levels-exact (levels_call a r e) p

pub crunch_unpack_levels_parts-exact : Says crunch-unpack-levels-parts.Post (λ a r e. LevelsExact (levels_parts_call a r e))
crunch_unpack_levels_parts-exact κ a r e p = levels.levels-exact (levels_parts_call a r e) p

-- ---- FOR HOSTS. An accepted opening is ready for its levels: none is refused by 2, 5 or 6. With the sizes that a host is told only 0,
-- 4, 7, 8, 13 and 14 can come of a level, and 5 of no opening.

pub open-ready : Says open-call.Post (λ a r e. OpenReady (open_call a r e))
open-ready κ a r e p = opening.open-ready (open_call a r e) p

pub open_into-ready : Says open-into.Post (λ a r e. OpenReady (open_into_call a r e))
open_into-ready κ a r e p = opening.open-ready (open_into_call a r e) p

pub crunch_open_parts-ready : Says crunch-open-parts.Post (λ a r e. OpenReady (open_parts_call a r e))
crunch_open_parts-ready κ a r e p = opening.open-ready (open_parts_call a r e) p

pub unpack_level-ready : Says unpack-level.Post (λ a r e. LevelReady (level_call a r e))
unpack_level-ready κ a r e p = ready.level-ready (level_call a r e) (unpack_level-same κ a r e p)

pub unpack_level_by-ready : Says unpack-level-by.Post (λ a r e. LevelReady (level_by_call a r e))
unpack_level_by-ready κ a r e p = ready.level-ready (level_by_call a r e) (unpack_level_by-same κ a r e p)

pub crunch_unpack_level_parts-ready : Says crunch-unpack-level-parts.Post (λ a r e. LevelReady (level_parts_call a r e))
crunch_unpack_level_parts-ready κ a r e p =
    ready.level-ready (level_parts_call a r e) (crunch_unpack_level_parts-same κ a r e p)

pub unpack_levels-ready : Says unpack-levels.Post (λ a r e. LevelsReady (levels_call a r e))
unpack_levels-ready κ a r e p = ready.levels-ready (levels_call a r e) p

pub crunch_unpack_levels_parts-ready : Says crunch-unpack-levels-parts.Post (λ a r e. LevelsReady (levels_parts_call a r e))
crunch_unpack_levels_parts-ready κ a r e p = ready.levels-ready (levels_parts_call a r e) p

pub crunch_palette_words-so : Says crunch-palette-words.Post (λ (header, _) r e. r ≡ palette_words header)
crunch_palette_words-so κ a r e p = p

pub crunch_level_sizes-so : Says crunch-level-sizes.Post (λ (header, (level, _)) r e. r ≡ level_sizes header level)
crunch_level_sizes-so κ a r e p = p

pub crunch_abi_version-so : Says crunch-abi-version.Post (λ a r e. r ≡ abi_version)
crunch_abi_version-so κ a r e p = p

pub open-told : Says open-call.Post (λ a r e. OpenTold (open_call a r e))
open-told κ a r e p = opening.open-told (open_call a r e) p

pub open_into-told : Says open-into.Post (λ a r e. OpenTold (open_into_call a r e))
open_into-told κ a r e p = opening.open-told (open_into_call a r e) p

pub crunch_open_parts-told : Says crunch-open-parts.Post (λ a r e. OpenTold (open_parts_call a r e))
crunch_open_parts-told κ a r e p = opening.open-told (open_parts_call a r e) p

pub unpack_level-told : Says unpack-level.Post (λ a r e. LevelTold (level_call a r e))
unpack_level-told κ a r e p = told.level-told (level_call a r e) (unpack_level-same κ a r e p)

pub unpack_level_by-told : Says unpack-level-by.Post (λ a r e. LevelTold (level_by_call a r e))
unpack_level_by-told κ a r e p = told.level-told (level_by_call a r e) (unpack_level_by-same κ a r e p)

pub crunch_unpack_level_parts-told : Says crunch-unpack-level-parts.Post (λ a r e. LevelTold (level_parts_call a r e))
crunch_unpack_level_parts-told κ a r e p =
    told.level-told (level_parts_call a r e) (crunch_unpack_level_parts-same κ a r e p)

pub unpack_levels-told : Says unpack-levels.Post (λ a r e. LevelsTold (levels_call a r e))
unpack_levels-told κ a r e p = told-all.levels-told (levels_call a r e) p

pub crunch_unpack_levels_parts-told : Says crunch-unpack-levels-parts.Post (λ a r e. LevelsTold (levels_parts_call a r e))
crunch_unpack_levels_parts-told κ a r e p = told-all.levels-told (levels_parts_call a r e) p

-- ---- REQUEST 1, DDS OUT. "Write one from an opened file: magic, 124-byte header and block data .., faces outermost, each with its levels
-- from large to small. .. The written blocks are those of demand 3, level by level, each level with the full symbol allowance. Refusals: 2
-- and 6 on the record first, then 16 any other format, then 12, all before any byte is written; a level's later refusal zeroes the whole
-- output region."

pub write_dds-same : Says write-dds.Post (λ a r e. DdsSame (dds_call a r e))
write_dds-same κ a r e p = p

pub crunch_write_dds_parts-same : Says crunch-write-dds-parts.Post (λ a r e. DdsSame (dds_parts_call a r e))
crunch_write_dds_parts-same κ a r e p = p

pub write_dds-total : Says write-dds.Post (λ a r e. DdsTotal (dds_call a r e))
write_dds-total κ a r e p = dds.dds_total (dds_call a r e) p

pub crunch_write_dds_parts-total : Says crunch-write-dds-parts.Post (λ a r e. DdsTotal (dds_parts_call a r e))
crunch_write_dds_parts-total κ a r e p = dds.dds_total (dds_parts_call a r e) p

pub write_dds-exact : Says write-dds.Post (λ a r e. DdsExact (dds_call a r e))
write_dds-exact κ a r e p = dds.dds_exact (dds_call a r e) p

pub crunch_write_dds_parts-exact : Says crunch-write-dds-parts.Post (λ a r e. DdsExact (dds_parts_call a r e))
crunch_write_dds_parts-exact κ a r e p = dds.dds_exact (dds_parts_call a r e) p

pub write_dds-ready : Says write-dds.Post (λ a r e. DdsReady (dds_call a r e))
write_dds-ready κ a r e p = dds.dds_ready (dds_call a r e) p

pub crunch_write_dds_parts-ready : Says crunch-write-dds-parts.Post (λ a r e. DdsReady (dds_parts_call a r e))
crunch_write_dds_parts-ready κ a r e p = dds.dds_ready (dds_parts_call a r e) p

pub dds_bytes-so : Says dds-bytes.Post (λ (header, _) r e. (needed r ≡ needed_for dds_of header) × BytesTotal header (needed r))
dds_bytes-so κ (header, _) r e p = (p, dds.bytes-total header (needed r) p)

pub crunch_dds_bytes-so : Says crunch-dds-bytes.Post (λ (header, _) r e. (r ≡ needed_for dds_of header) × BytesTotal header r)
crunch_dds_bytes-so κ (header, _) r e p = (p, dds.bytes-total header r p)

pub write_dds-told : Says write-dds.Post (λ a r e. DdsTold (dds_call a r e))
write_dds-told κ a r e p = dds.dds_told (dds_call a r e) p

pub crunch_write_dds_parts-told : Says crunch-write-dds-parts.Post (λ a r e. DdsTold (dds_parts_call a r e))
crunch_write_dds_parts-told κ a r e p = dds.dds_told (dds_parts_call a r e) p

-- ---- REQUEST 2, OPENING IN TWO CALLS. "Split opening into a header look and a palette load that takes the look's record and the same
-- file. The load checks again that the record equals what this file's header says, since workers have passed the wrong one. One call after
-- the other answers as the old opening did. Refusals: 1 to 3 belong to the look; 17, record and file disagree (also where the look refuses
-- the file), comes first in the load, palettes untouched." The look has its promise above, among the total ones.

-- a file's first bytes are enough for the look
pub look_at-total : Says look_at.Post (λ (head, (length, _)) r e. HeadTotal head.now length (looked r))
look_at-total κ (head, (length, _)) r e p = loading.head_total head.now length (looked r) p

pub crunch_look_at-total : Says crunch-look-at.Post (λ (head, (length, _)) r e. HeadTotal head.now length r)
crunch_look_at-total κ (head, (length, _)) r e p = loading.head_total head.now length r p

pub load-same : Says load-call.Post (λ a r e. LoadSame (load_call a r e))
load-same κ a r e p = loading.whole_same (load_call a r e) p refl

pub load_into-same : Says load-into.Post (λ a r e. LoadSame (load_into_call a r e))
load_into-same κ a r e p = loading.into_same (load_into_call a r e) r refl p

pub crunch_load_parts-same : Says crunch-load-parts.Post (λ a r e. LoadSame (load_parts_call a r e))
crunch_load_parts-same κ a r e p = loading.parts_same (load_parts_call a r e) r refl p

pub load-total : Says load-call.Post (λ a r e. LoadTotal (load_call a r e))
load-total κ a r e p = loading.load-total (load_call a r e) (load-same κ a r e p)

pub load-exact : Says load-call.Post (λ a r e. LoadExact (load_call a r e))
load-exact κ a r e p = loading.load-exact (load_call a r e) (load-same κ a r e p)

pub load-ready : Says load-call.Post (λ a r e. LoadReady (load_call a r e))
load-ready κ a r e p = loading.load-ready (load_call a r e) (load-same κ a r e p)

pub load-told : Says load-call.Post (λ a r e. LoadTold (load_call a r e))
load-told κ a r e p = loading.load-told (load_call a r e) (load-same κ a r e p)

pub load_into-total : Says load-into.Post (λ a r e. LoadTotal (load_into_call a r e))
load_into-total κ a r e p = loading.load-total (load_into_call a r e) (load_into-same κ a r e p)

pub load_into-exact : Says load-into.Post (λ a r e. LoadExact (load_into_call a r e))
load_into-exact κ a r e p = loading.load-exact (load_into_call a r e) (load_into-same κ a r e p)

pub load_into-ready : Says load-into.Post (λ a r e. LoadReady (load_into_call a r e))
load_into-ready κ a r e p = loading.load-ready (load_into_call a r e) (load_into-same κ a r e p)

pub load_into-told : Says load-into.Post (λ a r e. LoadTold (load_into_call a r e))
load_into-told κ a r e p = loading.load-told (load_into_call a r e) (load_into-same κ a r e p)

pub crunch_load_parts-total : Says crunch-load-parts.Post (λ a r e. LoadTotal (load_parts_call a r e))
crunch_load_parts-total κ a r e p = loading.load-total (load_parts_call a r e) (crunch_load_parts-same κ a r e p)

pub crunch_load_parts-exact : Says crunch-load-parts.Post (λ a r e. LoadExact (load_parts_call a r e))
crunch_load_parts-exact κ a r e p = loading.load-exact (load_parts_call a r e) (crunch_load_parts-same κ a r e p)

pub crunch_load_parts-ready : Says crunch-load-parts.Post (λ a r e. LoadReady (load_parts_call a r e))
crunch_load_parts-ready κ a r e p = loading.load-ready (load_parts_call a r e) (crunch_load_parts-same κ a r e p)

pub crunch_load_parts-told : Says crunch-load-parts.Post (λ a r e. LoadTold (load_parts_call a r e))
crunch_load_parts-told κ a r e p = loading.load-told (load_parts_call a r e) (crunch_load_parts-same κ a r e p)

-- a look, a load by what it gave, and an opening of the same file
pub look_then_load : Says look-call.Post (λ (file, _) l _. Says load-call.Post (λ b r f. Says open-call.Post (λ d s g.
    TwoCalls file.now (looked l) (load_call b r f) (open_call d s g))))
look_then_load κ (file, _) l _ p κ₁ b r f q κ₂ d s g o =
    loading.two-calls (load_call b r f) (load-same κ₁ b r f q) file.now (looked l) p (open_call d s g) o

pub look_then_load_into : Says look-call.Post (λ (file, _) l _. Says load-into.Post (λ b r f. Says open-into.Post (λ d s g.
    TwoCalls file.now (looked l) (load_into_call b r f) (open_into_call d s g))))
look_then_load_into κ (file, _) l _ p κ₁ b r f q κ₂ d s g o =
    loading.two-calls (load_into_call b r f) (load_into-same κ₁ b r f q) file.now (looked l) p (open_into_call d s g) o

pub crunch_look_then_load : Says crunch-look.Post (λ (file, _) l _. Says crunch-load-parts.Post (λ b r f. Says crunch-open-parts.Post
    (λ d s g.
    TwoCalls file.now l (load_parts_call b r f) (open_parts_call d s g))))
crunch_look_then_load κ (file, _) l _ p κ₁ b r f q κ₂ d s g o =
    loading.two-calls (load_parts_call b r f) (crunch_load_parts-same κ₁ b r f q) file.now l p (open_parts_call d s g) o

-- ---- REQUEST 4, TEXELS. "Give RGBA bytes for one face's tightly packed blocks into a lent buffer, edges clipped to the given size in
-- pixels. Swizzled kinds come out as stored. .. (BC3 colour has the four-colour mode only; BC1 is the kind with alpha). Against the exact
-- fractions of that specification, unsigned and without sRGB, each channel is less than two steps of 255 away, said over whole numbers.
-- Bytes between rows stay put. Refusals, in order, each leaving the output untouched: 2 format or size, 18 texel pitch below four bytes a
-- pixel, 28 too few block bytes, 12."

pub texels-same : Says texels-call.Post (λ a r e. TexelsSame (texels_call a r e))
texels-same κ a r e p = p

pub crunch_texels-same : Says crunch-texels.Post (λ a r e. TexelsSame (crunch_texels_call a r e))
crunch_texels-same κ a r e p = p

pub texels-total : Says texels-call.Post (λ a r e. TexelsTotal (texels_call a r e))
texels-total κ a r e p = texels.texels-total (texels_call a r e) p

pub crunch_texels-total : Says crunch-texels.Post (λ a r e. TexelsTotal (crunch_texels_call a r e))
crunch_texels-total κ a r e p = texels.texels-total (crunch_texels_call a r e) p

pub texels-exact : Says texels-call.Post (λ a r e. TexelsExact (texels_call a r e))
texels-exact κ a r e p = texels.texels-exact (texels_call a r e) p

pub crunch_texels-exact : Says crunch-texels.Post (λ a r e. TexelsExact (crunch_texels_call a r e))
crunch_texels-exact κ a r e p = texels.texels-exact (crunch_texels_call a r e) p

pub texels-near : Says texels-call.Post (λ a r e. TexelsNear (texels_call a r e))
texels-near κ a r e p = texels.texels-near (texels_call a r e) p

pub crunch_texels-near : Says crunch-texels.Post (λ a r e. TexelsNear (crunch_texels_call a r e))
crunch_texels-near κ a r e p = texels.texels-near (crunch_texels_call a r e) p

pub texels-modes : Says texels-call.Post (λ a r e. TexelsModes (texels_call a r e))
texels-modes κ a r e p = texels.texels-modes (texels_call a r e) p

pub crunch_texels-modes : Says crunch-texels.Post (λ a r e. TexelsModes (crunch_texels_call a r e))
crunch_texels-modes κ a r e p = texels.texels-modes (crunch_texels_call a r e) p

-- with the blocks that are told of a face of a level, which an unpacking leaves, and a picture of the level's size
pub texels-told : Says texels-call.Post (λ a r e. TexelsTold (texels_call a r e))
texels-told κ a r e p = texels.texels-told (texels_call a r e) p

pub crunch_texels-told : Says crunch-texels.Post (λ a r e. TexelsTold (crunch_texels_call a r e))
crunch_texels-told κ a r e p = texels.texels-told (crunch_texels_call a r e) p

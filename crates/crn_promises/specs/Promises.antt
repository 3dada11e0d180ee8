-- The three demands, each as a claim about one call. proofs/Promises.antt has them as theorems over the functions' own contracts.
use Rattle.std.specs.Prelude.{ℕ, ◌+◌, ◌*◌, ◌-◌, ◌%◌, ◌≤◌, ◌<◌, ◌≡◌, true, false, ◌⊎◌, ◌↔◌, List, [], ◌∷◌, ◌++◌, length, get_or, take}
use Rattle.crn_format.specs.declared.Kind.{Kind}
use Rattle.crn_format.specs.declared.Kind.TheVariants.{DXT1, DXT5}
use Rattle.crn_format.specs.Header.{header_of, within_limits, kind_of}
use Rattle.crn_format.specs.Grid.{pixels, painted}
use Rattle.crn_format.specs.Look.{empty_header, found, no, head_bytes, look_of}
use Rattle.crn_format.specs.Opening.{Palettes, shut, opening}
use Rattle.crn_format.specs.Loading.{agrees, loading}
use Rattle.crn_format.specs.Unpacking.{cutout_count, tables_hold, palettes_reach}
use Rattle.crn_format.specs.declared.Header.{Header}
use Rattle.crn_format.specs.declared.Looked.{Looked}
use Rattle.crn_format.specs.declared.Record.{Record}
use Rattle.crn_blocks.specs.Sheet.{In, standing}
use Rattle.crn_opening.specs.Opens.{closed, to_opened, buffers_of, Opens}
use Rattle.crn_sizes.specs.Sizes.{level_sizes}
use Rattle.crn_sizes.specs.declared.LevelSizes.{LevelSizes}
use Rattle.crn_levels.specs.Several.{several_of, Gives}
use Rattle.crunch_abi.specs.Sizes.{palette_words}
use Rattle.crn_laws.specs.Scripts.{Draws}
use Rattle.crn_laws.specs.Levels.{Given, grid_in, kind_in, segment_in, unpacking_in, Passes, ScriptOf, symbols_of, allowed, Tries}
use Rattle.crn_laws.specs.Blocks.{blocks_by}
use Rattle.crn_laws_total.specs.Refusals.{among, opening_refusals, after_look_refusals, level_refusals}
use Rattle.crn_laws_total.specs.Ends.{Open, Shut, Accepted, Declined, bytes_of, behind, own_of, sum_of, SeveralEnds}
use Rattle.picture.specs.Kinds.{goes_out}
use Rattle.picture.specs.Writing.{writing}
use Rattle.picture.specs.Answers.{Writes, needed_for}
use Rattle.picture.specs.declared.Needed.{Needed}
use Rattle.dds.specs.Header.{dds_of}
use Rattle.law_containers.specs.Standing.{Fair, Checked, Writable, early_numbers, level_numbers, Untouched, Zeroed}
use Rattle.law_containers.specs.Dds.{plan_of, Whole}
use Rattle.bcn_format.specs.Channels.{none, byte, exact, Near}
use Rattle.bcn_format.specs.Blocks.{colors, first_word, second_word, color_selector}
use Rattle.bcn_format.specs.Picture.{Bytes, block_start, channel, texel_place, fine, enough, reach}
use Rattle.texels.specs.Sheet.{Within}
use Rattle.texels.specs.Sheet as sheet
use Rattle.texels.specs.Answers.{Answered}
use Rattle.crn_promises.specs.Calls.{OpenCall, LoadCall, LevelCall, LevelsCall, DdsCall, answer_in, after_in, level_of, sums_in, stop_in}
use Rattle.crn_promises.specs.Calls.{TexelsCall}

-- ---- 1. Total. "Each call ends, checks its own arguments, and answers with blocks or with a numbered refusal." That a call ends and
-- asks nothing is what a proved function without `requires` is; how it ends:

-- the header look: the header as read, or 1, 2 or 3, by which an opening is then refused too
pub record LookTotal (file : List ℕ) (a : Looked) : Type 0 where
  pub number : (a.refusal ≡ 0) ⊎ (among a.refusal (1 ∷ 2 ∷ 3 ∷ []) ≡ true)
  pub accepted : a.refusal ≡ 0 → a ≡ found (header_of file)
  pub refused : (a.refusal ≡ 0 → ⊥) → (a ≡ no a.refusal) × ((lent : Palettes) → opening file lent ≡ shut a.refusal 0 lent)

-- "Opening refused by 1 to 5 leaves palettes untouched; later, all four lent buffers zero"; "Opening's refusal returns its number only"
-- (and its bit); "Opening that succeeds leaves words beyond each count, and an unread plane's, alone"
pub record OpenTotal (c : OpenCall) : Type 0 where
  pub number : (c.answer.refusal ≡ 0) ⊎ (among c.answer.refusal opening_refusals ≡ true)
  pub accepted : c.answer.refusal ≡ 0 → (c.answer.at ≡ 0) × Open c.answer.file.header c.lent c.after
  pub refused : (c.answer.refusal ≡ 0 → ⊥)
      → (c.answer ≡ closed c.answer.refusal c.answer.at) × Shut c.lent c.after c.answer.refusal c.answer.at

-- "A level refused before its first draw leaves the destination untouched; one refused later leaves every block of the grid zero and all
-- else as before": `Declined`. The budget is counted down by the symbols that are told, and a refusal has no cut-outs
pub record LevelTotal (c : LevelCall) : Type 0 where
  pub number : (c.answer.refusal ≡ 0) ⊎ (among c.answer.refusal level_refusals ≡ true)
  pub spent : c.left + c.answer.symbols ≡ c.budget
  pub accepted : c.answer.refusal ≡ 0
      → (c.answer.at ≡ 0)
      × Accepted c.given.opened (segment_in c.given) c.given.palettes (grid_in c.given) c.budget c.answer.symbols
      c.answer.cutouts
      c.given.destination c.after
  pub refused : (c.answer.refusal ≡ 0 → ⊥)
      → (c.answer.cutouts ≡ 0)
      × Declined c.given.opened (segment_in c.given) (grid_in c.given) c.budget c.answer.refusal c.answer.symbols
      c.answer.at
      c.given.destination c.after

-- all levels in one call: those before the refused one stand as each was accepted
abbrev pub LevelsTotal : LevelsCall → Type 0
LevelsTotal c = SeveralEnds c.opened c.file c.palettes c.first c.budget c.left c.destination c.after c.answer

-- ---- 2. The same. The answer and all that is left are those of the definitions, which are written from the published header
-- (crn_format); that these are the Rust's where both accept is shown by stored cases

abbrev pub OpenSame : OpenCall → Type 0
OpenSame c = Opens (opening c.file c.lent) c.after c.answer

pub record LevelSame (c : LevelCall) : Type 0 where
  pub answer : c.answer ≡ answer_in (unpacking_in c.given c.budget)
  pub leaves : c.after ≡ after_in (unpacking_in c.given c.budget)
  pub spent : c.left + c.answer.symbols ≡ c.budget

abbrev pub LevelsSame : LevelsCall → Type 0
LevelsSame c =
    Gives (several_of c.opened c.file c.palettes c.first c.budget c.destination) c.left c.after c.answer

-- ---- 3. Exact. "With a budget of eight symbols for each chunk and plane plus one for each started group of three chunks, a level is
-- accepted exactly when a script for it exists; the script is the only one, and every block of every face is given by its position and
-- the script."

-- the level passes the checks before its first draw, ds are its script, and the budget allows for it
pub record Scripted (v : Given) (ds : List Draws) (budget : ℕ) : Type 0 where
  pub passes : Passes v
  pub script : ScriptOf v ds
  pub paid : length (symbols_of v ds) ≤ budget

-- as many symbols as the script has are drawn and taken off the budget; every block stands in its place, and all else is as before
pub record ByScript (c : LevelCall) (ds : List Draws) : Type 0 where
  pub answer : c.answer
      ≡ record {
        refusal = 0;
        at = 0;
        symbols = length (symbols_of c.given ds);
        cutouts = cutout_count (kind_in c.given) (grid_in c.given) (blocks_by c.given ds);
      }
  pub spent : c.left + length (symbols_of c.given ds) ≡ c.budget
  pub block : (f x y : ℕ) → In (grid_in c.given) f x y → standing (grid_in c.given) c.after f x y ≡ blocks_by c.given ds f x y
  pub leaves : c.after ≡ painted (grid_in c.given) (blocks_by c.given ds) (grid_in c.given).faces c.given.destination

pub record LevelExact (c : LevelCall) : Type 0 where
  pub accepted : allowed c.given ≤ c.budget → (c.answer.refusal ≡ 0) ↔
      (Passes c.given × ((ds : List Draws) × ScriptOf c.given ds))
  pub only : Passes c.given → (cs ds : List Draws) → ScriptOf c.given cs → ScriptOf c.given ds → cs ≡ ds
  pub blocks : (ds : List Draws) → Scripted c.given ds c.budget → ByScript c ds
  -- 15 comes exactly where the budget is less than the draws that the level tries
  pub spent : Passes c.given → (t : ℕ) × (Tries c.given t × ((c.answer.refusal ≡ 15) ↔ (c.budget < t)))

-- of the levels from one on, of which there is one at least: each has its script, which the allowances of all pay for
abbrev pub count_from : LevelsCall → ℕ
count_from c = c.opened.header.levels - c.first

abbrev pub length_of : LevelsCall → (ℕ → List Draws) → ℕ → ℕ
length_of c scripts k = length (symbols_of (level_of c k) (scripts k))

abbrev pub cutouts_of : LevelsCall → (ℕ → List Draws) → ℕ → ℕ
cutouts_of c scripts k = cutout_count (kind_in (level_of c k)) (grid_in (level_of c k)) (blocks_by (level_of c k) (scripts k))

pub record AllScripted (c : LevelsCall) (scripts : ℕ → List Draws) : Type 0 where
  pub there : c.first < c.opened.header.levels
  pub passes : (k : ℕ) → k < count_from c → Passes (level_of c k)
  pub script : (k : ℕ) → k < count_from c → ScriptOf (level_of c k) (scripts k)
  pub paid : sum_of (count_from c) (length_of c scripts) ≤ c.budget

pub record AllByScript (c : LevelsCall) (scripts : ℕ → List Draws) : Type 0 where
  pub answer : c.answer
      ≡ record {
        refusal = 0;
        at = 0;
        levels = count_from c;
        symbols = sum_of (count_from c) (length_of c scripts);
        cutouts = sum_of (count_from c) (cutouts_of c scripts);
      }
  pub spent : c.left + sum_of (count_from c) (length_of c scripts) ≡ c.budget
  pub leaves : (k : ℕ) → k < count_from c
      → own_of c.opened.header c.first k c.after
      ≡ painted (grid_in (level_of c k)) (blocks_by (level_of c k) (scripts k)) (grid_in (level_of c k)).faces
      (own_of c.opened.header c.first k c.destination)
  pub beyond : behind c.opened.header c.first (count_from c) c.after ≡ behind c.opened.header c.first (count_from c)
      c.destination

pub record LevelsExact (c : LevelsCall) : Type 0 where
  pub accepted : sum_of (count_from c) (λ k. allowed (level_of c k)) ≤ c.budget
      → (c.answer.refusal ≡ 0)
      ↔ ((c.first < c.opened.header.levels) × ((k : ℕ) → k < count_from c → Passes (level_of c k)
      × ((ds : List Draws) × ScriptOf (level_of c k) ds)))
  pub blocks : (scripts : ℕ → List Draws) → AllScripted c scripts → AllByScript c scripts

-- ---- for hosts: an opened file is ready for its levels, and what is told of sizes is enough

-- what a level is not refused for: a field (2), a table (6), or these palettes (5)
pub record Ready (r : Record) (p : Palettes) : Type 0 where
  pub limits : within_limits r.header ≡ true
  pub tables : tables_hold r.tables ≡ true
  pub palettes : palettes_reach r.header p ≡ true

-- so it is of what an opening accepts, and then no level is refused by 2, 5 or 6
abbrev pub OpenReady : OpenCall → Type 0
OpenReady c = c.answer.refusal ≡ 0 → Ready c.answer.file c.after

abbrev pub unready : List ℕ
unready = 2 ∷ 5 ∷ 6 ∷ []

abbrev pub LevelReady : LevelCall → Type 0
LevelReady c = Ready c.given.opened c.given.palettes → among c.answer.refusal unready ≡ true → ⊥

abbrev pub LevelsReady : LevelsCall → Type 0
LevelsReady c = Ready c.opened c.palettes → among c.answer.refusal unready ≡ true → ⊥

-- with the palettes' words that are told of the file's header no opening is refused by 5
pub record Words (h : Header) (lent : Palettes) : Type 0 where
  pub color_ends : (palette_words h).color_endpoints ≤ length lent.color_ends
  pub color_sels : (palette_words h).color_selectors ≤ length lent.color_sels
  pub alpha_ends : (palette_words h).alpha_endpoints ≤ length lent.alpha_ends
  pub alpha_sels : (palette_words h).alpha_selectors ≤ length lent.alpha_sels

abbrev pub OpenTold : OpenCall → Type 0
OpenTold c = Words (header_of c.file) c.lent → c.answer.refusal ≡ 5 → ⊥

-- what can still refuse a level of an opened file: its segment (4), and its stream (7, 8, 13, 14)
abbrev pub left_to_refuse : List ℕ
left_to_refuse = 4 ∷ 7 ∷ 8 ∷ 13 ∷ 14 ∷ []

-- with the pitch, distance, bytes and symbols that are told of a level that is there
abbrev pub LevelTold : LevelCall → Type 0
LevelTold c =
    Ready c.given.opened c.given.palettes → c.given.number < c.given.opened.header.levels
    → c.given.pitch ≡ z.pitch → c.given.distance ≡ z.distance → z.bytes ≤ length c.given.destination → z.symbols ≤ c.budget
    → (c.answer.refusal ≡ 0) ⊎ (among c.answer.refusal left_to_refuse ≡ true)
  where
    z : LevelSizes
    z = level_sizes c.given.opened.header c.given.number

-- with the sums of the bytes and of the symbols that are told of the levels from one on
abbrev pub LevelsTold : LevelsCall → Type 0
LevelsTold c =
    Ready c.opened c.palettes → c.first < c.opened.header.levels
    → bytes_of c.opened.header c.first (count_from c) ≤ length c.destination
    → sum_of (count_from c) (λ k. (level_sizes c.opened.header (c.first + k)).symbols) ≤ c.budget
    → (c.answer.refusal ≡ 0) ⊎ (among c.answer.refusal left_to_refuse ≡ true)

-- ---- request 1, DDS out: the same promises of a DDS file

-- the same: the answer and the output are the definitions' (picture, dds), for what is written and for what is refused
abbrev pub DdsSame : DdsCall → Type 0
DdsSame c = Writes (writing dds_of c.opened c.file c.palettes c.destination) c.after c.answer

-- total: "Refusals: 2 and 6 on the record first, then 16 any other format, then 12, all before any byte is written; a level's later
-- refusal zeroes the whole output region" (4, 5, 7, 8, 13 or 14; never 15, since each level has "the full symbol allowance"). `Untouched`
-- and `Zeroed` say which test failed or which level cannot be unpacked and why, and what the answer's level, bit and symbols are; a
-- refusal has no bytes and no cut-outs
pub record DdsTotal (c : DdsCall) : Type 0 where
  pub number : (c.answer.refusal ≡ 0) ⊎ (among c.answer.refusal (early_numbers ++ level_numbers) ≡ true)
  pub untouched : among c.answer.refusal early_numbers ≡ true
      → Untouched (dds_of c.opened.header) c.opened c.destination (stop_in c.answer) c.after
  pub zeroed : among c.answer.refusal level_numbers ≡ true
      → Zeroed (dds_of c.opened.header) c.opened c.file c.palettes c.destination (stop_in c.answer) c.after
  pub nothing : (c.answer.refusal ≡ 0 → ⊥) → (c.answer.bytes ≡ 0) × (c.answer.cutouts ≡ 0)

-- exact: "magic, 124-byte header and block data .., faces outermost, each with its levels from large to small. .. The written blocks are
-- those of demand 3, level by level, each level with the full symbol allowance." Written exactly when the checks pass and every level has
-- a script, the only one; the symbols and the cut-outs are then those of the scripts
pub record DdsExact (c : DdsCall) : Type 0 where
  pub accepted : (c.answer.refusal ≡ 0) ↔
      Writable (dds_of c.opened.header) c.opened c.file c.palettes c.destination
  pub only : Checked (dds_of c.opened.header) c.opened c.destination → (l : ℕ) → l < c.opened.header.levels
      → (cs ds : List Draws) → Fair (plan_of c.opened) c.opened c.file c.palettes l cs
      → Fair (plan_of c.opened) c.opened c.file c.palettes l ds → cs ≡ ds
  pub written : c.answer.refusal ≡ 0
      → ((c.answer.level ≡ 0) × (c.answer.at ≡ 0))
      × Whole c.opened c.file c.palettes c.destination c.answer.bytes (sums_in c.answer) c.after

-- "Write one from an opened file": with the palettes that the opening has left it is not refused by 2, 5 or 6
abbrev pub DdsReady : DdsCall → Type 0
DdsReady c = Ready c.opened c.palettes → among c.answer.refusal unready ≡ true → ⊥

-- of a format that goes out, with as many bytes as are told of the header, only a level's segment (4) or stream can refuse it
abbrev pub DdsTold : DdsCall → Type 0
DdsTold c =
    Ready c.opened c.palettes → goes_out c.opened.header.format ≡ true
    → (needed_for dds_of c.opened.header).bytes ≤ length c.destination
    → (c.answer.refusal ≡ 0) ⊎ (among c.answer.refusal left_to_refuse ≡ true)

-- what is told: 2 or 16, as a writing would be refused, and no bytes; or the bytes of the whole file
pub record BytesTotal (h : Header) (a : Needed) : Type 0 where
  pub number : among a.refusal (0 ∷ 2 ∷ 16 ∷ []) ≡ true
  pub limits : (a.refusal ≡ 2) ↔ (within_limits h ≡ false)
  pub format : (a.refusal ≡ 16) ↔ ((within_limits h ≡ true) × (goes_out h.format ≡ false))
  pub told : a.refusal ≡ 0 → a.bytes ≡ (dds_of h).plan.total
  pub nothing : (a.refusal ≡ 0 → ⊥) → a.bytes ≡ 0

-- ---- request 2, opening in two calls: the look, and a load by its record

-- "reading only the first bytes": where these are a file's first bytes, 122 of them or more (or all of a shorter one), and n is how many it
-- has, the answer is the look's at that file
abbrev pub HeadTotal : List ℕ → ℕ → Looked → Type 0
HeadTotal head n a = (file : List ℕ) (k : ℕ) → head_bytes ≤ k → head ≡ take k file → n ≡ length file → LookTotal file a

-- the same: the answer and all that is left are the definition's; where record and file disagree nothing is written that was lent
pub record LoadSame (c : LoadCall) : Type 0 where
  pub leaves : c.after ≡ buffers_of (loading c.header c.file c.lent)
  pub alike : agrees c.header c.file ≡ true → c.answer ≡ to_opened (loading c.header c.file c.lent)
  pub apart : agrees c.header c.file ≡ false
      → (c.answer.refusal ≡ 17) × ((c.answer.at ≡ 0) × ((c.answer.file.header ≡ empty_header) × (c.left ≡ c.had)))

-- total: "17 .. comes first in the load, palettes untouched"; then 4 and 5, with the palettes untouched, and 6 to 9, with all of them zero
pub record LoadTotal (c : LoadCall) : Type 0 where
  pub number : (c.answer.refusal ≡ 0) ⊎ ((c.answer.refusal ≡ 17) ⊎ (among c.answer.refusal after_look_refusals ≡ true))
  pub accepted : c.answer.refusal ≡ 0
      → (c.answer.at ≡ 0) × ((c.answer.file.header ≡ c.header) × Open c.header c.lent c.after)
  pub disagrees : c.answer.refusal ≡ 17 → (c.answer.at ≡ 0) × ((c.after ≡ c.lent) × (c.left ≡ c.had))
  pub refused : among c.answer.refusal after_look_refusals ≡ true
      → (c.answer ≡ closed c.answer.refusal c.answer.at) × Shut c.lent c.after c.answer.refusal c.answer.at

-- exact: "17, record and file disagree (also where the look refuses the file)". The record agrees where it is, in every field, what the
-- look finds in this file
abbrev pub LoadExact : LoadCall → Type 0
LoadExact c = (c.answer.refusal ≡ 17) ↔ (look_of c.file ≡ found c.header → ⊥)

-- "One call after the other answers as the old opening did": a look at a file, a load of that file by what the look gave, and an opening
-- of it with the same palettes. Where the look finds a header, the load answers as the opening and leaves the same; where it refuses, the
-- opening does by the same number, and touches no palette
pub record OneAfterTheOther (file : List ℕ) (a : Looked) (c : LoadCall) (o : OpenCall) : Type 0 where
  pub goes_on : a.refusal ≡ 0 → (c.answer ≡ o.answer) × (c.after ≡ o.after)
  pub refused : (a.refusal ≡ 0 → ⊥) → (o.answer ≡ closed a.refusal 0) × (o.after ≡ o.lent)

abbrev pub TwoCalls : List ℕ → Looked → LoadCall → OpenCall → Type 0
TwoCalls file a c o =
    c.header ≡ a.header → c.file ≡ file → o.file ≡ file → o.lent ≡ c.lent → OneAfterTheOther file a c o

-- what a load accepts is ready for its levels, and with the palettes' words that are told of the record no load is refused by 5
abbrev pub LoadReady : LoadCall → Type 0
LoadReady c = c.answer.refusal ≡ 0 → Ready c.answer.file c.after

abbrev pub LoadTold : LoadCall → Type 0
LoadTold c = Words c.header c.lent → c.answer.refusal ≡ 5 → ⊥

-- ---- request 4, texels

-- the same: the answer and the buffer are the definitions' (bcn_format)
abbrev pub TexelsSame : TexelsCall → Type 0
TexelsSame c = Answered c.format c.face c.blocks c.buffer c.answer c.after

-- total: "Refusals, in order, each leaving the output untouched: 2 format or size, 18 texel pitch below four bytes a pixel, 28 too few
-- block bytes, 12." Each comes exactly where its own test is the first that fails
pub record TexelsTotal (c : TexelsCall) : Type 0 where
  pub number : among c.answer (0 ∷ 2 ∷ 18 ∷ 28 ∷ 12 ∷ []) ≡ true
  pub size : (c.answer ≡ 2) ↔ (fine c.format c.face ≡ false)
  pub pitch : (c.answer ≡ 18) ↔ ((fine c.format c.face ≡ true) × (c.face.pitch < 4 * c.face.width))
  pub blocks : (c.answer ≡ 28) ↔ ((fine c.format c.face ≡ true)
      × ((4 * c.face.width ≤ c.face.pitch) × (length c.blocks < enough (kind_of c.format) c.face)))
  pub room : (c.answer ≡ 12) ↔ ((fine c.format c.face ≡ true)
      × ((4 * c.face.width ≤ c.face.pitch)
      × ((enough (kind_of c.format) c.face ≤ length c.blocks) × (length c.buffer < reach c.face))))
  pub untouched : (c.answer ≡ 0 → ⊥) → c.after ≡ c.buffer

-- exact: "RGBA bytes for one face's tightly packed blocks into a lent buffer, edges clipped to the given size in pixels. .. Bytes between
-- rows stay put." Every byte of the buffer is one of a texel of the face, or stays
pub record TexelsExact (c : TexelsCall) : Type 0 where
  pub texel : c.answer ≡ 0 → (x y k : ℕ) → sheet.In c.face x y → k < 4
      → get_or c.after (texel_place c.face x y + k) 0 ≡ byte (channel (kind_of c.format) c.face c.blocks x y k)
  pub stay : c.answer ≡ 0 → (k : ℕ) → ((x y : ℕ) → sheet.In c.face x y → Within c.face x y k → ⊥)
      → get_or c.after k 0 ≡ get_or c.buffer k 0
  pub long : length c.after ≡ length c.buffer

-- "Against the exact fractions of that specification, unsigned and without sRGB, each channel is less than two steps of 255 away, said over
-- whole numbers": for all blocks of bytes
abbrev pub TexelsNear : TexelsCall → Type 0
TexelsNear c =
    c.answer ≡ 0 → Bytes c.blocks → (x y k : ℕ) → sheet.In c.face x y → k < 4
    → Near (exact (channel (kind_of c.format) c.face c.blocks x y k)) (get_or c.after (texel_place c.face x y + k) 0)

-- where the block of the texel in column x and row y starts, and which of its texels that is
abbrev pub start_of : TexelsCall → Kind → ℕ → ℕ → ℕ
start_of c kind x y = block_start kind c.face x y

abbrev pub in_block : ℕ → ℕ → ℕ
in_block x y = 4 * (y % 4) + x % 4

-- the texel is the fourth colour of three-colour mode: the first word is not above the second, and its selector is 3
abbrev pub CutOut : TexelsCall → ℕ → ℕ → Type 0
CutOut c x y =
    (first_word c.blocks (start_of c DXT1 x y) ≤ second_word c.blocks (start_of c DXT1 x y))
    × (color_selector c.blocks (start_of c DXT1 x y) (in_block x y) ≡ 3)

-- "BC3 colour has the four-colour mode only; BC1 is the kind with alpha"
pub record TexelsModes (c : TexelsCall) : Type 0 where
  -- whatever the words' order
  pub bc3 : c.answer ≡ 0 → kind_of c.format ≡ DXT5 → (x y k : ℕ) → sheet.In c.face x y → k < 3
      → get_or c.after (texel_place c.face x y + k) 0
      ≡ byte (get_or (colors true (first_word c.blocks (start_of c DXT5 x y + 8)) (second_word c.blocks (start_of c DXT5 x y + 8))
      (color_selector c.blocks (start_of c DXT5 x y + 8) (in_block x y))) k none)
  -- black and transparent, or opaque
  pub clear : c.answer ≡ 0 → kind_of c.format ≡ DXT1 → (x y k : ℕ) → sheet.In c.face x y → k < 4 → CutOut c x y
      → get_or c.after (texel_place c.face x y + k) 0 ≡ 0
  pub opaque : c.answer ≡ 0 → kind_of c.format ≡ DXT1 → (x y : ℕ) → sheet.In c.face x y → (CutOut c x y → ⊥)
      → get_or c.after (texel_place c.face x y + 3) 0 ≡ 255

-- of a level of a file whose header is within the limits, with the blocks that are told of a face, a pitch and room enough, nothing is
-- refused
abbrev pub TexelsTold : TexelsCall → Type 0
TexelsTold c =
    (h : Header) (l : ℕ) → within_limits h ≡ true → l < h.levels → c.format ≡ h.format → c.face.width ≡ pixels h.width l
    → c.face.height ≡ pixels h.height l → 4 * c.face.width ≤ c.face.pitch → (level_sizes h l).distance ≤ length c.blocks
    → reach c.face ≤ length c.buffer → c.answer ≡ 0

-- Calls of the entry functions: what each was given, what it answers in document 01's numbers, and what it leaves in what it was lent.
-- One shape serves every function that opens a file, one every function that loads one by a look's record, one every function that unpacks
-- a level, one every function that unpacks several, one every function that writes a DDS file, one every function that gives texels: those
-- with the record whole, those with the record by its parts, and those that C and Rust call. An answer that is a `Result` is read by the
-- view of its crate (`whole`, `opened_by`, `answer_of`, `number_in`), which gives the numbers.
use Rattle.std.specs.Prelude.{ℕ, ⊤, ◌+◌, List, []}
use Rattle.std.specs.Borrow.{Bor, MutBor}
use Rattle.std.specs.declared.result.Result.{Result}
use Rattle.crn_format.specs.Refusals.{number_in}
use Rattle.crn_format.specs.declared.Fault.{Fault}
use Rattle.crn_format.specs.declared.Refusal.{Refusal}
use Rattle.crn_format.specs.Opening.{Palettes, Lengths}
use Rattle.crn_format.specs.Unpacking.{Unpacking, unpacked, declined}
use Rattle.crn_format.specs.declared.Header.{Header}
use Rattle.crn_format.specs.declared.Record.{Record}
use Rattle.crn_formats.specs.Lent.{lent_of, lent}
use Rattle.crn_formats.specs.Records.{record_by, record_lent}
use Rattle.crn_formats.specs.declared.records.CodeTables.{CodeTables}
use Rattle.crn_formats.specs.declared.records.Counts.{Counts}
use Rattle.crn_formats.specs.declared.records.Palettes.{Palettes as Lending}
use Rattle.crn_drawing.specs.Unpacks.{Drawn}
use Rattle.crn_opening.specs.Opens.{Opened, whole, opened_by, arrays_of}
use Rattle.crn_opening.specs.declared.opening.OpenedParts.{OpenedParts}
use Rattle.crn_sizes.specs.Sizes.{level_sizes}
use Rattle.crn_levels.specs.declared.Several.{Several}
use Rattle.crunch_abi.specs.Answers.{answer_of}
use Rattle.crunch_abi.specs.Opening as flat
use Rattle.crunch_abi.specs.declared.loading.OpenedHeader.{OpenedHeader}
use Rattle.crunch_abi.specs.declared.level.Answer.{Answer}
use Rattle.crn_laws.specs.Levels.{Given}
use Rattle.crn_laws_total.specs.Ends.{own_of}
use Rattle.picture.specs.Writing.{Sums, Stop}
use Rattle.picture.specs.declared.Written.{Written}
use Rattle.bcn_format.specs.declared.Face.{Face}

-- A contract says so of every call: what was given, what is answered, and the parameters at exit. The `Post` of a function is its
-- `ensures` as the checker reads it; its first argument are lifetimes.
abbrev pub Says : {K A R E : Type 0} → (K → A → R → E → Type 0) → (A → R → E → Type 0) → Type 0
Says {K} {A} {R} {E} post claim = (κ : K) (a : A) (r : R) (e : E) → post κ a r e → claim a r e

-- ---- opening: refusal 0 and the record, or the refusal, the bit that it names and an empty record

pub record OpenCall : Type 0 where
  pub file : List ℕ
  pub lent : Palettes
  pub after : Palettes
  pub answer : Opened

-- ---- a load: the same by a record that was handed in. What the arrays that are lent for the tables' lengths had, and what is left in
-- them; there are none where the record is handed back whole

pub record LoadCall : Type 0 where
  pub header : Header
  pub file : List ℕ
  pub lent : Palettes
  pub had : Lengths
  pub after : Palettes
  pub left : Lengths
  pub answer : Opened

-- ---- a level: refusal 0, symbols and cut-outs; or the refusal, its bit, the symbols drawn, and no cut-outs

pub record LevelCall : Type 0 where
  pub given : Given
  pub budget : ℕ
  pub left : ℕ
  pub after : List ℕ
  pub answer : Answer

-- what a level was given, but for its budget
abbrev pub given_by : Record → List ℕ → Palettes → ℕ → ℕ → ℕ → List ℕ → Given
given_by r file p n pitch distance dst =
    record { opened = r; file = file; palettes = p; number = n; pitch = pitch; distance = distance; destination = dst }

-- the definition's answer in these numbers, and the destination that it leaves
abbrev pub answer_in : Unpacking → Answer
answer_in (unpacked symbols cutouts after) = record { refusal = 0; at = 0; symbols = symbols; cutouts = cutouts }
answer_in (declined number symbols bit after) = record { refusal = number; at = bit; symbols = symbols; cutouts = 0 }

abbrev pub after_in : Unpacking → List ℕ
after_in (unpacked symbols cutouts after) = after
after_in (declined number symbols bit after) = after

-- ---- the levels from one on, one after another

pub record LevelsCall : Type 0 where
  pub opened : Record
  pub file : List ℕ
  pub palettes : Palettes
  pub first : ℕ
  pub budget : ℕ
  pub destination : List ℕ
  pub left : ℕ
  pub after : List ℕ
  pub answer : Several

-- the k-th of them, given its own bytes, its rows and faces close together
abbrev pub level_of : LevelsCall → ℕ → Given
level_of c k =
    given_by c.opened c.file c.palettes (c.first + k) (level_sizes c.opened.header (c.first + k)).pitch
    (level_sizes c.opened.header (c.first + k)).distance
    (own_of c.opened.header c.first k c.destination)

-- ---- a DDS file: refusal 0, its bytes, symbols and cut-outs; or the refusal, its level and bit, the symbols drawn, and no bytes and no
-- cut-outs

pub record DdsCall : Type 0 where
  pub opened : Record
  pub file : List ℕ
  pub palettes : Palettes
  pub destination : List ℕ
  pub after : List ℕ
  pub answer : Written

-- what an answer tells of a file that was written, and of a refusal
abbrev pub sums_in : Written → Sums
sums_in a = record { symbols = a.symbols; cutouts = a.cutouts }

abbrev pub stop_in : Written → Stop
stop_in a = record { refusal = a.refusal; level = a.level; bit = a.at; symbols = a.symbols }

-- ---- texels: refusal 0, or the refusal

pub record TexelsCall : Type 0 where
  pub format : ℕ
  pub face : Face
  pub blocks : List ℕ
  pub buffer : List ℕ
  pub after : List ℕ
  pub answer : ℕ

-- ---- the functions' parameters: `now` is what a slice or number holds, at entry or at exit

-- a slice that is shown, and one that is lent to be written
abbrev Shown : Type 0
Shown = Bor (List ℕ)

abbrev Lent : Type 0
Lent = MutBor (List ℕ)

abbrev OpenGiven : Type 0
OpenGiven = Shown × (Lent × (Lent × (Lent × (Lent × Unit {0}))))

abbrev OpenIntoGiven : Type 0
OpenIntoGiven = Shown × (Lent × (Lent × (Lent × (Lent × (Lent × (Lent × (Lent × (Lent × (Lent × Unit {0})))))))))

-- a level's number, its pitch and distance, the budget, and the destination
abbrev LevelGiven : Type 0
LevelGiven = ℕ × (ℕ × (ℕ × (MutBor ℕ × (Lent × Unit {0}))))

abbrev WholeGiven : Type 0
WholeGiven = Record × (Shown × (Bor Lending × LevelGiven))

abbrev ByGiven : Type 0
ByGiven = Header × (Bor CodeTables × (Shown × (Bor Lending × LevelGiven)))

abbrev PartsGiven : Type 0
PartsGiven =
    Header × (Counts × (Shown × (Shown × (Shown × (Shown × (Shown × (Shown × (Shown × (Shown × (Shown × (Shown × LevelGiven)))))))))))

abbrev SeveralGiven : Type 0
SeveralGiven = Header × (Bor CodeTables × (Shown × (Bor Lending × (ℕ × (MutBor ℕ × (Lent × Unit {0}))))))

abbrev SeveralPartsGiven : Type 0
SeveralPartsGiven =
    Header × (Counts × (Shown × (Shown × (Shown × (Shown × (Shown ×
    (Shown × (Shown × (Shown × (Shown × (Shown × (ℕ × (MutBor ℕ × (Lent × Unit {0}))))))))))))))

abbrev DdsGiven : Type 0
DdsGiven = Header × (Bor CodeTables × (Shown × (Bor Lending × (Lent × Unit {0}))))

abbrev DdsPartsGiven : Type 0
DdsPartsGiven =
    Header × (Counts × (Shown × (Shown × (Shown × (Shown × (Shown ×
    (Shown × (Shown × (Shown × (Shown × (Shown × (Lent × Unit {0}))))))))))))

-- how an answer tells the record, by the tables' lengths that are left in five lent arrays
abbrev Telling : Type 0
Telling = List ℕ → List ℕ → List ℕ → List ℕ → List ℕ → Opened

-- `open`
abbrev pub open_call : OpenGiven → Result Record Fault → OpenGiven → OpenCall
open_call (file, (ce, (cs, (ae, (al, _))))) r (_, (ce₁, (cs₁, (ae₁, (al₁, _))))) =
    record {
      file = file.now;
      lent = lent_of ce.now cs.now ae.now al.now;
      after = lent_of ce₁.now cs₁.now ae₁.now al₁.now;
      answer = whole r;
    }

-- the record's lengths are in lent arrays
abbrev opening_call : OpenIntoGiven → Telling → OpenIntoGiven → OpenCall
opening_call (file, (ce, (cs, (ae, (al, _))))) told (_, (ce₁, (cs₁, (ae₁, (al₁, (t₁, (t₂, (t₃, (t₄, (t₅, _)))))))))) =
    record {
      file = file.now;
      lent = lent_of ce.now cs.now ae.now al.now;
      after = lent_of ce₁.now cs₁.now ae₁.now al₁.now;
      answer = told t₁.now t₂.now t₃.now t₄.now t₅.now;
    }

-- `open_into`
abbrev pub open_into_call : OpenIntoGiven → Result OpenedParts Fault → OpenIntoGiven → OpenCall
open_into_call given r exit = opening_call given (λ t₁ t₂ t₃ t₄ t₅. opened_by r t₁ t₂ t₃ t₄ t₅) exit

-- `crunch_open_parts`
abbrev pub open_parts_call : OpenIntoGiven → OpenedHeader → OpenIntoGiven → OpenCall
open_parts_call given r exit = opening_call given (λ t₁ t₂ t₃ t₄ t₅. flat.opened_by r t₁ t₂ t₃ t₄ t₅) exit

-- `load`
abbrev pub load_call : Header × OpenGiven → Result Record Fault → Header × OpenGiven → LoadCall
load_call (h, (file, (ce, (cs, (ae, (al, _)))))) r (_, (_, (ce₁, (cs₁, (ae₁, (al₁, _)))))) =
    record {
      header = h;
      file = file.now;
      lent = lent_of ce.now cs.now ae.now al.now;
      had = arrays_of [] [] [] [] [];
      after = lent_of ce₁.now cs₁.now ae₁.now al₁.now;
      left = arrays_of [] [] [] [] [];
      answer = whole r;
    }

-- the record's lengths are in lent arrays
abbrev loading_call : Header × OpenIntoGiven → Telling → Header × OpenIntoGiven → LoadCall
loading_call (h, (file, (ce, (cs, (ae, (al, (t₁, (t₂, (t₃, (t₄, (t₅, _))))))))))) told
    (_, (_, (ce₁, (cs₁, (ae₁, (al₁, (u₁, (u₂, (u₃, (u₄, (u₅, _))))))))))) =
    record {
      header = h;
      file = file.now;
      lent = lent_of ce.now cs.now ae.now al.now;
      had = arrays_of t₁.now t₂.now t₃.now t₄.now t₅.now;
      after = lent_of ce₁.now cs₁.now ae₁.now al₁.now;
      left = arrays_of u₁.now u₂.now u₃.now u₄.now u₅.now;
      answer = told u₁.now u₂.now u₃.now u₄.now u₅.now;
    }

-- `load_into`
abbrev pub load_into_call : Header × OpenIntoGiven → Result OpenedParts Fault → Header × OpenIntoGiven → LoadCall
load_into_call given r exit = loading_call given (λ u₁ u₂ u₃ u₄ u₅. opened_by r u₁ u₂ u₃ u₄ u₅) exit

-- `crunch_load_parts`
abbrev pub load_parts_call : Header × OpenIntoGiven → OpenedHeader → Header × OpenIntoGiven → LoadCall
load_parts_call given r exit = loading_call given (λ u₁ u₂ u₃ u₄ u₅. flat.opened_by r u₁ u₂ u₃ u₄ u₅) exit

-- a level of a record, a file and palettes
abbrev a_level_call : Record → List ℕ → Palettes → LevelGiven → Answer → LevelGiven → LevelCall
a_level_call r file p (n, (pitch, (distance, (budget, (dst, _))))) a (_, (_, (_, (budget₁, (dst₁, _))))) =
    record {
      given = given_by r file p n pitch distance dst.now;
      budget = budget.now;
      left = budget₁.now;
      after = dst₁.now;
      answer = a;
    }

-- `unpack_level`
abbrev pub level_call : WholeGiven → Drawn → WholeGiven → LevelCall
level_call (r, (file, (palettes, given))) a (_, (_, (_, exit))) = a_level_call r file.now (lent palettes.now) given (answer_of a) exit

-- `unpack_level_by`
abbrev pub level_by_call : ByGiven → Drawn → ByGiven → LevelCall
level_by_call (h, (tables, (file, (palettes, given)))) a (_, (_, (_, (_, exit)))) =
    a_level_call (record_lent h tables.now) file.now (lent palettes.now) given (answer_of a) exit

-- `crunch_unpack_level_parts`
abbrev pub level_parts_call : PartsGiven → Answer → PartsGiven → LevelCall
level_parts_call (h, (c, (t₁, (t₂, (t₃, (t₄, (t₅, (file, (ce, (cs, (ae, (al, given)))))))))))) a
    (_, (_, (_, (_, (_, (_, (_, (_, (_, (_, (_, (_, exit)))))))))))) =
    a_level_call (record_by h c t₁.now t₂.now t₃.now t₄.now t₅.now) file.now (lent_of ce.now cs.now ae.now al.now) given a exit

-- `unpack_levels`
abbrev pub levels_call : SeveralGiven → Several → SeveralGiven → LevelsCall
levels_call (h, (tables, (file, (palettes, (first, (budget, (dst, _))))))) s (_, (_, (_, (_, (_, (budget₁, (dst₁, _))))))) =
    record {
      opened = record_lent h tables.now;
      file = file.now;
      palettes = lent palettes.now;
      first = first;
      budget = budget.now;
      destination = dst.now;
      left = budget₁.now;
      after = dst₁.now;
      answer = s;
    }

-- `crunch_unpack_levels_parts`
abbrev pub levels_parts_call : SeveralPartsGiven → Several → SeveralPartsGiven → LevelsCall
levels_parts_call (h, (c, (t₁, (t₂, (t₃, (t₄, (t₅, (file, (ce, (cs, (ae, (al, (first, (budget, (dst, _))))))))))))))) s
    (_, (_, (_, (_, (_, (_, (_, (_, (_, (_, (_, (_, (_, (budget₁, (dst₁, _))))))))))))))) =
    record {
      opened = record_by h c t₁.now t₂.now t₃.now t₄.now t₅.now;
      file = file.now;
      palettes = lent_of ce.now cs.now ae.now al.now;
      first = first;
      budget = budget.now;
      destination = dst.now;
      left = budget₁.now;
      after = dst₁.now;
      answer = s;
    }

-- `write_dds`
abbrev pub dds_call : DdsGiven → Written → DdsGiven → DdsCall
dds_call (h, (tables, (file, (palettes, (dst, _))))) a (_, (_, (_, (_, (dst₁, _))))) =
    record {
      opened = record_lent h tables.now;
      file = file.now;
      palettes = lent palettes.now;
      destination = dst.now;
      after = dst₁.now;
      answer = a;
    }

-- `crunch_write_dds_parts`
abbrev pub dds_parts_call : DdsPartsGiven → Written → DdsPartsGiven → DdsCall
dds_parts_call (h, (c, (t₁, (t₂, (t₃, (t₄, (t₅, (file, (ce, (cs, (ae, (al, (dst, _))))))))))))) a
    (_, (_, (_, (_, (_, (_, (_, (_, (_, (_, (_, (_, (dst₁, _))))))))))))) =
    record {
      opened = record_by h c t₁.now t₂.now t₃.now t₄.now t₅.now;
      file = file.now;
      palettes = lent_of ce.now cs.now ae.now al.now;
      destination = dst.now;
      after = dst₁.now;
      answer = a;
    }

abbrev TexelsGiven : Type 0
TexelsGiven = ℕ × (Face × (Shown × (Lent × Unit {0})))

-- `crunch_texels`
abbrev pub crunch_texels_call : TexelsGiven → ℕ → TexelsGiven → TexelsCall
crunch_texels_call (format, (face, (blocks, (dst, _)))) r (_, (_, (_, (dst₁, _)))) =
    record { format = format; face = face; blocks = blocks.now; buffer = dst.now; after = dst₁.now; answer = r }

-- `texels`
abbrev pub texels_call : TexelsGiven → Result ⊤ Refusal → TexelsGiven → TexelsCall
texels_call given r exit = crunch_texels_call given (number_in r) exit

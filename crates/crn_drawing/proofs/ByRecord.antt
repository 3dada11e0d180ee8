-- From the level by its decoder tables to the level of the record.
use Prim.Native.Nat.{ℕ}
use mathlib.Core.Bool.{Bool}
use mathlib.Core.List.{List}
use mathlib.Core.Path.{◌≡◌, subst, ◌∙◌}
use lib.ListN.{length}
use Rattle.crn_format.specs.declared.Kind.{Kind}
use Rattle.crn_format.specs.Header.{kind_of, has_color, has_alpha}
use Rattle.crn_format.specs.Opening.{Palettes}
use Rattle.crn_format.specs.Unpacking.{Unpacking, drawn_level}
use Rattle.crn_format.specs.declared.Record.{Record}
use Rattle.crn_format.specs.declared.Grid.{Grid}
use Rattle.crn_chunks.specs.Meaning.{Coded}
use Rattle.crn_chunks.specs.declared.Planes.{Planes}
use Rattle.crn_unpacker.specs.Going.{given, Fit}
use Rattle.crn_decoders.specs.declared.decoders.Sizes.{Sizes}
use Rattle.crn_formats.specs.declared.records.Counts.{Counts}
use Rattle.crn_decoders.specs.Tables.{Able, counts_of, CodedTo, codes_by, tables_in}
use Rattle.crn_decoders.specs.Planning.{planes_by, planes_for}
use Rattle.crn_drawing.specs.Unpacks.{Drawn, Unpacks}
use Rattle.crn_drawing.specs.Levels.{Checked, codes_in, tables_for, ended_by}
use Rattle.crn_formats.specs.Lent.{lent_of}
use Rattle.crn_formats.proofs.Limited.{Limited, limited}
use Rattle.crn_drawing.proofs.Formats.{chunk-code, as_kind, served_by}
use Rattle.crn_drawing.proofs.Reaching.{lent, reach_by}

abbrev kind_in : Record → Kind
kind_in r = kind_of r.header.format

-- the tables are made
abbrev Ready : Record → Sizes → List ℕ → List ℕ → Type 0
Ready r s lookup sorted = CodedTo (codes_in r) (tables_for r.header) s lookup sorted

pub ready_by : (r : Record) {s : Sizes} {lookup sorted : List ℕ} {color alpha : Bool} {counts : Counts} → color ≡ has_color (kind_in r) →
    alpha ≡ has_alpha (kind_in r)
    → counts ≡ counts_of r.tables
    → CodedTo (codes_by alpha counts r.tables.chunk_encoding.lengths r.tables.color_endpoint_delta.lengths
    r.tables.color_selector_delta.lengths
    r.tables.alpha_endpoint_delta.lengths r.tables.alpha_selector_delta.lengths) (tables_in color alpha) s lookup sorted
    → Ready r s lookup sorted
ready_by r e₁ e₂ e₃ coded = rw (e₁, e₂, e₃) at coded

module _ (r : Record) (s : Sizes) (lookup sorted seg ends sels alpha_ends alpha_sels : List ℕ) (g : Grid) {n : ℕ}
    (checked : Checked r seg (lent_of ends sels alpha_ends alpha_sels) g n) where
  abbrev palettes : Palettes
  palettes = lent_of ends sels alpha_ends alpha_sels

  limits : Limited r.header
  limits = limited r.header checked.within

  pub fit_by : Able s (length lookup) (length sorted) → Ready r s lookup sorted → {ps : Planes} → ps ≡ planes_for r.header s
      → Fit (given lookup sorted seg ends sels alpha_ends alpha_sels ps g) n
  fit_by able ready e =
      rw e (record {
        short = checked.short;
        served = served_by r s lookup sorted limits able (kind_in r) limits.known ready;
        bytes = checked.bytes ∙ (as_kind r s (kind_in r) limits.known).bytes;
        room = checked.room;
        reach = reach_by r.header s palettes (kind_in r) limits.known (lent r.header palettes checked.palettes);
      })

  same-level : (budget : ℕ) (d : List ℕ)
      → ended_by (kind_in r) (codes_in r) (given lookup sorted seg ends sels alpha_ends alpha_sels (planes_for r.header s) g) budget d ≡
      drawn_level r seg palettes g budget d
  unfolding drawn_level
  same-level budget d = rw (
    (as_kind r s (kind_in r) limits.known).shades palettes,
    (as_kind r s (kind_in r) limits.known).planes,
    chunk-code (has_alpha (kind_in r)) r.tables,
  )

  coded_by : Ready r s lookup sorted → Coded (codes_in r) (planes_for r.header s) lookup sorted
  unfolding planes_by
  coded_by ready = ready.each

  pub level_by : Ready r s lookup sorted → {ps : Planes} → ps ≡ planes_for r.header s → {budget left : ℕ} (d : List ℕ) {e : List ℕ}
      {u : Drawn}
      → ((cs : ℕ → List ℕ) → Coded cs ps lookup sorted → Unpacks
      (ended_by (kind_in r) cs (given lookup sorted seg ends sels alpha_ends alpha_sels ps g) budget d) budget left e u)
      → Unpacks (drawn_level r seg palettes g budget d) budget left e u
  level_by ready {ps} is {budget} {left} d {e} {u} h =
      subst (λ (x : Unpacking). Unpacks x budget left e u) (same-level budget d) (at-planes h)
    where
      at-planes : ((cs : ℕ → List ℕ) → Coded cs ps lookup sorted → Unpacks
          (ended_by (kind_in r) cs (given lookup sorted seg ends sels alpha_ends alpha_sels ps g) budget d) budget left e u)
          → Unpacks (ended_by (kind_in r) (codes_in r) (given lookup sorted seg ends sels alpha_ends alpha_sels (planes_for r.header s) g)
          budget d) budget left e u
      at-planes k =
          subst (λ (p : Planes). ((cs : ℕ → List ℕ) → Coded cs p lookup sorted → Unpacks
          (ended_by (kind_in r) cs (given lookup sorted seg ends sels alpha_ends alpha_sels p g) budget d) budget left e u)) is k
          (codes_in r) (coded_by ready)

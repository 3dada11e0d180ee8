-- A DDS file that was written (document 02, request 1).
use Rattle.std.specs.Prelude.{ℕ, ◌<◌, ◌≡◌, ◌⊎◌, List, ◌++◌, drop}
use Rattle.crn_format.specs.Opening.{Palettes}
use Rattle.crn_format.specs.declared.Record.{Record}
use Rattle.picture.specs.Surfaces.{Plan, picture_of}
use Rattle.picture.specs.Writing.{Sums, Writing, written, refused}
use Rattle.dds.specs.Header.{head_bytes, dds_header, dds_of}
use Rattle.law_containers.specs.Standing.{InBlock, Standing, Refuses}

abbrev pub plan_of : Record → Plan
plan_of r = (dds_of r.header).plan

-- a DDS file of n bytes: "magic, 124-byte header and block data"; each byte is one of the header or of a block, each block is the one that
-- its position and its level's script give, and what lies beyond is as before
pub record Whole (r : Record) (file : List ℕ) (p : Palettes) (dst : List ℕ) (n : ℕ) (t : Sums) (after : List ℕ) : Type 0 where
  pub headed : after ≡ dds_header (picture_of r.header) ++ drop head_bytes after
  pub covered : (i : ℕ) → i < n → (i < head_bytes) ⊎ InBlock (plan_of r) r.header i
  pub standing : Standing (dds_of r.header) r file p dst n t after

-- how writing it ends
abbrev pub DdsEnds : Record → List ℕ → Palettes → List ℕ → Writing → Type 0
DdsEnds r file p dst (written n t after) = Whole r file p dst n t after
DdsEnds r file p dst (refused s after) = Refuses (dds_of r.header) r file p dst s after

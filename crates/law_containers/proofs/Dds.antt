-- A DDS file that was written: its header, and every byte behind it one of a block. Assumes nothing.
use Prim.Native.Nat.{ℕ, ◌+◌, ◌≤◌, ◌<◌}
use mathlib.Core.Path.{◌≡◌, sym, ap, ◌∙◌}
use mathlib.Core.Logic.{◌⊎◌, inl, inr, ⊎_elim}
use mathlib.Core.List.{List, ◌++◌, append_assoc}
use native.Mathlib.Omega.{arith}
use lib.ListN.{length, drop}
use lib.Seq.{length-sets, sets-eq, drop_at}
use Rattle.crn_format.specs.Opening.{Palettes}
use Rattle.crn_format.specs.declared.Record.{Record}
use Rattle.crn_blocks.proofs.Places.{below_or, sets-out}
use Rattle.picture.specs.declared.Picture.{Picture}
use Rattle.picture.specs.Surfaces.{picture_of}
use Rattle.picture.specs.Writing.{Sums, Writing, written, refused, writing}
use Rattle.dds.specs.Header.{head_bytes, dds_header, dds_of}
use Rattle.dds.proofs.Fields.{header-long}
use Rattle.law_containers.specs.Standing.{InBlock, Sound, Stamps}
use Rattle.law_containers.specs.Dds.{plan_of, Whole, DdsEnds}
use Rattle.law_containers.proofs.Places.{face_sound, face_covers}
use Rattle.law_containers.proofs.Covering.{in_block}
use Rattle.law_containers.proofs.Writing.{Made, MadeEnds, made_ends}

module _ (r : Record) where
  abbrev pic : Picture
  pic = picture_of r.header

  pub dds_sound : Sound (picture_of r.header) head_bytes (dds_of r.header).plan
  dds_sound = face_sound head_bytes pic

  pub dds_stamps : Stamps (picture_of r.header) (dds_of r.header)
  dds_stamps =
      record {
        long = λ cutouts d. length-sets d 0 (dds_header pic);
        surfaces = λ cutouts d fits f l i a.
            sets-out (dds_header pic) d 0 i
            (inr (omega (arith, header-long pic, dds_sound.headed f l a.face a.level, a.starts)));
      }

module _ (r : Record) (file : List ℕ) (p : Palettes) (dst : List ℕ) where
  abbrev total : ℕ
  total = (plan_of r).total

  whole : {n : ℕ} {t : Sums} {after : List ℕ} → Made (dds_of r.header) r file p dst n t after
      → Whole r file p dst n t after
  whole {n} {t} {after} m = record { headed = headed; covered = covered; standing = m.standing }
    where
      header : List ℕ
      header = dds_header (pic r)

      rest : List ℕ
      rest = drop (0 + length header) m.blocks ++ drop total dst

      so : after ≡ header ++ rest
      so =
          let fits : 0 + length header ≤ length m.blocks = omega (arith, header-long (pic r), m.long) in
          m.so ∙ ap (λ (d : List ℕ). d ++ drop total dst) (sets-eq header m.blocks 0 fits)
          ∙ append_assoc header (drop (0 + length header) m.blocks) (drop total dst)

      headed : after ≡ dds_header (picture_of r.header) ++ drop head_bytes after
      headed =
          so ∙ ap (λ (d : List ℕ). header ++ d) (sym (ap (drop head_bytes) so ∙ drop_at header rest head_bytes (header-long (pic r))))

      covered : (i : ℕ) → i < n → (i < head_bytes) ⊎ InBlock (plan_of r) r.header i
      covered i h =
          ⊎_elim (λ lt. inl lt) (λ ge.
          let at = face_covers head_bytes (pic r) i ge (omega (arith, m.standing.bytes)) in
          inr (in_block (plan_of r) r.header m.standing.checked.limits at.0 at.1 i at.2)) (below_or i head_bytes)

  pub dds_ends : DdsEnds r file p dst (writing dds_of r file p dst)
  dds_ends = by (writing dds_of r file p dst) (made_ends dds_of r file p dst (dds_sound r) (dds_stamps r))
    where
      by : (w : Writing) → MadeEnds (dds_of r.header) r file p dst w → DdsEnds r file p dst w
      by (written n t after) m = whole m
      by (refused s after) e = e

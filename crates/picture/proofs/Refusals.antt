-- A writing that is refused before its first byte, and the bytes that are told, over every container. Assumes nothing.
use Prim.Native.Nat.{ℕ, ◌<◌}
use mathlib.Core.Path.{◌≡◌, refl}
use mathlib.Core.Bool.{true, false}
use mathlib.Core.List.{List}
use lib.ListN.{length}
use borrow.Author.Tests.{lt-leb}
use Rattle.crn_format.specs.Header.{within_limits}
use Rattle.crn_format.specs.Opening.{Palettes}
use Rattle.crn_format.specs.Unpacking.{tables_hold}
use Rattle.crn_format.specs.declared.Header.{Header}
use Rattle.crn_format.specs.declared.Record.{Record}
use Rattle.picture.specs.declared.Written.{Written}
use Rattle.picture.specs.Kinds.{goes_out}
use Rattle.picture.specs.Writing.{Container, early, writing}
use Rattle.picture.specs.Answers.{stopped_by, Writes, needed_for}

module _ (of : Header → Container) (r : Record) (file : List ℕ) (p : Palettes) (dst : List ℕ) where
  pub no_2 : within_limits r.header ≡ false → {a : Written} → a ≡ stopped_by (early 2) → Writes (writing of r file p dst) dst a
  unfolding writing Writes
  no_2 w i = rw w (i, refl)

  module _ (limits : within_limits r.header ≡ true) where
    pub no_6 : tables_hold r.tables ≡ false → {a : Written} → a ≡ stopped_by (early 6) → Writes (writing of r file p dst) dst a
    unfolding writing Writes
    no_6 w i = rw (limits, w) (i, refl)

    module _ (tables : tables_hold r.tables ≡ true) where
      pub no_16 : goes_out r.header.format ≡ false → {a : Written} → a ≡ stopped_by (early 16)
          → Writes (writing of r file p dst) dst a
      unfolding writing Writes
      no_16 w i = rw (limits, tables, w) (i, refl)

      pub no_12 : goes_out r.header.format ≡ true → length dst < (of r.header).plan.total → {a : Written} → a ≡ stopped_by (early 12)
          → Writes (writing of r file p dst) dst a
      unfolding writing Writes
      no_12 out w i = rw (limits, tables, out, lt-leb _ _ w) (i, refl)

module _ (of : Header → Container) (h : Header) where
  pub needed_2 : within_limits h ≡ false → record { refusal = 2; bytes = 0 } ≡ needed_for of h
  unfolding needed_for
  needed_2 w = rw w

  module _ (limits : within_limits h ≡ true) where
    pub needed_16 : goes_out h.format ≡ false → record { refusal = 16; bytes = 0 } ≡ needed_for of h
    unfolding needed_for
    needed_16 w = rw (limits, w)

    pub needed_so : goes_out h.format ≡ true → {n : ℕ} → n ≡ (of h).plan.total → record { refusal = 0; bytes = n } ≡ needed_for of h
    unfolding needed_for
    needed_so w so = rw (limits, w) (λ i. record { refusal = 0; bytes = so i })

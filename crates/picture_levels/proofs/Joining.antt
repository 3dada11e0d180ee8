-- What is put into the region, and what lies beyond it, is the writing, over every container. Assumes nothing.
use Rattle.std.specs.Prelude.{Ok, Err}
use Prim.Native.Nat.{ℕ, ◌+◌, ◌≤◌}
use mathlib.Core.Path.{◌≡◌, refl, sym, ap, subst, ◌∙◌}
use mathlib.Core.Bool.{true}
use mathlib.Core.List.{List, ◌++◌, append_assoc}
use native.Mathlib.Omega.{arith}
use lib.ListN.{length, take, drop, replicate, length-append}
use lib.Seq.{sets, sets-eq, drop-append-le, length-take-le}
use borrow.Author.Tests.{le-leb}
use Rattle.crn_format.specs.Header.{within_limits}
use Rattle.crn_format.specs.Opening.{Palettes}
use Rattle.crn_format.specs.Unpacking.{tables_hold}
use Rattle.crn_format.specs.declared.Header.{Header}
use Rattle.crn_format.specs.declared.Record.{Record}
use Rattle.picture.specs.Kinds.{goes_out}
use Rattle.picture.specs.Writing.{Put, put, stopped, put_from, nothing, Container, finished, writing}
use Rattle.picture.specs.Answers.{wrote_by, stopped_by, Writes}
use Rattle.picture_levels.specs.declared.Put.{Put as LevelsPut}
use Rattle.picture_levels.specs.declared.NotPut.{NotPut}
use Rattle.picture_levels.specs.Puts.{sums_of, stop_of, Puts}

-- the definition's answer, by the code's
was_in : (q : Put) (before d : List ℕ) {a : LevelsPut} → Puts q before d (Ok a) → q ≡ put (sums_of a) d
unfolding Puts
was_in (put t e) before d h = cc (h.0, h.1)
was_in (stopped s) before d h = absurd h

was_not : (q : Put) (before d : List ℕ) (x : NotPut) → Puts q before d (Err x)
    → (q ≡ stopped (stop_of x)) × (d ≡ replicate (length before) 0)
unfolding Puts
was_not (put t e) before d x h = absurd h
was_not (stopped s) before d x h = (ap stopped (sym h.0), h.1)

-- what is set at the front of a whole is set at the front of its first part
pub sets-front : (vs region beyond : List ℕ) → length vs ≤ length region → sets (region ++ beyond) 0 vs ≡ sets region 0 vs ++ beyond
sets-front vs region beyond fits =
    sets-eq vs (region ++ beyond) 0 (omega (arith, length-append region beyond))
    ∙ ap (λ (l : List ℕ). vs ++ l) (drop-append-le (0 + length vs) region beyond (omega arith))
    ∙ sym (append_assoc vs (drop (0 + length vs) region) beyond)
    ∙ ap (λ (l : List ℕ). l ++ beyond) (sym (sets-eq vs region 0 (omega arith)))

module _ (of : Header → Container) (r : Record) (file : List ℕ) (p : Palettes) (dst : List ℕ) (limits : within_limits r.header ≡ true)
    (tables : tables_hold r.tables ≡ true) (out : goes_out r.header.format ≡ true) {n : ℕ} (is : n ≡ (of r.header).plan.total)
    (room : n ≤ length dst) where
  -- by a number that is the total
  by_region : writing of r file p dst
      ≡ finished (of r.header) (drop n dst) (put_from r.header.levels (of r.header).plan r file p 0 nothing (take n dst))
  unfolding writing
  by_region = rw (limits, tables, out, is, le-leb _ _ (subst (λ (k : ℕ). k ≤ length dst) is room))

  module _ (region : List ℕ) where
    pub written_so : (a : LevelsPut)
        → Puts (put_from r.header.levels (of r.header).plan r file p 0 nothing (take n dst)) (take n dst) region (Ok a)
        → {after : List ℕ} → after ≡ (of r.header).stamp a.cutouts region ++ drop n dst
        → Writes (writing of r file p dst) after (wrote_by n (sums_of a))
    unfolding finished Writes
    written_so a puts so = rw (by_region, was_in _ (take n dst) region puts) ((λ j. wrote_by (is j) (sums_of a)), so)

    pub stopped_so : (x : NotPut)
        → Puts (put_from r.header.levels (of r.header).plan r file p 0 nothing (take n dst)) (take n dst) region (Err x)
        → Writes (writing of r file p dst) (region ++ drop n dst) (stopped_by (stop_of x))
    unfolding finished Writes
    stopped_so x puts =
        let w = was_not _ (take n dst) region x puts in
        let zero : region ≡ replicate (of r.header).plan.total 0 =
        w.1 ∙ ap (λ (m : ℕ). replicate m 0) (length-take-le n dst room ∙ is)
        in
        rw (by_region, w.0) (refl, ap (λ (l : List ℕ). l ++ drop n dst) zero)

-- Several levels in one call, one level's blocks where those of the level before end: it is `unpacking` again and again, until a level is refused.
use Rattle.std.specs.Prelude.{ℕ, suc, zero, ◌+◌, ◌-◌, ◌≡◌, List, ◌++◌, take, drop}
use Rattle.crn_format.specs.Opening.{Palettes}
use Rattle.crn_format.specs.Unpacking.{Unpacking, unpacked, declined, unpacking}
use Rattle.crn_format.specs.declared.Record.{Record}
use Rattle.crn_sizes.specs.Sizes.{level_sizes}
use Rattle.crn_sizes.specs.declared.LevelSizes.{LevelSizes}
use Rattle.crn_levels.specs.declared.Several.{Several}

-- how far it has come: the next level, where its blocks begin, the budget that is left; and the levels that went through, with their symbols and cut-outs
pub record Far : Type 0 where
  pub level : ℕ
  pub from : ℕ
  pub left : ℕ
  pub levels : ℕ
  pub symbols : ℕ
  pub cutouts : ℕ

-- how it ended: the answer, the budget that is left, the destination
pub record Ended : Type 0 where
  pub answer : Several
  pub left : ℕ
  pub after : List ℕ

abbrev pub begun : ℕ → ℕ → Far
begun first budget = record { level = first; from = 0; left = budget; levels = 0; symbols = 0; cutouts = 0 }

abbrev pub further : Far → ℕ → ℕ → ℕ → Far
further f bytes symbols cutouts =
    record {
      level = f.level + 1;
      from = f.from + bytes;
      left = f.left - symbols;
      levels = f.levels + 1;
      symbols = f.symbols + symbols;
      cutouts = f.cutouts + cutouts;
    }

-- all went through
abbrev pub through : Far → List ℕ → Ended
through f dst =
    record {
      answer = record { refusal = 0; at = 0; levels = f.levels; symbols = f.symbols; cutouts = f.cutouts };
      left = f.left;
      after = dst;
    }

-- a level that so many bytes are for was answered so: on with the next, or its refusal
unfoldable pub onward : Far → ℕ → List ℕ → (Far → List ℕ → Ended) → Unpacking → Ended
onward f bytes dst next (unpacked symbols cutouts rest) = next (further f bytes symbols cutouts) (take f.from dst ++ rest)
onward f bytes dst next (declined refusal symbols bit rest) =
    record {
      answer = record { refusal = refusal; at = bit; levels = f.levels; symbols = f.symbols + symbols; cutouts = f.cutouts };
      left = f.left - symbols;
      after = take f.from dst ++ rest;
    }

-- n levels more
unfoldable pub several_from : ℕ → Record → List ℕ → Palettes → Far → List ℕ → Ended
unfolding onward
several_from zero r file p f dst = through f dst
several_from (suc n) r file p f dst =
    onward f z.bytes dst (several_from n r file p) (unpacking r file p f.level z.pitch z.distance f.left (drop f.from dst))
  where
    z : LevelSizes
    z = level_sizes r.header f.level

-- the level `first`, and those after it
abbrev pub several_of : Record → List ℕ → Palettes → ℕ → ℕ → List ℕ → Ended
several_of r file p first budget dst = several_from (suc (r.header.levels - suc first)) r file p (begun first budget) dst

-- an answer, the budget left and the destination are as the definition has them
pub record Gives (e : Ended) (left : ℕ) (after : List ℕ) (r : Several) : Type 0 where
  pub answer : r ≡ e.answer
  pub budget : left ≡ e.left
  pub leaves : after ≡ e.after

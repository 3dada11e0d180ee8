-- The sizes that are chosen for a level: lookups are as large as their bits say, and there is room for every symbol.
use Prim.Native.Nat.{ℕ, ◌+◌, ◌*◌, ◌^◌, ◌≤◌, ◌<◌}
use mathlib.Core.Bool.{Bool, true, false, ◌&&◌}
use mathlib.Core.Path.{◌≡◌, refl}
use native.Mathlib.Omega.{arith}
use lib.Dec.{leb}
use Rattle.crn_format.specs.Choice.{pick}
use Rattle.crn_format.specs.Limits.{max_symbols}
use Rattle.crn_format.specs.Unpacking.{tables_hold}
use Rattle.crn_format.specs.declared.Tables.{Tables}
use Rattle.crn_formats.specs.declared.records.Counts.{Counts}
use Rattle.crn_decoders.specs.declared.decoders.Sizes.{Sizes}
use Rattle.crn_decoders.specs.Tables.{Few, Able, Long, AllFair, counts_of, all_few, wide_for, sizes_for}
use Rattle.crn_decoders.proofs.Made.{few-all, AllFairIf, all_fair_if, all_there, at_most}

pub record Sized (c : Counts) (s : Sizes) : Type 0 where
  pub some : 0 < s.most
  pub few : s.most ≤ 13
  pub entries : 32 + 2 ^ s.most ≤ s.lookup_step
  pub words : s.lookup_step ≤ 4128
  pub fewer : s.sorted_step ≤ 1024 → s.lookup_step ≤ 2080
  pub symbols : s.sorted_step ≤ 8192
  pub room : Few c max_symbols → Few c s.sorted_step

-- lookups of so many bits in so many words, where no table is for more than 1,024 symbols, and where one may be
few-sized : (c : Counts) (most words : ℕ) → (0 < most) × (most ≤ 13) → 32 + 2 ^ most ≤ words → words ≤ 2080 → all_few c ≡ true
    → Sized c (record { most = most; lookup_step = words; sorted_step = 1024 })
few-sized c most words m entries below e =
    record {
      some = m.0;
      few = m.1;
      entries = entries;
      words = omega arith;
      fewer = λ _. below;
      symbols = omega arith;
      room = λ _. few-all c e;
    }

all-sized : (c : Counts) (most words : ℕ) → (0 < most) × (most ≤ 13) → 32 + 2 ^ most ≤ words → words ≤ 4128
    → Sized c (record { most = most; lookup_step = words; sorted_step = 8192 })
all-sized c most words m entries below =
    record {
      some = m.0;
      few = m.1;
      entries = entries;
      words = below;
      fewer = λ h. omega arith;
      symbols = omega arith;
      room = λ h. h;
    }

sized_by : (c : Counts) (few small tiny wide : Bool) → all_few c ≡ few
    → Sized c (pick few (pick small (record { most = pick tiny 5 8; lookup_step = 288; sorted_step = 1024 })
    (record { most = 11; lookup_step = 2080; sorted_step = 1024 }))
    (pick wide (record { most = 12; lookup_step = 4128; sorted_step = 8192 })
    (record { most = 11; lookup_step = 2080; sorted_step = 8192 })))
sized_by c true true true wide e = few-sized c 5 288 (omega arith, omega arith) (omega arith) (omega arith) e
sized_by c true true false wide e = few-sized c 8 288 (omega arith, omega arith) (omega arith) (omega arith) e
sized_by c true false tiny wide e = few-sized c 11 2080 (omega arith, omega arith) (omega arith) (omega arith) e
sized_by c false small tiny true e = all-sized c 12 4128 (omega arith, omega arith) (omega arith) (omega arith)
sized_by c false small tiny false e = all-sized c 11 2080 (omega arith, omega arith) (omega arith) (omega arith)

pub sized : (c : Counts) (columns rows : ℕ) {s : Sizes} → s ≡ sizes_for c columns rows → Sized c s
unfolding sizes_for
sized c columns rows e = rw e (sized_by c (all_few c) (leb columns 16 && leb rows 16) (leb columns 4 && leb rows 4)
    (wide_for c columns rows) refl)

-- there is room for five of them in arrays for five of m words and of n symbols
pub able_in : {c : Counts} {s : Sizes} (m n : ℕ) → Sized c s → s.lookup_step ≤ m → s.sorted_step ≤ n → Able s (5 * m) (5 * n)
able_in m n z a b = record { some = z.some; few = z.few; entries = z.entries; lookups = omega arith; sorteds = omega arith }

-- tables that hold are fair by the sizes that their counts have
pub fair_by_if : (t : Tables) {s : Sizes} → tables_hold t ≡ true → Sized (counts_of t) s → AllFairIf t s.sorted_step
fair_by_if t holds z = all_fair_if t _ holds (z.room (at_most t holds))

pub fair_by : (t : Tables) {s : Sizes} → Long t → tables_hold t ≡ true → Sized (counts_of t) s → AllFair t s.sorted_step
fair_by t long holds z = all_there t long (fair_by_if t holds z)

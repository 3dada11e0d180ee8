-- Decoder tables one after another: what is asked of a record's tables, and one table more.
use Prim.Native.Nat.{ℕ, ◌+◌, ◌*◌, ◌≤◌, ◌<◌}
use mathlib.Core.Bool.{Bool, true, false, false≢true, not, ◌&&◌, ◌||◌}
use mathlib.Core.List.{List, ◌++◌}
use mathlib.Core.Path.{◌≡◌, refl, sym}
use native.Mathlib.Omega.{arith}
use native.Mathlib.Decide.{ℕ_discrete}
use lib.ListN.{length, take}
use lib.Dec.{leb, eqb}
use borrow.Author.Tests.{leb-true, eqb-true}
use Rattle.crn_format.specs.Choice.{pick, either}
use Rattle.crn_format.specs.Limits.{max_symbols}
use Rattle.crn_format.specs.Codes.{all_fit, is_code}
use Rattle.crn_format.specs.Grid.{nth_list}
use Rattle.crn_format.specs.Unpacking.{table_holds, tables_hold}
use Rattle.crn_format.specs.declared.Table.{Table}
use Rattle.crn_format.specs.declared.Tables.{Tables}
use Rattle.crn_symbol_codec.specs.Decoders.{Decodes}
use Rattle.crn_decoders.specs.declared.decoders.Sizes.{Sizes}
use Rattle.crn_formats.specs.declared.records.Counts.{Counts}
use Rattle.crn_decoders.specs.Tables.{counts_of, Few, Long, Fair, AllFair, Able, CodedTo, codes_by, tables_in}
use Rattle.crn_format.proofs.Choices.{both_hold, and_hold}
use Rattle.crn_chunks.specs.Meaning.{part}
use Rattle.crn_blocks.proofs.Places.{further}
use Rattle.crn_decoders.proofs.Parts.{part-here, part-before}

-- ---- where a table stands

-- the part of number k, of five that there is room for
pub place_in : (n words k : ℕ) → 5 * n ≤ words → k < 5 → k * n + n ≤ words
place_in n words k room h = omega (arith, further n h)

pub able-kept : {s : Sizes} {m n m' n' : ℕ} → Able s m n → m' ≡ m → n' ≡ n → Able s m' n'
able-kept able e f =
    record {
      some = able.some;
      few = able.few;
      entries = able.entries;
      lookups = omega (arith, able.lookups);
      sorteds = omega
          (arith, able.sorteds);
    }

pub coded-at : {cs : ℕ → List ℕ} {m n : ℕ} {s : Sizes} {lookup sorted : List ℕ} → m ≡ n → CodedTo cs m s lookup sorted → CodedTo cs n s
    lookup sorted
coded-at e coded = record { each = λ k h. coded.each k (omega arith) }

module _ (cs : ℕ → List ℕ) (k : ℕ) (s : Sizes) (lookup sorted ys zs us vs : List ℕ) where
  pub one_more : k * s.lookup_step + s.lookup_step ≤ length lookup → k * s.sorted_step + s.sorted_step ≤ length sorted
      → length ys ≡ s.lookup_step → length us ≡ s.sorted_step → {ls : List ℕ} → cs k ≡ ls → Decodes ls ys us → CodedTo cs k s lookup sorted
      → CodedTo cs (k + 1) s (take (k * s.lookup_step) lookup ++ (ys ++ zs)) (take (k * s.sorted_step) sorted ++ (us ++ vs))
  one_more fits₁ fits₂ long₁ long₂ is decodes before = record { each = λ j h. by j h (ℕ_discrete j k) }
    where
      here : Decodes (cs k) (part s.lookup_step (take (k * s.lookup_step) lookup ++ (ys ++ zs)) k)
          (part s.sorted_step (take (k * s.sorted_step) sorted ++ (us ++ vs)) k)
      here = rw (part-here s.lookup_step lookup k fits₁ ys zs long₁, part-here s.sorted_step sorted k fits₂ us vs long₂, is) decodes

      by : (j : ℕ) → j < k + 1 → Dec (j ≡ k) → Decodes (cs j) (part s.lookup_step (take (k * s.lookup_step) lookup ++ (ys ++ zs)) j)
          (part s.sorted_step (take (k * s.sorted_step) sorted ++ (us ++ vs)) j)
      by j h (yes e) = rw e here
      by j h (no ne) =
          let l : j < k = omega arith in
          rw (part-before s.lookup_step lookup k fits₁ j l (ys ++ zs), part-before s.sorted_step sorted k fits₂ j l (us ++ vs))
          (before.each j l)

-- ---- tables that hold

none_fit : (ls : List ℕ) (n : ℕ) → n ≡ 0 → all_fit (take n ls) (length (take n ls)) ≡ true
unfolding all_fit
none_fit ls n e = rw e

either-fits : (ls : List ℕ) (n : ℕ) (none : Bool) → eqb n 0 ≡ none → either none (is_code (take n ls)) ≡ true → all_fit (take n ls)
    (length (take n ls)) ≡ true
either-fits ls n true e h = none_fit ls n (eqb-true n 0 e)
either-fits ls n false e h = (both_hold (all_fit (take n ls) (length (take n ls))) _ h).0

-- fair if there are so many lengths: `Fair` but for that they are there, which a record's type says of its arrays
pub record FairIf (lengths : List ℕ) (count room : ℕ) : Type 0 where
  pub few : count ≤ max_symbols
  pub short : all_fit (take count lengths) (length (take count lengths)) ≡ true
  pub fits : count ≤ room

pub record AllFairIf (t : Tables) (room : ℕ) : Type 0 where
  pub first : FairIf t.chunk_encoding.lengths t.chunk_encoding.count room
  pub color_e : FairIf t.color_endpoint_delta.lengths t.color_endpoint_delta.count room
  pub color_s : FairIf t.color_selector_delta.lengths t.color_selector_delta.count room
  pub alpha_e : FairIf t.alpha_endpoint_delta.lengths t.alpha_endpoint_delta.count room
  pub alpha_s : FairIf t.alpha_selector_delta.lengths t.alpha_selector_delta.count room

pub fair_if : (t : Table) (room : ℕ) → table_holds t ≡ true → t.count ≤ room → FairIf t.lengths t.count room
fair_if t room h fits =
    let p = both_hold (leb t.count max_symbols) _ h in
    record { few = leb-true t.count max_symbols p.0; short = either-fits t.lengths t.count (eqb t.count 0) refl p.1; fits = fits }

pub all_fair_if : (t : Tables) (room : ℕ) → tables_hold t ≡ true → Few (counts_of t) room → AllFairIf t room
unfolding tables_hold
all_fair_if t room h few =
    let p0 = both_hold (table_holds t.chunk_encoding) _ h in
    let p1 = both_hold (table_holds t.color_endpoint_delta) _ p0.1 in
    let p2 = both_hold (table_holds t.color_selector_delta) _ p1.1 in
    let p3 = both_hold (table_holds t.alpha_endpoint_delta) _ p2.1 in
    record {
      first = fair_if t.chunk_encoding room p0.0 few.chunk;
      color_e = fair_if t.color_endpoint_delta room p1.0 few.color_ends;
      color_s = fair_if t.color_selector_delta room p2.0 few.color_sels;
      alpha_e = fair_if t.alpha_endpoint_delta room p3.0 few.alpha_ends;
      alpha_s = fair_if t.alpha_selector_delta room p3.1 few.alpha_sels;
    }

-- and they are there
there : {lengths : List ℕ} {count room : ℕ} → max_symbols ≤ length lengths → FairIf lengths count room → Fair lengths count room
there long f = record { inside = omega (arith, f.few); few = f.few; short = f.short; fits = f.fits }

pub all_there : (t : Tables) {room : ℕ} → Long t → AllFairIf t room → AllFair t room
all_there t long f =
    record {
      first = there long.chunk f.first;
      color_e = there long.color_ends f.color_e;
      color_s = there long.color_sels f.color_s;
      alpha_e = there long.alpha_ends f.alpha_e;
      alpha_s = there long.alpha_sels f.alpha_s;
    }

pub fair : (t : Table) (room : ℕ) → max_symbols ≤ length t.lengths → table_holds t ≡ true → t.count ≤ room → Fair t.lengths t.count room
fair t room long h fits = there long (fair_if t room h fits)

pub all_fair : (t : Tables) (room : ℕ) → Long t → tables_hold t ≡ true → Few (counts_of t) room → AllFair t room
all_fair t room long h few = all_there t long (all_fair_if t room h few)

-- the code's test of five counts
pub few-all : (c : Counts) → ((((leb c.chunk 1024 && leb c.color_ends 1024) && leb c.color_sels 1024) && leb c.alpha_ends 1024) && leb
    c.alpha_sels 1024) ≡ true
    → Few c 1024
few-all c e =
    let p4 = and_hold _ (leb c.alpha_sels 1024) e in
    let p3 = and_hold _ (leb c.alpha_ends 1024) p4.0 in
    let p2 = and_hold _ (leb c.color_sels 1024) p3.0 in
    let p1 = and_hold (leb c.chunk 1024) (leb c.color_ends 1024) p2.0 in
    record {
      chunk = leb-true _ _ p1.0;
      color_ends = leb-true _ _ p1.1;
      color_sels = leb-true _ _ p2.1;
      alpha_ends = leb-true _ _ p3.1;
      alpha_sels = leb-true _ _ p4.1;
    }

-- a table that holds is for 8,192 symbols at most
pub at_most : (t : Tables) → tables_hold t ≡ true → Few (counts_of t) max_symbols
unfolding tables_hold
at_most t h =
    let p0 = both_hold (table_holds t.chunk_encoding) _ h in
    let p1 = both_hold (table_holds t.color_endpoint_delta) _ p0.1 in
    let p2 = both_hold (table_holds t.color_selector_delta) _ p1.1 in
    let p3 = both_hold (table_holds t.alpha_endpoint_delta) _ p2.1 in
    record {
      chunk = leb-true _ _ (both_hold (leb t.chunk_encoding.count max_symbols) _ p0.0).0;
      color_ends = leb-true _ _ (both_hold (leb t.color_endpoint_delta.count max_symbols) _ p1.0).0;
      color_sels = leb-true _ _ (both_hold (leb t.color_selector_delta.count max_symbols) _ p2.0).0;
      alpha_ends = leb-true _ _ (both_hold (leb t.alpha_endpoint_delta.count max_symbols) _ p3.0).0;
      alpha_sels = leb-true _ _ (both_hold (leb t.alpha_selector_delta.count max_symbols) _ p3.1).0;
    }

-- ---- all tables of a format

-- the alpha plane's tables, where there is one, and then the colour plane's
module _ (c : Counts) (chunk color_ends color_sels alpha_ends alpha_sels : List ℕ) (s : Sizes) where
  abbrev cs_of : Bool → ℕ → List ℕ
  cs_of alpha = codes_by alpha c chunk color_ends color_sels alpha_ends alpha_sels

  pub first-made : (alpha : Bool) {l₀ s₀ l₁ s₁ : List ℕ}
      → ((cs : ℕ → List ℕ) → cs 0 ≡ take c.chunk chunk → CodedTo cs 0 s l₀ s₀ → CodedTo cs 1 s l₁ s₁) → CodedTo (cs_of alpha) 1 s l₁ s₁
  unfolding codes_by nth_list
  first-made alpha first = first (cs_of alpha) refl (record { each = λ k h. absurd (omega arith) })

  pub alpha-made : {alpha : Bool} {l₁ s₁ l₂ s₂ : List ℕ} → alpha ≡ true → CodedTo (cs_of alpha) 1 s l₁ s₁
      → ((cs : ℕ → List ℕ) → cs 1 ≡ take c.alpha_ends alpha_ends → cs 2 ≡ take c.alpha_sels alpha_sels → CodedTo cs 1 s l₁ s₁ → CodedTo cs
      3 s l₂ s₂)
      → CodedTo (cs_of alpha) (pick alpha 3 1) s l₂ s₂
  unfolding codes_by nth_list
  alpha-made is before more = rw is (more (cs_of true) refl refl (rw is at before))

  pub color-made : (alpha : Bool) {k : ℕ} {l₁ s₁ l₂ s₂ : List ℕ} → k ≡ pick alpha 3 1 → CodedTo (cs_of alpha) (pick alpha 3 1) s l₁ s₁
      → ((cs : ℕ → List ℕ) → cs k ≡ take c.color_ends color_ends → cs (k + 1) ≡ take c.color_sels color_sels → CodedTo cs k s l₁ s₁
      → CodedTo cs (k + 2) s l₂ s₂)
      → CodedTo (cs_of alpha) (pick alpha 5 3) s l₂ s₂
  unfolding codes_by nth_list
  color-made true is before more = (rw is at more) (cs_of true) refl refl before
  color-made false is before more = (rw is at more) (cs_of false) refl refl before

-- how many there then are
pub colored : (color alpha : Bool) → (color || not alpha) ≡ true → pick alpha 5 3 ≡ tables_in color alpha
colored true true e = refl
colored true false e = refl
colored false true e = absurd (false≢true e)
colored false false e = refl

pub alpha-alone : (color alpha : Bool) → (color || not alpha) ≡ false → pick alpha 3 1 ≡ tables_in color alpha
alpha-alone true alpha e = absurd (false≢true (sym e))
alpha-alone false true e = refl
alpha-alone false false e = absurd (false≢true (sym e))

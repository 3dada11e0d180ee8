-- From a palette's first bit to its entries: its tables are received, and what is left to be run ends as the palette does.
use Prim.Native.Nat.{ℕ, ◌≤◌}
use mathlib.Core.Bool.{Bool, true, false, ◌&&◌}
use mathlib.Core.List.{List, []}
use mathlib.Core.Path.{◌≡◌, refl, sym, ap, subst, ◌∙◌}
use native.Mathlib.Omega.{arith}
use lib.ListN.{take}
use lib.Dec.{leb, ltb}
use borrow.Author.Tests.{leb-true}
use Rattle.crn_format.specs.Reading.{Reading, next, Step, Place, spot, start, run, from_bits}
use Rattle.crn_format.specs.Tables.{table}
use Rattle.crn_format.specs.Opening.{zeros}
use Rattle.crn_symbol_codec.specs.Cursors.{place, Holds}
use Rattle.crn_symbol_codec.specs.Decoders.{Decodes, SomeCode}
use Rattle.crn_symbol_codec.specs.declared.Cursor.{Cursor}
use Rattle.crn_palettes.specs.Filling.{Fills, FillsFrom}
use Rattle.crn_palettes.specs.Reaching.{Reached, Reaches, Codes, few_of, reached_by, Counted, Lengths, Received}
use Rattle.crn_code_tables.specs.Receiving.{Received as Sent}
use Rattle.std.specs.Prelude.{Ok, Err, ⊤}
use Rattle.std.specs.declared.result.Result.{Result}
use Rattle.crn_format.specs.declared.Fault.{Fault}
use Rattle.crn_palettes.proofs.Leaving.{Left, left_is, left-next, left-stop, next-holds}
use Rattle.crn_palettes.proofs.Entering.{fills_none}

-- at the first bit all is left
pub all_left : (seg : List ℕ) (m : Reading (List ℕ)) (c : Cursor) → place c ≡ 0 → Left seg m c (run (from_bits seg) m start)
all_left seg m c e = record { blamed = 0; same = ap (λ (p : ℕ). run (from_bits seg) m (spot p 0)) e }

-- what is left fills the buffer, so the palette does
pub fills_left : {seg : List ℕ} {m rest : Reading (List ℕ)} {d : Cursor} {before after : List ℕ} {r : Result ⊤ Fault}
    → FillsFrom seg d rest before after r → Left seg rest d (run (from_bits seg) m start)
    → Fills seg m before after r
fills_left {m = m} f l = f m l.blamed (sym l.same)

-- a table that was received, with its decoder table
module _ {seg : List ℕ} {c : Cursor} {lent : List ℕ} {r : Sent} (x : Lengths seg c lent r) where
  pub table-codes : {n : ℕ} {d : Cursor} → r ≡ Ok (n, d) → Codes lent n
  table-codes e = subst (Counted (Codes lent)) e x.codes

  pub table-holds : {n : ℕ} {d : Cursor} → r ≡ Ok (n, d) → Holds seg d
  table-holds e = next-holds (Holds seg) (x.reads 0).holds (ap reached_by e)

  pub table-left : {n : ℕ} {d : Cursor} → r ≡ Ok (n, d) → (k : List ℕ → Reading (List ℕ)) {whole : Step Place (List ℕ)} → Left seg
      (next table k) c whole → Left seg (k x.lengths) d whole
  table-left e k l = left-next k l x.reads (ap reached_by e)

  -- the same by the first lengths that were lent
  pub table-rest : {n : ℕ} {d : Cursor} → r ≡ Ok (n, d) → (k : List ℕ → Reading (List ℕ)) {whole : Step Place (List ℕ)} → Left seg
      (next table k) c whole → Left seg (k (take n lent)) d whole
  table-rest e k l =
      let same = subst (Counted (λ n. take n lent ≡ x.lengths)) e x.same in
      left_is (ap k (sym same)) (table-left e k l)

  -- a table that is refused, where the buffer is then cleared
  pub table-refused : {y : Fault} → r ≡ Err y → (k : List ℕ → Reading (List ℕ)) {m : Reading (List ℕ)} {before after : List ℕ}
      → Left seg (next table k) c (run (from_bits seg) m start) → after ≡ zeros before
      → Fills seg m before after (Err y)
  table-refused e k {before = before} l z = fills_none before (left-stop k l x.reads (ap reached_by e)) refl z

  pub table_decoder : {n : ℕ} {d : Cursor} → r ≡ Ok (n, d) → {lookup sorted : List ℕ} → Decodes (take n lent) lookup sorted → Received seg c
      lookup sorted (Ok d)
  table_decoder e {lookup} {sorted} k =
      record {
        lengths = x.lengths;
        reads = λ b. subst (λ (y : Sent). Reaches seg table c b x.lengths (reached_by y)) e (x.reads b);
        decodes = rw (subst (Counted (λ n. take n lent ≡ x.lengths)) e x.same) at k;
      }

  pub no_table : {y : Fault} → r ≡ Err y → (lookup sorted : List ℕ) → Received seg c lookup sorted (Err y)
  no_table e lookup sorted =
      record {
        lengths = x.lengths;
        reads = λ b. subst (λ (y : Sent). Reaches seg table c b x.lengths (reached_by y)) e (x.reads b);
        decodes = tt;
      }

module _ {seg : List ℕ} {c : Cursor} {lookup sorted : List ℕ} {r : Reached} (x : Received seg c lookup sorted r) where
  module _ {d : Cursor} (e : r ≡ Ok d) where
    pub received_holds : Holds seg d
    received_holds = next-holds (Holds seg) (x.reads 0).holds e

    pub received_code : Decodes x.lengths lookup sorted
    received_code = next-holds (λ _. Decodes x.lengths lookup sorted) x.decodes e

    pub received_some : SomeCode lookup sorted
    received_some = record { code = x.lengths; decodes = received_code }

    pub received_left : (k : List ℕ → Reading (List ℕ)) {whole : Step Place (List ℕ)} → Left seg (next table k) c whole → Left seg
        (k x.lengths) d whole
    received_left k l = left-next k l x.reads e

  -- a table that is refused, where the buffer is then cleared
  pub received_none : (k : List ℕ → Reading (List ℕ)) {m : Reading (List ℕ)} {before after : List ℕ} {y : Fault} → Left seg (next table k) c
      (run (from_bits seg) m start) → r ≡ Err y → after ≡ zeros before
      → Fills seg m before after (Err y)
  received_none k {before = before} l e z = fills_none before (left-stop k l x.reads e) refl z

-- ---- a palette that has one table, received at its first bit: its entries are asked for what the table gives, and fill what the palette
-- does

module _ {seg lent : List ℕ} {c d : Cursor} {r : Sent} {n : ℕ} {lookup sorted : List ℕ} (x : Lengths seg c lent r) (e : r ≡ Ok (n, d))
    (k : Decodes (take n lent) lookup sorted) where
  pub entries_ask : Holds seg d × SomeCode lookup sorted
  entries_ask = let y = table_decoder x e k in (received_holds y refl, received_some y refl)

  pub entries-fill : (m : Reading (List ℕ)) (rest : List ℕ → Reading (List ℕ)) → next table rest ≡ m → {before after : List ℕ}
      {w : Result ⊤ Fault} → place c ≡ 0
      → ((ls : List ℕ) → Decodes ls lookup sorted → FillsFrom seg d (rest ls) before after w) → Fills seg m before after w
  entries-fill m rest is first fills =
      let y = table_decoder x e k in
      fills_left (fills y.lengths (received_code y refl)) (received_left y refl rest (rw is (all_left seg m c first)))

pub entries_none : {seg lent : List ℕ} {c : Cursor} {r : Sent} {y : Fault} (x : Lengths seg c lent r) → r ≡ Err y
    → (m : Reading (List ℕ)) (rest : List ℕ → Reading (List ℕ)) → next table rest ≡ m → {before after : List ℕ} → place c ≡ 0 → after ≡
    zeros before
    → Fills seg m before after (Err y)
entries_none {seg = seg} {c = c} x e m rest is first z =
    received_none (no_table x e [] []) rest (rw is (all_left seg m c first)) refl z

-- ---- where small arrays do, they have room for either table

both_hold : (a b c : Bool) → (a && b) && c ≡ true → (a ≡ true) × (b ≡ true)
both_hold true true c e = (refl, refl)
both_hold true false c e = (refl, e)
both_hold false b c e = let z : ◌≡◌ {A = ℕ} 0 1 = cc in absurd (omega arith)

pub few_fit : {r : Bool} (symbols others entries : ℕ) → r ≡ few_of symbols others entries → r ≡ true → (symbols ≤ 256) × (others ≤ 256)
unfolding few_of
few_fit symbols others entries e t =
    let both = both_hold (leb symbols 256) (leb others 256) (ltb entries 1000) (sym e ∙ t) in
    (leb-true symbols 256 both.0, leb-true others 256 both.1)

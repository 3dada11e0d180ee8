-- Tables that hold make codes: each symbol with a code can be written in it.
use Prim.Native.Nat.{ℕ, ◌<◌}
use mathlib.Core.Path.{◌≡◌, refl}
use mathlib.Core.Bool.{Bool, true, false}
use mathlib.Core.List.{List, [], ◌∷◌, ◌++◌}
use native.Mathlib.Omega.{arith}
use lib.ListN.{length, take}
use lib.Dec.{leb, eqb, ltb}
use borrow.Author.Tests.{leb-true, eqb-true}
use Rattle.crn_format.specs.Choice.{either}
use Rattle.crn_format.specs.Limits.{all_room, max_symbols}
use Rattle.crn_format.specs.Codes.{room, all_fit, longest, is_code}
use Rattle.crn_format.specs.Reading.{a_symbol}
use Rattle.crn_format.specs.Script.{Writable}
use Rattle.crn_format.specs.declared.Kind.{Kind}
use Rattle.crn_format.specs.declared.Kind.TheVariants.{DXT1, DXT5, DXT5A, DXN, Unknown}
use Rattle.crn_format.specs.Header.{kind_of}
use Rattle.crn_format.specs.Level.{Plane}
use Rattle.crn_format.specs.Unpacking.{lengths_of, table_holds, tables_hold, per_plane, planes_of}
use Rattle.crn_format.specs.declared.Table.{Table}
use Rattle.crn_format.specs.declared.Record.{Record}
use Rattle.crn_format.proofs.Choices.{both_hold}
use Rattle.crn_format.proofs.Kraft.{codes_fit, code_fits}
use Rattle.crn_static_huffman_data_model.proofs.Room.{fit_short}
use Rattle.crn_laws.specs.Scripts.{Sent, sent, HasCode, AllCoded, Draws, in_code, endpoints_sent, position_sent, selectors_sent, chunk_sent, level_sent}
use Rattle.crn_laws.proofs.Following.{AllIn}

-- each symbol with a code can be written
abbrev Writes : List ℕ → Type 0
Writes ls = (y : ℕ) → HasCode (sent ls y) → Writable (a_symbol ls) y

code_writes : (ls : List ℕ) → is_code ls ≡ true → Writes ls
unfolding Writable
code_writes ls e y h =
    let few = leb-true _ _ (both_hold (leb (room ls (length ls)) all_room) (ltb 0 (longest ls))
    (both_hold (all_fit ls (length ls)) _ e).1).0 in
    let low = fit_short ls (code_fits ls e) y in
    (h.known, (h.coded, (low, codes_fit ls y low few h.known h.coded)))

table_writes : (t : Table) → table_holds t ≡ true → Writes (lengths_of t)
table_writes t e y h = by (eqb t.count 0) refl (both_hold (leb t.count max_symbols) _ e).1
  where
    by : (b : Bool) → eqb t.count 0 ≡ b → either b (is_code (lengths_of t)) ≡ true → Writable (a_symbol (lengths_of t)) y
    by true is f = absurd (none t.count (eqb-true t.count 0 is) h.known)
      where
        none : (n : ℕ) → n ≡ 0 → y < length (take n t.lengths) → ⊥
        none n e h = let z : y < 0 = rw e at h in omega arith
    by false is f = code_writes (lengths_of t) f y h

-- ---- the symbols of a level

unfoldable AllWrite : List Sent → Type 0
AllWrite [] = Unit {0}
AllWrite (s ∷ more) = Writes s.code × AllWrite more

all_in : (ss : List Sent) → AllWrite ss → AllCoded ss → AllIn ss
unfolding AllWrite AllCoded AllIn
all_in [] w h = tt
all_in (s ∷ ss) w h = (w.0 s.symbol h.0, all_in ss w.1 h.1)

both_write : (xs ys : List Sent) → AllWrite xs → AllWrite ys → AllWrite (xs ++ ys)
unfolding AllWrite
both_write [] ys h g = g
both_write (x ∷ xs) ys h g = (h.0, both_write xs ys h.1 g)

in_code_write : (ls ys : List ℕ) → Writes ls → AllWrite (in_code ls ys)
unfolding AllWrite in_code
in_code_write ls [] w = tt
in_code_write ls (y ∷ ys) w = (w, in_code_write ls ys w)

unfoldable PlanesWrite : List Plane → Type 0
PlanesWrite [] = Unit {0}
PlanesWrite (p ∷ ps) = Writes p.endpoint_deltas × (Writes p.selector_deltas × PlanesWrite ps)

endpoints_write : (ps : List Plane) (yss : List (List ℕ)) → PlanesWrite ps → AllWrite (endpoints_sent ps yss)
unfolding PlanesWrite endpoints_sent
endpoints_write [] yss w = unfold AllWrite in tt
endpoints_write (p ∷ ps) [] w = unfold AllWrite in tt
endpoints_write (p ∷ ps) (ys ∷ yss) w =
    both_write (in_code p.endpoint_deltas ys) (endpoints_sent ps yss) (in_code_write p.endpoint_deltas ys w.0)
    (endpoints_write ps yss w.1.1)

position_write : (ps : List Plane) (ys : List ℕ) → PlanesWrite ps → AllWrite (position_sent ps ys)
unfolding PlanesWrite position_sent AllWrite
position_write [] ys w = tt
position_write (p ∷ ps) [] w = tt
position_write (p ∷ ps) (y ∷ ys) w = (w.1.0, position_write ps ys w.1.1)

selectors_write : (ps : List Plane) (yss : List (List ℕ)) → PlanesWrite ps → AllWrite (selectors_sent ps yss)
unfolding selectors_sent
selectors_write ps [] w = unfold AllWrite in tt
selectors_write ps (ys ∷ yss) w = both_write (position_sent ps ys) (selectors_sent ps yss) (position_write ps ys w)
    (selectors_write ps yss w)

level_write : (table : List ℕ) (ps : List Plane) (ds : List Draws) → Writes table → PlanesWrite ps → AllWrite (level_sent table ps ds)
unfolding level_sent chunk_sent
level_write table ps [] t w = unfold AllWrite in tt
level_write table ps (d ∷ ds) t w =
    both_write (chunk_sent table ps d) (level_sent table ps ds)
    (both_write (in_code table d.symbols) (endpoints_sent ps d.endpoints ++ selectors_sent ps d.selectors) (in_code_write table d.symbols t)
    (both_write (endpoints_sent ps d.endpoints) (selectors_sent ps d.selectors) (endpoints_write ps d.endpoints w)
    (selectors_write ps d.selectors w)))
    (level_write table ps ds t w)

planes_write : (k : Kind) (c a : Plane) → PlanesWrite (c ∷ []) → PlanesWrite (a ∷ []) → PlanesWrite (per_plane k c a)
unfolding per_plane PlanesWrite
planes_write DXT1 c a h g = h
planes_write DXT5 c a h g = (g.0, (g.1.0, h))
planes_write DXT5A c a h g = g
planes_write DXN c a h g = (g.0, (g.1.0, g))
planes_write Unknown c a h g = tt

-- every symbol of a script can be written
pub script_in_lem : (r : Record) (ds : List Draws) → tables_hold r.tables ≡ true → AllCoded
    (level_sent (lengths_of r.tables.chunk_encoding) (planes_of r) ds)
    → AllIn (level_sent (lengths_of r.tables.chunk_encoding) (planes_of r) ds)
unfolding tables_hold PlanesWrite
script_in_lem r ds e h =
    let t = r.tables in
    let p0 = both_hold (table_holds t.chunk_encoding) _ e in
    let p1 = both_hold (table_holds t.color_endpoint_delta) _ p0.1 in
    let p2 = both_hold (table_holds t.color_selector_delta) _ p1.1 in
    let p3 = both_hold (table_holds t.alpha_endpoint_delta) _ p2.1 in
    all_in _
    (level_write (lengths_of t.chunk_encoding) (planes_of r) ds (table_writes t.chunk_encoding p0.0)
    (planes_write (kind_of r.header.format) _ _
    (table_writes t.color_endpoint_delta p1.0, (table_writes t.color_selector_delta p2.0, tt))
    (table_writes t.alpha_endpoint_delta p3.0, (table_writes t.alpha_selector_delta p3.1, tt))))
    h

-- The tiles of an encoding: the table's bytes are the definition's list.
use Prim.Native.Nat.{ℕ, ◌+◌, ◌*◌, ◌/◌, ◌%◌, ◌<◌}
use mathlib.Core.Path.{◌≡◌}
use mathlib.Core.List.{List}
use native.Mathlib.Omega.{arith}
use lib.Dec.{T, eqb}
use lib.ListN.{length, get_or}
use Rattle.crn_format.specs.Level.{tile_map, tile_at}
use Rattle.crn_consts.specs.Tiles.{tile_in}
use Rattle.crn_consts.specs.Entries.{Entry}
use Rattle.crn_consts.proofs.Table.{below}
use Rattle.crn_consts.proofs.Packed.{up_to, computed}
use Rattle.crn_consts.proofs.tiles.Goals as goal

-- entry i of the list is number i % 4 of byte number i / 4
abbrev entry_of : List ℕ → ℕ → ℕ
entry_of bytes i = tile_in (get_or bytes (i / 4) 0) (i % 4)

tile_is : {bytes : List ℕ} {e r : ℕ} (q : ℕ) → Entry bytes e r
    → T (up_to (λ i. eqb (entry_of bytes i) (get_or tile_map i 0)) (length tile_map)) → e < 8 → q < 4 → tile_in r q ≡ tile_at e q
unfolding tile_map
tile_is {bytes} {e} q b t he hq =
    let row : (4 * e + q) / 4 ≡ e = omega arith in
    let column : (4 * e + q) % 4 ≡ q = omega arith in
    rw (b.value) (rw (row, column) at (computed (entry_of bytes) tile_map (4 * e + q) t (omega arith)))

pub returns : goal.returns
unfolding tile_map
returns c = record { each = λ q four. tile_is q c.entry.ensures tt c.requires four; small = below 256 c.entry.ensures tt }

-- What the functions that go over the chunks of a level ask and give.
use Rattle.std.specs.Prelude.{Ok, Err, ℕ, ◌*◌, ◌/◌, ◌%◌, ◌<◌, ◌≡◌, List, length}
use Rattle.std.specs.declared.result.Result.{Result}
use Rattle.crn_format.specs.Choice.{pick}
use Rattle.crn_format.specs.Limits.{too_long}
use Rattle.crn_format.specs.Reading.{Step, got, Spending}
use Rattle.crn_format.specs.Level.{Running, Chunk}
use Rattle.crn_format.specs.Grid.{Shade, inside, block_of}
use Rattle.crn_format.specs.Opening.{Palettes}
use Rattle.crn_format.specs.declared.Grid.{Grid}
use Rattle.crn_formats.specs.Lent.{lent_of, lent}
use Rattle.crn_chunks.specs.Meaning.{source, spending, stopped, row, planes, Coded, Served, running_of, Onward}
use Rattle.crn_chunks.specs.declared.Planes.{Planes}
use Rattle.crn_chunks.specs.declared.Carried.{Carried}
use Rattle.crn_chunks.specs.declared.Stream.{Stream}
use Rattle.crn_chunks.specs.declared.Stop.{Stop}
use Rattle.crn_blocks.specs.Sheet.{Room, Painted, Outside}
use Rattle.crn_chunk_blocks.specs.Blocks.{shade_of, Reaches}
use Rattle.crn_unpacker.specs.States.{state_to, chunk_to}
use Rattle.crn_unpacker.specs.declared.Level.{Level}

-- how going over chunks ended: what is carried on, with the stream; or the refusal
abbrev pub Went : Type 0
Went = Result (Carried × Stream) Stop

-- what a level is unpacked from
pub record Given : Type 0 where
  pub lookup : List ℕ
  pub sorted : List ℕ
  pub seg : List ℕ
  pub palettes : Palettes
  pub planes : Planes
  pub grid : Grid

abbrev pub given : List ℕ → List ℕ → List ℕ → List ℕ → List ℕ → List ℕ → List ℕ → Planes → Grid → Given
given lookup sorted seg ends sels alpha_ends alpha_sels ps g =
    record {
      lookup = lookup;
      sorted = sorted;
      seg = seg;
      palettes = lent_of ends sels alpha_ends alpha_sels;
      planes = ps;
      grid = g;
    }

-- what a struct lends for it
abbrev pub given_in : Level → Given
given_in l =
    record {
      lookup = l.supply.lookup.now;
      sorted = l.supply.sorted.now;
      seg = l.supply.seg.now;
      palettes = lent l.palettes;
      planes = l.supply.planes;
      grid = l.grid;
    }

-- it can be gone over, into n bytes
pub record Fit (l : Given) (n : ℕ) : Type 0 where
  pub short : length l.seg < too_long
  pub served : Served l.planes l.lookup l.sorted
  pub bytes : l.grid.bytes ≡ pick l.planes.two 16 8
  pub room : Room l.grid n
  pub reach : Reaches l.palettes l.planes.first × Reaches l.palettes l.planes.second

-- ---- the run

abbrev pub shades : Given → List Shade
shades l = row l.planes.two (shade_of l.palettes l.planes.first) (shade_of l.palettes l.planes.second)

-- a run over the level's chunks: by which codes, and from where
pub record Course : Type 0 where
  pub codes : ℕ → List ℕ
  pub begun : Running
  pub from : Spending

-- after n chunks of it
abbrev pub state_at : Given → Course → ℕ → Step Spending Running
state_at l h n =
    state_to (source l.seg) (h.codes 0) (planes h.codes l.planes) (inside l.grid) h.begun h.from n

-- chunk n of it
abbrev pub chunk_here : Given → Course → ℕ → Chunk
chunk_here l h n =
    chunk_to (source l.seg) (h.codes 0) (planes h.codes l.planes) (inside l.grid) h.begun h.from n

-- the block whose turn is t
unfoldable pub block_here : Given → Course → ℕ → List ℕ
unfolding shade_of
block_here l h t = block_of (shades l) (chunk_here l h (t / 4)) (t % 4)

-- ---- going over its chunks, from a up to b; d is the destination before, e after

-- the run stands at r and s after a chunks
pub record Stands (l : Given) (h : Course) (a : ℕ) (r : Carried) (s : Stream) : Type 0 where
  pub coded : Coded h.codes l.planes l.lookup l.sorted
  pub state : state_at l h a ≡ got (running_of l.planes.two r) (spending s)

-- the chunks were read and their blocks painted
pub record Gone (l : Given) (h : Course) (a b : ℕ) (d e : List ℕ) (r : Carried) (s : Stream) : Type 0 where
  pub state : state_at l h b ≡ got (running_of l.planes.two r) (spending s)
  pub paint : Painted l.grid (block_here l h) (4 * a) (4 * b) d e

-- the run was refused before chunk b
pub record Halted (l : Given) (h : Course) (b : ℕ) (d e : List ℕ) (x : Stop) : Type 0 where
  pub why : state_at l h b ≡ stopped x
  pub rest : Outside l.grid d e

-- the one or the other
pub record Moved (l : Given) (h : Course) (a b : ℕ) (d e : List ℕ) (w : Went) : Type 0 where
  pub on : (r : Carried) (s : Stream) → w ≡ Ok (r, s) → Gone l h a b d e r s
  pub stop : (x : Stop) → w ≡ Err x → Halted l h b d e x

-- the same for every run that stands here; and the next chunk can be read
pub record Goes (l : Given) (a b : ℕ) (r : Carried) (s : Stream) (d e : List ℕ) (w : Went) : Type 0 where
  pub long : length e ≡ length d
  pub onward : (q : Carried) (t : Stream) → w ≡ Ok (q, t) → Onward l.seg q t
  pub moved : (h : Course) → Stands l h a r s → Moved l h a b d e w

-- nothing is pending, and every index is 0
abbrev pub none : Carried
none = record { pending = 0; e0 = 0; e1 = 0; s0 = 0; s1 = 0 }

-- What is compared of answers of which a contract leaves a part open on purpose: the bits that a cursor has at hand, how a decoder table is
-- laid out, and what a refused level has left in the grid's blocks.
use Rattle.std.specs.Prelude.{ℕ, Bool, List, Ok, Err}
use Rattle.std.specs.Borrow.{Bor}
use Rattle.crn_format.specs.Reading.{Step, got, refused, Spending}
use Rattle.crn_format.specs.Refusals.{number_of}
use Rattle.crn_format.specs.Level.{Running}
use Rattle.crn_format.specs.Grid.{painted, blank}
use Rattle.crn_format.specs.declared.Table.{Table}
use Rattle.crn_format.specs.declared.Grid.{Grid}
use Rattle.crn_symbol_codec.specs.Cursors.{place}
use Rattle.crn_code_tables.specs.Receiving.{Received, held_by}
use Rattle.crn_reader.specs.declared.Reader.{Reader}
use Rattle.crn_chunks.specs.Meaning.{spending, stopped, running_of}
use Rattle.crn_unpacker.specs.Going.{Went}

-- of a code table that was received: the refusal, the bit that it names or else the next place, and the table
pub record ReceivedSeen : Type 0 where
  pub refusal : ℕ
  pub at : ℕ
  pub table : Table

abbrev pub received_seen : Received → List ℕ → ReceivedSeen
received_seen (Ok (n, d)) lengths = record { refusal = 0; at = place d; table = held_by (Ok (n, d)) lengths }
received_seen (Err e) lengths = record { refusal = number_of e.refusal; at = e.at; table = held_by (Err e) lengths }

-- of a palette's code table that was received: how many symbols it has, and the place after it; or the refusal and the bit that it names
abbrev pub sent_seen : Received → Step ℕ ℕ
sent_seen (Ok (n, d)) = got n (place d)
sent_seen (Err e) = refused (number_of e.refusal) e.at

-- of a reader: the segment, and the place in it
abbrev pub spot_of : Reader → Bor (List ℕ) × ℕ
spot_of r = (r.seg, place r.cursor)

-- of a level's chunks: what is carried on from the last, with the place after it and the budget that is left; or the refusal
abbrev pub went : Bool → Went → Step Spending Running
went two (Ok (r, t)) = got (running_of two r) (spending t)
went two (Err x) = stopped x

-- of the destination: all of it; or, after a refusal, all of it once the grid is cleared
abbrev pub left : Grid → Went → List ℕ → List ℕ
left g (Ok w) e = e
left g (Err x) e = painted g (blank g) g.faces e

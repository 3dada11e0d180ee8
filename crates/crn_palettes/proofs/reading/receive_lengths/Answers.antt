-- A code table is received: its lengths may make a code, and are as many as are counted.
use Prim.Native.Nat.{ℕ}
use mathlib.Core.List.{List, []}
use mathlib.Core.Path.{refl, ap}
use Rattle.std.specs.Prelude.{Ok, Err}
use Rattle.crn_format.specs.Reading.{spot, from_bits}
use Rattle.crn_format.specs.Unpacking.{lengths_of}
use Rattle.crn_format.specs.declared.Table.{Table}
use Rattle.crn_symbol_codec.specs.Cursors.{place}
use Rattle.crn_symbol_codec.specs.declared.Cursor.{Cursor}
use Rattle.crn_code_tables.specs.Receiving.{Received, held_by, Receives}
use Rattle.crn_palettes.specs.Reaching.{Lengths}
use Rattle.crn_palettes.proofs.Fitting.{table_fits, count_fits, whole_long}
use Rattle.crn_palettes.proofs.reading.receive_lengths.Goals as goal

lengths_sent : {seg : List ℕ} {c : Cursor} (x : Received) {ls : List ℕ} → Receives seg c x ls → Lengths seg c ls x
lengths_sent (Err e) r =
    record {
      lengths = [];
      reads = λ b. record { blamed = 0; same = r.same b; holds = tt };
      codes = tt;
      same = tt;
      held = ap (λ (t : Table). t.lengths) (r.none e refl);
    }
lengths_sent {seg} {c} (Ok (n, d)) {ls} r =
    let f = table_fits (from_bits seg) (spot (place c) 0) (r.same 0) in
    record {
      lengths = lengths_of (held_by (Ok (n, d)) ls);
      reads = λ b. record { blamed = r.blamed; same = r.same b; holds = r.goes };
      codes = record { long = whole_long r.whole f.few; within = count_fits _ r.whole; short = f.short; few = f.few };
      same = refl;
      held = ap (λ (t : Table). t.lengths) r.whole;
    }

pub returns : goal.returns
returns c = lengths_sent _ c.receive.ensures

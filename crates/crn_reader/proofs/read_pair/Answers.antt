-- The reader is made at the first bit, and is moved by the number's answer and then by the symbol's.
-- So what they and the last place come to is the run that wants a number and then a symbol.
use Rattle.crn_reader.proofs.Pairs.{number_stops, symbol_stops, both_read}
use Rattle.crn_reader.proofs.read_pair.Goals as goal

pub returns-in-Err : goal.returns-in-Err
returns-in-Err c = let number = c.in-Err.ensures in λ ls decodes. number_stops _ ls c.make-reader.ensures number.0 number.1 c.fault.ensures

pub returns-in-Err-draw : goal.returns-in-Err-draw
returns-in-Err-draw c =
    let number = c.in-Ok.ensures in
    let symbol = c.in-Err-draw.ensures in
    λ ls decodes.
    symbol_stops _ ls c.make-reader.ensures number.0 number.1 (symbol.0 ls decodes) symbol.1 c.fault-in-Err-draw.ensures

pub returns : goal.returns
returns c =
    let number = c.in-Ok.ensures in
    let symbol = c.in-Ok-draw.ensures in
    λ ls decodes. both_read _ ls c.make-reader.ensures number.0 number.1 (symbol.0 ls decodes) symbol.1 c.place.ensures

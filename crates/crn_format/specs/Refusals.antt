-- The refusals by their numbers (document 01, Refusal numbers), and how a function's error tells one.
use Rattle.std.specs.Prelude.{ℕ, ⊤, Ok, Err}
use Rattle.std.specs.declared.result.Result.{Result}
use Rattle.crn_format.specs.declared.Refusal.{Refusal}
use Rattle.crn_format.specs.declared.Refusal.TheVariants.{NotSigned, BeyondLimits, WrongSizes, NoSegment, ShortPalettes, NoCode, NoSymbol, Ended, NoSelector, NoLevel, WrongGrid, NoRoom, NoEncoding, NoEntry, OutOfBudget, NotWritten, Disagrees, ShortPitch, FewBlocks}

abbrev pub number_of : Refusal → ℕ
number_of NotSigned = 1
number_of BeyondLimits = 2
number_of WrongSizes = 3
number_of NoSegment = 4
number_of ShortPalettes = 5
number_of NoCode = 6
number_of NoSymbol = 7
number_of Ended = 8
number_of NoSelector = 9
number_of NoLevel = 10
number_of WrongGrid = 11
number_of NoRoom = 12
number_of NoEncoding = 13
number_of NoEntry = 14
number_of OutOfBudget = 15
number_of NotWritten = 16
number_of Disagrees = 17
number_of ShortPitch = 18
number_of FewBlocks = 28

-- the number of a test's refusal, 0 where there is none
abbrev pub number_in : Result ⊤ Refusal → ℕ
number_in (Ok x) = 0
number_in (Err n) = number_of n

-- The refusals' numbers, as document 01 lists them under "Refused sheets and calls, in checking order", and document
-- 02 goes on.
use Rattle.std.specs.Prelude.{cond, ℕ, ◌*◌, eqb}
use Rattle.refusal.specs.declared.Cause.{Cause}
use Rattle.refusal.specs.declared.Cause.TheVariants as C
use Rattle.refusal.specs.declared.Refusal.{Refusal}

abbrev pub number_of : Cause → ℕ
number_of C.TooLong = 1
number_of C.MissingLine = 2
number_of C.WrongFields = 3
number_of C.IllFormedNumber = 4
number_of C.OutOfRange = 5
number_of C.IllFormedName = 6
number_of C.Duplicate = 7
number_of C.Undefined = 8
number_of C.RepeatedLetter = 9
number_of C.TrailingBytes = 10
number_of C.WrongTableLength = 11
number_of C.BufferTooShort = 12
number_of C.Inconsistent = 13
-- "14, the table does not pass the judge; 15, a letter in the list is undefined or stands twice; 16, no case has
-- heard exactly this list" (02, point 1)
number_of C.TableFails = 14
number_of C.MisnamedSignal = 15
number_of C.NeverHeard = 16
-- "17 if more than 64 rows would result" (02, point 7)
number_of C.TooManyRows = 17
-- "18, the listing is longer than 4,096 bytes (line 1), or its header, cases, fields or line ends are not this
-- sheet's, a line missing or left over included; 19, a minute is ill-formed, negative or over 65,535" (02, point 4),
-- and "the digits 65535 are refused with 19" (point 6)
number_of C.OtherForm = 18
number_of C.NoMinute = 19
-- "20, the start is given a label other than `-`; 21, an event's or rule's label lacks part of the label of an event
-- whose signal it uses; both after 9" (02, point 6)
number_of C.StartLabelled = 20
number_of C.IncompleteLabel = 21
-- "22, the row is a `fix`, with its line, tried directly after 3" (02, point 7)
number_of C.RetiredKind = 22
-- "23, N is 0", of the rounds after which the solver is to stop
number_of C.NoRounds = 23

-- where a cause stands among the tests of one line: "on one line the lowest number does" (01, Refused sheets and
-- calls), but 22 is "tried directly after 3" (02, point 7), which has the turn 6, and before 4, which has 8
abbrev pub turn_of : Cause → ℕ
turn_of c = cond (eqb (number_of c) 22) 7 (2 * number_of c)

-- a refusal with its line
abbrev pub refusal : Cause → ℕ → Refusal
refusal c k = record { cause = c; line = k }

-- What the programs print, by the calls that they make: `table` prints "the solver's listing, or `refused N line L`
-- with the number and the line" (01, The printed listing), `house` the house form (02, point 2), `judge` the verdict on
-- the table of a listing (02, point 4), `convert` the converted sheet (02, point 7), and `ring` the heaviest sheet that
-- a line asks for. Each lends the calls memory that is long enough.
use Rattle.std.specs.Prelude.{true, false, List, [], ◌∷◌, ◌++◌, ℕ, zero, suc, eqb, take, replicate}
use Rattle.prelude.specs.Bytes.{ascii}
use Rattle.text.specs.Lines.{line_feed}
use Rattle.text.specs.Decimal.{decimal}
use Rattle.network.specs.Limits as L
use Rattle.sheet.specs.Reading.{longest}
use Rattle.listing.specs.Most.{most_listing}
use Rattle.calls.specs.Values.{OrRefusal, Values, number_values}
use Rattle.calls.specs.Call.{Left}
use Rattle.calls.specs.Calls.{judgement, solving, listed, housed, converting, ringing}
use Rattle.calls.specs.Bench.{Finding, judgement_values}
use Rattle.calls.specs.Recover.{recovering}

abbrev pub refused_text : Values ℕ → List ℕ
refused_text v = ascii "refused " ++ decimal v.number ++ ascii " line " ++ decimal v.line ++ line_feed ∷ []

-- what a call has written goes on; a refusal is printed
abbrev pub or_refused : Left (OrRefusal ℕ) → (List ℕ → List ℕ) → List ℕ
or_refused l next =
    let v = number_values l.answer in
    elim (eqb v.number 0) [ true ↦ next (take v.value l.memory) | false ↦ refused_text v ]

-- the listing of a table, on a page that is lent
abbrev pub listing_on : List ℕ → List ℕ → List ℕ → List ℕ
listing_on page sheet t = or_refused (listed sheet t page) (λ text. text)

-- the solver's, in a table that is lent
abbrev pub table_on_lem : List ℕ → List ℕ → List ℕ → List ℕ
table_on_lem m page sheet = or_refused (solving sheet m) (listing_on page sheet)

abbrev pub form_on : List ℕ → List ℕ → List ℕ
form_on page sheet = or_refused (housed sheet page) (λ text. text)

abbrev pub converted_on : List ℕ → List ℕ → List ℕ
converted_on page sheet = or_refused (converting sheet page) (λ text. text)

-- "`pass`, `late` with case and event, `rule` with case and rule, `unheard` with both cases and the event (numbers from
-- 0, spaces between)", by the values of a verdict
abbrev pub spaced : ℕ → List ℕ
spaced n = ascii " " ++ decimal n

abbrev pub finding_text : ℕ → ℕ → ℕ → ℕ → List ℕ
finding_text zero a b c = ascii "pass"
finding_text (suc zero) a b c = ascii "late" ++ spaced a ++ spaced b
finding_text (suc (suc zero)) a b c = ascii "rule" ++ spaced a ++ spaced b
finding_text (suc (suc (suc w))) a b c = ascii "unheard" ++ spaced a ++ spaced b ++ spaced c

abbrev pub verdict_text : Values Finding → List ℕ
verdict_text v =
    let x = v.value in
    elim (eqb v.number 0) [
      | true ↦ finding_text x.word x.first x.second x.third ++ line_feed ∷ []
      | false ↦ refused_text (record { number = v.number; line = v.line; value = 0 })
    ]

abbrev pub judge_on : List ℕ → List ℕ → List ℕ → List ℕ
judge_on m sheet printed =
    or_refused (recovering sheet printed m) (λ t. verdict_text (judgement_values (judgement sheet t)))

abbrev pub heaviest_on : List ℕ → List ℕ → List ℕ
heaviest_on page line = or_refused (ringing line page) (λ text. text)

-- as the programs lend them
abbrev pub table_text : List ℕ → List ℕ
table_text sheet = table_on_lem (replicate L.cells 0) (replicate most_listing 0) sheet

abbrev pub form_text : List ℕ → List ℕ
form_text sheet = form_on (replicate longest 0) sheet

abbrev pub converted_text : List ℕ → List ℕ
converted_text sheet = converted_on (replicate longest 0) sheet

abbrev pub heaviest_text : List ℕ → List ℕ
heaviest_text line = heaviest_on (replicate longest 0) line

abbrev pub judge_text : List ℕ → List ℕ → List ℕ
judge_text sheet printed = judge_on (replicate L.cells 0) sheet printed

-- What a line says where a feed may ask what if. There `when,F` asks what each outcome of fixture F
-- would decide, which must have no score yet. Every other record is read as in every feed that no
-- proofs follow. Fields count from 0 here, and fixtures too, which a feed counts from 1.
use Rattle.std.specs.Prelude.{ℕ, Bool, false, not, ◌==◌, List, [], ◌∷◌, length, Option, None, Some}
use Rattle.std.specs.Prelude.{Result, Ok, Err, if◌then◌else◌, bytes_eq, codes}
use Rattle.league_core.specs.declared.sheet.Sheet.{Sheet}
use Rattle.league_core.specs.game.Results.{Results}
use Rattle.fixture_sheet.specs.Fields.{field, has_return, record_of}
use Rattle.result_log.specs.declared.entry.Entry.{Entry}
use Rattle.result_log.specs.declared.entry.Entry.TheVariants.{Ask}
use Rattle.result_log.specs.declared.fault.FeedFault.{FeedFault}
use Rattle.result_log.specs.declared.fault.FeedFault.TheVariants.{WrongWidth}
use Rattle.result_log.specs.declared.fault.FeedFault.TheVariants.{UnknownFixture, AlreadyPlayed}
use Rattle.result_log.specs.Feeds.{found_as, line_as, parsed_in}
use Rattle.result_log.specs.Records.{entry_of, fixture_in, has_fixture, has_result, value_unless}
use Rattle.what_if.specs.declared.step.Step.{Step}
use Rattle.what_if.specs.declared.step.Step.TheVariants as step

-- ---- a record

-- it asks what the outcomes of a match would decide
abbrev pub is_when : List (List ℕ) → Bool
is_when fields = bytes_eq (field 0 fields) (codes "when")

-- the tests of such a record, and their refusals: two fields, a fixture of the sheet, no score
abbrev pub when_tests : Sheet → Results → List (List ℕ) → List (Bool × FeedFault)
when_tests sheet season fields =
    (not (length fields == 2), WrongWidth)
    ∷ (not (has_fixture sheet fields), UnknownFixture)
    ∷ (has_result season (fixture_in fields), AlreadyPlayed)
    ∷ []

-- the step that an entry is
abbrev pub entry_step : Result Entry FeedFault → Result Step FeedFault
entry_step (Ok entry) = Ok (step.Entry entry)
entry_step (Err fault) = Err fault

-- the step that a record is in this season, after so many events
abbrev pub step_of : Sheet → Results → ℕ → List (List ℕ) → Result Step FeedFault
step_of sheet season events fields =
    if is_when fields
    then value_unless (when_tests sheet season fields) (step.When (fixture_in fields))
    else entry_step (entry_of sheet season events false fields)

-- ---- one line

-- the step that the content of a line is
abbrev pub step_in : Sheet → Results → ℕ → List ℕ → Result (Option Step) FeedFault
step_in sheet season events content = parsed_in (step_of sheet season events) content

-- ---- the same as an entry, and what it asks about

-- a step as an entry: `when` asks, as `ask` does
abbrev pub forget : Step → Entry
forget (step.Entry entry) = entry
forget (step.When fixture) = Ask

-- a line's step as its entry
abbrev pub forgotten : Result (Option Step) FeedFault → Result (Option Entry) FeedFault
forgotten found = found_as forget found

-- the entry that the content of a line is, where `when` asks too
abbrev pub step_line : Sheet → Results → ℕ → List ℕ → Result (Option Entry) FeedFault
step_line sheet season events content = line_as forget (step_of sheet season events) content

-- the fixture of a line's record, if that is a `when`
abbrev pub about_if : Option (List (List ℕ)) → Option ℕ
about_if None = None
about_if (Some fields) = if is_when fields then Some (fixture_in fields) else None

-- the fixture that a line with this content asks about, if it asks about one; this means something
-- if the line asks
abbrev pub about_of : List ℕ → Option ℕ
about_of content = if has_return content then None else about_if (record_of content)

-- What holds of every line where a feed may ask what if: each statement is the contract of a
-- function of src/step_laws.rt that does nothing.
use Rattle.std.specs.Prelude.{◌≡◌, ℕ, false, List, None, Some, IfSome, Ok}
use Rattle.league_core.specs.declared.sheet.Sheet.{Sheet}
use Rattle.league_core.specs.game.Results.{Results}
use Rattle.league_core.specs.game.Seasons.{IsSeasonOf}
use Rattle.result_log.specs.declared.entry.Entry.TheVariants.{Ask}
use Rattle.result_log.specs.Feeds.{entry_in}
use Rattle.what_if.specs.Steps.{about_of, step_line}
use Rattle.what_if.specs.inside.StepCalls.{IsUnplayedFixture}

-- a line that asks about a fixture asks about one of the sheet that has no score
abbrev pub AsksAreAboutUnplayed : Type 0
AsksAreAboutUnplayed =
    (sheet : Sheet) (season : Results) (events : ℕ) (content : List ℕ)
    → IsSeasonOf sheet season → step_line sheet season events content ≡ Ok (Some Ask)
    → IfSome (about_of content) (IsUnplayedFixture sheet season)

-- a line that names no fixture to ask about is read as in every feed that no proofs follow
abbrev pub OtherLinesAreEntries : Type 0
OtherLinesAreEntries =
    (sheet : Sheet) (season : Results) (events : ℕ) (content : List ℕ)
    → about_of content ≡ None
    → step_line sheet season events content ≡ entry_in sheet season events false content

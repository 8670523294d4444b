-- Lines worked by hand, in a league of two clubs and one match: what the definitions say of them is
-- computed when the crate is checked.
use Rattle.std.proofs.Common.{◌≡◌, ℕ, List, [], ◌∷◌, Option, None, Some, Result, Ok, Err, refl}
use Rattle.std.specs.Prelude.{codes, map}
use Rattle.csv.specs.Machine.{next_record}
use Rattle.csv.specs.Reading.{strip_bom}
use Rattle.league_core.specs.declared.sheet.Sheet.{Sheet}
use Rattle.league_core.specs.declared.season.Event.{Event}
use Rattle.league_core.specs.declared.season.Event.TheVariants.{Set}
use Rattle.league_core.specs.game.Seasons.{epoch_of, season_after}
use Rattle.league_core.specs.rows.WorkedRows.{pair}
use Rattle.result_log.specs.declared.entry.Entry.TheVariants.{Ask}
use Rattle.result_log.specs.declared.fault.FeedFault.{FeedFault}
use Rattle.result_log.specs.declared.fault.FeedFault.TheVariants.{UnknownRecord, WrongWidth}
use Rattle.result_log.specs.declared.fault.FeedFault.TheVariants.{UnknownFixture, AlreadyPlayed}
use Rattle.what_if.specs.declared.step.Step.{Step}
use Rattle.what_if.specs.declared.step.Step.TheVariants as step
use Rattle.what_if.specs.Steps.{about_of, step_in}

-- two clubs, one match
abbrev league : Sheet
league = pair (1 ∷ 2 ∷ [])

-- what lines are after these events
abbrev steps_after : List Event → List (List ℕ) → List (Result (Option Step) FeedFault)
steps_after events lines =
    map (λ line. step_in league (season_after league events) (epoch_of events) line) lines

-- the match is still to be played
before_the_match :
    steps_after [] (codes "when,1" ∷ codes "when,01,," ∷ codes "ask" ∷ codes ",," ∷ [])
    ≡ Ok (Some (step.When 0)) ∷ Ok (Some (step.When 0)) ∷ Ok (Some (step.Entry Ask)) ∷ Ok None
    ∷ []
unfolding next_record strip_bom
before_the_match = refl

-- lines that are refused
refused_lines :
    steps_after []
    (codes "when" ∷ codes "when,1,1" ∷ codes "when,9,1" ∷ codes "when,9" ∷ codes "when,0"
    ∷ codes "when,x" ∷ codes "whens,1" ∷ codes "proofs" ∷ [])
    ≡ Err WrongWidth ∷ Err WrongWidth ∷ Err WrongWidth ∷ Err UnknownFixture ∷ Err UnknownFixture
    ∷ Err UnknownFixture ∷ Err UnknownRecord ∷ Err UnknownRecord ∷ []
unfolding next_record strip_bom
refused_lines = refl

-- the match was played
after_the_match :
    steps_after (Set 0 (record { home = 1; away = 0 }) ∷ [])
    (codes "when,1" ∷ codes "when,2" ∷ codes "when,1,1" ∷ [])
    ≡ Err AlreadyPlayed ∷ Err UnknownFixture ∷ Err WrongWidth ∷ []
unfolding next_record strip_bom
after_the_match = refl

-- what they ask about
asked_about :
    map about_of (codes "when,1" ∷ codes "ask" ∷ codes "result,1,1,0" ∷ codes "when,7" ∷ [])
    ≡ Some 0 ∷ None ∷ None ∷ Some 6 ∷ []
unfolding next_record strip_bom
asked_about = refl

-- Logs: what stays true of a season that takes events, one or many.
use Rattle.std.proofs.Common.{◌≡◌, ◌+◌, ◌<◌, ◌≤◌, ℕ, true, nat_le, IsTrue, get_or, List, [], ◌∷◌}
use Rattle.std.proofs.Common.{◌++◌, All, length, fold, None, Some, refl, sym, ◌∙◌, subst, arith}
use Rattle.std.proofs.Common.{length-set, nat_lt}
use Rattle.std.proofs.lemmas.Bool.{and_from, le-leb, lt-ltb}
use Rattle.std.proofs.lemmas.List.{length-replicate, length-append}
use Rattle.std.proofs.lemmas.List.Elements.{All-push, All-head, All-tail}
use Rattle.league_core.specs.declared.sheet.Sheet.{Sheet}
use Rattle.league_core.specs.declared.season.Event.{Event}
use Rattle.league_core.specs.declared.season.Event.TheVariants.{Set, Clear, Deduct}
use Rattle.league_core.specs.game.Limits.{most_clubs, most_fixtures, most_deduction}
use Rattle.league_core.specs.game.Sheets.{IsWithinLimits}
use Rattle.league_core.specs.game.Results.{Results, are_results, is_score}
use Rattle.league_core.specs.game.Seasons.{AreEventsOf, IsEventOf, IsLeague, IsSeasonOf, epoch_of}
use Rattle.league_core.specs.game.Seasons.{event_applied, season_after, unplayed_season}
use Rattle.league_core.specs.inside.Codes.{has_code}
use Rattle.league_core.proofs.ResultsLemmas.{are_results-deduct, are_results-set}
use Rattle.league_core.proofs.ResultsLemmas.{are_results-unplayed}

-- ---- one event

-- a season of the sheet stays one
pub IsSeasonOf-applied : (sheet : Sheet) (season : Results) (event : Event)
    → IsSeasonOf sheet season → IsSeasonOf sheet (event_applied season event)
IsSeasonOf-applied sheet season (Set fixture score) of_sheet = record {
  scores = length-set season.scores fixture (Some score) ∙ of_sheet.scores;
  deductions = of_sheet.deductions;
}
IsSeasonOf-applied sheet season (Clear fixture) of_sheet = record {
  scores = length-set season.scores fixture None ∙ of_sheet.scores;
  deductions = of_sheet.deductions;
}
IsSeasonOf-applied sheet season (Deduct club points) of_sheet = record {
  scores = of_sheet.scores;
  deductions = length-set season.deductions club points ∙ of_sheet.deductions;
}

-- its scores and deductions are again such as may be
pub are_results-applied : (season : Results) (event : Event) → IsTrue (are_results season)
    → IsEventOf season event → IsTrue (are_results (event_applied season event))
are_results-applied season (Set fixture score) results may_be =
    are_results-set season.scores season.deductions fixture (Some score) may_be.1 results
are_results-applied season (Clear fixture) results may_be =
    are_results-set season.scores season.deductions fixture None refl results
are_results-applied season (Deduct club points) results may_be =
    are_results-deduct season.scores season.deductions club points
    (le-leb points most_deduction may_be.1) results

-- all seasons of a sheet may take the same events
pub IsEventOf-same : (sheet : Sheet) (season other : Results) (event : Event)
    → IsSeasonOf sheet season → IsSeasonOf sheet other → IsEventOf season event
    → IsEventOf other event
IsEventOf-same sheet season other (Set fixture score) one two may_be =
    (subst (λ n. fixture < n) (one.scores ∙ sym two.scores) may_be.0, may_be.1)
IsEventOf-same sheet season other (Clear fixture) one two may_be =
    subst (λ n. fixture < n) (one.scores ∙ sym two.scores) may_be
IsEventOf-same sheet season other (Deduct club points) one two may_be =
    (subst (λ n. club < n) (one.deductions ∙ sym two.deductions) may_be.0, may_be.1)

-- a number of so many is one of no fewer
below : (number many all most : ℕ) → number < many → many ≡ all → all ≤ most
    → nat_lt number most ≡ true
below number many all most inside same few = lt-ltb number most (omega arith)

-- what a season of a sheet within the limits may take has a code
pub has_code-told : (sheet : Sheet) (season : Results) (event : Event) → IsLeague sheet season
    → IsEventOf season event → IsTrue (has_code event)
has_code-told sheet season (Set fixture score) league may_be =
    and_from (nat_lt fixture most_fixtures) (is_score score)
    (below fixture (length season.scores) (length sheet.fixtures) most_fixtures may_be.0
    league.of_sheet.scores league.limits.most_fixtures) may_be.1
has_code-told sheet season (Clear fixture) league may_be =
    below fixture (length season.scores) (length sheet.fixtures) most_fixtures may_be
    league.of_sheet.scores league.limits.most_fixtures
has_code-told sheet season (Deduct club points) league may_be =
    and_from (nat_lt club most_clubs) (nat_le points most_deduction)
    (below club (length season.deductions) (length sheet.clubs) most_clubs may_be.0
    league.of_sheet.deductions league.limits.most_clubs)
    (le-leb points most_deduction may_be.1)

-- ---- lists of events

-- one event more is one more
pub epoch_of-push : (events : List Event) (event : Event)
    → epoch_of (events ++ event ∷ []) ≡ epoch_of events + 1
epoch_of-push events event = length-append events (event ∷ [])

-- the season in which nothing is played is one of the sheet
pub unplayed_of : (sheet : Sheet)
    → IsSeasonOf sheet (unplayed_season (length sheet.clubs) (length sheet.fixtures))
unplayed_of sheet = record {
  scores = length-replicate (length sheet.fixtures) None;
  deductions = length-replicate (length sheet.clubs) 0;
}

IsSeasonOf-folded : (sheet : Sheet) (events : List Event) (season : Results)
    → IsSeasonOf sheet season → IsSeasonOf sheet (fold event_applied season events)
IsSeasonOf-folded sheet [] season of_sheet = of_sheet
IsSeasonOf-folded sheet (event ∷ events) season of_sheet =
    IsSeasonOf-folded sheet events (event_applied season event)
    (IsSeasonOf-applied sheet season event of_sheet)

-- the season of any events is one of the sheet
pub season_after_of : (sheet : Sheet) (events : List Event)
    → IsSeasonOf sheet (season_after sheet events)
season_after_of sheet events =
    IsSeasonOf-folded sheet events (unplayed_season (length sheet.clubs) (length sheet.fixtures))
    (unplayed_of sheet)

are_results-folded : (sheet : Sheet) (events : List Event) (season : Results)
    → IsSeasonOf sheet season → IsTrue (are_results season) → AreEventsOf sheet events
    → IsTrue (are_results (fold event_applied season events))
are_results-folded sheet [] season of_sheet results events_of = results
are_results-folded sheet (event ∷ events) season of_sheet results events_of =
    let unplayed = unplayed_season (length sheet.clubs) (length sheet.fixtures) in
    are_results-folded sheet events (event_applied season event)
    (IsSeasonOf-applied sheet season event of_sheet)
    (are_results-applied season event results
    (IsEventOf-same sheet unplayed season event (unplayed_of sheet) of_sheet
    (All-head (IsEventOf unplayed) event events events_of)))
    (All-tail (IsEventOf unplayed) event events events_of)

-- the season of events of the sheet has scores and deductions that may be
pub season_after_results : (sheet : Sheet) (events : List Event) → AreEventsOf sheet events
    → IsTrue (are_results (season_after sheet events))
season_after_results sheet events events_of =
    are_results-folded sheet events (unplayed_season (length sheet.clubs) (length sheet.fixtures))
    (unplayed_of sheet)
    (are_results-unplayed _ _ (length sheet.fixtures) (length sheet.clubs) refl refl) events_of

-- an event that the season may take is one more of the sheet
pub AreEventsOf-push : (sheet : Sheet) (events : List Event) (event : Event)
    → AreEventsOf sheet events → IsEventOf (season_after sheet events) event
    → AreEventsOf sheet (events ++ event ∷ [])
AreEventsOf-push sheet events event events_of may_be =
    let unplayed = unplayed_season (length sheet.clubs) (length sheet.fixtures) in
    All-push (IsEventOf unplayed) events event events_of
    (IsEventOf-same sheet (season_after sheet events) unplayed event
    (season_after_of sheet events) (unplayed_of sheet) may_be)

-- each event of a sheet within the limits has a code
pub log_has_codes : (sheet : Sheet) (events : List Event) → IsWithinLimits sheet
    → AreEventsOf sheet events → All (λ event. IsTrue (has_code event)) events
log_has_codes sheet events limits events_of =
    λ k d h. has_code-told sheet (unplayed_season (length sheet.clubs) (length sheet.fixtures))
    (get_or events k d) (record { limits = limits; of_sheet = unplayed_of sheet })
    (events_of k d h)

-- A pool that has taken the events before may take the next one.
use Rattle.std.proofs.Common.{◌≡◌, ℕ, ◌+◌, ◌<◌, ◌≤◌, List, [], ◌∷◌, ◌++◌, length, take, get_or, map}
use Rattle.std.proofs.Common.{sym, subst, arith, Option, None}
use Rattle.std.specs.Prelude.{All, replicate}
use Rattle.std.specs.List.{range_with_len}
use Rattle.std.proofs.lemmas.List.{take_more, take_all, length-replicate, length-map}
use Rattle.std.proofs.lemmas.List.{length-take-le}
use Rattle.std.proofs.lemmas.List.Elements.{All-get_or}
use Rattle.league_core.specs.declared.sheet.Sheet.{Sheet}
use Rattle.league_core.specs.declared.season.Score.{Score}
use Rattle.league_core.specs.declared.season.Event.{Event}
use Rattle.league_core.specs.declared.season.Event.TheVariants.{Set, Clear, Deduct}
use Rattle.league_core.specs.game.Results.{Results}
use Rattle.league_core.specs.game.Seasons.{IsSeasonOf, IsEventOf, AreEventsOf, unplayed_season}
use Rattle.league_core.specs.game.Seasons.{season_after}
use Rattle.branch_pool.specs.inside.States.{PoolView, out_count}
use Rattle.branch_pool.specs.inside.Goodness.{IsSoundPool}
use Rattle.branch_pool.specs.inside.Steps.{Changes, pool_changed}
use Rattle.sample_counts.specs.Samples.{sample_sheet, sample_events, sample_event}
use Rattle.verdict_run.proofs.ShownLemmas.{pool_league}
use Rattle.sample_counts.specs.inside.SamplePools.{IsBegun, HasHeard, IsSamplePool}

-- what seasons of a sheet may take each of them may take
event_of : (sheet : Sheet) (season : Results) (event : Event) → IsSeasonOf sheet season
    → IsEventOf (unplayed_season (length sheet.clubs) (length sheet.fixtures)) event
    → IsEventOf season event
event_of sheet season (Set fixture score) of_sheet may =
    let scores = of_sheet.scores in
    let inside = may.0 in
    let long = length-replicate {A = Option Score} (length sheet.fixtures) None in
    (omega (arith, inside, scores, long), may.1)
event_of sheet season (Clear fixture) of_sheet may =
    let scores = of_sheet.scores in
    omega (arith, may, scores, length-replicate {A = Option Score} (length sheet.fixtures) None)
event_of sheet season (Deduct club points) of_sheet may =
    let deductions = of_sheet.deductions in
    let inside = may.0 in
    (omega (arith, inside, deductions, length-replicate {A = ℕ} (length sheet.clubs) 0), may.1)

-- so the next event may be reported
pub next_may_be : (old pool : PoolView) (events : List Event) (i : ℕ) (d : Event)
    → i < length events → AreEventsOf old.sheet events → HasHeard old (take i events) pool
    → IsSoundPool pool → IsEventOf pool.season (get_or events i d)
next_may_be old pool events i d inside may heard sound =
    let unplayed = unplayed_season (length old.sheet.clubs) (length old.sheet.fixtures) in
    let event = get_or events i d in
    let here = All-get_or (IsEventOf unplayed) events i d inside may in
    event_of pool.sheet pool.season event (pool_league pool sound).of_sheet
    (subst (λ (s : Sheet). IsEventOf (unplayed_season (length s.clubs) (length s.fixtures)) event)
    (sym heard.sheet) here)

-- a sample has few events
pub sample_is_short : (seed : ℕ) → length (sample_events seed) ≡ 114
unfolding sample_events
sample_is_short seed = length-map (range_with_len 0 114) (sample_event seed)

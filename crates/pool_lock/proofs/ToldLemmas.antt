-- Events that a pool may be told, by the sheet alone.
use Rattle.std.proofs.Common.{◌≡◌, IsTrue, List, subst}
use Rattle.league_core.specs.declared.sheet.Sheet.{Sheet}
use Rattle.league_core.specs.declared.season.Event.{Event}
use Rattle.league_core.specs.game.Seasons.{IsEventOf, IsSeasonOf, season_after}
use Rattle.league_core.specs.inside.Codes.{has_code}
use Rattle.league_core.proofs.LogLemmas.{IsEventOf-same, has_code-told, season_after_of}
use Rattle.branch_pool.specs.inside.States.{PoolView}
use Rattle.branch_pool.specs.inside.Goodness.{IsSoundPool}
use Rattle.branch_pool.proofs.GoodLemmas.{sound_season}

-- what the season after some events of the sheet may be told, the pool may be told
pub IsEventOf-pool : (pool : PoolView) (sheet : Sheet) (events : List Event) (event : Event)
    → IsSoundPool pool → pool.sheet ≡ sheet → IsEventOf (season_after sheet events) event
    → IsEventOf pool.season event
IsEventOf-pool pool sheet events event sound same may_be =
    IsEventOf-same sheet (season_after sheet events) pool.season event
    (season_after_of sheet events)
    (subst (λ of. IsSeasonOf of pool.season) same (sound_season pool sound)) may_be

-- what the pool may be told has a code
pub has_code-pool : (pool : PoolView) (event : Event) → IsSoundPool pool
    → IsEventOf pool.season event → IsTrue (has_code event)
has_code-pool pool event sound may_be =
    has_code-told pool.sheet pool.season event
    (record { limits = sound.limits; of_sheet = sound_season pool sound }) may_be

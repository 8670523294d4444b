-- Events that have a code: what one number for each event has to distinguish. Every event that a
-- season of a sheet within the limits may take is one of them.
use Rattle.std.specs.Prelude.{Bool, ◌&&◌, nat_lt, nat_le}
use Rattle.league_core.specs.declared.season.Event.{Event}
use Rattle.league_core.specs.declared.season.Event.TheVariants.{Set, Clear, Deduct}
use Rattle.league_core.specs.game.Limits.{most_clubs, most_fixtures, most_deduction}
use Rattle.league_core.specs.game.Results.{is_score}

-- its fixture is one of 600, and each side has at most 99 goals; its club is one of 24, and at most
-- 99 points are taken off
abbrev pub has_code : Event → Bool
has_code (Set fixture score) = nat_lt fixture most_fixtures && is_score score
has_code (Clear fixture) = nat_lt fixture most_fixtures
has_code (Deduct club points) = nat_lt club most_clubs && nat_le points most_deduction

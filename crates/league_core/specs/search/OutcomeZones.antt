-- The zones in which it is known of one match who wins it, and nothing else is known.
use Rattle.std.specs.Prelude.{ℕ, true, false, List, [], ◌∷◌}
use Rattle.league_core.specs.declared.zone.Test.TheVariants.{Home, Draw}
use Rattle.league_core.specs.declared.zone.Literal.{Literal}

-- the home side wins the match
abbrev pub home_win_zone : ℕ → List Literal
home_win_zone fixture = record { test = Home fixture; yes = true } ∷ []

-- the match is drawn
abbrev pub draw_zone : ℕ → List Literal
draw_zone fixture = record { test = Draw fixture; yes = true } ∷ []

-- neither is so: the away side wins it
abbrev pub away_win_zone : ℕ → List Literal
away_win_zone fixture =
    record { test = Home fixture; yes = false } ∷ record { test = Draw fixture; yes = false } ∷ []

-- Keys, and both ends of a club's key in a zone, as the code keeps them.
use Rattle.std.specs.Prelude.{◌≡◌, ℕ, ℤ, List, [], ◌∷◌}
use Rattle.league_core.specs.declared.sheet.Sheet.{Sheet}
use Rattle.league_core.specs.declared.zone.Literal.{Literal}
use Rattle.league_core.specs.game.Results.{Results}
use Rattle.league_core.specs.search.Keys.{low_key, high_key}
use Rattle.club_keys.specs.declared.club_key.ClubKey.{ClubKey}
use Rattle.club_keys.specs.declared.key_ends.KeyEnds.{KeyEnds}

-- the parts in the order in which they decide
abbrev pub key_parts : ClubKey → List ℤ
key_parts key =
    key.points
    ∷ key.difference
    ∷ key.goals
    ∷ key.away_goals
    ∷ key.wins
    ∷ key.away_wins
    ∷ key.by_rank
    ∷ []

-- the low key and the high key of the club, part by part
pub record AreKeyEnds (sheet : Sheet) (season : Results) (zone : List Literal) (club : ℕ)
    (ends : KeyEnds) : Type 0 where
  pub low : key_parts ends.low ≡ low_key sheet season zone club
  pub high : key_parts ends.high ≡ high_key sheet season zone club

-- Two bytes for a score or none, so that seasons are compared at memory speed.
use Rattle.std.specs.Prelude.{ℕ, ◌+◌, ◌*◌, Option, Some, None}
use Rattle.league_core.specs.declared.season.Score.{Score}

-- the goals of the home side above those of the away side; no score with at most 99 goals a side
-- has the code of none
abbrev pub score_code : Option Score → ℕ
score_code None = 65535
score_code (Some score) = score.home * 256 + score.away

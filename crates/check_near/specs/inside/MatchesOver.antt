-- Domains in the words of the near reason's test.
use Rattle.std.specs.Prelude.{◌≡◌, ℕ, ◌<◌, List, slice_index_or}
use Rattle.league_core.specs.declared.season.Score.{Score}
use Rattle.near_bound.specs.declared.match_left.MatchLeft.{MatchLeft}
use Rattle.near_bound.specs.inside.MatchesLeft.{is_score_left}
use Rattle.check_bounds.specs.declared.score_domain.ScoreDomain.{ScoreDomain}
use Rattle.check_bounds.specs.inside.ScoreDomains.{is_left}

-- both leave the same scores
abbrev pub IsMatchOf : MatchLeft → ScoreDomain → Type 0
IsMatchOf match scope = (score : Score) → is_score_left match score ≡ is_left scope score

-- so do the first so many of two lists
abbrev pub AreMatchesOf : List MatchLeft → List ScoreDomain → ℕ → Type 0
AreMatchesOf matches scopes count =
    (k : ℕ) (d : MatchLeft) (e : ScoreDomain) → k < count
    → IsMatchOf (slice_index_or matches k d) (slice_index_or scopes k e)

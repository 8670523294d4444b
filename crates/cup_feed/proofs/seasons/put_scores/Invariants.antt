use Rattle.std.proofs.Common.{◌≡◌, ◌++◌, drop, take}
use Rattle.cup_feed.proofs.seasons.put_scores.Given as goal

-- the scores so far are written, and the others are as they were
abbrev pub invariant-loop-score : goal.invariant-loop-score
invariant-loop-score l =
    (l.fixture ≡ l.score-index)
    × (l.season ≡ record l.fn.season {
      scores = take l.score-index l.scores ++ drop l.score-index l.fn.season.scores;
    })

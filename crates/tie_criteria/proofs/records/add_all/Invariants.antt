use Rattle.std.proofs.Common.{ℕ, ◌<◌, length}
use Rattle.league_core.specs.game.ClubSets.{clubs_in}
use Rattle.tie_criteria.specs.inside.Records.{record_at}
use Rattle.tie_criteria.proofs.RecordLemmas.{IsSoFar}
use Rattle.tie_criteria.proofs.records.add_all.Given as goal

-- each club's record so far and what is left of the matches make its whole record
abbrev pub invariant-loop-i : goal.invariant-loop-i
invariant-loop-i l =
    (club : ℕ) → club < length l.sheet.clubs
    → IsSoFar l.fixtures l.scores (clubs_in l.group) l.i club (record_at l.found club)

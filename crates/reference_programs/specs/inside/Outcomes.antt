-- What an answer says of a club and a line: the verdict of the season, by what the club can reach.
use Rattle.std.specs.Prelude.{ℕ, nat_le, nat_lt, if◌then◌else◌, length}
use Rattle.league_core.specs.declared.sheet.Sheet.{Sheet}
use Rattle.league_core.specs.declared.question.Claim.{Claim}
use Rattle.league_core.specs.declared.question.Claim.TheVariants.{Inside, Outside}
use Rattle.league_core.specs.game.Results.{Results}
use Rattle.league_core.specs.game.Questions.{IsExample, full_question}
use Rattle.league_core.specs.game.Verdicts.{IsClinched, IsLost}
use Rattle.league_core.specs.inside.LotsFor.{lots_for_claim}
use Rattle.reference_programs.specs.declared.reach.Reach.{Reach}
use Rattle.reference_programs.specs.declared.verdict.WalkVerdict.{WalkVerdict}
use Rattle.reference_programs.specs.declared.verdict.WalkVerdict.TheVariants.{Clinched, Lost}
use Rattle.reference_programs.specs.declared.verdict.WalkVerdict.TheVariants.{Possible}

-- the finish shows that the club may end on the claim's side of the line, with the lots that favour
-- the claim
abbrev pub Shows : Sheet → Results → ℕ → ℕ → Claim → Results → Type 0
Shows sheet season club line claim finish =
    IsExample sheet season (full_question club line claim) finish
    (lots_for_claim (length sheet.clubs) club claim)

-- clinched if the worst place is inside the line, lost if the best one is outside it
abbrev pub verdict_at : Reach → ℕ → WalkVerdict
verdict_at reach line =
    if nat_le reach.worst line then Clinched else if nat_lt line reach.best then Lost else Possible

-- the answer is the season's verdict for the club and the line, and if both sides are possible the
-- finishes of the reach show them
abbrev pub IsVerdictOf : Sheet → Results → ℕ → ℕ → Reach → WalkVerdict → Type 0
IsVerdictOf sheet season club line reach Clinched = IsClinched sheet season club line
IsVerdictOf sheet season club line reach Lost = IsLost sheet season club line
IsVerdictOf sheet season club line reach Possible =
    Shows sheet season club line Inside reach.best_finish
    × Shows sheet season club line Outside reach.worst_finish

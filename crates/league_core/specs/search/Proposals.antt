-- The proposed finish of a zone: the one finish that is tried first as an example. Each club is
-- wished points or none, and each fixture takes the option that serves the wishes of its two sides
-- best. Which finish is proposed is this project's own choice.
use Rattle.std.specs.Prelude.{◌≢◌, ℕ, ℤ, pos, ◌+◌, ◌+ℤ◌, neg_ℤ, Bool, true, false, not, ◌||◌, ◌==◌}
use Rattle.std.specs.Prelude.{if◌then◌else◌, IsTrue, List, [], ◌∷◌, Option, Some, None, fold}
use Rattle.std.specs.declared.cmp.Ordering.{Ordering}
use Rattle.std.specs.declared.cmp.Ordering.TheVariants.{Less}
use Rattle.std.specs.Ordering.{is_lt}
use Rattle.league_core.specs.declared.sheet.Sheet.{Sheet}
use Rattle.league_core.specs.declared.sheet.Fixture.{Fixture}
use Rattle.league_core.specs.declared.season.Score.{Score}
use Rattle.league_core.specs.declared.question.Claim.{Claim}
use Rattle.league_core.specs.declared.question.Claim.TheVariants.{Inside, Outside}
use Rattle.league_core.specs.declared.question.Question.{Question}
use Rattle.league_core.specs.declared.zone.Literal.{Literal}
use Rattle.league_core.specs.game.Results.{Results}
use Rattle.league_core.specs.game.Sums.{Worth, match_points, goal_difference}
use Rattle.league_core.specs.game.HeadToHead.{by_first_difference}
use Rattle.league_core.specs.search.Zones.{marked_before, marked_after}
use Rattle.league_core.specs.search.Options.{has_score, options_in}

-- the club is wished points: for a place inside the line the question's own club and the rivals
-- marked before it, for a place outside all but the question's own club and the rivals marked after
-- it
abbrev pub is_wished : List Literal → ℕ → ℕ → Claim → Bool
is_wished zone own club Inside = (club == own) || marked_before zone club
is_wished zone own club Outside = not ((club == own) || marked_after zone club)

-- a number counts for a club that is wished points, and against one that is not
abbrev pub weighed : Bool → ℤ → ℤ
weighed true number = number
weighed false number = neg_ℤ number

-- what a score gives to its two sides, each counted for the side or against it
abbrev pub weighed_together : Worth → Bool → Bool → Score → ℤ
weighed_together worth home away score =
    weighed home (worth score.home score.away false)
    +ℤ weighed away (worth score.away score.home true)

-- how a score meets the wishes of its two sides: by points, then by margins, then by few goals,
-- then by many of them at home; each greater first
abbrev pub wishes_met : Bool → Bool → Score → List ℤ
wishes_met home away score =
    weighed_together match_points home away score
    ∷ weighed_together goal_difference home away score
    ∷ neg_ℤ (pos (score.home + score.away))
    ∷ pos score.home
    ∷ []

-- Less if the one score is taken before the other
abbrev pub option_order : Bool → Bool → Score → Score → Ordering
option_order home away score other =
    by_first_difference (wishes_met home away score) (wishes_met home away other)

-- the one of two scores that is taken first
abbrev pub first_of_two : Bool → Bool → Score → Score → Score
first_of_two home away score other =
    if is_lt (option_order home away other score) then other else score

-- the option that is taken before all others; none if there is no option
abbrev pub first_option : Bool → Bool → List Score → Option Score
first_option home away [] = None
first_option home away (score ∷ options) = Some (fold (first_of_two home away) score options)

-- the score is one of the options, and none of them is taken before it
pub record IsFirstOption (home away : Bool) (options : List Score) (score : Score) : Type 0 where
  pub option : IsTrue (has_score options score)
  pub first : (other : Score) → IsTrue (has_score options other)
      → option_order home away other score ≢ Less

-- each fixture takes the first of its options
abbrev pub first_options : (ℕ → Bool) → List Fixture → List (List Score) → List (Option Score)
first_options wished [] options = []
first_options wished (match ∷ matches) [] = []
first_options wished (match ∷ matches) (options ∷ more) =
    first_option (wished match.home) (wished match.away) options ∷ first_options wished matches more

-- the proposed finish of a zone that has a finish; it need not meet the zone's marks
unfoldable pub proposed_finish : Sheet → Results → Question → List Literal → Results
proposed_finish sheet season question zone =
    let wished = λ (club : ℕ). is_wished zone question.club club question.claim in
    record season { scores = first_options wished sheet.fixtures (options_in sheet season zone) }

-- What the calls come to that read a joint finish of a cup, group by group and score by score.
use Rattle.std.specs.Prelude.{◌≡◌, ◌≤◌, ℕ, ◌+◌, List, [], ◌∷◌, ◌++◌, length, take, drop}
use Rattle.std.specs.Prelude.{true, Option, Some, None, Result, Ok, Err}
use Rattle.league_core.specs.declared.season.Score.{Score}
use Rattle.league_core.specs.declared.question.Claim.{Claim}
use Rattle.league_core.specs.game.Results.{Results}
use Rattle.league_core.specs.game.Ranking.{are_lots}
use Rattle.cert_check.specs.declared.stop.CheckStopAt.{CheckStopAt}
use Rattle.cert_check.specs.ExpectedItems.{lots_if_drawn}
use Rattle.cert_check.specs.LineGrammars.{Next, bad, go}
use Rattle.cup_sheet.specs.Qualifying.{qualifies_at}
use Rattle.cup_text.specs.declared.cup_line.CupLine.TheVariants as line
use Rattle.cup_grammar.specs.declared.token.CupToken.{CupToken}
use Rattle.cup_grammar.specs.declared.token.CupToken.TheVariants.{Blank, Row, Proof, Unknown}
use Rattle.cup_grammar.specs.PlacedGroups.{CupBasis, PlacedGroup}
use Rattle.cup_grammar.specs.CupDues.{CupDue, cup_scores_due, ends_of_groups, is_on_claimed_side}
use Rattle.cup_check.specs.inside.CupGoes.{CupReportView, HaltsInCup, cup_ending_from}

-- a season with other scores of the same fixtures
pub record HasScoresOver (old new : Results) : Type 0 where
  pub scores : length new.scores ≡ length old.scores
  pub deductions : new.deductions ≡ old.deductions

-- each group's season is gone over so
abbrev pub HaveScoresOver : List Results → List Results → Type 0
HaveScoresOver [] [] = Unit {0}
HaveScoresOver (season ∷ seasons) (finish ∷ finishes) =
    HasScoresOver season finish × HaveScoresOver seasons finishes
HaveScoresOver _ _ = ⊥

-- what is due of a joint finish when the groups before this one have ended with these scores, and
-- so many of its fixtures
abbrev pub group_scores_due : Claim → ℕ → List (Option Score) → ℕ → List (Option Score)
    → List (Option Score) → CupDue
group_scores_due claim club ended fixture scores left =
    cup_scores_due claim club (ended ++ take fixture scores) (drop fixture scores ++ left)

-- what is due after a score, if the line is one that may come
abbrev pub after_cup_score_if : Claim → ℕ → List (Option Score) → List (Option Score)
    → Option Score → Next CupDue
after_cup_score_if claim club ended left None = bad
after_cup_score_if claim club ended left (Some ending) =
    go true (cup_scores_due claim club (ended ++ Some ending ∷ []) left ∷ [])

-- what is due after lots, if the line has such
abbrev pub after_cup_lots_if : CupBasis → Claim → ℕ → List (Option Score) → Option (List ℕ)
    → Next CupDue
after_cup_lots_if basis claim club ended None = bad
after_cup_lots_if basis claim club ended (Some drawn) =
    go (is_on_claimed_side claim
    (qualifies_at basis.cup (ends_of_groups basis.seasons ended) drawn club)) []

-- the lots that a line gives, if it gives some of so many clubs
abbrev pub lots_of_cup_token : ℕ → CupToken → Option (List ℕ)
lots_of_cup_token clubs Blank = None
lots_of_cup_token clubs (Row fields) = None
lots_of_cup_token clubs (Proof (line.Lots told)) =
    lots_if_drawn (are_lots clubs told.list) told.list
lots_of_cup_token clubs (Proof _) = None
lots_of_cup_token clubs Unknown = None

-- a call that goes on over one fixture of a group: the scores so far are longer by its score
abbrev pub GoesOverScore : CupReportView → ℕ → ℕ → ℕ → List (Option Score) → List (Option Score)
    → Result ℕ CheckStopAt → Type 0
GoesOverScore judged from first fixture old new (Ok at) =
    (at ≤ length judged.tokens)
    × ((claim : Claim) (club : ℕ) (ended left : List (Option Score)) (dues : List CupDue)
    (unsettled : ℕ) → length ended ≡ first
    → cup_ending_from judged from (group_scores_due claim club ended fixture old left ∷ dues)
    unsettled
    ≡ cup_ending_from judged at (group_scores_due claim club ended (fixture + 1) new left ∷ dues)
    unsettled)
GoesOverScore judged from first fixture old new (Err stop) =
    (claim : Claim) (club : ℕ) (ended left : List (Option Score)) → length ended ≡ first
    → HaltsInCup judged from (group_scores_due claim club ended fixture old left) stop

-- a call that goes on over all fixtures of a group
abbrev pub GoesOverGroup : CupReportView → ℕ → PlacedGroup → Result (ℕ × Results) CheckStopAt
    → Type 0
GoesOverGroup judged from group (Ok found) =
    (found.0 ≤ length judged.tokens)
    × HasScoresOver group.season found.1
    × ((claim : Claim) (club : ℕ) (ended left : List (Option Score)) (dues : List CupDue)
    (unsettled : ℕ) → length ended ≡ group.start.fixture
    → cup_ending_from judged from
    (cup_scores_due claim club ended (group.season.scores ++ left) ∷ dues) unsettled
    ≡ cup_ending_from judged found.0
    (cup_scores_due claim club (ended ++ found.1.scores) left ∷ dues) unsettled)
GoesOverGroup judged from group (Err stop) =
    (claim : Claim) (club : ℕ) (ended left : List (Option Score))
    → length ended ≡ group.start.fixture
    → HaltsInCup judged from (cup_scores_due claim club ended (group.season.scores ++ left)) stop

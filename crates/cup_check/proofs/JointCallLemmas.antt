-- Joint finishes by calls: over one score, and over one group after another.
use Rattle.std.proofs.Common.{◌≡◌, ◌<◌, ◌≤◌, ℕ, ◌+◌, true, false, List, [], ◌∷◌, ◌++◌}
use Rattle.std.proofs.Common.{length, take, drop, get_or, set, Option, Some, None, Result, Ok, Err}
use Rattle.std.proofs.Common.{refl, sym, ap, ◌∙◌, arith, subst, slice_index_or, length-append}
use Rattle.std.specs.Prelude.{is_some, slice_get}
use Rattle.std.proofs.lemmas.Option.{same_Some}
use Rattle.std.proofs.lemmas.List.{take_more, drop_more, take_all, drop_all, length-take-le}
use Rattle.league_core.specs.declared.season.Score.{Score}
use Rattle.league_core.specs.declared.question.Claim.{Claim}
use Rattle.league_core.specs.game.Results.{Results}
use Rattle.cert_check.specs.declared.stop.CheckStopAt.{CheckStopAt}
use Rattle.cert_check.proofs.GoesLemmas.{goes_along, halts_along, next_reads}
use Rattle.cup_sheet.specs.CupFeeds.{joint_sheet}
use Rattle.cup_sheet.specs.Cups.{AreSeasonsOf}
use Rattle.cup_groups.specs.GroupStarts.{start_of_group}
use Rattle.cup_grammar.specs.declared.token.CupToken.{CupToken}
use Rattle.cup_grammar.specs.PlacedGroups.{CupBasis, PlacedGroup, placed_groups}
use Rattle.cup_grammar.specs.CupDues.{CupDue, cup_scores_due, lots, score}
use Rattle.cup_grammar.specs.CupDues.{scores_of_groups, whole_joint_finish}
use Rattle.cup_grammar.specs.CupExpected.{after_in_cup}
use Rattle.cup_grammar.specs.CupReports.{cup_grammar}
use Rattle.cup_check.specs.inside.CupGoes.{CupReportView, GoesInCup, HaltsInCup}
use Rattle.cup_check.specs.inside.CupGoes.{IsJudgedInCup, IsNextInCup, cup_ending_from}
use Rattle.cup_check.specs.inside.JointCalls.{HaveScoresOver, GoesOverGroup, GoesOverScore}
use Rattle.cup_check.specs.inside.JointCalls.{after_cup_score_if}
use Rattle.cup_check.proofs.CupCallLemmas.{quiet}
use Rattle.cup_check.proofs.PlaceLemmas.{length-seasons, placed_at}
use Rattle.cup_check.proofs.JointLemmas.{length-scores, over_more, same_goal_limit, scored_due}
use Rattle.cup_check.proofs.JointLemmas.{scores_more, unplayed_due}

-- ---- one score

length-ended : (ended scores : List (Option Score)) (first fixture : ℕ) → length ended ≡ first
    → fixture < length scores → length (ended ++ take fixture scores) ≡ first + fixture
length-ended ended scores first fixture many inside =
    let own = length-take-le fixture scores (omega (arith, inside)) in
    omega (arith, length-append ended (take fixture scores), own, many)

-- a fixture that was not played has its score in the next line
pub over_scored : (judged : CupReportView) (from at : ℕ) (token : CupToken)
    → IsNextInCup judged from at token → (first fixture : ℕ) (scores : List (Option Score))
    (ending : Score) → fixture < length scores → is_some (get_or scores fixture None) ≡ false
    → ((claim : Claim) (club : ℕ) (ended left : List (Option Score))
    → length ended ≡ first + fixture
    → after_in_cup judged.basis (score claim club ended left) token
    ≡ after_cup_score_if claim club ended left (Some ending))
    → GoesOverScore judged from first fixture scores (set scores fixture (Some ending))
    (Ok (at + 1))
over_scored judged from at token next first fixture scores ending inside is says = (
  omega (arith, next.within),
  λ claim club ended left dues unsettled many.
      let before = ended ++ take fixture scores in
      let later = drop (fixture + 1) scores ++ left in
      let more = cup_scores_due claim club (before ++ Some ending ∷ []) later ∷ [] in
      let said = says claim club before later
      (length-ended ended scores first fixture many inside) in
      ap (λ due. cup_ending_from judged from (due ∷ dues) unsettled)
      (unplayed_due claim club ended left scores fixture inside is)
      ∙ next_reads cup_grammar judged from at token next (score claim club before later) more
      (quiet judged.basis (score claim club before later) token true more refl said) said
      dues unsettled
      ∙ ap (λ due. cup_ending_from judged (at + 1) (due ∷ dues) unsettled)
      (scored_due claim club ended left scores fixture ending inside),
)

-- the reading stops where the score is due
pub score_stops : (judged : CupReportView) (from first fixture : ℕ)
    (scores new : List (Option Score)) (stop : CheckStopAt) → fixture < length scores
    → is_some (get_or scores fixture None) ≡ false
    → ((claim : Claim) (club : ℕ) (ended left : List (Option Score))
    → length ended ≡ first + fixture → HaltsInCup judged from (score claim club ended left) stop)
    → GoesOverScore judged from first fixture scores new (Err stop)
score_stops judged from first fixture scores new stop inside is halts =
    λ claim club ended left many.
    let H : CupDue → Type 0 = λ due. HaltsInCup judged from due stop in
    subst H (sym (unplayed_due claim club ended left scores fixture inside is))
    (halts claim club (ended ++ take fixture scores) (drop (fixture + 1) scores ++ left)
    (length-ended ended scores first fixture many inside))

-- ---- group by group

-- a group by its number
pub group_is : (basis : CupBasis) (number : ℕ) (group : PlacedGroup)
    → AreSeasonsOf basis.cup.groups basis.seasons → number < length basis.cup.groups
    → slice_get (placed_groups basis) number ≡ Some group → group ≡ record {
      start = start_of_group basis.cup.groups number;
      sheet = slice_index_or basis.cup.groups number group.sheet;
      season = slice_index_or basis.seasons number group.season;
    }
group_is basis number group are inside there =
    same_Some _ _ (sym there ∙ placed_at basis number group.sheet group.season inside are)

-- it has the goal limit of the cup
pub group_limit : (basis : CupBasis) (number : ℕ) (group : PlacedGroup)
    → IsJudgedInCup basis.cup basis.seasons → number < length basis.cup.groups
    → slice_get (placed_groups basis) number ≡ Some group
    → group.sheet.goal_limit ≡ (joint_sheet basis.cup).goal_limit
group_limit basis number group is inside there =
    ap (λ (it : PlacedGroup). it.sheet.goal_limit)
    (group_is basis number group is.of_groups inside there)
    ∙ same_goal_limit basis.cup number group.sheet is.is_cup inside

-- the scores of the groups before this one were read, and those of the others are due
abbrev pub ReachesGroup : CupReportView → ℕ → Claim → ℕ → ℕ → List Results → ℕ → Type 0
ReachesGroup judged from claim club at finishes number =
    (at ≤ length judged.tokens)
    × HaveScoresOver (take number judged.basis.seasons) finishes
    × ((dues : List CupDue) (unsettled : ℕ)
    → cup_ending_from judged from (whole_joint_finish judged.basis claim club ∷ dues) unsettled
    ≡ cup_ending_from judged at (cup_scores_due claim club (scores_of_groups finishes)
    (scores_of_groups (drop number judged.basis.seasons)) ∷ dues) unsettled)

-- before the first
pub reach_begins : (judged : CupReportView) (from : ℕ) (claim : Claim) (club : ℕ)
    → from ≤ length judged.tokens → ReachesGroup judged from claim club from [] 0
reach_begins judged from claim club room = (room, tt, λ dues unsettled. refl)

-- what is due of the groups from one on begins with its scores
seasons_from : (basis : CupBasis) (number : ℕ) (group : PlacedGroup)
    → AreSeasonsOf basis.cup.groups basis.seasons → number < length basis.cup.groups
    → slice_get (placed_groups basis) number ≡ Some group
    → drop number basis.seasons ≡ group.season ∷ drop (number + 1) basis.seasons
seasons_from basis number group are inside there =
    let many = length-seasons basis.cup.groups basis.seasons are in
    let same =
    ap (λ (it : PlacedGroup). it.season) (group_is basis number group are inside there) in
    drop_more basis.seasons number group.season (omega (arith, inside, many))
    ∙ ap (λ it. it ∷ drop (number + 1) basis.seasons) (sym same)

-- the seasons up to one end with it
seasons_to : (basis : CupBasis) (number : ℕ) (group : PlacedGroup)
    → AreSeasonsOf basis.cup.groups basis.seasons → number < length basis.cup.groups
    → slice_get (placed_groups basis) number ≡ Some group
    → take (number + 1) basis.seasons ≡ take number basis.seasons ++ group.season ∷ []
seasons_to basis number group are inside there =
    let many = length-seasons basis.cup.groups basis.seasons are in
    let same =
    ap (λ (it : PlacedGroup). it.season) (group_is basis number group are inside there) in
    take_more basis.seasons number group.season (omega (arith, inside, many))
    ∙ ap (λ it. take number basis.seasons ++ it ∷ []) (sym same)

-- so many scores were read as its fixtures begin at
scores_before : (basis : CupBasis) (number : ℕ) (group : PlacedGroup) (finishes : List Results)
    → AreSeasonsOf basis.cup.groups basis.seasons → number < length basis.cup.groups
    → slice_get (placed_groups basis) number ≡ Some group
    → HaveScoresOver (take number basis.seasons) finishes
    → length (scores_of_groups finishes) ≡ group.start.fixture
scores_before basis number group finishes are inside there over =
    length-scores basis.cup.groups basis.seasons finishes number are over
    ∙ sym (ap (λ (it : PlacedGroup). it.start.fixture)
    (group_is basis number group are inside there))

-- a group stops the reading
pub reach_stops : (judged : CupReportView) (from : ℕ) (claim : Claim) (club at : ℕ)
    (finishes : List Results) (number : ℕ) (group : PlacedGroup) (stop : CheckStopAt)
    → IsJudgedInCup judged.basis.cup judged.basis.seasons
    → number < length judged.basis.cup.groups
    → slice_get (placed_groups judged.basis) number ≡ Some group
    → ReachesGroup judged from claim club at finishes number
    → GoesOverGroup judged at group (Err stop)
    → HaltsInCup judged from (whole_joint_finish judged.basis claim club) stop
reach_stops judged from claim club at finishes number group stop is inside there reaches halts =
    let ended = scores_of_groups finishes in
    let later = scores_of_groups (drop (number + 1) judged.basis.seasons) in
    halts_along cup_grammar judged from at (whole_joint_finish judged.basis claim club)
    (cup_scores_due claim club ended (group.season.scores ++ later)) stop
    (λ dues unsettled. reaches.2 dues unsettled
    ∙ ap (λ it. cup_ending_from judged at (cup_scores_due claim club ended (scores_of_groups it)
    ∷ dues) unsettled) (seasons_from judged.basis number group is.of_groups inside there))
    (halts claim club ended later
    (scores_before judged.basis number group finishes is.of_groups inside there reaches.1))

-- a group is read
pub reach_more : (judged : CupReportView) (from : ℕ) (claim : Claim) (club at : ℕ)
    (finishes : List Results) (number : ℕ) (group : PlacedGroup) (to : ℕ) (finish : Results)
    → IsJudgedInCup judged.basis.cup judged.basis.seasons
    → number < length judged.basis.cup.groups
    → slice_get (placed_groups judged.basis) number ≡ Some group
    → ReachesGroup judged from claim club at finishes number
    → GoesOverGroup judged at group (Ok (to, finish))
    → ReachesGroup judged from claim club to (finishes ++ finish ∷ []) (number + 1)
reach_more judged from claim club at finishes number group to finish is inside there reaches goes =
    let basis = judged.basis in
    let ended = scores_of_groups finishes in
    let later = scores_of_groups (drop (number + 1) basis.seasons) in
    let A : List Results → Type 0 = λ it. HaveScoresOver it (finishes ++ finish ∷ []) in (
      goes.0,
      subst A (sym (seasons_to basis number group is.of_groups inside there))
          (over_more (take number basis.seasons) finishes group.season finish reaches.1 goes.1),
      λ dues unsettled.
          reaches.2 dues unsettled
          ∙ ap (λ it. cup_ending_from judged at (cup_scores_due claim club ended
          (scores_of_groups it) ∷ dues) unsettled)
          (seasons_from basis number group is.of_groups inside there)
          ∙ goes.2 claim club ended later dues unsettled
          (scores_before basis number group finishes is.of_groups inside there reaches.1)
          ∙ ap (λ it. cup_ending_from judged to (cup_scores_due claim club it later ∷ dues)
          unsettled) (sym (scores_more finishes finish)),
    )

-- behind the last all groups have ended
pub all_over : (judged : CupReportView) (from : ℕ) (claim : Claim) (club at : ℕ)
    (finishes : List Results) (number : ℕ) → AreSeasonsOf judged.basis.cup.groups
    judged.basis.seasons → length judged.basis.cup.groups ≤ number
    → ReachesGroup judged from claim club at finishes number
    → HaveScoresOver judged.basis.seasons finishes
all_over judged from claim club at finishes number are past reaches =
    let many = length-seasons judged.basis.cup.groups judged.basis.seasons are in
    let A : List Results → Type 0 = λ it. HaveScoresOver it finishes in
    subst A (take_all number judged.basis.seasons (omega (arith, many, past))) reaches.1

-- and lots are due
pub reach_ends : (judged : CupReportView) (from : ℕ) (claim : Claim) (club at : ℕ)
    (finishes : List Results) (number : ℕ) (result : Result ℕ CheckStopAt)
    → AreSeasonsOf judged.basis.cup.groups judged.basis.seasons
    → length judged.basis.cup.groups ≤ number
    → ReachesGroup judged from claim club at finishes number
    → GoesInCup judged at (lots claim club (scores_of_groups finishes)) result
    → GoesInCup judged from (whole_joint_finish judged.basis claim club) result
reach_ends judged from claim club at finishes number result are past reaches goes =
    let many = length-seasons judged.basis.cup.groups judged.basis.seasons are in
    let none = drop_all number judged.basis.seasons (omega (arith, many, past)) in
    let ended = scores_of_groups finishes in
    goes_along cup_grammar judged from at (whole_joint_finish judged.basis claim club)
    (lots claim club ended) result
    (λ dues unsettled. reaches.2 dues unsettled
    ∙ ap (λ it. cup_ending_from judged at (cup_scores_due claim club ended (scores_of_groups it)
    ∷ dues) unsettled) none)
    goes

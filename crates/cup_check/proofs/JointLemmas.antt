-- Joint finishes: scores one after another through all groups, and how each group ends with them.
use Rattle.std.proofs.Common.{◌≡◌, ◌<◌, ℕ, zero, suc, ◌+◌, false, List, [], ◌∷◌}
use Rattle.std.proofs.Common.{◌++◌, length, take, drop, get_or, set, Option, Some, None}
use Rattle.std.proofs.Common.{refl, sym, ap, ◌∙◌, arith, append_assoc, append-nil}
use Rattle.std.proofs.Common.{length-append, slice_index_or}
use Rattle.std.specs.Prelude.{is_some, All}
use Rattle.std.proofs.lemmas.Bool.{false≢true}
use Rattle.std.proofs.lemmas.Grind.{flat_map-append}
use Rattle.std.proofs.lemmas.List.{drop_more, take_more_set, drop-set-lt}
use Rattle.std.proofs.Math.Seq.{take-append_seam, drop-append_seam}
use Rattle.league_core.specs.declared.sheet.Sheet.{Sheet}
use Rattle.league_core.specs.declared.season.Score.{Score}
use Rattle.league_core.specs.declared.question.Claim.{Claim}
use Rattle.league_core.specs.game.Results.{Results}
use Rattle.cup_sheet.specs.declared.cup.Cup.{Cup}
use Rattle.cup_sheet.specs.CupFeeds.{goal_limit_of}
use Rattle.cup_sheet.specs.Cups.{AreSeasonsOf, IsCup, IsGroup}
use Rattle.cup_groups.specs.GroupStarts.{fixtures_before}
use Rattle.cup_grammar.specs.CupDues.{cup_scores_due, ends_of_groups}
use Rattle.cup_grammar.specs.CupDues.{score, scores_of_groups}
use Rattle.cup_check.specs.inside.JointCalls.{HaveScoresOver, HasScoresOver}
use Rattle.cup_check.specs.inside.JointCalls.{group_scores_due}

-- ---- one fixture

-- a score that is not there is due
asked : (claim : Claim) (club : ℕ) (ended left : List (Option Score)) (there : Option Score)
    → is_some there ≡ false
    → cup_scores_due claim club ended (there ∷ left) ≡ score claim club ended left
asked claim club ended left None is = refl
asked claim club ended left (Some it) is = absurd (false≢true (sym is))

-- a fixture that was not played: its score is due
pub unplayed_due : (claim : Claim) (club : ℕ) (ended left scores : List (Option Score))
    (fixture : ℕ) → fixture < length scores → is_some (get_or scores fixture None) ≡ false
    → group_scores_due claim club ended fixture scores left
    ≡ score claim club (ended ++ take fixture scores) (drop (fixture + 1) scores ++ left)
unplayed_due claim club ended left scores fixture inside is =
    ap (λ it. cup_scores_due claim club (ended ++ take fixture scores) (it ++ left))
    (drop_more scores fixture None inside)
    ∙ asked claim club (ended ++ take fixture scores) (drop (fixture + 1) scores ++ left)
    (get_or scores fixture None) is

-- behind its score the next is
pub scored_due : (claim : Claim) (club : ℕ) (ended left scores : List (Option Score))
    (fixture : ℕ) (ending : Score) → fixture < length scores
    → cup_scores_due claim club ((ended ++ take fixture scores) ++ Some ending ∷ [])
    (drop (fixture + 1) scores ++ left)
    ≡ group_scores_due claim club ended (fixture + 1) (set scores fixture (Some ending)) left
scored_due claim club ended left scores fixture ending inside =
    ap (λ it. cup_scores_due claim club it (drop (fixture + 1) scores ++ left))
    (append_assoc ended (take fixture scores) (Some ending ∷ [])
    ∙ ap (λ it. ended ++ it) (sym (take_more_set scores fixture (Some ending) inside)))
    ∙ ap (λ it. cup_scores_due claim club
    (ended ++ take (fixture + 1) (set scores fixture (Some ending))) (it ++ left))
    (sym (drop-set-lt (fixture + 1) scores fixture (Some ending) (omega arith)))

-- ---- all groups

-- one group more has ended
pub over_more : (seasons finishes : List Results) (season finish : Results)
    → HaveScoresOver seasons finishes → HasScoresOver season finish
    → HaveScoresOver (seasons ++ season ∷ []) (finishes ++ finish ∷ [])
over_more [] [] season finish over one = (one, tt)
over_more [] (other ∷ finishes) season finish over one = absurd over
over_more (other ∷ seasons) [] season finish over one = absurd over
over_more (other ∷ seasons) (there ∷ finishes) season finish over one =
    (over.0, over_more seasons finishes season finish over.1 one)

-- the scores of one group more
pub scores_more : (finishes : List Results) (finish : Results)
    → scores_of_groups (finishes ++ finish ∷ []) ≡ scores_of_groups finishes ++ finish.scores
scores_more finishes finish =
    flat_map-append (λ (it : Results). it.scores) finishes (finish ∷ [])
    ∙ ap (λ it. scores_of_groups finishes ++ it) (append-nil finish.scores)

-- so many scores have the groups before one
pub length-scores : (groups : List Sheet) (seasons finishes : List Results) (number : ℕ)
    → AreSeasonsOf groups seasons → HaveScoresOver (take number seasons) finishes
    → length (scores_of_groups finishes) ≡ fixtures_before groups number
length-scores [] [] [] zero are over = refl
length-scores [] [] [] (suc number) are over = refl
length-scores [] [] (finish ∷ finishes) zero are over = absurd over
length-scores [] [] (finish ∷ finishes) (suc number) are over = absurd over
length-scores [] (season ∷ seasons) finishes number are over = absurd are
length-scores (group ∷ groups) [] finishes number are over = absurd are
length-scores (group ∷ groups) (season ∷ seasons) [] zero are over = refl
length-scores (group ∷ groups) (season ∷ seasons) (finish ∷ finishes) zero are over = absurd over
length-scores (group ∷ groups) (season ∷ seasons) [] (suc number) are over = absurd over
length-scores (group ∷ groups) (season ∷ seasons) (finish ∷ finishes) (suc number) are over =
    let rest = length-scores groups seasons finishes number are.1 over.1 in
    omega (
      arith,
      length-append finish.scores (scores_of_groups finishes),
      over.0.scores,
      are.0.scores,
      rest,
    )

-- the finishes are how the groups end with their scores
pub ends_are : (seasons finishes : List Results) → HaveScoresOver seasons finishes
    → ends_of_groups seasons (scores_of_groups finishes) ≡ finishes
ends_are [] [] over = refl
ends_are [] (finish ∷ finishes) over = absurd over
ends_are (season ∷ seasons) [] over = absurd over
ends_are (season ∷ seasons) (finish ∷ finishes) over =
    let rest = scores_of_groups finishes in
    let own : take (length season.scores) (finish.scores ++ rest) ≡ finish.scores =
    ap (λ n. take n (finish.scores ++ rest)) (sym over.0.scores)
    ∙ take-append_seam finish.scores rest in
    let later : drop (length season.scores) (finish.scores ++ rest) ≡ rest =
    ap (λ n. drop n (finish.scores ++ rest)) (sym over.0.scores)
    ∙ drop-append_seam finish.scores rest in
    let front : record season { scores = take (length season.scores) (finish.scores ++ rest) }
    ≡ finish = λ i. record { scores = own i; deductions = sym over.0.deductions i } in
    ap (λ it. it ∷ ends_of_groups seasons (drop (length season.scores) (finish.scores ++ rest)))
    front
    ∙ ap (λ it. finish ∷ ends_of_groups seasons it) later
    ∙ ap (λ it. finish ∷ it) (ends_are seasons finishes over.1)

-- they are seasons of the groups
pub over_are_seasons : (groups : List Sheet) (seasons finishes : List Results)
    → AreSeasonsOf groups seasons → HaveScoresOver seasons finishes → AreSeasonsOf groups finishes
over_are_seasons [] [] [] are over = tt
over_are_seasons [] [] (finish ∷ finishes) are over = absurd over
over_are_seasons [] (season ∷ seasons) finishes are over = absurd are
over_are_seasons (group ∷ groups) [] finishes are over = absurd are
over_are_seasons (group ∷ groups) (season ∷ seasons) [] are over = absurd over
over_are_seasons (group ∷ groups) (season ∷ seasons) (finish ∷ finishes) are over = (
  record {
    scores = over.0.scores ∙ are.0.scores;
    deductions = ap length over.0.deductions ∙ are.0.deductions;
  },
  over_are_seasons groups seasons finishes are.1 over.1,
)

-- every group has the goal limit of the cup
pub same_goal_limit : (cup : Cup) (number : ℕ) (d : Sheet) → IsCup cup
    → number < length cup.groups
    → (slice_index_or cup.groups number d).goal_limit ≡ goal_limit_of cup.groups
same_goal_limit cup number d is inside =
    (is.groups.2 number d inside).same_goal_limit
    ∙ sym (first cup.groups (omega (arith, inside)) is.groups.2)
  where
    first : (groups : List Sheet) → 0 < length groups
        → All (IsGroup is.groups.0 is.groups.1) groups
        → goal_limit_of groups ≡ is.groups.0
    first [] some all = absurd (omega (arith, some))
    first (group ∷ groups) some all = (all 0 group (omega arith)).same_goal_limit

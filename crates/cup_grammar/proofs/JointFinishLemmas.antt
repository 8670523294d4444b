-- A joint finish line by line: the scores that are due and the lots make a joint finish of the cup
-- at which the club is on its side.
use Rattle.std.proofs.Common.{◌≡◌, ◌≤◌, ℕ, Bool, true, false, ◌&&◌, ◌==◌, List, [], ◌∷◌}
use Rattle.std.proofs.Common.{◌++◌, length, take, drop, Option, Some, None, refl, sym}
use Rattle.std.proofs.Common.{subst, arith, append_assoc, append-nil}
use Rattle.std.specs.Prelude.{All}
use Rattle.std.proofs.lemmas.Bool.{and_parts, and_from, false≢true}
use Rattle.std.proofs.lemmas.List.Elements.{All-head, All-tail}
use Rattle.league_core.specs.declared.question.Claim.{Claim}
use Rattle.league_core.specs.declared.question.Claim.TheVariants.{Inside, Outside}
use Rattle.league_core.specs.declared.season.Score.{Score}
use Rattle.league_core.specs.declared.sheet.Sheet.{Sheet}
use Rattle.league_core.specs.game.Finishes.{may_all_end, may_end}
use Rattle.league_core.specs.game.Ranking.{are_lots}
use Rattle.league_core.specs.game.Results.{Results}
use Rattle.league_core.proofs.OptionLemmas.{same_score-itself}
use Rattle.line_tokens.specs.LineRanges.{same_claim}
use Rattle.cert_check.specs.ExpectedItems.{is_ending}
use Rattle.cert_check.specs.LineGrammars.{go}
use Rattle.cert_check.proofs.NextLemmas.{bad-go, go-if}
use Rattle.cup_sheet.specs.CupAnswers.{HasCupExample, qualifies_on}
use Rattle.cup_sheet.specs.CupFeeds.{goal_limit_of, joint_sheet}
use Rattle.cup_sheet.specs.Cups.{AreSeasonsOf, IsCup, IsGroup, clubs_together}
use Rattle.cup_sheet.specs.JointFinishes.{AreFinishesOf}
use Rattle.cup_sheet.specs.Qualifying.{qualifies_at}
use Rattle.cup_text.specs.declared.cup_line.CupLine.{CupLine}
use Rattle.cup_text.specs.declared.cup_line.CupLine.TheVariants as line
use Rattle.cup_grammar.specs.declared.token.CupToken.{CupToken}
use Rattle.cup_grammar.specs.PlacedGroups.{CupBasis}
use Rattle.cup_grammar.specs.CupDues.{CupDue, after_cup_lots, after_cup_score, after_joint_head}
use Rattle.cup_grammar.specs.CupDues.{cup_scores_due, ends_of_groups, is_on_claimed_side}
use Rattle.cup_grammar.specs.CupDues.{scores_of_groups, whole_joint_finish}
use Rattle.cup_grammar.specs.inside.CupParts.{CanEndFrom, ShowsDue}
use Rattle.cup_grammar.proofs.GroupNodeLemmas.{ArePartsOf, left_part, left_parts}

-- ---- scores and lots

-- a fixture that has ended before the rest
with_score : (basis : CupBasis) (claim : Claim) (club : ℕ) (ended left : List (Option Score))
    (played : Option Score) (ending : Score)
    → may_end (goal_limit_of basis.cup.groups) played (Some ending) ≡ true
    → CanEndFrom basis claim club (ended ++ Some ending ∷ []) left
    → CanEndFrom basis claim club ended (played ∷ left)
with_score basis claim club ended left played ending may rest =
    let limit = goal_limit_of basis.cup.groups in
    let H : List (Option Score) → Type 0 = λ it.
    qualifies_at basis.cup (ends_of_groups basis.seasons it) rest.1 club ≡ qualifies_on claim in (
      Some ending ∷ rest.0,
      rest.1,
      and_from (may_end limit played (Some ending)) (may_all_end limit left rest.0) may rest.2,
      rest.3,
      subst H (append_assoc ended (Some ending ∷ []) rest.0) rest.4,
    )

-- what is due after scores shows how the rest can end
scores_shown : (basis : CupBasis) (claim : Claim) (club : ℕ) (left ended : List (Option Score))
    (tokens : List CupToken) → ShowsDue basis (cup_scores_due claim club ended left) tokens
    → CanEndFrom basis claim club ended left
scores_shown basis claim club [] ended tokens shown = shown
scores_shown basis claim club (None ∷ left) ended tokens shown = shown
scores_shown basis claim club (Some played ∷ left) ended tokens shown =
    with_score basis claim club ended left (Some played) played (same_score-itself played played
    refl)
    (scores_shown basis claim club left (ended ++ Some played ∷ []) tokens shown)

-- a score with what comes after it
pub join_cup_score : (basis : CupBasis) (claim : Claim) (club : ℕ)
    (ended left : List (Option Score)) (it : CupLine) (more : List CupDue) (tokens : List CupToken)
    → after_cup_score basis claim club ended left it ≡ go true more → ArePartsOf basis more tokens
    → CanEndFrom basis claim club ended (None ∷ left)
join_cup_score basis claim club ended left (line.Score fixture ending) more tokens goes parts =
    let due = cup_scores_due claim club (ended ++ Some ending ∷ []) left in
    let may = is_ending (joint_sheet basis.cup) ending in
    let fits = go-if ((fixture == length ended) && may) (go true (due ∷ [])) true more goes in
    let tests = and_parts (fixture == length ended) may fits.0 in
    with_score basis claim club ended left None ending tests.1
    (scores_shown basis claim club left (ended ++ Some ending ∷ []) tokens
    (left_part basis true due more tokens fits.1 parts).1)
join_cup_score basis claim club ended left _ more tokens goes parts =
    absurd (bad-go true more goes)

-- the club is on the side that is claimed
on_side : (claim : Claim) (answer : Bool) → is_on_claimed_side claim answer ≡ true
    → answer ≡ qualifies_on claim
on_side Inside answer is = is
on_side Outside false is = refl
on_side Outside true is = absurd (false≢true is)

-- the lots
pub join_cup_lots : (basis : CupBasis) (claim : Claim) (club : ℕ) (ended : List (Option Score))
    (it : CupLine) (more : List CupDue) (tokens : List CupToken)
    → after_cup_lots basis claim club ended it ≡ go true more → ArePartsOf basis more tokens
    → CanEndFrom basis claim club ended []
join_cup_lots basis claim club ended (line.Lots list) more tokens goes parts =
    let finishes = ends_of_groups basis.seasons ended in
    let answer = qualifies_at basis.cup finishes list.list club in
    let fits = go-if (are_lots (clubs_together basis.cup.groups) list.list)
    (go (is_on_claimed_side claim answer) []) true more goes in
    let left = left_parts basis (is_on_claimed_side claim answer) [] more tokens fits.1 parts in
    let H : List (Option Score) → Type 0 = λ it.
    qualifies_at basis.cup (ends_of_groups basis.seasons it) list.list club ≡ qualifies_on claim in
    ([], list.list, refl, fits.0, subst H (sym (append-nil ended)) (on_side claim answer left.0))
join_cup_lots basis claim club ended _ more tokens goes parts = absurd (bad-go true more goes)

-- ---- how the groups end

-- how fixtures end falls into how the front ones do and how the others do
ends_split : (limit : ℕ) (front back finish : List (Option Score))
    → may_all_end limit (front ++ back) finish ≡ true
    → (may_all_end limit front (take (length front) finish) ≡ true)
    × (may_all_end limit back (drop (length front) finish) ≡ true)
ends_split limit [] back finish may = (refl, may)
ends_split limit (played ∷ front) back [] may = absurd (false≢true may)
ends_split limit (played ∷ front) back (ended ∷ finish) may =
    let both = and_parts (may_end limit played ended) (may_all_end limit (front ++ back) finish) may
    in
    let later = ends_split limit front back finish both.1 in (
      and_from (may_end limit played ended)
          (may_all_end limit front (take (length front) finish)) both.0 later.0,
      later.1,
    )

-- each group finishes as it may
groups_finish : (limit budget : ℕ) (groups : List Sheet) (seasons : List Results)
    (finish : List (Option Score)) → All (IsGroup limit budget) groups
    → AreSeasonsOf groups seasons
    → may_all_end limit (scores_of_groups seasons) finish ≡ true
    → AreFinishesOf groups seasons (ends_of_groups seasons finish)
groups_finish limit budget [] [] finish are each may = tt
groups_finish limit budget [] (season ∷ seasons) finish are each may = absurd each
groups_finish limit budget (group ∷ groups) [] finish are each may = absurd each
groups_finish limit budget (group ∷ groups) (season ∷ seasons) finish are each may =
    let two = ends_split limit season.scores (scores_of_groups seasons) finish may in
    let is = All-head (IsGroup limit budget) group groups are in (
      record {
        deductions = refl;
        scores =
            subst
            (λ it. may_all_end it season.scores (take (length season.scores) finish) ≡ true)
            (sym is.same_goal_limit) two.0;
      },
      groups_finish limit budget groups seasons (drop (length season.scores) finish)
          (All-tail (IsGroup limit budget) group groups are) each.1 two.1,
    )

-- the goal limit of the groups is that of each
pub limit_of_groups : (limit budget : ℕ) (groups : List Sheet) → 2 ≤ length groups
    → All (IsGroup limit budget) groups → goal_limit_of groups ≡ limit
limit_of_groups limit budget [] some are = absurd (omega arith)
limit_of_groups limit budget (group ∷ groups) some are =
    let is = All-head (IsGroup limit budget) group groups are in is.same_goal_limit

-- how all fixtures can end makes a joint finish
example_shown : (basis : CupBasis) (claim : Claim) (club : ℕ) → IsCup basis.cup
    → AreSeasonsOf basis.cup.groups basis.seasons
    → CanEndFrom basis claim club [] (scores_of_groups basis.seasons)
    → HasCupExample basis.cup basis.seasons claim club
example_shown basis claim club is_cup each shown =
    let limit = is_cup.groups.0 in
    let same = limit_of_groups limit is_cup.groups.1 basis.cup.groups is_cup.least_groups
    is_cup.groups.2 in (
      ends_of_groups basis.seasons shown.0,
      shown.1,
      record {
        joint =
            record {
              each =
                  groups_finish limit is_cup.groups.1 basis.cup.groups basis.seasons shown.0
                  is_cup.groups.2 each
                  (subst (λ it. may_all_end it (scores_of_groups basis.seasons) shown.0 ≡ true)
                  same shown.2);
              drawn = shown.3;
            };
        on_side = shown.4;
      },
    )

-- the head of a joint finish
pub join_joint_head : (basis : CupBasis) (claim : Claim) (club : ℕ) (it : CupLine)
    (more : List CupDue) (tokens : List CupToken) → IsCup basis.cup
    → AreSeasonsOf basis.cup.groups basis.seasons
    → after_joint_head basis claim club it ≡ go true more → ArePartsOf basis more tokens
    → HasCupExample basis.cup basis.seasons claim club
join_joint_head basis claim club (line.Finish side) more tokens is_cup each goes parts =
    let due = whole_joint_finish basis claim club in
    let fits = go-if (same_claim side claim) (go true (due ∷ [])) true more goes in
    example_shown basis claim club is_cup each
    (scores_shown basis claim club (scores_of_groups basis.seasons) [] tokens
    (left_part basis true due more tokens fits.1 parts).1)
join_joint_head basis claim club _ more tokens is_cup each goes parts =
    absurd (bad-go true more goes)

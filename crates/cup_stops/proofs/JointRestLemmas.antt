-- What is due after scores is the rest of a joint finish, and back.
use Rattle.std.proofs.Common.{◌≡◌, ℕ, ◌+◌, Bool, true, List, [], ◌∷◌, ◌++◌}
use Rattle.std.proofs.Common.{length, map, Option, Some, None, refl, sym, ap, ◌∙◌, subst}
use Rattle.std.proofs.Common.{append_assoc}
use Rattle.std.specs.Bool.{OnTrue}
use Rattle.std.proofs.lemmas.Bool.{and_parts, and_from, false≢true}
use Rattle.std.proofs.lemmas.List.{length_push}
use Rattle.league_core.specs.declared.question.Claim.{Claim}
use Rattle.league_core.specs.declared.season.Score.{Score}
use Rattle.league_core.specs.game.Finishes.{may_end, may_all_end, same_score}
use Rattle.league_core.specs.game.Ranking.{are_lots}
use Rattle.league_core.proofs.OptionLemmas.{same_score-true, same_score-itself}
use Rattle.cup_sheet.specs.CupAnswers.{qualifies_on}
use Rattle.cup_sheet.specs.CupFeeds.{goal_limit_of}
use Rattle.cup_sheet.specs.Cups.{clubs_together}
use Rattle.cup_sheet.specs.Qualifying.{qualifies_at}
use Rattle.cup_text.specs.CupItems.{group_scores_from}
use Rattle.cup_text.specs.declared.cup_line.CupLine.TheVariants as line
use Rattle.cup_grammar.specs.declared.token.CupToken.{CupToken}
use Rattle.cup_grammar.specs.declared.token.CupToken.TheVariants.{Proof}
use Rattle.cup_grammar.specs.PlacedGroups.{CupBasis}
use Rattle.cup_grammar.specs.CupDues.{CupDue}
use Rattle.cup_grammar.specs.CupDues.{cup_scores_due, ends_of_groups}
use Rattle.cup_stops.specs.inside.CupCases.{IsCupCase, IsJointFrom}

module _ (proved : Bool) (basis : CupBasis) (claim : Claim) (club : ℕ) where
  -- how many goals a side may score
  abbrev pub cup_limit : ℕ
  cup_limit = goal_limit_of basis.cup.groups

  -- with these scores and lots the club is on the side
  abbrev pub IsOnSide : List (Option Score) → List ℕ → Type 0
  IsOnSide scores drawn =
      qualifies_at basis.cup (ends_of_groups basis.seasons scores) drawn club
      ≡ qualifies_on claim

  -- the lines of the scores that are left, and of the lots
  abbrev pub joint_tokens : ℕ → List (Option Score) → List (Option Score) → List ℕ → List CupToken
  joint_tokens fixture left scores drawn =
      map Proof (group_scores_from fixture left scores ++ line.Lots (record { list = drawn }) ∷ [])

  -- what is due after these scores
  abbrev pub due_after : List (Option Score) → List (Option Score) → CupDue
  due_after ended left = cup_scores_due claim club ended left

  -- ---- what is due after scores is the rest of a joint finish

  -- an ended fixture before the rest
  pub with_ended : (ended left : List (Option Score)) (played : Option Score) (ending : Score)
      (tokens : List CupToken) → may_end cup_limit played (Some ending) ≡ true
      → IsJointFrom proved basis claim club (ended ++ Some ending ∷ []) left tokens
      → (scores : List (Option Score)) × (drawn : List ℕ)
      × (may_all_end cup_limit (played ∷ left) (Some ending ∷ scores) ≡ true)
      × (are_lots (clubs_together basis.cup.groups) drawn ≡ true)
      × OnTrue proved (IsOnSide (ended ++ Some ending ∷ scores) drawn)
      × (tokens ≡ joint_tokens (length ended + 1) left scores drawn)
  with_ended ended left played ending tokens may rest =
      let H : List (Option Score) → Type 0 = λ it. OnTrue proved (IsOnSide it rest.1) in (
        rest.0,
        rest.1,
        and_from (may_end cup_limit played (Some ending)) (may_all_end cup_limit left rest.0) may
            rest.2,
        rest.3,
        subst H (append_assoc ended (Some ending ∷ []) rest.0) rest.4,
        rest.5 ∙ ap (λ it. joint_tokens it left rest.0 rest.1) (length_push ended (Some ending)),
      )

  -- what is due is the rest
  pub due-rest : (left ended : List (Option Score)) (tokens : List CupToken)
      → IsCupCase proved basis (due_after ended left) tokens
      → IsJointFrom proved basis claim club ended left tokens
  due-rest [] ended tokens part = part
  due-rest (None ∷ left) ended tokens part = part
  due-rest (Some played ∷ left) ended tokens part =
      let rest = with_ended ended left (Some played) played tokens
      (same_score-itself played played refl)
      (due-rest left (ended ++ Some played ∷ []) tokens part) in
      (Some played ∷ rest.0, rest.1, rest.2, rest.3, rest.4, rest.5)

  -- the rest with the scores of a finish whose next score is this one
  pub without_ended : (ended left scores : List (Option Score)) (ending : Score) (drawn : List ℕ)
      → may_all_end cup_limit left scores ≡ true
      → are_lots (clubs_together basis.cup.groups) drawn ≡ true
      → OnTrue proved (IsOnSide (ended ++ Some ending ∷ scores) drawn)
      → IsJointFrom proved basis claim club (ended ++ Some ending ∷ []) left
      (joint_tokens (length ended + 1) left scores drawn)
  without_ended ended left scores ending drawn may are side =
      let H : List (Option Score) → Type 0 = λ it. OnTrue proved (IsOnSide it drawn) in (
        scores,
        drawn,
        may,
        are,
        subst H (sym (append_assoc ended (Some ending ∷ []) scores)) side,
        ap (λ it. joint_tokens it left scores drawn) (sym (length_push ended (Some ending))),
      )

  -- and the rest is what is due
  pub rest-due : (left ended : List (Option Score)) (tokens : List CupToken)
      → IsJointFrom proved basis claim club ended left tokens
      → IsCupCase proved basis (due_after ended left) tokens
  rest-due [] ended tokens rest = rest
  rest-due (None ∷ left) ended tokens rest = rest
  rest-due (Some played ∷ left) ended tokens rest =
      one_played (rest-due left (ended ++ Some played ∷ [])) rest.0 rest.1 rest.2 rest.3 rest.4
      rest.5
    where
      one_played : ((behind : List CupToken)
          → IsJointFrom proved basis claim club (ended ++ Some played ∷ []) left behind
          → IsCupCase proved basis (due_after (ended ++ Some played ∷ []) left) behind)
          → (scores : List (Option Score)) (drawn : List ℕ)
          → may_all_end cup_limit (Some played ∷ left) scores ≡ true
          → are_lots (clubs_together basis.cup.groups) drawn ≡ true
          → OnTrue proved (IsOnSide (ended ++ scores) drawn)
          → tokens ≡ joint_tokens (length ended) (Some played ∷ left) scores drawn
          → IsCupCase proved basis (due_after (ended ++ Some played ∷ []) left) tokens
      one_played again [] drawn may are side lines = absurd (false≢true may)
      one_played again (None ∷ scores) drawn may are side lines = absurd (false≢true may)
      one_played again (Some ending ∷ scores) drawn may are side lines =
          let both = and_parts (same_score played ending) (may_all_end cup_limit left scores) may in
          let same = same_score-true played ending both.0 in
          let H : Score → Type 0 =
          λ it. OnTrue proved (IsOnSide (ended ++ Some it ∷ scores) drawn) in
          let P : List CupToken → Type 0 =
          λ it. IsCupCase proved basis (due_after (ended ++ Some played ∷ []) left) it in
          subst P (sym lines)
          (again (joint_tokens (length ended + 1) left scores drawn)
          (without_ended ended left scores played drawn both.1 are (subst H (sym same) side)))

-- Joint finishes line by line: a score with what is due after it, the lots, and back.
use Rattle.std.proofs.Common.{◌≡◌, ℕ, ◌+◌, Bool, true, false, not, ◌&&◌, ◌==◌, List, [], ◌∷◌, ◌++◌}
use Rattle.std.proofs.Common.{length, Option, Some, None, refl, sym, ap, ◌∙◌, subst}
use Rattle.std.proofs.Common.{append-nil}
use Rattle.std.specs.Bool.{OnTrue}
use Rattle.std.proofs.lemmas.Bool.{OnTrue_at, OnTrue_from, and_parts, and_from, false≢true}
use Rattle.std.proofs.lemmas.Bool.{eqb-true, eq-eqb}
use Rattle.league_core.specs.declared.question.Claim.{Claim}
use Rattle.league_core.specs.declared.question.Claim.TheVariants.{Inside, Outside}
use Rattle.league_core.specs.declared.season.Score.{Score}
use Rattle.league_core.specs.game.Finishes.{may_all_end}
use Rattle.league_core.specs.game.Ranking.{are_lots}
use Rattle.cert_check.specs.ExpectedItems.{is_ending}
use Rattle.cert_check.specs.LineGrammars.{go}
use Rattle.cert_check.proofs.NextLemmas.{go-same, bad-go, go-if, if-go, as_only_part}
use Rattle.cert_check.proofs.NextLemmas.{Parted}
use Rattle.cup_sheet.specs.CupAnswers.{qualifies_on}
use Rattle.cup_sheet.specs.CupFeeds.{goal_limit_of, joint_sheet}
use Rattle.cup_sheet.specs.Cups.{clubs_together}
use Rattle.cup_sheet.specs.Qualifying.{qualifies_at}
use Rattle.cup_text.specs.declared.cup_line.CupLine.{CupLine}
use Rattle.cup_text.specs.declared.cup_line.CupLine.TheVariants as line
use Rattle.cup_grammar.specs.declared.token.CupToken.{CupToken}
use Rattle.cup_grammar.specs.declared.token.CupToken.TheVariants.{Proof}
use Rattle.cup_grammar.specs.PlacedGroups.{CupBasis}
use Rattle.cup_grammar.specs.CupDues.{CupDue, lots, score, after_cup_lots, after_cup_score}
use Rattle.cup_grammar.specs.CupDues.{ends_of_groups, is_on_claimed_side}
use Rattle.cup_grammar.specs.CupExpected.{after_in_cup}
use Rattle.cup_stops.specs.inside.CupCases.{IsJointFrom, cup_cases}
use Rattle.cup_stops.proofs.DueCaseLemmas.{AreCasesOf, left_case, left_cases}
use Rattle.cup_stops.proofs.JointRestLemmas.{IsOnSide, due_after, due-rest}
use Rattle.cup_stops.proofs.JointRestLemmas.{joint_tokens, rest-due, with_ended, without_ended}

-- the answer is that of the side
side_says : (claim : Claim) (answer : Bool) → is_on_claimed_side claim answer ≡ true
    → answer ≡ qualifies_on claim
side_says Inside answer is = is
side_says Outside false is = refl
side_says Outside true is = absurd (false≢true is)

side_of : (claim : Claim) (answer : Bool) → answer ≡ qualifies_on claim
    → is_on_claimed_side claim answer ≡ true
side_of Inside answer is = is
side_of Outside answer is = ap not is

module _ (proved : Bool) (basis : CupBasis) (claim : Claim) (club : ℕ) where
  -- ---- one line

  -- a score, with what is due after it
  pub join_score_line : (ended left : List (Option Score)) (it : CupLine) (holds : Bool)
      (more : List CupDue) (tokens : List CupToken)
      → after_cup_score basis claim club ended left it ≡ go holds more
      → AreCasesOf proved basis more tokens
      → IsJointFrom proved basis claim club ended (None ∷ left) (Proof it ∷ tokens)
  join_score_line ended left (line.Score fixture ending) holds more tokens goes parts =
      let due = due_after proved basis claim club (ended ++ Some ending ∷ []) left in
      let may = is_ending (joint_sheet basis.cup) ending in
      let fits = go-if ((fixture == length ended) && may) (go true (due ∷ [])) holds more goes in
      let tests = and_parts (fixture == length ended) may fits.0 in
      let rest = with_ended proved basis claim club ended left None ending tokens tests.1
      (due-rest proved basis claim club left (ended ++ Some ending ∷ []) tokens
      (left_case proved basis true holds due more tokens fits.1 parts)) in (
        Some ending ∷ rest.0,
        rest.1,
        rest.2,
        rest.3,
        rest.4,
        ap (λ it. Proof (line.Score it ending) ∷ tokens)
            (eqb-true fixture (length ended) tests.0)
            ∙ ap (λ it. Proof (line.Score (length ended) ending) ∷ it) rest.5,
      )
  join_score_line ended left _ holds more tokens goes parts = absurd (bad-go holds more goes)

  -- the lots
  pub join_lots_line : (ended : List (Option Score)) (it : CupLine) (holds : Bool)
      (more : List CupDue) (tokens : List CupToken)
      → after_cup_lots basis claim club ended it ≡ go holds more → (proved ≡ true → holds ≡ true)
      → AreCasesOf proved basis more tokens
      → IsJointFrom proved basis claim club ended [] (Proof it ∷ tokens)
  join_lots_line ended (line.Lots list) holds more tokens goes so parts =
      let answer = qualifies_at basis.cup (ends_of_groups basis.seasons ended) list.list club in
      let says = is_on_claimed_side claim answer in
      let fits = go-if (are_lots (clubs_together basis.cup.groups) list.list) (go says []) holds
      more goes in
      let same = go-same says holds [] more fits.1 in
      let ends : tokens ≡ [] = left_cases proved basis says holds [] more tokens fits.1 parts in
      let H : List (Option Score) → Type 0 =
      λ it. OnTrue proved (IsOnSide proved basis claim club it list.list) in (
        [],
        list.list,
        refl,
        fits.0,
        subst H (sym (append-nil ended))
            (OnTrue_from proved (IsOnSide proved basis claim club ended list.list)
            (λ is. side_says claim answer (same.0 ∙ so is))),
        ap (λ it. Proof (line.Lots list) ∷ it) ends,
      )
  join_lots_line ended _ holds more tokens goes so parts = absurd (bad-go holds more goes)

  -- ---- the first line

  pub part_score_line : (ended left : List (Option Score)) (tokens : List CupToken)
      → IsJointFrom proved basis claim club ended (None ∷ left) tokens
      → Parted cup_cases proved basis (after_in_cup basis) (score claim club ended left) tokens
  part_score_line ended left tokens rest =
      first_line rest.0 rest.1 rest.2 rest.3 rest.4 rest.5
    where
      first_line : (scores : List (Option Score)) (drawn : List ℕ)
          → may_all_end (goal_limit_of basis.cup.groups) (None ∷ left) scores ≡ true
          → are_lots (clubs_together basis.cup.groups) drawn ≡ true
          → OnTrue proved (IsOnSide proved basis claim club (ended ++ scores) drawn)
          → tokens ≡ joint_tokens proved basis claim club (length ended) (None ∷ left) scores drawn
          → Parted cup_cases proved basis (after_in_cup basis) (score claim club ended left) tokens
      first_line [] drawn may are side lines = absurd (false≢true may)
      first_line (None ∷ scores) drawn may are side lines = absurd (false≢true may)
      first_line (Some ending ∷ scores) drawn may are side lines =
          let due = due_after proved basis claim club (ended ++ Some ending ∷ []) left in
          let behind = joint_tokens proved basis claim club (length ended + 1) left scores drawn in
          let fits = is_ending (joint_sheet basis.cup) ending in
          let both = and_parts fits
          (may_all_end (goal_limit_of basis.cup.groups) left scores) may in (
            Proof (line.Score (length ended) ending),
            behind,
            true,
            due ∷ [],
            lines,
            if-go ((length ended == length ended) && fits) (go true (due ∷ []))
                (and_from (length ended == length ended) fits
                (eq-eqb (length ended) (length ended) refl) both.0),
            λ _. refl,
            refl,
            as_only_part cup_cases proved basis due behind
                (rest-due proved basis claim club left (ended ++ Some ending ∷ []) behind
                (without_ended proved basis claim club ended left scores ending drawn both.1 are
                side)),
          )

  -- the lots leave nothing due
  pub part_lots_line : (ended : List (Option Score)) (tokens : List CupToken)
      → IsJointFrom proved basis claim club ended [] tokens
      → Parted cup_cases proved basis (after_in_cup basis) (lots claim club ended) tokens
  part_lots_line ended tokens rest = first_line rest.0 rest.1 rest.2 rest.3 rest.4 rest.5
    where
      first_line : (scores : List (Option Score)) (drawn : List ℕ)
          → may_all_end (goal_limit_of basis.cup.groups) [] scores ≡ true
          → are_lots (clubs_together basis.cup.groups) drawn ≡ true
          → OnTrue proved (IsOnSide proved basis claim club (ended ++ scores) drawn)
          → tokens ≡ joint_tokens proved basis claim club (length ended) [] scores drawn
          → Parted cup_cases proved basis (after_in_cup basis) (lots claim club ended) tokens
      first_line (ending ∷ scores) drawn may are side lines = absurd (false≢true may)
      first_line [] drawn may are side lines =
          let answer = qualifies_at basis.cup (ends_of_groups basis.seasons ended) drawn club in
          let says = is_on_claimed_side claim answer in
          let H : List (Option Score) → Type 0 =
          λ it. OnTrue proved (IsOnSide proved basis claim club it drawn) in
          let own = subst H (append-nil ended) side in (
            Proof (line.Lots (record { list = drawn })),
            [],
            says,
            [],
            lines,
            if-go (are_lots (clubs_together basis.cup.groups) drawn) (go says []) are,
            λ is. side_of claim answer (OnTrue_at {b = proved} is own),
            refl,
            refl,
          )

-- A joint finish that is written for a side is read as whole: the scores of the fixtures that are
-- left, and the lots.
use Rattle.std.proofs.Common.{◌≡◌, ℕ, ◌+◌, Bool, true, not, ◌&&◌, ◌==◌, List, [], ◌∷◌, ◌++◌}
use Rattle.std.proofs.Common.{length, take, drop, Option, Some, None, refl, sym, ap, ◌∙◌, subst}
use Rattle.std.proofs.Common.{arith, append_assoc, append-nil}
use Rattle.std.specs.Prelude.{All}
use Rattle.std.proofs.lemmas.Bool.{and_parts, and_from, eq-eqb, false≢true}
use Rattle.std.proofs.lemmas.List.{length_push}
use Rattle.std.proofs.lemmas.List.Elements.{All-head, All-tail}
use Rattle.std.proofs.Math.Seq.{drop-append_seam, take-append_seam}
use Rattle.league_core.specs.declared.question.Claim.{Claim}
use Rattle.league_core.specs.declared.question.Claim.TheVariants.{Inside, Outside}
use Rattle.league_core.specs.declared.season.Score.{Score}
use Rattle.league_core.specs.declared.sheet.Sheet.{Sheet}
use Rattle.league_core.specs.game.Finishes.{may_all_end, may_end, same_score}
use Rattle.league_core.specs.game.Ranking.{are_lots}
use Rattle.league_core.specs.game.Results.{Results}
use Rattle.league_core.proofs.OptionLemmas.{same_score-true}
use Rattle.line_tokens.specs.LineRanges.{same_claim}
use Rattle.cert_check.specs.ExpectedItems.{is_ending}
use Rattle.cert_check.specs.LineGrammars.{go}
use Rattle.cert_check.proofs.NextLemmas.{if-go}
use Rattle.cup_sheet.specs.CupAnswers.{qualifies_on}
use Rattle.cup_sheet.specs.CupFeeds.{goal_limit_of, joint_sheet}
use Rattle.cup_sheet.specs.Cups.{IsCup, IsGroup, clubs_together}
use Rattle.cup_sheet.specs.JointFinishes.{AreFinishesOf}
use Rattle.cup_sheet.specs.Qualifying.{qualifies_at}
use Rattle.cup_text.specs.CupItems.{IsShownText, cup_score_if, group_scores_from}
use Rattle.cup_text.specs.CupItems.{joint_scores_from}
use Rattle.cup_text.specs.declared.cup_line.CupLine.{CupLine}
use Rattle.cup_text.specs.declared.cup_line.CupLine.TheVariants as line
use Rattle.cup_grammar.specs.PlacedGroups.{CupBasis}
use Rattle.cup_grammar.specs.CupDues.{CupDue, after_joint_head, cup_scores_due}
use Rattle.cup_grammar.specs.CupDues.{ends_of_groups, is_on_claimed_side, lots, scores_of_groups}
use Rattle.cup_grammar.specs.CupDues.{whole_joint_finish}
use Rattle.cup_grammar.proofs.JointFinishLemmas.{limit_of_groups}
use Rattle.cup_grammar.proofs.ReadsOnLemmas.{ReadsOn, reads_both}

-- ---- how fixtures end

-- as many end as there are
ends_long : (limit : ℕ) (played finish : List (Option Score))
    → may_all_end limit played finish ≡ true → length played ≡ length finish
ends_long limit [] [] may = refl
ends_long limit [] (ended ∷ finish) may = absurd (false≢true may)
ends_long limit (first ∷ played) [] may = absurd (false≢true may)
ends_long limit (first ∷ played) (ended ∷ finish) may =
    let later = ends_long limit played finish
    (and_parts (may_end limit first ended) (may_all_end limit played finish) may).1 in
    omega (arith, later)

-- fixtures one after another end as they may
ends_join : (limit : ℕ) (front back ends others : List (Option Score))
    → may_all_end limit front ends ≡ true → may_all_end limit back others ≡ true
    → may_all_end limit (front ++ back) (ends ++ others) ≡ true
ends_join limit [] back [] others may also = also
ends_join limit [] back (ended ∷ ends) others may also = absurd (false≢true may)
ends_join limit (played ∷ front) back [] others may also = absurd (false≢true may)
ends_join limit (played ∷ front) back (ended ∷ ends) others may also =
    let both = and_parts (may_end limit played ended) (may_all_end limit front ends) may in
    and_from (may_end limit played ended) (may_all_end limit (front ++ back) (ends ++ others))
    both.0 (ends_join limit front back ends others both.1 also)

-- their lines follow one another
scores_join : (limit fixture : ℕ) (front back ends others : List (Option Score))
    → may_all_end limit front ends ≡ true
    → group_scores_from fixture (front ++ back) (ends ++ others)
    ≡ group_scores_from fixture front ends
    ++ group_scores_from (fixture + length front) back others
scores_join limit fixture [] back [] others may =
    ap (λ it. group_scores_from it back others) (omega arith)
scores_join limit fixture [] back (ended ∷ ends) others may = absurd (false≢true may)
scores_join limit fixture (played ∷ front) back [] others may = absurd (false≢true may)
scores_join limit fixture (played ∷ front) back (ended ∷ ends) others may =
    let both = and_parts (may_end limit played ended) (may_all_end limit front ends) may in
    let own = cup_score_if fixture played ended in
    let mine = group_scores_from (fixture + 1) front ends in
    ap (λ it. own ++ it)
    (scores_join limit (fixture + 1) front back ends others both.1
    ∙ ap (λ it. mine ++ group_scores_from it back others) (omega arith))
    ∙ sym (append_assoc own mine
    (group_scores_from (fixture + length (played ∷ front)) back others))

-- ---- all groups

-- all fixtures of the cup end as they may
all_end : (limit budget : ℕ) (groups : List Sheet) (seasons finishes : List Results)
    → All (IsGroup limit budget) groups → AreFinishesOf groups seasons finishes
    → may_all_end limit (scores_of_groups seasons) (scores_of_groups finishes) ≡ true
all_end limit budget [] [] [] are each = refl
all_end limit budget [] [] (finish ∷ finishes) are each = absurd each
all_end limit budget [] (season ∷ seasons) finishes are each = absurd each
all_end limit budget (group ∷ groups) [] [] are each = absurd each
all_end limit budget (group ∷ groups) [] (finish ∷ finishes) are each = absurd each
all_end limit budget (group ∷ groups) (season ∷ seasons) [] are each = absurd each
all_end limit budget (group ∷ groups) (season ∷ seasons) (finish ∷ finishes) are each =
    let is = All-head (IsGroup limit budget) group groups are in
    ends_join limit season.scores (scores_of_groups seasons) finish.scores
    (scores_of_groups finishes)
    (subst (λ it. may_all_end it season.scores finish.scores ≡ true) is.same_goal_limit
    each.0.scores)
    (all_end limit budget groups seasons finishes (All-tail (IsGroup limit budget) group groups are)
    each.1)

-- their lines are those of all scores
all_scores : (fixture : ℕ) (groups : List Sheet) (seasons finishes : List Results)
    → AreFinishesOf groups seasons finishes
    → joint_scores_from fixture seasons finishes
    ≡ group_scores_from fixture (scores_of_groups seasons) (scores_of_groups finishes)
all_scores fixture [] [] [] each = refl
all_scores fixture [] [] (finish ∷ finishes) each = absurd each
all_scores fixture [] (season ∷ seasons) finishes each = absurd each
all_scores fixture (group ∷ groups) [] [] each = absurd each
all_scores fixture (group ∷ groups) [] (finish ∷ finishes) each = absurd each
all_scores fixture (group ∷ groups) (season ∷ seasons) [] each = absurd each
all_scores fixture (group ∷ groups) (season ∷ seasons) (finish ∷ finishes) each =
    ap (λ it. group_scores_from fixture season.scores finish.scores ++ it)
    (all_scores (fixture + length season.scores) groups seasons finishes each.1)
    ∙ sym (scores_join group.goal_limit fixture season.scores (scores_of_groups seasons)
    finish.scores (scores_of_groups finishes) each.0.scores)

-- the groups end with these scores as they did
ends_back : (groups : List Sheet) (seasons finishes : List Results)
    → AreFinishesOf groups seasons finishes
    → ends_of_groups seasons (scores_of_groups finishes) ≡ finishes
ends_back [] [] [] each = refl
ends_back [] [] (finish ∷ finishes) each = absurd each
ends_back [] (season ∷ seasons) finishes each = absurd each
ends_back (group ∷ groups) [] [] each = absurd each
ends_back (group ∷ groups) [] (finish ∷ finishes) each = absurd each
ends_back (group ∷ groups) (season ∷ seasons) [] each = absurd each
ends_back (group ∷ groups) (season ∷ seasons) (finish ∷ finishes) each =
    let all = finish.scores ++ scores_of_groups finishes in
    let long = ends_long group.goal_limit season.scores finish.scores each.0.scores in
    let front : take (length season.scores) all ≡ finish.scores =
    ap (λ it. take it all) long ∙ take-append_seam finish.scores (scores_of_groups finishes) in
    let back : drop (length season.scores) all ≡ scores_of_groups finishes =
    ap (λ it. drop it all) long ∙ drop-append_seam finish.scores (scores_of_groups finishes) in
    ap (λ it. record season { scores = it }
    ∷ ends_of_groups seasons (drop (length season.scores) all)) front
    ∙ ap (λ it. record { scores = finish.scores; deductions = it }
    ∷ ends_of_groups seasons (drop (length season.scores) all)) (sym each.0.deductions)
    ∙ ap (λ it. finish ∷ ends_of_groups seasons it) back
    ∙ ap (λ it. finish ∷ it) (ends_back groups seasons finishes each.1)

module _ (basis : CupBasis) (is_cup : IsCup basis.cup) where
  abbrev cup_limit : ℕ
  cup_limit = goal_limit_of basis.cup.groups

  -- the scores that are due
  scores_read : (claim : Claim) (club : ℕ) (left ends ended : List (Option Score))
      (more : List CupDue) → may_all_end cup_limit left ends ≡ true
      → ReadsOn basis (group_scores_from (length ended) left ends)
      (cup_scores_due claim club ended left ∷ more) (lots claim club (ended ++ ends) ∷ more)
  scores_read claim club [] [] ended more may =
      ap (λ it. lots claim club it ∷ more) (sym (append-nil ended))
  scores_read claim club [] (ending ∷ ends) ended more may = absurd (false≢true may)
  scores_read claim club (played ∷ left) [] ended more may = absurd (false≢true may)
  scores_read claim club (Some played ∷ left) (None ∷ ends) ended more may =
      absurd (false≢true may)
  scores_read claim club (None ∷ left) (None ∷ ends) ended more may = absurd (false≢true may)
  scores_read claim club (Some played ∷ left) (Some ending ∷ ends) ended more may =
      let both = and_parts (same_score played ending) (may_all_end cup_limit left ends) may in
      let same = same_score-true played ending both.0 in
      let next = ended ++ Some played ∷ [] in
      let dues = cup_scores_due claim club next left ∷ more in
      let reads = scores_read claim club left ends next more both.1 in
      let so : next ++ ends ≡ ended ++ Some ending ∷ ends =
      append_assoc ended (Some played ∷ []) ends ∙ ap (λ it. ended ++ Some it ∷ ends) same in
      subst (λ it. ReadsOn basis (group_scores_from (length ended + 1) left ends) dues
      (lots claim club it ∷ more)) so
      (subst (λ it. ReadsOn basis (group_scores_from it left ends) dues
      (lots claim club (next ++ ends) ∷ more)) (length_push ended (Some played)) reads)
  scores_read claim club (None ∷ left) (Some ending ∷ ends) ended more may =
      let fits = is_ending (joint_sheet basis.cup) ending in
      let both = and_parts fits (may_all_end cup_limit left ends) may in
      let next = ended ++ Some ending ∷ [] in
      let due = cup_scores_due claim club next left in
      let reads = scores_read claim club left ends next more both.1 in (
        due ∷ [],
        if-go ((length ended == length ended) && fits) (go true (due ∷ []))
            (and_from (length ended == length ended) fits
            (eq-eqb (length ended) (length ended) refl) both.0),
        subst (λ it. ReadsOn basis (group_scores_from (length ended + 1) left ends) (due ∷ more)
            (lots claim club it ∷ more)) (append_assoc ended (Some ending ∷ []) ends)
            (subst (λ it. ReadsOn basis (group_scores_from it left ends) (due ∷ more)
            (lots claim club (next ++ ends) ∷ more)) (length_push ended (Some ending)) reads),
      )

  -- the side that is claimed
  claimed : (claim : Claim) (answer : Bool) → answer ≡ qualifies_on claim
      → is_on_claimed_side claim answer ≡ true
  claimed Inside answer is = is
  claimed Outside answer is = ap not is

  pub same_side : (claim : Claim) → same_claim claim claim ≡ true
  same_side Inside = refl
  same_side Outside = refl

  -- a joint finish behind its head
  abbrev pub joint_rest : List Results → List ℕ → List CupLine
  joint_rest finishes drawn =
      joint_scores_from 0 basis.seasons finishes ++ line.Lots (record { list = drawn }) ∷ []

  pub rest_reads : (claim : Claim) (club : ℕ) (finishes : List Results) (drawn : List ℕ)
      (more : List CupDue) → AreFinishesOf basis.cup.groups basis.seasons finishes
      → are_lots (clubs_together basis.cup.groups) drawn ≡ true
      → qualifies_at basis.cup finishes drawn club ≡ qualifies_on claim
      → ReadsOn basis (joint_rest finishes drawn) (whole_joint_finish basis claim club ∷ more) more
  rest_reads claim club finishes drawn more each are side =
      let limit = is_cup.groups.0 in
      let same = limit_of_groups limit is_cup.groups.1 basis.cup.groups is_cup.least_groups
      is_cup.groups.2 in
      let ended = scores_of_groups finishes in
      let scores = joint_scores_from 0 basis.seasons finishes in
      let may : may_all_end cup_limit (scores_of_groups basis.seasons) ended ≡ true =
      subst (λ it. may_all_end it (scores_of_groups basis.seasons) ended ≡ true) (sym same)
      (all_end limit is_cup.groups.1 basis.cup.groups basis.seasons finishes is_cup.groups.2 each)
      in
      let answer = qualifies_at basis.cup (ends_of_groups basis.seasons ended) drawn club in
      let on_side : answer ≡ qualifies_on claim =
      ap (λ it. qualifies_at basis.cup it drawn club)
      (ends_back basis.cup.groups basis.seasons finishes each) ∙ side in
      let dues = whole_joint_finish basis claim club ∷ more in
      let between = lots claim club ended ∷ more in
      reads_both basis scores (line.Lots (record { list = drawn }) ∷ []) dues between more
      (subst (λ it. ReadsOn basis it dues between)
      (sym (all_scores 0 basis.cup.groups basis.seasons finishes each))
      (scores_read claim club (scores_of_groups basis.seasons) ended [] more may)) (
        [],
        if-go (are_lots (clubs_together basis.cup.groups) drawn)
            (go (is_on_claimed_side claim answer) []) are
            ∙ ap (λ it. go it []) (claimed claim answer on_side),
        refl,
      )

  -- with its head
  pub shown_reads : (claim : Claim) (club : ℕ) (lines : List CupLine) (more : List CupDue)
      → IsShownText basis.cup basis.seasons claim club lines
      → (rest : List CupLine) × (lines ≡ line.Finish claim ∷ rest)
      × (after_joint_head basis claim club (line.Finish claim)
      ≡ go true (whole_joint_finish basis claim club ∷ []))
      × ReadsOn basis rest (whole_joint_finish basis claim club ∷ more) more
  shown_reads claim club lines more text =
      let shown = text.2 in (
        joint_rest text.0 text.1,
        text.3,
        if-go (same_claim claim claim) (go true (whole_joint_finish basis claim club ∷ []))
            (same_side claim),
        rest_reads claim club text.0 text.1 more shown.joint.each shown.joint.drawn shown.on_side,
      )

-- What a window question says of the number that is sought. Both windows grow or shrink with the
-- points, so one answer decides all numbers on one side of them.
use Rattle.std.proofs.Common.{◌≡◌, ℕ, ℤ, pos, negsuc, ◌≤ℤ◌, true, false, List, arith, ◌<◌, ◌&&◌}
use Rattle.std.proofs.Common.{length, refl, sym, ap, ◌∙◌, subst, int_le, Vec, Global}
use Rattle.std.specs.List.{list_all}
use Rattle.std.proofs.lemmas.Bool.{and_from}
use Rattle.std.proofs.lemmas.Int.{ints}
use Rattle.league_core.specs.declared.sheet.Sheet.{Sheet}
use Rattle.league_core.specs.declared.question.Claim.{Claim}
use Rattle.league_core.specs.declared.question.Claim.TheVariants.{Inside, Outside}
use Rattle.league_core.specs.game.Results.{Results, are_results}
use Rattle.league_core.specs.game.Seasons.{IsLeague}
use Rattle.league_core.specs.game.Sums.{points_of}
use Rattle.league_core.specs.declared.question.Question.{Question}
use Rattle.league_core.specs.game.Questions.{IsExample}
use Rattle.league_core.specs.search.Trees.{Tree}
use Rattle.cert_text.specs.declared.proof_line.ProofLine.{ProofLine}
use Rattle.cert_text.specs.Ranges.{is_in_range, are_points}
use Rattle.cert_text.specs.TreeLines.{IsRefutationTree, IsFairSpentTree, marked_lines}
use Rattle.cert_text.specs.TreeLines.{with_window_head}
use Rattle.cert_text.proofs.TreeRangeLemmas.{marked_lines_in_range}
use Rattle.answer_rows.specs.declared.solved.Solved.{Solved}
use Rattle.answer_rows.specs.declared.solved.Solved.TheVariants.{Won, Refuted, Spent}
use Rattle.verdict_run.specs.inside.Solving.{IsSolved}
use Rattle.answer_rows.proofs.PartLemmas.{refutation_is_true}
use Rattle.qual_scores.specs.declared.window.WindowAnswer.{WindowAnswer}
use Rattle.qual_scores.specs.declared.window.WindowAnswer.TheVariants as said
use Rattle.league_core.specs.game.Verdicts.{HasNoExample}
use Rattle.qual_scores.specs.declared.window.ScoreQuery.{ScoreQuery}
use Rattle.qual_scores.specs.Scores.{question_between, CanBeInsideWith, IsInsideFrom}
use Rattle.qual_scores.specs.Bisections.{IsNotAbove, window_question}
use Rattle.qual_scores.specs.inside.Searching.{MayBeAsked, IsWindowAnswer, window_answer}
use Rattle.qual_scores.specs.inside.Searching.{question_sought, least_asked}
use Rattle.qual_scores.proofs.PointLemmas.{points_in_window, example_moved, points_are_full}
use Rattle.league_core.proofs.plain.Numbers.{int_le-from}

-- a club that can be inside with at most so many points can be so with some of these
pub inside_found : (sheet : Sheet) (season : Results) (club line : ℕ) (low points : ℤ)
    (finish : Results) (lots : List ℕ)
    → IsExample sheet season (question_between club line Inside low points) finish lots
    → IsNotAbove (CanBeInsideWith sheet season club line) points
inside_found sheet season club line low points finish lots example =
    let own = points_of sheet finish club in
    let within = points_in_window sheet season (question_between club line Inside low points) finish
    lots example in (
      own,
      (
        finish,
        lots,
        example_moved sheet season club line Inside low points own own finish lots example
            (record { least = omega (arith, ints); most = omega (arith, ints) }),
      ),
      within.most,
    )

-- one that cannot be inside with at most so many has no score there
pub inside_none : (sheet : Sheet) (season : Results) (club line : ℕ) (points : ℤ)
    → IsLeague sheet season → are_results season ≡ true
    → HasNoExample sheet season (question_between club line Inside (negsuc 98) points)
    → ¬ IsNotAbove (CanBeInsideWith sheet season club line) points
inside_none sheet season club line points league results none found =
    let score = found.0 in
    let finish = found.1.0 in
    let lots = found.1.1 in
    let example = found.1.2 in
    let exact = question_between club line Inside score score in
    let own = points_in_window sheet season exact finish lots example in
    let full = points_are_full sheet season exact finish lots league results example in
    let below = found.2 in
    none finish lots (example_moved sheet season club line Inside score score (negsuc 98) points
    finish lots example (record { least = full.least; most = omega (arith, ints) }))

-- a club that can be outside with at least so many points is not safe with so many or fewer
pub outside_found : (sheet : Sheet) (season : Results) (club line : ℕ) (points : ℤ)
    (finish : Results) (lots : List ℕ)
    → IsExample sheet season (question_between club line Outside points (pos 1800)) finish lots
    → ¬ IsNotAbove (IsInsideFrom sheet season club line) points
outside_found sheet season club line points finish lots example found =
    let score = found.0 in
    let asked = question_between club line Outside points (pos 1800) in
    let own = points_in_window sheet season asked finish lots example in
    let below = found.2 in
    found.1.1 finish lots (example_moved sheet season club line Outside points (pos 1800) score
    (pos 1800) finish lots example (record { least = omega (arith, ints); most = own.most }))

-- one that cannot be outside with at least so many is safe with them
pub outside_none : (sheet : Sheet) (season : Results) (club line : ℕ) (points : ℤ)
    → pos 0 ≤ℤ points
    → HasNoExample sheet season (question_between club line Outside points (pos 1800))
    → IsNotAbove (IsInsideFrom sheet season club line) points
outside_none sheet season club line points from none =
    (points, (from, none), omega (arith, ints))

-- what is said if the window question has an example
pub said_found : (sheet : Sheet) (season : Results) (sought : ScoreQuery) (points : ℤ)
    (finish : Results) (lots : List ℕ)
    → IsExample sheet season (question_sought sought points) finish lots
    → IsWindowAnswer sheet season sought points (window_answer sought.claim true)
said_found sheet season sought points finish lots example =
    by_claim sought.claim example
  where
    by_claim : (claim : Claim)
        → IsExample sheet season (window_question sought.club sought.line claim points) finish lots
        → IsWindowAnswer sheet season (record sought { claim = claim }) points
        (window_answer claim true)
    by_claim Inside is =
        inside_found sheet season sought.club sought.line (negsuc 98) points finish lots is
    by_claim Outside is =
        outside_found sheet season sought.club sought.line points finish lots is

-- and if it has none
pub said_none : (sheet : Sheet) (season : Results) (sought : ScoreQuery) (points : ℤ)
    → IsLeague sheet season → are_results season ≡ true → MayBeAsked sought.claim points
    → HasNoExample sheet season (question_sought sought points)
    → IsWindowAnswer sheet season sought points (window_answer sought.claim false)
said_none sheet season sought points league results asked none =
    by_claim sought.claim asked none
  where
    by_claim : (claim : Claim) → MayBeAsked claim points
        → HasNoExample sheet season (window_question sought.club sought.line claim points)
        → IsWindowAnswer sheet season (record sought { claim = claim }) points
        (window_answer claim false)
    by_claim Inside may is =
        inside_none sheet season sought.club sought.line points league results is
    by_claim Outside may is =
        outside_none sheet season sought.club sought.line points may.least is

-- ---- with what was solved

-- points that are not below the least that may be asked
pub least_full : (claim : Claim) (points : ℤ) → least_asked claim ≤ℤ points → negsuc 98 ≤ℤ points
least_full Inside points least = least
least_full Outside points least = omega (arith, ints)

-- a window question is about the club that is sought
pub club_asked : (sought : ScoreQuery) (points : ℤ)
    → (question_sought sought points).club ≡ sought.club
club_asked sought points = by_claim sought.claim
  where
    by_claim : (claim : Claim)
        → (window_question sought.club sought.line claim points).club ≡ sought.club
    by_claim Inside = refl
    by_claim Outside = refl

-- its window is in the range of a line's numbers
window_in_range : (sought : ScoreQuery) (points : ℤ) → MayBeAsked sought.claim points
    → (are_points (question_sought sought points).low
    && are_points (question_sought sought points).high) ≡ true
window_in_range sought points may = by_claim sought.claim may
  where
    both : (z : ℤ) → negsuc 98 ≤ℤ z → z ≤ℤ pos 1800 → are_points z ≡ true
    both z least most = and_from (int_le (negsuc 98) z) (int_le z (pos 1800))
        (int_le-from (negsuc 98) z least) (int_le-from z (pos 1800) most)

    by_claim : (claim : Claim) → MayBeAsked claim points
        → (are_points (window_question sought.club sought.line claim points).low
        && are_points (window_question sought.club sought.line claim points).high) ≡ true
    by_claim Inside is = and_from (are_points (negsuc 98)) (are_points points) refl
        (both points is.least is.most)
    by_claim Outside is = and_from (are_points points) (are_points (pos 1800))
        (both points (let least = is.least in omega (arith, ints)) is.most) refl

-- an example was found
pub won_says : (sheet : Sheet) (season : Results) (sought : ScoreQuery) (points : ℤ)
    (question : Question) (solved : Solved) (finish : Results) (lots : List ℕ) (said : WindowAnswer)
    → question ≡ question_sought sought points → IsSolved sheet season question solved
    → solved ≡ Won finish lots → said ≡ window_answer sought.claim true
    → IsWindowAnswer sheet season sought points said
won_says sheet season sought points question solved finish lots said asked is won same =
    let example = subst (λ (s : Solved). IsSolved sheet season question s) won is in
    subst (λ (s : WindowAnswer). IsWindowAnswer sheet season sought points s) (sym same)
    (said_found sheet season sought points finish lots
    (subst (λ (q : Question). IsExample sheet season q finish lots) asked example))

-- a tree refutes it
pub refuted_says : (sheet : Sheet) (season : Results) (sought : ScoreQuery) (points : ℤ)
    (question : Question) (solved : Solved) (tree : Tree) (said : WindowAnswer)
    → IsLeague sheet season
    → are_results season ≡ true → MayBeAsked sought.claim points
    → sought.club < length sheet.clubs → question ≡ question_sought sought points
    → IsSolved sheet season question solved → solved ≡ Refuted tree
    → said ≡ window_answer sought.claim false → IsWindowAnswer sheet season sought points said
refuted_says sheet season sought points question solved tree said league results may within asked
    is refuted same =
    let shown = subst (λ (s : Solved). IsSolved sheet season question s) refuted is in
    let exact = question_sought sought points in
    subst (λ (s : WindowAnswer). IsWindowAnswer sheet season sought points s) (sym same)
    (said_none sheet season sought points league results may
    (refutation_is_true sheet season exact tree (subst (λ (c : ℕ). c < length sheet.clubs)
    (sym (club_asked sought points)) within)
    (subst (λ (q : Question). IsRefutationTree sheet season q tree) asked shown.0)))

-- the budget was spent on a tree
pub spent_says : (sheet : Sheet) (season : Results) (sought : ScoreQuery) (points : ℤ)
    (question : Question) (solved : Solved) (tree : Tree) (lines : Vec ProofLine Global)
    → MayBeAsked sought.claim points → question ≡ question_sought sought points
    → IsSolved sheet season question solved → solved ≡ Spent tree
    → lines.items ≡ with_window_head question (marked_lines tree)
    → IsWindowAnswer sheet season sought points (said.Spent lines)
spent_says sheet season sought points question solved tree lines may asked is spent are =
    let shown = subst (λ (s : Solved). IsSolved sheet season question s) spent is in
    let exact = question_sought sought points in
    let fair = subst (λ (q : Question).
    IsFairSpentTree sheet season q sheet.budget tree) asked shown.0 in
    let same : lines.items ≡ with_window_head exact (marked_lines tree) =
    are ∙ ap (λ (q : Question). with_window_head q (marked_lines tree)) asked in (
      (tree, fair, shown.1, same),
      ap (list_all is_in_range) same
          ∙ and_from (are_points exact.low && are_points exact.high)
          (list_all is_in_range (marked_lines tree))
          (window_in_range sought points may)
          (marked_lines_in_range sheet season exact tree fair.tree_spent.tests
          fair.tree_spent.reasons),
    )

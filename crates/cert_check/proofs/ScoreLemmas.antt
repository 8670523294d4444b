-- Examples line by line: a score with what is due after it, the lots, and back.
use Rattle.std.proofs.Common.{◌≡◌, ℕ, ◌+◌, Bool, true, ◌&&◌, ◌==◌, List, [], ◌∷◌, ◌++◌, length}
use Rattle.std.proofs.Common.{map, Option, Some, None, refl, sym, ap, ◌∙◌, subst, append_assoc}
use Rattle.std.proofs.Common.{append-nil}
use Rattle.std.specs.Prelude.{IsTrue}
use Rattle.std.specs.Bool.{OnTrue}
use Rattle.std.proofs.lemmas.Bool.{OnTrue_at, OnTrue_from, and_parts, and_from, false≢true}
use Rattle.std.proofs.lemmas.Bool.{eqb-true, eq-eqb}
use Rattle.std.proofs.lemmas.List.{length_push}
use Rattle.league_core.specs.declared.season.Score.{Score}
use Rattle.league_core.specs.declared.question.Question.{Question}
use Rattle.league_core.specs.game.Finishes.{may_end, may_all_end, same_score}
use Rattle.league_core.specs.game.Ranking.{are_lots}
use Rattle.league_core.specs.game.Questions.{holds_at}
use Rattle.league_core.proofs.OptionLemmas.{same_score-true, same_score-itself}
use Rattle.cert_text.specs.declared.proof_line.ProofLine.{ProofLine}
use Rattle.cert_text.specs.declared.proof_line.ProofLine.TheVariants as line
use Rattle.cert_text.specs.ExampleLines.{score_lines, lots_line}
use Rattle.line_tokens.specs.declared.token.Token.{Token}
use Rattle.line_tokens.specs.declared.token.Token.TheVariants.{Proof}
use Rattle.cert_check.specs.LineGrammars.{go}
use Rattle.cert_check.specs.ExpectedItems.{Basis, Expected, score, lots, scores_due, is_ending}
use Rattle.cert_check.specs.ExpectedItems.{finish_with}
use Rattle.cert_check.specs.ExpectedItems.{after, after_score, after_lots}
use Rattle.cert_check.specs.inside.Grammar.{report_parts}
use Rattle.cert_check.specs.inside.Grammar.{IsPartFor, AreParts, IsExampleFrom, AreLotsOf}
use Rattle.cert_check.proofs.NextLemmas.{go-same, bad-go, go-if, if-go, only_part, as_only_part}
use Rattle.cert_check.proofs.NextLemmas.{Parted}

-- an ended fixture before the rest of an example
with_ended : (proved : Bool) (basis : Basis) (question : Question) (ended left : List (Option
    Score))
    (played : Option Score) (ending : Score) (tokens : List Token)
    → may_end basis.sheet.goal_limit played (Some ending) ≡ true
    → IsExampleFrom proved basis question (ended ++ Some ending ∷ []) left tokens
    → (scores : List (Option Score)) × (drawn : List ℕ)
    × (may_all_end basis.sheet.goal_limit (played ∷ left) (Some ending ∷ scores) ≡ true)
    × (are_lots (length basis.sheet.clubs) drawn ≡ true)
    × OnTrue proved (IsTrue (holds_at basis.sheet question
    (finish_with basis.season (ended ++ Some ending ∷ scores)) drawn))
    × (tokens ≡ map Proof (score_lines (length ended + 1) left scores ++ lots_line drawn ∷ []))
with_ended proved basis question ended left played ending tokens may rest =
    let H : List (Option Score) → Type 0 = λ it. OnTrue proved (IsTrue (holds_at basis.sheet
    question (finish_with basis.season it) rest.1)) in (
      rest.0,
      rest.1,
      and_from (may_end basis.sheet.goal_limit played (Some ending))
          (may_all_end basis.sheet.goal_limit left rest.0) may rest.2,
      rest.3,
      subst H (append_assoc ended (Some ending ∷ []) rest.0) rest.4,
      rest.5
          ∙ ap (λ it. map Proof (score_lines it left rest.0 ++ lots_line rest.1 ∷ []))
          (length_push ended (Some ending)),
    )

-- what is due after scores is the rest of an example
pub scores_due-rest : (proved : Bool) (basis : Basis) (question : Question)
    (left ended : List (Option Score)) (tokens : List Token)
    → IsPartFor proved basis (scores_due question ended left) tokens
    → IsExampleFrom proved basis question ended left tokens
scores_due-rest proved basis question [] ended tokens part =
    let H : List (Option Score) → Type 0 = λ it. OnTrue proved (IsTrue (holds_at basis.sheet
    question (finish_with basis.season it) part.0)) in
    ([], part.0, refl, part.1, subst H (sym (append-nil ended)) part.2, part.3)
scores_due-rest proved basis question (None ∷ left) ended tokens part = part
scores_due-rest proved basis question (Some played ∷ left) ended tokens part =
    let rest = with_ended proved basis question ended left (Some played) played tokens
    (same_score-itself played played refl)
    (scores_due-rest proved basis question left (ended ++ Some played ∷ []) tokens part) in
    (Some played ∷ rest.0, rest.1, rest.2, rest.3, rest.4, rest.5)

-- the rest of an example with the scores of a finish whose next score is this one
without_ended : (proved : Bool) (basis : Basis) (question : Question)
    (ended left scores : List (Option Score)) (ending : Score) (drawn : List ℕ)
    → may_all_end basis.sheet.goal_limit left scores ≡ true
    → are_lots (length basis.sheet.clubs) drawn ≡ true
    → OnTrue proved (IsTrue (holds_at basis.sheet question
    (finish_with basis.season (ended ++ Some ending ∷ scores)) drawn))
    → IsExampleFrom proved basis question (ended ++ Some ending ∷ []) left
    (map Proof (score_lines (length ended + 1) left scores ++ lots_line drawn ∷ []))
without_ended proved basis question ended left scores ending drawn may are holds =
    let H : List (Option Score) → Type 0 = λ it. OnTrue proved (IsTrue (holds_at basis.sheet
    question (finish_with basis.season it) drawn)) in (
      scores,
      drawn,
      may,
      are,
      subst H (sym (append_assoc ended (Some ending ∷ []) scores)) holds,
      ap (λ it. map Proof (score_lines it left scores ++ lots_line drawn ∷ []))
          (sym (length_push ended (Some ending))),
    )

-- the rest of an example is what is due after the scores before it
pub rest-scores_due : (proved : Bool) (basis : Basis) (question : Question)
    (left ended : List (Option Score)) (tokens : List Token)
    → IsExampleFrom proved basis question ended left tokens
    → IsPartFor proved basis (scores_due question ended left) tokens
rest-scores_due proved basis question [] ended tokens rest =
    none_left rest.0 rest.1 rest.2 rest.3 rest.4 rest.5
  where
    none_left : (scores : List (Option Score)) (drawn : List ℕ)
        → may_all_end basis.sheet.goal_limit [] scores ≡ true
        → are_lots (length basis.sheet.clubs) drawn ≡ true
        → OnTrue proved (IsTrue (holds_at basis.sheet question
        (finish_with basis.season (ended ++ scores)) drawn))
        → tokens ≡ map Proof (score_lines (length ended) [] scores ++ lots_line drawn ∷ [])
        → AreLotsOf proved basis question ended tokens
    none_left [] drawn may are holds lines =
        let H : List (Option Score) → Type 0 = λ it. OnTrue proved (IsTrue (holds_at basis.sheet
        question (finish_with basis.season it) drawn)) in
        (drawn, are, subst H (append-nil ended) holds, lines)
    none_left (ended_one ∷ scores) drawn may are holds lines = absurd (false≢true may)
rest-scores_due proved basis question (None ∷ left) ended tokens rest = rest
rest-scores_due proved basis question (Some played ∷ left) ended tokens rest =
    one_played (rest-scores_due proved basis question left (ended ++ Some played ∷ [])) rest.0
    rest.1 rest.2 rest.3 rest.4 rest.5
  where
    one_played : ((rest_tokens : List Token)
        → IsExampleFrom proved basis question (ended ++ Some played ∷ []) left rest_tokens
        → IsPartFor proved basis (scores_due question (ended ++ Some played ∷ []) left) rest_tokens)
        → (scores : List (Option Score)) (drawn : List ℕ)
        → may_all_end basis.sheet.goal_limit (Some played ∷ left) scores ≡ true
        → are_lots (length basis.sheet.clubs) drawn ≡ true
        → OnTrue proved (IsTrue (holds_at basis.sheet question
        (finish_with basis.season (ended ++ scores)) drawn))
        → tokens ≡ map Proof
        (score_lines (length ended) (Some played ∷ left) scores ++ lots_line drawn ∷ [])
        → IsPartFor proved basis (scores_due question (ended ++ Some played ∷ []) left) tokens
    one_played again [] drawn may are holds lines = absurd (false≢true may)
    one_played again (None ∷ scores) drawn may are holds lines = absurd (false≢true may)
    one_played again (Some ending ∷ scores) drawn may are holds lines =
        let parts = and_parts (same_score played ending)
        (may_all_end basis.sheet.goal_limit left scores) may in
        let same = same_score-true played ending parts.0 in
        let H : Score → Type 0 = λ it. OnTrue proved (IsTrue (holds_at basis.sheet question
        (finish_with basis.season (ended ++ Some it ∷ scores)) drawn)) in
        let P : List Token → Type 0 = λ it. IsPartFor proved basis
        (scores_due question (ended ++ Some played ∷ []) left) it in
        subst P (sym lines)
        (again
        (map Proof (score_lines (length ended + 1) left scores ++ lots_line drawn ∷ []))
        (without_ended proved basis question ended left scores played drawn parts.1 are
        (subst H (sym same) holds)))

-- a score, with what is due after it, is the rest of an example
pub join_score : (proved : Bool) (basis : Basis) (question : Question)
    (ended left : List (Option Score)) (shown : ProofLine) (holds : Bool) (more : List Expected)
    (tokens : List Token) → after_score basis question ended left shown ≡ go holds more
    → AreParts proved basis more tokens
    → IsExampleFrom proved basis question ended (None ∷ left) (Proof shown ∷ tokens)
join_score proved basis question ended left (line.Score fixture ending) holds more tokens goes
    parts =
    let due = scores_due question (ended ++ Some ending ∷ []) left in
    let fits = go-if ((fixture == length ended) && is_ending basis.sheet ending)
    (go true (due ∷ [])) holds more goes in
    let tests = and_parts (fixture == length ended) (is_ending basis.sheet ending) fits.0 in
    let P : List Expected → Type 0 = λ it. AreParts proved basis it tokens in
    let same = go-same true holds (due ∷ []) more fits.1 in
    let rest = with_ended proved basis question ended left None ending tokens tests.1
    (scores_due-rest proved basis question left (ended ++ Some ending ∷ []) tokens
    (only_part report_parts proved basis due tokens (subst P (sym same.1) parts))) in (
      Some ending ∷ rest.0,
      rest.1,
      rest.2,
      rest.3,
      rest.4,
      ap (λ it. Proof (line.Score it ending) ∷ tokens) (eqb-true fixture (length ended) tests.0)
          ∙ ap (λ it. Proof (line.Score (length ended) ending) ∷ it) rest.5,
    )
join_score proved basis question ended left _ holds more tokens goes parts =
    absurd (bad-go holds more goes)

-- the lots are the rest of an example
pub join_lots : (proved : Bool) (basis : Basis) (question : Question) (ended : List (Option Score))
    (shown : ProofLine) (holds : Bool) (more : List Expected) (tokens : List Token)
    → after_lots basis question ended shown ≡ go holds more → (proved ≡ true → holds ≡ true)
    → AreParts proved basis more tokens
    → AreLotsOf proved basis question ended (Proof shown ∷ tokens)
join_lots proved basis question ended (line.Lots list) holds more tokens goes so parts =
    let says = holds_at basis.sheet question (finish_with basis.season ended) list.list in
    let fits = go-if (are_lots (length basis.sheet.clubs) list.list) (go says []) holds more goes in
    let same = go-same says holds [] more fits.1 in
    let P : List Expected → Type 0 = λ it. AreParts proved basis it tokens in
    let ends : tokens ≡ [] = subst P (sym same.1) parts in (
      list.list,
      fits.0,
      OnTrue_from proved (IsTrue says) (λ it. same.0 ∙ so it),
      ap (λ it. Proof (line.Lots list) ∷ it) ends,
    )
join_lots proved basis question ended _ holds more tokens goes so parts =
    absurd (bad-go holds more goes)

-- the first line of the rest of an example leaves due what the other lines are
pub part_score : (proved : Bool) (basis : Basis) (question : Question)
    (ended left : List (Option Score)) (tokens : List Token)
    → IsExampleFrom proved basis question ended (None ∷ left) tokens
    → Parted report_parts proved basis (after basis) (score question ended left) tokens
part_score proved basis question ended left tokens rest =
    first_line rest.0 rest.1 rest.2 rest.3 rest.4 rest.5
  where
    first_line : (scores : List (Option Score)) (drawn : List ℕ)
        → may_all_end basis.sheet.goal_limit (None ∷ left) scores ≡ true
        → are_lots (length basis.sheet.clubs) drawn ≡ true
        → OnTrue proved (IsTrue (holds_at basis.sheet question
        (finish_with basis.season (ended ++ scores)) drawn))
        → tokens ≡ map Proof
        (score_lines (length ended) (None ∷ left) scores ++ lots_line drawn ∷ [])
        → Parted report_parts proved basis (after basis) (score question ended left) tokens
    first_line [] drawn may are holds lines = absurd (false≢true may)
    first_line (None ∷ scores) drawn may are holds lines = absurd (false≢true may)
    first_line (Some ending ∷ scores) drawn may are holds lines =
        let due = scores_due question (ended ++ Some ending ∷ []) left in
        let rest = map Proof (score_lines (length ended + 1) left scores ++ lots_line drawn ∷ []) in
        let parts = and_parts (is_ending basis.sheet ending)
        (may_all_end basis.sheet.goal_limit left scores) may in (
          Proof (line.Score (length ended) ending),
          rest,
          true,
          due ∷ [],
          lines,
          if-go ((length ended == length ended) && is_ending basis.sheet ending)
              (go true (due ∷ []))
              (and_from (length ended == length ended) (is_ending basis.sheet ending)
              (eq-eqb (length ended) (length ended) refl) parts.0),
          λ _. refl,
          refl,
          as_only_part report_parts proved basis due rest
              (rest-scores_due proved basis question left (ended ++ Some ending ∷ []) rest
              (without_ended proved basis question ended left scores ending drawn parts.1 are
              holds)),
        )

-- the lots leave nothing due
pub part_lots : (proved : Bool) (basis : Basis) (question : Question) (ended : List (Option Score))
    (tokens : List Token) → AreLotsOf proved basis question ended tokens
    → Parted report_parts proved basis (after basis) (lots question ended) tokens
part_lots proved basis question ended tokens are =
    let says = holds_at basis.sheet question (finish_with basis.season ended) are.0 in (
      Proof (lots_line are.0),
      [],
      says,
      [],
      are.3,
      if-go (are_lots (length basis.sheet.clubs) are.0) (go says []) are.1,
      λ it. OnTrue_at {b = proved} it are.2,
      refl,
      refl,
    )

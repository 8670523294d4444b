-- A word whose lines have no bit of a set past its width is shown as before.
use Rattle.std.proofs.Common.{◌≡◌, ℕ, ◌+◌, List, [], ◌∷◌, ◌++◌, map, Option, Some, None, refl, ap}
use Rattle.std.proofs.Common.{ap₂, ◌∙◌, inl, inr, Bool, ◌&&◌}
use Rattle.std.proofs.lemmas.List.{map-append}
use Rattle.league_core.specs.declared.sheet.Sheet.{Sheet}
use Rattle.league_core.specs.declared.season.Score.{Score}
use Rattle.league_core.specs.declared.question.Claim.TheVariants.{Inside, Outside}
use Rattle.league_core.specs.declared.question.Question.{Question}
use Rattle.league_core.specs.game.Results.{Results}
use Rattle.league_core.specs.game.Questions.{full_question}
use Rattle.cert_text.specs.declared.proof_line.ProofLine.{ProofLine}
use Rattle.cert_text.specs.declared.proof_line.ProofLine.TheVariants as line
use Rattle.cert_text.specs.ExampleLines.{IsExampleInLines, score_line_if}
use Rattle.cert_text.specs.ExampleLines.{score_lines, lots_line}
use Rattle.wide_lines.specs.declared.wide_line.WideLine.{WideLine}
use Rattle.wide_lines.specs.declared.wide_line.WideLine.TheVariants.{Plain}
use Rattle.wide_lines.specs.declared.wide_reason.WideReason.TheVariants as reason
use Rattle.wide_lines.specs.WideTrees.{WideTree, open_leaf, refuted_leaf, branch}
use Rattle.cert_check.specs.declared.expected.ReportKind.{ReportKind}
use Rattle.cert_check.specs.ExpectedItems.{Basis}
use Rattle.line_tokens.specs.declared.row_word.RowWord.{RowWord}
use Rattle.line_tokens.specs.declared.row_word.RowWord.TheVariants.{Clinched, Lost, Possible}
use Rattle.line_tokens.specs.declared.row_word.RowWord.TheVariants.{Unsettled}
use Rattle.cert_check.specs.inside.Answers.{ShowsWord, ShowsSpentHeaded, ShowsExampleOf}
use Rattle.cert_check.specs.inside.Answers.{ShowsRefutedHeaded, may_have_leaves}
use Rattle.report_lines.proofs.KeptLemmas.{kept_line}
use Rattle.report_lines.proofs.KeptWideLemmas.{kept_wide_line, kept_wide_tree, plain_wide-kept}
use Rattle.report_lines.proofs.KeptWideLemmas.{plain_wide_lines-kept, marked_wide_lines-kept}
use Rattle.report_lines.proofs.KeptWideLemmas.{wide_refutation-kept, wide_spent-kept}

-- ---- trees

-- a tree as a type holds its reasons has no other leaves
may_have_leaves-kept : (kind : ReportKind) (tree : WideTree)
    → may_have_leaves kind (kept_wide_tree tree) ≡ may_have_leaves kind tree
may_have_leaves-kept kind open_leaf = refl
may_have_leaves-kept kind (refuted_leaf (reason.Plain why) fresh) = refl
may_have_leaves-kept kind (refuted_leaf (reason.Near rival) fresh) = refl
may_have_leaves-kept kind (branch test fresh yes_half no_half) =
    ap₂ (λ (yes no : Bool). yes && no) (may_have_leaves-kept kind yes_half)
    (may_have_leaves-kept kind no_half)

-- ---- examples

scores-kept : (fixture : ℕ) (season finish : List (Option Score))
    → map kept_line (score_lines fixture season finish) ≡ score_lines fixture season finish
scores-kept fixture [] finish = refl
scores-kept fixture (played ∷ season) [] = refl
scores-kept fixture (played ∷ season) (ended ∷ finish) =
    map-append kept_line (score_line_if fixture played ended)
    (score_lines (fixture + 1) season finish)
    ∙ ap₂ (λ (front back : List ProofLine). front ++ back) (one played ended)
    (scores-kept (fixture + 1) season finish)
  where
    one : (played ended : Option Score)
        → map kept_line (score_line_if fixture played ended) ≡ score_line_if fixture played ended
    one (Some score) ended = refl
    one None None = refl
    one None (Some score) = refl

example-kept : (sheet : Sheet) (season : Results) (question : Question) (lines : List ProofLine)
    → IsExampleInLines sheet season question lines
    → IsExampleInLines sheet season question (map kept_line lines)
example-kept sheet season question lines is =
    let scores = score_lines 0 season.scores is.0.scores in (
      is.0,
      is.1,
      is.2,
      ap (map kept_line) is.3
          ∙ ap (λ (rest : List ProofLine). line.Finish question.claim ∷ rest)
          (map-append kept_line scores (lots_line is.1 ∷ [])
          ∙ ap (λ (front : List ProofLine). front ++ lots_line is.1 ∷ [])
          (scores-kept 0 season.scores is.0.scores)),
    )

-- ---- lines that show something

module _ (basis : Basis) where
  shown_example-kept : (question : Question) (lines : List WideLine)
      → ShowsExampleOf basis question lines
      → ShowsExampleOf basis question (map kept_wide_line lines)
  shown_example-kept question lines is = (
    map kept_line is.0,
    example-kept basis.sheet basis.season question is.0 is.1,
    ap (map kept_wide_line) is.2 ∙ plain_wide-kept is.0,
  )

  refuted-kept : (question : Question) (lines : List WideLine)
      → ShowsRefutedHeaded basis question lines
      → ShowsRefutedHeaded basis question (map kept_wide_line lines)
  refuted-kept question lines is = (
    kept_wide_tree is.0,
    wide_refutation-kept basis.sheet basis.season question is.0 is.1,
    may_have_leaves-kept basis.kind is.0 ∙ is.2,
    ap (map kept_wide_line) is.3
        ∙ ap (λ (rest : List WideLine). Plain (line.Tree question.claim) ∷ rest)
        (plain_wide_lines-kept is.0),
  )

  spent-kept : (question : Question) (lines : List WideLine)
      → ShowsSpentHeaded basis question lines
      → ShowsSpentHeaded basis question (map kept_wide_line lines)
  spent-kept question lines is = (
    kept_wide_tree is.0,
    wide_spent-kept basis.sheet basis.season question basis.sheet.budget is.0 is.1,
    may_have_leaves-kept basis.kind is.0 ∙ is.2,
    ap (map kept_wide_line) is.3
        ∙ ap (λ (rest : List WideLine). Plain (line.Spent question.claim) ∷ rest)
        (marked_wide_lines-kept is.0),
  )

  both-kept : (lines inside outside : List WideLine) → lines ≡ inside ++ outside
      → map kept_wide_line lines ≡ map kept_wide_line inside ++ map kept_wide_line outside
  both-kept lines inside outside is =
      ap (map kept_wide_line) is ∙ map-append kept_wide_line inside outside

  -- the word is shown
  pub word-kept : (number club : ℕ) (said : RowWord) (lines : List WideLine)
      → ShowsWord basis number club said lines
      → ShowsWord basis number club said (map kept_wide_line lines)
  word-kept number club Clinched lines is =
      refuted-kept (full_question club number Outside) lines is
  word-kept number club Lost lines is =
      refuted-kept (full_question club number Inside) lines is
  word-kept number club Possible lines is = (
    map kept_wide_line is.0,
    map kept_wide_line is.1,
    shown_example-kept (full_question club number Inside) is.0 is.2,
    shown_example-kept (full_question club number Outside) is.1 is.3,
    both-kept lines is.0 is.1 is.4,
  )
  word-kept number club Unsettled lines is =
      let inside = full_question club number Inside in
      let outside = full_question club number Outside in (
        map kept_wide_line is.0,
        map kept_wide_line is.1,
        elim is.2 [
          | inl two ↦ inl (
            shown_example-kept inside is.0 two.0,
            spent-kept outside is.1 two.1,
          )
          | inr two ↦ inr (
            spent-kept inside is.0 two.0,
            elim two.1 [
              | inl one ↦ inl (shown_example-kept outside is.1 one)
              | inr one ↦ inr (spent-kept outside is.1 one)
            ],
          )
        ],
        both-kept lines is.0 is.1 is.3,
      )

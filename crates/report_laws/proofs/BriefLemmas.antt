-- The lines that show a word are brief: their numbers are in range, their lots name no more clubs
-- than a league has, and none of them is the head of a tree with a window of its own.
use Rattle.std.proofs.Common.{◌≡◌, ℕ, ◌+◌, Bool, true, false, ◌&&◌, ◌==◌, nat_le, List, [], ◌∷◌}
use Rattle.std.proofs.Common.{◌++◌, map, length, Option, Some, None, refl, ap, ◌∙◌, inl, inr, arith}
use Rattle.std.specs.List.{list_all, range_with_len}
use Rattle.std.proofs.lemmas.Bool.{and_parts, and_from, eqb-true, le-leb}
use Rattle.std.proofs.lemmas.List.Folds.{list_all-append, list_all-map}
use Rattle.league_core.specs.declared.season.Score.{Score}
use Rattle.league_core.specs.declared.question.Claim.TheVariants.{Inside, Outside}
use Rattle.league_core.specs.declared.question.Question.{Question}
use Rattle.league_core.specs.game.Limits.{most_clubs}
use Rattle.league_core.specs.game.Questions.{full_question}
use Rattle.league_core.specs.game.Results.{are_results}
use Rattle.league_core.specs.game.Seasons.{IsLeague}
use Rattle.league_core.specs.game.Sums.{has_club}
use Rattle.cert_text.specs.declared.proof_line.ProofLine.{ProofLine}
use Rattle.cert_text.specs.declared.proof_line.ProofLine.TheVariants as line
use Rattle.cert_text.specs.Ranges.{is_in_range}
use Rattle.cert_text.specs.ExampleLines.{example_lines, score_line_if}
use Rattle.cert_text.specs.ExampleLines.{score_lines, lots_line}
use Rattle.cert_text.proofs.ExampleRangeLemmas.{example_in_range}
use Rattle.wide_lines.specs.declared.wide_reason.WideReason.TheVariants as reason
use Rattle.wide_lines.specs.declared.wide_node.WideNode.{WideNode}
use Rattle.wide_lines.specs.declared.wide_node.WideNode.TheVariants.{Split, Open, Refuted}
use Rattle.wide_lines.specs.declared.wide_line.WideLine.{WideLine}
use Rattle.wide_lines.specs.declared.wide_line.WideLine.TheVariants.{Plain, Near, NewNear}
use Rattle.wide_lines.specs.WideTexts.{is_wide_in_range}
use Rattle.wide_lines.specs.WideTrees.{wide_preorder}
use Rattle.wide_lines.specs.WideTreeLines.{plain_wide_line, marked_wide_line, plain_wide_lines}
use Rattle.wide_lines.specs.WideTreeLines.{marked_wide_lines}
use Rattle.wide_lines.proofs.WideRangeLemmas.{refutation_in_range, spent_in_range}
use Rattle.line_tokens.specs.declared.row_word.RowWord.{RowWord}
use Rattle.line_tokens.specs.declared.row_word.RowWord.TheVariants.{Clinched, Lost, Possible}
use Rattle.line_tokens.specs.declared.row_word.RowWord.TheVariants.{Unsettled}
use Rattle.cert_check.specs.ExpectedItems.{Basis}
use Rattle.cert_check.specs.inside.Answers.{ShowsWord, ShowsSpentHeaded, ShowsExampleOf}
use Rattle.cert_check.specs.inside.Answers.{ShowsRefutedHeaded}

-- a line that an item may have: no head with a window, and no lots of more clubs than a league has
abbrev pub may_show : ProofLine → Bool
may_show (line.Tree claim) = true
may_show (line.Spent claim) = true
may_show (line.SpentWindow claim low high) = false
may_show (line.Split test) = true
may_show (line.NewSplit test) = true
may_show (line.Leaf reason) = true
may_show (line.NewLeaf reason) = true
may_show line.OpenLeaf = true
may_show (line.Finish claim) = true
may_show (line.Score fixture score) = true
may_show (line.Lots lots) = nat_le (length lots.list) most_clubs

-- the numbers are in range too
abbrev pub is_brief : ProofLine → Bool
is_brief shown = is_in_range shown && may_show shown

-- a wide line that an item may have: any near leaf, and such a proof line
abbrev may_show_wide : WideLine → Bool
may_show_wide (Plain shown) = may_show shown
may_show_wide (Near rival) = true
may_show_wide (NewNear rival) = true

-- its numbers are in range too
abbrev pub is_wide_brief : WideLine → Bool
is_wide_brief shown = is_wide_in_range shown && may_show_wide shown

both_pass : (lines : List WideLine) → list_all is_wide_in_range lines ≡ true
    → list_all may_show_wide lines ≡ true → list_all is_wide_brief lines ≡ true
both_pass [] within few = refl
both_pass (shown ∷ lines) within few =
    let one = and_parts (is_wide_in_range shown) (list_all is_wide_in_range lines) within in
    let two = and_parts (may_show_wide shown) (list_all may_show_wide lines) few in
    and_from (is_wide_brief shown) (list_all is_wide_brief lines)
    (and_from (is_wide_in_range shown) (may_show_wide shown) one.0 two.0)
    (both_pass lines one.1 two.1)

-- ---- trees and examples

nodes-few : (shown : WideNode → WideLine)
    → ((node : WideNode) → may_show_wide (shown node) ≡ true)
    → (nodes : List WideNode) → list_all may_show_wide (map shown nodes) ≡ true
nodes-few shown each [] = refl
nodes-few shown each (node ∷ nodes) =
    and_from (may_show_wide (shown node)) (list_all may_show_wide (map shown nodes)) (each node)
    (nodes-few shown each nodes)

plain-few : (node : WideNode) → may_show_wide (plain_wide_line node) ≡ true
plain-few (Split test fresh) = refl
plain-few Open = refl
plain-few (Refuted (reason.Plain why) fresh) = refl
plain-few (Refuted (reason.Near rival) fresh) = refl

marked-few : (node : WideNode) → may_show_wide (marked_wide_line node) ≡ true
marked-few (Split test true) = refl
marked-few (Split test false) = refl
marked-few Open = refl
marked-few (Refuted (reason.Plain why) true) = refl
marked-few (Refuted (reason.Plain why) false) = refl
marked-few (Refuted (reason.Near rival) true) = refl
marked-few (Refuted (reason.Near rival) false) = refl

scores-few : (fixture : ℕ) (season finish : List (Option Score))
    → list_all may_show (score_lines fixture season finish) ≡ true
scores-few fixture [] finish = refl
scores-few fixture (played ∷ season) [] = refl
scores-few fixture (played ∷ season) (ended ∷ finish) =
    list_all-append may_show (score_line_if fixture played ended)
    (score_lines (fixture + 1) season finish)
    ∙ and_from (list_all may_show (score_line_if fixture played ended))
    (list_all may_show (score_lines (fixture + 1) season finish)) (one played ended)
    (scores-few (fixture + 1) season finish)
  where
    one : (played ended : Option Score)
        → list_all may_show (score_line_if fixture played ended) ≡ true
    one (Some score) ended = refl
    one None None = refl
    one None (Some score) = refl

module _ (basis : Basis) where
  refutation-brief : (question : Question) (lines : List WideLine)
      → ShowsRefutedHeaded basis question lines → list_all is_wide_brief lines ≡ true
  refutation-brief question lines is =
      let shown = plain_wide_lines is.0 in
      ap (list_all is_wide_brief) is.3
      ∙ both_pass shown
      (refutation_in_range basis.sheet basis.season question shown (is.0, is.1, refl))
      (nodes-few plain_wide_line plain-few (wide_preorder is.0))

  spent-brief : (question : Question) (lines : List WideLine)
      → ShowsSpentHeaded basis question lines → list_all is_wide_brief lines ≡ true
  spent-brief question lines is =
      let shown = marked_wide_lines is.0 in
      ap (list_all is_wide_brief) is.3
      ∙ both_pass shown
      (spent_in_range basis.sheet basis.season question basis.sheet.budget shown
      (is.0, is.1, refl))
      (nodes-few marked_wide_line marked-few (wide_preorder is.0))

  two-brief : (lines inside outside : List WideLine) → lines ≡ inside ++ outside
      → list_all is_wide_brief inside ≡ true → list_all is_wide_brief outside ≡ true
      → list_all is_wide_brief lines ≡ true
  two-brief lines inside outside is one other =
      ap (list_all is_wide_brief) is ∙ list_all-append is_wide_brief inside outside
      ∙ and_from (list_all is_wide_brief inside) (list_all is_wide_brief outside) one other

module _ (basis : Basis) (league : IsLeague basis.sheet basis.season)
    (results : are_results basis.season ≡ true) where
  example-brief : (question : Question) (lines : List WideLine)
      → ShowsExampleOf basis question lines → list_all is_wide_brief lines ≡ true
  example-brief question lines is =
      let clubs = length basis.sheet.clubs in
      let finish = is.1.0 in
      let lots = is.1.1 in
      let shown = example_lines question.claim basis.season finish lots in
      let scores = score_lines 0 basis.season.scores finish.scores in
      let drawn = and_parts (length lots == clubs)
      (list_all (has_club lots) (range_with_len 0 clubs)) is.1.2.is_drawn in
      let same = eqb-true (length lots) clubs drawn.0 in
      let most = league.limits.most_clubs in
      ap (list_all is_wide_brief) (is.2 ∙ ap (map Plain) is.1.3)
      ∙ both_pass (map Plain shown)
      (list_all-map is_wide_in_range Plain shown
      ∙ example_in_range basis.sheet basis.season question finish lots league results is.1.2)
      (list_all-map may_show_wide Plain shown
      ∙ list_all-append may_show scores (lots_line lots ∷ [])
      ∙ and_from (list_all may_show scores) (may_show (lots_line lots) && true)
      (scores-few 0 basis.season.scores finish.scores)
      (and_from (may_show (lots_line lots)) true
      (le-leb (length lots) most_clubs (omega (arith, same, most))) refl))

  -- the lines of an item are brief
  pub word-brief : (number club : ℕ) (said : RowWord) (lines : List WideLine)
      → ShowsWord basis number club said lines → list_all is_wide_brief lines ≡ true
  word-brief number club Clinched lines is =
      refutation-brief basis (full_question club number Outside) lines is
  word-brief number club Lost lines is =
      refutation-brief basis (full_question club number Inside) lines is
  word-brief number club Possible lines is =
      two-brief basis lines is.0 is.1 is.4
      (example-brief (full_question club number Inside) is.0 is.2)
      (example-brief (full_question club number Outside) is.1 is.3)
  word-brief number club Unsettled lines is =
      let inside = full_question club number Inside in
      let outside = full_question club number Outside in
      let both = two-brief basis lines is.0 is.1 is.3 in
      elim is.2 as (λ _. list_all is_wide_brief lines ≡ true) [
        | inl two ↦ both (example-brief inside is.0 two.0)
            (spent-brief basis outside is.1 two.1)
        | inr two ↦ both (spent-brief basis inside is.0 two.0)
            (elim two.1 as (λ _. list_all is_wide_brief is.1 ≡ true) [
              | inl one ↦ example-brief outside is.1 one
              | inr one ↦ spent-brief basis outside is.1 one
            ])
      ]

-- The lines of an example are in range.
use Rattle.std.proofs.Common.{◌≡◌, ℕ, ◌+◌, ◌<◌, ◌≤◌, true, ◌&&◌, List, [], ◌∷◌}
use Rattle.std.proofs.Common.{length, Option, Some, None, refl, ◌∙◌, arith}
use Rattle.std.specs.List.{list_all}
use Rattle.std.proofs.lemmas.Bool.{and_parts, and_from, lt-ltb}
use Rattle.std.proofs.lemmas.List.Folds.{list_all-append}
use Rattle.league_core.specs.declared.sheet.Sheet.{Sheet}
use Rattle.league_core.specs.declared.season.Score.{Score}
use Rattle.league_core.specs.declared.question.Question.{Question}
use Rattle.league_core.specs.game.Results.{Results, is_score, is_score_or_none, are_results}
use Rattle.league_core.specs.game.Seasons.{IsLeague}
use Rattle.league_core.specs.game.Finishes.{may_end, may_all_end}
use Rattle.league_core.specs.game.Questions.{IsExample}
use Rattle.league_core.proofs.FinishLemmas.{may_end_is_score}
use Rattle.cert_text.specs.Ranges.{is_fixture_number, is_club_number, is_in_range}
use Rattle.cert_text.specs.ExampleLines.{score_line_if, score_lines, lots_line, example_lines}
use Rattle.cert_text.proofs.LotRangeLemmas.{lots_in_range}

line_if_in_range : (limit fixture : ℕ) (played ended : Option Score) → limit ≤ 20 → fixture < 600
    → is_score_or_none played ≡ true → may_end limit played ended ≡ true
    → list_all is_in_range (score_line_if fixture played ended) ≡ true
line_if_in_range limit fixture (Some score) ended few inside may_be ends = refl
line_if_in_range limit fixture None None few inside may_be ends = refl
line_if_in_range limit fixture None (Some score) few inside may_be ends =
    and_from (is_fixture_number fixture && is_score score) true
    (and_from (is_fixture_number fixture) (is_score score) (lt-ltb fixture 600 inside)
    (may_end_is_score limit None score (omega (arith, few)) may_be ends)) refl

score_lines_in_range : (limit fixture : ℕ) (season finish : List (Option Score)) → limit ≤ 20
    → fixture + length season ≤ 600 → list_all is_score_or_none season ≡ true
    → may_all_end limit season finish ≡ true
    → list_all is_in_range (score_lines fixture season finish) ≡ true
score_lines_in_range limit fixture [] finish few fits may_be ends = refl
score_lines_in_range limit fixture (played ∷ season) [] few fits may_be ends = refl
score_lines_in_range limit fixture (played ∷ season) (ended ∷ finish) few fits may_be ends =
    let here = and_parts (is_score_or_none played) (list_all is_score_or_none season) may_be in
    let one = and_parts (may_end limit played ended) (may_all_end limit season finish) ends in
    list_all-append is_in_range (score_line_if fixture played ended)
    (score_lines (fixture + 1) season finish)
    ∙ and_from (list_all is_in_range (score_line_if fixture played ended))
    (list_all is_in_range (score_lines (fixture + 1) season finish))
    (line_if_in_range limit fixture played ended few (omega (arith, fits)) here.0 one.0)
    (score_lines_in_range limit (fixture + 1) season finish few (omega (arith, fits)) here.1 one.1)

-- those of an example
pub example_in_range : (sheet : Sheet) (season : Results) (question : Question) (finish : Results)
    (lots : List ℕ) → IsLeague sheet season → are_results season ≡ true
    → IsExample sheet season question finish lots
    → list_all is_in_range (example_lines question.claim season finish lots) ≡ true
example_in_range sheet season question finish lots league results is =
    let scores = (and_parts (list_all is_score_or_none season.scores) _ results).0 in
    let many = league.of_sheet.scores in
    let few = league.limits.most_fixtures in
    list_all-append is_in_range (score_lines 0 season.scores finish.scores) (lots_line lots ∷ [])
    ∙ and_from (list_all is_in_range (score_lines 0 season.scores finish.scores))
    (list_all is_in_range (lots_line lots ∷ []))
    (score_lines_in_range sheet.goal_limit 0 season.scores finish.scores
    league.limits.most_goal_limit (omega (arith, many, few)) scores is.is_finish.scores)
    (and_from (list_all is_club_number lots) true
    (lots_in_range (length sheet.clubs) 24 lots league.limits.most_clubs is.is_drawn) refl)

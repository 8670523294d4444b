-- The box of a zone: each finish in it is a finish of the season.
use Rattle.std.proofs.Common.{◌≡◌, ℕ, suc, true, List, [], ◌∷◌, Option, Some, None, refl, sym, ◌∙◌}
use Rattle.std.proofs.lemmas.Bool.{false≢true, and_parts, and_from}
use Rattle.league_core.specs.declared.sheet.Sheet.{Sheet}
use Rattle.league_core.specs.declared.season.Score.{Score}
use Rattle.league_core.specs.declared.zone.Literal.{Literal}
use Rattle.league_core.specs.game.Results.{Results}
use Rattle.league_core.specs.game.Finishes.{may_end, may_all_end, IsFinishOf}
use Rattle.league_core.specs.search.Options.{meets, options_of, options_from, takes_option}
use Rattle.league_core.specs.search.Options.{take_options, IsInBox}
use Rattle.league_core.proofs.OptionLemmas.{has_score-options_of}

-- what takes options ends as it may
box_may_end : (limit : ℕ) (zone : List Literal) (fixture : ℕ) (season scores : List (Option Score))
    → take_options (options_from limit zone fixture season) scores ≡ true
    → may_all_end limit season scores ≡ true
box_may_end limit zone fixture [] [] takes = refl
box_may_end limit zone fixture [] (ended ∷ scores) takes = absurd (false≢true takes)
box_may_end limit zone fixture (played ∷ season) [] takes = absurd (false≢true takes)
box_may_end limit zone fixture (played ∷ season) (None ∷ scores) takes = absurd (false≢true takes)
box_may_end limit zone fixture (played ∷ season) (Some score ∷ scores) takes =
    let parts = and_parts (takes_option (options_of limit zone fixture played) (Some score))
    (take_options (options_from limit zone (suc fixture) season) scores) takes in
    let is_option = sym (has_score-options_of limit zone fixture played score) ∙ parts.0 in
    and_from (may_end limit played (Some score)) (may_all_end limit season scores)
    (and_parts (meets zone fixture score) (may_end limit played (Some score)) is_option).1
    (box_may_end limit zone (suc fixture) season scores parts.1)

-- a finish in the box of a zone is a finish of the season
pub box_is_finish : (sheet : Sheet) (season : Results) (zone : List Literal) (finish : Results)
    → IsInBox sheet season zone finish → IsFinishOf sheet season finish
box_is_finish sheet season zone finish box = record {
  deductions = box.deductions;
  scores = box_may_end sheet.goal_limit zone 0 season.scores finish.scores box.scores;
}

-- The box of a longer zone is in the box of its prefix.
use Rattle.std.proofs.Common.{◌≡◌, ℕ, suc, true, List, [], ◌∷◌, ◌++◌, Option, Some, None, refl, sym}
use Rattle.std.proofs.Common.{◌∙◌}
use Rattle.std.proofs.lemmas.Bool.{false≢true, and_parts, and_from}
use Rattle.std.proofs.lemmas.List.Folds.{list_all-append}
use Rattle.league_core.specs.declared.sheet.Sheet.{Sheet}
use Rattle.league_core.specs.declared.season.Score.{Score}
use Rattle.league_core.specs.declared.zone.Literal.{Literal}
use Rattle.league_core.specs.game.Results.{Results}
use Rattle.league_core.specs.game.Finishes.{may_end}
use Rattle.league_core.specs.search.Options.{meets_literal, meets, options_of, options_from}
use Rattle.league_core.specs.search.Options.{takes_option, take_options, IsInBox}
use Rattle.league_core.proofs.OptionLemmas.{has_score-options_of}

-- an option of a zone is an option of its prefix
option_prefix : (limit : ℕ) (zone more : List Literal) (fixture : ℕ) (played ended : Option Score)
    → takes_option (options_of limit (zone ++ more) fixture played) ended ≡ true
    → takes_option (options_of limit zone fixture played) ended ≡ true
option_prefix limit zone more fixture played None takes = absurd (false≢true takes)
option_prefix limit zone more fixture played (Some score) takes =
    let both = and_parts (meets (zone ++ more) fixture score) (may_end limit played (Some score))
    (sym (has_score-options_of limit (zone ++ more) fixture played score) ∙ takes) in
    let of_zone = and_parts (meets zone fixture score) (meets more fixture score)
    (sym (list_all-append (meets_literal fixture score) zone more) ∙ both.0) in
    has_score-options_of limit zone fixture played score
    ∙ and_from (meets zone fixture score) (may_end limit played (Some score)) of_zone.0 both.1

options_prefix : (limit : ℕ) (zone more : List Literal) (fixture : ℕ)
    (season scores : List (Option Score))
    → take_options (options_from limit (zone ++ more) fixture season) scores ≡ true
    → take_options (options_from limit zone fixture season) scores ≡ true
options_prefix limit zone more fixture [] [] takes = refl
options_prefix limit zone more fixture [] (ended ∷ scores) takes = absurd (false≢true takes)
options_prefix limit zone more fixture (played ∷ season) [] takes = absurd (false≢true takes)
options_prefix limit zone more fixture (played ∷ season) (ended ∷ scores) takes =
    let parts = and_parts (takes_option (options_of limit (zone ++ more) fixture played) ended)
    (take_options (options_from limit (zone ++ more) (suc fixture) season) scores) takes in
    and_from (takes_option (options_of limit zone fixture played) ended)
    (take_options (options_from limit zone (suc fixture) season) scores)
    (option_prefix limit zone more fixture played ended parts.0)
    (options_prefix limit zone more (suc fixture) season scores parts.1)

-- what is in the box of a zone is in that of its prefix
pub box_prefix : (sheet : Sheet) (season : Results) (zone more : List Literal) (finish : Results)
    → IsInBox sheet season (zone ++ more) finish → IsInBox sheet season zone finish
box_prefix sheet season zone more finish box = record {
  deductions = box.deductions;
  scores = options_prefix sheet.goal_limit zone more 0 season.scores finish.scores box.scores;
}

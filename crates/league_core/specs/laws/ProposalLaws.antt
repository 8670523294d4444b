-- What holds of proposed finishes and of the options that they take: each statement is the contract
-- of a function of src/proposal_laws.rt that does nothing.
use Rattle.std.specs.Prelude.{◌≡◌, ◌↔◌, Bool, IsTrue, List, Some, is_some}
use Rattle.std.specs.Cmp.{IsTotalOrder}
use Rattle.std.specs.declared.cmp.Ordering.TheVariants.{Equal}
use Rattle.league_core.specs.declared.sheet.Sheet.{Sheet}
use Rattle.league_core.specs.declared.season.Score.{Score}
use Rattle.league_core.specs.declared.question.Question.{Question}
use Rattle.league_core.specs.declared.zone.Literal.{Literal}
use Rattle.league_core.specs.game.Results.{Results}
use Rattle.league_core.specs.game.Seasons.{IsSeasonOf}
use Rattle.league_core.specs.game.Finishes.{IsFinishOf}
use Rattle.league_core.specs.search.Options.{has_score, has_option, has_finish, IsInBox}
use Rattle.league_core.specs.search.Proposals.{option_order, first_option, IsFirstOption}
use Rattle.league_core.specs.search.Proposals.{proposed_finish}

-- whatever the two sides are wished, the scores are in one order
abbrev pub OptionOrderIsTotal : Type 0
OptionOrderIsTotal = (home away : Bool) → IsTotalOrder (option_order home away)

-- no two scores share a place in it
abbrev pub OptionOrderTellsApart : Type 0
OptionOrderTellsApart =
    (home away : Bool) (score other : Score)
    → option_order home away score other ≡ Equal → score ≡ other

-- there is a first option if there is any
abbrev pub OptionsHaveAFirst : Type 0
OptionsHaveAFirst =
    (home away : Bool) (options : List Score)
    → is_some (first_option home away options) ≡ has_option options

-- it is the one option that no other is taken before
abbrev pub FirstOptionIsFirst : Type 0
FirstOptionIsFirst =
    (home away : Bool) (options : List Score) (score : Score)
    → (first_option home away options ≡ Some score) ↔ IsFirstOption home away options score

-- it depends on which scores are options, and not on how they are listed
abbrev pub FirstOptionIsOfTheSet : Type 0
FirstOptionIsOfTheSet =
    (home away : Bool) (options others : List Score)
    → ((score : Score) → has_score options score ≡ has_score others score)
    → first_option home away options ≡ first_option home away others

-- the proposed finish of a zone that has a finish is in the zone's box
abbrev pub ProposedFinishIsInTheBox : Type 0
ProposedFinishIsInTheBox =
    (sheet : Sheet) (season : Results) (question : Question) (zone : List Literal)
    → IsSeasonOf sheet season → IsTrue (has_finish sheet season zone)
    → IsInBox sheet season zone (proposed_finish sheet season question zone)

-- so it is a finish of the season
abbrev pub ProposedFinishIsAFinish : Type 0
ProposedFinishIsAFinish =
    (sheet : Sheet) (season : Results) (question : Question) (zone : List Literal)
    → IsSeasonOf sheet season → IsTrue (has_finish sheet season zone)
    → IsFinishOf sheet season (proposed_finish sheet season question zone)

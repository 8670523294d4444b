-- The proposed finish of a box, as it is looked at: the box and the question that it is proposed
-- for.
use Rattle.std.specs.Prelude.{◌<◌, Bool, List, length}
use Rattle.league_core.specs.declared.sheet.Sheet.{Sheet}
use Rattle.league_core.specs.declared.question.Question.{Question}
use Rattle.league_core.specs.game.Results.{Results}
use Rattle.league_core.specs.search.Proposals.{proposed_finish}
use Rattle.score_box.specs.inside.ZoneBoxViews.{ZoneBoxView, HasFinish}
use Rattle.example_finish.specs.declared.wishes.Wishes.{Wishes}
use Rattle.example_finish.specs.inside.Wished.{AreWished, AreWishesOf}

-- a sheet, a season and a zone of it, with a question
pub record ProposedView : Type 0 where
  pub setting : ZoneBoxView
  pub question : Question

-- the sheet of what is asked
abbrev pub sheet_asked : ProposedView → Sheet
sheet_asked asked = asked.setting.sheet

-- the season that is asked about
abbrev pub season_asked : ProposedView → Results
season_asked asked = asked.setting.season

-- the finish that is proposed for it
abbrev pub finish_asked : ProposedView → Results
finish_asked asked =
    proposed_finish asked.setting.sheet asked.setting.season asked.question asked.setting.zone

-- what a look at a proposed finish keeps: the zone has a finish, the club is one of the sheet's,
-- the wishes are those of the question, and the table is that of the wishes
pub record IsProposalFor (setting : ZoneBoxView) (question : Question) (wishes : Wishes)
    (wished : List Bool) : Type 0 where
  pub has_finish : HasFinish setting
  pub of_sheet : question.club < length setting.sheet.clubs
  pub wishes_are : AreWishesOf setting.zone question wishes
  pub wished_are : AreWished wishes wished

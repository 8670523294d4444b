-- What a box stands for: a sheet, a season of it, and a zone of the season.
use Rattle.std.specs.Prelude.{◌≡◌, ◌&&◌, true, false, IsTrue, List}
use Rattle.league_core.specs.declared.sheet.Sheet.{Sheet}
use Rattle.league_core.specs.declared.question.Question.{Question}
use Rattle.league_core.specs.declared.zone.Literal.{Literal}
use Rattle.league_core.specs.declared.zone.Reason.{Reason}
use Rattle.league_core.specs.declared.zone.Test.{Test}
use Rattle.league_core.specs.game.Results.{Results}
use Rattle.league_core.specs.search.Options.{has_finish}
use Rattle.league_core.specs.search.Reasons.{has_reason}
use Rattle.league_core.specs.search.Zones.{with_test}
use Rattle.score_box.specs.declared.zone_box.halves.HalvesWithFinish.{HalvesWithFinish}

-- a sheet, a season of it, and a zone
pub record ZoneBoxView : Type 0 where
  pub sheet : Sheet
  pub season : Results
  pub zone : List Literal

-- the zone has a finish
abbrev pub HasFinish : ZoneBoxView → Type 0
HasFinish setting = IsTrue (has_finish setting.sheet setting.season setting.zone)

-- for this reason the question holds nowhere in the zone
abbrev pub HasReason : ZoneBoxView → Question → Reason → Type 0
HasReason setting question reason =
    IsTrue (has_reason setting.sheet setting.season question setting.zone reason)

-- which halves of a split by a test are left, if the zone has a finish
pub record AreHalvesLeft (sheet : Sheet) (season : Results) (zone : List Literal) (test : Test)
    (left : HalvesWithFinish) : Type 0 where
  pub yes : (has_finish sheet season zone && left.yes)
      ≡ has_finish sheet season (with_test zone test true)
  pub no : (has_finish sheet season zone && left.no)
      ≡ has_finish sheet season (with_test zone test false)

-- What may be found in a zone, and in which zones can be looked.
use Rattle.std.proofs.Common.{◌≡◌, ℕ, Bool, true, false, List, [], refl, subst}
use Rattle.league_core.specs.declared.sheet.Sheet.{Sheet}
use Rattle.league_core.specs.declared.question.Question.{Question}
use Rattle.league_core.specs.declared.zone.Literal.{Literal}
use Rattle.league_core.specs.declared.zone.Reason.{Reason}
use Rattle.league_core.specs.declared.zone.Test.{Test}
use Rattle.league_core.specs.game.Questions.{IsQuestionOf}
use Rattle.league_core.specs.game.Results.{Results}
use Rattle.league_core.specs.game.Seasons.{IsLeague, IsSeasonOf}
use Rattle.league_core.specs.game.Sheets.{IsWithinLimits}
use Rattle.league_core.specs.search.Options.{has_finish}
use Rattle.league_core.specs.search.Reasons.{has_reason}
use Rattle.league_core.specs.search.Zones.{with_test}
use Rattle.league_core.proofs.HalfLemmas.{half_has_finish, root_has_finish}
use Rattle.reason_laws.proofs.HalfMarkLemmas.{proper_names, zone_for_half}
use Rattle.near_laws.specs.Near.{has_near_reason}
use Rattle.score_box.specs.inside.ZoneBoxViews.{ZoneBoxView}
use Rattle.tree_arena.specs.declared.example.Example.{Example}
use Rattle.depth_search.specs.declared.kind.ZoneLook.{ZoneLook}
use Rattle.depth_search.specs.declared.kind.ZoneLook.TheVariants as look
use Rattle.depth_search.specs.inside.Searches.{FitHalves}
use Rattle.branch_rules.specs.inside.Choices.{IsDueSplit}
use Rattle.branch_rules.specs.inside.Found.{IsProposedInVain}
use Rattle.wide_lines.specs.declared.wide_reason.WideReason.{WideReason}
use Rattle.decide_run.specs.FairTrees.{IsWideFairSplit}
use Rattle.decide_run.specs.inside.WideLooks.{IsLookIn}
use Rattle.decide_run.specs.inside.WideTasks.{AskedWide, MayLookWide, Splits}

-- a due split where neither an example nor a reason is found
pub split_is_fair : (setting : ZoneBoxView) (question : Question) (test : Test)
    → has_finish setting.sheet setting.season setting.zone ≡ true
    → IsProposedInVain setting.sheet setting.season question setting.zone
    → ((reason : Reason)
    → has_reason setting.sheet setting.season question setting.zone reason ≡ false)
    → ((rival : ℕ)
    → has_near_reason setting.sheet setting.season question setting.zone rival ≡ false)
    → IsDueSplit setting question test
    → IsWideFairSplit setting.sheet setting.season question setting.zone test
split_is_fair setting question test some in_vain no_reason no_near due = record {
  fair = record {
    some = some;
    proper = due.proper;
    due = due.due;
    no_reason = no_reason;
    no_example = in_vain;
  };
  no_near = no_near;
}

-- ---- where can be looked

-- a sheet with a season of it, as tables give them
pub league_of : (sheet given : Sheet) (season found : Results) → given ≡ sheet → found ≡ season
    → IsWithinLimits given → IsSeasonOf sheet found → IsLeague sheet season
league_of sheet given season found same_sheet same_season limits of_sheet = record {
  limits = subst IsWithinLimits same_sheet limits;
  of_sheet = subst (IsSeasonOf sheet) same_season of_sheet;
}

-- at the root
pub look_at_root : (asked : AskedWide) → IsLeague asked.league.sheet asked.league.season
    → asked.league.sheet ≡ asked.tables.sheet → asked.league.season ≡ asked.tables.season
    → IsQuestionOf asked.league.sheet asked.question → MayLookWide asked []
look_at_root asked league sheet season of_sheet = record {
  league = league;
  sheet = sheet;
  season = season;
  of_sheet = of_sheet;
  for_question = record { of_sheet = refl; of_rivals = refl };
  has_finish = root_has_finish asked.league.sheet asked.league.season;
}

-- in a half of a split
half_fits : (asked : AskedWide) (zone : List Literal) (test : Test) (holds : Bool)
    → MayLookWide asked zone → Splits asked zone test → MayLookWide asked (with_test zone test
    holds)
half_fits asked zone test holds may split =
    let league = asked.league in
    let proper = split.fair.proper in
    let names = proper_names league.sheet league.season asked.question zone test proper in
    record {
      league = may.league;
      sheet = may.sheet;
      season = may.season;
      of_sheet = may.of_sheet;
      for_question = zone_for_half league.sheet asked.question zone test holds may.for_question
          names.0 names.1;
      has_finish = half_has_finish league.sheet league.season asked.question zone test holds
          may.has_finish proper;
    }

-- in both halves of a split that is found
pub look_halves : (asked : AskedWide) (zone : List Literal) (found : ZoneLook Example WideReason)
    → MayLookWide asked zone → IsLookIn asked.league.sheet asked.league.season asked.question zone
    found
    → FitHalves (MayLookWide asked) zone found
look_halves asked zone (look.Won example) may is = tt
look_halves asked zone (look.Refuted reason) may is = tt
look_halves asked zone (look.Split test) may is =
    (half_fits asked zone test true may is, half_fits asked zone test false may is)

-- The groups after a feed: each has a season, of scores and deductions that may be; and clubs by
-- their two numbers.
use Rattle.std.proofs.Common.{◌≡◌, ℕ, ◌+◌, Bool, true, List, [], ◌∷◌, length, take, drop}
use Rattle.std.proofs.Common.{nat_le, nat_lt, ◌∙◌, arith}
use Rattle.std.specs.Prelude.{All, IsTrue}
use Rattle.std.specs.List.{list_all}
use Rattle.std.proofs.lemmas.Bool.{and_parts, and_from, le-leb, lt-ltb, leb-true, ltb-true}
use Rattle.std.proofs.lemmas.List.Elements.{All-cons, All-nil}
use Rattle.league_core.specs.declared.sheet.Sheet.{Sheet}
use Rattle.league_core.specs.game.Results.{Results, are_results, is_score_or_none}
use Rattle.league_core.proofs.LogLemmas.{season_after_of, season_after_results}
use Rattle.cup_sheet.specs.CupFeeds.{joint_sheet, results_by_group}
use Rattle.cup_feed.specs.inside.FeedLaws.{GroupsHaveSeasonsAfter, GroupResultsMayBe}
use Rattle.cup_feed.specs.inside.FeedLaws.{NumbersComeBack, CupNumbersComeBack}
use Rattle.cup_feed.proofs.CutLemmas.{list_all-take, list_all-drop}
use Rattle.cup_feed.proofs.FeedLemmas.{length-clubs_of_groups, length-fixtures_from, cut_seasons}

pub seasons_each : GroupsHaveSeasonsAfter
seasons_each cup events =
    let of_sheet = season_after_of (joint_sheet cup) events in
    cut_seasons cup.groups _ (of_sheet.scores ∙ length-fixtures_from 0 cup.groups)
    (of_sheet.deductions ∙ length-clubs_of_groups cup.groups)

-- what is cut out of results that may be may be
results_cut : (groups : List Sheet) (results : Results) → are_results results ≡ true
    → All (λ (season : Results). IsTrue (are_results season)) (results_by_group groups results)
results_cut [] results may_be = All-nil (λ (season : Results). IsTrue (are_results season))
results_cut (group ∷ groups) results may_be =
    let low : ℕ → Bool = λ points. nat_le points 99 in
    let fixtures = length group.fixtures in
    let clubs = length group.clubs in
    let both = and_parts (list_all is_score_or_none results.scores)
    (list_all low results.deductions) may_be in
    All-cons (λ (season : Results). IsTrue (are_results season)) _ _
    (and_from (list_all is_score_or_none (take fixtures results.scores))
    (list_all low (take clubs results.deductions))
    (list_all-take is_score_or_none fixtures results.scores both.0)
    (list_all-take low clubs results.deductions both.1))
    (results_cut groups
    (record { scores = drop fixtures results.scores; deductions = drop clubs results.deductions })
    (and_from (list_all is_score_or_none (drop fixtures results.scores))
    (list_all low (drop clubs results.deductions))
    (list_all-drop is_score_or_none fixtures results.scores both.0)
    (list_all-drop low clubs results.deductions both.1)))

pub results_each : GroupResultsMayBe
results_each cup events events_of =
    results_cut cup.groups _ (season_after_results (joint_sheet cup) events events_of)

pub from_group : NumbersComeBack
from_group block own below = (
  and_from (nat_le block.first (block.first + own))
      (nat_lt (block.first + own) (block.first + block.count))
      (le-leb block.first (block.first + own) (omega arith))
      (lt-ltb (block.first + own) (block.first + block.count) (omega (arith, below))),
  omega arith,
)

pub from_cup : CupNumbersComeBack
from_cup block club inside =
    let both = and_parts (nat_le block.first club) (nat_lt club (block.first + block.count)) inside
    in
    let low = leb-true block.first club both.0 in
    let high = ltb-true club (block.first + block.count) both.1 in
    (omega (arith, low, high), omega (arith, low))

-- The options of a box: one list for each fixture.
use Rattle.std.proofs.Common.{◌≡◌, length}
use Rattle.league_core.proofs.OptionLemmas.{length-options_from}
use Rattle.score_box.specs.inside.ZoneBoxViews.{ZoneBoxView}
use Rattle.tie_bound.specs.inside.Boxes.{options_in_box}

-- as many lists of options as the season has fixtures
pub length-options : (box : ZoneBoxView) → length (options_in_box box) ≡ length box.season.scores
length-options box = length-options_from box.sheet.goal_limit box.zone 0 box.season.scores

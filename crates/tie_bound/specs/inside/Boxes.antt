-- What a box says of outcomes.
use Rattle.std.specs.Prelude.{Bool, List}
use Rattle.std.specs.List.{list_all}
use Rattle.league_core.specs.declared.season.Score.{Score}
use Rattle.league_core.specs.search.Options.{options_in, has_one_outcome}
use Rattle.score_box.specs.inside.ZoneBoxViews.{ZoneBoxView}

-- the options of the fixtures of a box
abbrev pub options_in_box : ZoneBoxView → List (List Score)
options_in_box box = options_in box.sheet box.season box.zone

-- each fixture of the box has one outcome
abbrev pub have_one_outcome : ZoneBoxView → Bool
have_one_outcome box = list_all has_one_outcome (options_in_box box)

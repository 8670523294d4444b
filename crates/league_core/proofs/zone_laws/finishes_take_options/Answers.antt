use Rattle.league_core.proofs.BoxLemmas.{box_is_finish}
use Rattle.league_core.proofs.OptionLemmas.{box_of_finish, finish_of_box}
use Rattle.league_core.proofs.zone_laws.finishes_take_options.Goals as goal

pub returns-clause-season : goal.returns-clause-season
returns-clause-season c sheet season finish =
    (box_of_finish sheet season finish, finish_of_box sheet season finish)

pub returns-clause-zone : goal.returns-clause-zone
returns-clause-zone c = box_is_finish

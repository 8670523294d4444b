use Rattle.std.proofs.Common.{rules}
use Rattle.league_core.specs.game.ClubSets.{clubs_in}
use Rattle.league_core.proofs.KeptClubLemmas.{kept_list}
use Rattle.league_core.proofs.plain.Filters.{all_pass-none_fails}
use Rattle.check_bounds.specs.inside.Steps.{is_sure_by_tables}
use Rattle.check_bounds.proofs.tie_rounds.are_all_sure.Goals as goal

pub returns : goal.returns
returns c =
    all_pass-none_fails (is_sure_by_tables c.args.tables.now c.args.club) (clubs_in c.args.group)
    (clubs_in c.keep.result) c.is_empty.result
    (kept_list c.args.group c.keep.result (λ other said low says. search rules) c.keep.ensures)
    c.is_empty.ensures

use Rattle.std.proofs.Common.{◌+◌, sym, ◌∙◌, arith}
use Rattle.league_core.specs.game.ClubSets.{clubs_in}
use Rattle.score_box.specs.inside.Unplayed.{open_match}
use Rattle.tie_bound.specs.inside.Sums.{sums_at}
use Rattle.tie_bound.specs.inside.Tables.{open_options}
use Rattle.tie_bound.proofs.TableLemmas.{wider}
use Rattle.tie_bound.proofs.WantedLemmas.{match_of_others}
use Rattle.tie_bound.proofs.selected.add_unless_among.Goals as goal

pub returns-then-not-is_open_among : goal.returns-then-not-is_open_among
returns-then-not-is_open_among c club = (
  λ wanted. c.add_open_match.ensures club,
  (c.add_open_match.ensures club).near,
)

pub returns-else-not-is_open_among : goal.returns-else-not-is_open_among
returns-else-not-is_open_among c club =
    let box = c.args.zone_box.now in (
      λ wanted. match_of_others (clubs_in c.args.others)
          (open_match box.sheet.fixtures box.season.scores c.args.place)
          (open_options box c.args.place) club (sums_at c.args.table.now club)
          (sym c.is_open_among.ensures ∙ c.if-not-is_open_among.false) wanted,
      λ bound near. wider bound (bound + 255) (sums_at c.args.table.now club) (omega arith) near,
    )

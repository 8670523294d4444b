use Rattle.std.proofs.Common.{◌∙◌, ap, sym, not, ◌&&◌}
use Rattle.std.specs.List.{list_all}
use Rattle.cert_text.specs.Ranges.{is_club_number}
use Rattle.league_core.specs.game.ClubSets.{clubs_in}
use Rattle.league_core.proofs.ClubLemmas.{has_member-not_empty}
use Rattle.cert_text.proofs.RangeLemmas.{list_all-rest}
use Rattle.cert_text.proofs.range.is_cut_within.Goals as goal

pub returns-then-not-is_empty : goal.returns-then-not-is_empty
returns-then-not-is_empty c =
    let clubs = clubs_in c.args.set in
    list_all-rest clubs (clubs_in c.without.result) (clubs_in c.first.result)
    c.is_empty-then-not-is_empty.result c.first.ensures c.without.ensures
    c.is_empty-then-not-is_empty.ensures
    ∙ ap (λ b. b && list_all is_club_number clubs)
    (ap not (sym c.if-not-is_empty.true)
    ∙ has_member-not_empty clubs c.is_empty.result c.is_empty.ensures)

-- Of the club itself all matches count.
use Rattle.std.proofs.Common.{◌≡◌, true, false, refl, sym, ap, ◌∙◌, subst}
use Rattle.std.proofs.lemmas.Bool.{eq-eqb, or_left}
use Rattle.league_core.specs.game.Sums.{has_club}
use Rattle.league_core.specs.game.ClubSets.{clubs_in}
use Rattle.league_core.specs.search.PointRanges.{range_from}
use Rattle.check_bounds.specs.declared.int_range.IntRange.{IntRange}
use Rattle.check_bounds.specs.inside.Terms.{worth_by}
use Rattle.check_bounds.specs.inside.IntRanges.{as_sum_range, IsRangeWithin}
use Rattle.check_bounds.proofs.TableLemmas.{near_is}
use Rattle.check_bounds.proofs.key_ends.sum_of.Goals as goal

pub returns-clause-range : goal.returns-clause-range
returns-clause-range c =
    let sheet = c.args.cells.now.sheet in
    let corners = c.args.cells.now.corners in
    let group = clubs_in c.single.result in
    let own : has_club group c.args.club ≡ true =
    ap (λ xs. has_club xs c.args.club) c.single.ensures
    ∙ or_left _ false (eq-eqb c.args.club c.args.club refl) in
    ap as_sum_range c.range_at.ensures
    ∙ c.sums_in-table.ensures.table c.args.club
    ∙ ap (λ value. range_from value sheet.fixtures corners)
    (near_is group (worth_by c.args.kind) c.args.club own)

pub returns-clause-near : goal.returns-clause-near
returns-clause-near c =
    let Near : IntRange → Type 0 = λ range. IsRangeWithin 153000 range in
    subst Near (sym c.range_at.ensures) (c.sums_in-table.ensures.near c.args.club)

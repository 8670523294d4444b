use Rattle.std.proofs.Common.{List, map, sym, subst}
use Rattle.league_core.specs.declared.club_set.ClubSet.{ClubSet}
use Rattle.league_core.specs.game.Sheets.{clubs_of}
use Rattle.league_core.specs.inside.LotsFor.{order_without_lots}
use Rattle.league_core.specs.game.ClubSets.{clubs_in}
use Rattle.league_core.proofs.RankingLemmas.{order_without_lots_total}
use Rattle.tie_criteria.specs.inside.Blocks.{AreBlocks}
use Rattle.final_rank.proofs.TierLemmas.{is_of_sheet}
use Rattle.final_rank.proofs.around.stand.Goals as goal

pub returns : goal.returns
returns c =
    let sheet = c.args.sheet.now in
    let season = c.args.season.now in
    let P : List ClubSet → Type 0 = λ xs.
    AreBlocks (order_without_lots sheet season) (clubs_of sheet) (map clubs_in xs) in
    c.of.ensures (order_without_lots sheet season) (clubs_of sheet)
    (order_without_lots_total sheet season)
    (subst P (sym c.deref.ensures.value) c.in_ok-blocks.ensures)
    (is_of_sheet sheet c.args.club c.requires.in_range)

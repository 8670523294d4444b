use Rattle.std.proofs.Common.{List, map, sym, subst, arith}
use Rattle.league_core.specs.declared.club_set.ClubSet.{ClubSet}
use Rattle.league_core.specs.game.Sheets.{clubs_of}
use Rattle.league_core.specs.inside.LotsFor.{order_without_lots}
use Rattle.league_core.specs.game.ClubSets.{clubs_in}
use Rattle.league_core.proofs.RankingLemmas.{order_without_lots_total}
use Rattle.tie_criteria.specs.inside.Blocks.{AreBlocks}
use Rattle.final_rank.proofs.TierLemmas.{is_of_sheet}
use Rattle.final_rank.proofs.SpanLemmas.{spans-more}
use Rattle.final_rank.proofs.span.spans.Goals as goal

pub loop-club-preserved : goal.loop-club-preserved
loop-club-preserved c =
    let sheet = c.args.sheet.now in
    let season = c.args.season.now in
    let club = c.loop-club.club in
    let P : List ClubSet → Type 0 = λ xs.
    AreBlocks (order_without_lots sheet season) (clubs_of sheet) (map clubs_in xs) in
    let around = c.of-around.ensures (order_without_lots sheet season) (clubs_of sheet)
    (order_without_lots_total sheet season)
    (subst P (sym c.deref.ensures.value) c.in_ok-blocks.ensures)
    (is_of_sheet sheet club (omega arith)) in
    spans-more sheet season c.loop-club.found.items c.push.new.self.items club
    c.span.result c.loop-club.invariant c.in_ok-push.ensures.items
    (c.span.ensures sheet season club c.requires.league.limits (omega arith) around)

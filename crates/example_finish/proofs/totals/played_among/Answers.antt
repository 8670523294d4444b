use Rattle.std.proofs.Common.{◌<◌, ℕ, List, length, ap, ◌∙◌, subst, arith}
use Rattle.league_core.specs.declared.sheet.Sheet.{Sheet}
use Rattle.league_core.specs.game.ClubSets.{clubs_in}
use Rattle.league_core.specs.game.Sums.{Worth, sum_among}
use Rattle.league_core.proofs.WalkLemmas.{comes_to, all_seen}
use Rattle.league_core.proofs.SeenLemmas.{not_filled, filled_next, IsFilled}
use Rattle.score_box.specs.inside.Totals.{no_totals}
use Rattle.example_finish.proofs.ProposedTotalLemmas.{IsRowOf, filled_near}
use Rattle.example_finish.proofs.totals.played_among.Goals as goal

pub loop-club-init : goal.loop-club-init
loop-club-init c =
    not_filled no_totals _ 24 _ c.no_rows-table.ensures.none c.no_rows-table.ensures.long

pub totals_among-requires-clause-club : goal.totals_among-requires-clause-club
totals_among-requires-clause-club c =
    (comes_to c.args.group c.loop-club.yielded c.in-Some.club
    (c.into_iter-club-iterator.ensures.into_iter_gives ∙ c.clubs-club-items.ensures.all)
    c.loop-club.yielded_by c.in-Some.ensures.steps).among

pub bounds-table-club : goal.bounds-table-club
bounds-table-club c =
    let met = comes_to c.args.group c.loop-club.yielded c.in-Some.club
    (c.into_iter-club-iterator.ensures.into_iter_gives ∙ c.clubs-club-items.ensures.all)
    c.loop-club.yielded_by c.in-Some.ensures.steps in
    omega (
      arith,
      c.requires c.in-Some.club met.among,
      c.loop-club.invariant.long,
      ap (λ (s : Sheet). length s.clubs) c.sheet-sheet.ensures.sheet,
      c.sheet-sheet.ensures.limits.most_clubs,
    )

pub loop-club-preserved : goal.loop-club-preserved
loop-club-preserved c =
    let met = comes_to c.args.group c.loop-club.yielded c.in-Some.club
    (c.into_iter-club-iterator.ensures.into_iter_gives ∙ c.clubs-club-items.ensures.all)
    c.loop-club.yielded_by c.in-Some.ensures.steps in
    let low : c.in-Some.club < 24 = omega (
      arith,
      c.requires c.in-Some.club met.among,
      ap (λ (s : Sheet). length s.clubs) c.sheet-sheet.ensures.sheet,
      c.sheet-sheet.ensures.limits.most_clubs,
    ) in
    filled_next no_totals _ 24 c.loop-club.yielded c.loop-club.table c.in-Some.club
    c.totals_among.result low (c.totals_among.ensures.sums, c.totals_among.ensures.near)
    c.loop-club.invariant

pub returns-clause-totals : goal.returns-clause-totals
returns-clause-totals c club has =
    let filled = subst (λ (seen : List ℕ). IsFilled no_totals
    (IsRowOf (λ (club : ℕ) (worth : Worth). sum_among (clubs_in c.args.group) worth
    c.args.zone_box.now.sheet c.args.zone_box.now.season club)) 24 seen c.loop-club.table)
    (all_seen c.args.group c.loop-club.yielded
    (c.into_iter-club-iterator.ensures.into_iter_gives ∙ c.clubs-club-items.ensures.all)
    c.loop-club.yielded_by c.in-None.ensures.steps.0) c.loop-club.invariant in
    (filled.rows club has).0

pub returns-clause-near : goal.returns-clause-near
returns-clause-near c =
    filled_near (λ (club : ℕ) (worth : Worth). sum_among (clubs_in c.args.group) worth
    c.args.zone_box.now.sheet c.args.zone_box.now.season club) c.loop-club.yielded
    c.loop-club.table c.loop-club.invariant

pub returns-clause-long : goal.returns-clause-long
returns-clause-long c = c.loop-club.invariant.long

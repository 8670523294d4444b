use Rattle.std.proofs.Common.{◌≡◌, ◌≢◌, ℕ, true, false, List, set, sym, subst, arith}
use Rattle.std.proofs.lemmas.List.{get_or-set_other}
use Rattle.score_box.specs.declared.totals.Totals.{Totals}
use Rattle.league_core.specs.game.Sums.{Worth}
use Rattle.score_box.specs.inside.Totals.{totals_at, no_totals, AreTotalsNear, AreTogether}
use Rattle.score_box.proofs.TotalLemmas.{near_wider, grown_by, rows_grow}
use Rattle.score_box.proofs.tables.add.Goals as goal

-- the row away is as it was when that at home is written
away_kept : (table : List Totals) (home away : ℕ) (row : Totals) → home ≢ away
    → totals_at (set table home row) away ≡ totals_at table away
away_kept table home away row differ =
    get_or-set_other table home away row no_totals (λ same. differ (sym same))

pub with-home_row-requires-clause-near : goal.with-home_row-requires-clause-near
with-home_row-requires-clause-near c =
    near_wider 1000000 100000000 (totals_at c.args.table.now c.args.home) (omega arith)
    c.requires.room_home

pub with-home_row-requires-clause-other_near : goal.with-home_row-requires-clause-other_near
with-home_row-requires-clause-other_near c =
    near_wider 255 100000000 c.args.at_home.now (omega arith) c.requires.near_home

pub with-away_row-requires-clause-near : goal.with-away_row-requires-clause-near
with-away_row-requires-clause-near c =
    let Near : Totals → Type 0 = λ row. AreTotalsNear 100000000 row in
    subst Near (sym (away_kept c.args.table.now c.args.home c.args.away c.with-home_row.result
    c.requires.different))
    (near_wider 1000000 100000000 (totals_at c.args.table.now c.args.away) (omega arith)
    c.requires.room_away)

pub with-away_row-requires-clause-other_near : goal.with-away_row-requires-clause-other_near
with-away_row-requires-clause-other_near c =
    near_wider 255 100000000 c.args.on_tour.now (omega arith) c.requires.near_away

pub returns : goal.returns
returns c score home_worth away_worth =
    let Sum : Totals → Type 0 = λ row. AreTogether row c.args.on_tour.now c.with-away_row.result in
    rows_grow c.args.table.now c.args.home c.args.away score c.with-home_row.result
    c.with-away_row.result c.requires.different c.requires.home c.requires.away
    (grown_by (λ (worth : Worth). worth score.home score.away false)
    (totals_at c.args.table.now c.args.home) c.args.at_home.now c.with-home_row.result home_worth
    c.with-home_row.ensures)
    (grown_by (λ (worth : Worth). worth score.away score.home true)
    (totals_at c.args.table.now c.args.away) c.args.on_tour.now c.with-away_row.result away_worth
    (subst Sum (away_kept c.args.table.now c.args.home c.args.away c.with-home_row.result
    c.requires.different) c.with-away_row.ensures))

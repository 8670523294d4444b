use Rattle.score_box.proofs.TotalLemmas.{rows_grow}
use Rattle.example_finish.proofs.totals.add.Goals as goal

pub returns : goal.returns
returns c =
    rows_grow c.args.table.now c.args.sides.home c.args.sides.away c.args.score
    c.with_match-at_home.result c.with_match-on_tour.result c.requires.different c.requires.home
    c.requires.away c.with_match-at_home.ensures c.with_match-on_tour.ensures

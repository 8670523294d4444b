-- A cell has no score but one exactly when the goals of each of its outcomes are that score's.
use Rattle.std.proofs.lemmas.Bool.{and_parts, and_from}
use Rattle.league_core.specs.search.Options.{is_home_win, is_draw, is_away_win}
use Rattle.score_box.proofs.CellLemmas.{no_other, all_at}
use Rattle.score_box.proofs.cell.Cell.has_no_other.Goals as goal

pub returns : goal.returns
returns c =
    let cell = c.args.self.now in
    let score = c.args.score.now in (
      λ all.
          let front = and_parts _ c.are_at-away.result all in
          let parts = and_parts c.are_at-home.result c.are_at-draws.result front.0 in
          no_other cell c.home_wins.result c.draws.result c.away_wins.result score
          c.home_wins.ensures.goals c.draws.ensures.goals c.away_wins.ensures.goals
          (c.are_at-home.ensures.0 parts.0) (c.are_at-draws.ensures.0 parts.1)
          (c.are_at-away.ensures.0 front.1),
      λ only.
          and_from _ _
          (and_from _ _
          (c.are_at-home.ensures.1
          (all_at cell is_home_win c.home_wins.result score c.home_wins.ensures.goals only))
          (c.are_at-draws.ensures.1
          (all_at cell is_draw c.draws.result score c.draws.ensures.goals only)))
          (c.are_at-away.ensures.1
          (all_at cell is_away_win c.away_wins.result score c.away_wins.ensures.goals only)),
    )

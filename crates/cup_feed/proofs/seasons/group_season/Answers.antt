use Rattle.std.proofs.Common.{nat_le}
use Rattle.std.specs.List.{list_all}
use Rattle.std.proofs.lemmas.Bool.{and_parts}
use Rattle.league_core.specs.game.Results.{is_score_or_none}
use Rattle.cup_feed.proofs.CutLemmas.{list_all-take}
use Rattle.cup_feed.proofs.seasons.group_season.Goals as goal

pub put_scores-requires-clause-may_be : goal.put_scores-requires-clause-may_be
put_scores-requires-clause-may_be c =
    list_all-take is_score_or_none c.len-3.result c.args.scores.now
    (and_parts (list_all is_score_or_none c.args.scores.now) _ c.requires.results).0

pub put_deductions-requires-clause-may_be : goal.put_deductions-requires-clause-may_be
put_deductions-requires-clause-may_be c =
    list_all-take (λ points. nat_le points 99) c.len-4.result
    c.args.deductions.now
    (and_parts _ (list_all (λ points. nat_le points 99) c.args.deductions.now) c.requires.results).1

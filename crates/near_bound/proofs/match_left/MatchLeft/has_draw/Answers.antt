use Rattle.std.proofs.Common.{Bool, false, sym, subst}
use Rattle.league_core.specs.search.Options.{is_draw}
use Rattle.near_bound.specs.inside.MatchesLeft.{HasAny}
use Rattle.near_bound.proofs.OutcomeLemmas.{any_of}
use Rattle.near_bound.proofs.match_left.MatchLeft.has_draw.Goals as goal

pub returns : goal.returns
returns c =
    subst (λ (b : Bool). HasAny c.args.self.now is_draw b) (sym c.is_some.ensures)
    (any_of c.args.self.now false is_draw c.worst_draw.result c.worst_draw.ensures)

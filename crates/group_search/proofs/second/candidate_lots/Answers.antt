use Rattle.std.proofs.Common.{◌≡◌, ◌≢◌, ℕ, ◌+◌, List, IsTrue, None, length}
use Rattle.std.proofs.lemmas.Result.{IfOk-weaker}
use Rattle.league_core.specs.game.Ranking.{are_lots, place_of}
use Rattle.cup_sheet.specs.CupLimits.{direct_places}
use Rattle.group_search.proofs.second.candidate_lots.Goals as goal

pub returns-clause-absent : goal.returns-clause-absent
returns-clause-absent c =
    IfOk-weaker c.lots_by_turns.result
    (λ answer. answer ≡ None → (lots : List ℕ)
    → place_of c.args.sheet.now c.args.finish.now lots c.args.club ≢ direct_places + 1)
    (λ answer. answer ≡ None → (lots : List ℕ)
    → IsTrue (are_lots (length c.args.sheet.now.clubs) lots)
    → place_of c.args.sheet.now c.args.finish.now lots c.args.club ≢ direct_places + 1)
    (λ answer absent none lots drawn. absent none lots) c.lots_by_turns.ensures.absent

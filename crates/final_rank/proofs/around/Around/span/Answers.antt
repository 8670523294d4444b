use Rattle.std.proofs.Common.{◌≡◌, ◌+◌, ap, ◌∙◌, arith}
use Rattle.league_core.specs.inside.LotsFor.{best_place_of, worst_place_of}
use Rattle.league_core.proofs.ClubCountLemmas.{few_members}
use Rattle.final_rank.proofs.SpanLemmas.{best_place_of-around, worst_place_of-around}
use Rattle.final_rank.proofs.around.Around.span.Goals as goal

pub overflow_add-result : goal.overflow_add-result
overflow_add-result c = omega (arith, c.len.ensures, few_members c.args.self.ahead)

pub returns : goal.returns
returns c = λ sheet season club limits below around.
    let few = limits.most_clubs in
    let best : 1 + c.len.result ≡ best_place_of sheet season club =
    ap (λ n. 1 + n) c.len.ensures
    ∙ best_place_of-around sheet season club c.args.self (omega arith) around in
    let worst : c.len-2.result ≡ worst_place_of sheet season club =
    c.len-2.ensures
    ∙ worst_place_of-around sheet season club c.args.self c.union.result (omega arith) below around
    c.union.ensures in
    λ i. record { best = best i; worst = worst i }

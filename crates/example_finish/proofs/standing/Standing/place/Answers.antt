use Rattle.std.proofs.Common.{◌+◌, ℕ, length, sym, ap, ◌∙◌, arith}
use Rattle.league_core.specs.declared.question.Claim.{Claim}
use Rattle.league_core.specs.game.Ranking.{place_of}
use Rattle.league_core.specs.inside.LotsFor.{lots_for_claim}
use Rattle.league_core.proofs.ClubCountLemmas.{few_members}
use Rattle.example_finish.proofs.PlaceLemmas.{place_inside, place_outside}
use Rattle.example_finish.proofs.standing.Standing.place.Goals as goal

pub overflow_add-result : goal.overflow_add-result
overflow_add-result c = omega (arith, c.len.ensures, few_members c.args.self.ahead)

pub returns-in-Inside : goal.returns-in-Inside
returns-in-Inside c = λ sheet season club limits below is.
    ap (λ (n : ℕ). 1 + n) c.len.ensures
    ∙ place_inside sheet season club c.args.self limits is
    ∙ ap (λ (claim : Claim). place_of sheet season (lots_for_claim (length sheet.clubs) club claim)
    club) (sym c.in-Inside.is)

pub returns-in-Outside : goal.returns-in-Outside
returns-in-Outside c = λ sheet season club limits below is.
    c.len-in-Outside.ensures
    ∙ place_outside sheet season club c.args.self c.union.result limits below is c.union.ensures
    ∙ ap (λ (claim : Claim). place_of sheet season (lots_for_claim (length sheet.clubs) club claim)
    club) (sym c.in-Outside.is)

-- What is worst for the away side is so at home once the sides are exchanged.
use Rattle.std.proofs.Common.{Bool, sym, ◌∙◌, subst}
use Rattle.near_bound.specs.inside.MatchesLeft.{turned, IsWorstFor}
use Rattle.near_bound.proofs.match_left.MatchLeft.worst.Goals as goal

pub returns-in-None : goal.returns-in-None
returns-in-None c = λ score. sym (c.turned.ensures score) ∙ c.in-None.ensures (turned score)

pub returns-in-Some : goal.returns-in-Some
returns-in-Some c =
    subst (λ (b : Bool). IsWorstFor c.args.self.now b c.args.many (turned c.in-Some.score))
    (sym c.if-away.true) (record {
      is_left = sym (c.turned.ensures (turned c.in-Some.score)) ∙ c.in-Some.ensures.is_left;
      least = λ score left.
          c.in-Some.ensures.least (turned score) (c.turned.ensures score ∙ left);
    })

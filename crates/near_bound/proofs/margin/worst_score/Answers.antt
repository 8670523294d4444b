use Rattle.std.proofs.Common.{Bool, false, ◌==◌, MatchOption, sym, subst, eq-eqb}
use Rattle.std.proofs.lemmas.Bool.{ne_eqb}
use Rattle.near_bound.specs.inside.MatchesLeft.{IsNothing}
use Rattle.near_bound.specs.inside.Margins.{IsWorstIn}
use Rattle.near_bound.proofs.margin.worst_score.Goals as goal

pub returns-then-fixture-front : goal.returns-then-fixture-front
returns-then-fixture-front c =
    let match = c.args.fixture in
    let left = c.args.left.now in
    subst (λ (b : Bool). MatchOption c.worst.result (IsNothing left)
    (IsWorstIn left b (match.away == c.args.front) (match.home == c.args.back)
    (match.away == c.args.back))) (sym (eq-eqb match.home c.args.front c.if-fixture-front.true))
    c.worst.ensures

pub returns-then-fixture-front-2 : goal.returns-then-fixture-front-2
returns-then-fixture-front-2 c =
    let match = c.args.fixture in
    let left = c.args.left.now in
    let found = c.worst-then-fixture-front-2.result in
    subst (λ (b : Bool). MatchOption found (IsNothing left)
    (IsWorstIn left b (match.away == c.args.front) (match.home == c.args.back)
    (match.away == c.args.back))) (sym (ne_eqb match.home c.args.front c.if-fixture-front.false))
    (subst (λ (b : Bool). MatchOption found (IsNothing left)
    (IsWorstIn left false b (match.home == c.args.back) (match.away == c.args.back)))
    (sym (eq-eqb match.away c.args.front c.if-fixture-front-2.true))
    c.worst-then-fixture-front-2.ensures)

pub returns-else-fixture-front-2 : goal.returns-else-fixture-front-2
returns-else-fixture-front-2 c =
    let match = c.args.fixture in
    let left = c.args.left.now in
    let found = c.worst-else-fixture-front-2.result in
    subst (λ (b : Bool). MatchOption found (IsNothing left)
    (IsWorstIn left b (match.away == c.args.front) (match.home == c.args.back)
    (match.away == c.args.back))) (sym (ne_eqb match.home c.args.front c.if-fixture-front.false))
    (subst (λ (b : Bool). MatchOption found (IsNothing left)
    (IsWorstIn left false b (match.home == c.args.back) (match.away == c.args.back)))
    (sym (ne_eqb match.away c.args.front c.if-fixture-front-2.false))
    c.worst-else-fixture-front-2.ensures)

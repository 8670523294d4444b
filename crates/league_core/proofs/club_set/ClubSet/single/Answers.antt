use Rattle.std.proofs.Common.{◌≡◌, ◌*◌, ◌%◌, ◌^◌, ◌<◌, ap, ◌∙◌, arith}
use Rattle.std.proofs.Math.Nat.{mod-eq_of_lt}
use Rattle.std.proofs.Math.Pow.{pow-lt}
use Rattle.league_core.specs.game.ClubSets.{clubs_below}
use Rattle.league_core.proofs.ClubBitLemmas.{clubs_below-one}
use Rattle.league_core.proofs.club_set.ClubSet.single.Goals as goal

pub returns : goal.returns
returns c =
    let club = c.args.club in
    let fits : 2 ^ club < 2 ^ 32 = pow-lt {j = 32} (omega arith) in
    let bits : 1 * 2 ^ club % 2 ^ 32 ≡ 2 ^ club = ap (λ n. n % 2 ^ 32) (omega
    arith) ∙ mod-eq_of_lt fits in
    ap (clubs_below 32) bits ∙ clubs_below-one 32 club (omega arith)

use Rattle.std.proofs.Common.{◌≡◌, ◌*◌, ◌-◌, ◌%◌, ◌^◌, ◌<◌, ap, ◌∙◌, arith}
use Rattle.std.proofs.Math.Nat.{mod-eq_of_lt}
use Rattle.std.proofs.Math.Pow.{pow-lt}
use Rattle.league_core.specs.game.ClubSets.{clubs_below}
use Rattle.league_core.proofs.ClubBitLemmas.{clubs_below-ones}
use Rattle.league_core.proofs.club_set.ClubSet.first.Goals as goal

pub returns : goal.returns
returns c =
    let clubs = c.args.clubs in
    let fits : 2 ^ clubs < 2 ^ 64 = pow-lt {j = 64} (omega arith) in
    let bits : 1 * 2 ^ clubs % 2 ^ 64 ≡ 2 ^ clubs = ap (λ n. n % 2 ^ 64) (omega
    arith) ∙ mod-eq_of_lt fits in
    ap (λ n. clubs_below 32 (n - 1)) bits ∙ clubs_below-ones 32 clubs (omega arith)

use Rattle.std.proofs.Common.{ap, ◌∙◌, arith}
use Rattle.std.proofs.lemmas.Bool.{eqb-true, eq-eqb}
use Rattle.league_core.specs.game.ClubSets.{clubs_below}
use Rattle.league_core.proofs.ClubSetLemmas.{clubs_below-zero, no_club_no_bit}
use Rattle.league_core.proofs.club_set.ClubSet.is_empty.Goals as goal

pub returns : goal.returns
returns c =
    let bits = c.args.self.bits in (
      λ zero. ap (clubs_below 32) (eqb-true bits 0 zero) ∙ clubs_below-zero 32,
      λ none. eq-eqb bits 0 (no_club_no_bit 32 bits (omega arith) none),
    )

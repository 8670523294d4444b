use Rattle.std.proofs.Common.{◌≡◌, false, ◌&&◌, eqb, ltb, sym, ap, ◌∙◌, arith}
use Rattle.std.specs.Int.{bit_at}
use Rattle.std.proofs.lemmas.Bool.{lt-ltb, le-ltb}
use Rattle.std.proofs.lemmas.Nat.Bits.{shr_and_one}
use Rattle.league_core.proofs.ClubSetLemmas.{has_club-clubs_below}
use Rattle.league_core.proofs.club_set.ClubSet.has.Goals as goal

pub returns-then-club-lt32 : goal.returns-then-club-lt32
returns-then-club-lt32 c =
    let club = c.args.club in
    let bits = c.args.self.bits in
    ap (λ n. eqb n 1) (shr_and_one bits club)
    ∙ ap (λ b. b && eqb (bit_at bits club) 1) (sym (lt-ltb club 32 (omega arith)))
    ∙ sym (has_club-clubs_below 32 bits club)

pub returns-else-club-lt32 : goal.returns-else-club-lt32
returns-else-club-lt32 c =
    let club = c.args.club in
    let bits = c.args.self.bits in
    let over : ltb club 32 ≡ false = le-ltb club 32 (omega arith) in
    over
    ∙ ap (λ b. b && eqb (bit_at bits club) 1) (sym over)
    ∙ sym (has_club-clubs_below 32 bits club)

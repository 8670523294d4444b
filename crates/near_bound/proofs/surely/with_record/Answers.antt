use Rattle.std.proofs.Common.{◌≡◌, ◌+◌, ℕ, ℤ, Option, subst, arith}
use Rattle.std.proofs.lemmas.Int.{ints}
use Rattle.near_bound.specs.declared.margin.Margin.{Margin}
use Rattle.near_bound.specs.inside.Margins.{IsLeadWithin, IsNumberWithin}
use Rattle.near_bound.proofs.MarginLemmas.{within_sum}
use Rattle.near_bound.proofs.surely.with_record.Goals as goal

-- a number that stays is no farther away
stays : (bound more : ℕ) (old new : ℤ) → new ≡ old → IsNumberWithin bound old
    → IsNumberWithin (bound + more) new
stays bound more old new same near =
    let low = near.0 in
    let high = near.1 in
    (omega (arith, ints), omega (arith, ints))

pub returns-in-Some-other-clause-near : goal.returns-in-Some-other-clause-near
returns-in-Some-other-clause-near c = λ bound more lead_near other_near.
    let near = subst (λ (lead : Option Margin). IsLeadWithin bound lead) c.in-Some.is lead_near in
    let also = subst (λ (lead : Option Margin). IsLeadWithin more lead) c.in-Some-other.is
    other_near
    in record {
      points = within_sum bound more _ _ _ c.with_parts.ensures.points near.points also.points;
      difference = within_sum bound more _ _ _ c.with_parts.ensures.difference near.difference
          also.difference;
      goals = within_sum bound more _ _ _ c.with_parts.ensures.goals near.goals also.goals;
      away_goals = stays bound more _ _ c.with_parts.ensures.away_goals near.away_goals;
      wins = stays bound more _ _ c.with_parts.ensures.wins near.wins;
      away_wins = stays bound more _ _ c.with_parts.ensures.away_wins near.away_wins;
    }

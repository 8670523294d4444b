use Rattle.std.proofs.Common.{◌≡◌, ℕ, ◌-◌, length}
use Rattle.std.specs.List.{list_any, range_with_len}
use Rattle.cup_sheet.specs.CupLimits.{direct_places}
use Rattle.cup_sheet.specs.JointFinishes.{GroupState}
use Rattle.cup_sheet.specs.Qualifying.{has_better}
use Rattle.cup_finish.specs.inside.Contenders.{IsContender, group_state}
use Rattle.cup_finish.proofs.QualifyingLemmas.{is_better_rival}
use Rattle.cup_finish.proofs.better.has_better.Given as goal

-- none so far is such a rival, so one of the others is if any is
abbrev pub invariant-loop-club : goal.invariant-loop-club
invariant-loop-club l =
    (mine : GroupState) (own : ℕ) → IsContender mine own l.contender
    → has_better direct_places l.lots mine own (group_state l.first l.sheet l.season)
    ≡ list_any (is_better_rival l.lots (group_state l.first l.sheet l.season) mine own)
    (range_with_len l.club (length l.sheet.clubs - l.club))

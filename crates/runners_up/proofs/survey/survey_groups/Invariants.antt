use Rattle.club_keys.specs.inside.KeyEnds.{key_parts}
use Rattle.runners_up.specs.inside.GroupSurveys.{IsSurveyed}
use Rattle.runners_up.proofs.survey.survey_groups.Given as goal

-- what the groups so far came to
abbrev pub invariant-loop-group : goal.invariant-loop-group
invariant-loop-group l =
    IsSurveyed l.cup l.seasons l.sought.claim (key_parts l.sought.key) l.sought.mine
    l.fn.ends.items l.group l.survey

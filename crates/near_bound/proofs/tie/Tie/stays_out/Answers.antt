use Rattle.std.proofs.Common.{sym, ap, ◌∙◌}
use Rattle.league_core.specs.declared.sheet.Fixture.{Fixture}
use Rattle.near_bound.proofs.tie.Tie.stays_out.Goals as goal

pub returns : goal.returns
returns c = λ has. record {
  not_home = λ same. c.if-teams-club.false
      (ap (λ (m : Fixture). m.home) c.match_of-teams.ensures.is ∙ same);
  not_away = λ same. c.if-teams-club-2.false
      (ap (λ (m : Fixture). m.away) c.match_of-teams.ensures.is ∙ same);
  has = sym c.has_in_range.ensures ∙ has;
}

use Rattle.std.proofs.Common.{◌≡◌, true, subst}
use Rattle.league_core.specs.search.Options.{has_finish}
use Rattle.near_bound.specs.declared.zone_left.ZoneLeft.{ZoneLeft}
use Rattle.near_bound.specs.inside.ZonesLeft.{StandsFor}
use Rattle.near_bound.proofs.AbleRivalLemmas.{able_rivals_fit}
use Rattle.near_bound.proofs.level.Level.of.Goals as goal

pub returns-clause-level : goal.returns-clause-level
returns-clause-level c = record {
  tie_is = c.new-tie.ensures.tie;
  zones = λ zone stands finish.
      c.new-tie.ensures.is zone
      (subst (λ (l : ZoneLeft). StandsFor l zone) c.new-tie.ensures.left stands)
      (subst (λ (l : ZoneLeft). has_finish l.sheet.now l.season.now zone ≡ true)
      c.new-tie.ensures.left finish);
  able = c.able_clubs-able.ensures;
  are_rivals = c.rivals_among-rivals.ensures.rivals;
  able_rivals = c.rivals_among-rivals.ensures.able;
  core_in = c.surely_on-core.ensures.among;
  core = c.surely_on-core.ensures.core;
  apart = λ zone is own.
      let fit = able_rivals_fit c.new-tie.result c.rivals_among-rivals.result c.args.club zone
      c.rivals_among-rivals.ensures.able is own in
      c.apart_from-apart.ensures zone is fit.club_fits fit.rivals_fit;
}

use Rattle.sample_leagues.proofs.sample.is_league.Goals as goal

pub returns : goal.returns
returns c answer = record {
  limits = c.requires.limits;
  of_sheet = c.is_season_of.ensures.of_sheet answer;
}

use Rattle.std.proofs.Common.{subst, sym}
use Rattle.league_core.specs.game.Results.{Results}
use Rattle.league_core.specs.game.Seasons.{IsLeague}
use Rattle.league_core.proofs.FinishLemmas.{finish_is_of}
use Rattle.turning_keys.proofs.settle.is_shown.Goals as goal

pub key_of-reached-requires-clause-league : goal.key_of-reached-requires-clause-league
key_of-reached-requires-clause-league c =
    subst (λ (f : Results). IsLeague c.args.sheet.now f) (sym c.as_season.ensures.season)
    (record {
      limits = c.requires.league.limits;
      of_sheet =
          finish_is_of c.args.sheet.now c.args.season.now c.args.example.now.finish
          c.requires.league.of_sheet c.requires.candidate.is_finish;
    })

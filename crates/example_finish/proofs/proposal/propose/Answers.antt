use Rattle.std.proofs.Common.{subst, sym}
use Rattle.league_core.specs.game.Results.{Results}
use Rattle.league_core.specs.game.Seasons.{IsSeasonOf}
use Rattle.league_core.specs.game.Finishes.{is_played}
use Rattle.std.proofs.Common.{IsTrue}
use Rattle.league_core.specs.search.Proposals.{proposed_finish}
use Rattle.league_core.proofs.FinishLemmas.{finish_is_played}
use Rattle.league_core.proofs.ProposalLemmas.{proposed_is_finish}
use Rattle.example_finish.proofs.proposal.propose.Goals as goal

pub unwrap-requires : goal.unwrap-requires
unwrap-requires c =
    let sheet = c.args.zone_box.now.sheet in
    let season = c.args.zone_box.now.season in
    let question = c.args.question.now in
    let zone = c.args.zone_box.now.zone in
    let of_sheet : IsSeasonOf sheet season =
    subst (IsSeasonOf sheet) c.season.ensures.season c.season.ensures.of_sheet in
    let whole =
    finish_is_played sheet season (proposed_finish sheet season question zone)
    (proposed_is_finish sheet season question zone of_sheet c.requires.has_finish) in
    c.of_season.ensures.played.1
    (subst (λ (s : Results). IsTrue (is_played s))
    (sym (c.take_options.ensures question c.of-wishes.ensures)) whole)

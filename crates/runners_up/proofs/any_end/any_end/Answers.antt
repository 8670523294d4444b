use Rattle.std.proofs.Common.{◌≡◌, ◌<◌, ◌∙◌, ℕ, length, ap, arith, sym, subst}
use Rattle.league_core.specs.declared.question.Claim.TheVariants.{Inside}
use Rattle.league_core.specs.game.Finishes.{IsFinishOf}
use Rattle.league_core.specs.game.Ranking.{are_lots}
use Rattle.league_core.specs.game.Results.{Results}
use Rattle.league_core.specs.inside.LotsFor.{lots_for_claim}
use Rattle.league_core.proofs.LotsLemmas.{lots_for_claim-are_lots}
use Rattle.league_core.proofs.FinishLemmas.{finish_is_played}
use Rattle.runners_up.proofs.any_end.any_end.Goals as goal

pub unwrap-finish-requires : goal.unwrap-finish-requires
unwrap-finish-requires c =
    c.of_season.ensures.played.1
    (finish_is_played c.args.sheet.now c.args.season.now c.end_goalless.new.ended
    (c.end_goalless.ensures c.args.sheet.now))

pub returns : goal.returns
returns c =
    let sheet = c.args.sheet.now in
    let ended = c.end_goalless.new.ended in
    let two = c.requires.limits.two_clubs in
    let some : 0 < length sheet.clubs = omega (arith, two) in
    let is : c.unwrap-finish.result ≡ ended =
    (rw (c.unwrap-finish.ensures) at c.of_season.ensures.ok) in
    record {
      is_finish = subst (λ (it : Results). IsFinishOf sheet c.args.season.now it) (sym is)
          (c.end_goalless.ensures sheet);
      is_drawn = ap (are_lots (length sheet.clubs)) (c.in_ok-lots.ensures
          ∙ ap (λ (n : ℕ). lots_for_claim n 0 Inside) c.len.ensures)
          ∙ lots_for_claim-are_lots (length sheet.clubs) 0 Inside some;
    }

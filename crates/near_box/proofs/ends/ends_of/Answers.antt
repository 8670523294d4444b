use Rattle.std.proofs.Common.{length, sym, ap, ◌∙◌, arith}
use Rattle.std.proofs.lemmas.List.{length-set}
use Rattle.league_core.specs.declared.sheet.Sheet.{Sheet}
use Rattle.league_core.specs.game.Results.{are_results}
use Rattle.near_bound.proofs.TieLemmas.{each_ends_more}
use Rattle.near_box.specs.inside.ZoneMatches.{IsKeptOf}
use Rattle.near_box.proofs.BoxEndLemmas.{ends_in_box}
use Rattle.near_box.proofs.ends.ends_of.Goals as goal

pub loop-club-preserved : goal.loop-club-preserved
loop-club-preserved c =
    let kept = c.loop-club.invariant in (
      length-set c.loop-club.ends c.loop-club.club c.ends_at.result ∙ kept.0,
      each_ends_more (λ x ends. IsKeptOf c.args.zone_box.now x ends) c.loop-club.ends
          c.loop-club.club c.ends_at.result
          (omega (
            arith,
            kept.0,
            c.loop-club-test.true,
            c.sheet.ensures.limits.most_clubs,
            c.len-club-end.ensures,
          )) kept.1 c.ends_at.ensures,
    )

pub returns : goal.returns
returns c = λ left is.
    let clubs = ap (λ (s : Sheet). length s.clubs) c.sheet.ensures.sheet in
    ends_in_box c.args.zone_box.now left c.loop-club.ends
    (ap are_results (sym c.season.ensures.season) ∙ c.scores-scores.ensures.within) is
    (λ x within. c.loop-club.invariant.1 x
    (omega (arith, within, clubs, c.len-club-end.ensures, c.loop-club-test.false)))

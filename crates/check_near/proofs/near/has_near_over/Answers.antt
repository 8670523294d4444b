use Rattle.std.proofs.Common.{◌∙◌, arith, length, refl}
use Rattle.std.proofs.lemmas.List.{length-take-le}
use Rattle.league_core.specs.search.Options.{options_in}
use Rattle.check_near.proofs.MatchesOverLemmas.{matches_stand}
use Rattle.check_near.proofs.near.has_near_over.Goals as goal

pub matches_left-matches-requires : goal.matches_left-matches-requires
matches_left-matches-requires c =
    omega (arith, c.requires.many, c.requires.league.limits.most_fixtures)

pub slice_bounds-matches-end : goal.slice_bounds-matches-end
slice_bounds-matches-end c =
    omega (
      arith,
      c.requires.many,
      c.requires.league.limits.most_fixtures,
      c.matches_left-matches.ensures.long,
    )

pub has_near-requires-clause-left : goal.has_near-requires-clause-left
has_near-requires-clause-left c =
    let few = c.requires.league.limits.most_fixtures in record {
      league = c.requires.league;
      played = c.of-played.ensures;
      many = length-take-le (length c.args.domains.now) c.matches_left-matches.result
          (omega (arith, c.requires.many, few, c.matches_left-matches.ensures.long))
          ∙ c.requires.many;
    }

pub returns : goal.returns
returns c = λ zone domains marked.
    let few = c.requires.league.limits.most_fixtures in
    let matches = c.matches_left-matches in
    c.has_near.ensures zone (record {
      matches = matches_stand matches.result c.args.domains.now
          (options_in c.args.sheet.now c.args.season.now zone) (length c.args.domains.now)
          matches.ensures.long (omega (arith, few, c.requires.many)) refl
          matches.ensures.each domains;
      before = marked.before;
      after = marked.after;
    })

use Rattle.std.proofs.Common.{◌≡◌, ◌*◌, ◌-◌, length, refl, sym, ◌∙◌, subst, arith, to_z}
use Rattle.std.proofs.Common.{of_z, w32}
use Rattle.std.proofs.lemmas.Int.{ints}
use Rattle.near_bound.specs.declared.margin.Margin.{Margin}
use Rattle.near_bound.specs.inside.Margins.{IsMarginWithin, IsMarginGap}
use Rattle.near_bound.specs.inside.PairLeads.{played_in}
use Rattle.near_bound.specs.inside.PlayedParts.{club_margin}
use Rattle.near_bound.proofs.MarginLemmas.{margin_wider}
use Rattle.near_bound.proofs.PlayedPartLemmas.{part_near}
use Rattle.near_bound.proofs.tie.Tie.played_leads.Goals as goal

pub less-requires-clause-near : goal.less-requires-clause-near
less-requires-clause-near c =
    let left = c.args.self.now.left.now in
    let part = played_in c.args.self.now in
    let played = length left.sheet.now.fixtures - part.unplayed_count in
    subst (λ (m : Margin). IsMarginWithin 100000000 m) (sym c.of_club.ensures)
    (margin_wider (255 * played) 100000000 (club_margin part c.args.front)
    (omega (arith, c.requires.tie.left.league.limits.most_fixtures))
    ((part_near left.sheet.now left.season.now part c.requires.tie.left.played).clubs
    c.args.front))

pub less-requires-clause-other_near : goal.less-requires-clause-other_near
less-requires-clause-other_near c =
    let left = c.args.self.now.left.now in
    let part = played_in c.args.self.now in
    let played = length left.sheet.now.fixtures - part.unplayed_count in
    subst (λ (m : Margin). IsMarginWithin 100000000 m) (sym c.of_club-2.ensures)
    (margin_wider (255 * played) 100000000 (club_margin part c.args.back)
    (omega (arith, c.requires.tie.left.league.limits.most_fixtures))
    ((part_near left.sheet.now left.season.now part c.requires.tie.left.played).clubs
    c.args.back))

pub returns : goal.returns
returns c =
    let part = played_in c.args.self.now in
    let rank_is : to_z w32 (of_z w32 c.rank_lead.result) ≡ c.rank_lead.result =
    omega (arith, ints, c.rank_lead.type_inv) in record {
      pair = c.played_lead.ensures;
      overall =
          subst (λ (m : Margin). IsMarginGap m (club_margin part c.args.back) c.less.result)
          c.of_club.ensures
          (subst (λ (m : Margin). IsMarginGap c.of_club.result.now m c.less.result)
          c.of_club-2.ensures (record {
            points = c.less.ensures.points;
            difference = c.less.ensures.difference;
            goals = c.less.ensures.goals;
            away_goals = c.less.ensures.away_goals;
            wins = c.less.ensures.wins;
            away_wins = c.less.ensures.away_wins;
          }));
      against = c.played_against.ensures;
      of_tie = record {
        rank = rank_is ∙ c.rank_lead.ensures;
        order = refl;
      };
    }

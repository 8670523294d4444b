use Rattle.std.proofs.Common.{◌∷◌, [], ◌+◌, List, get_or, sym, ◌∙◌, subst, arith}
use Rattle.std.proofs.lemmas.List.{length-set}
use Rattle.league_core.specs.declared.sheet.Fixture.{Fixture}
use Rattle.near_bound.specs.inside.Margins.{IsLeastMargin}
use Rattle.near_bound.specs.inside.Ties.{fits_of}
use Rattle.near_bound.specs.inside.PairLeads.{kept_lead}
use Rattle.near_bound.proofs.MarginLemmas.{lead_wider}
use Rattle.near_bound.proofs.ThirdTableLemmas.{third_near}
use Rattle.near_bound.proofs.MatchLeadLemmas.{match_there, one_is, passes_by, takes_both, takes_one}
use Rattle.near_bound.proofs.MatchLeadLemmas.{third_left_out, third_taken, leads_wider}
use Rattle.near_bound.proofs.tie.Tie.add_match.Goals as goal

pub returns-then-not-are_any-clause-takes : goal.returns-then-not-are_any-clause-takes
returns-then-not-are_any-clause-takes c = λ zone is fits.
    let tie = c.args.self.now in
    let d : Fixture = record { home = 0; away = 0 } in
    let teams = get_or c.as_slice.result.now c.args.fixture d in
    let home = c.of-sides.result.home in
    let away = c.of-sides.result.away in
    let at = match_there tie c.args.able c.args.front c.args.back zone c.args.fixture d home away
    c.as_slice.result.now c.requires.tie is c.requires.clubs fits c.requires.of_sheet
    c.as_slice.ensures c.of-sides.ensures.home c.of-sides.ensures.away in
    passes_by tie c.args.able c.args.front c.args.back zone c.args.fixture teams d home away
    c.args.leads.now at (sym c.are_any.ensures ∙ c.if-not-are_any.true)

pub returns-then-not-are_any-clause-near : goal.returns-then-not-are_any-clause-near
returns-then-not-are_any-clause-near c = λ bound near.
    leads_wider bound (bound + 510) c.args.leads.now (omega arith) near

pub returns-then-are_both-clause-takes : goal.returns-then-are_both-clause-takes
returns-then-are_both-clause-takes c = λ zone is fits.
    let tie = c.args.self.now in
    let d : Fixture = record { home = 0; away = 0 } in
    let teams = get_or c.as_slice.result.now c.args.fixture d in
    let home = c.of-sides.result.home in
    let away = c.of-sides.result.away in
    let at = match_there tie c.args.able c.args.front c.args.back zone c.args.fixture d home away
    c.as_slice.result.now c.requires.tie is c.requires.clubs fits c.requires.of_sheet
    c.as_slice.ensures c.of-sides.ensures.home c.of-sides.ensures.away in
    let least = c.least_margin-least.ensures.least
    (get_or (fits_of tie zone (c.args.front ∷ c.args.back ∷ [])) c.args.fixture [])
    (c.fit_both-fit.ensures zone is (fits.front_fits, (fits.back_fits, tt))) in
    takes_both tie c.args.able c.args.front c.args.back zone c.args.fixture teams d home away
    c.args.leads.now c.least_margin-least.result c.added-leads-then-are_both.result
    c.added-leads.result at (sym c.are_both.ensures ∙ c.if-are_both.true) least
    c.added-leads-then-are_both.ensures.record_lead c.added-leads.ensures.first_lead
    c.added-leads.ensures.overall_lead

pub returns-then-are_both-clause-near : goal.returns-then-are_both-clause-near
returns-then-are_both-clause-near c = λ bound near. record {
  pair = c.added-leads-then-are_both.ensures.near bound 510 near.pair
      c.least_margin-least.ensures.near;
  overall = c.added-leads.ensures.near bound 510 near.overall c.least_margin-least.ensures.near;
  long = near.long;
  against = λ club.
      lead_wider bound (bound + 510) (kept_lead c.args.leads.now.against club) (omega arith)
      (near.against club);
}

pub least_with-by_third-requires-clause-third : goal.least_with-by_third-requires-clause-third
least_with-by_third-requires-clause-third c =
    c.requires.clubs.of_sheet c.other-third.result (sym c.has.ensures ∙ c.if-has.true)

pub least_with-by_third-requires-clause-least : goal.least_with-by_third-requires-clause-least
least_with-by_third-requires-clause-least c = λ zone is have.
    let d : Fixture = record { home = 0; away = 0 } in
    let both = c.args.front ∷ c.args.back ∷ [] in
    subst (λ (fs : List Fixture). IsLeastMargin (get_or fs c.args.fixture d)
    (get_or (fits_of c.args.self.now zone both) c.args.fixture []) c.args.front c.args.back
    c.least_margin-least.result) c.as_slice.ensures
    (c.least_margin-least.ensures.least
    (get_or (fits_of c.args.self.now zone both) c.args.fixture [])
    (c.fit_both-fit.ensures zone is have))

pub returns-then-has-clause-takes : goal.returns-then-has-clause-takes
returns-then-has-clause-takes c = λ zone is fits fixtures so_far.
    let tie = c.args.self.now in
    let d : Fixture = record { home = 0; away = 0 } in
    let teams = get_or c.as_slice.result.now c.args.fixture d in
    let home = c.of-sides.result.home in
    let away = c.of-sides.result.away in
    let at = match_there tie c.args.able c.args.front c.args.back zone c.args.fixture d home away
    c.as_slice.result.now c.requires.tie is c.requires.clubs fits c.requires.of_sheet
    c.as_slice.ensures c.of-sides.ensures.home c.of-sides.ensures.away in
    let least = c.least_margin-least.ensures.least
    (get_or (fits_of tie zone (c.args.front ∷ c.args.back ∷ [])) c.args.fixture [])
    (c.fit_both-fit.ensures zone is (fits.front_fits, (fits.back_fits, tt))) in
    let one = one_is home away (sym c.are_any.ensures ∙ c.if-not-are_any.false)
    (sym c.are_both.ensures ∙ c.if-are_both.false) in
    let third = c.other-third.result in
    let all = c.args.front ∷ c.args.back ∷ third ∷ [] in
    let among = sym c.has.ensures ∙ c.if-has.true in
    takes_one tie c.args.able c.args.front c.args.back zone c.args.fixture teams d home away
    c.args.leads.now c.least_margin-least.result c.added-leads.result _ at one least
    c.added-leads.ensures.first_lead c.added-leads.ensures.overall_lead fixtures
    (third_taken tie c.args.able c.args.front c.args.back zone c.args.fixture teams d home away
    third c.args.leads.now.against c.least_with-by_third.result c.added.result at one
    c.other-third.ensures
    (omega (
      arith,
      c.requires.clubs.of_sheet third among,
      c.requires.tie.left.league.limits.most_clubs,
      c.requires.near.long,
    ))
    (subst (λ (fs : List Fixture). IsLeastMargin (get_or fs c.args.fixture d)
    (get_or (fits_of tie zone all) c.args.fixture []) c.args.front c.args.back
    c.least_with-by_third.result) (sym c.as_slice.ensures)
    (c.least_with-by_third.ensures.least zone is
    (fits.front_fits, (fits.back_fits, (fits.each_fits third among, tt)))))
    c.added.ensures.record_lead fixtures so_far.against) so_far

pub returns-then-has-clause-near : goal.returns-then-has-clause-near
returns-then-has-clause-near c = λ bound near. record {
  pair = lead_wider bound (bound + 510) c.args.leads.now.pair (omega arith) near.pair;
  overall = c.added-leads.ensures.near bound 510 near.overall c.least_margin-least.ensures.near;
  long = length-set c.args.leads.now.against c.other-third.result c.added.result ∙ near.long;
  against = third_near c.args.leads.now.against c.other-third.result bound c.added.result
      (omega (
        arith,
        c.requires.clubs.of_sheet c.other-third.result (sym c.has.ensures ∙ c.if-has.true),
        c.requires.tie.left.league.limits.most_clubs,
        near.long,
      )) near.against
      (c.added.ensures.near bound 510 (near.against c.other-third.result)
      c.least_with-by_third.ensures.near);
}

pub returns-else-has-clause-takes : goal.returns-else-has-clause-takes
returns-else-has-clause-takes c = λ zone is fits fixtures so_far.
    let tie = c.args.self.now in
    let d : Fixture = record { home = 0; away = 0 } in
    let teams = get_or c.as_slice.result.now c.args.fixture d in
    let home = c.of-sides.result.home in
    let away = c.of-sides.result.away in
    let at = match_there tie c.args.able c.args.front c.args.back zone c.args.fixture d home away
    c.as_slice.result.now c.requires.tie is c.requires.clubs fits c.requires.of_sheet
    c.as_slice.ensures c.of-sides.ensures.home c.of-sides.ensures.away in
    let least = c.least_margin-least.ensures.least
    (get_or (fits_of tie zone (c.args.front ∷ c.args.back ∷ [])) c.args.fixture [])
    (c.fit_both-fit.ensures zone is (fits.front_fits, (fits.back_fits, tt))) in
    let one = one_is home away (sym c.are_any.ensures ∙ c.if-not-are_any.false)
    (sym c.are_both.ensures ∙ c.if-are_both.false) in
    takes_one tie c.args.able c.args.front c.args.back zone c.args.fixture teams d home away
    c.args.leads.now c.least_margin-least.result c.added-leads.result c.args.leads.now.against at
    one least c.added-leads.ensures.first_lead c.added-leads.ensures.overall_lead fixtures
    (third_left_out tie c.args.able c.args.front c.args.back zone c.args.fixture teams d home away
    c.other-third.result c.args.leads.now.against at one c.other-third.ensures
    (sym c.has.ensures ∙ c.if-has.false) fixtures so_far.against) so_far

pub returns-else-has-clause-near : goal.returns-else-has-clause-near
returns-else-has-clause-near c = λ bound near. record {
  pair = lead_wider bound (bound + 510) c.args.leads.now.pair (omega arith) near.pair;
  overall = c.added-leads.ensures.near bound 510 near.overall c.least_margin-least.ensures.near;
  long = near.long;
  against = λ club.
      lead_wider bound (bound + 510) (kept_lead c.args.leads.now.against club) (omega arith)
      (near.against club);
}

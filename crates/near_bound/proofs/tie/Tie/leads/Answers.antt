use Rattle.std.proofs.Common.{◌≡◌, ◌*◌, ◌+◌, ◌-◌, ◌<◌, ◌∷◌, [], ℕ, List, length, get_or, drop}
use Rattle.std.proofs.Common.{sym, ap, ◌∙◌, subst, arith}
use Rattle.std.proofs.lemmas.List.{drop_more, drop_all}
use Rattle.league_core.specs.game.Sums.{worth_to, worth_among}
use Rattle.near_laws.specs.Leads.{margins, worth_against}
use Rattle.near_laws.specs.SureLeads.{record_worths, first_worths, overall_worths}
use Rattle.near_bound.specs.inside.Margins.{lead_by, record_parts, first_parts, overall_parts}
use Rattle.near_bound.specs.inside.PairLeads.{AreLeadsSoFar, AreLeadsWithin, kept_lead, played_in}
use Rattle.near_bound.specs.inside.Ties.{fits_of}
use Rattle.near_bound.proofs.LeadWalkLemmas.{so_far_all}
use Rattle.near_bound.proofs.MatchLeadLemmas.{leads_wider}
use Rattle.near_bound.proofs.PairLeadLemmas.{record_size, first_size, overall_size}
use Rattle.near_bound.proofs.PlayedPartLemmas.{part_near, open_of_sheet, length-open}
use Rattle.near_bound.proofs.SomeLeadLemmas.{common_fit}
use Rattle.near_bound.proofs.StartLemmas.{starts_so_far, starts_near}
use Rattle.near_bound.proofs.tie.Tie.leads.Goals as goal

pub loop-number-init : goal.loop-number-init
loop-number-init c =
    let tie = c.args.self.now in
    let left = tie.left.now in
    let part = played_in tie in
    let played = length left.sheet.now.fixtures - part.unplayed_count in
    let start : 510 * played ≡ 510 * (played + 0) = omega arith in record {
      so_far = λ zone is fits.
          subst (λ (xs : List ℕ). AreLeadsSoFar tie c.args.able c.args.front c.args.back zone xs
          c.played_leads-leads.result)
          (sym (c.open-unplayed.ensures ∙ c.requires.tie.left.played.is_open))
          (starts_so_far tie c.args.able c.args.front c.args.back zone c.played_leads-leads.result
          c.requires.tie is c.requires.clubs fits c.played_leads-leads.ensures);
      near = subst (λ (n : ℕ). AreLeadsWithin n c.played_leads-leads.result) start
          (starts_near tie c.args.able c.args.front c.args.back played
          c.played_leads-leads.result c.played_leads-leads.ensures
          (part_near left.sheet.now left.season.now part c.requires.tie.left.played));
      of_tie = c.played_leads-leads.ensures.of_tie;
    }

pub add_match-requires-clause-of_sheet : goal.add_match-requires-clause-of_sheet
add_match-requires-clause-of_sheet c =
    let left = c.args.self.now.left.now in
    let part = played_in c.args.self.now in
    let list = c.open-unplayed.ensures in
    let i = c.loop-number.number-index in
    subst (λ (xs : List ℕ). get_or xs i 0 < length left.sheet.now.fixtures) (sym list)
    (open_of_sheet left.sheet.now left.season.now part i 0 c.requires.tie.left.played
    c.requires.tie.left.league.of_sheet.scores
    (subst (λ (xs : List ℕ). i < length xs) list c.loop-number-test.true))

pub add_match-requires-clause-near : goal.add_match-requires-clause-near
add_match-requires-clause-near c =
    let left = c.args.self.now.left.now in
    let part = played_in c.args.self.now in
    let few = c.requires.tie.left.league.limits.most_fixtures in
    let many = ap (length {A = ℕ}) c.open-unplayed.ensures
    ∙ length-open left.sheet.now left.season.now part c.requires.tie.left.played few in
    leads_wider
    (510 * (length left.sheet.now.fixtures - part.unplayed_count + c.loop-number.number-index))
    400000 c.loop-number.leads
    (omega (arith, few, many, c.loop-number-test.true, c.requires.tie.left.played.few))
    c.loop-number.invariant.near

pub loop-number-preserved : goal.loop-number-preserved
loop-number-preserved c =
    let tie = c.args.self.now in
    let left = tie.left.now in
    let part = played_in tie in
    let played = length left.sheet.now.fixtures - part.unplayed_count in
    let list = c.open-unplayed.result.now in
    let i = c.loop-number.number-index in
    let next : 510 * (played + i) + 510 ≡ 510 * (played + (i + 1)) = omega arith in record {
      so_far = λ zone is fits.
          c.add_match.ensures.takes zone is fits (drop (i + 1) list)
          (subst (λ (xs : List ℕ). AreLeadsSoFar tie c.args.able c.args.front c.args.back zone xs
          c.loop-number.leads) (drop_more list i 0 c.loop-number-test.true)
          (c.loop-number.invariant.so_far zone is fits));
      near = subst (λ (n : ℕ). AreLeadsWithin n c.add_match.new.leads) next
          (c.add_match.ensures.near (510 * (played + i)) c.loop-number.invariant.near);
      of_tie = record {
        rank = c.add_match.ensures.rank ∙ c.loop-number.invariant.of_tie.rank;
        order = c.add_match.ensures.order ∙ c.loop-number.invariant.of_tie.order;
      };
    }

pub returns-clause-is : goal.returns-clause-is
returns-clause-is c = λ zone is fits.
    let tie = c.args.self.now in
    let front = c.args.front in
    let back = c.args.back in
    let matches = tie.left.now.sheet.now.fixtures in
    let both = fits_of tie zone (front ∷ back ∷ []) in
    let leads = c.loop-number.leads in
    let so_far = subst (λ (xs : List ℕ). AreLeadsSoFar tie c.args.able front back zone xs leads)
    (drop_all c.loop-number.number-index c.open-unplayed.result.now c.loop-number-test.false)
    (c.loop-number.invariant.so_far zone is fits) in
    let whole = so_far_all (margins (worth_among (front ∷ back ∷ [])) record_worths front back)
    matches both (lead_by record_parts leads.pair) (record_size leads.pair) so_far.pair in record {
      pair = whole;
      first = so_far_all (margins worth_to first_worths front back) matches both
          (lead_by first_parts leads.overall) (first_size leads.overall) so_far.first;
      overall = so_far_all (margins worth_to overall_worths front back) matches both
          (lead_by overall_parts leads.overall) (overall_size leads.overall) so_far.overall;
      against = λ some rival among apart also.
          so_far_all (margins (worth_against rival) record_worths front back) matches
          (fits_of tie zone (front ∷ back ∷ rival ∷ []))
          (lead_by record_parts (kept_lead leads.against rival))
          (record_size (kept_lead leads.against rival))
          (so_far.against
          (common_fit tie zone front back leads.pair c.requires.tie is some whole) rival among
          apart also);
    }

pub returns-clause-near : goal.returns-clause-near
returns-clause-near c =
    let left = c.args.self.now.left.now in
    let part = played_in c.args.self.now in
    let few = c.requires.tie.left.league.limits.most_fixtures in
    let many = ap (length {A = ℕ}) c.open-unplayed.ensures
    ∙ length-open left.sheet.now left.season.now part c.requires.tie.left.played few in
    leads_wider
    (510 * (length left.sheet.now.fixtures - part.unplayed_count + c.loop-number.number-index))
    400000 c.loop-number.leads
    (omega (
      arith,
      few,
      many,
      c.loop-number.auto.number-index-end,
      c.requires.tie.left.played.few,
    ))
    c.loop-number.invariant.near

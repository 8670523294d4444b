use Rattle.std.proofs.Common.{◌≡◌, ◌*◌, ◌+◌, ℕ, List, [], ◌∷◌, ◌++◌, length, refl, sym, ap, ◌∙◌}
use Rattle.std.proofs.Common.{subst}
use Rattle.std.proofs.Common.{arith, length-append}
use Rattle.league_core.proofs.WalkLemmas.{comes_to, all_seen}
use Rattle.near_laws.specs.Leads.{added_leads, total_lead}
use Rattle.near_bound.specs.inside.Margins.{IsLeadWithin, lead_by, record_parts}
use Rattle.near_bound.specs.inside.Decisions.{third_lead}
use Rattle.near_bound.proofs.MarginLemmas.{lead_wider}
use Rattle.near_bound.proofs.LeadSumLemmas.{leads_turned, total_of_both}
use Rattle.near_bound.proofs.leads.Leads.added_to.Goals as goal

pub loop-club-init : goal.loop-club-init
loop-club-init c = record {
  value = refl;
  near = λ bound near.
      lead_wider bound (bound + 400000 * length {A = ℕ} []) c.args.lead (omega arith)
      near;
}

pub third-requires-clause-in_range : goal.third-requires-clause-in_range
third-requires-clause-in_range c =
    (comes_to c.args.thirds c.loop-club.yielded c.in-Some.club
    (c.into_iter-club-iterator.ensures.into_iter_gives ∙ c.clubs-club-items.ensures.all)
    c.loop-club.yielded_by c.in-Some.ensures.steps).low

pub with_record-total-requires-clause-near : goal.with_record-total-requires-clause-near
with_record-total-requires-clause-near c =
    let met = comes_to c.args.thirds c.loop-club.yielded c.in-Some.club
    (c.into_iter-club-iterator.ensures.into_iter_gives ∙ c.clubs-club-items.ensures.all)
    c.loop-club.yielded_by c.in-Some.ensures.steps in
    lead_wider (50000000 + 400000 * length c.loop-club.yielded) 100000000 c.loop-club.total
    (omega (arith, met.few)) (c.loop-club.invariant.near 50000000 c.requires.near)

pub with_record-total-requires-clause-other_near :
    goal.with_record-total-requires-clause-other_near
with_record-total-requires-clause-other_near c =
    lead_wider 400000 100000000 c.third.result (omega arith) c.third.ensures.near

pub loop-club-preserved : goal.loop-club-preserved
loop-club-preserved c =
    let first = lead_by record_parts c.args.lead in
    let lead = third_lead c.args.capped c.args.self.now in
    let seen = c.loop-club.yielded in
    let club = c.in-Some.club in
    record {
      value =
          c.with_record-total.ensures.value
          ∙ (λ i. added_leads (c.loop-club.invariant.value i) (c.third.ensures.value i))
          ∙ leads_turned (total_lead first lead seen) (lead club)
          ∙ sym (total_of_both first lead seen (club ∷ []));
      near = λ bound near.
          let long : (bound + 400000 * length seen) + 400000
          ≡ bound + 400000 * length (seen ++ club ∷ [])
          = omega (arith, length-append seen (club ∷ [])) in
          subst (λ (n : ℕ). IsLeadWithin n c.with_record-total.result) long
          (c.with_record-total.ensures.near (bound + 400000 * length seen) 400000
          (c.loop-club.invariant.near bound near) c.third.ensures.near);
    }

pub returns-clause-value : goal.returns-clause-value
returns-clause-value c =
    c.loop-club.invariant.value
    ∙ ap (total_lead (lead_by record_parts c.args.lead) (third_lead c.args.capped c.args.self.now))
    (all_seen c.args.thirds c.loop-club.yielded
    (c.into_iter-club-iterator.ensures.into_iter_gives ∙ c.clubs-club-items.ensures.all)
    c.loop-club.yielded_by c.in-None.ensures.steps.0)

pub returns-clause-near : goal.returns-clause-near
returns-clause-near c = λ bound near.
    subst (λ (xs : List ℕ). IsLeadWithin (bound + 400000 * length xs) c.loop-club.total)
    (all_seen c.args.thirds c.loop-club.yielded
    (c.into_iter-club-iterator.ensures.into_iter_gives ∙ c.clubs-club-items.ensures.all)
    c.loop-club.yielded_by c.in-None.ensures.steps.0)
    (c.loop-club.invariant.near bound near)

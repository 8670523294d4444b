use Rattle.std.proofs.Common.{◌*◌, ◌+◌, true, length, ap, ◌∙◌, arith}
use Rattle.league_core.specs.game.ClubSets.{clubs_in}
use Rattle.league_core.proofs.ClubCountLemmas.{few_members}
use Rattle.near_laws.specs.Leads.{Lead, total_lead}
use Rattle.near_bound.specs.inside.Decisions.{third_lead}
use Rattle.near_bound.proofs.MarginLemmas.{lead_wider}
use Rattle.near_bound.proofs.leads.Leads.total.Goals as goal

pub added_to-with_sure-requires-clause-near : goal.added_to-with_sure-requires-clause-near
added_to-with_sure-requires-clause-near c =
    let few = few_members c.args.sure in
    lead_wider 400000 50000000 c.args.self.now.pair (omega (arith, few)) c.requires.pair

pub added_to-requires-clause-near : goal.added_to-requires-clause-near
added_to-requires-clause-near c =
    let few = few_members c.args.sure in
    let more = few_members c.args.loose in
    lead_wider (400000 + 400000 * length (clubs_in c.args.sure)) 50000000
    c.added_to-with_sure.result (omega (arith, few, more))
    (c.added_to-with_sure.ensures.near 400000 c.requires.pair)

pub returns : goal.returns
returns c =
    c.added_to.ensures.value
    ∙ ap (λ (l : Lead). total_lead l (third_lead true c.args.self.now) (clubs_in c.args.loose))
    c.added_to-with_sure.ensures.value

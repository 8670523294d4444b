use Rattle.std.proofs.Common.{◌&&◌, Option, sym, ap, ◌∙◌, subst}
use Rattle.league_core.specs.game.ClubSets.{clubs_in}
use Rattle.near_bound.specs.declared.leads.Leads.{Leads}
use Rattle.near_bound.specs.inside.Decisions.{leads_anyway}
use Rattle.near_bound.specs.inside.Ties.{fits_of}
use Rattle.near_bound.specs.inside.GroupsLeft.{IsMarkedLead}
use Rattle.near_bound.proofs.DecisionLemmas.{decide_is}
use Rattle.near_bound.proofs.wrongs.decide.Goals as goal

pub returns-in-None : goal.returns-in-None
returns-in-None c = λ tie able front back marked zone are is fits one two.
    ap (λ b. b && leads_anyway tie.left.now.sheet.now (fits_of tie zone) front back
    (clubs_in c.args.sure) (clubs_in c.args.loose))
    (sym (subst (λ (o : Option Leads). IsMarkedLead tie able front back marked o) c.in-None.is are))

pub returns-in-Some : goal.returns-in-Some
returns-in-Some c = λ tie able front back marked zone are is fits one two.
    let of = subst (λ (o : Option Leads). IsMarkedLead tie able front back marked o) c.in-Some.is
    are
    in
    c.decide.ensures
    ∙ decide_is tie zone able front back c.in-Some.leads (of.3 zone is fits)
    (clubs_in c.args.sure) (clubs_in c.args.loose) of.2 one two
    ∙ ap (λ b. b && leads_anyway tie.left.now.sheet.now (fits_of tie zone) front back
    (clubs_in c.args.sure) (clubs_in c.args.loose)) (sym of.0)

use Rattle.std.proofs.Common.{◌≡◌, ℕ, ◌&&◌, ◌||◌, ◌==◌, not, List, filter, sym, ap, ◌∙◌}
use Rattle.league_core.specs.declared.club_set.ClubSet.{ClubSet}
use Rattle.near_bound.specs.declared.groups.Groups.{Groups}
use Rattle.league_core.specs.game.ClubSets.{clubs_in}
use Rattle.league_core.specs.game.Sums.{has_club}
use Rattle.league_core.specs.search.Zones.{marked_before, marked_after}
use Rattle.league_core.proofs.ClubCountLemmas.{member_below}
use Rattle.near_bound.specs.inside.Decisions.{leads_anyway}
use Rattle.near_bound.specs.inside.Ties.{fits_of}
use Rattle.near_bound.proofs.GroupSetLemmas.{others_are, marked_near, rivals_fit, turned_others}
use Rattle.near_bound.proofs.GroupListLemmas.{sure_is, loose_is, loose_others}
use Rattle.near_bound.proofs.groups.Groups.is_wrong.Goals as goal

pub single-requires : goal.single-requires
single-requires c = member_below c.args.self.now.held c.args.rival c.requires.rival

pub decide-requires : goal.decide-requires
decide-requires c =
    marked_near _ _ _ _ _ c.args.wrongs.now.behind c.requires.wrongs.behind_leads

pub decide-requires-else-decide : goal.decide-requires-else-decide
decide-requires-else-decide c =
    marked_near _ _ _ _ _ c.args.wrongs.now.ahead c.requires.wrongs.ahead_leads

abbrev sure_in : Groups → ClubSet → ℕ → List ℕ
sure_in groups clubs rival =
    filter (λ other. not (other == rival))
    (filter (has_club (clubs_in groups.held)) (clubs_in clubs))

abbrev loose_in : Groups → ClubSet → List ℕ
loose_in groups clubs =
    filter (λ other. not (has_club (clubs_in groups.held) other)) (clubs_in clubs)

pub returns-then-decide : goal.returns-then-decide
returns-then-decide c = λ zone are.
    let groups = c.args.self.now in
    let tie = groups.tie.now in
    let rival = c.args.rival in
    let sure = sure_is groups.held c.args.clubs c.single.result c.without-sure.result rival
    c.requires.left.clubs_held c.single.ensures c.without-sure.ensures in
    let loose = loose_is c.args.clubs groups.held c.without-loose.result c.without-loose.ensures in
    let with_sure = others_are groups.able groups.held c.single.result c.without-sure.result
    groups.club rival c.requires.groups.rivals.not_club c.requires.groups.held_in c.single.ensures
    c.without-sure.ensures in
    let with_loose = loose_others groups c.args.clubs c.without-loose.result rival
    c.requires.groups c.requires.left c.requires.rival c.without-loose.ensures in
    let fits = rivals_fit tie groups.able groups.club rival zone are.fit
    (c.requires.groups.held_in rival c.requires.rival) in
    let after = are.tie_in.stands.after rival in
    let behind : c.decide.result ≡ (marked_after zone rival
    && leads_anyway tie.left.now.sheet.now (fits_of tie zone) rival groups.club
    (sure_in groups c.args.clubs rival) (loose_in groups c.args.clubs)) =
    c.decide.ensures tie groups.able rival groups.club
    (has_club (clubs_in tie.left.now.after) rival) zone c.requires.wrongs.behind_leads
    are.tie_in fits.0 with_sure with_loose
    ∙ (λ i. after i && leads_anyway tie.left.now.sheet.now (fits_of tie zone) rival groups.club
    (sure i) (loose i)) in
    c.if-decide.true
    ∙ ap (λ b. b || (marked_before zone rival
    && leads_anyway tie.left.now.sheet.now (fits_of tie zone) groups.club rival
    (sure_in groups c.args.clubs rival) (loose_in groups c.args.clubs)))
    (sym c.if-decide.true ∙ behind)

pub returns-else-decide : goal.returns-else-decide
returns-else-decide c = λ zone are.
    let groups = c.args.self.now in
    let tie = groups.tie.now in
    let rival = c.args.rival in
    let sure = sure_is groups.held c.args.clubs c.single.result c.without-sure.result rival
    c.requires.left.clubs_held c.single.ensures c.without-sure.ensures in
    let loose = loose_is c.args.clubs groups.held c.without-loose.result c.without-loose.ensures in
    let with_sure = others_are groups.able groups.held c.single.result c.without-sure.result
    groups.club rival c.requires.groups.rivals.not_club c.requires.groups.held_in c.single.ensures
    c.without-sure.ensures in
    let with_loose = loose_others groups c.args.clubs c.without-loose.result rival
    c.requires.groups c.requires.left c.requires.rival c.without-loose.ensures in
    let fits = rivals_fit tie groups.able groups.club rival zone are.fit
    (c.requires.groups.held_in rival c.requires.rival) in
    let after = are.tie_in.stands.after rival in
    let behind : c.decide.result ≡ (marked_after zone rival
    && leads_anyway tie.left.now.sheet.now (fits_of tie zone) rival groups.club
    (sure_in groups c.args.clubs rival) (loose_in groups c.args.clubs)) =
    c.decide.ensures tie groups.able rival groups.club
    (has_club (clubs_in tie.left.now.after) rival) zone c.requires.wrongs.behind_leads
    are.tie_in fits.0 with_sure with_loose
    ∙ (λ i. after i && leads_anyway tie.left.now.sheet.now (fits_of tie zone) rival groups.club
    (sure i) (loose i)) in
    let marks = are.tie_in.stands.before rival in
    c.decide-else-decide.ensures tie groups.able groups.club rival
    (has_club (clubs_in tie.left.now.before) rival) zone c.requires.wrongs.ahead_leads
    are.tie_in fits.1 (turned_others groups.able rival groups.club _ with_sure)
    (turned_others groups.able rival groups.club _ with_loose)
    ∙ (λ i. marks i && leads_anyway tie.left.now.sheet.now (fits_of tie zone) groups.club rival
    (sure i) (loose i))
    ∙ ap (λ b. b || (marked_before zone rival
    && leads_anyway tie.left.now.sheet.now (fits_of tie zone) groups.club rival
    (sure_in groups c.args.clubs rival) (loose_in groups c.args.clubs)))
    (sym c.if-decide.false ∙ behind)

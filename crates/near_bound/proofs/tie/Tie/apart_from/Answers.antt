use Rattle.std.proofs.Common.{◌≡◌, ◌+◌, ◌<◌, ℕ, List, length, get_or, sym, ◌∙◌}
use Rattle.std.proofs.Common.{subst, ap, arith}
use Rattle.std.proofs.Math.ListN.{get_or-eq_default}
use Rattle.std.proofs.lemmas.Bool.{true≢false}
use Rattle.std.proofs.lemmas.List.{get_or_default}
use Rattle.league_core.specs.game.ClubSets.{clubs_in}
use Rattle.league_core.specs.game.Sums.{has_club}
use Rattle.near_bound.specs.inside.FitEnds.{AreRivalsSoFar}
use Rattle.near_bound.specs.inside.PlayedParts.{open_fixtures}
use Rattle.near_bound.proofs.AbleClubLemmas.{open_walk}
use Rattle.near_bound.proofs.MeetingLemmas.{meetings_begin, meetings_go_on, rivals_apart}
use Rattle.near_bound.proofs.tie.Tie.apart_from.Goals as goal

pub loop-number-init : goal.loop-number-init
loop-number-init c =
    let tie = c.args.self.now in
    let count = length tie.left.now.sheet.now.fixtures in
    let open_is : c.open-open.result.now ≡ open_fixtures tie.left.now.season.now.scores =
    c.open-open.ensures ∙ c.requires.tie.left.played.is_open in
    subst (λ (xs : List ℕ). AreRivalsSoFar tie c.args.club (get_or xs 0 count) c.empty-apart.result)
    (sym open_is)
    (meetings_begin tie c.args.club c.empty-apart.result c.requires.tie c.empty-apart.ensures)

pub with_match-apart-requires-clause-of_sheet : goal.with_match-apart-requires-clause-of_sheet
with_match-apart-requires-clause-of_sheet c =
    let tie = c.args.self.now in
    let count = length tie.left.now.sheet.now.fixtures in
    let open_is : c.open-open.result.now ≡ open_fixtures tie.left.now.season.now.scores =
    c.open-open.ensures ∙ c.requires.tie.left.played.is_open in
    subst (λ (n : ℕ). n < count)
    (get_or_default c.open-open.result.now c.loop-number.number-index count 0
    c.loop-number-test.true)
    (subst (λ (xs : List ℕ). get_or xs c.loop-number.number-index count < count) (sym open_is)
    ((open_walk tie c.requires.tie).inside c.loop-number.number-index
    (subst (λ (xs : List ℕ). c.loop-number.number-index < length xs) open_is
    c.loop-number-test.true)))

pub loop-number-preserved : goal.loop-number-preserved
loop-number-preserved c =
    let tie = c.args.self.now in
    let club = c.args.club in
    let index = c.loop-number.number-index in
    let count = length tie.left.now.sheet.now.fixtures in
    let there = c.loop-number-test.true in
    let new = c.with_match-apart.result in
    let open_is : c.open-open.result.now ≡ open_fixtures tie.left.now.season.now.scores =
    c.open-open.ensures ∙ c.requires.tie.left.played.is_open in
    let same = get_or_default c.open-open.result.now index count 0 there in
    let taken : AreRivalsSoFar tie club (get_or c.open-open.result.now index count + 1) new =
    subst (λ (n : ℕ). AreRivalsSoFar tie club (n + 1) new) (sym same)
    (c.with_match-apart.ensures
    (subst (λ (n : ℕ). AreRivalsSoFar tie club n c.loop-number.apart) same
    c.loop-number.invariant)) in
    subst (λ (xs : List ℕ). AreRivalsSoFar tie club (get_or xs (index + 1) count) new)
    (sym open_is)
    (meetings_go_on tie club index new c.requires.tie
    (subst (λ (xs : List ℕ). index < length xs) open_is there)
    (subst (λ (xs : List ℕ). AreRivalsSoFar tie club (get_or xs index count + 1) new) open_is
    taken))

pub returns : goal.returns
returns c = λ zone is own theirs rival.
    let tie = c.args.self.now in
    let club = c.args.club in
    let count = length tie.left.now.sheet.now.fixtures in
    let rivals = c.requires.rivals in
    c.intersection.ensures rival
    ∙ rivals_apart tie club c.loop-number.apart c.args.rivals zone rival c.requires.tie is own
    (λ x has. (
      rivals.of_sheet x has,
      λ e. true≢false (sym has ∙ ap (has_club (clubs_in c.args.rivals)) e ∙ rivals.not_club),
      theirs x has,
    ))
    (subst (λ (n : ℕ). AreRivalsSoFar tie club n c.loop-number.apart)
    (get_or-eq_default c.open-open.result.now count (omega arith)) c.loop-number.invariant)

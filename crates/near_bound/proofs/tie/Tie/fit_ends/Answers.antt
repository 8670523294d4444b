use Rattle.std.proofs.Common.{◌≡◌, ◌+◌, ◌*◌, ◌<◌, ℕ, List, length, get_or, refl, sym, ◌∙◌, subst}
use Rattle.std.proofs.Common.{arith}
use Rattle.std.proofs.lemmas.List.{get_or_default}
use Rattle.near_bound.specs.inside.FitEnds.{AreClubsSoFar}
use Rattle.near_bound.specs.inside.PlayedParts.{open_fixtures}
use Rattle.near_bound.proofs.AbleClubLemmas.{walk_begins, walk_goes_on, open_walk, near_first}
use Rattle.near_bound.proofs.AbleClubLemmas.{near_wider}
use Rattle.near_bound.proofs.tie.Tie.fit_ends.Goals as goal

pub loop-number-init : goal.loop-number-init
loop-number-init c =
    let tie = c.args.self.now in
    let count = length tie.left.now.sheet.now.fixtures in
    let open_is : c.open-open.result.now ≡ open_fixtures tie.left.now.season.now.scores =
    c.open-open.ensures ∙ c.requires.tie.left.played.is_open in record {
      walked = subst (λ (xs : List ℕ). AreClubsSoFar tie (get_or xs 0 count)
          (record { ends = tie.ends; lacking = c.empty.result })) (sym open_is)
          (walk_begins tie (record { ends = tie.ends; lacking = c.empty.result }) c.requires.tie
          refl c.empty.ensures);
      near = near_first tie c.requires.tie;
    }

pub take_match-requires-clause-of_sheet : goal.take_match-requires-clause-of_sheet
take_match-requires-clause-of_sheet c =
    let tie = c.args.self.now in
    let count = length tie.left.now.sheet.now.fixtures in
    let open_is : c.open-open.result.now ≡ open_fixtures tie.left.now.season.now.scores =
    c.open-open.ensures ∙ c.requires.tie.left.played.is_open in
    subst (λ (n : ℕ). n < count)
    (get_or_default c.open-open.result.now c.loop-number.number-index count 0
    c.loop-number-test.true)
    (subst (λ (xs : List ℕ). get_or xs c.loop-number.number-index count < count) (sym open_is)
    ((open_walk tie c.requires.tie).inside c.loop-number.number-index
    (subst (λ (xs : List ℕ). c.loop-number.number-index < length xs) open_is
    c.loop-number-test.true)))

pub loop-number-preserved : goal.loop-number-preserved
loop-number-preserved c =
    let tie = c.args.self.now in
    let index = c.loop-number.number-index in
    let count = length tie.left.now.sheet.now.fixtures in
    let there = c.loop-number-test.true in
    let open_is : c.open-open.result.now ≡ open_fixtures tie.left.now.season.now.scores =
    c.open-open.ensures ∙ c.requires.tie.left.played.is_open in
    let same = get_or_default c.open-open.result.now index count 0 there in
    let taken : AreClubsSoFar tie (get_or c.open-open.result.now index count + 1)
    c.take_match.new.all =
    subst (λ (n : ℕ). AreClubsSoFar tie (n + 1) c.take_match.new.all) (sym same)
    (c.take_match.ensures.takes
    (subst (λ (n : ℕ). AreClubsSoFar tie n c.loop-number.all) same
    c.loop-number.invariant.walked)) in record {
      walked = subst (λ (xs : List ℕ). AreClubsSoFar tie (get_or xs (index + 1) count)
          c.take_match.new.all) (sym open_is)
          (walk_goes_on tie index c.take_match.new.all c.requires.tie
          (subst (λ (xs : List ℕ). index < length xs) open_is there)
          (subst (λ (xs : List ℕ). AreClubsSoFar tie (get_or xs index count + 1)
          c.take_match.new.all) open_is taken));
      near = near_wider tie (1800 + 6 * index + 6) (1800 + 6 * (index + 1))
          c.take_match.new.all.ends (omega arith)
          (c.take_match.ensures.near (1800 + 6 * index) c.loop-number.invariant.near);
    }

use Rattle.std.proofs.Common.{rules, ◌≡◌, ◌<◌, ℤ, FitsSigned, to_z, of_z, w32, sym, subst}
use Rattle.std.proofs.lemmas.Int.{to_z-of_z}
use Rattle.league_core.specs.search.PointRanges.{Range}
use Rattle.cup_sheet.specs.KeyBounds.{IsMidpoint}
use Rattle.club_keys.specs.inside.KeyEnds.{key_parts}
use Rattle.turning_keys.specs.declared.halve.Reached.{Reached}
use Rattle.turning_keys.specs.inside.TurningSearches.{range_spanned, IsHalving, numbers_past}
use Rattle.turning_keys.proofs.StepLemmas.{near_step, far_step, middle_on_the_way}
use Rattle.turning_keys.proofs.halve.halve.Goals as goal

pub returns-in-Near : goal.returns-in-Near
returns-in-Near c =
    let old = c.args.reached.now in
    let new : Reached = record {
      key = old.key;
      known = old.known;
      example = c.settle.new.example;
    } in
    let fits : FitsSigned w32 c.middle-middle.result = search rules in
    let middle = to_z w32 (of_z w32 c.middle-middle.result) in
    let is = subst (λ (it : ℤ). IsMidpoint c.args.sought.claim (range_spanned c.args.range) it)
    (sym (to_z-of_z w32 c.middle-middle.result fits)) c.middle-middle.ensures in
    let settled = rw c.in-Near.is at c.in_ok-settle.ensures in
    subst (λ (half : Range). IsHalving c.args.sheet.now c.args.season.now c.args.sought.claim
    c.args.sought.club new half
    × (numbers_past half < numbers_past (range_spanned c.args.range)) × (old.known ≡ old.known))
    (sym c.near_half.ensures)
    (near_step c.args.sheet.now c.args.season.now c.args.sought.claim c.args.sought.club
    c.requires.league.limits c.scores-scores.ensures.within old (range_spanned c.args.range)
    middle (key_parts c.with_part-key.result) c.settle.new.example c.requires.halving
    c.requires.several is c.with_part-key.ensures settled)

pub returns-in-Far : goal.returns-in-Far
returns-in-Far c =
    let old = c.args.reached.now in
    let new : Reached = record {
      key = old.key;
      known = old.known;
      example = c.settle.new.example;
    } in
    let fits : FitsSigned w32 c.middle-middle.result = search rules in
    let middle = to_z w32 (of_z w32 c.middle-middle.result) in
    let is = subst (λ (it : ℤ). IsMidpoint c.args.sought.claim (range_spanned c.args.range) it)
    (sym (to_z-of_z w32 c.middle-middle.result fits)) c.middle-middle.ensures in
    let settled = rw c.in-Far.is at c.in_ok-settle.ensures in
    subst (λ (half : Range). IsHalving c.args.sheet.now c.args.season.now c.args.sought.claim
    c.args.sought.club new half
    × (numbers_past half < numbers_past (range_spanned c.args.range)) × (old.known ≡ old.known))
    (sym c.far_half.ensures)
    (far_step c.args.sheet.now c.args.season.now c.args.sought.claim c.args.sought.club
    c.requires.league.limits c.scores-scores.ensures.within old (range_spanned c.args.range)
    middle (key_parts c.with_part-key.result) c.settle.new.example c.requires.halving
    c.requires.several is c.with_part-key.ensures
    settled.0 settled.1)

pub returns-in-Spent : goal.returns-in-Spent
returns-in-Spent c =
    let fits : FitsSigned w32 c.middle-middle.result = search rules in
    let middle = to_z w32 (of_z w32 c.middle-middle.result) in
    let is = subst (λ (it : ℤ). IsMidpoint c.args.sought.claim (range_spanned c.args.range) it)
    (sym (to_z-of_z w32 c.middle-middle.result fits)) c.middle-middle.ensures in
    let settled = rw c.in-Spent.is at c.in_ok-settle.ensures in
    record {
      key = key_parts c.with_part-key.result;
      question = c.halving-question.ensures.question;
      halfway =
          middle_on_the_way c.args.sheet.now c.args.season.now c.args.sought.claim
          c.args.sought.club c.requires.league.limits c.scores-scores.ensures.within
          c.args.reached.now (range_spanned c.args.range) middle (key_parts c.with_part-key.result)
          c.requires.halving c.requires.several is c.with_part-key.ensures;
      tree = settled;
    }

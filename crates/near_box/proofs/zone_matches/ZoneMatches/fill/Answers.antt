use Rattle.std.proofs.Common.{◌≡◌, ◌<◌, ◌+◌, not, length, get_or, None, subst, sym, ap, ◌∙◌, arith}
use Rattle.std.proofs.lemmas.List.{length-set}
use Rattle.league_core.specs.declared.sheet.Sheet.{Sheet}
use Rattle.league_core.specs.game.Results.{Results}
use Rattle.near_box.specs.declared.zone_matches.ZoneMatches.{ZoneMatches}
use Rattle.near_box.specs.inside.ZoneMatches.{HaveResults}
use Rattle.near_box.proofs.ZoneMatchLemmas.{AreFirstFilled, result_is_filled, open_is_filled}
use Rattle.near_box.proofs.ZoneMatchLemmas.{results_stay, no_result_there, result_there}
use Rattle.near_box.proofs.ZoneMatchLemmas.{all_filled_in}
use Rattle.near_box.proofs.zone_matches.ZoneMatches.fill.Goals as goal
use Rattle.near_box.proofs.zone_matches.ZoneMatches.fill.Goals.{then-is_none, else-is_none}

pub loop-i-preserved : goal.loop-i-preserved
loop-i-preserved c =
    let box = c.args.zone_box.now in
    let kept = c.loop-i.invariant in
    let i = c.loop-i.i in
    let scores = c.scores-scores.ensures.scores
    ∙ ap (λ (s : Results). s.scores) c.season.ensures.season in
    let few = c.sheet-sheet.ensures.limits.most_fixtures in
    let fixtures = ap (λ (s : Sheet). length s.fixtures) c.sheet-sheet.ensures.sheet in
    let many = c.season.ensures.of_sheet.scores in
    let long = ap length c.scores-scores.ensures.scores in
    let within : i < length box.season.scores =
    omega (arith, c.loop-i-test.true, ap length scores) in
    let inside : i < length c.loop-i.self.matches =
    omega (arith, kept.1, few, fixtures, many, long, c.loop-i-test.true) in
    let Next : ZoneMatches → Type 0 = λ self.
    (self.played ≡ c.args.self.now.played) × (length self.matches ≡ 600)
    × HaveResults box.season.scores self.matches × AreFirstFilled box (i + 1) self.matches in
    let here = ap (λ xs. get_or xs i None) scores in
    elim c.if-is_none.branch as (λ _. Next c.if-is_none.self) [
      | then-is_none w ↦
          let none = sym here ∙ no_result_there (get_or c.scores-scores.result.now i None)
          (c.is_none.ensures ∙ ap not w.if-is_none.true) in
          subst Next (sym w.self-is) (
            kept.0,
            length-set c.loop-i.self.matches i w.match_left.result ∙ kept.1,
            results_stay box.season.scores c.loop-i.self.matches i w.match_left.result none kept.2,
            open_is_filled box c.loop-i.self.matches i w.match_left.result inside
                (λ score. w.match_left.ensures score ∙ w.cell.ensures score) kept.3,
          )
      | else-is_none w ↦
          let one = result_there (get_or c.scores-scores.result.now i None)
          (c.is_none.ensures ∙ ap not w.if-is_none.false) in
          subst Next (sym w.self-is) (
            kept.0,
            kept.1,
            kept.2,
            result_is_filled box c.loop-i.self.matches i one.0 c.requires.has_finish within kept.2
                (sym here ∙ one.1) kept.3,
          )
    ]

pub returns-clause-filled : goal.returns-clause-filled
returns-clause-filled c =
    let box = c.args.zone_box.now in
    let scores = ap (λ (s : Results). length s.scores) c.season.ensures.season in
    let fixtures = ap (λ (s : Sheet). length s.fixtures) c.sheet-sheet.ensures.sheet in
    let long = ap length c.scores-scores.ensures.scores in
    let same = c.season.ensures.of_sheet.scores in
    all_filled_in box c.loop-i.self.matches (length box.sheet.fixtures) c.loop-i.i
    c.loop-i.invariant.1 (omega (arith, c.sheet-sheet.ensures.limits.most_fixtures, fixtures))
    (omega (arith, scores, same)) (omega (arith, c.loop-i-test.false, long, same))
    c.loop-i.invariant.3

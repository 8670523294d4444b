use mir.Syntax.{w64}
use mir.Val.{to_z, of_z}
use Rattle.std.proofs.Common.{◌≡◌, ◌+ℤ◌, length, ap, subst, sym, ◌∙◌, arith}
use Rattle.std.proofs.lemmas.Int.{ints}
use Rattle.league_core.specs.game.Results.{Results}
use Rattle.league_core.specs.game.Sheets.{IsWithinLimits}
use Rattle.flow_bound.specs.inside.Fixtures.{own_end, pairs_in}
use Rattle.flow_bound.proofs.FixtureLemmas.{tally_is}
use Rattle.flow_bound.proofs.PairsLemmas.{pairs_in-apart, pairs_in-sum}
use Rattle.flow_bound.proofs.tally.own_entries.Goals as goal

pub returns-clause-excess : goal.returns-clause-excess
returns-clause-excess c set =
    let box = c.args.zone_box.now in
    let level : to_z w64 (of_z w64 c.args.level) ≡ c.args.level =
    omega (arith, ints, c.requires.least, c.requires.most) in
    tally_is c.args.cut box.sheet box.season box.zone c.args.level c.own_excess_table.result
    (pairs_in c.args.cut box) set
    (λ club within. c.own_excess_table.ensures.entries club within
    ∙ ap (λ n. n +ℤ own_end c.args.cut box.sheet box.season box.zone club) level)
    (pairs_in-sum c.args.cut box set
    (subst IsWithinLimits c.sheet-sheet.ensures.sheet c.sheet-sheet.ensures.limits)
    c.requires.has_finish
    (sym (ap (λ (s : Results). length s.scores) c.season-season.ensures.season)
    ∙ c.season-season.ensures.of_sheet.scores))

pub returns-clause-apart : goal.returns-clause-apart
returns-clause-apart c =
    let box = c.args.zone_box.now in
    pairs_in-apart c.args.cut box
    (subst IsWithinLimits c.sheet-sheet.ensures.sheet c.sheet-sheet.ensures.limits)
    c.requires.has_finish
    (sym (ap (λ (s : Results). length s.scores) c.season-season.ensures.season)
    ∙ c.season-season.ensures.of_sheet.scores)

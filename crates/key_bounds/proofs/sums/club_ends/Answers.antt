-- Each fixture adds what its cell leaves the club.
use Rattle.std.proofs.Common.{◌≡◌, ◌<◌, [], length, get_or, sym, ap, ◌∙◌, arith}
use Rattle.league_core.specs.declared.sheet.Sheet.{Sheet}
use Rattle.league_core.specs.game.Results.{Results}
use Rattle.league_core.specs.search.Options.{options_in}
use Rattle.league_core.proofs.OptionLemmas.{length-options_from}
use Rattle.key_bounds.proofs.WalkLemmas.{so_far_none, so_far_more}
use Rattle.key_bounds.proofs.sums.club_ends.Goals as goal

pub loop-i-init : goal.loop-i-init
loop-i-init c =
    let box = c.args.zone_box.now in
    so_far_none _ (options_in box.sheet box.season box.zone) c.args.club

pub loop-i-preserved : goal.loop-i-preserved
loop-i-preserved c =
    let box = c.args.zone_box.now in
    let options = options_in box.sheet box.season box.zone in
    let fixtures = c.as_slice-fixtures.result.now in
    let i = c.loop-i.i in
    let many : length box.season.scores ≡ length box.sheet.fixtures =
    sym (ap (λ (s : Results). length s.scores) c.season.ensures.season)
    ∙ c.season.ensures.of_sheet.scores in
    let same : length fixtures ≡ length box.sheet.fixtures =
    ap length c.as_slice-fixtures.ensures
    ∙ ap (λ (s : Sheet). length s.fixtures) c.sheet.ensures.sheet in
    let long : length options ≡ length box.season.scores =
    length-options_from box.sheet.goal_limit box.zone 0 box.season.scores in
    let inside : i < length fixtures = omega (arith, c.loop-i-test.true) in
    so_far_more fixtures options c.args.club i (record { home = 0; away = 0 }) c.loop-i.sums
    c.with_match-sums.result inside (omega (arith, inside, many, same, long)) c.loop-i.invariant
    (c.with_match-sums.ensures (get_or options i []) c.cell.ensures)

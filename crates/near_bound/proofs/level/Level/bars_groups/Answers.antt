use Rattle.std.proofs.Common.{◌&&◌, nat_le, sym, ap, ◌∙◌}
use Rattle.std.proofs.lemmas.Bool.{le-leb, lt-leb}
use Rattle.std.specs.List.{list_all}
use Rattle.league_core.specs.game.ClubSets.{clubs_in}
use Rattle.league_core.specs.game.Sums.{has_club}
use Rattle.near_laws.specs.Groups.{groups_with}
use Rattle.near_laws.specs.Near.{has_wrong}
use Rattle.near_bound.specs.inside.Ties.{fits_of}
use Rattle.near_bound.proofs.AbleRivalLemmas.{none_held_not_wrong, all_groups_are, groups_are}
use Rattle.near_bound.proofs.AbleRivalLemmas.{groups_in, able_rivals_fit}
use Rattle.near_bound.proofs.LevelLemmas.{to_groups, from_groups}
use Rattle.near_bound.proofs.level.Level.bars_groups.Goals as goal

pub are_all_wrong-requires-clause-kept : goal.are_all_wrong-requires-clause-kept
are_all_wrong-requires-clause-kept c =
    let level = c.args.self.now in
    let made = c.new.ensures in
    to_groups c.new.result level.tie level.club level.rivals c.args.table.now made.tie made.club
    made.able c.requires.table

pub returns-then-is_empty-clause-value : goal.returns-then-is_empty-clause-value
returns-then-is_empty-clause-value c = λ zone is own.
    let level = c.args.self.now in
    sym (none_held_not_wrong level.tie level.rivals c.args.held level.club c.args.rival zone
    c.requires.level.able_rivals c.requires.held is
    (c.is_empty.ensures.0 c.if-is_empty.true))

pub returns-then-len-le-MOST_LOOSE-clause-value : goal.returns-then-len-le-MOST_LOOSE-clause-value
returns-then-len-le-MOST_LOOSE-clause-value c = λ zone is own.
    let level = c.args.self.now in
    let tie = level.tie in
    let made = c.new.ensures in
    let wrong = list_all (has_wrong tie.left.now.sheet.now (fits_of tie zone) zone level.club)
    (groups_with (has_club (clubs_in c.args.held)) (clubs_in level.rivals)) in
    c.are_all_wrong.ensures.value zone
    (groups_in c.new.result tie level.club level.rivals zone made.tie made.club made.able is
    (able_rivals_fit tie level.rivals level.club zone c.requires.level.able_rivals is own))
    ∙ groups_are c.new.result tie level.club level.rivals c.args.held zone made.tie made.club
    made.able made.held
    ∙ ap (λ b. b && wrong)
    (sym (le-leb c.len.result 8 c.if-len-le-MOST_LOOSE.true) ∙ ap (λ n. nat_le n 8) c.len.ensures)
    ∙ all_groups_are tie level.rivals c.args.held c.without.result level.club c.args.rival zone
    c.requires.level.able_rivals c.requires.held is c.without.ensures

pub returns-then-len-le-MOST_LOOSE-clause-table : goal.returns-then-len-le-MOST_LOOSE-clause-table
returns-then-len-le-MOST_LOOSE-clause-table c =
    let level = c.args.self.now in
    let made = c.new.ensures in
    from_groups c.new.result level.tie level.club level.rivals c.are_all_wrong.new.table made.tie
    made.club made.able c.are_all_wrong.ensures.kept

pub returns-else-len-le-MOST_LOOSE-clause-value : goal.returns-else-len-le-MOST_LOOSE-clause-value
returns-else-len-le-MOST_LOOSE-clause-value c = λ zone is own.
    let level = c.args.self.now in
    let tie = level.tie in
    let wrong = list_all (has_wrong tie.left.now.sheet.now (fits_of tie zone) zone level.club)
    (groups_with (has_club (clubs_in c.args.held)) (clubs_in level.rivals)) in
    let many = lt-leb c.len.result 8 c.if-len-le-MOST_LOOSE.false in
    many
    ∙ ap (λ b. b && wrong)
    (sym many ∙ ap (λ n. nat_le n 8) c.len.ensures)
    ∙ all_groups_are tie level.rivals c.args.held c.without.result level.club c.args.rival zone
    c.requires.level.able_rivals c.requires.held is c.without.ensures

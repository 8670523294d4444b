use Rattle.std.proofs.Common.{not, ◌&&◌, ◌==◌, nat_lt, length, sym, ◌∙◌}
use Rattle.std.proofs.lemmas.Bool.{and_parts, ltb-true}
use Rattle.league_core.specs.search.Zones.{is_marked}
use Rattle.branch_rules.proofs.RivalLemmas.{all_are_marked}
use Rattle.league_core.specs.game.ClubSets.{clubs_in}
use Rattle.branch_rules.proofs.rivals.unmarked_rival.Goals as goal

pub returns-then-is_empty-clause-none : goal.returns-then-is_empty-clause-none
returns-then-is_empty-clause-none c =
    all_are_marked c.args.zone_box.now.sheet c.args.question.now c.args.zone_box.now.zone
    (clubs_in c.unmarked_rivals-unmarked.result) c.unmarked_rivals-unmarked.ensures
    (c.is_empty.ensures.0 c.if-is_empty.true)

-- an unmarked rival is a club of the sheet
pub best_rival-requires-clause-in_range : goal.best_rival-requires-clause-in_range
best_rival-requires-clause-in_range c = λ rival has.
    let box = c.args.zone_box.now in
    let clubs = length box.sheet.clubs in
    let other = not (rival == c.args.question.now.club) in
    let both = and_parts (nat_lt rival clubs && other) (not (is_marked box.zone rival))
    (sym (c.unmarked_rivals-unmarked.ensures rival) ∙ has) in
    ltb-true rival clubs (and_parts (nat_lt rival clubs) other both.0).0

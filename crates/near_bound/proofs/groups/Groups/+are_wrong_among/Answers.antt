use Rattle.std.proofs.Common.{◌&&◌, ℕ, List, Option, filter, sym, ap}
use Rattle.std.proofs.Common.{◌∙◌, subst, arith}
use Rattle.std.specs.List.{list_all}
use Rattle.std.proofs.Math.Bool.{and-false, and-true}
use Rattle.league_core.specs.game.ClubSets.{clubs_in}
use Rattle.league_core.specs.game.Sums.{has_club}
use Rattle.league_core.proofs.ClubCountLemmas.{member_below, few_members}
use Rattle.near_laws.specs.Groups.{groups_with}
use Rattle.near_bound.specs.inside.GroupsLeft.{group_is_wrong, FindsWrong}
use Rattle.near_bound.proofs.AbleRivalLemmas.{groups_in}
use Rattle.near_bound.proofs.LevelLemmas.{to_groups, from_groups}
use Rattle.near_bound.proofs.GroupSetLemmas.{without_one}
use Rattle.near_bound.proofs.OnceLemmas.{is_not}
use Rattle.near_bound.proofs.MoreHeldLemmas.{is_loose, more_held, fewer_left, left_with}
use Rattle.near_bound.proofs.MoreHeldLemmas.{left_without, all_with_and_without, least_is_not}
use Rattle.near_bound.proofs.MoreHeldLemmas.{none_loose}
use Rattle.near_bound.proofs.WrongAnywayLemmas.{all_wrong_anyway}
use Rattle.near_bound.proofs.groups.Groups.+are_wrong_among.Goals as goal

pub is_wrong_by-requires-clause-rival : goal.is_wrong_by-requires-clause-rival
is_wrong_by-requires-clause-rival t c = c.requires.wrong.0

pub of-requires : goal.of-requires
of-requires t c = member_below c.args.self.now.held c.args.wrong c.requires.wrong.0

pub with_held-more-requires-clause-able : goal.with_held-more-requires-clause-able
with_held-more-requires-clause-able t c =
    c.requires.left.clubs_able c.worst_of-club.result (is_loose c.args.self.now.held c.args.clubs
    c.without-loose.result c.worst_of-club.result c.without-loose.ensures
    c.worst_of-club.ensures).0

pub wrong_among-requires-clause-kept : goal.wrong_among-requires-clause-kept
wrong_among-requires-clause-kept t c =
    let groups = c.args.self.now in
    let made = c.with_held-more.ensures in
    to_groups c.with_held-more.result groups.tie.now groups.club groups.able
    c.is_wrong_by.new.table made.tie made.club made.able c.is_wrong_by.ensures.kept

pub wrong_among-requires-clause-rivals : goal.wrong_among-requires-clause-rivals
wrong_among-requires-clause-rivals t c = λ x has. has

pub are_wrong_among-requires : goal.are_wrong_among-requires
are_wrong_among-requires t c =
    let groups = c.args.self.now in
    let more = c.with_held-more.result in
    let made = c.with_held-more.ensures in
    let club = c.worst_of-club.result in
    let loose = is_loose groups.held c.args.clubs c.without-loose.result club
    c.without-loose.ensures c.worst_of-club.ensures in
    let grows = more_held groups.held more.held club made.held loose.1 in
    let few = few_members more.held in (
      omega (arith, grows, few, c.decreases),
      (
        made.is,
        (
          c.wrong_among.ensures.kept,
          (
            left_with groups more c.args.clubs club c.requires.left loose.0 made.able made.held,
            subst (λ (r : Option ℕ). FindsWrong more (clubs_in more.held) r) c.in-Some.is
                c.wrong_among.ensures.finds,
          ),
        ),
      ),
    )

pub are_wrong_among-requires-then-are_wrong_among :
    goal.are_wrong_among-requires-then-are_wrong_among
are_wrong_among-requires-then-are_wrong_among t c =
    let groups = c.args.self.now in
    let more = c.with_held-more.result in
    let made = c.with_held-more.ensures in
    let club = c.worst_of-club.result in
    let loose = is_loose groups.held c.args.clubs c.without-loose.result club
    c.without-loose.ensures c.worst_of-club.ensures in
    let falls = fewer_left c.args.clubs c.single.result c.without.result club c.single.ensures
    c.without.ensures loose.0 in (
      omega (arith, falls, c.decreases),
      (
        c.requires.groups,
        (
          from_groups more groups.tie.now groups.club groups.able c.are_wrong_among.new.table
              made.tie made.club made.able c.are_wrong_among.ensures.kept,
          (
            left_without groups c.args.clubs c.single.result c.without.result club
                c.requires.left loose.1 c.single.ensures c.without.ensures,
            c.requires.wrong,
          ),
        ),
      ),
    )

pub returns-then-is_empty-clause-value : goal.returns-then-is_empty-clause-value
returns-then-is_empty-clause-value t c = λ zone are.
    sym (none_loose c.args.self.now c.args.clubs c.without-loose.result c.args.wrong zone
    c.requires.left c.without-loose.ensures (c.is_empty.ensures.0 c.if-is_empty.true)
    c.requires.wrong.0 (c.requires.wrong.1 zone are))

pub returns-then-is_wrong_by-clause-value : goal.returns-then-is_wrong_by-clause-value
returns-then-is_wrong_by-clause-value t c = λ zone are.
    sym (all_wrong_anyway c.args.self.now zone c.args.clubs c.args.wrong c.requires.left
    c.requires.wrong.0 (sym (c.is_wrong_by.ensures.value zone are) ∙ c.if-is_wrong_by.true))

pub returns-in-None-clause-value : goal.returns-in-None-clause-value
returns-in-None-clause-value t c = λ zone are.
    let groups = c.args.self.now in
    let more = c.with_held-more.result in
    let made = c.with_held-more.ensures in
    let club = c.worst_of-club.result in
    let loose = is_loose groups.held c.args.clubs c.without-loose.result club
    c.without-loose.ensures c.worst_of-club.ensures in
    let none = subst (λ (r : Option ℕ). FindsWrong more (clubs_in more.held) r) c.in-None.is
    c.wrong_among.ensures.finds in
    let there = groups_in more groups.tie.now groups.club groups.able zone made.tie made.club
    made.able are.tie_in are.fit in
    let without = list_all (group_is_wrong groups zone)
    (groups_with (has_club (clubs_in groups.held)) (filter (is_not club) (clubs_in c.args.clubs)))
    in
    sym (all_with_and_without groups more c.args.clubs club zone made.tie made.club made.held
    loose.1 loose.0
    ∙ ap (λ b. without && b) (least_is_not more c.args.clubs zone
    (left_with groups more c.args.clubs club c.requires.left loose.0 made.able made.held)
    (none zone there))
    ∙ and-false without)

pub returns-in-None-clause-kept : goal.returns-in-None-clause-kept
returns-in-None-clause-kept t c =
    let groups = c.args.self.now in
    let made = c.with_held-more.ensures in
    from_groups c.with_held-more.result groups.tie.now groups.club groups.able
    c.wrong_among.new.table made.tie made.club made.able c.wrong_among.ensures.kept

pub returns-then-are_wrong_among-clause-value : goal.returns-then-are_wrong_among-clause-value
returns-then-are_wrong_among-clause-value t c = λ zone are.
    let groups = c.args.self.now in
    let more = c.with_held-more.result in
    let made = c.with_held-more.ensures in
    let club = c.worst_of-club.result in
    let loose = is_loose groups.held c.args.clubs c.without-loose.result club
    c.without-loose.ensures c.worst_of-club.ensures in
    let there = groups_in more groups.tie.now groups.club groups.able zone made.tie made.club
    made.able are.tie_in are.fit in
    let without = λ (xs : List ℕ). list_all (group_is_wrong groups zone)
    (groups_with (has_club (clubs_in groups.held)) xs) in
    sym (all_with_and_without groups more c.args.clubs club zone made.tie made.club made.held
    loose.1 loose.0
    ∙ ap (λ b. without (filter (is_not club) (clubs_in c.args.clubs)) && b)
    (sym (c.are_wrong_among.ensures.value zone there) ∙ c.if-are_wrong_among.true)
    ∙ and-true (without (filter (is_not club) (clubs_in c.args.clubs)))
    ∙ ap without (sym (without_one c.args.clubs c.single.result c.without.result club
    c.single.ensures c.without.ensures))
    ∙ sym (c.are_wrong_among-then-are_wrong_among.ensures.value zone are))

pub returns-else-are_wrong_among-clause-value : goal.returns-else-are_wrong_among-clause-value
returns-else-are_wrong_among-clause-value t c = λ zone are.
    let groups = c.args.self.now in
    let more = c.with_held-more.result in
    let made = c.with_held-more.ensures in
    let club = c.worst_of-club.result in
    let loose = is_loose groups.held c.args.clubs c.without-loose.result club
    c.without-loose.ensures c.worst_of-club.ensures in
    let there = groups_in more groups.tie.now groups.club groups.able zone made.tie made.club
    made.able are.tie_in are.fit in
    let without = list_all (group_is_wrong groups zone)
    (groups_with (has_club (clubs_in groups.held)) (filter (is_not club) (clubs_in c.args.clubs)))
    in
    c.if-are_wrong_among.false
    ∙ sym (all_with_and_without groups more c.args.clubs club zone made.tie made.club made.held
    loose.1 loose.0
    ∙ ap (λ b. without && b)
    (sym (c.are_wrong_among.ensures.value zone there) ∙ c.if-are_wrong_among.false)
    ∙ and-false without)

pub returns-else-are_wrong_among-clause-kept : goal.returns-else-are_wrong_among-clause-kept
returns-else-are_wrong_among-clause-kept t c =
    let groups = c.args.self.now in
    let made = c.with_held-more.ensures in
    from_groups c.with_held-more.result groups.tie.now groups.club groups.able
    c.are_wrong_among.new.table made.tie made.club made.able c.are_wrong_among.ensures.kept

use Rattle.std.proofs.Common.{ℕ, sym, ◌∙◌, Option, subst}
use Rattle.league_core.specs.game.ClubSets.{clubs_in}
use Rattle.near_bound.specs.declared.groups.Groups.{Groups}
use Rattle.near_bound.specs.inside.GroupsLeft.{MayForm, IsGroups, FindsWrong}
use Rattle.near_bound.proofs.MoreHeldLemmas.{least_is_not}
use Rattle.near_bound.proofs.WrongAnywayLemmas.{all_wrong_anyway}
use Rattle.near_bound.proofs.groups.Groups.are_all_wrong.Goals as goal

all_left : (groups : Groups) → IsGroups groups → MayForm groups groups.able
all_left groups are = record { clubs_able = λ x has. has; clubs_held = are.held_in }

pub is_wrong_by-requires-clause-left : goal.is_wrong_by-requires-clause-left
is_wrong_by-requires-clause-left c = all_left c.args.self.now c.requires.groups

pub is_wrong_by-requires-clause-rival : goal.is_wrong_by-requires-clause-rival
is_wrong_by-requires-clause-rival c = c.requires.groups.first_held

pub wrong_among-requires-clause-rivals : goal.wrong_among-requires-clause-rivals
wrong_among-requires-clause-rivals c = λ x has. has

pub are_wrong_among-requires-clause-left : goal.are_wrong_among-requires-clause-left
are_wrong_among-requires-clause-left c = all_left c.args.self.now c.requires.groups

pub are_wrong_among-requires-clause-wrong : goal.are_wrong_among-requires-clause-wrong
are_wrong_among-requires-clause-wrong c =
    subst (λ (r : Option ℕ). FindsWrong c.args.self.now (clubs_in c.args.self.now.held) r)
    c.in-Some.is c.wrong_among.ensures.finds

pub returns-then-is_wrong_by-clause-value : goal.returns-then-is_wrong_by-clause-value
returns-then-is_wrong_by-clause-value c = λ zone are.
    let groups = c.args.self.now in
    sym (all_wrong_anyway groups zone groups.able groups.first
    (all_left groups c.requires.groups) c.requires.groups.first_held
    (sym (c.is_wrong_by.ensures.value zone are) ∙ c.if-is_wrong_by.true))

pub returns-in-None-clause-value : goal.returns-in-None-clause-value
returns-in-None-clause-value c = λ zone are.
    let groups = c.args.self.now in
    let none = subst (λ (r : Option ℕ). FindsWrong groups (clubs_in groups.held) r) c.in-None.is
    c.wrong_among.ensures.finds in
    sym (least_is_not groups groups.able zone (all_left groups c.requires.groups) (none zone are))

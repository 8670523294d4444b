use Rattle.std.proofs.Common.{not, ℕ, length, sym, ap, ◌∙◌, arith}
use Rattle.std.specs.List.{list_any}
use Rattle.std.proofs.lemmas.Bool.{and_parts}
use Rattle.league_core.specs.game.ClubSets.{clubs_in}
use Rattle.league_core.specs.game.Sums.{has_club}
use Rattle.near_bound.specs.inside.GroupsLeft.{wrong_in}
use Rattle.near_bound.proofs.GroupSetLemmas.{first_and_rest}
use Rattle.near_bound.proofs.WrongAnywayLemmas.{anyway_alone, finds_more}
use Rattle.near_bound.proofs.groups.Groups.+wrong_among.Goals as goal

pub is_wrong_by-requires-clause-left : goal.is_wrong_by-requires-clause-left
is_wrong_by-requires-clause-left t c = record {
  clubs_able = c.requires.groups.held_in;
  clubs_held = λ x has. has;
}

pub is_wrong_by-requires-clause-rival : goal.is_wrong_by-requires-clause-rival
is_wrong_by-requires-clause-rival t c =
    c.requires.rivals c.first_club-rival.result c.first_club-rival.ensures.member

pub wrong_among-requires : goal.wrong_among-requires
wrong_among-requires t c =
    let splits = first_and_rest c.args.rivals c.single.result c.without.result
    c.first_club-rival.result c.first_club-rival.ensures.member c.first_club-rival.ensures.least
    c.single.ensures c.without.ensures in (
      omega (arith, ap (length {A = ℕ}) splits, c.decreases),
      (
        c.requires.groups,
        (
          c.is_wrong_by.ensures.kept,
          λ x has. c.requires.rivals x (and_parts (has_club (clubs_in c.args.rivals) x)
              (not (has_club (clubs_in c.single.result) x))
              (sym (c.without.ensures x) ∙ has)).0,
        ),
      ),
    )

pub returns-then-is_empty-clause-finds : goal.returns-then-is_empty-clause-finds
returns-then-is_empty-clause-finds t c = λ zone are.
    ap (list_any (wrong_in c.args.self.now zone (clubs_in c.args.self.now.held)))
    (c.is_empty.ensures.0 c.if-is_empty.true)

pub returns-then-is_wrong_by-clause-finds : goal.returns-then-is_wrong_by-clause-finds
returns-then-is_wrong_by-clause-finds t c = (
  c.first_club-rival.ensures.member,
  λ zone are.
      sym (anyway_alone c.args.self.now zone c.first_club-rival.result)
      ∙ sym (c.is_wrong_by.ensures.value zone are) ∙ c.if-is_wrong_by.true,
)

pub returns-clause-finds : goal.returns-clause-finds
returns-clause-finds t c =
    let splits = first_and_rest c.args.rivals c.single.result c.without.result
    c.first_club-rival.result c.first_club-rival.ensures.member c.first_club-rival.ensures.least
    c.single.ensures c.without.ensures in
    finds_more c.args.self.now (clubs_in c.args.rivals) (clubs_in c.without.result)
    c.first_club-rival.result c.wrong_among.result splits
    (λ zone are. sym (anyway_alone c.args.self.now zone c.first_club-rival.result)
    ∙ sym (c.is_wrong_by.ensures.value zone are) ∙ c.if-is_wrong_by.false)
    c.wrong_among.ensures.finds

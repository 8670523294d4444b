use Rattle.std.proofs.Common.{◌≡◌, true, ◌||◌, ◌==◌, inl, inr, sym, ap, ◌∙◌}
use Rattle.std.proofs.lemmas.Bool.{or_cases, eqb-true}
use Rattle.league_core.specs.game.ClubSets.{clubs_in}
use Rattle.league_core.specs.game.Sums.{has_club}
use Rattle.league_core.proofs.ClubCountLemmas.{member_below}
use Rattle.near_bound.proofs.groups.Groups.with_held.Goals as goal

pub with_if-requires : goal.with_if-requires
with_if-requires c = member_below c.args.self.now.able c.args.club c.requires.able

pub returns-clause-is : goal.returns-clause-is
returns-clause-is c =
    let groups = c.args.self.now in
    record {
      tie_is = c.requires.groups.tie_is;
      rivals = c.requires.groups.rivals;
      held_in = λ x there.
          elim (or_cases (has_club (clubs_in groups.held) x) (c.args.club == x)
          (sym (c.with_if.ensures x) ∙ there)) as
          (λ _. has_club (clubs_in groups.able) x ≡ true) [
            | inl old ↦ c.requires.groups.held_in x old
            | inr new ↦
                ap (has_club (clubs_in groups.able)) (sym (eqb-true c.args.club x new))
                ∙ c.requires.able
          ];
      first_held =
          c.with_if.ensures groups.first
          ∙ ap (λ b. b || (c.args.club == groups.first)) c.requires.groups.first_held;
    }

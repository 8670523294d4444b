use Rattle.std.proofs.Common.{◌≡◌, ◌⊎◌, inl, inr, ◌<◌, ◌||◌, ◌&&◌, ◌==◌, Bool, true, false}
use Rattle.std.proofs.Common.{refl, sym, ap, subst, ◌∙◌}
use Rattle.std.proofs.lemmas.Bool.{eq-eqb, eqb-true, or_right, cases_Bool}
use Rattle.league_core.specs.game.Sums.{has_club}
use Rattle.league_core.specs.game.ClubSets.{clubs_in}
use Rattle.tie_bound.proofs.selected.with_club.Goals as goal

pub returns-then-club-clubs-clause-kept : goal.returns-then-club-clubs-clause-kept
returns-then-club-clubs-clause-kept c other has =
    c.with_if.ensures other ∙ ap (λ b. b || (true && (c.args.club == other))) has

pub returns-then-club-clubs-clause-club : goal.returns-then-club-clubs-clause-club
returns-then-club-clubs-clause-club c low =
    c.with_if.ensures c.args.club
    ∙ or_right (has_club (clubs_in c.args.group) c.args.club) (true && (c.args.club == c.args.club))
    (eq-eqb c.args.club c.args.club refl)

pub returns-then-club-clubs-clause-in_range : goal.returns-then-club-clubs-clause-in_range
returns-then-club-clubs-clause-in_range c member has =
    at (cases_Bool (has_club (clubs_in c.args.group) member))
  where
    other : (b : Bool) → (has_club (clubs_in c.args.group) member || b) ≡ true
        → has_club (clubs_in c.args.group) member ≡ false → b ≡ true
    other b is out = sym (ap (λ a. a || b) out) ∙ is

    at : (has_club (clubs_in c.args.group) member ≡ true)
        ⊎ (has_club (clubs_in c.args.group) member ≡ false) → member < c.args.clubs
    at (inl inside) = c.requires.in_range member inside
    at (inr outside) =
        subst (λ x. x < c.args.clubs)
        (eqb-true c.args.club member
        (other (true && (c.args.club == member)) (sym (c.with_if.ensures member) ∙ has) outside))
        c.if-club-clubs.true

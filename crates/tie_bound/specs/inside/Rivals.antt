-- The rivals of a club as sets: all of them and those that are marked; and what refutes a question
-- by who is above the club and who is below it.
use Rattle.std.specs.Prelude.{◌≡◌, ℕ, Bool, ◌&&◌, ◌||◌}
use Rattle.std.specs.List.{list_any}
use Rattle.league_core.specs.declared.question.Question.{Question}
use Rattle.league_core.specs.game.ClubSets.{clubs_in}
use Rattle.league_core.specs.search.Zones.{rivals_of, marked_before, marked_after}
use Rattle.league_core.specs.search.Reasons.{too_many, is_surely_above, is_surely_below}
use Rattle.score_box.specs.inside.Boxes.{IsSetOf}
use Rattle.score_box.specs.inside.ZoneBoxViews.{ZoneBoxView}
use Rattle.tie_bound.specs.declared.rivals.Rivals.{Rivals}

-- these sets are those of the club's rivals in the box
pub record AreRivalsIn (box : ZoneBoxView) (club : ℕ) (rivals : Rivals) : Type 0 where
  pub all : clubs_in rivals.all ≡ rivals_of box.sheet club
  pub before : IsSetOf rivals.before (marked_before box.zone)
  pub after : IsSetOf rivals.after (marked_after box.zone)

-- with these clubs above and those below, too many rivals are on the other side
abbrev pub are_too_many_with : ZoneBoxView → Question → (ℕ → Bool) → (ℕ → Bool) → Bool
are_too_many_with box question above below =
    too_many box.sheet question (λ rival. marked_before box.zone rival || above rival)
    (λ rival. marked_after box.zone rival || below rival) question.claim

-- a rival that is above is marked after the club, or one that is below before it
abbrev pub is_wrong_with : ZoneBoxView → (ℕ → Bool) → (ℕ → Bool) → ℕ → Bool
is_wrong_with box above below rival =
    (marked_after box.zone rival && above rival) || (marked_before box.zone rival && below rival)

-- either refutes the question
abbrev pub refutes_with : ZoneBoxView → Question → (ℕ → Bool) → (ℕ → Bool) → Bool
refutes_with box question above below =
    are_too_many_with box question above below
    || list_any (is_wrong_with box above below) (rivals_of box.sheet question.club)

-- the sure order refutes it
abbrev pub refutes_surely : ZoneBoxView → Question → Bool
refutes_surely box question =
    refutes_with box question (is_surely_above box.sheet box.season question box.zone)
    (is_surely_below box.sheet box.season question box.zone)

-- A table of points: nothing at first, and then what one match after the other leaves its clubs.
use Rattle.std.proofs.Common.{◌≡◌, ◌≢◌, ℕ, ◌<◌, ◌≤◌, ◌⊎◌, inl, inr, pos, List, length}
use Rattle.std.proofs.Common.{set, replicate, sym, ◌∙◌, subst, arith, ◌+◌, ◌*◌}
use Rattle.std.proofs.lemmas.Bool.{cases_eq, cases_lt}
use Rattle.std.proofs.lemmas.Int.{ints}
use Rattle.std.proofs.lemmas.List.{get_or-set_same, get_or-set_other, get_or_past, length-set}
use Rattle.std.proofs.lemmas.List.{get_or-replicate, length-replicate}
use Rattle.league_core.specs.declared.sheet.Fixture.{Fixture}
use Rattle.near_bound.specs.declared.match_left.MatchLeft.{MatchLeft}
use Rattle.near_bound.specs.declared.points.PointEnds.{PointEnds}
use Rattle.near_bound.specs.inside.AllEnds.{AreEndsAt, AreBoth, AddsAtBoth}
use Rattle.near_bound.specs.inside.Points.{ends_listed, AreEndsWithin}
use Rattle.near_bound.proofs.PointLemmas.{not_there}

-- an empty table has nothing for any club
pub nothing_listed : (club : ℕ)
    → ends_listed (replicate 32 (record { least = pos 0; most = pos 0 })) club
    ≡ record { least = pos 0; most = pos 0 }
nothing_listed club =
    elim (cases_lt club 32) as (λ _.
    ends_listed (replicate 32 (record { least = pos 0; most = pos 0 })) club
    ≡ record { least = pos 0; most = pos 0 }) [
      | inl within ↦ get_or-replicate 32 club (record { least = pos 0; most = pos 0 })
          (record { least = pos 0; most = pos 0 }) within
      | inr past ↦ get_or_past (replicate 32 (record { least = pos 0; most = pos 0 })) club
          (record { least = pos 0; most = pos 0 })
          (omega (arith, past, length-replicate {A = PointEnds}))
    ]

-- and that is within no points
pub nothing_within : (club : ℕ)
    → AreEndsWithin (pos 0) (ends_listed (replicate 32 (record { least = pos 0; most = pos 0 }))
    club)
nothing_within club =
    subst (λ (e : PointEnds). AreEndsWithin (pos 0) e) (sym (nothing_listed club)) (record {
      least = omega (arith, ints);
      in_order = omega (arith, ints);
      most = omega (arith, ints);
    })

-- one match more
pub more_within : (count : ℕ) (old here new : PointEnds) → AreEndsWithin (pos (3 * count)) old
    → AreEndsWithin (pos 3) here → AreBoth old here new
    → AreEndsWithin (pos (3 * (count + 1))) new
more_within count old here new near within both = record {
  least = omega (arith, ints, near.least, within.least, both.least);
  in_order = omega (arith, ints, near.in_order, within.in_order, both.least, both.most);
  most = omega (arith, ints, near.most, within.most, both.most);
}

pub wider_within : (bound more : ℕ) (ends : PointEnds) → bound ≤ more
    → AreEndsWithin (pos bound) ends → AreEndsWithin (pos more) ends
wider_within bound more ends less near = record {
  least = near.least;
  in_order = near.in_order;
  most = omega (arith, ints, less, near.most);
}

-- a match is added at its two clubs
pub adds_match : (left : MatchLeft) (match : Fixture) (old : List PointEnds)
    (home away at_home at_away : PointEnds) → length old ≡ 32 → match.home < 32
    → match.away < 32 → match.home ≢ match.away → AreEndsAt left match match.home at_home
    → AreEndsAt left match match.away at_away
    → AreBoth (ends_listed old match.home) at_home home
    → AreBoth (ends_listed old match.away) at_away away
    → AddsAtBoth left match old (set (set old match.home home) match.away away)
adds_match left match old home away at_home at_away long home_in away_in apart is_home is_away
    both_home both_away club =
    by_away (cases_eq club match.away)
  where
    new : List PointEnds
    new = set (set old match.home home) match.away away

    none : PointEnds
    none = record { least = pos 0; most = pos 0 }

    Added : ℕ → Type 0
    Added x = (here : PointEnds) × AreEndsAt left match x here
        × AreBoth (ends_listed old x) here (ends_listed new x)

    away_is : away ≡ ends_listed new match.away
    away_is =
        sym (get_or-set_same (set old match.home home) match.away away none
        (omega (arith, length-set old match.home home, long, away_in)))

    home_is : home ≡ ends_listed new match.home
    home_is =
        sym (get_or-set_other (set old match.home home) match.away match.home away none apart
        ∙ get_or-set_same old match.home home none (omega (arith, long, home_in)))

    other_is : (x : ℕ) → x ≢ match.home → x ≢ match.away
        → ends_listed old x ≡ ends_listed new x
    other_is x not_home not_away =
        sym (get_or-set_other (set old match.home home) match.away x away none not_away
        ∙ get_or-set_other old match.home x home none not_home)

    by_home : (x : ℕ) → x ≢ match.away → (x ≡ match.home) ⊎ (x ≢ match.home) → Added x
    by_home x not_away (inl same) =
        subst Added (sym same) (
          at_home,
          is_home,
          subst (λ (e : PointEnds). AreBoth (ends_listed old match.home) at_home e)
              home_is both_home,
        )
    by_home x not_away (inr not_home) = (
      none,
      record {
        within = record {
          least = omega (arith, ints);
          in_order = omega (arith, ints);
          most = omega (arith, ints);
        };
        range = λ options left_of. not_there match x options (λ e. not_home (sym e))
            (λ e. not_away (sym e));
      },
      subst (λ (e : PointEnds). AreBoth (ends_listed old x) none e) (other_is x not_home not_away)
          (record { least = omega (arith, ints); most = omega (arith, ints) }),
    )

    by_away : (club ≡ match.away) ⊎ (club ≢ match.away) → Added club
    by_away (inl same) =
        subst Added (sym same) (
          at_away,
          is_away,
          subst (λ (e : PointEnds). AreBoth (ends_listed old match.away) at_away e)
              away_is both_away,
        )
    by_away (inr not_away) = by_home club not_away (cases_eq club match.home)

-- A side of a club is decided: by the question of its place; else at its turning key, by how many
-- other groups can have a candidate on the far side.
use Rattle.std.proofs.Common.{◌≡◌, ◌⊎◌, ◌<◌, ℕ, ◌+◌, ℤ, List, [], ◌∷◌, ◌++◌, refl, subst, inl, inr}
use Rattle.std.proofs.Common.{arith}
use Rattle.std.proofs.lemmas.Option.{slice_get_within, get_or_from_slice_get}
use Rattle.league_core.specs.declared.question.Claim.{Claim}
use Rattle.league_core.specs.declared.question.Claim.TheVariants.{Inside, Outside}
use Rattle.league_core.specs.game.Results.{Results}
use Rattle.cup_sheet.specs.declared.cup.Cup.{Cup}
use Rattle.cup_sheet.specs.CupLimits.{direct_places}
use Rattle.cup_sheet.specs.Cups.{IsCup, AreSeasonsOf, clubs_together}
use Rattle.cup_sheet.specs.CupAnswers.{HasCupExample, IsClubOf, listed_groups, shown_groups}
use Rattle.cup_sheet.specs.GroupQuestions.{GroupQuestion}
use Rattle.cup_sheet.specs.JointFinishes.{states_of}
use Rattle.cup_sheet.specs.KeyBounds.{nearer_kind, others_kind, place_kind, IsTurningKey}
use Rattle.cup_laws.specs.inside.CupTruths.{AreCupResults}
use Rattle.cup_laws.specs.inside.GroupWays.{CanBeOnSide, CanEndInGroup, CanHaveCandidate}
use Rattle.cup_laws.proofs.WayBackLemmas.{groups_make_sides}
use Rattle.cup_text.specs.declared.cup_line.CupLine.{CupLine}
use Rattle.cup_text.specs.declared.cup_line.CupLine.TheVariants as line
use Rattle.cup_text.specs.CupItems.{IsListedText, IsRefutedAtTurn}
use Rattle.turning_keys.proofs.ReachedLemmas.{none_before}
use Rattle.turning_keys.proofs.TurningKeyLemmas.{turning_key_exists}
use Rattle.cup_decided.proofs.EitherKindLemmas.{HasRising, lines_of_all}
use Rattle.cup_decided.proofs.CupGroupLemmas.{PlaysIn, group_with_club}
use Rattle.cup_decided.proofs.NoneBeyondLemmas.{none_beyond_far, candidate_at_key}
use Rattle.cup_decided.proofs.AskedGroupLemmas.{HasListedText, HasTreeText, asked_in_cup}
use Rattle.cup_decided.proofs.AskedGroupLemmas.{far_groups_decided, group_played}

-- at least one group is to be shown
some_shown : (cup : Cup) (claim : Claim) → IsCup cup → 0 < shown_groups cup claim
some_shown cup Outside is_cup = omega (arith, is_cup.least_quota)
some_shown cup Inside is_cup = omega (arith, is_cup.most_quota)

module _ (cup : Cup) (seasons : List Results) (claim : Claim) (club : ℕ) (is_cup : IsCup cup)
    (each : AreSeasonsOf cup.groups seasons) (results : AreCupResults seasons)
    (plays : PlaysIn (states_of cup seasons) club) where
  -- one of both
  abbrev IsSideDecided : Type 0
  IsSideDecided =
      HasCupExample cup seasons claim club
      ⊎ ((lines : List CupLine) × IsRefutedAtTurn cup seasons claim club lines)

  of_club_there : IsClubOf cup seasons club plays.mine plays.own
  of_club_there = record {
    group_of = (
      plays.number,
      slice_get_within (states_of cup seasons) plays.number plays.mine plays.there,
      get_or_from_slice_get (states_of cup seasons) plays.number plays.mine plays.mine
          plays.there,
    );
    own_club = plays.own_club;
    number = plays.of_club;
  }

  -- where groups can end so by themselves, the side is shown
  shown_by_groups : CanBeOnSide cup seasons claim plays.mine plays.own → IsSideDecided
  shown_by_groups can =
      let ends = groups_make_sides cup seasons claim club plays.mine plays.own is_cup each results
      of_club_there can in
      inl (ends.0, ends.1, record { joint = ends.2; on_side = ends.3 })

  -- the side turns for the club on this key
  abbrev IsOwnTurn : List ℤ → Type 0
  IsOwnTurn key =
      IsTurningKey direct_places plays.mine.sheet plays.mine.results claim plays.own key

  module _ (key : List ℤ) (turning : IsOwnTurn key) where
    -- with candidates of enough other groups the club is on the side with this key: at the key
    -- beyond all no group has one
    shown_by_others : HasRising
        (CanHaveCandidate cup seasons (others_kind claim) plays.mine key) 0
        (shown_groups cup claim) → IsSideDecided
    shown_by_others others =
        elim turning as (λ _. IsSideDecided) [
          | inl nearest ↦ shown_by_groups (inr (
            key,
            candidate_at_key claim plays.mine.sheet plays.mine.results plays.own key nearest.0,
            others.0,
            others.1,
            others.2,
            others.3,
          ))
          | inr none ↦
              let some = others.3 0 0 (omega (arith, others.1, some_shown cup claim is_cup)) in
              let other = group_played cup seasons is_cup each results _ some.0 some.1 in
              absurd (none_beyond_far claim some.0.sheet some.0.results some.3
              other.league.limits other.results
              (subst (λ (it : List ℤ). CanEndInGroup some.0
              (record { kind = others_kind claim; club = some.3; key = it })) none.1 some.5))
        ]

    -- no nearer key has an example
    by_nearer : HasTreeText cup seasons is_cup each results plays.number
        (record { kind = nearer_kind claim; club = plays.own; key = key })
    by_nearer =
        let question : GroupQuestion =
        record { kind = nearer_kind claim; club = plays.own; key = key } in
        elim (asked_in_cup cup seasons is_cup each results plays.number plays.mine question
        plays.there plays.own_club)
        as (λ _. HasTreeText cup seasons is_cup each results plays.number question) [
          | inl can ↦ absurd (none_before plays.mine.sheet plays.mine.results plays.own claim key
              (record { finish = can.0; lots = can.1 }) turning can.2)
          | inr lines ↦ lines
        ]

    -- with too few of them lines refute it
    refuted_by_others : HasTreeText cup seasons is_cup each results plays.number
        (record { kind = place_kind claim; club = plays.own; key = [] })
        → HasRising (HasListedText cup seasons is_cup each results claim key plays.number
        plays.mine plays.there) 0 (listed_groups cup claim) → IsSideDecided
    refuted_by_others by_place listed =
        let by_key = by_nearer in
        let others = lines_of_all (IsListedText cup seasons claim plays.mine key) listed.0
        listed.3 in
        inr (
          line.KeyLine (record { parts = key }) ∷ (line.Groups (record { list = listed.0 })
              ∷ (by_place.0 ++ (by_key.0 ++ others.0))),
          (
            key,
            (plays.mine, plays.own, of_club_there, turning),
            record {
              number = plays.number;
              mine = plays.mine;
              own = plays.own;
              there = plays.there;
              own_club = plays.own_club;
              of_club = plays.of_club;
              listed = listed.0;
              count = listed.1;
              rising = listed.2;
              by_place = by_place.0;
              place_tree = by_place.1;
              by_key = by_key.0;
              key_tree = by_key.1;
              others = others.0;
              each = others.1;
              text = refl;
            },
          ),
        )

  -- the question of the place first
  decided_in_group : IsSideDecided
  decided_in_group =
      let found = turning_key_exists plays.mine.sheet plays.mine.results plays.own plays.own_club
      claim in
      elim (asked_in_cup cup seasons is_cup each results plays.number plays.mine
      (record { kind = place_kind claim; club = plays.own; key = [] }) plays.there plays.own_club)
      as (λ _. IsSideDecided) [
        | inl can ↦ shown_by_groups (inl can)
        | inr by_place ↦ elim (far_groups_decided cup seasons is_cup each results claim found.0
            plays.number plays.mine plays.there) as (λ _. IsSideDecided) [
              | inl others ↦ shown_by_others found.0 found.1 others
              | inr listed ↦ refuted_by_others found.0 found.1 by_place listed
            ]
      ]

pub side_decided : (cup : Cup) (seasons : List Results) (claim : Claim) (club : ℕ) → IsCup cup
    → AreSeasonsOf cup.groups seasons → AreCupResults seasons → club < clubs_together cup.groups
    → HasCupExample cup seasons claim club
    ⊎ ((lines : List CupLine) × IsRefutedAtTurn cup seasons claim club lines)
side_decided cup seasons claim club is_cup each results within =
    let same : 0 + club ≡ club = omega arith in
    decided_in_group cup seasons claim club is_cup each results
    (subst (PlaysIn (states_of cup seasons)) same
    (group_with_club 0 cup.groups seasons club each within))

-- A side by the place alone: the club's group, and its end among those of the others.
use Rattle.std.proofs.Common.{◌≡◌, ◌<◌, inl, ℕ, List, length, sym, ap, ◌∙◌}
use Rattle.std.proofs.Common.{arith, slice_index_or}
use Rattle.std.specs.Prelude.{slice_set}
use Rattle.std.proofs.lemmas.Option.{same_Some, slice_get_within}
use Rattle.league_core.specs.declared.sheet.Sheet.{Sheet}
use Rattle.league_core.specs.declared.question.Claim.{Claim}
use Rattle.league_core.specs.game.Results.{Results}
use Rattle.league_core.proofs.plain.Slots.{found_at, slice_get-set_same}
use Rattle.tree_arena.specs.declared.example.Example.{Example}
use Rattle.cup_sheet.specs.declared.cup.Cup.{Cup}
use Rattle.cup_sheet.specs.CupAnswers.{IsCupExample}
use Rattle.cup_laws.proofs.GroupEndLemmas.{get_there}
use Rattle.runners_up.specs.declared.joint.JointFinish.{JointFinish}
use Rattle.cup_groups.specs.declared.seat.ClubSeat.{ClubSeat}
use Rattle.cup_groups.specs.inside.ClubSeats.{IsSeatIn, IsSeatOf}
use Rattle.runners_up.specs.inside.JointCalls.{IsJointEnd}
use Rattle.runners_up.specs.inside.JointEnds.{AreGroupEnds, group_finishes}
use Rattle.runners_up.specs.inside.SidesByPlace.{IsOwnGroup, IsPlaceEnd}
use Rattle.runners_up.proofs.GroupSurveyLemmas.{end_changed, ends_count}

-- the group that is read is the club's
pub own_group : (cup : Cup) (seasons : List Results) (seat : ClubSeat) (sheet : Sheet)
    (season : Results) → IsSeatIn cup.groups seat → length seasons ≡ length cup.groups
    → sheet ≡ slice_index_or cup.groups seat.group sheet
    → season ≡ slice_index_or seasons seat.group season
    → IsOwnGroup cup seasons seat sheet season
own_group cup seasons seat sheet season seated many is season_is =
    let inside = slice_get_within cup.groups seat.group seated.sheet seated.there in
    record {
      there = found_at cup.groups seat.group sheet inside is;
      season_there = found_at seasons seat.group season (omega (arith, inside, many)) season_is;
    }

-- the club is one of that group
pub own_inside : (cup : Cup) (seasons : List Results) (seat : ClubSeat) (sheet : Sheet)
    (season : Results) → IsSeatIn cup.groups seat → IsOwnGroup cup seasons seat sheet season
    → seat.own < length sheet.clubs
own_inside cup seasons seat sheet season seated own =
    let same = same_Some seated.sheet sheet (sym seated.there ∙ own.there) in
    let count = seated.count ∙ ap (λ (it : Sheet). length it.clubs) same in
    omega (arith, seated.inside, count)

-- the club's end among the others
pub place_end_set : (cup : Cup) (seasons : List Results) (seat : ClubSeat) (claim : Claim)
    (own : Example) (ends : List Example) → IsPlaceEnd cup seasons seat claim own
    → AreGroupEnds cup.groups seasons ends
    → AreGroupEnds cup.groups seasons (slice_set ends seat.group own)
place_end_set cup seasons seat claim own ends is each =
    end_changed cup.groups seasons ends seat.group is.0 is.1 own is.2.there is.2.season_there each
    (record { is_finish = is.3.is_finish; is_drawn = is.3.is_drawn })

pub place_end_within : (cup : Cup) (seasons : List Results) (seat : ClubSeat)
    (ends : List Example) → IsSeatIn cup.groups seat → AreGroupEnds cup.groups seasons ends
    → seat.group < length ends
place_end_within cup seasons seat ends seated each =
    omega (
      arith,
      slice_get_within cup.groups seat.group seated.sheet seated.there,
      ends_count cup.groups seasons ends each,
    )

-- it shows the side
pub place_shown : (cup : Cup) (seasons : List Results) (seat : ClubSeat) (claim : Claim)
    (own : Example) (ends : List Example) (joint : JointFinish) → IsSeatIn cup.groups seat
    → IsPlaceEnd cup seasons seat claim own → AreGroupEnds cup.groups seasons ends
    → IsJointEnd cup (slice_set ends seat.group own) seat claim joint
    → (club : ℕ) → IsSeatOf cup club seat
    → IsCupExample cup seasons claim club (group_finishes joint.ends) joint.lots
place_shown cup seasons seat claim own ends joint seated is each joined club at =
    let inside = place_end_within cup seasons seat ends seated each in
    joined.shows seasons club is.0 own (place_end_set cup seasons seat claim own ends is each) at
    is.2.there
    (slice_get-set_same ends seat.group (slice_index_or ends seat.group own) own
    (get_there ends seat.group own inside)) (inl is.3.holds)

-- A side at a key, from what all other groups come to.
use Rattle.std.proofs.Common.{◌≡◌, ◌<◌, ◌≤◌, inr, ℕ, ℤ, List, length, Some}
use Rattle.std.proofs.Common.{sym, ap, ◌∙◌, subst, arith, slice_index_or}
use Rattle.std.specs.Prelude.{All, slice_get, slice_set}
use Rattle.std.proofs.lemmas.Option.{slice_get_within}
use Rattle.league_core.specs.declared.question.Claim.{Claim}
use Rattle.league_core.specs.game.Results.{Results}
use Rattle.league_core.specs.search.Keys.{key_of}
use Rattle.league_core.proofs.plain.Slots.{slice_get-set_same}
use Rattle.tree_arena.specs.declared.example.Example.{Example}
use Rattle.cup_sheet.specs.declared.cup.Cup.{Cup}
use Rattle.cup_sheet.specs.CupAnswers.{IsCupExample}
use Rattle.cup_laws.proofs.GroupEndLemmas.{get_there}
use Rattle.runners_up.specs.declared.joint.JointFinish.{JointFinish}
use Rattle.cup_groups.specs.declared.seat.ClubSeat.{ClubSeat}
use Rattle.runners_up.specs.declared.survey.GroupSurvey.{GroupSurvey}
use Rattle.cup_groups.specs.inside.ClubSeats.{IsSeatOf}
use Rattle.runners_up.specs.inside.GroupSurveys.{IsSurveyed}
use Rattle.runners_up.specs.inside.JointCalls.{IsJointEnd}
use Rattle.runners_up.specs.inside.JointEnds.{AreGroupEnds, IsShownGroup, IsSideShown}
use Rattle.cup_sheet.specs.CupAnswers.{shown_groups}
use Rattle.runners_up.specs.inside.JointEnds.{group_finishes}
use Rattle.runners_up.specs.inside.SidesAtKeys.{IsOwnEnd}
use Rattle.runners_up.proofs.GroupSurveyLemmas.{end_changed, ends_count}

-- the club's own end among the others
pub own_end_set : (cup : Cup) (seasons : List Results) (seat : ClubSeat) (key : List ℤ)
    (own : Example) (ends : List Example) (mine : ℕ) → mine ≡ seat.group
    → IsOwnEnd cup seasons seat key own → AreGroupEnds cup.groups seasons ends
    → AreGroupEnds cup.groups seasons (slice_set ends mine own)
own_end_set cup seasons seat key own ends mine at is each =
    subst (λ (n : ℕ). AreGroupEnds cup.groups seasons (slice_set ends n own)) (sym at)
    (end_changed cup.groups seasons ends seat.group is.sheet is.season own is.there is.season_there
    each is.is_end)

-- the number of the club's group is one of them
pub own_end_within : (cup : Cup) (seasons : List Results) (seat : ClubSeat) (key : List ℤ)
    (own : Example) (ends : List Example) (mine : ℕ) → mine ≡ seat.group
    → IsOwnEnd cup seasons seat key own → AreGroupEnds cup.groups seasons ends
    → mine < length ends
own_end_within cup seasons seat key own ends mine at is each =
    omega (
      arith,
      at,
      slice_get_within cup.groups seat.group is.sheet is.there,
      ends_count cup.groups seasons ends each,
    )

-- as many groups as are needed show the side
pub side_shown : (cup : Cup) (seasons : List Results) (seat : ClubSeat) (claim : Claim)
    (key : List ℤ) (own : Example) (ends : List Example) (mine count : ℕ) (survey : GroupSurvey)
    (joint : JointFinish) → mine ≡ seat.group → IsOwnEnd cup seasons seat key own
    → AreGroupEnds cup.groups seasons ends
    → IsSurveyed cup seasons claim key mine (slice_set ends mine own) count survey
    → shown_groups cup claim ≤ length survey.shown.items
    → IsJointEnd cup survey.ends.items seat claim joint → (club : ℕ) → IsSeatOf cup club seat
    → IsCupExample cup seasons claim club (group_finishes joint.ends) joint.lots
side_shown cup seasons seat claim key own ends mine count survey joint at is each known enough
    joined club seated =
    let all = survey.ends.items in
    let shown = survey.shown.items in
    let inside = own_end_within cup seasons seat key own ends mine at is each in
    let there : slice_get all mine ≡ Some own = known.own
    ∙ slice_get-set_same ends mine (slice_index_or ends mine own) own
    (get_there ends mine own inside) in
    let others : All (IsShownGroup cup all claim seat.group (key_of is.sheet own.finish seat.own))
    shown = subst (λ (n : ℕ). All (IsShownGroup cup all claim n
    (key_of is.sheet own.finish seat.own)) shown) at
    (subst (λ (it : List ℤ). All (IsShownGroup cup all claim mine it) shown) (sym is.with_key)
    known.shown) in
    let side : IsSideShown cup all claim seat.group seat.own is.sheet own = inr (record {
      candidate = is.candidate;
      shown = shown;
      count = enough;
      rising = known.shown_rise.rising;
      others = others;
    }) in
    joined.shows seasons club is.sheet own known.each seated is.there
    (ap (slice_get all) (sym at) ∙ there) side

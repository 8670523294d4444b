-- What the tests say of a zone's matches and marks is so of the box.
use Rattle.std.proofs.Common.{◌≡◌, ℕ, ℤ, true, false, ◌&&◌, ◌||◌, List, [], length, Option}
use Rattle.std.proofs.Common.{Some, None, Bool, sym, ap, ◌∙◌, subst, arith}
use Rattle.std.proofs.lemmas.Bool.{false≢true}
use Rattle.league_core.specs.declared.club_set.ClubSet.{ClubSet}
use Rattle.league_core.specs.declared.sheet.Sheet.{Sheet}
use Rattle.league_core.specs.declared.question.Question.{Question}
use Rattle.league_core.specs.declared.season.Score.{Score}
use Rattle.league_core.specs.declared.zone.Literal.{Literal}
use Rattle.league_core.specs.game.ClubSets.{clubs_in}
use Rattle.league_core.specs.game.Results.{Results}
use Rattle.league_core.specs.game.Seasons.{IsSeasonOf}
use Rattle.league_core.specs.game.Sums.{has_club}
use Rattle.league_core.specs.search.Options.{options_in, has_finish}
use Rattle.league_core.specs.search.PointRanges.{own_most, own_least}
use Rattle.league_core.proofs.OptionLemmas.{length-options_from}
use Rattle.near_laws.specs.Near.{has_near_reason, refutes_by_near, cannot_both_have}
use Rattle.near_bound.specs.declared.zone_left.ZoneLeft.{ZoneLeft}
use Rattle.near_bound.specs.inside.PlayedParts.{IsPlayedPart}
use Rattle.near_bound.specs.inside.ZonesLeft.{AreLeftOf, IsZoneLeft, StandsFor}
use Rattle.score_box.specs.inside.ZoneBoxViews.{ZoneBoxView}
use Rattle.near_box.specs.declared.keep.Rivals.{Rivals}
use Rattle.near_box.specs.inside.Sights.{ArePressed, IsFirstNear, IsFirstOf}
use Rattle.near_box.specs.inside.ZoneMatches.{IsOfBox}
use Rattle.near_box.proofs.PressedLemmas.{no_near}

pub is_zone_left : (box : ZoneBoxView) (left : ZoneLeft) → IsOfBox box left → IsZoneLeft left
is_zone_left box left is = record {
  league = record {
    limits = is.limits;
    of_sheet = subst (λ (s : Sheet). IsSeasonOf s left.season.now) (sym is.sheet) is.of_sheet;
  };
  many =
      let long = length-options_from box.sheet.goal_limit box.zone 0 box.season.scores in
      let scores = ap (λ (s : Results). length s.scores) is.season in
      let fixtures = ap (λ (s : Sheet). length s.fixtures) is.sheet in
      omega (arith, is.matches.many, long, scores, fixtures, is.of_sheet.scores);
  played = subst (λ (s : Sheet). IsPlayedPart s left.season.now left.played.now) (sym is.sheet)
      (subst (λ (r : Results). IsPlayedPart box.sheet r left.played.now) (sym is.season)
      is.played);
}

pub stands_for_zone : (box : ZoneBoxView) (left : ZoneLeft) → IsOfBox box left
    → StandsFor left box.zone
stands_for_zone box left is = record {
  matches = subst (λ (options : List (List Score)). AreLeftOf left.matches.now options)
      (λ i. options_in (sym is.sheet i) (sym is.season i) box.zone) is.matches;
  before = is.before;
  after = is.after;
}

-- what is found of the rivals on one side is so of the box
pub barred_in_box : (box : ZoneBoxView) (question : Question) (left : ZoneLeft) (own points : ℤ)
    (rivals barred : ClubSet) → IsOfBox box left
    → has_finish box.sheet box.season box.zone ≡ true → own ≡ points
    → ((zone : List Literal) → StandsFor left zone
    → has_finish left.sheet.now left.season.now zone ≡ true → (rival : ℕ)
    → has_club (clubs_in barred) rival ≡ (has_club (clubs_in rivals) rival
    && cannot_both_have left.sheet.now left.season.now zone own question.club rival))
    → (rival : ℕ) → has_club (clubs_in barred) rival ≡ (has_club (clubs_in rivals) rival
    && cannot_both_have box.sheet box.season box.zone points question.club rival)
barred_in_box box question left own points rivals barred is finish points_is are rival =
    let there = (λ i. has_finish (is.sheet i) (is.season i) box.zone) ∙ finish in
    are box.zone (stands_for_zone box left is) there rival
    ∙ (λ i. has_club (clubs_in rivals) rival
    && cannot_both_have (is.sheet i) (is.season i) box.zone (points_is i) question.club rival)

-- the near reason holds by the rivals of the two sets, and by no other
pub near_is_either : (box : ZoneBoxView) (question : Question) (pressed : Rivals)
    (after before : ClubSet) → has_finish box.sheet box.season box.zone ≡ true
    → ArePressed box question pressed
    → ((rival : ℕ) → has_club (clubs_in after) rival
    ≡ (has_club (clubs_in pressed.behind) rival
    && cannot_both_have box.sheet box.season box.zone
    (own_most box.sheet box.season question box.zone) question.club rival))
    → ((rival : ℕ) → has_club (clubs_in before) rival
    ≡ (has_club (clubs_in pressed.ahead) rival
    && cannot_both_have box.sheet box.season box.zone
    (own_least box.sheet box.season question box.zone) question.club rival))
    → (rival : ℕ) → has_near_reason box.sheet box.season question box.zone rival
    ≡ (has_club (clubs_in after) rival || has_club (clubs_in before) rival)
unfolding has_near_reason
near_is_either box question pressed after before finish are behind ahead rival =
    let most = own_most box.sheet box.season question box.zone in
    let least = own_least box.sheet box.season question box.zone in
    let by_most = cannot_both_have box.sheet box.season box.zone most question.club rival in
    let by_least = cannot_both_have box.sheet box.season box.zone least question.club rival in
    let first = behind rival ∙ ap (λ b. b && by_most) (are.0 rival) in
    let second = ahead rival ∙ ap (λ b. b && by_least) (are.1 rival) in
    ap (λ b. b && refutes_by_near box.sheet box.season question box.zone rival) finish
    ∙ sym (λ i. first i || second i)

-- so the first of them is the first one
pub first_is_near : (box : ZoneBoxView) (question : Question) (after before : ClubSet)
    (near : Option ℕ)
    → ((rival : ℕ) → has_near_reason box.sheet box.season question box.zone rival
    ≡ (has_club (clubs_in after) rival || has_club (clubs_in before) rival))
    → IsFirstOf after before near → IsFirstNear box question near
first_is_near box question after before None same none = record {
  found = tt;
  first = tt;
  absent = λ _ rival. same rival ∙ none rival;
}
first_is_near box question after before (Some rival) same is = record {
  found = same rival ∙ is.0;
  first = λ earlier less. same earlier ∙ is.1 earlier less;
  absent = λ none. absurd (false≢true (ap (λ (o : Option ℕ). is_none o) none));
}
  where
    is_none : Option ℕ → Bool
    is_none None = true
    is_none (Some one) = false

-- none is pressed
pub none_is_near : (box : ZoneBoxView) (question : Question) (pressed : Rivals)
    → clubs_in pressed.behind ≡ [] → clubs_in pressed.ahead ≡ []
    → ArePressed box question pressed → IsFirstNear box question None
none_is_near box question pressed no_behind no_ahead are = record {
  found = tt;
  first = tt;
  absent = λ _ rival. no_near box question rival (λ here.
      absurd (false≢true (
      (λ i. has_club (sym no_behind i) rival || has_club (sym no_ahead i) rival)
      ∙ (λ i. are.0 rival i || are.1 rival i) ∙ here)));
}

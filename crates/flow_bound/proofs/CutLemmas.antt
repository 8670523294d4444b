-- A set of marked clubs with an excess is a cut, and if none has an excess there is no cut.
use mir.Syntax.{w64}
use mir.Val.{to_z, of_z}
use Rattle.std.proofs.Common.{◌≡◌, ◌≢◌, ℕ, suc, ℤ, pos, ◌+ℤ◌, ◌-ℤ◌, ◌*ℤ◌, ◌≤ℤ◌, ◌<ℤ◌, Bool, true}
use Rattle.std.proofs.Common.{false, ◌&&◌, List, [], ◌∷◌, length, Option, Some, None, refl, sym}
use Rattle.std.proofs.Common.{ap, ◌∙◌, inl, inr, arith}
use Rattle.std.specs.Prelude.{IfSome, MatchOption, int_lt, neg_ℤ, ◌^◌}
use Rattle.std.specs.List.{All, list_all}
use Rattle.std.proofs.lemmas.Int.{ints}
use Rattle.std.proofs.lemmas.Bool.{and_from}
use Rattle.league_core.specs.declared.sheet.Sheet.{Sheet}
use Rattle.league_core.specs.declared.question.Question.{Question}
use Rattle.league_core.specs.declared.zone.Literal.{Literal}
use Rattle.league_core.specs.declared.club_set.ClubSet.{ClubSet}
use Rattle.league_core.specs.game.Results.{Results}
use Rattle.league_core.specs.game.Sums.{has_club}
use Rattle.league_core.specs.game.ClubSets.{clubs_in}
use Rattle.league_core.specs.search.Zones.{marked_after, marked_before}
use Rattle.league_core.specs.search.Options.{has_finish}
use Rattle.league_core.specs.search.PointRanges.{least_points_of, most_points_of, own_most}
use Rattle.league_core.specs.search.PointRanges.{own_least}
use Rattle.league_core.specs.search.Reasons.{has_reason, has_member, times}
use Rattle.score_box.specs.inside.Boxes.{IsSetOf}
use Rattle.score_box.specs.inside.Points.{most_taken_off}
use Rattle.score_box.specs.inside.ZoneBoxViews.{ZoneBoxView}
use Rattle.flow_bound.specs.declared.cut.Cut.{Cut}
use Rattle.flow_bound.specs.declared.cut.Cut.TheVariants.{Floor, Ceiling}
use Rattle.flow_bound.specs.declared.tally.Pair.{Pair}
use Rattle.flow_bound.specs.inside.Cuts.{excess_for, level_for, marked_for, reason_for}
use Rattle.flow_bound.specs.inside.Excess.{AreMarked, IsChosen}
use Rattle.flow_bound.specs.inside.Fixtures.{excess_over, pairs_in}
use Rattle.flow_bound.specs.inside.Parts.{HasNoExcess, IsAnsweredSet, excess_in, side_of}
use Rattle.flow_bound.proofs.PartLemmas.{excess_in-empty}
use Rattle.flow_bound.proofs.ChosenLemmas.{GivesExcess, alone_is, marked_part, part_marked}
use Rattle.flow_bound.proofs.ChosenLemmas.{one_marked, chosen_is}
use Rattle.league_core.proofs.plain.Numbers.{int_lt-gap, int_lt-no_gap}

-- an answer is a set of marked clubs with an excess
pub answer_exceeds : (table : List ℤ) (pairs : List Pair) (rivals : ClubSet) (marked : ℕ → Bool)
    (excess : List ℕ → ℤ) (set : ClubSet) → GivesExcess table pairs rivals marked excess
    → IsAnsweredSet table pairs (side_of rivals) set
    → AreMarked marked set × (pos 0 <ℤ excess (clubs_in set))
answer_exceeds table pairs rivals marked excess set gives (inl (club, first, is)) =
    let own = alone_is table pairs rivals marked excess club gives first.among in
    let same = ap excess is in (
      one_marked marked set club is (sym (gives.marks club) ∙ first.among),
      omega (arith, ints, first.over),
    )
answer_exceeds table pairs rivals marked excess set gives (inr (none, best)) = (
  part_marked rivals marked set gives.marks best.part,
  omega (arith, ints, best.exceeds, gives.sums set best.part),
)

-- if the parts have no excess no set of marked clubs has
pub none_exceeds : (table : List ℤ) (pairs : List Pair) (rivals : ClubSet) (marked : ℕ → Bool)
    (excess : List ℕ → ℤ) (set : ClubSet) → GivesExcess table pairs rivals marked excess
    → HasNoExcess table pairs (side_of rivals) → AreMarked marked set
    → excess (clubs_in set) ≤ℤ pos 0
none_exceeds table pairs rivals marked excess set gives none all =
    let part = marked_part rivals marked set gives.marks all in
    let low = none (side_of set) part in
    omega (arith, ints, gives.sums set part)

-- a set with an excess has a member
pub some_member : (table : List ℤ) (pairs : List Pair) (rivals : ClubSet) (marked : ℕ → Bool)
    (excess : List ℕ → ℤ) (set : ClubSet) → GivesExcess table pairs rivals marked excess
    → AreMarked marked set → pos 0 <ℤ excess (clubs_in set) → has_member (clubs_in set) ≡ true
some_member table pairs rivals marked excess set gives all exceeds = at (clubs_in set) refl
  where
    at : (clubs : List ℕ) → clubs_in set ≡ clubs → has_member (clubs_in set) ≡ true
    at [] empty =
        let none = excess_in-empty table pairs (side_of set)
        (λ club. ap (λ cs. has_club cs club) empty) in
        let sums = gives.sums set (marked_part rivals marked set gives.marks all) in
        absurd (omega (arith, ints, exceeds))
    at (club ∷ clubs) is = ap has_member is

-- so many clubs at a level, and at the level below 0
pub times-less : (clubs : List ℕ) (points : ℤ)
    → times clubs (pos 0 -ℤ points) ≡ pos 0 -ℤ times clubs points
times-less [] points = omega (arith, ints)
times-less (club ∷ clubs) points =
    let rest = times-less clubs points in
    let more = one_more (length clubs) points in
    let more_less = one_more (length clubs) (pos 0 -ℤ points) in
    omega (arith, ints)
  where
    one_more : (n : ℕ) (points : ℤ) → pos (suc n) *ℤ points ≡ points +ℤ (pos n *ℤ points)
    one_more n points = omega (arith, ints)

-- the excess over the level of a cut is that of the cut
excess_over-is : (cut : Cut) (sheet : Sheet) (season : Results) (question : Question)
    (zone : List Literal) (level : ℤ) (clubs : List ℕ)
    → level ≡ level_for cut sheet season question zone
    → excess_over cut sheet season zone level clubs
    ≡ excess_for cut sheet season question zone clubs
unfolding least_points_of most_points_of
excess_over-is Floor sheet season question zone level clubs is =
    let same = ap (times clubs) is in
    let less = times-less clubs (own_most sheet season question zone) in
    omega (arith, ints)
excess_over-is Ceiling sheet season question zone level clubs is =
    let same = ap (times clubs) is in
    omega (arith, ints)

-- so the parts of the tally at that level, as a word keeps it, give it
pub gives_excess : (cut : Cut) (box : ZoneBoxView) (question : Question) (table : List ℤ)
    (rivals : ClubSet) (level : ℤ)
    → level ≡ level_for cut box.sheet box.season question box.zone
    → neg_ℤ most_taken_off ≤ℤ level → level ≤ℤ pos (2 ^ 31)
    → IsSetOf rivals (marked_for cut box.zone)
    → All (λ pair. pair.home ≢ pair.away) (pairs_in cut box)
    → ((set : ClubSet) → excess_in table (pairs_in cut box) (side_of set)
    ≡ excess_over cut box.sheet box.season box.zone (to_z w64 (of_z w64 level)) (clubs_in set))
    → GivesExcess table (pairs_in cut box) rivals (marked_for cut box.zone)
    (excess_for cut box.sheet box.season question box.zone)
gives_excess cut box question table rivals level is least most marks apart sums = record {
  marks = marks;
  apart = apart;
  sums = λ set part. sums set
      ∙ excess_over-is cut box.sheet box.season question box.zone (to_z w64 (of_z w64 level))
      (clubs_in set) (same ∙ is);
}
  where
    same : to_z w64 (of_z w64 level) ≡ level
    same = omega (arith, ints)

int_lt-difference : (a b : ℤ) → int_lt a b ≡ int_lt (pos 0) (b -ℤ a)
int_lt-difference a b = grind (arith, ints)

-- what the reason says, by the excess
reason_is : (cut : Cut) (sheet : Sheet) (season : Results) (question : Question)
    (zone : List Literal) (set : ClubSet)
    → has_reason sheet season question zone (reason_for cut set)
    ≡ (has_finish sheet season zone
    && (has_member (clubs_in set) && list_all (marked_for cut zone) (clubs_in set)
    && int_lt (pos 0) (excess_for cut sheet season question zone (clubs_in set))))
unfolding has_reason
reason_is Floor sheet season question zone set =
    ap (λ over. has_finish sheet season zone
    && (has_member (clubs_in set) && list_all (marked_after zone) (clubs_in set) && over))
    (int_lt-difference (times (clubs_in set) (own_most sheet season question zone))
    (least_points_of sheet season zone (clubs_in set)))
reason_is Ceiling sheet season question zone set =
    ap (λ over. has_finish sheet season zone
    && (has_member (clubs_in set) && list_all (marked_before zone) (clubs_in set) && over))
    (int_lt-difference (most_points_of sheet season zone (clubs_in set))
    (times (clubs_in set) (own_least sheet season question zone)))

-- a set of marked clubs with an excess has the reason
cut_holds : (cut : Cut) (sheet : Sheet) (season : Results) (question : Question)
    (zone : List Literal) (set : ClubSet) → has_finish sheet season zone ≡ true
    → has_member (clubs_in set) ≡ true → AreMarked (marked_for cut zone) set
    → pos 0 <ℤ excess_for cut sheet season question zone (clubs_in set)
    → has_reason sheet season question zone (reason_for cut set) ≡ true
cut_holds cut sheet season question zone set finish member all exceeds =
    reason_is cut sheet season question zone set
    ∙ and_from (has_finish sheet season zone) _ finish
    (and_from (has_member (clubs_in set) && list_all (marked_for cut zone) (clubs_in set)) _
    (and_from (has_member (clubs_in set)) _ member all)
    (int_lt-gap (pos 0) (excess_for cut sheet season question zone (clubs_in set))
    (omega (arith, ints, exceeds))))

no_reason : (finish member all over : Bool) → (all ≡ true → over ≡ false)
    → (finish && (member && all && over)) ≡ false
no_reason false member all over none = refl
no_reason true false all over none = refl
no_reason true true false over none = refl
no_reason true true true over none = none refl

-- if no set of marked clubs has an excess, none has the reason
pub cut_fails : (cut : Cut) (sheet : Sheet) (season : Results) (question : Question)
    (zone : List Literal) (set : ClubSet) → (AreMarked (marked_for cut zone) set
    → excess_for cut sheet season question zone (clubs_in set) ≤ℤ pos 0)
    → has_reason sheet season question zone (reason_for cut set) ≡ false
cut_fails cut sheet season question zone set none =
    reason_is cut sheet season question zone set
    ∙ no_reason (has_finish sheet season zone) (has_member (clubs_in set))
    (list_all (marked_for cut zone) (clubs_in set)) _
    (λ all. int_lt-no_gap (pos 0) (excess_for cut sheet season question zone (clubs_in set))
    (omega (arith, ints, none all)))

-- what is found is a cut
pub cut_found : (cut : Cut) (sheet : Sheet) (season : Results) (question : Question)
    (zone : List Literal) (table : List ℤ) (pairs : List Pair) (rivals : ClubSet)
    (chosen : Option ClubSet) → GivesExcess table pairs rivals (marked_for cut zone)
    (excess_for cut sheet season question zone)
    → has_finish sheet season zone ≡ true
    → MatchOption chosen (HasNoExcess table pairs (side_of rivals))
    (IsAnsweredSet table pairs (side_of rivals))
    → IfSome chosen (λ set. has_reason sheet season question zone (reason_for cut set) ≡ true)
cut_found cut sheet season question zone table pairs rivals None gives finish is = tt
cut_found cut sheet season question zone table pairs rivals (Some set) gives finish is =
    let excess = excess_for cut sheet season question zone in
    let over = answer_exceeds table pairs rivals (marked_for cut zone) excess set gives is in
    cut_holds cut sheet season question zone set finish
    (some_member table pairs rivals (marked_for cut zone) excess set gives over.0 over.1)
    over.0 over.1

-- if none is found no set of marked clubs has an excess
pub nothing_exceeds : (table : List ℤ) (pairs : List Pair) (rivals : ClubSet) (marked : ℕ → Bool)
    (excess : List ℕ → ℤ) (chosen : Option ClubSet) → GivesExcess table pairs rivals marked excess
    → MatchOption chosen (HasNoExcess table pairs (side_of rivals))
    (IsAnsweredSet table pairs (side_of
    rivals))
    → chosen ≡ None → (set : ClubSet) → AreMarked marked set → excess (clubs_in set) ≤ℤ pos 0
nothing_exceeds table pairs rivals marked excess None gives is none set all =
    none_exceeds table pairs rivals marked excess set gives is all
nothing_exceeds table pairs rivals marked excess (Some other) gives is none set all = absurd (cc)

-- what is found is the set that is to be chosen
pub chosen_found : (table : List ℤ) (pairs : List Pair) (rivals : ClubSet) (marked : ℕ → Bool)
    (excess : List ℕ → ℤ) (chosen : Option ClubSet) → GivesExcess table pairs rivals marked excess
    → MatchOption chosen (HasNoExcess table pairs (side_of rivals))
    (IsAnsweredSet table pairs (side_of
    rivals))
    → IfSome chosen (IsChosen marked excess)
chosen_found table pairs rivals marked excess None gives is = tt
chosen_found table pairs rivals marked excess (Some set) gives is =
    chosen_is table pairs rivals marked excess set gives is

no_set_of_marked : (finish over : Bool) (marked : ℕ → Bool) (clubs : List ℕ)
    → ((club : ℕ) → marked club ≡ false)
    → (finish && ((has_member clubs && list_all marked clubs) && over)) ≡ false
no_set_of_marked false over marked clubs none = refl
no_set_of_marked true over marked [] none = refl
no_set_of_marked true over marked (club ∷ clubs) none =
    ap (λ b. (b && list_all marked clubs) && over) (none club)

-- if no club is marked no set has the reason
pub cut_unmarked : (cut : Cut) (sheet : Sheet) (season : Results) (question : Question)
    (zone : List Literal) (set : ClubSet) → ((club : ℕ) → marked_for cut zone club ≡ false)
    → has_reason sheet season question zone (reason_for cut set) ≡ false
cut_unmarked cut sheet season question zone set none =
    reason_is cut sheet season question zone set
    ∙ no_set_of_marked (has_finish sheet season zone) _ (marked_for cut zone) (clubs_in set) none

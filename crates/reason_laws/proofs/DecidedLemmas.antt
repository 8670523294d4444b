-- A zone in which each fixture has one option decides itself: if neither the window nor the
-- criteria are a reason, its finish is an example with lots that favour the claim.
use Rattle.std.proofs.Common.{◌≡◌, ℕ, ◌+◌, ◌-◌, ◌<◌, ℤ, ◌≤ℤ◌, Bool, true, false, ◌&&◌, ◌||◌, nat_lt}
use Rattle.std.proofs.Common.{List, [], ◌∷◌, length, count_by, is_lt, refl, sym, ap, ◌∙◌, arith}
use Rattle.std.specs.Prelude.{int_lt, int_le}
use Rattle.std.specs.List.{list_any}
use Rattle.std.proofs.lemmas.Int.{ints}
use Rattle.std.proofs.lemmas.Bool.{false≢true, and_from, or_parts, or_right, leb-false, le-leb}
use Rattle.std.proofs.lemmas.Bool.{lt-leb, lt-ltb, ltb-true, not_from_false}
use Rattle.std.proofs.lemmas.Bool.Decides.{Decides-int_eq}
use Rattle.league_core.specs.declared.sheet.Sheet.{Sheet}
use Rattle.league_core.specs.declared.season.Score.{Score}
use Rattle.league_core.specs.declared.question.Claim.{Claim}
use Rattle.league_core.specs.declared.question.Claim.TheVariants.{Inside, Outside}
use Rattle.league_core.specs.declared.question.Question.{Question}
use Rattle.league_core.specs.declared.zone.Literal.{Literal}
use Rattle.league_core.specs.declared.zone.Reason.TheVariants.{Window, Tie}
use Rattle.league_core.specs.game.Results.{Results}
use Rattle.league_core.specs.game.Sheets.{clubs_of}
use Rattle.league_core.specs.game.Sums.{points_of}
use Rattle.league_core.specs.game.Ranking.{are_lots, lot_of, ranks_before, place_of, is_inside}
use Rattle.league_core.specs.game.Questions.{is_on_side, is_in_window, holds_at, IsExample}
use Rattle.league_core.specs.inside.LotsFor.{order_without_lots, lots_for_claim, IsFavoured}
use Rattle.league_core.specs.search.Zones.{rivals_of, marked_before, marked_after}
use Rattle.league_core.specs.search.Options.{options_in, has_option, has_one_score, has_finish}
use Rattle.league_core.specs.search.Options.{is_single, IsInBox}
use Rattle.league_core.specs.search.PointRanges.{points_range, least_points_of, most_points_of}
use Rattle.league_core.specs.search.SureOrder.{is_above, is_below, sure_order}
use Rattle.league_core.specs.search.Reasons.{has_reason, too_many, refutes_by_window}
use Rattle.league_core.specs.search.Reasons.{refutes_by_tie, is_surely_above, is_surely_below}
use Rattle.league_core.specs.search.Reasons.{are_too_many_sure, is_surely_wrong}
use Rattle.league_core.proofs.OthersLemmas.{length-others_of}
use Rattle.league_core.proofs.RankingLemmas.{order_of-lots, ranks_before-itself}
use Rattle.league_core.proofs.LotsLemmas.{lots_for_claim-are_lots, lots_for_claim-favoured}
use Rattle.league_core.specs.search.Splits.{are_outcomes_fixed}
use Rattle.reason_laws.specs.inside.SureLaws.{sure_of}
use Rattle.reason_laws.proofs.MemberLemmas.{points_in_box}
use Rattle.reason_laws.proofs.RivalCountLemmas.{count_by-front, count_by-rivals, count_by-both}
use Rattle.league_core.proofs.BoxLemmas.{box_is_finish}
use Rattle.reason_laws.proofs.SureOrderLemmas.{points_fixed}
use Rattle.reason_laws.proofs.SingleLemmas.{single_fixed, order_is}
use Rattle.league_core.proofs.plain.Runs.{all_in_range}
use Rattle.league_core.proofs.plain.Lists.{list_all-weaker}
use Rattle.league_core.proofs.plain.Numbers.{int_lt-false}
use Rattle.league_core.proofs.plain.Orderings.{first_less, last_greater}
use Rattle.league_core.proofs.plain.TruthValues.{and_second_fails}

-- in a single zone a rival before the club is surely above it, if the club is drawn first
before_is_above : (sheet : Sheet) (season : Results) (zone : List Literal) (finish : Results)
    (lots : List ℕ) (rival club : ℕ) → is_single sheet season zone ≡ true
    → IsInBox sheet season zone finish → lot_of lots club ≡ 0
    → ranks_before sheet finish lots rival club ≡ true
    → is_above (sure_order sheet season zone rival club) ≡ true
before_is_above sheet season zone finish lots rival club single box first before =
    let less = first_less (order_without_lots sheet finish rival club) (lot_of lots rival) (lot_of
    lots club) first (sym (ap is_lt (order_of-lots sheet finish lots rival club)) ∙ before) in
    ap is_above (order_is sheet season zone finish rival club single box ∙ ap sure_of less)

-- and one that is not before it is surely below it, if it is drawn earlier
behind_is_below : (sheet : Sheet) (season : Results) (zone : List Literal) (finish : Results)
    (lots : List ℕ) (rival club : ℕ) → is_single sheet season zone ≡ true
    → IsInBox sheet season zone finish → lot_of lots rival < lot_of lots club
    → ranks_before sheet finish lots rival club ≡ false
    → is_below (sure_order sheet season zone rival club) ≡ true
behind_is_below sheet season zone finish lots rival club single box earlier behind =
    let greater = last_greater (order_without_lots sheet finish rival club) (lot_of lots
    rival) (lot_of lots club) earlier
    (sym (ap is_lt (order_of-lots sheet finish lots rival club)) ∙ behind) in
    ap is_below (order_is sheet season zone finish rival club single box ∙ ap sure_of greater)

-- with too few rivals surely on the other side, lots that favour the claim put the club on its own
side_is : (sheet : Sheet) (season : Results) (question : Question) (zone : List Literal)
    (finish : Results) (lots : List ℕ) (claim : Claim) → question.club < length sheet.clubs
    → is_single sheet season zone ≡ true → IsInBox sheet season zone finish
    → IsFavoured claim (length sheet.clubs) lots question.club
    → too_many sheet question
    (λ rival. marked_before zone rival || is_surely_above sheet season question zone rival)
    (λ rival. marked_after zone rival || is_surely_below sheet season question zone rival) claim
    ≡ false → is_on_side (is_inside sheet finish lots question.club question.line) claim ≡ true
side_is sheet season question zone finish lots Inside club_in single box favoured few =
    let front = λ (rival : ℕ). marked_before zone rival
    || is_surely_above sheet season question zone rival in
    let before = λ (rival : ℕ). ranks_before sheet finish lots rival question.club in
    let fewer : count_by front (rivals_of sheet question.club) < question.line = leb-false
    question.line (count_by front (rivals_of sheet question.club)) few in
    let counted = count_by-rivals before front question.club (clubs_of sheet)
    (ranks_before-itself sheet finish lots question.club)
    (λ rival ahead. or_right (marked_before zone rival)
    (is_surely_above sheet season question zone rival)
    (before_is_above sheet season zone finish lots rival question.club single box favoured
    ahead)) in
    le-leb (place_of sheet finish lots question.club) question.line (omega arith)
side_is sheet season question zone finish lots Outside club_in single box favoured few =
    let back = λ (rival : ℕ). marked_after zone rival
    || is_surely_below sheet season question zone rival in
    let before = λ (rival : ℕ). ranks_before sheet finish lots rival question.club in
    let fewer : count_by back (rivals_of sheet question.club) < length sheet.clubs -
    question.line = leb-false (length sheet.clubs - question.line)
    (count_by back (rivals_of sheet question.club)) few in
    let both = count_by-both (λ rival. nat_lt rival (length sheet.clubs)) before back question.club
    (clubs_of sheet)
    (all_in_range (λ rival. nat_lt rival (length sheet.clubs)) 0 (length sheet.clubs)
    (λ rival _ high. lt-ltb rival (length sheet.clubs) (omega arith)))
    (λ rival known different behind. or_right (marked_after zone rival)
    (is_surely_below sheet season question zone rival)
    (behind_is_below sheet season zone finish lots rival question.club single box
    (favoured rival (ltb-true rival (length sheet.clubs) known) different) behind)) in
    let ahead = count_by-front before before question.club (clubs_of sheet) (λ rival is. is) in
    let rivals : length (rivals_of sheet question.club) + 1 ≡ length sheet.clubs = length-others_of
    (length sheet.clubs) question.club club_in in
    not_from_false (is_inside sheet finish lots question.club question.line)
    (lt-leb (place_of sheet finish lots question.club) question.line (omega arith))

-- a single zone has a finish
single_has_finish : (sheet : Sheet) (season : Results) (zone : List Literal)
    → is_single sheet season zone ≡ true → has_finish sheet season zone ≡ true
unfolding is_single has_finish
single_has_finish sheet season zone single =
    list_all-weaker has_one_score has_option (options_in sheet season zone) some single
  where
    some : (options : List Score) → has_one_score options ≡ true → has_option options ≡ true
    some [] one = one
    some (score ∷ options) one = refl

-- if the window is no reason, the points at the zone's finish are in it
in_window : (sheet : Sheet) (season : Results) (question : Question) (zone : List Literal)
    (finish : Results) → is_single sheet season zone ≡ true → IsInBox sheet season zone finish
    → refutes_by_window sheet season question zone ≡ false
    → is_in_window question (points_of sheet finish question.club) ≡ true
unfolding least_points_of most_points_of
in_window sheet season question zone finish single box fails =
    let range = points_range sheet season (options_in sheet season zone) (question.club ∷ []) in
    let bounds = points_in_box sheet season zone finish (question.club ∷ []) box in
    let one = (Decides-int_eq range.least range.greatest).0
    (points_fixed sheet season zone question.club (single_fixed sheet season zone single)) in
    let sides = or_parts (int_lt range.greatest question.low) (int_lt question.high
    range.least) fails in
    let low = int_lt-false range.greatest question.low sides.0 in
    let high = int_lt-false question.high range.least sides.1 in
    and_from (int_le question.low (points_of sheet finish question.club))
    (int_le (points_of sheet finish question.club) question.high)
    (at_most question.low (points_of sheet finish question.club) (omega (arith, ints)))
    (at_most (points_of sheet finish question.club) question.high (omega (arith, ints)))
  where
    at_most : (a b : ℤ) → a ≤ℤ b → int_le a b ≡ true
    at_most a b h = grind (arith, ints)

-- so the question holds there
pub single_holds : (sheet : Sheet) (season : Results) (question : Question) (zone : List Literal)
    (finish : Results) (lots : List ℕ) → question.club < length sheet.clubs
    → is_single sheet season zone ≡ true
    → (has_reason sheet season question zone Window ≡ true → ⊥)
    → (has_reason sheet season question zone Tie ≡ true → ⊥) → IsInBox sheet season zone finish
    → IsFavoured question.claim (length sheet.clubs) lots question.club
    → holds_at sheet question finish lots ≡ true
unfolding has_reason
single_holds sheet season question zone finish lots club_in single no_window no_tie box favoured =
    let some = single_has_finish sheet season zone single in
    let window = and_second_fails (has_finish sheet season zone) (refutes_by_window sheet season
    question zone) some no_window in
    let tie = and_second_fails (has_finish sheet season zone) (refutes_by_tie sheet season question
    zone) some no_tie in
    let few = other_half (are_outcomes_fixed sheet season zone) (are_too_many_sure sheet season
    question zone)
    (list_any (is_surely_wrong sheet season question zone) (rivals_of sheet question.club))
    (single_fixed sheet season zone single) tie in
    and_from (is_in_window question (points_of sheet finish question.club))
    (is_on_side (is_inside sheet finish lots question.club question.line) question.claim)
    (in_window sheet season question zone finish single box window)
    (side_is sheet season question zone finish lots question.claim club_in single box favoured few)
  where
    other_half : (a b c : Bool) → a ≡ true → (a && (b || c)) ≡ false → b ≡ false
    other_half true b c is fails = (or_parts b c fails).0
    other_half false b c is fails = absurd (false≢true is)

-- and the finish is an example
pub single_decided : (sheet : Sheet) (season : Results) (question : Question) (zone : List Literal)
    (finish : Results) (lots : List ℕ) → question.club < length sheet.clubs
    → is_single sheet season zone ≡ true
    → (has_reason sheet season question zone Window ≡ true → ⊥)
    → (has_reason sheet season question zone Tie ≡ true → ⊥) → IsInBox sheet season zone finish
    → are_lots (length sheet.clubs) lots ≡ true
    → IsFavoured question.claim (length sheet.clubs) lots question.club
    → IsExample sheet season question finish lots
single_decided sheet season question zone finish lots club_in single no_window no_tie box drawn
    favoured = record {
      is_finish = box_is_finish sheet season zone finish box;
      is_drawn = drawn;
      holds = single_holds sheet season question zone finish lots club_in single no_window no_tie
          box
          favoured;
    }

pub single_decided_by_two : (sheet : Sheet) (season : Results) (question : Question)
    (zone : List Literal) (finish : Results) → question.club < length sheet.clubs
    → is_single sheet season zone ≡ true
    → (has_reason sheet season question zone Window ≡ true → ⊥)
    → (has_reason sheet season question zone Tie ≡ true → ⊥) → IsInBox sheet season zone finish
    → IsExample sheet season question finish
    (lots_for_claim (length sheet.clubs) question.club question.claim)
single_decided_by_two sheet season question zone finish club_in single no_window no_tie box =
    single_decided sheet season question zone finish
    (lots_for_claim (length sheet.clubs) question.club question.claim) club_in single no_window
    no_tie box
    (lots_for_claim-are_lots (length sheet.clubs) question.club question.claim club_in)
    (lots_for_claim-favoured (length sheet.clubs) question.club question.claim)

-- Where a club stands in a group, step by step: by one order, and within the clubs that it leaves
-- level by the next one.
use Rattle.std.proofs.Common.{◌≡◌, ℕ, ◌<◌, ◌≤◌, Bool, true, false, ◌&&◌, ◌||◌, ◌==◌, List, [], ◌∷◌}
use Rattle.std.proofs.Common.{◌++◌, length, filter, refl, sym, ap, ◌∙◌, arith}
use Rattle.std.specs.declared.cmp.Ordering.{Ordering}
use Rattle.std.specs.declared.cmp.Ordering.TheVariants.{Equal}
use Rattle.std.specs.Ordering.{is_eq, is_lt, int_eq, ordering_then}
use Rattle.std.specs.Cmp.{IsTotalOrder}
use Rattle.std.proofs.lemmas.Bool.{and_from, and_parts, eqb-true, false≢true}
use Rattle.std.proofs.lemmas.Cmp.{eq_by_cmp_equiv, tied_itself, int_cmp_total}
use Rattle.league_core.specs.declared.sheet.Sheet.{Sheet}
use Rattle.league_core.specs.declared.sheet.Order.TheVariants.{OverallFirst}
use Rattle.league_core.specs.declared.club_set.ClubSet.{ClubSet}
use Rattle.league_core.specs.game.Results.{Results}
use Rattle.league_core.specs.game.Sheets.{clubs_of}
use Rattle.league_core.specs.game.Sums.{has_club, points_of}
use Rattle.league_core.specs.game.ClubSets.{clubs_in}
use Rattle.league_core.specs.game.HeadToHead.{by_head_to_head, level_with}
use Rattle.league_core.specs.game.Ahead.{lead_in, by_first_sums, level_overall, standing_by}
use Rattle.league_core.specs.game.Ahead.{standing_in}
use Rattle.league_core.specs.game.Ranking.{tied_group_of}
use Rattle.league_core.specs.inside.LotsFor.{order_without_lots}
use Rattle.league_core.proofs.StandingLemmas.{by_head_to_head_total, lead_within_total}
use Rattle.league_core.proofs.StandingLemmas.{level_with-tied, level_overall-tied}
use Rattle.league_core.proofs.TimesLemmas.{lead_in-again, level_with-le}
use Rattle.league_core.proofs.ClubSetLemmas.{clubs_below-filter, clubs_below-filter_range}
use Rattle.league_core.proofs.ClubSetLemmas.{has_club-range}
use Rattle.league_core.proofs.RankingLemmas.{tied_group_of-tied}
use Rattle.final_rank.proofs.TierLemmas.{by_points, by_points_total, is_of_sheet}
use Rattle.league_core.proofs.SeenLemmas.{passed_next}
use Rattle.example_finish.specs.declared.standing.Standing.{Standing}
use Rattle.example_finish.specs.inside.GroupStandings.{IsStandingOf, next_after}
use Rattle.league_core.proofs.plain.Orderings.{then_agree, ahead_among_two, level_among_two}

-- the clubs so far around a club, and the next one
pub standing_next : (order : ℕ → ℕ → Ordering) (seen : List ℕ) (club at : ℕ) (old new : Standing)
    → ((x : ℕ) → has_club (clubs_in new.ahead) x
    ≡ (has_club (clubs_in old.ahead) x || ((at == x) && is_lt (order x club))))
    → ((x : ℕ) → has_club (clubs_in new.level) x
    ≡ (has_club (clubs_in old.level) x || ((at == x) && is_eq (order x club))))
    → IsStandingOf order seen club old → IsStandingOf order (seen ++ at ∷ []) club new
standing_next order seen club at old new ahead level is = record {
  ahead = passed_next (λ x. is_lt (order x club)) seen (clubs_in old.ahead) (clubs_in new.ahead)
      at ahead is.ahead;
  level = passed_next (λ x. is_eq (order x club)) seen (clubs_in old.level) (clubs_in new.level)
      at level is.level;
}

-- orders that agree on the clubs of a group leave a club where it stands
pub standing_agrees : (order other : ℕ → ℕ → Ordering) (group : List ℕ) (club : ℕ)
    (standing : Standing)
    → ((x : ℕ) → has_club group x ≡ true → order x club ≡ other x club)
    → IsStandingOf order group club standing → IsStandingOf other group club standing
standing_agrees order other group club standing agree is = record {
  ahead = λ x. is.ahead x ∙ under (has_club group x) is_lt (order x club) (other x club) (agree x);
  level = λ x. is.level x ∙ under (has_club group x) is_eq (order x club) (other x club) (agree x);
}
  where
    under : (among : Bool) (test : Ordering → Bool) (a b : Ordering) → (among ≡ true → a ≡ b)
        → (among && test a) ≡ (among && test b)
    under true test a b same = ap test (same refl)
    under false test a b same = refl

-- where a club stands by a first order, and among those that it leaves level by the next one, is
-- where it stands by both
pub standing_then : (first next whole : ℕ → ℕ → Ordering) (group : List ℕ) (club : ℕ)
    (outer inner : Standing) (ahead : ClubSet) → IsStandingOf first group club outer
    → IsStandingOf next (clubs_in outer.level) club inner
    → ((x : ℕ) → has_club group x ≡ true
    → whole x club ≡ ordering_then (first x club) (next x club))
    → ((x : ℕ) → has_club (clubs_in ahead) x
    ≡ (has_club (clubs_in outer.ahead) x || has_club (clubs_in inner.ahead) x))
    → IsStandingOf whole group club (record { ahead = ahead; level = inner.level })
standing_then first next whole group club outer inner ahead is_first is_next is_whole union =
    record {
      ahead = λ x.
          union x
          ∙ (λ i. is_first.ahead x i || is_next.ahead x i)
          ∙ ap (λ b. (has_club group x && is_lt (first x club)) || (b && is_lt (next x club)))
          (is_first.level x)
          ∙ ahead_among_two (has_club group x) (first x club) (next x club) (whole x club) (is_whole
          x);
      level = λ x.
          is_next.level x
          ∙ ap (λ b. b && is_eq (next x club)) (is_first.level x)
          ∙ level_among_two (has_club group x) (first x club) (next x club) (whole x club) (is_whole
          x);
    }

-- a club that is the whole group stands alone
pub standing_alone : (order : ℕ → ℕ → Ordering) → IsTotalOrder order → (group : ClubSet) (club : ℕ)
    (standing : Standing) → length (clubs_in group) ≡ 1 → has_club (clubs_in group) club ≡ true
    → clubs_in standing.ahead ≡ [] → standing.level ≡ group
    → IsStandingOf order (clubs_in group) club standing
standing_alone order total group club standing one has none same = record {
  ahead = λ x.
      ap (λ (xs : List ℕ). has_club xs x) none
      ∙ sym (none_before (has_club (clubs_in group) x) (order x club) (tied x));
  level = λ x.
      ap (λ (set : ClubSet). has_club (clubs_in set) x) same
      ∙ sym (all_level (has_club (clubs_in group) x) (order x club) (tied x));
}
  where
    itself : (b : Bool) → (b || false) ≡ true → b ≡ true
    itself true is = refl
    itself false is = is

    only : (xs : List ℕ) (x y : ℕ) → length xs ≡ 1 → has_club xs x ≡ true → has_club xs y ≡ true
        → x ≡ y
    only [] x y long first second = absurd (false≢true first)
    only (z ∷ []) x y long first second =
        sym (eqb-true z x (itself (z == x) first)) ∙ eqb-true z y (itself (z == y) second)
    only (z ∷ w ∷ ws) x y long first second = absurd (omega arith)

    tied : (x : ℕ) → has_club (clubs_in group) x ≡ true → order x club ≡ Equal
    tied x h =
        ap (λ (n : ℕ). order n club) (only (clubs_in group) x club one h has)
        ∙ tied_itself total club

    none_before : (b : Bool) (o : Ordering) → (b ≡ true → o ≡ Equal) → (b && is_lt o) ≡ false
    none_before false o is = refl
    none_before true o is = ap is_lt (is refl)

    all_level : (b : Bool) (o : Ordering) → (b ≡ true → o ≡ Equal) → (b && is_eq o) ≡ b
    all_level false o is = refl
    all_level true o is = ap is_eq (is refl)

-- so it does by who leads
pub alone_in_lead : (sheet : Sheet) (season : Results) (group : ClubSet) (club : ℕ)
    (standing : Standing) → length (clubs_in group) ≡ 1 → has_club (clubs_in group) club ≡ true
    → clubs_in standing.ahead ≡ [] → standing.level ≡ group
    → IsStandingOf (lead_in sheet season (clubs_in group)) (clubs_in group) club standing
alone_in_lead sheet season group club standing =
    standing_alone (lead_in sheet season (clubs_in group))
    (lead_within_total (length (clubs_in group)) sheet season (clubs_in group)) group club standing

-- the clubs of a set that an order leaves level with a club, as a list
level_list : (order : ℕ → ℕ → Ordering) (group : ClubSet) (club : ℕ) (standing : Standing)
    → IsStandingOf order (clubs_in group) club standing
    → clubs_in standing.level ≡ filter (λ other. is_eq (order other club)) (clubs_in group)
level_list order group club standing is =
    clubs_below-filter 32 standing.level.bits group.bits (λ other. is_eq (order other club))
    is.level

-- a club is level with itself
level_itself : (order : ℕ → ℕ → Ordering) → IsTotalOrder order → (group : List ℕ) (club : ℕ)
    (standing : Standing) → has_club group club ≡ true → IsStandingOf order group club standing
    → has_club (clubs_in standing.level) club ≡ true
level_itself order total group club standing has is =
    is.level club
    ∙ and_from (has_club group club) (is_eq (order club club)) has
    (ap is_eq (tied_itself total club))

-- the clubs that the record leaves level with a club
pub level_by_record : (sheet : Sheet) (season : Results) (group : ClubSet) (club : ℕ)
    (standing : Standing)
    → IsStandingOf (by_head_to_head sheet season (clubs_in group)) (clubs_in group) club standing
    → clubs_in standing.level ≡ level_with sheet season (clubs_in group) club
level_by_record sheet season group club standing is =
    level_list (by_head_to_head sheet season (clubs_in group)) group club standing is

-- they are no more than the group
pub few_by_record : (sheet : Sheet) (season : Results) (group : ClubSet) (club : ℕ)
    (standing : Standing)
    → IsStandingOf (by_head_to_head sheet season (clubs_in group)) (clubs_in group) club standing
    → length (clubs_in standing.level) ≤ length (clubs_in group)
few_by_record sheet season group club standing is =
    let same = ap length (level_by_record sheet season group club standing is) in
    let fewer = level_with-le sheet season (clubs_in group) club in
    omega arith

-- the record in the group, and what decides after it, say who leads
lead_is : (sheet : Sheet) (season : Results) (group : ClubSet) (club : ℕ) (standing : Standing)
    → IsStandingOf (by_head_to_head sheet season (clubs_in group)) (clubs_in group) club standing
    → (x : ℕ) → has_club (clubs_in group) x ≡ true
    → lead_in sheet season (clubs_in group) x club
    ≡ ordering_then (by_head_to_head sheet season (clubs_in group) x club)
    (next_after (length (clubs_in standing.level) == length (clubs_in group)) sheet season
    (clubs_in standing.level) x club)
lead_is sheet season group club standing is x has =
    let all = clubs_in group in
    lead_in-again sheet season all x club has
    ∙ then_agree (by_head_to_head sheet season all x club) _ _
    (λ tied.
    let same : level_with sheet season all x ≡ clubs_in standing.level =
    level_with-tied sheet season all x club tied
    ∙ sym (level_by_record sheet season group club standing is) in
    ap (λ xs. next_after (length xs == length all) sheet season xs x club) same)

-- so if the record and what decides after it say how a club stands, it stands so by who leads
pub standing_in_lead : (sheet : Sheet) (season : Results) (group : ClubSet) (club : ℕ)
    (outer inner : Standing) (ahead : ClubSet)
    → IsStandingOf (by_head_to_head sheet season (clubs_in group)) (clubs_in group) club outer
    → IsStandingOf
    (next_after (length (clubs_in outer.level) == length (clubs_in group)) sheet season
    (clubs_in outer.level)) (clubs_in outer.level) club inner
    → ((x : ℕ) → has_club (clubs_in ahead) x
    ≡ (has_club (clubs_in outer.ahead) x || has_club (clubs_in inner.ahead) x))
    → IsStandingOf (lead_in sheet season (clubs_in group)) (clubs_in group) club
    (record { ahead = ahead; level = inner.level })
standing_in_lead sheet season group club outer inner ahead is_first is_next union =
    standing_then (by_head_to_head sheet season (clubs_in group))
    (next_after (length (clubs_in outer.level) == length (clubs_in group)) sheet season
    (clubs_in outer.level)) (lead_in sheet season (clubs_in group)) (clubs_in group) club outer
    inner ahead is_first is_next (lead_is sheet season group club outer is_first) union

-- the club is one of those that its record leaves level with it, and they are clubs of the group
pub itself_by_record : (sheet : Sheet) (season : Results) (group : ClubSet) (club : ℕ)
    (standing : Standing) → has_club (clubs_in group) club ≡ true
    → IsStandingOf (by_head_to_head sheet season (clubs_in group)) (clubs_in group) club standing
    → has_club (clubs_in standing.level) club ≡ true
itself_by_record sheet season group club standing has is =
    level_itself (by_head_to_head sheet season (clubs_in group))
    (by_head_to_head_total sheet season (clubs_in group)) (clubs_in group) club standing has is

pub itself_by_points : (sheet : Sheet) (season : Results) (club : ℕ) (standing : Standing)
    → club < length sheet.clubs
    → IsStandingOf (by_points sheet season) (clubs_of sheet) club standing
    → has_club (clubs_in standing.level) club ≡ true
itself_by_points sheet season club standing below is =
    level_itself (by_points sheet season) (by_points_total sheet season) (clubs_of sheet) club
    standing (is_of_sheet sheet club below) is

-- the clubs that an order leaves level are clubs of the group
pub level_in_group : (order : ℕ → ℕ → Ordering) (group : List ℕ) (club : ℕ) (standing : Standing)
    → IsStandingOf order group club standing → (x : ℕ)
    → has_club (clubs_in standing.level) x ≡ true → has_club group x ≡ true
level_in_group order group club standing is x has =
    (and_parts (has_club group x) (is_eq (order x club)) (sym (is.level x) ∙ has)).0

-- if difference and goals over all matches come first, and then who leads among the clubs that
-- share them
pub standing_overall_first : (sheet : Sheet) (season : Results) (group : ClubSet) (club : ℕ)
    (outer inner : Standing) (ahead : ClubSet)
    → IsStandingOf (by_first_sums sheet season) (clubs_in group) club outer
    → IsStandingOf (lead_in sheet season (clubs_in outer.level)) (clubs_in outer.level) club inner
    → ((x : ℕ) → has_club (clubs_in ahead) x
    ≡ (has_club (clubs_in outer.ahead) x || has_club (clubs_in inner.ahead) x))
    → IsStandingOf (standing_by OverallFirst sheet season (clubs_in group)) (clubs_in group) club
    (record { ahead = ahead; level = inner.level })
standing_overall_first sheet season group club outer inner ahead is_first is_next union =
    let all = clubs_in group in
    let level_is : clubs_in outer.level ≡ level_overall sheet season all club =
    level_list (by_first_sums sheet season) group club outer is_first in
    standing_then (by_first_sums sheet season) (lead_in sheet season (clubs_in outer.level))
    (standing_by OverallFirst sheet season all) all club outer inner ahead is_first is_next
    (λ x has.
    then_agree (by_first_sums sheet season x club) _ _
    (λ tied. ap (λ xs. lead_in sheet season xs x club)
    (level_overall-tied sheet season all x club tied ∙ sym level_is)))
    union

-- the clubs on a club's points are its tied group
pub level_by_points : (sheet : Sheet) (season : Results) (club : ℕ) (standing : Standing)
    → length sheet.clubs ≤ 32
    → IsStandingOf (by_points sheet season) (clubs_of sheet) club standing
    → clubs_in standing.level ≡ tied_group_of sheet season club
level_by_points sheet season club standing few is =
    clubs_below-filter_range 32 standing.level.bits (length sheet.clubs)
    (λ other. int_eq (points_of sheet season other) (points_of sheet season club)) few
    (λ x.
    is.level x
    ∙ (λ i. has_club-range (length sheet.clubs) x i && (eq_by_cmp_equiv int_cmp_total).symm
    (points_of sheet season club) (points_of sheet season x) i))

-- before the lots clubs stand by their points, and then as they stand among those on one number
pub standing_without_lots : (sheet : Sheet) (season : Results) (club : ℕ)
    (outer inner : Standing) (ahead : ClubSet) → length sheet.clubs ≤ 32
    → IsStandingOf (by_points sheet season) (clubs_of sheet) club outer
    → IsStandingOf (standing_in sheet season (clubs_in outer.level)) (clubs_in outer.level) club
    inner
    → ((x : ℕ) → has_club (clubs_in ahead) x
    ≡ (has_club (clubs_in outer.ahead) x || has_club (clubs_in inner.ahead) x))
    → IsStandingOf (order_without_lots sheet season) (clubs_of sheet) club
    (record { ahead = ahead; level = inner.level })
standing_without_lots sheet season club outer inner ahead few is_first is_next union =
    let level_is = level_by_points sheet season club outer few is_first in
    standing_then (by_points sheet season) (standing_in sheet season (clubs_in outer.level))
    (order_without_lots sheet season) (clubs_of sheet) club outer inner ahead is_first is_next
    (λ x has.
    then_agree (by_points sheet season x club) _ _
    (λ tied. ap (λ xs. standing_in sheet season xs x club)
    (tied_group_of-tied sheet season x club tied ∙ sym level_is)))
    union

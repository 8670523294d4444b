-- Rivals counted by sets of clubs.
use Rattle.std.proofs.Common.{◌≡◌, ◌≢◌, ℕ, ◌-◌, ◌<◌, ◌≤◌, Bool, true, false, not, ◌&&◌, ◌||◌, ◌==◌}
use Rattle.std.proofs.Common.{nat_lt, nat_le, ltb, List, [], ◌∷◌, length, refl, sym, ap, ◌∙◌, arith}
use Rattle.std.specs.Prelude.{count_by}
use Rattle.std.specs.List.{list_all, list_any, range_with_len}
use Rattle.std.proofs.Math.Bool.{or-false}
use Rattle.std.proofs.lemmas.Bool.{and_parts, ltb-true, lt-ltb, eqb-true, eqb-false, not-true}
use Rattle.std.proofs.lemmas.List.Sums.{length-filter}
use Rattle.league_core.specs.declared.sheet.Sheet.{Sheet}
use Rattle.league_core.specs.declared.question.Claim.{Claim}
use Rattle.league_core.specs.declared.question.Claim.TheVariants.{Inside, Outside}
use Rattle.league_core.specs.declared.question.Question.{Question}
use Rattle.league_core.specs.declared.sure.Sure.{Sure}
use Rattle.league_core.specs.search.SureOrder.{is_above, is_below}
use Rattle.league_core.specs.game.Sums.{has_club}
use Rattle.league_core.specs.game.ClubSets.{clubs_below}
use Rattle.league_core.specs.search.Zones.{others_of}
use Rattle.league_core.specs.search.Reasons.{too_many}
use Rattle.league_core.proofs.ClubSetLemmas.{clubs_below-filter_range, has_club-range}
use Rattle.league_core.proofs.ClubSetLemmas.{filter_agree_in, has_club-filter}
use Rattle.league_core.proofs.ClubLemmas.{each_member}
use Rattle.league_core.proofs.plain.Numbers.{eqb-swap}
use Rattle.league_core.proofs.plain.Filters.{filter-filter}
use Rattle.league_core.proofs.plain.Counts.{any_counted}

-- the rivals of a set, counted
pub count_rivals-is : (clubs club bits chosen without first single : ℕ) → clubs ≤ 32
    → clubs_below 32 first ≡ range_with_len 0 clubs → clubs_below 32 single ≡ club ∷ []
    → ((x : ℕ) → has_club (clubs_below 32 without) x
    ≡ (has_club (clubs_below 32 first) x && not (has_club (clubs_below 32 single) x)))
    → ((x : ℕ) → has_club (clubs_below 32 bits) x
    ≡ (has_club (clubs_below 32 without) x && has_club (clubs_below 32 chosen) x))
    → length (clubs_below 32 bits) ≡ count_by (has_club (clubs_below 32 chosen))
    (others_of clubs club)
count_rivals-is clubs club bits chosen without first single few first_is single_is without_is is =
    let has = has_club (clubs_below 32 chosen) in
    let other : ℕ → Bool = λ x. not (x == club) in
    ap length
    (clubs_below-filter_range 32 bits clubs (λ x. other x && has x) few
    (λ x. is x ∙ ap (λ b. b && has x)
    (without_is x
    ∙ (λ i. has_club (first_is i) x && not (has_club (single_is i) x))
    ∙ (λ i. has_club-range clubs x i && not (alone x i)))
    ∙ grouped (ltb x clubs) (other x) (has x))
    ∙ sym (filter-filter has other (range_with_len 0 clubs)))
    ∙ length-filter has (others_of clubs club)
  where
    alone : (x : ℕ) → ((club == x) || false) ≡ (x == club)
    alone x = or-false (club == x) ∙ eqb-swap club x

    grouped : (a b c : Bool) → ((a && b) && c) ≡ (a && (b && c))
    grouped true b c = refl
    grouped false b c = refl

-- a rival is a club of the sheet
pub rival_below : (clubs club x : ℕ) → has_club (others_of clubs club) x ≡ true → x < clubs
rival_below clubs club x has =
    let parts = and_parts (has_club (range_with_len 0 clubs) x) (not (x == club))
    (sym (has_club-filter (λ y. not (y == club)) (range_with_len 0 clubs) x) ∙ has) in
    ltb-true x clubs (sym (has_club-range clubs x) ∙ parts.0)

-- tests that agree on the clubs count the same rivals
pub count_same : (clubs club : ℕ) (test other : ℕ → Bool)
    → ((x : ℕ) → has_club (others_of clubs club) x ≡ true → test x ≡ other x)
    → count_by test (others_of clubs club) ≡ count_by other (others_of clubs club)
count_same clubs club test other same =
    sym (length-filter test (others_of clubs club))
    ∙ ap length (filter_agree_in test other (others_of clubs club) same)
    ∙ length-filter other (others_of clubs club)

pub too_many_same : (sheet : Sheet) (question : Question) (front back front' back' : ℕ → Bool)
    (claim : Claim)
    → ((x : ℕ) → has_club (others_of (length sheet.clubs) question.club) x ≡ true
    → front x ≡ front' x)
    → ((x : ℕ) → has_club (others_of (length sheet.clubs) question.club) x ≡ true
    → back x ≡ back' x)
    → too_many sheet question front back claim ≡ too_many sheet question front' back' claim
too_many_same sheet question front back front' back' Inside fronts backs =
    ap (nat_le question.line)
    (count_same (length sheet.clubs) question.club front front' fronts)
too_many_same sheet question front back front' back' Outside fronts backs =
    ap (nat_le (length sheet.clubs - question.line))
    (count_same (length sheet.clubs) question.club back back' backs)

-- a club of the sheet that is surely before or behind, by a set
by_set : (clubs : List ℕ) (test : Sure → Bool) (said known : ℕ → Sure)
    → ((x : ℕ) → has_club clubs x ≡ (nat_lt x 32 && test (said x))) → (x : ℕ) → x < 32
    → said x ≡ known x → has_club clubs x ≡ test (known x)
by_set clubs test said known has x inside is =
    has x ∙ ap (λ b. b && test (said x)) (lt-ltb x 32 inside) ∙ ap test is

-- too many rivals, by sets
pub decided_by_sets : (sheet : Sheet) (question : Question)
    (before after above below front back : List ℕ) (said known : ℕ → Sure)
    → length sheet.clubs ≤ 24
    → ((x : ℕ) → has_club (others_of (length sheet.clubs) question.club) x ≡ true
    → said x ≡ known x)
    → ((x : ℕ) → has_club above x ≡ (nat_lt x 32 && is_above (said x)))
    → ((x : ℕ) → has_club below x ≡ (nat_lt x 32 && is_below (said x)))
    → ((x : ℕ) → has_club front x ≡ (has_club before x || has_club above x))
    → ((x : ℕ) → has_club back x ≡ (has_club after x || has_club below x))
    → too_many sheet question (has_club front) (has_club back) question.claim
    ≡ too_many sheet question (λ rival. has_club before rival || is_above (known rival))
    (λ rival. has_club after rival || is_below (known rival)) question.claim
decided_by_sets sheet question before after above below front back said known few is above_is
    below_is front_is back_is =
    too_many_same sheet question (has_club front) (has_club back)
    (λ rival. has_club before rival || is_above (known rival))
    (λ rival. has_club after rival || is_below (known rival)) question.claim
    (λ x rival. front_is x ∙ ap (λ b. has_club before x || b)
    (by_set above is_above said known above_is x (inside x rival) (is x rival)))
    (λ x rival. back_is x ∙ ap (λ b. has_club after x || b)
    (by_set below is_below said known below_is x (inside x rival) (is x rival)))
  where
    inside : (x : ℕ) → has_club (others_of (length sheet.clubs) question.club) x ≡ true → x < 32
    inside x rival =
        let there = rival_below (length sheet.clubs) question.club x rival in
        omega (arith, there, few)

-- a rival on the wrong side, by sets
pub wrong_by_sets : (clubs club : ℕ)
    (before after above below not_after not_before wrong : List ℕ) (said known : ℕ → Sure)
    → clubs ≤ 24 → ((x : ℕ) → has_club (others_of clubs club) x ≡ true → said x ≡ known x)
    → ((x : ℕ) → has_club above x ≡ (nat_lt x 32 && is_above (said x)))
    → ((x : ℕ) → has_club below x ≡ (nat_lt x 32 && is_below (said x)))
    → ((x : ℕ) → has_club not_after x ≡ (has_club after x && has_club above x))
    → ((x : ℕ) → has_club not_before x ≡ (has_club before x && has_club below x))
    → ((x : ℕ) → has_club wrong x ≡ (has_club not_after x || has_club not_before x))
    → nat_lt 0 (count_by (has_club wrong) (others_of clubs club))
    ≡ list_any (λ rival. (has_club after rival && is_above (known rival))
    || (has_club before rival && is_below (known rival))) (others_of clubs club)
wrong_by_sets clubs club before after above below not_after not_before wrong said known few is
    above_is below_is not_after_is not_before_is wrong_is =
    let wanted : ℕ → Bool = λ rival. (has_club after rival && is_above (known rival))
    || (has_club before rival && is_below (known rival)) in
    ap (nat_lt 0)
    (count_same clubs club (has_club wrong) wanted
    (λ x rival. wrong_is x
    ∙ (λ i. (not_after_is x ∙ ap (λ b. has_club after x && b)
    (by_set above is_above said known above_is x (inside x rival) (is x rival))) i
    || (not_before_is x ∙ ap (λ b. has_club before x && b)
    (by_set below is_below said known below_is x (inside x rival) (is x rival))) i)))
    ∙ any_counted wanted (others_of clubs club)
  where
    inside : (x : ℕ) → has_club (others_of clubs club) x ≡ true → x < 32
    inside x rival =
        let there = rival_below clubs club x rival in omega (arith, there, few)

-- a rival is a club of the sheet, and not the question's own
pub rival_parts : (clubs club x : ℕ) → has_club (others_of clubs club) x ≡ true
    → (has_club (range_with_len 0 clubs) x ≡ true) × (x ≢ club)
rival_parts clubs club x has =
    let parts = and_parts (has_club (range_with_len 0 clubs) x) (not (x == club))
    (sym (has_club-filter (λ y. not (y == club)) (range_with_len 0 clubs) x) ∙ has) in
    (parts.0, eqb-false x club (not-true (x == club) parts.1))

-- a group that has no other club has this one alone
pub alone_is : (group : List ℕ) (club other : ℕ)
    → list_all (has_club (club ∷ [])) group ≡ true → has_club group other ≡ true → other ≡ club
alone_is group club other all has =
    sym (eqb-true club other
    (sym (or-false (club == other)) ∙ each_member (has_club (club ∷ [])) group all other has))

-- Margins: one club's sums less another's. They say how the two compare, and in a group with one
-- club more they are those against this club beside those of the group.
use Rattle.std.proofs.Common.{◌≡◌, ◌⊎◌, ◌≢◌, ℕ, ℤ, pos, ◌+ℤ◌, ◌-ℤ◌, Bool, true, false, ◌&&◌, ◌||◌}
use Rattle.std.proofs.Common.{◌==◌, cond, List, [], ◌∷◌, map, Option, Some, None, refl, sym, ap}
use Rattle.std.proofs.Common.{◌∙◌, inl, inr, arith}
use Rattle.std.specs.Ordering.{ordering_then}
use Rattle.std.proofs.lemmas.Int.{ints}
use Rattle.std.proofs.lemmas.Bool.{false≢true, true≢false, eqb-true, cases_eq, ne_eqb}
use Rattle.league_core.specs.declared.sheet.Fixture.{Fixture}
use Rattle.league_core.specs.declared.season.Score.{Score}
use Rattle.league_core.specs.game.Sums.{Worth, has_club, worth_to, worth_among, sum_over}
use Rattle.league_core.specs.game.HeadToHead.{greater_first, by_first_difference}
use Rattle.league_core.proofs.SumLemmas.{sum_over-sum}
use Rattle.league_core.proofs.plain.Numbers.{eqb-swap}
use Rattle.near_laws.specs.Leads.{by_lead, added_parts, worth_against, margins}
use Rattle.near_laws.proofs.LeadLemmas.{sums_of}

-- two numbers compare as their difference with zero
greater_first-margin : (x y : ℤ) → greater_first x y ≡ greater_first (x -ℤ y) (pos 0)
greater_first-margin x y = grind (arith, ints)

pub by_lead-margins : {A : Type 0} (f g : A → ℤ) (worths : List A)
    → by_first_difference (map f worths) (map g worths)
    ≡ by_lead (map (λ worth. f worth -ℤ g worth) worths)
by_lead-margins f g [] = refl
by_lead-margins f g (worth ∷ worths) =
    ap (λ o. ordering_then o (by_first_difference (map f worths) (map g worths)))
    (greater_first-margin (f worth) (g worth))
    ∙ ap (ordering_then (greater_first (f worth -ℤ g worth) (pos 0))) (by_lead-margins f g worths)

sum_over-less : (value other : Fixture → Score → ℤ) (matches : List Fixture)
    (scores : List (Option Score))
    → sum_over (λ match score. value match score -ℤ other match score) matches scores
    ≡ sum_over value matches scores -ℤ sum_over other matches scores
sum_over-less value other [] scores = refl
sum_over-less value other (match ∷ matches) [] = refl
sum_over-less value other (match ∷ matches) (None ∷ scores) =
    omega (arith, ints, sum_over-less value other matches scores)
sum_over-less value other (match ∷ matches) (Some score ∷ scores) =
    omega (arith, ints, sum_over-less value other matches scores)

pub sums_of-margins : (count : Worth → ℕ → Fixture → Score → ℤ) (worths : List Worth)
    (front back : ℕ) (matches : List Fixture) (scores : List (Option Score))
    → sums_of (margins count worths front back) matches scores
    ≡ map (λ worth. sum_over (count worth front) matches scores
    -ℤ sum_over (count worth back) matches scores) worths
sums_of-margins count [] front back matches scores = refl
sums_of-margins count (worth ∷ worths) front back matches scores =
    λ i. sum_over-less (count worth front) (count worth back) matches scores i
    ∷ sums_of-margins count worths front back matches scores i

-- the sums of two clubs compare as the margins say
pub compare_by_margins : (count : Worth → ℕ → Fixture → Score → ℤ) (worths : List Worth)
    (front back : ℕ) (matches : List Fixture) (scores : List (Option Score))
    → by_first_difference (map (λ worth. sum_over (count worth front) matches scores) worths)
    (map (λ worth. sum_over (count worth back) matches scores) worths)
    ≡ by_lead (sums_of (margins count worths front back) matches scores)
compare_by_margins count worths front back matches scores =
    by_lead-margins (λ worth. sum_over (count worth front) matches scores)
    (λ worth. sum_over (count worth back) matches scores) worths
    ∙ ap by_lead (sym (sums_of-margins count worths front back matches scores))

-- ---- one club more in a group

-- a match that counts because of one club or because of others, but not of both
one_side : (rival same other : Bool) (worth : ℤ) → rival ≡ same → (same ≡ true → other ≡ false)
    → cond (rival || other) worth (pos 0)
    ≡ cond (same || false) worth (pos 0) +ℤ cond other worth (pos 0)
one_side true true true worth is apart = absurd (true≢false (apart refl))
one_side true true false worth is apart = omega (arith, ints)
one_side true false other worth is apart = absurd (true≢false is)
one_side false true other worth is apart = absurd (false≢true is)
one_side false false true worth is apart = omega (arith, ints)
one_side false false false worth is apart = refl

other_side : (rival same other : Bool) (worth : ℤ) → rival ≡ same → (same ≡ true → other ≡ false)
    → cond ((rival || other) && true) worth (pos 0)
    ≡ cond (same || (false || false)) worth (pos 0) +ℤ cond (other && true) worth (pos 0)
other_side true true true worth is apart = absurd (true≢false (apart refl))
other_side true true false worth is apart = omega (arith, ints)
other_side true false other worth is apart = absurd (true≢false is)
other_side false true other worth is apart = absurd (false≢true is)
other_side false false true worth is apart = omega (arith, ints)
other_side false false false worth is apart = refl

nothing : (a b c : Bool)
    → cond a (pos 0) (pos 0) ≡ cond b (pos 0) (pos 0) +ℤ cond c (pos 0) (pos 0)
nothing a b c = omega (arith, ints, zero a, zero b, zero c)
  where
    zero : (d : Bool) → cond d (pos 0) (pos 0) ≡ pos 0
    zero true = refl
    zero false = refl

-- in a group with one club more a match is worth what it is against that club, and what it is in
-- the group
worth_among-more : (group : List ℕ) (rival : ℕ) (worth : Worth) (club : ℕ) (match : Fixture)
    (score : Score) → has_club group club ≡ true → has_club group rival ≡ false
    → worth_among (rival ∷ group) worth club match score
    ≡ worth_against rival worth club match score +ℤ worth_among group worth club match score
worth_among-more group rival worth club match score member absent =
    by_side (cases_eq match.home club) (cases_eq match.away club)
  where
    apart : rival ≢ club
    apart same = true≢false (sym member ∙ ap (has_club group) (sym same) ∙ absent)

    out : (side : ℕ) → (side == rival) ≡ true → has_club group side ≡ false
    out side is = ap (has_club group) (eqb-true side rival is) ∙ absent

    by_side : (match.home ≡ club) ⊎ (match.home ≢ club) → (match.away ≡ club) ⊎ (match.away ≢ club)
        → worth_among (rival ∷ group) worth club match score
        ≡ worth_against rival worth club match score +ℤ worth_among group worth club match score
    by_side (inl home) away =
        rw (
          ap (has_club group) home ∙ member,
          ne_eqb rival match.home (λ e. apart (e ∙ home)),
          ne_eqb match.home rival (λ e. apart (sym e ∙ home)),
        )
        (one_side (rival == match.away) (match.away == rival) (has_club group match.away)
        (worth_to worth club match score) (eqb-swap rival match.away) (out match.away))
    by_side (inr home) (inl away) =
        rw (
          ap (has_club group) away ∙ member,
          ne_eqb rival match.away (λ e. apart (e ∙ away)),
          ne_eqb match.away rival (λ e. apart (sym e ∙ away)),
        )
        (other_side (rival == match.home) (match.home == rival) (has_club group match.home)
        (worth_to worth club match score) (eqb-swap rival match.home) (out match.home))
    by_side (inr home) (inr away) =
        rw (ne_eqb match.home club home, ne_eqb match.away club away)
        (nothing (has_club (rival ∷ group) match.home && has_club (rival ∷ group) match.away)
        (has_club (match.home ∷ match.away ∷ []) rival)
        (has_club group match.home && has_club group match.away))

-- what one of the sums gives the one club less what it gives the other
abbrev margin : (Worth → ℕ → Fixture → Score → ℤ) → Worth → ℕ → ℕ → Fixture → Score → ℤ
margin count worth front back match score =
    count worth front match score -ℤ count worth back match score

-- so the margins in the larger group are those against the club and those in the group
pub margins_with_one_more : (group : List ℕ) (rival : ℕ) (worths : List Worth) (front back : ℕ)
    (matches : List Fixture) (scores : List (Option Score)) → has_club group front ≡ true
    → has_club group back ≡ true → has_club group rival ≡ false
    → sums_of (margins (worth_among (rival ∷ group)) worths front back) matches scores
    ≡ added_parts (sums_of (margins (worth_against rival) worths front back) matches scores)
    (sums_of (margins (worth_among group) worths front back) matches scores)
margins_with_one_more group rival [] front back matches scores in_front in_back absent = refl
margins_with_one_more group rival (worth ∷ worths) front back matches scores in_front in_back
    absent =
    λ i. sum i
    ∷ margins_with_one_more group rival worths front back matches scores in_front in_back absent i
  where
    each : (match : Fixture) (score : Score)
        → margin (worth_among (rival ∷ group)) worth front back match score
        ≡ margin (worth_against rival) worth front back match score
        +ℤ margin (worth_among group) worth front back match score
    each match score =
        let mine = worth_among-more group rival worth front match score in_front absent in
        let theirs = worth_among-more group rival worth back match score in_back absent in
        omega (arith, ints)

    sum : sum_over (margin (worth_among (rival ∷ group)) worth front back) matches scores
        ≡ sum_over (margin (worth_against rival) worth front back) matches scores
        +ℤ sum_over (margin (worth_among group) worth front back) matches scores
    sum =
        ap (λ value. sum_over value matches scores) (λ i match score. each match score i)
        ∙ sum_over-sum (margin (worth_against rival) worth front back)
        (margin (worth_among group) worth front back) matches scores

-- margins in a group are those in any group of the same clubs
pub margins_in_same : (group other : List ℕ) (worths : List Worth) (front back : ℕ)
    (matches : List Fixture) (scores : List (Option Score))
    → ((club : ℕ) → has_club group club ≡ has_club other club)
    → sums_of (margins (worth_among group) worths front back) matches scores
    ≡ sums_of (margins (worth_among other) worths front back) matches scores
margins_in_same group other worths front back matches scores same =
    ap (λ count. sums_of (margins count worths front back) matches scores)
    (λ i worth club match score.
    cond (same match.home i && same match.away i) (worth_to worth club match score) (pos 0))

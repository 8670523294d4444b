-- The list of all finishes of a season: how long it is, what it has, and where a finish stands in
-- it.
use Rattle.std.proofs.Common.{◌≡◌, ℕ, zero, suc, ◌+◌, ◌*◌, ◌<◌, ◌≤◌, true, nat_le, List, [], ◌∷◌}
use Rattle.std.proofs.Common.{length, get_or, map, Option, Some, None, All, Contains, slice_get}
use Rattle.std.proofs.Common.{refl, sym, ap, ◌∙◌, subst, arith}
use Rattle.std.specs.List.{range_with_len}
use Rattle.std.proofs.Math.Nat.{mul-le-mul_right}
use Rattle.std.proofs.lemmas.Bool.{false≢true, and_parts, and_from, le-leb, leb-true}
use Rattle.std.proofs.lemmas.Option.{slice_get-get_or}
use Rattle.std.proofs.lemmas.List.{get_or-map, length-map}
use Rattle.std.proofs.lemmas.List.Elements.{All-map, All-contains, All-from_get_or}
use Rattle.std.proofs.lemmas.List.FromFn.{length-range_with_len, get_or-range_with_len}
use Rattle.std.proofs.lemmas.List.FromFn.{length-map-range_with_len, get_or-map-range_with_len}
use Rattle.league_core.specs.declared.season.Score.{Score}
use Rattle.league_core.specs.game.Finishes.{may_end, may_all_end}
use Rattle.league_core.specs.search.Options.{score_of, scores_up_to}
use Rattle.league_core.specs.inside.FinishList.{ends_of, with_first, finishes_of, ways_to_end}
use Rattle.league_core.specs.inside.FinishList.{ways_to_finish, score_number, end_number, number_of}
use Rattle.league_core.proofs.OptionLemmas.{same_score-true, same_score-itself}
use Rattle.league_core.proofs.plain.Parts.{All-pieces, get_or-pieces, length-pieces}
use Rattle.league_core.proofs.plain.Runs.{numbers_below}
use Rattle.league_core.proofs.plain.Numbers.{within_pieces}

-- the scores with these goals at home
abbrev row_of : ℕ → ℕ → List Score
row_of limit home = map (score_of home) (range_with_len 0 (limit + 1))

-- so many goals on either side
pub length-scores_up_to : (limit : ℕ) → length (scores_up_to limit) ≡ (limit + 1) * (limit + 1)
length-scores_up_to limit =
    length-pieces (row_of limit) (limit + 1)
    (λ home. length-map-range_with_len (score_of home) 0 (limit + 1))
    (range_with_len 0 (limit + 1))
    ∙ ap (λ n. n * (limit + 1)) (length-range_with_len 0 (limit + 1))

-- a fixture has as many ends as there are ways to end it
length-ends_of : (limit : ℕ) (played : Option Score)
    → length (ends_of limit played) ≡ ways_to_end limit played
length-ends_of limit None =
    length-map (scores_up_to limit) Some ∙ length-scores_up_to limit
length-ends_of limit (Some played) = refl

length-with_first : (limit : ℕ) (played : Option Score) (later : List (Option Score))
    → length (with_first limit played later) ≡ ways_to_end limit played
length-with_first limit played later =
    length-map (ends_of limit played) (λ ended. ended ∷ later) ∙ length-ends_of limit played

-- the list of finishes is as long as the product of the ways
pub length-finishes_of : (limit : ℕ) (season : List (Option Score))
    → length (finishes_of limit season) ≡ ways_to_finish limit season
length-finishes_of limit [] = refl
length-finishes_of limit (played ∷ season) =
    length-pieces (with_first limit played) (ways_to_end limit played)
    (length-with_first limit played) (finishes_of limit season)
    ∙ ap (λ n. n * ways_to_end limit played) (length-finishes_of limit season)
    ∙ omega arith

-- so it is never empty
pub ways_to_finish-some : (limit : ℕ) (season : List (Option Score))
    → 0 < ways_to_finish limit season
ways_to_finish-some limit [] = omega arith
ways_to_finish-some limit (None ∷ season) =
    let rest = ways_to_finish-some limit season in
    let more : 1 * ways_to_finish limit season
    ≤ (limit + 1) * (limit + 1) * ways_to_finish limit season =
    mul-le-mul_right (ways_to_finish limit season) (omega arith) in
    omega arith
ways_to_finish-some limit (Some played ∷ season) =
    let rest = ways_to_finish-some limit season in omega arith

-- where a value stands in a list
pub record StandsAt {A : Type 0} (xs : List A) (i : ℕ) (x : A) : Type 0 where
  pub within : i < length xs
  pub there : (d : A) → get_or xs i d ≡ x

score_stands : (limit : ℕ) (score : Score) → score.home ≤ limit → score.away ≤ limit
    → StandsAt (scores_up_to limit) (score_number limit score) score
score_stands limit score home away =
    let homes = range_with_len 0 (limit + 1) in
    let each : (x : ℕ) → length (row_of limit x) ≡ limit + 1 =
    λ x. length-map-range_with_len (score_of x) 0 (limit + 1) in
    record {
      within =
          subst (λ n. score_number limit score < n) (sym (length-scores_up_to limit))
          (within_pieces score.home score.away (limit + 1) (limit + 1) (omega arith) (omega arith));
      there = λ d.
          get_or-pieces (row_of limit) (limit + 1) each homes score.home score.away 0 d
          (omega (arith, length-range_with_len 0 (limit + 1))) (omega arith)
          ∙ ap (λ x. get_or (row_of limit x) score.away d)
          (get_or-range_with_len 0 (limit + 1) score.home 0 (omega arith) ∙ omega arith)
          ∙ get_or-map-range_with_len (score_of score.home) 0 (limit + 1) score.away score.away d
          (omega arith) (omega arith);
    }

end_stands : (limit : ℕ) (played ended : Option Score) → may_end limit played ended ≡ true
    → StandsAt (ends_of limit played) (end_number limit played ended) ended
end_stands limit None None may = absurd (false≢true may)
end_stands limit (Some played) None may = absurd (false≢true may)
end_stands limit None (Some ended) may =
    let parts = and_parts (nat_le ended.home limit) (nat_le ended.away limit) may in
    let at = score_stands limit ended (leb-true ended.home limit parts.0)
    (leb-true ended.away limit parts.1) in
    record {
      within = omega (arith, at.within, length-map (scores_up_to limit) Some);
      there = λ d.
          get_or-map Some (scores_up_to limit) (score_number limit ended) ended d at.within
          ∙ ap Some (at.there ended);
    }
end_stands limit (Some played) (Some ended) may = record {
  within = omega arith;
  there = λ d. ap Some (same_score-true played ended may);
}

-- a finish stands in the list of all at its number
pub finish_stands : (limit : ℕ) (season finish : List (Option Score))
    → may_all_end limit season finish ≡ true
    → StandsAt (finishes_of limit season) (number_of limit season finish) finish
finish_stands limit [] [] may = record { within = omega arith; there = λ d. refl }
finish_stands limit [] (ended ∷ finish) may = absurd (false≢true may)
finish_stands limit (played ∷ season) [] may = absurd (false≢true may)
finish_stands limit (played ∷ season) (ended ∷ finish) may =
    let parts = and_parts (may_end limit played ended) (may_all_end limit season finish) may in
    let later = finish_stands limit season finish parts.1 in
    let here = end_stands limit played ended parts.0 in
    let f = with_first limit played in
    let size = ways_to_end limit played in
    let below : end_number limit played ended
    < size = omega (arith, here.within, length-ends_of limit played) in
    record {
      within =
          subst (λ n. number_of limit (played ∷ season) (ended ∷ finish) < n)
          (sym (length-pieces f size (length-with_first limit played) (finishes_of limit season)))
          (within_pieces (number_of limit season finish) (end_number limit played ended)
          (length (finishes_of limit season)) size later.within below);
      there = λ d.
          get_or-pieces f size (length-with_first limit played) (finishes_of limit season)
          (number_of limit season finish) (end_number limit played ended) [] d later.within below
          ∙ ap (λ rest. get_or (f rest) (end_number limit played ended) d) (later.there [])
          ∙ get_or-map (λ end. end ∷ finish) (ends_of limit played)
          (end_number limit played ended) None d here.within
          ∙ ap (λ end. end ∷ finish) (here.there None);
    }

-- the same by `slice_get`
pub finish_at : (limit : ℕ) (season finish : List (Option Score))
    → may_all_end limit season finish ≡ true
    → slice_get (finishes_of limit season) (number_of limit season finish) ≡ Some finish
finish_at limit season finish may =
    let at = finish_stands limit season finish may in
    slice_get-get_or (finishes_of limit season) (number_of limit season finish) [] at.within
    ∙ ap Some (at.there [])

-- two finishes with one number are one finish
pub number_of-same : (limit : ℕ) (season finish other : List (Option Score))
    → may_all_end limit season finish ≡ true → may_all_end limit season other ≡ true
    → number_of limit season finish ≡ number_of limit season other → finish ≡ other
number_of-same limit season finish other may other_may same =
    sym ((finish_stands limit season finish may).there [])
    ∙ ap (λ n. get_or (finishes_of limit season) n []) same
    ∙ (finish_stands limit season other other_may).there []

ends_may : (limit : ℕ) (played : Option Score)
    → All (λ ended. may_end limit played ended ≡ true) (ends_of limit played)
ends_may limit None =
    All-map (λ ended. may_end limit None ended ≡ true) Some (scores_up_to limit)
    (All-pieces (λ home. home < limit + 1) (λ score. may_end limit None (Some score) ≡ true)
    (row_of limit)
    (λ home home_below.
    All-map (λ (score : Score). may_end limit None (Some score) ≡ true)
    (score_of home) (range_with_len 0 (limit + 1))
    (λ k d h.
    let away : get_or (range_with_len 0 (limit + 1)) k d
    < limit + 1 = numbers_below (limit + 1) k d h in
    and_from (nat_le home limit) (nat_le (get_or (range_with_len 0 (limit + 1)) k d) limit)
    (le-leb home limit (omega arith))
    (le-leb (get_or (range_with_len 0 (limit + 1)) k d) limit (omega arith))))
    (range_with_len 0 (limit + 1)) (numbers_below (limit + 1)))
ends_may limit (Some played) =
    All-from_get_or (λ ended. may_end limit (Some played) ended ≡ true) (Some played ∷ []) None
    first
  where
    first : (i : ℕ) → i < 1 → may_end limit (Some played) (get_or (Some played ∷ []) i None) ≡ true
    first zero h = same_score-itself played played refl
    first (suc i) h = absurd (omega arith)

-- each list of scores in the list of finishes is a finish's
finishes_may : (limit : ℕ) (season : List (Option Score))
    → All (λ finish. may_all_end limit season finish ≡ true) (finishes_of limit season)
finishes_may limit [] =
    All-from_get_or (λ finish. may_all_end limit [] finish ≡ true) ([] ∷ []) [] first
  where
    first : (i : ℕ) → i < 1 → may_all_end limit [] (get_or ([] ∷ []) i []) ≡ true
    first zero h = refl
    first (suc i) h = absurd (omega arith)
finishes_may limit (played ∷ season) =
    All-pieces (λ later. may_all_end limit season later ≡ true)
    (λ finish. may_all_end limit (played ∷ season) finish ≡ true) (with_first limit played)
    (λ later may.
    All-map (λ finish. may_all_end limit (played ∷ season) finish ≡ true) (λ ended. ended ∷ later)
    (ends_of limit played)
    (λ k d h.
    and_from (may_end limit played (get_or (ends_of limit played) k d))
    (may_all_end limit season later) (ends_may limit played k d h) may))
    (finishes_of limit season) (finishes_may limit season)

-- the list has exactly the finishes
pub finishes_listed : (limit : ℕ) (season finish : List (Option Score))
    → (Contains (finishes_of limit season) finish → may_all_end limit season finish ≡ true)
    × (may_all_end limit season finish ≡ true → Contains (finishes_of limit season) finish)
finishes_listed limit season finish = (
  All-contains (λ scores. may_all_end limit season scores ≡ true) (finishes_of limit season) finish
      (finishes_may limit season),
  λ may. let at = finish_stands limit season finish may in
      (number_of limit season finish, at.within, at.there finish),
)

-- A walk over the fixtures: before the first, with one more, and after the last.
use Rattle.std.proofs.Common.{◌≡◌, ℕ, ℤ, pos, ◌+◌, ◌-◌, ◌*◌, ◌+ℤ◌, ◌-ℤ◌, ◌<◌, ◌≤◌}
use Rattle.std.proofs.Common.{cond, List, [], ◌∷◌, ◌++◌, length, get_or, take, drop}
use Rattle.std.proofs.Common.{replicate, Option, Some, None, refl, sym, ap, ◌∙◌, subst, inl, inr}
use Rattle.std.proofs.Common.{arith}
use Rattle.std.proofs.lemmas.Int.{ints}
use Rattle.std.proofs.lemmas.Bool.{cases_lt}
use Rattle.std.proofs.lemmas.List.{drop_more, drop_all, get_or-replicate, get_or_past}
use Rattle.std.proofs.lemmas.List.{length-replicate, map-id, append-nil}
use Rattle.std.proofs.lemmas.List.FromFn.{filter_of_map_range_with_len_more}
use Rattle.league_core.specs.declared.sheet.Fixture.{Fixture}
use Rattle.league_core.specs.declared.sheet.Sheet.{Sheet}
use Rattle.league_core.specs.declared.season.Score.{Score}
use Rattle.league_core.specs.game.Results.{Results}
use Rattle.league_core.specs.game.Sums.{Worth}
use Rattle.league_core.specs.game.Sums.{worth_to, if_played, sum_over}
use Rattle.near_laws.specs.Leads.{worth_against}
use Rattle.near_bound.specs.declared.margin.Margin.{Margin}
use Rattle.near_bound.specs.declared.played.PlayedPart.{PlayedPart}
use Rattle.near_bound.specs.inside.Margins.{IsMarginBy, IsMarginWithin}
use Rattle.near_bound.specs.inside.PlayedParts.{is_open, open_below, no_margin, margin_listed}
use Rattle.near_bound.specs.inside.PlayedParts.{club_margin, pair_margin, ArePartsNear, IsPartNear}
use Rattle.near_bound.specs.inside.PlayedParts.{AddsValue}
use Rattle.near_bound.specs.inside.PlayedParts.{TakesFixture, sum_so_far, IsPartSoFar}
use Rattle.near_bound.specs.inside.PlayedParts.{IsPlayedPart, AreSizes}
use Rattle.near_bound.proofs.PlayedLemmas.{none_within}
use Rattle.near_bound.proofs.PlayedLemmas.{by_sum, by_same}
use Rattle.near_bound.proofs.PlayedLemmas.{sizes_stay}

-- ---- one fixture more

open_below-suc : (count : ℕ) (scores : List (Option Score))
    → open_below (count + 1) scores
    ≡ open_below count scores ++ cond (is_open (get_or scores count None)) (count ∷ []) []
open_below-suc count scores =
    let more = filter_of_map_range_with_len_more
    (λ fixture. is_open (get_or scores fixture None)) (λ (x : ℕ). x) 0 count count
    (omega arith) in
    rw (map-id, map-id) at more

-- a sum takes the next match
sum_more : (value : Worth → Fixture → Score → ℤ) (matches : List Fixture)
    (scores : List (Option Score)) (count : ℕ) (d : Fixture) (worth : Worth)
    → count < length matches → count < length scores
    → sum_so_far value matches scores (count + 1) worth
    ≡ sum_so_far value matches scores count worth
    +ℤ if_played (value worth) (get_or matches count d) (get_or scores count None)
sum_more value matches scores count d worth inside there =
    let from_match = drop_more matches count d inside in
    let from_score = drop_more scores count None there in
    let rest : sum_over (value worth) (drop count matches) (drop count scores)
    ≡ if_played (value worth) (get_or matches count d) (get_or scores count None)
    +ℤ sum_over (value worth) (drop (count + 1) matches) (drop (count + 1) scores) =
    λ i. sum_over (value worth) (from_match i) (from_score i) in
    omega (arith, ints, rest)

-- and without a match to come it is whole
sum_whole : (value : Worth → Fixture → Score → ℤ) (matches : List Fixture)
    (scores : List (Option Score)) (count : ℕ) (worth : Worth) → length matches ≤ count
    → sum_so_far value matches scores count worth ≡ sum_over (value worth) matches scores
sum_whole value matches scores count worth past =
    let none = ap (λ ms. sum_over (value worth) ms (drop count scores))
    (drop_all count matches past) in
    omega (arith, ints, none)

added_more : (value : Worth → Fixture → Score → ℤ) (matches : List Fixture)
    (scores : List (Option Score)) (count : ℕ) (d : Fixture) (score : Score) (old new : Margin)
    → count < length matches → count < length scores → get_or scores count None ≡ Some score
    → IsMarginBy (sum_so_far value matches scores count) old
    → AddsValue (λ worth. value worth (get_or matches count d) score) old new
    → IsMarginBy (sum_so_far value matches scores (count + 1)) new
added_more value matches scores count d score old new inside there played so_far adds =
    by_sum (sum_so_far value matches scores count)
    (λ worth. value worth (get_or matches count d) score)
    (sum_so_far value matches scores (count + 1)) old adds.0 new so_far adds.1 adds.3
    (λ worth. sum_more value matches scores count d worth inside there
    ∙ ap (λ s. sum_so_far value matches scores count worth
    +ℤ if_played (value worth) (get_or matches count d) s) played)

none_more : (value : Worth → Fixture → Score → ℤ) (matches : List Fixture)
    (scores : List (Option Score)) (count : ℕ) (margin : Margin)
    → count < length matches → count < length scores → get_or scores count None ≡ None
    → IsMarginBy (sum_so_far value matches scores count) margin
    → IsMarginBy (sum_so_far value matches scores (count + 1)) margin
none_more value matches scores count margin inside there none so_far =
    let d : Fixture = record { home = 0; away = 0 } in
    by_same (sum_so_far value matches scores count) (sum_so_far value matches scores (count + 1))
    margin so_far
    (λ worth.
    let more = sum_more value matches scores count d worth inside there
    ∙ ap (λ s. sum_so_far value matches scores count worth
    +ℤ if_played (value worth) (get_or matches count d) s) none in
    omega (arith, ints, more))

-- a part goes on by one fixture
pub part_more : (sheet : Sheet) (season : Results) (count : ℕ) (d : Fixture)
    (score : Option Score) (old new : PlayedPart) → count < length sheet.fixtures
    → count < length season.scores → get_or season.scores count None ≡ score
    → TakesFixture count (get_or sheet.fixtures count d) score old new
    → IsPartSoFar sheet season count old → IsPartSoFar sheet season (count + 1) new
part_more sheet season count d None old new inside there is takes so_far = record {
  is_open =
      takes.listed
      ∙ ap (λ xs. xs ++ count ∷ []) so_far.is_open
      ∙ sym (ap (λ s. open_below count season.scores ++ cond (is_open s) (count ∷ []) []) is)
      ∙ sym (open_below-suc count season.scores);
  few = omega (arith, takes.count, so_far.few);
  clubs = λ club.
      subst (λ (ms : List Margin). IsMarginBy
      (sum_so_far (λ worth. worth_to worth club) sheet.fixtures season.scores (count + 1))
      (margin_listed ms club)) (sym takes.clubs)
      (none_more (λ worth. worth_to worth club) sheet.fixtures season.scores count
      (club_margin old club) inside there is (so_far.clubs club));
  pairs = λ club rival club_in rival_in apart.
      subst (λ (ms : List Margin). IsMarginBy
      (sum_so_far (λ worth. worth_against rival worth club) sheet.fixtures season.scores
      (count + 1))
      (margin_listed ms (32 * club + rival))) (sym takes.pairs)
      (none_more (λ worth. worth_against rival worth club) sheet.fixtures season.scores count
      (pair_margin old club rival) inside there is
      (so_far.pairs club rival club_in rival_in apart));
  near = λ played sum.
      let before = so_far.near played (omega (arith, sum, takes.count)) in record {
        clubs = λ club.
            subst (λ (ms : List Margin). IsMarginWithin (255 * played) (margin_listed ms club))
            (sym takes.clubs) (before.clubs club);
        pairs = λ place.
            subst (λ (ms : List Margin). IsMarginWithin (255 * played) (margin_listed ms place))
            (sym takes.pairs) (before.pairs place);
      };
  sizes = sizes_stay old new takes.sizes so_far.sizes;
}
part_more sheet season count d (Some score) old new inside there is takes so_far = record {
  is_open =
      (λ i. take (takes.keeps.count i) (takes.keeps.unplayed i))
      ∙ so_far.is_open
      ∙ sym (append-nil (open_below count season.scores))
      ∙ sym (ap (λ s. open_below count season.scores ++ cond (is_open s) (count ∷ []) []) is)
      ∙ sym (open_below-suc count season.scores);
  few = omega (arith, takes.keeps.count, so_far.few);
  clubs = λ club.
      added_more (λ worth. worth_to worth club) sheet.fixtures season.scores count d score
      (club_margin old club) (club_margin new club) inside there is (so_far.clubs club)
      (takes.clubs club);
  pairs = λ club rival club_in rival_in apart.
      added_more (λ worth. worth_against rival worth club) sheet.fixtures season.scores count d
      score (pair_margin old club rival) (pair_margin new club rival) inside there is
      (so_far.pairs club rival club_in rival_in apart)
      (takes.pairs club rival club_in rival_in apart);
  near = near;
  sizes = sizes_stay old new takes.sizes so_far.sizes;
}
  where
    near : IsPartNear new (count + 1)
    near played sum =
        let one : (played - 1) + 1 ≡ played =
        omega (arith, sum, takes.keeps.count, so_far.few) in
        subst (λ (n : ℕ). ArePartsNear new n) one
        (takes.near (played - 1)
        (so_far.near (played - 1) (omega (arith, sum, takes.keeps.count, so_far.few))))

-- over no fixture
pub part_none : (sheet : Sheet) (season : Results) (part : PlayedPart)
    → part.unplayed_count ≡ 0 → part.clubs ≡ replicate 32 no_margin
    → part.pairs ≡ replicate 1024 no_margin → AreSizes part → IsPartSoFar sheet season 0 part
part_none sheet season part none clubs_are pairs_are sizes = record {
  is_open = ap (λ n. take n part.unplayed) none;
  few = omega (arith, none);
  clubs = λ club.
      subst (λ (m : Margin). IsMarginBy
      (sum_so_far (λ worth. worth_to worth club) sheet.fixtures season.scores 0) m)
      (sym (club_is club)) (zero_by (λ worth. worth_to worth club));
  pairs = λ club rival club_in rival_in apart.
      subst (λ (m : Margin). IsMarginBy
      (sum_so_far (λ worth. worth_against rival worth club) sheet.fixtures season.scores 0) m)
      (sym (pair_is (32 * club + rival))) (zero_by (λ worth. worth_against rival worth club));
  near = λ played sum. record {
    clubs = λ club.
        subst (λ (m : Margin). IsMarginWithin (255 * played) m) (sym (club_is club))
        (none_within (255 * played));
    pairs = λ place.
        subst (λ (m : Margin). IsMarginWithin (255 * played) m) (sym (pair_is place))
        (none_within (255 * played));
  };
  sizes = sizes;
}
  where
    listed : (size place : ℕ) → margin_listed (replicate size no_margin) place ≡ no_margin
    listed size place =
        elim (cases_lt place size) as (λ _.
        margin_listed (replicate size no_margin) place ≡ no_margin) [
          | inl within ↦ get_or-replicate size place no_margin no_margin within
          | inr past ↦ get_or_past (replicate size no_margin) place no_margin
              (omega (arith, past, length-replicate {A = Margin} size no_margin))
        ]

    club_is : (club : ℕ) → club_margin part club ≡ no_margin
    club_is club = ap (λ ms. margin_listed ms club) clubs_are ∙ listed 32 club

    pair_is : (place : ℕ) → margin_listed part.pairs place ≡ no_margin
    pair_is place = ap (λ ms. margin_listed ms place) pairs_are ∙ listed 1024 place

    zero_by : (value : Worth → Fixture → Score → ℤ)
        → IsMarginBy (sum_so_far value sheet.fixtures season.scores 0) no_margin
    zero_by value =
        by_same (λ worth. pos 0) (sum_so_far value sheet.fixtures season.scores 0) no_margin
        (record {
          points = refl;
          difference = refl;
          goals = refl;
          away_goals = refl;
          wins = refl;
          away_wins = refl;
        })
        (λ worth. self_less (sum_over (value worth) sheet.fixtures season.scores))
      where
        self_less : (x : ℤ) → pos 0 ≡ x -ℤ x
        self_less x = omega (arith, ints)

-- over all fixtures
pub part_whole : (sheet : Sheet) (season : Results) (count : ℕ) (part : PlayedPart)
    → count ≡ length sheet.fixtures → length season.scores ≡ length sheet.fixtures
    → IsPartSoFar sheet season count part → IsPlayedPart sheet season part
part_whole sheet season count part all same so_far = record {
  is_open = so_far.is_open ∙ ap (λ n. open_below n season.scores) (all ∙ sym same);
  few = omega (arith, all, so_far.few);
  clubs = λ club.
      by_same (sum_so_far (λ worth. worth_to worth club) sheet.fixtures season.scores count)
      (λ worth. sum_over (worth_to worth club) sheet.fixtures season.scores)
      (club_margin part club) (so_far.clubs club)
      (λ worth. sum_whole (λ w. worth_to w club) sheet.fixtures season.scores count worth
      (omega (arith, all)));
  pairs = λ club rival club_in rival_in apart.
      by_same
      (sum_so_far (λ worth. worth_against rival worth club) sheet.fixtures season.scores count)
      (λ worth. sum_over (worth_against rival worth club) sheet.fixtures season.scores)
      (pair_margin part club rival) (so_far.pairs club rival club_in rival_in apart)
      (λ worth. sum_whole (λ w. worth_against rival w club) sheet.fixtures season.scores count
      worth (omega (arith, all)));
  near = λ played sum. so_far.near played (sum ∙ sym all);
  sizes = so_far.sizes;
}

-- What is kept of a season's matches is what a zone with a finish leaves of them.
use Rattle.std.proofs.Common.{◌≡◌, ◌≢◌, ◌<◌, ◌≤◌, ◌+◌, ◌⊎◌, inl, inr, ℕ, Bool, true, false, cond}
use Rattle.std.proofs.Common.{List, [], ◌∷◌, length, get_or, take, is_some, Option, Some, None}
use Rattle.std.proofs.Common.{refl, sym, ap, ◌∙◌}
use Rattle.std.proofs.Common.{arith, subst, set}
use Rattle.std.proofs.lemmas.Bool.{false≢true, cases_lt, cases_eq}
use Rattle.std.proofs.lemmas.List.{get_or_past, get_or-set_same, get_or-set_other}
use Rattle.std.proofs.lemmas.List.{get_or_default, get_or-take, length-take-le}
use Rattle.league_core.specs.declared.season.Score.{Score}
use Rattle.league_core.specs.declared.zone.Literal.{Literal}
use Rattle.league_core.specs.search.Options.{has_score, has_option, has_finish, options_of, meets}
use Rattle.league_core.specs.search.Options.{options_in}
use Rattle.league_core.proofs.OptionLemmas.{length-options_from}
use Rattle.league_core.proofs.LiteralLemmas.{options_at, option_at}
use Rattle.near_bound.specs.declared.match_left.MatchLeft.{MatchLeft}
use Rattle.near_bound.specs.inside.MatchesLeft.{IsLeftOf}
use Rattle.near_bound.specs.inside.ZonesLeft.{AreLeftOf}
use Rattle.score_box.specs.inside.ZoneBoxViews.{ZoneBoxView}
use Rattle.near_box.specs.inside.ZoneMatches.{nothing_left, match_kept, HaveResults, IsResultLeft}

-- a result that a zone with a finish leaves is all that it leaves of its match
pub result_stays : (limit : ℕ) (zone : List Literal) (fixture : ℕ) (score : Score)
    (left : MatchLeft) → IsLeftOf left (score ∷ [])
    → has_option (options_of limit zone fixture (Some score)) ≡ true
    → IsLeftOf left (options_of limit zone fixture (Some score))
result_stays limit zone fixture score left is some =
    by (meets zone fixture score) refl
  where
    by : (met : Bool) → meets zone fixture score ≡ met
        → IsLeftOf left (options_of limit zone fixture (Some score))
    by true met = λ other.
        is other ∙ ap (λ b. has_score (cond b (score ∷ []) []) other) (sym met)
    by false met =
        absurd (false≢true (ap (λ b. has_option (cond b (score ∷ []) [])) (sym met) ∙ some))

-- a fixture that a table says nothing of has no result
none_past : (scores : List (Option Score)) (fixture : ℕ) (score : Score)
    → length scores ≤ fixture → get_or scores fixture None ≡ Some score → ⊥
none_past scores fixture score past is =
    false≢true (ap is_there (sym (get_or_past scores fixture None past) ∙ is))
  where
    is_there : Option Score → Bool
    is_there None = false
    is_there (Some one) = true

-- the results of the first fixtures are in their places
abbrev pub HaveFirst : List (Option Score) → ℕ → List MatchLeft → Type 0
HaveFirst scores count matches =
    (fixture : ℕ) (score : Score) → fixture < count → get_or scores fixture None ≡ Some score
    → IsLeftOf (match_kept matches fixture) (score ∷ [])

pub one_result_more : (scores : List (Option Score)) (matches : List MatchLeft) (i : ℕ)
    (left : MatchLeft) → i < length matches → HaveFirst scores i matches
    → IsResultLeft (get_or scores i None) left → HaveFirst scores (i + 1) (set matches i left)
one_result_more scores matches i left inside before here fixture score below is =
    by (cases_eq fixture i)
  where
    After : MatchLeft → Type 0
    After one = IsLeftOf one (score ∷ [])

    by : (fixture ≡ i) ⊎ (fixture ≢ i) → After (match_kept (set matches i left) fixture)
    by (inl same) =
        subst (λ (n : ℕ). After (match_kept (set matches i left) n)) (sym same)
        (subst After (sym (get_or-set_same matches i left nothing_left inside))
        (subst (λ (o : Option Score). IsResultLeft o left)
        (ap (λ (n : ℕ). get_or scores n None) (sym same) ∙ is) here))
    by (inr other) =
        subst After (sym (get_or-set_other matches i fixture left nothing_left other))
        (before fixture score (omega (arith, below, other)) is)

pub all_results : (scores : List (Option Score)) (count : ℕ) (matches : List MatchLeft)
    → length scores ≤ count → HaveFirst scores count matches → HaveResults scores matches
all_results scores count matches all first fixture score is = by (cases_lt fixture (length scores))
  where
    by : (fixture < length scores) ⊎ (length scores ≤ fixture)
        → IsLeftOf (match_kept matches fixture) (score ∷ [])
    by (inl inside) = first fixture score (omega (arith, all, inside)) is
    by (inr past) = absurd (none_past scores fixture score past is)

-- what the zone of a box leaves of the first matches is in their places
abbrev pub AreFirstFilled : ZoneBoxView → ℕ → List MatchLeft → Type 0
AreFirstFilled box count matches =
    (fixture : ℕ) → fixture < count → IsLeftOf (match_kept matches fixture)
    (get_or (options_in box.sheet box.season box.zone) fixture [])

-- a match with a result needs nothing
pub result_is_filled : (box : ZoneBoxView) (matches : List MatchLeft) (i : ℕ) (score : Score)
    → has_finish box.sheet box.season box.zone ≡ true → i < length box.season.scores
    → HaveResults box.season.scores matches → get_or box.season.scores i None ≡ Some score
    → AreFirstFilled box i matches → AreFirstFilled box (i + 1) matches
result_is_filled box matches i score finish inside results is before fixture below =
    by (cases_eq fixture i)
  where
    options : List (List Score)
    options = options_in box.sheet box.season box.zone

    Is : ℕ → Type 0
    Is n = IsLeftOf (match_kept matches n) (get_or options n [])

    at : get_or options i [] ≡ options_of box.sheet.goal_limit box.zone i (Some score)
    at = options_at box.sheet.goal_limit box.zone box.season.scores i inside
        ∙ ap (options_of box.sheet.goal_limit box.zone i) is

    there : i < length options
    there = omega (
      arith,
      inside,
      length-options_from box.sheet.goal_limit box.zone 0
          box.season.scores,
    )

    here : Is i
    here = subst (IsLeftOf (match_kept matches i)) (sym at)
        (result_stays box.sheet.goal_limit box.zone i score (match_kept matches i)
        (results i score is)
        (ap has_option (sym at) ∙ option_at box.sheet box.season box.zone i finish there))

    by : (fixture ≡ i) ⊎ (fixture ≢ i) → Is fixture
    by (inl same) = subst Is (sym same) here
    by (inr other) = before fixture (omega (arith, below, other))

-- an open one is filled in, and no result is lost
pub open_is_filled : (box : ZoneBoxView) (matches : List MatchLeft) (i : ℕ) (left : MatchLeft)
    → i < length matches
    → IsLeftOf left (get_or (options_in box.sheet box.season box.zone) i [])
    → AreFirstFilled box i matches → AreFirstFilled box (i + 1) (set matches i left)
open_is_filled box matches i left inside is before fixture below = by (cases_eq fixture i)
  where
    options : List (List Score)
    options = options_in box.sheet box.season box.zone

    by : (fixture ≡ i) ⊎ (fixture ≢ i)
        → IsLeftOf (match_kept (set matches i left) fixture) (get_or options fixture [])
    by (inl same) =
        subst (λ (n : ℕ). IsLeftOf (match_kept (set matches i left) n) (get_or options n []))
        (sym same)
        (subst (λ (one : MatchLeft). IsLeftOf one (get_or options i []))
        (sym (get_or-set_same matches i left nothing_left inside)) is)
    by (inr other) =
        subst (λ (one : MatchLeft). IsLeftOf one (get_or options fixture []))
        (sym (get_or-set_other matches i fixture left nothing_left other))
        (before fixture (omega (arith, below, other)))

pub results_stay : (scores : List (Option Score)) (matches : List MatchLeft) (i : ℕ)
    (left : MatchLeft) → get_or scores i None ≡ None → HaveResults scores matches
    → HaveResults scores (set matches i left)
results_stay scores matches i left no_result results fixture score is = by (cases_eq fixture i)
  where
    is_there : Option Score → Bool
    is_there None = false
    is_there (Some one) = true

    by : (fixture ≡ i) ⊎ (fixture ≢ i)
        → IsLeftOf (match_kept (set matches i left) fixture) (score ∷ [])
    by (inl same) =
        absurd (false≢true (ap is_there (sym no_result
        ∙ ap (λ (n : ℕ). get_or scores n None) (sym same) ∙ is)))
    by (inr other) =
        subst (λ (one : MatchLeft). IsLeftOf one (score ∷ []))
        (sym (get_or-set_other matches i fixture left nothing_left other))
        (results fixture score is)

-- a fixture of which it is not said that it has a result has none
pub no_result_there : (result : Option Score) → is_some result ≡ false → result ≡ None
no_result_there None none = refl
no_result_there (Some score) none = absurd (false≢true (sym none))

-- otherwise it has one
pub result_there : (result : Option Score) → is_some result ≡ true
    → (score : Score) × (result ≡ Some score)
result_there None some = absurd (false≢true some)
result_there (Some score) some = (score, refl)

-- when all matches are filled in, the first ones are what the zone leaves
pub all_filled_in : (box : ZoneBoxView) (matches : List MatchLeft) (fixtures count : ℕ)
    → length matches ≡ 600 → fixtures ≤ 600 → length box.season.scores ≡ fixtures
    → fixtures ≤ count → AreFirstFilled box count matches
    → AreLeftOf (take fixtures matches) (options_in box.sheet box.season box.zone)
all_filled_in box matches fixtures count long few scores all filled = record {
  many = omega (
    arith,
    length-take-le fixtures matches (omega (arith, few, long)),
    scores,
    length-options_from box.sheet.goal_limit box.zone 0 box.season.scores,
  );
  each = λ k d within.
      let below : k < fixtures =
      omega (arith, within, length-take-le fixtures matches (omega (arith, few, long))) in
      subst (λ (one : MatchLeft). IsLeftOf one
      (get_or (options_in box.sheet box.season box.zone) k []))
      (get_or_default matches k nothing_left d (omega (arith, below, few, long))
      ∙ sym (get_or-take fixtures matches k d below))
      (filled k (omega (arith, below, all)));
}

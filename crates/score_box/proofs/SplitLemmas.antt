-- Sums over all fixtures, split into those that are played and those that are not; and what a set
-- of clubs comes to, from what each of its clubs comes to alone.
use Rattle.std.proofs.Common.{◌≡◌, ◌≢◌, ℕ, zero, suc, ◌+◌, ◌<◌, ℤ, pos, ◌+ℤ◌, ◌-ℤ◌, Bool, true}
use Rattle.std.proofs.Common.{false, ◌&&◌, eqb, cond, List, [], ◌∷◌, filter, length, get_or, Option}
use Rattle.std.proofs.Common.{None, Some, refl, sym, ap, ◌∙◌, subst, inl, inr, arith, add-one, ◌++◌}
use Rattle.std.proofs.Common.{◌≤◌, take}
use Rattle.std.specs.List.{range_with_len}
use Rattle.std.proofs.lemmas.Int.{ints}
use Rattle.std.proofs.lemmas.Bool.{false≢true, true≢false, cases_lt, eqb-true, cases_Bool}
use Rattle.std.proofs.lemmas.List.{get_or_past, get_or_append_left, get_or_push, length_push}
use Rattle.std.proofs.lemmas.List.{append-nil, take_more}
use Rattle.league_core.specs.declared.sheet.Sheet.{Sheet}
use Rattle.league_core.specs.declared.sheet.Fixture.{Fixture}
use Rattle.league_core.specs.declared.season.Score.{Score}
use Rattle.league_core.specs.declared.zone.Literal.{Literal}
use Rattle.league_core.specs.game.Results.{Results}
use Rattle.league_core.specs.game.Sums.{has_club, if_played, sum_over}
use Rattle.league_core.specs.game.ClubSets.{clubs_below}
use Rattle.league_core.specs.search.Options.{has_option, has_finish, meets, options_of, options_in}
use Rattle.league_core.specs.search.PointRanges.{Range, one_value, added, range_of, range_from}
use Rattle.league_core.specs.search.PointRanges.{total_of, points_together, points_of_sides}
use Rattle.league_core.proofs.ClubSetLemmas.{has_club-clubs_below}
use Rattle.league_core.proofs.OptionLemmas.{length-options_from}
use Rattle.league_core.proofs.PointRangeLemmas.{range_of-same, total_of-same, total_of-sum}
use Rattle.league_core.proofs.PointRangeLemmas.{points_together-sides, total_of-one}
use Rattle.league_core.proofs.PointRangeLemmas.{total_of-append}
use Rattle.score_box.proofs.PathLemmas.{unplayed_below-zero, unplayed_below-suc}
use Rattle.league_core.proofs.SumLemmas.{total_of-zero}
use Rattle.league_core.proofs.LiteralLemmas.{options_at}
use Rattle.score_box.specs.inside.Unplayed.{is_unplayed, unplayed_below, unplayed_in}
use Rattle.score_box.specs.inside.Ends.{alone_in, alone_over}
use Rattle.score_box.proofs.EndLemmas.{alone_sides}
use Rattle.league_core.proofs.plain.Lists.{list_all-at}

-- a range of numbers that begins one later
range_shift : (value : ℕ → ℤ) (first count : ℕ)
    → total_of value (range_with_len (first + 1) count)
    ≡ total_of (λ k. value (suc k)) (range_with_len first count)
range_shift value first zero = refl
range_shift value first (suc count) =
    ap (λ n. value n +ℤ total_of value (range_with_len (first + 1 + 1) count)) (add-one first)
    ∙ ap (λ n. value (suc first) +ℤ n) (range_shift value (first + 1) count)

-- the numbers that fail a test have a base, and the others none
pub split_sum : (test : ℕ → Bool) (value base : ℕ → ℤ) (numbers : List ℕ)
    → ((k : ℕ) → test k ≡ false → value k ≡ base k)
    → ((k : ℕ) → test k ≡ true → base k ≡ pos 0)
    → total_of value numbers ≡ total_of base numbers +ℤ total_of value (filter test numbers)
split_sum test value base [] same none = refl
split_sum test value base (k ∷ numbers) same none =
    let rest = split_sum test value base numbers same none in
    let Goal : Bool → Type 0 = λ b. value k +ℤ total_of value numbers
    ≡ (base k +ℤ total_of base numbers)
    +ℤ total_of value (cond b (k ∷ filter test numbers) (filter test numbers)) in
    elim (cases_Bool (test k)) as (λ _. Goal (test k)) [
      | inl is ↦ subst Goal (sym is)
          (let nothing = none k is in omega (arith, ints, rest, nothing))
      | inr is ↦ subst Goal (sym is)
          (let here = same k is in omega (arith, ints, rest, here))
    ]

-- a match that is not in a sheet
abbrev pub no_match : Fixture
no_match = record { home = 0; away = 0 }

-- ---- ranges by the numbers of their fixtures

-- an end of ranges: of nothing it is nothing, and of two together both
pub record IsEnd (end : Range → ℤ) : Type 0 where
  pub none : end (one_value (pos 0)) ≡ pos 0
  pub adds : (range other : Range) → end (added range other) ≡ end range +ℤ end other

pub least_end : IsEnd (λ range. range.least)
least_end = record { none = refl; adds = λ range other. refl }

pub greatest_end : IsEnd (λ range. range.greatest)
greatest_end = record { none = refl; adds = λ range other. refl }

-- what a fixture comes to
abbrev pub end_at_fixture : (Range → ℤ) → (Fixture → Score → ℤ) → List Fixture
    → List (List Score) → ℕ → ℤ
end_at_fixture end value matches options k =
    end (range_of (value (get_or matches k no_match)) (get_or options k []))

pub range_by_number : (end : Range → ℤ) → IsEnd end → (value : Fixture → Score → ℤ)
    (matches : List Fixture) (options : List (List Score)) → length options ≡ length matches
    → end (range_from value matches options)
    ≡ total_of (end_at_fixture end value matches options) (range_with_len 0 (length matches))
range_by_number end is value [] options many = is.none
range_by_number end is value (match ∷ matches) [] many = absurd (omega arith)
range_by_number end is value (match ∷ matches) (scores ∷ options) many =
    is.adds (range_of (value match) scores) (range_from value matches options)
    ∙ ap (λ n. end (range_of (value match) scores) +ℤ n)
    (range_by_number end is value matches options (omega arith)
    ∙ sym (range_shift (end_at_fixture end value (match ∷ matches) (scores ∷ options)) 0
    (length matches)))

-- what a score of a fixture is worth
abbrev pub worth_at_fixture : (Fixture → Score → ℤ) → List Fixture → List (Option Score) → ℕ → ℤ
worth_at_fixture value matches scores k =
    if_played value (get_or matches k no_match) (get_or scores k None)

pub sum_by_number : (value : Fixture → Score → ℤ) (matches : List Fixture)
    (scores : List (Option Score)) → length scores ≡ length matches
    → sum_over value matches scores
    ≡ total_of (worth_at_fixture value matches scores) (range_with_len 0 (length matches))
sum_by_number value [] scores many = refl
sum_by_number value (match ∷ matches) [] many = absurd (omega arith)
sum_by_number value (match ∷ matches) (score ∷ scores) many =
    ap (λ n. if_played value match score +ℤ n)
    (sum_by_number value matches scores (omega arith)
    ∙ sym (range_shift (worth_at_fixture value (match ∷ matches) (score ∷ scores)) 0
    (length matches)))

-- ---- what is played, and what is not

unplayed-is : (count : ℕ) (scores : List (Option Score)) → length scores ≡ count
    → unplayed_in scores
    ≡ filter (λ fixture. is_unplayed (get_or scores fixture None)) (range_with_len 0 count)
unfolding unplayed_below
unplayed-is count scores many =
    ap (λ n. filter (λ fixture. is_unplayed (get_or scores fixture None)) (range_with_len 0 n)) many

-- each of them is a fixture
abbrev AllBelow : List ℕ → ℕ → Type 0
AllBelow numbers bound = (i d : ℕ) → i < length numbers → get_or numbers i d < bound

below_more : (keep : Bool) (numbers : List ℕ) (count : ℕ) → AllBelow numbers count
    → AllBelow (numbers ++ cond keep (count ∷ []) []) (count + 1)
below_more true numbers count each i d within =
    let long = length_push numbers count in
    elim (cases_lt i (length numbers)) as (λ _. get_or (numbers ++ count ∷ []) i d < count + 1) [
      | inl before ↦
          let same = get_or_append_left numbers (count ∷ []) d i before in
          let less = each i d before in
          omega (arith, same, less)
      | inr last ↦
          let same = get_or_push numbers count d i (omega (arith, long)) in
          omega (arith, same)
    ]
below_more false numbers count each i d within =
    let same = append-nil numbers in
    let less = each i d (omega (arith, ap (λ (l : List ℕ). length l) same)) in
    omega (arith, ap (λ (l : List ℕ). get_or l i d) same, less)

few_more : (keep : Bool) (numbers : List ℕ) (count : ℕ) → length numbers ≤ count
    → length (numbers ++ cond keep (count ∷ []) []) ≤ count + 1
few_more true numbers count few = omega (arith, length_push numbers count)
few_more false numbers count few =
    omega (arith, ap (λ (l : List ℕ). length l) (append-nil numbers))

below_count : (scores : List (Option Score)) (count : ℕ)
    → AllBelow (unplayed_below count scores) count
below_count scores zero =
    subst (λ numbers. AllBelow numbers 0) (sym (unplayed_below-zero scores))
    (λ i d within. absurd (omega arith))
below_count scores (suc count) =
    subst (λ (n : ℕ). AllBelow (unplayed_below n scores) n) (add-one count)
    (subst (λ numbers. AllBelow numbers (count + 1)) (sym (unplayed_below-suc count scores))
    (below_more (is_unplayed (get_or scores count None)) (unplayed_below count scores) count
    (below_count scores count)))

few_below : (scores : List (Option Score)) (count : ℕ)
    → length (unplayed_below count scores) ≤ count
few_below scores zero =
    subst (λ (numbers : List ℕ). length numbers ≤ 0) (sym (unplayed_below-zero scores))
    (omega arith)
few_below scores (suc count) =
    subst (λ (n : ℕ). length (unplayed_below n scores) ≤ n) (add-one count)
    (subst (λ (numbers : List ℕ). length numbers ≤ count + 1)
    (sym (unplayed_below-suc count scores))
    (few_more (is_unplayed (get_or scores count None)) (unplayed_below count scores) count
    (few_below scores count)))

pub unplayed_in_range : (scores : List (Option Score)) (i d : ℕ) → i < length (unplayed_in scores)
    → get_or (unplayed_in scores) i d < length scores
unplayed_in_range scores i d within = below_count scores (length scores) i d within

-- the same, if the list of them is known by another name
pub open_fixture : (scores : List (Option Score)) (unplayed : List ℕ) (i d : ℕ)
    → unplayed ≡ unplayed_in scores → i < length unplayed → get_or unplayed i d < length scores
open_fixture scores unplayed i d are within =
    let same = ap (λ (xs : List ℕ). get_or xs i d) are in
    let low = unplayed_in_range scores i d (omega (arith, within, ap length are)) in
    omega (arith, same, low)

-- and there are no more of them than fixtures
pub unplayed_few : (scores : List (Option Score)) → length (unplayed_in scores) ≤ length scores
unplayed_few scores = few_below scores (length scores)

-- a total over the first of some numbers, and over one more
pub total_take : (value : ℕ → ℤ) (numbers : List ℕ) (i d : ℕ) → i < length numbers
    → total_of value (take (i + 1) numbers)
    ≡ total_of value (take i numbers) +ℤ value (get_or numbers i d)
total_take value numbers i d within =
    ap (total_of value) (take_more numbers i d within)
    ∙ total_of-append value (take i numbers) (get_or numbers i d ∷ [])
    ∙ omega (arith, ints)

nothing_open : (value : Fixture → Score → ℤ) (match : Fixture) (score : Option Score)
    → is_unplayed score ≡ true → if_played value match score ≡ pos 0
nothing_open value match None is = refl
nothing_open value match (Some score) is = absurd (false≢true is)

-- a sum over a later season is that over the season, and over what was not played in it
pub sum_split : (value : Fixture → Score → ℤ) (matches : List Fixture)
    (scores later : List (Option Score)) → length scores ≡ length matches
    → length later ≡ length matches
    → ((k : ℕ) → is_unplayed (get_or scores k None) ≡ false
    → get_or later k None ≡ get_or scores k None)
    → sum_over value matches later ≡ sum_over value matches scores
    +ℤ total_of (worth_at_fixture value matches later) (unplayed_in scores)
sum_split value matches scores later many many_later same =
    sum_by_number value matches later many_later
    ∙ split_sum (λ k. is_unplayed (get_or scores k None)) (worth_at_fixture value matches later)
    (worth_at_fixture value matches scores) (range_with_len 0 (length matches))
    (λ k is. ap (if_played value (get_or matches k no_match)) (same k is))
    (λ k is. nothing_open value (get_or matches k no_match) (get_or scores k None) is)
    ∙ ap (λ n. n +ℤ total_of (worth_at_fixture value matches later)
    (filter (λ k. is_unplayed (get_or scores k None)) (range_with_len 0 (length matches))))
    (sym (sum_by_number value matches scores many))
    ∙ ap (λ (ks : List ℕ). sum_over value matches scores
    +ℤ total_of (worth_at_fixture value matches later) ks)
    (sym (unplayed-is (length matches) scores many))

-- if a played fixture has its score as its one option
abbrev pub KeepsPlayed : List (Option Score) → List (List Score) → Type 0
KeepsPlayed scores options =
    (k : ℕ) → is_unplayed (get_or scores k None) ≡ false
    → (score : Score) × (get_or scores k None ≡ Some score) × (get_or options k [] ≡ score ∷ [])

-- so the range over all fixtures is the sum over the season, and the range over the others
pub range_split : (end : Range → ℤ) → IsEnd end → ((n : ℤ) → end (one_value n) ≡ n)
    → (value : Fixture → Score → ℤ) (matches : List Fixture) (scores : List (Option Score))
    (options : List (List Score)) → length scores ≡ length matches
    → length options ≡ length matches → KeepsPlayed scores options
    → end (range_from value matches options) ≡ sum_over value matches scores
    +ℤ total_of (end_at_fixture end value matches options) (unplayed_in scores)
range_split end is one value matches scores options many many_options keeps =
    range_by_number end is value matches options many_options
    ∙ split_sum (λ k. is_unplayed (get_or scores k None)) (end_at_fixture end value matches options)
    (worth_at_fixture value matches scores) (range_with_len 0 (length matches)) played
    (λ k open_is. nothing_open value (get_or matches k no_match) (get_or scores k None) open_is)
    ∙ ap (λ n. n +ℤ total_of (end_at_fixture end value matches options)
    (filter (λ k. is_unplayed (get_or scores k None)) (range_with_len 0 (length matches))))
    (sym (sum_by_number value matches scores many))
    ∙ ap (λ (ks : List ℕ). sum_over value matches scores
    +ℤ total_of (end_at_fixture end value matches options) ks)
    (sym (unplayed-is (length matches) scores many))
  where
    played : (k : ℕ) → is_unplayed (get_or scores k None) ≡ false
        → end_at_fixture end value matches options k ≡ worth_at_fixture value matches scores k
    played k is_played =
        let found = keeps k is_played in
        ap (λ (o : List Score). end (range_of (value (get_or matches k no_match)) o)) found.2
        ∙ one (value (get_or matches k no_match) found.0)
        ∙ ap (if_played value (get_or matches k no_match)) (sym found.1)

-- in a zone that has a finish it has
pub keeps_played : (sheet : Sheet) (season : Results) (zone : List Literal)
    → has_finish sheet season zone ≡ true
    → KeepsPlayed season.scores (options_in sheet season zone)
unfolding has_finish
keeps_played sheet season zone finish k is =
    let long = length-options_from sheet.goal_limit zone 0 season.scores in
    let within = inside k is in
    let there = list_all-at has_option (options_in sheet season zone) k [] (omega (arith, long))
    finish in
    let same = options_at sheet.goal_limit zone season.scores k within in
    let found = of_played (get_or season.scores k None) is
    (subst (λ options. has_option options ≡ true) same there) in
    (found.0, found.1, same ∙ found.2)
  where
    inside : (k : ℕ) → is_unplayed (get_or season.scores k None) ≡ false
        → k < length season.scores
    inside k is =
        elim (cases_lt k (length season.scores)) as (λ _. k < length season.scores) [
          | inl within ↦ within
          | inr past ↦ absurd (true≢false
              (sym (ap is_unplayed (get_or_past season.scores k None past)) ∙ is))
        ]

    of_played : (ended : Option Score) → is_unplayed ended ≡ false
        → has_option (options_of sheet.goal_limit zone k ended) ≡ true
        → (score : Score) × (ended ≡ Some score)
        × (options_of sheet.goal_limit zone k ended ≡ score ∷ [])
    of_played None not_so option = absurd (true≢false not_so)
    of_played (Some score) not_so option = (score, refl, kept)
      where
        kept : options_of sheet.goal_limit zone k (Some score) ≡ score ∷ []
        kept =
            elim (cases_Bool (meets zone k score)) as
            (λ _. options_of sheet.goal_limit zone k (Some score) ≡ score ∷ []) [
              | inl met ↦ rw met refl
              | inr dropped ↦ absurd (false≢true (rw dropped at option))
            ]

-- ---- sets of clubs

-- what the options of a match come to for a set, beyond what they come to for each club alone
abbrev pub beyond_alone : (Range → ℤ) → List ℕ → Fixture → List Score → ℤ
beyond_alone end clubs match options =
    end (range_of (points_together clubs match) options)
    -ℤ total_of (λ club. end (alone_in club match options)) clubs

-- the same of a fixture by its number
abbrev pub beyond_at : (Range → ℤ) → List ℕ → List Fixture → List (List Score) → ℕ → ℤ
beyond_at end clubs matches options k =
    beyond_alone end clubs (get_or matches k no_match) (get_or options k [])

-- a set comes to what its clubs come to alone, and what each match adds beyond that
set_by_number : (end : Range → ℤ) → IsEnd end → (clubs : List ℕ) (matches : List Fixture)
    (options : List (List Score)) → length options ≡ length matches
    → end (range_from (points_together clubs) matches options)
    ≡ total_of (λ club. end (alone_over matches options club)) clubs
    +ℤ total_of (beyond_at end clubs matches options) (range_with_len 0 (length matches))
set_by_number end is clubs [] options many =
    let none = total_of-same (λ club. end (one_value (pos 0))) (λ club. pos 0) clubs
    (λ club. is.none) ∙ total_of-zero clubs in
    omega (arith, ints, none, is.none)
set_by_number end is clubs (match ∷ matches) [] many = absurd (omega arith)
set_by_number end is clubs (match ∷ matches) (scores ∷ options) many =
    let rest = set_by_number end is clubs matches options (omega arith) in
    let first = is.adds (range_of (points_together clubs match) scores)
    (range_from (points_together clubs) matches options) in
    let each = total_of-same (λ club. end (alone_over (match ∷ matches) (scores ∷ options) club))
    (λ club. end (alone_in club match scores) +ℤ end (alone_over matches options club)) clubs
    (λ club. is.adds (alone_in club match scores) (alone_over matches options club))
    ∙ total_of-sum (λ club. end (alone_in club match scores))
    (λ club. end (alone_over matches options club)) clubs in
    let later = range_shift (beyond_at end clubs (match ∷ matches) (scores ∷ options)) 0
    (length matches) in
    omega (arith, ints, rest, first, each, later)

-- one score leaves nothing beyond
beyond_one : (end : Range → ℤ) → IsEnd end → (clubs : List ℕ) (match : Fixture) (score : Score)
    → end (one_value (points_together clubs match score))
    ≡ total_of (λ club. end (one_value (points_together (club ∷ []) match score))) clubs
beyond_one end is [] match score = is.none
beyond_one end is (club ∷ clubs) match score =
    let own = points_together (club ∷ []) match score in
    let rest = points_together clubs match score in
    let sum : points_together (club ∷ clubs) match score ≡ own +ℤ rest = omega (arith, ints) in
    ap (λ n. end (one_value n)) sum
    ∙ is.adds (one_value own) (one_value rest)
    ∙ ap (λ n. end (one_value own) +ℤ n) (beyond_one end is clubs match score)

-- so only the fixtures that are not played add anything beyond
pub set_split : (end : Range → ℤ) → IsEnd end → (clubs : List ℕ) (matches : List Fixture)
    (scores : List (Option Score)) (options : List (List Score))
    → length scores ≡ length matches → length options ≡ length matches
    → KeepsPlayed scores options
    → end (range_from (points_together clubs) matches options)
    ≡ total_of (λ club. end (alone_over matches options club)) clubs
    +ℤ total_of (beyond_at end clubs matches options) (unplayed_in scores)
set_split end is clubs matches scores options many many_options keeps =
    let all = set_by_number end is clubs matches options many_options in
    let parts = split_sum (λ k. is_unplayed (get_or scores k None))
    (beyond_at end clubs matches options) (λ k. pos 0) (range_with_len 0 (length matches)) played
    (λ k is_open. refl) in
    let none = total_of-zero (range_with_len 0 (length matches)) in
    let later : total_of (beyond_at end clubs matches options)
    (filter (λ k. is_unplayed (get_or scores k None)) (range_with_len 0 (length matches)))
    ≡ total_of (beyond_at end clubs matches options) (unplayed_in scores) =
    ap (total_of (beyond_at end clubs matches options))
    (sym (unplayed-is (length matches) scores many)) in
    omega (arith, ints, all, parts, none, later)
  where
    played : (k : ℕ) → is_unplayed (get_or scores k None) ≡ false
        → beyond_at end clubs matches options k ≡ pos 0
    played k is_played =
        let found = keeps k is_played in
        let one = beyond_one end is clubs (get_or matches k no_match) found.0 in
        ap (λ (o : List Score). beyond_alone end clubs (get_or matches k no_match) o) found.2
        ∙ omega (arith, ints, one)

-- what the two sides of a match add alone, and beyond that together
abbrev pub sides_come_to : (Range → ℤ) → List Score → ℤ → ℤ → ℤ → Type 0
sides_come_to end options home away both =
    (h a : Bool) → end (range_of (points_of_sides h a) options)
    ≡ cond h home (pos 0) +ℤ cond a away (pos 0) +ℤ cond (h && a) both (pos 0)

-- is what the match adds to a set beyond what it adds to each club, if both are of the set
pub beyond_of_sides : (end : Range → ℤ) (bits : ℕ) (match : Fixture) (options : List Score)
    (home away both : ℤ) → match.home ≢ match.away → sides_come_to end options home away both
    → beyond_alone end (clubs_below 32 bits) match options
    ≡ cond (has_club (clubs_below 32 bits) match.home && has_club (clubs_below 32 bits) match.away)
    both (pos 0)
beyond_of_sides end bits match options home away both apart come =
    let clubs = clubs_below 32 bits in
    let all : end (range_of (points_together clubs match) options)
    ≡ cond (has_club clubs match.home) home (pos 0) +ℤ cond (has_club clubs match.away) away (pos 0)
    +ℤ cond (has_club clubs match.home && has_club clubs match.away) both (pos 0) =
    ap end (range_of-same (points_together clubs match)
    (points_of_sides (has_club clubs match.home) (has_club clubs match.away)) options
    (λ score. points_together-sides bits match score apart))
    ∙ come (has_club clubs match.home) (has_club clubs match.away) in
    let each : total_of (λ club. end (alone_in club match options)) clubs
    ≡ cond (has_club clubs match.home) home (pos 0)
    +ℤ cond (has_club clubs match.away) away (pos 0) =
    total_of-same (λ club. end (alone_in club match options))
    (λ club. cond (eqb match.home club) home (pos 0) +ℤ cond (eqb match.away club) away (pos 0))
    clubs alone
    ∙ total_of-sum (λ club. cond (eqb match.home club) home (pos 0))
    (λ club. cond (eqb match.away club) away (pos 0)) clubs
    ∙ ap (λ n. n +ℤ total_of (λ club. cond (eqb match.away club) away (pos 0)) clubs)
    (side match.home home)
    ∙ ap (λ n. cond (has_club clubs match.home) home (pos 0) +ℤ n) (side match.away away) in
    omega (arith, ints, all, each)
  where
    side : (x : ℕ) (number : ℤ)
        → total_of (λ club. cond (eqb x club) number (pos 0)) (clubs_below 32 bits)
        ≡ cond (has_club (clubs_below 32 bits) x) number (pos 0)
    side x number =
        total_of-one x number 32 bits
        ∙ ap (λ b. cond b number (pos 0)) (sym (has_club-clubs_below 32 bits x))

    not_both : (h a : Bool) → (h ≡ true → a ≡ true → ⊥)
        → cond h home (pos 0) +ℤ cond a away (pos 0) +ℤ cond (h && a) both (pos 0)
        ≡ cond h home (pos 0) +ℤ cond a away (pos 0)
    not_both true true never = absurd (never refl refl)
    not_both true false never = omega (arith, ints)
    not_both false true never = omega (arith, ints)
    not_both false false never = omega (arith, ints)

    alone : (club : ℕ) → end (alone_in club match options)
        ≡ cond (eqb match.home club) home (pos 0) +ℤ cond (eqb match.away club) away (pos 0)
    alone club =
        ap end (range_of-same (points_together (club ∷ []) match)
        (points_of_sides (eqb match.home club) (eqb match.away club)) options
        (λ score. alone_sides club match score apart))
        ∙ come (eqb match.home club) (eqb match.away club)
        ∙ not_both (eqb match.home club) (eqb match.away club)
        (λ h a. apart (eqb-true match.home club h ∙ sym (eqb-true match.away club a)))

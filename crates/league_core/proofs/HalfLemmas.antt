-- The halves of a zone: which options and which finishes a test leaves in them.
use Rattle.std.proofs.Common.{◌≡◌, ℕ, suc, ◌≤◌, Bool, true, false, not, ◌&&◌, nat_le}
use Rattle.std.proofs.Common.{nat_lt, List, [], ◌∷◌, length, Option, Some, None, refl, ap}
use Rattle.std.proofs.Common.{◌∙◌, ◌||◌, arith}
use Rattle.std.specs.List.{list_all}
use Rattle.std.proofs.lemmas.Bool.{false≢true, and_parts, and_from, or_left, eq-eqb}
use Rattle.std.proofs.lemmas.Bool.{le-leb}
use Rattle.std.proofs.lemmas.List.Elements.{filter_agree}
use Rattle.std.proofs.lemmas.List.Folds.{list_all-append, list_any-append}
use Rattle.league_core.specs.declared.sheet.Sheet.{Sheet}
use Rattle.league_core.specs.declared.season.Score.{Score}
use Rattle.league_core.specs.declared.question.Question.{Question}
use Rattle.league_core.specs.declared.zone.Test.{Test}
use Rattle.league_core.specs.declared.zone.Test.TheVariants.{Home, Draw, HomeMost, AwayMost, Rival}
use Rattle.league_core.specs.declared.zone.Literal.{Literal}
use Rattle.league_core.specs.game.Results.{Results}
use Rattle.league_core.specs.search.Zones.{passes, is_on, is_of_rival, is_as_said, with_test}
use Rattle.league_core.specs.search.Zones.{is_of_score, marked_before, marked_after}
use Rattle.league_core.specs.search.Options.{score_of, endings, meets_literal, meets, options_of}
use Rattle.league_core.specs.search.Options.{options_from, options_in, has_option, has_finish}
use Rattle.league_core.specs.search.Trees.{Tree, open_leaf, lent_leaf, refuted_leaf, branch}
use Rattle.league_core.specs.search.Trees.{NodesMeet}
use Rattle.league_core.specs.search.Splits.{have_both_finish, is_proper, IsProperNode}
use Rattle.league_core.proofs.OptionLemmas.{has_score-options_of}
use Rattle.league_core.proofs.OptionTestLemmas.{has_option-some}
use Rattle.std.proofs.Math.Bool.{and-true, or-false}

-- what all of a zone pass and the new literal passes, the half passes
pub list_all-with : (p : Literal → Bool) (zone : List Literal) (test : Test) (holds : Bool)
    → list_all p (with_test zone test holds) ≡
    (list_all p zone && p (record { test = test; yes = holds }))
list_all-with p zone test holds =
    list_all-append p zone (record { test = test; yes = holds } ∷ [])
    ∙ ap (λ b. list_all p zone && b) (and-true (p (record { test = test; yes = holds })))

-- a literal on another fixture takes no option away
pub options_of-off : (limit : ℕ) (zone : List Literal) (test : Test) (holds : Bool) (fixture : ℕ)
    (played : Option Score) → is_on fixture test ≡ false
    → options_of limit (with_test zone test holds) fixture played
    ≡ options_of limit zone fixture played
options_of-off limit zone test holds fixture played off =
    filter_agree (meets (with_test zone test holds) fixture) (meets zone fixture) (λ score.
    list_all-with (meets_literal fixture score) zone test holds
    ∙ ap (λ b. meets zone fixture score && b)
    (or_left (not (is_on fixture test)) (is_as_said holds (passes test score)) (ap not off))
    ∙ and-true (meets zone fixture score)) (endings limit played)

-- a test on none of the fixtures from one on leaves all their options
pub options_from-off : (limit : ℕ) (zone : List Literal) (test : Test) (holds : Bool)
    (season : List (Option Score)) (fixture : ℕ) → ((i : ℕ) → fixture ≤ i → is_on i test ≡ false)
    → options_from limit (with_test zone test holds) fixture season
    ≡ options_from limit zone fixture season
options_from-off limit zone test holds [] fixture off = refl
options_from-off limit zone test holds (played ∷ season) fixture off =
    ap (λ here. here ∷ options_from limit (with_test zone test holds) (suc fixture) season)
    (options_of-off limit zone test holds fixture played (off fixture (omega arith)))
    ∙ ap (λ more. options_of limit zone fixture played ∷ more)
    (options_from-off limit zone test holds season (suc fixture) (λ i later. off i (omega arith)))

no_fixture : (test : Test) (rival i : ℕ) → is_of_rival rival test ≡ true → is_on i test ≡ false
no_fixture (Home fixture) rival i of_rival = absurd (false≢true of_rival)
no_fixture (Draw fixture) rival i of_rival = absurd (false≢true of_rival)
no_fixture (HomeMost fixture most) rival i of_rival = absurd (false≢true of_rival)
no_fixture (AwayMost fixture most) rival i of_rival = absurd (false≢true of_rival)
no_fixture (Rival club) rival i of_rival = refl

-- a test of a rival leaves all options, so it leaves a finish exactly when there was one
pub options_kept : (sheet : Sheet) (season : Results) (zone : List Literal) (test : Test)
    (holds : Bool) (rival : ℕ) → is_of_rival rival test ≡ true
    → options_in sheet season (with_test zone test holds) ≡ options_in sheet season zone
options_kept sheet season zone test holds rival of_rival =
    options_from-off sheet.goal_limit zone test holds season.scores 0
    (λ i from. no_fixture test rival i of_rival)

pub rival_has_finish : (sheet : Sheet) (season : Results) (zone : List Literal) (test : Test)
    (holds : Bool) (rival : ℕ) → is_of_rival rival test ≡ true
    → has_finish sheet season (with_test zone test holds) ≡ has_finish sheet season zone
unfolding has_finish
rival_has_finish sheet season zone test holds rival of_rival =
    ap (list_all has_option) (options_kept sheet season zone test holds rival of_rival)

-- each half of a proper split of a zone with a finish has one
scores_have_finish : (sheet : Sheet) (season : Results) (zone : List Literal) (test : Test)
    (named : Bool) (holds : Bool) → (named && have_both_finish sheet season zone test) ≡ true
    → has_finish sheet season (with_test zone test holds) ≡ true
scores_have_finish sheet season zone test named holds proper =
    by_half holds
    (and_parts (has_finish sheet season (with_test zone test true))
    (has_finish sheet season (with_test zone test false))
    (and_parts named (have_both_finish sheet season zone test) proper).1)
  where
    by_half : (b : Bool) → (has_finish sheet season (with_test zone test true) ≡ true)
        × (has_finish sheet season (with_test zone test false) ≡ true)
        → has_finish sheet season (with_test zone test b) ≡ true
    by_half true both = both.0
    by_half false both = both.1

pub half_has_finish : (sheet : Sheet) (season : Results) (question : Question)
    (zone : List Literal) (test : Test) (holds : Bool) → has_finish sheet season zone ≡ true
    → is_proper sheet season question zone test ≡ true
    → has_finish sheet season (with_test zone test holds) ≡ true
half_has_finish sheet season question zone (Home fixture) holds some proper =
    scores_have_finish sheet season zone (Home fixture)
    (nat_lt fixture (length sheet.fixtures)) holds proper
half_has_finish sheet season question zone (Draw fixture) holds some proper =
    scores_have_finish sheet season zone (Draw fixture)
    (nat_lt fixture (length sheet.fixtures)) holds proper
half_has_finish sheet season question zone (HomeMost fixture most) holds some proper =
    scores_have_finish sheet season zone (HomeMost fixture most)
    (nat_lt fixture (length sheet.fixtures)) holds proper
half_has_finish sheet season question zone (AwayMost fixture most) holds some proper =
    scores_have_finish sheet season zone (AwayMost fixture most)
    (nat_lt fixture (length sheet.fixtures)) holds proper
half_has_finish sheet season question zone (Rival club) holds some proper =
    rival_has_finish sheet season zone (Rival club) holds club (eq-eqb club club refl) ∙ some

-- so if all splits are proper, each node's zone has a finish
pub nodes_have_finish : (sheet : Sheet) (season : Results) (question : Question) (tree : Tree)
    (zone : List Literal) → has_finish sheet season zone ≡ true
    → NodesMeet (IsProperNode sheet season question) zone tree
    → NodesMeet (λ z node. has_finish sheet season z ≡ true) zone tree
nodes_have_finish sheet season question open_leaf zone some proper = some
nodes_have_finish sheet season question (lent_leaf number) zone some proper = some
nodes_have_finish sheet season question (refuted_leaf reason fresh) zone some proper = some
nodes_have_finish sheet season question (branch test fresh yes_half no_half) zone some proper = (
  some,
  nodes_have_finish sheet season question yes_half (with_test zone test true)
      (half_has_finish sheet season question zone test true some proper.0) proper.1,
  nodes_have_finish sheet season question no_half (with_test zone test false)
      (half_has_finish sheet season question zone test false some proper.0) proper.2,
)

-- without a literal each fixture has an end
has_endings : (limit : ℕ) (season : List (Option Score)) (fixture : ℕ)
    → list_all has_option (options_from limit [] fixture season) ≡ true
has_endings limit [] fixture = refl
has_endings limit (Some score ∷ season) fixture = has_endings limit season (suc fixture)
has_endings limit (None ∷ season) fixture =
    and_from (has_option (options_of limit [] fixture None))
    (list_all has_option (options_from limit [] (suc fixture) season))
    (has_option-some (options_of limit [] fixture None) (score_of 0 0)
    (has_score-options_of limit [] fixture None (score_of 0 0) ∙ within))
    (has_endings limit season (suc fixture))
  where
    within : (nat_le 0 limit && nat_le 0 limit) ≡ true
    within = and_from (nat_le 0 limit) (nat_le 0 limit) (le-leb 0 limit (omega arith))
        (le-leb 0 limit (omega arith))

-- a season has a finish
pub root_has_finish : (sheet : Sheet) (season : Results) → has_finish sheet season [] ≡ true
unfolding has_finish
root_has_finish sheet season = has_endings sheet.goal_limit season.scores 0

-- ---- marks

-- a test of a score is of no rival
pub no_rival : (test : Test) (rival : ℕ) → is_of_score test ≡ true → is_of_rival rival test ≡ false
no_rival (Home fixture) rival of_score = refl
no_rival (Draw fixture) rival of_score = refl
no_rival (HomeMost fixture most) rival of_score = refl
no_rival (AwayMost fixture most) rival of_score = refl
no_rival (Rival club) rival of_score = absurd (false≢true of_score)

-- a half has the marks of the zone and that of its test
pub before_in_half : (zone : List Literal) (test : Test) (holds : Bool) (rival : ℕ)
    → marked_before (with_test zone test holds) rival ≡
    (marked_before zone rival || (is_of_rival rival test && holds))
before_in_half zone test holds rival =
    list_any-append (λ (literal : Literal). is_of_rival rival literal.test && literal.yes) zone
    (record { test = test; yes = holds } ∷ [])
    ∙ ap (λ b. marked_before zone rival || b) (or-false (is_of_rival rival test && holds))

pub after_in_half : (zone : List Literal) (test : Test) (holds : Bool) (rival : ℕ)
    → marked_after (with_test zone test holds) rival ≡
    (marked_after zone rival || (is_of_rival rival test && not holds))
after_in_half zone test holds rival =
    list_any-append (λ (literal : Literal). is_of_rival rival literal.test && not literal.yes) zone
    (record { test = test; yes = holds } ∷ [])
    ∙ ap (λ b. marked_after zone rival || b) (or-false (is_of_rival rival test && not holds))

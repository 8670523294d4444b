-- Boxes: cells that have the options of a zone, fixture by fixture, and what a literal leaves of
-- them.
use Rattle.std.proofs.Common.{◌≡◌, ℕ, zero, suc, ◌<◌, ◌≤◌, ◌≢◌, ◌⊎◌, Bool, true, false, not}
use Rattle.std.proofs.Common.{◌&&◌, ◌||◌, ◌==◌, List, [], ◌∷◌, ◌++◌, length, get_or, set, Option}
use Rattle.std.proofs.Common.{Some, None, refl, sym, ap, ◌∙◌, subst, inl, inr, arith}
use Rattle.std.specs.Bool.{MatchBool}
use Rattle.std.specs.List.{All, AllWithin, HoldsAt, list_all}
use Rattle.std.proofs.Math.Bool.{and-true, or-false}
use Rattle.std.proofs.lemmas.Bool.{false≢true, cases_eq, eq-eqb, ne_eqb, and_from, or_cases}
use Rattle.std.proofs.lemmas.Bool.{and_parts}
use Rattle.std.proofs.lemmas.Bool.Decides.{same_from_decides}
use Rattle.std.proofs.lemmas.List.{length-set, get_or-set_same, get_or-set_other}
use Rattle.std.proofs.lemmas.List.{get_or_append_left, get_or_push, length_push}
use Rattle.league_core.specs.declared.sheet.Sheet.{Sheet}
use Rattle.league_core.specs.declared.season.Score.{Score}
use Rattle.league_core.specs.declared.zone.Literal.{Literal}
use Rattle.league_core.specs.game.Results.{Results}
use Rattle.league_core.specs.game.Finishes.{same_score, may_end}
use Rattle.std.proofs.lemmas.Bool.{ltb-true}
use Rattle.std.proofs.lemmas.List.Folds.{list_any-append}
use Rattle.league_core.specs.declared.zone.Test.{Test}
use Rattle.league_core.specs.declared.zone.Test.TheVariants.{Home, Draw, HomeMost, AwayMost, Rival}
use Rattle.league_core.specs.search.Zones.{is_on, is_of_rival, passes, is_as_said, marked_before}
use Rattle.league_core.specs.search.Zones.{marked_after, is_test_of}
use Rattle.league_core.specs.search.Options.{meets_literal, options_from, options_in, has_score}
use Rattle.league_core.specs.search.Options.{has_option, has_one_score, has_finish, is_single}
use Rattle.league_core.proofs.OptionLemmas.{same_score-true, same_score-itself, has_score-first}
use Rattle.league_core.proofs.OptionLemmas.{has_score-options_of}
use Rattle.league_core.proofs.OptionLemmas.{length-options_from, all_options}
use Rattle.league_core.proofs.OptionLemmas.{each_option}
use Rattle.league_core.proofs.LiteralLemmas.{options_at, options_at-with, meets-other, meets-own}
use Rattle.score_box.specs.declared.cell.Cell.{Cell}
use Rattle.score_box.specs.inside.Cells.{allows, IsCellOf, IsEmptyCell, IsExactCell, HasOneScore}
use Rattle.score_box.specs.inside.Boxes.{AreCellsOf, IsTestBelow}

-- cells of a zone become those of the zone with one literal more
abbrev pub TakesLiteral : List Cell → List Cell → Literal → Type 0
TakesLiteral old new literal =
    (limit : ℕ) (zone : List Literal) (scores : List (Option Score))
    → AreCellsOf old (options_from limit zone 0 scores)
    → AreCellsOf new (options_from limit (zone ++ literal ∷ []) 0 scores)

-- if no fixture is tested, each cell stays
pub takes_mark : (cells : List Cell) (literal : Literal)
    → ((number : ℕ) → is_on number literal.test ≡ false) → TakesLiteral cells cells literal
takes_mark cells literal off limit zone scores are = record {
  many = are.many ∙ length-options_from limit zone 0 scores
      ∙ sym (length-options_from limit (zone ++ literal ∷ []) 0 scores);
  each = λ k d within score.
      let inside : k < length scores = omega (
        arith,
        are.many,
        length-options_from limit zone 0
            scores,
      ) in
      are.each k d within score
      ∙ sym (and-true (has_score (get_or (options_from limit zone 0 scores) k []) score))
      ∙ ap (λ b. has_score (get_or (options_from limit zone 0 scores) k []) score && b)
      (sym (meets-other k score literal (off k)))
      ∙ sym (options_at-with limit zone literal scores k score inside);
  exact = are.exact;
}

-- if a cell is put among others, all are exact
pub exact_set : (cells : List Cell) (f : ℕ) (cell : Cell) → f < length cells
    → All IsExactCell cells → IsExactCell cell → All IsExactCell (set cells f cell)
exact_set cells f cell in_range all is k d within = at (cases_eq k f)
  where
    at : (k ≡ f) ⊎ (k ≢ f) → IsExactCell (get_or (set cells f cell) k d)
    at (inl same) =
        subst IsExactCell (sym (ap (λ n. get_or (set cells f cell) n d) same
        ∙ get_or-set_same cells f cell d in_range)) is
    at (inr other) =
        subst IsExactCell (sym (get_or-set_other cells f k cell d other))
        (all k d (omega (arith, within, length-set cells f cell)))

-- if a fixture is tested, its cell is cut, and each other stays
pub takes_cut : (cells : List Cell) (fixture : ℕ) (cell : Cell) (literal : Literal)
    → fixture < length cells → ((number : ℕ) → is_on number literal.test ≡ (fixture == number))
    → ((d : Cell) (score : Score)
    → allows cell score ≡
    (allows (get_or cells fixture d) score && is_as_said literal.yes (passes literal.test score)))
    → IsExactCell cell → TakesLiteral cells (set cells fixture cell) literal
takes_cut cells fixture cell literal in_range on cut is_exact limit zone scores are = record {
  many = length-set cells fixture cell ∙ are.many ∙ length-options_from limit zone 0 scores
      ∙ sym (length-options_from limit (zone ++ literal ∷ []) 0 scores);
  each = λ k d within score.
      let below : k < length cells = omega (arith, length-set cells fixture cell) in
      let inside : k < length scores = omega (
        arith,
        are.many,
        length-options_from limit zone 0
            scores,
      ) in
      at k d score below (cases_eq k fixture)
      ∙ sym (options_at-with limit zone literal scores k score inside);
  exact = exact_set cells fixture cell in_range are.exact is_exact;
}
  where
    at : (k : ℕ) (d : Cell) (score : Score) → k < length cells → (k ≡ fixture) ⊎ (k ≢ fixture)
        → allows (get_or (set cells fixture cell) k d) score ≡
        (has_score (get_or (options_from limit zone 0 scores) k []) score
        && meets_literal k score literal)
    at k d score below (inl same) =
        ap (λ n. allows (get_or (set cells fixture cell) n d) score) same
        ∙ ap (λ c. allows c score) (get_or-set_same cells fixture cell d in_range)
        ∙ cut d score
        ∙ ap (λ n. allows (get_or cells n d) score
        && is_as_said literal.yes (passes literal.test score)) (sym same)
        ∙ ap (λ b. b && is_as_said literal.yes (passes literal.test score))
        (are.each k d below score)
        ∙ ap (λ b. has_score (get_or (options_from limit zone 0 scores) k []) score && b)
        (sym (meets-own k score literal (on k ∙ eq-eqb fixture k (sym same))))
    at k d score below (inr other) =
        ap (λ c. allows c score) (get_or-set_other cells fixture k cell d other)
        ∙ are.each k d below score
        ∙ sym (and-true (has_score (get_or (options_from limit zone 0 scores) k []) score))
        ∙ ap (λ b. has_score (get_or (options_from limit zone 0 scores) k []) score && b)
        (sym (meets-other k score literal (on k ∙ ne_eqb fixture k (λ e. other (sym e)))))

-- the cells so far have the options of their fixtures
abbrev pub HaveOptions : List Cell → List (List Score) → Type 0
HaveOptions cells options = (k : ℕ) (d : Cell) → k < length cells
    → IsCellOf (get_or cells k d) (get_or options k [])

-- one cell more
pub options_push : (cells : List Cell) (cell : Cell) (options : List (List Score))
    → HaveOptions cells options → IsCellOf cell (get_or options (length cells) [])
    → HaveOptions (cells ++ cell ∷ []) options
options_push cells cell options have is k d within = at (cases_eq k (length cells))
  where
    at : (k ≡ length cells) ⊎ (k ≢ length cells)
        → IsCellOf (get_or (cells ++ cell ∷ []) k d) (get_or options k [])
    at (inl last) = λ score.
        ap (λ c. allows c score) (get_or_push cells cell d k (sym last))
        ∙ is score
        ∙ ap (λ n. has_score (get_or options n []) score) (sym last)
    at (inr before) =
        let below : k < length cells = omega (arith, length_push cells cell) in
        λ score. ap (λ c. allows c score) (get_or_append_left cells (cell ∷ []) d k below)
        ∙ have k d below score

pub exact_push : (cells : List Cell) (cell : Cell) → All IsExactCell cells → IsExactCell cell
    → All IsExactCell (cells ++ cell ∷ [])
exact_push cells cell all is k d within = at (cases_eq k (length cells))
  where
    at : (k ≡ length cells) ⊎ (k ≢ length cells) → IsExactCell (get_or (cells ++ cell ∷ []) k d)
    at (inl last) = subst IsExactCell (sym (get_or_push cells cell d k (sym last))) is
    at (inr before) =
        let below : k < length cells = omega (arith, length_push cells cell) in
        subst IsExactCell (sym (get_or_append_left cells (cell ∷ []) d k below)) (all k d below)

-- a cell that has what its fixture may end with has its options if no literal is asked for
pub first_options : (limit : ℕ) (scores : List (Option Score)) (k : ℕ) (cell : Cell)
    → k < length scores
    → ((score : Score) → allows cell score ≡ may_end limit (get_or scores k None) (Some score))
    → IsCellOf cell (get_or (options_from limit [] 0 scores) k [])
first_options limit scores k cell within may score =
    may score
    ∙ sym (has_score-options_of limit [] k (get_or scores k None) score)
    ∙ ap (λ options. has_score options score) (sym (options_at limit [] scores k within))

-- a cell is not empty exactly when its fixture has an option
pub option_of_cell : (cell : Cell) (options : List Score) → IsCellOf cell options
    → ¬ IsEmptyCell cell
    → has_option options ≡ true
option_of_cell cell [] is some = absurd (some is)
option_of_cell cell (score ∷ options) is some = refl

pub cell_of_option : (cell : Cell) (options : List Score) → IsCellOf cell options
    → has_option options ≡ true → ¬ IsEmptyCell cell
cell_of_option cell [] is some none = false≢true some
cell_of_option cell (score ∷ options) is some none =
    false≢true (sym (none score) ∙ is score ∙ has_score-first score options)

-- a cell has one score alone exactly when its fixture has one option
one_of_cell : (cell : Cell) (options : List Score) → IsCellOf cell options → HasOneScore cell
    → has_one_score options ≡ true
one_of_cell cell [] is one = absurd (false≢true (sym (is one.0) ∙ one.1))
one_of_cell cell (first ∷ options) is one =
    all_options (same_score first) options
    (λ other later.
    let first_is = one.2 first (is first ∙ has_score-first first options) in
    let other_is = one.2 other
    (is other ∙ or_later (same_score other first) (has_score options other) later) in
    same_score-itself first other (sym first_is ∙ other_is))
  where
    or_later : (a b : Bool) → b ≡ true → (a || b) ≡ true
    or_later true b h = refl
    or_later false b h = h

cell_of_one : (cell : Cell) (options : List Score) → IsCellOf cell options
    → has_one_score options ≡ true → HasOneScore cell
cell_of_one cell [] is one = absurd (false≢true one)
cell_of_one cell (first ∷ options) is one = (
  first,
  is first
      ∙ has_score-first first options,
  λ other allowed. only other
      (or_cases _ _ (sym (is other) ∙ allowed)),
)
  where
    only : (other : Score) → (same_score other first ≡ true) ⊎ (has_score options other ≡ true)
        → first ≡ other
    only other (inl same) = sym (same_score-true other first same)
    only other (inr later) = same_score-true first other
        (each_option (same_score first) options one other later)

-- the cells and options of all fixtures but the first
tail_of : (cell : Cell) (cells : List Cell) (o : List Score) (options : List (List Score))
    → AreCellsOf (cell ∷ cells) (o ∷ options) → AreCellsOf cells options
tail_of cell cells o options are = record {
  many = let e = are.many in omega arith;
  each = λ k d within. are.each (suc k) d (omega arith);
  exact = λ k d within. are.exact (suc k) d (omega arith);
}

-- what holds of each cell, and what of each list of options, if the one gives the other
all_of_cells : (Fact : Cell → Type 0) (test : List Score → Bool)
    → ((cell : Cell) (options : List Score) → IsCellOf cell options → Fact cell
    → test options ≡ true) → (cells : List Cell) (options : List (List Score))
    → AreCellsOf cells options → All Fact cells → list_all test options ≡ true
all_of_cells Fact test gives [] [] are all = refl
all_of_cells Fact test gives [] (o ∷ options) are all = let e = are.many in absurd (omega arith)
all_of_cells Fact test gives (cell ∷ cells) [] are all = refl
all_of_cells Fact test gives (cell ∷ cells) (o ∷ options) are all =
    and_from (test o) (list_all test options)
    (gives cell o (are.each 0 cell (omega arith)) (all 0 cell (omega arith)))
    (all_of_cells Fact test gives cells options (tail_of cell cells o options are)
    (λ k d within. all (suc k) d (omega arith)))

cells_of_all : (Fact : Cell → Type 0) (test : List Score → Bool)
    → ((cell : Cell) (options : List Score) → IsCellOf cell options → test options ≡ true
    → Fact cell) → (cells : List Cell) (options : List (List Score)) → AreCellsOf cells options
    → list_all test options ≡ true → All Fact cells
cells_of_all Fact test gives cells options are all k d within =
    gives (get_or cells k d) (get_or options k []) (are.each k d within)
    (all_at test options k (let e = are.many in omega arith) all)
  where
    all_at : (test : List Score → Bool) (options : List (List Score)) (k : ℕ) → k < length options
        → list_all test options ≡ true → test (get_or options k []) ≡ true
    all_at test [] k within all = absurd (omega arith)
    all_at test (o ∷ options) zero within all = first (test o) (list_all test options) all
      where
        first : (a b : Bool) → (a && b) ≡ true → a ≡ true
        first true b h = refl
        first false b h = h
    all_at test (o ∷ options) (suc k) within all = all_at test options k (omega arith)
        (second (test o) (list_all test options) all)
      where
        second : (a b : Bool) → (a && b) ≡ true → b ≡ true
        second true b h = h
        second false b h = absurd (false≢true h)

-- no cell is empty exactly when the zone has a finish
pub has_finish-is : (sheet : Sheet) (season : Results) (zone : List Literal) (cells : List Cell)
    (r : Bool) → AreCellsOf cells (options_in sheet season zone)
    → (r ≡ true → All (λ cell. ¬ IsEmptyCell cell) cells)
    → (All (λ cell. ¬ IsEmptyCell cell) cells → r ≡ true) → r ≡ has_finish sheet season zone
unfolding has_finish
has_finish-is sheet season zone cells r are gives from =
    same_from_decides {P = All (λ cell. ¬ IsEmptyCell cell) cells} r
    (list_all has_option (options_in sheet season zone)) (gives, from) (
      cells_of_all (λ cell. ¬ IsEmptyCell cell) has_option cell_of_option cells
          (options_in sheet season zone) are,
      all_of_cells (λ cell. ¬ IsEmptyCell cell) has_option option_of_cell cells
          (options_in sheet season zone) are,
    )

-- each cell has one score exactly when the zone is single
pub is_single-is : (sheet : Sheet) (season : Results) (zone : List Literal) (cells : List Cell)
    (r : Bool) → AreCellsOf cells (options_in sheet season zone)
    → (r ≡ true → All HasOneScore cells) → (All HasOneScore cells → r ≡ true)
    → r ≡ is_single sheet season zone
unfolding is_single
is_single-is sheet season zone cells r are gives from =
    same_from_decides {P = All HasOneScore cells} r
    (list_all has_one_score (options_in sheet season zone)) (gives, from) (
      cells_of_all HasOneScore has_one_score cell_of_one cells (options_in sheet season zone) are,
      all_of_cells HasOneScore has_one_score one_of_cell cells (options_in sheet season zone) are,
    )

-- in a zone that has a finish no cell is empty
pub some_in_each : (sheet : Sheet) (season : Results) (zone : List Literal) (cells : List Cell)
    → AreCellsOf cells (options_in sheet season zone) → has_finish sheet season zone ≡ true
    → All (λ cell. ¬ IsEmptyCell cell) cells
unfolding has_finish
some_in_each sheet season zone cells are finish =
    cells_of_all (λ cell. ¬ IsEmptyCell cell) has_option cell_of_option cells
    (options_in sheet season zone) are finish

-- cells of which one is put in the place of another pass if those cells and it do
all_set : (P : Cell → Type 0) (cells : List Cell) (f : ℕ) (cell : Cell) → f < length cells
    → All P cells → P cell → All P (set cells f cell)
all_set P cells f cell in_range all is k d within = at (cases_eq k f)
  where
    at : (k ≡ f) ⊎ (k ≢ f) → P (get_or (set cells f cell) k d)
    at (inl same) =
        subst P (sym (ap (λ n. get_or (set cells f cell) n d) same
        ∙ get_or-set_same cells f cell d in_range)) is
    at (inr other) =
        subst P (sym (get_or-set_other cells f k cell d other))
        (all k d (omega (arith, within, length-set cells f cell)))

-- and the other way, if the one that went passes when it does
all_unset : (P : Cell → Type 0) (cells : List Cell) (f : ℕ) (cell : Cell) → f < length cells
    → ((d : Cell) → P cell → P (get_or cells f d)) → All P (set cells f cell) → All P cells
all_unset P cells f cell in_range back all k d within = at (cases_eq k f)
  where
    there : P (get_or (set cells f cell) k d)
    there = all k d (omega (arith, within, length-set cells f cell))

    at : (k ≡ f) ⊎ (k ≢ f) → P (get_or cells k d)
    at (inl same) =
        subst P (ap (λ n. get_or cells n d) (sym same)) (back d (subst P
        (ap (λ n. get_or (set cells f cell) n d) same ∙ get_or-set_same cells f cell d in_range)
        there))
    at (inr other) = subst P (get_or-set_other cells f k cell d other) there

-- a zone one of whose cells is cut has a finish exactly when it had one before and the cell has a
-- score
pub finish_cut : (sheet : Sheet) (season : Results) (zone : List Literal) (literal : Literal)
    (cells : List Cell) (f : ℕ) (cell : Cell) (left : Bool) → f < length cells
    → AreCellsOf cells (options_in sheet season zone)
    → AreCellsOf (set cells f cell) (options_in sheet season (zone ++ literal ∷ []))
    → ((d : Cell) → IsEmptyCell (get_or cells f d) → IsEmptyCell cell)
    → (left ≡ true → ¬ IsEmptyCell cell) → (¬ IsEmptyCell cell → left ≡ true)
    → (has_finish sheet season zone && left) ≡ has_finish sheet season (zone ++ literal ∷ [])
finish_cut sheet season zone literal cells f cell left in_range are cut less some none =
    let Some_in : Cell → Type 0 = λ it. ¬ IsEmptyCell it in
    has_finish-is sheet season (zone ++ literal ∷ []) (set cells f cell)
    (has_finish sheet season zone && left) cut
    (λ both.
    let parts = and_parts (has_finish sheet season zone) left both in
    all_set Some_in cells f cell in_range (some_in_each sheet season zone cells are parts.0)
    (some parts.1))
    (λ all.
    and_from (has_finish sheet season zone) left
    (sym (has_finish-is sheet season zone cells true are
    (λ _. all_unset Some_in cells f cell in_range (λ d is empty. is (less d empty)) all)
    (λ _. refl)))
    (none (subst Some_in (get_or-set_same cells f cell cell in_range)
    (all f cell (omega (arith, in_range, length-set cells f cell))))))

-- one whose cells stay has one exactly when it had one
pub finish_same : (sheet : Sheet) (season : Results) (zone : List Literal) (literal : Literal)
    (cells : List Cell) → AreCellsOf cells (options_in sheet season zone)
    → AreCellsOf cells (options_in sheet season (zone ++ literal ∷ []))
    → has_finish sheet season zone ≡ has_finish sheet season (zone ++ literal ∷ [])
finish_same sheet season zone literal cells are same =
    has_finish-is sheet season (zone ++ literal ∷ []) cells (has_finish sheet season zone) same
    (some_in_each sheet season zone cells are)
    (λ all. sym (has_finish-is sheet season zone cells true are (λ _. all) (λ _. refl)))

-- as many cells as the season has fixtures
pub cells_of_season : (sheet : Sheet) (season : Results) (zone : List Literal) (cells : List Cell)
    → AreCellsOf cells (options_in sheet season zone) → length cells ≡ length season.scores
cells_of_season sheet season zone cells are =
    are.many ∙ length-options_from sheet.goal_limit zone 0 season.scores

-- what a walk over the cells finds: each passes, or one fails
pub all_decided : (r : Bool) (Yes No : Cell → Type 0) (cells : List Cell)
    → ((cell : Cell) → Yes cell → No cell → ⊥)
    → MatchBool r (AllWithin Yes cells 0 (length cells))
    ((k : ℕ) × (k < length cells) × HoldsAt No cells k) → (r ≡ true → All Yes cells)
    × (All Yes cells → r ≡ true)
all_decided true Yes No cells apart all = (λ _ k d within. all k d (omega arith) within, λ _. refl)
all_decided false Yes No cells apart one = (
  λ e. absurd (false≢true e),
  λ all. absurd (by_cell cells one.0 one.1 (λ d. all one.0 d one.1) one.2),
)
  where
    by_cell : (cells : List Cell) (k : ℕ) → k < length cells
        → ((d : Cell) → Yes (get_or cells k d)) → ((d : Cell) → No (get_or cells k d)) → ⊥
    by_cell [] k within yes_at no_at = omega arith
    by_cell (cell ∷ cells) k within yes_at no_at = apart (get_or (cell ∷ cells) k cell)
        (yes_at cell) (no_at cell)

-- the marks of a zone with one literal more
pub marked_before-push : (zone : List Literal) (literal : Literal) (club : ℕ)
    → marked_before (zone ++ literal ∷ []) club ≡
    (marked_before zone club || (is_of_rival club literal.test && literal.yes))
marked_before-push zone literal club =
    list_any-append (λ (l : Literal). is_of_rival club l.test && l.yes) zone (literal ∷ [])
    ∙ ap (λ b. marked_before zone club || b)
    (or-false (is_of_rival club literal.test && literal.yes))

pub marked_after-push : (zone : List Literal) (literal : Literal) (club : ℕ)
    → marked_after (zone ++ literal ∷ []) club ≡
    (marked_after zone club || (is_of_rival club literal.test && not literal.yes))
marked_after-push zone literal club =
    list_any-append (λ (l : Literal). is_of_rival club l.test && not l.yes) zone (literal ∷ [])
    ∙ ap (λ b. marked_after zone club || b)
    (or-false (is_of_rival club literal.test && not literal.yes))

-- a test of the sheet is of one of its fixtures or clubs
pub test_below : (sheet : Sheet) (fixtures : ℕ) (test : Test) → length sheet.fixtures ≡ fixtures
    → length sheet.clubs ≤ 32 → is_test_of sheet test ≡ true → IsTestBelow fixtures 32 test
test_below sheet fixtures
    (Home fixture) many few is = let h = ltb-true fixture (length sheet.fixtures) is in omega arith
test_below sheet fixtures
    (Draw fixture) many few is = let h = ltb-true fixture (length sheet.fixtures) is in omega arith
test_below sheet fixtures
    (HomeMost fixture most) many few is =
    let h = ltb-true fixture (length sheet.fixtures) is in omega arith
test_below sheet fixtures
    (AwayMost fixture most) many few is =
    let h = ltb-true fixture (length sheet.fixtures) is in omega arith
test_below sheet fixtures
    (Rival club) many few is = let h = ltb-true club (length sheet.clubs) is in omega arith

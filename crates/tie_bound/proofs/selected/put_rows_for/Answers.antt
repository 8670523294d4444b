-- The next club's row is written.
use Rattle.std.proofs.Common.{◌≡◌, ◌⊎◌, ◌<◌, ◌≤◌, ℕ, true, false, List, Option, length}
use Rattle.std.proofs.Common.{inl, inr, sym, ap, subst, ◌∙◌, arith}
use Rattle.std.specs.List.{list_all}
use Rattle.std.proofs.lemmas.Bool.{cases_Bool, cases_lt, false≢true}
use Rattle.league_core.specs.declared.sheet.Sheet.{Sheet}
use Rattle.league_core.specs.declared.sheet.Fixture.{Fixture}
use Rattle.league_core.specs.declared.season.Score.{Score}
use Rattle.league_core.specs.game.Sheets.{is_fixture}
use Rattle.league_core.specs.game.ClubSets.{clubs_in}
use Rattle.league_core.specs.game.Sums.{has_club, worth_to}
use Rattle.league_core.proofs.WalkLemmas.{comes_to, all_seen}
use Rattle.league_core.proofs.SeenLemmas.{not_filled, filled_next, IsFilled}
use Rattle.tie_bound.specs.declared.sums.Sums.{Sums}
use Rattle.tie_bound.specs.inside.Sums.{no_sums, sums_at, AreNear}
use Rattle.tie_bound.specs.inside.Rows.{IsRow}
use Rattle.tie_bound.specs.inside.Tables.{IsWanted}
use Rattle.tie_bound.proofs.RowLemmas.{past_over}
use Rattle.tie_bound.proofs.WantedLemmas.{none_near}
use Rattle.tie_bound.proofs.selected.put_rows_for.Goals as goal

pub loop-club-init : goal.loop-club-init
loop-club-init c = not_filled no_sums _ 24 _ c.requires.none c.requires.long

pub row_over-requires : goal.row_over-requires
row_over-requires c =
    let met = comes_to c.args.wanted c.loop-club.yielded c.in-Some.club
    (c.into_iter-club-iterator.ensures.into_iter_gives ∙ c.clubs-club-items.ensures.all)
    c.loop-club.yielded_by c.in-Some.ensures.steps in
    c.requires.wanted c.in-Some.club met.among

pub bounds-table-club : goal.bounds-table-club
bounds-table-club c =
    let met = comes_to c.args.wanted c.loop-club.yielded c.in-Some.club
    (c.into_iter-club-iterator.ensures.into_iter_gives ∙ c.clubs-club-items.ensures.all)
    c.loop-club.yielded_by c.in-Some.ensures.steps in
    omega (
      arith,
      c.requires.wanted c.in-Some.club met.among,
      c.loop-club.invariant.long,
      ap (λ (s : Sheet). length s.clubs) c.sheet-sheet.ensures.sheet,
      c.sheet-sheet.ensures.limits.most_clubs,
    )

pub loop-club-preserved : goal.loop-club-preserved
loop-club-preserved c =
    let met = comes_to c.args.wanted c.loop-club.yielded c.in-Some.club
    (c.into_iter-club-iterator.ensures.into_iter_gives ∙ c.clubs-club-items.ensures.all)
    c.loop-club.yielded_by c.in-Some.ensures.steps in
    let low : c.in-Some.club < 24 = omega (
      arith,
      c.requires.wanted c.in-Some.club met.among,
      ap (λ (s : Sheet). length s.clubs) c.sheet-sheet.ensures.sheet,
      c.sheet-sheet.ensures.limits.most_clubs,
    ) in
    filled_next no_sums _ 24 c.loop-club.yielded c.loop-club.table c.in-Some.club
    c.row_over.result low c.row_over.ensures c.loop-club.invariant

-- a wanted club has its row, and a number that is no club's has none
rows_are : (clubs : ℕ) (wanted : List ℕ) (fixtures : List Fixture) (scores : List (Option Score))
    (table : List Sums) → list_all (is_fixture clubs) fixtures ≡ true
    → ((x : ℕ) → has_club wanted x ≡ true → x < clubs)
    → IsFilled no_sums (IsRow worth_to fixtures scores) 24 wanted table
    → (x : ℕ) → IsWanted clubs wanted x → IsRow worth_to fixtures scores x (sums_at table x)
rows_are clubs wanted fixtures scores table all low filled x wants =
    at (cases_Bool (has_club wanted x))
  where
    Is : Sums → Type 0
    Is s = IsRow worth_to fixtures scores x s

    beyond : has_club wanted x ≡ false → (x < clubs) ⊎ (clubs ≤ x) → clubs ≤ x
    beyond out (inl within) = absurd (false≢true (sym out ∙ wants within))
    beyond out (inr past) = past

    at : (has_club wanted x ≡ true) ⊎ (has_club wanted x ≡ false) → Is (sums_at table x)
    at (inl has) = filled.rows x has
    at (inr out) =
        subst Is (sym (filled.others x out))
        (past_over clubs fixtures scores x all (beyond out (cases_lt x clubs)))

near_are : (wanted : List ℕ) (fixtures : List Fixture) (scores : List (Option Score))
    (table : List Sums)
    → IsFilled no_sums (IsRow worth_to fixtures scores) 24 wanted table
    → (x : ℕ) → AreNear 5000000 (sums_at table x)
near_are wanted fixtures scores table filled x =
    elim (cases_Bool (has_club wanted x)) as (λ _. AreNear 5000000 (sums_at table x)) [
      | inl has ↦ (filled.rows x has).near
      | inr out ↦ subst (AreNear 5000000) (sym (filled.others x out)) none_near
    ]

pub returns-clause-rows : goal.returns-clause-rows
returns-clause-rows c =
    let box = c.args.zone_box.now in
    let Are : Sheet → Type 0 = λ s. list_all (is_fixture (length s.clubs)) s.fixtures ≡ true in
    rows_are (length box.sheet.clubs) (clubs_in c.args.wanted) box.sheet.fixtures
    box.season.scores c.loop-club.table
    (subst Are c.sheet-sheet.ensures.sheet c.sheet-sheet.ensures.limits.fixtures) c.requires.wanted
    (subst (λ (seen : List ℕ). IsFilled no_sums
    (IsRow worth_to box.sheet.fixtures box.season.scores) 24 seen c.loop-club.table)
    (all_seen c.args.wanted c.loop-club.yielded
    (c.into_iter-club-iterator.ensures.into_iter_gives ∙ c.clubs-club-items.ensures.all)
    c.loop-club.yielded_by c.in-None.ensures.steps.0) c.loop-club.invariant)

pub returns-clause-near : goal.returns-clause-near
returns-clause-near c =
    let box = c.args.zone_box.now in
    near_are (clubs_in c.args.wanted) box.sheet.fixtures box.season.scores c.loop-club.table
    (subst (λ (seen : List ℕ). IsFilled no_sums
    (IsRow worth_to box.sheet.fixtures box.season.scores) 24 seen c.loop-club.table)
    (all_seen c.args.wanted c.loop-club.yielded
    (c.into_iter-club-iterator.ensures.into_iter_gives ∙ c.clubs-club-items.ensures.all)
    c.loop-club.yielded_by c.in-None.ensures.steps.0) c.loop-club.invariant)

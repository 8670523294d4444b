-- The next club's row is written; those outside the group have no match in it.
use Rattle.std.proofs.Common.{◌≡◌, ◌<◌, ℕ, true, List, length, inl, inr, sym, ap, subst, ◌∙◌}
use Rattle.std.proofs.Common.{arith}
use Rattle.std.specs.List.{list_all}
use Rattle.std.proofs.lemmas.Bool.{cases_Bool}
use Rattle.league_core.specs.declared.sheet.Sheet.{Sheet}
use Rattle.league_core.specs.game.Sheets.{is_fixture}
use Rattle.league_core.specs.game.ClubSets.{clubs_in}
use Rattle.league_core.specs.game.Sums.{has_club, worth_among}
use Rattle.league_core.proofs.WalkLemmas.{comes_to, all_seen}
use Rattle.league_core.proofs.SeenLemmas.{not_filled, filled_next, IsFilled}
use Rattle.tie_bound.specs.declared.sums.Sums.{Sums}
use Rattle.tie_bound.specs.inside.Sums.{no_sums, sums_at}
use Rattle.tie_bound.specs.inside.Rows.{IsRow}
use Rattle.tie_bound.proofs.RowLemmas.{out_of_group}
use Rattle.tie_bound.proofs.rows.put_rows_among.Goals as goal

pub loop-club-init : goal.loop-club-init
loop-club-init c = not_filled no_sums _ 24 _ c.requires.none c.requires.long

pub row_among-requires-clause-club : goal.row_among-requires-clause-club
row_among-requires-clause-club c =
    (comes_to c.args.group c.loop-club.yielded c.in-Some.club
    (c.into_iter-club-iterator.ensures.into_iter_gives ∙ c.clubs-club-items.ensures.all)
    c.loop-club.yielded_by c.in-Some.ensures.steps).among

pub bounds-table-club : goal.bounds-table-club
bounds-table-club c =
    let met = comes_to c.args.group c.loop-club.yielded c.in-Some.club
    (c.into_iter-club-iterator.ensures.into_iter_gives ∙ c.clubs-club-items.ensures.all)
    c.loop-club.yielded_by c.in-Some.ensures.steps in
    omega (
      arith,
      c.requires.group c.in-Some.club met.among,
      c.loop-club.invariant.long,
      ap (λ (s : Sheet). length s.clubs) c.sheet-sheet.ensures.sheet,
      c.sheet-sheet.ensures.limits.most_clubs,
    )

pub loop-club-preserved : goal.loop-club-preserved
loop-club-preserved c =
    let met = comes_to c.args.group c.loop-club.yielded c.in-Some.club
    (c.into_iter-club-iterator.ensures.into_iter_gives ∙ c.clubs-club-items.ensures.all)
    c.loop-club.yielded_by c.in-Some.ensures.steps in
    let low : c.in-Some.club < 24 = omega (
      arith,
      c.requires.group c.in-Some.club met.among,
      ap (λ (s : Sheet). length s.clubs) c.sheet-sheet.ensures.sheet,
      c.sheet-sheet.ensures.limits.most_clubs,
    ) in
    filled_next no_sums _ 24 c.loop-club.yielded c.loop-club.table c.in-Some.club
    c.row_among.result low c.row_among.ensures c.loop-club.invariant

pub returns : goal.returns
returns c x =
    let box = c.args.zone_box.now in
    let group = clubs_in c.args.group in
    let Is : ℕ → Sums → Type 0 = IsRow (worth_among group) box.sheet.fixtures
    box.season.scores in
    let Are : Sheet → Type 0 = λ s. list_all (is_fixture (length s.clubs)) s.fixtures ≡ true in
    let all = subst Are c.sheet-sheet.ensures.sheet c.sheet-sheet.ensures.limits.fixtures in
    let filled = subst (λ (seen : List ℕ). IsFilled no_sums Is 24 seen c.loop-club.table)
    (all_seen c.args.group c.loop-club.yielded
    (c.into_iter-club-iterator.ensures.into_iter_gives ∙ c.clubs-club-items.ensures.all)
    c.loop-club.yielded_by c.in-None.ensures.steps.0) c.loop-club.invariant in
    elim (cases_Bool (has_club group x)) as (λ _. Is x (sums_at c.loop-club.table x)) [
      | inl has ↦ filled.rows x has
      | inr out ↦
          subst (Is x) (sym (filled.others x out))
          (out_of_group group (length box.sheet.clubs) box.sheet.fixtures box.season.scores x all
          out)
    ]

-- The next club's row is written; those after it have none, as a number that is no club's has.
use Rattle.std.proofs.Common.{◌≡◌, ◌<◌, true, length, inl, inr, sym, ap, subst, ◌∙◌, arith}
use Rattle.std.specs.List.{list_all}
use Rattle.std.proofs.lemmas.Bool.{cases_lt}
use Rattle.std.proofs.lemmas.List.{get_or-set_other, length-set}
use Rattle.league_core.specs.declared.sheet.Sheet.{Sheet}
use Rattle.league_core.specs.game.Sheets.{is_fixture}
use Rattle.league_core.specs.game.Sums.{worth_to}
use Rattle.tie_bound.specs.declared.sums.Sums.{Sums}
use Rattle.tie_bound.specs.inside.Sums.{no_sums, sums_at}
use Rattle.tie_bound.specs.inside.Rows.{IsRow}
use Rattle.tie_bound.proofs.RowLemmas.{rows_more, past_over}
use Rattle.tie_bound.proofs.rows.put_rows_over.Goals as goal

pub loop-club-init : goal.loop-club-init
loop-club-init c = record {
  done = λ other low. absurd (omega arith);
  left = λ other low. c.requires.none other;
  long = c.requires.long;
}

pub loop-club-preserved : goal.loop-club-preserved
loop-club-preserved c =
    let box = c.args.zone_box.now in
    let table = c.loop-club.table in
    let club = c.loop-club.club in
    let within : club < length table = omega (
      arith,
      c.loop-club.invariant.long,
      c.loop-club-test.true,
      c.len-club-end.ensures,
      c.sheet.ensures.limits.most_clubs,
    ) in
    record {
      done = λ other low.
          rows_more worth_to box.sheet.fixtures box.season.scores table club other
          c.row_over.result within
          c.loop-club.invariant.done c.row_over.ensures low;
      left = λ other low.
          get_or-set_other table club other c.row_over.result no_sums (λ e. omega arith)
          ∙ c.loop-club.invariant.left other (omega arith);
      long = length-set table club c.row_over.result ∙ c.loop-club.invariant.long;
    }

pub returns : goal.returns
returns c other =
    let box = c.args.zone_box.now in
    let Is : Sums → Type 0 = λ s. IsRow worth_to box.sheet.fixtures box.season.scores other s in
    let Are : Sheet → Type 0 = λ s. list_all (is_fixture (length s.clubs)) s.fixtures ≡ true in
    let all = subst Are c.sheet.ensures.sheet c.sheet.ensures.limits.fixtures in
    elim (cases_lt other c.loop-club.club) as (λ _. Is (sums_at c.loop-club.table other)) [
      | inl below ↦ c.loop-club.invariant.done other below
      | inr past ↦
          subst Is (sym (c.loop-club.invariant.left other past))
          (past_over (length box.sheet.clubs) box.sheet.fixtures box.season.scores other all
          (omega (
            arith,
            past,
            c.loop-club-test.false,
            c.len-club-end.ensures,
            ap (λ (s : Sheet). length s.clubs) c.sheet.ensures.sheet,
          )))
    ]

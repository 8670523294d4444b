-- The next club's entry is written, and those after it are still the level.
use mir.Syntax.{w64}
use mir.Val.{to_z, of_z}
use Rattle.std.proofs.Common.{◌≡◌, ◌<◌, pos, ◌+ℤ◌, ◌≤ℤ◌, neg_ℤ, length, set, refl, sym, ap, ◌∙◌}
use Rattle.std.proofs.Common.{inl, inr, subst, arith}
use Rattle.league_core.specs.game.Sheets.{IsWithinLimits}
use Rattle.std.proofs.lemmas.Int.{ints}
use Rattle.std.proofs.lemmas.Bool.{cases_eq, cases_lt}
use Rattle.std.proofs.lemmas.List.{get_or-replicate, length-set}
use Rattle.league_core.specs.game.Results.{Results}
use Rattle.league_core.specs.declared.sheet.Sheet.{Sheet}
use Rattle.flow_bound.specs.inside.Parts.{entry}
use Rattle.flow_bound.specs.inside.Fixtures.{own_end}
use Rattle.flow_bound.proofs.PartLemmas.{entry_written, entry_kept}
use Rattle.flow_bound.proofs.FixtureLemmas.{own_end-past}
use Rattle.flow_bound.proofs.table.own_excess_table.Goals as goal

pub loop-club-init : goal.loop-club-init
loop-club-init c = record {
  done = λ other below. absurd (omega arith);
  near = λ other below. absurd (omega arith);
  long = refl;
  left = λ other low within.
      get_or-replicate 32 other (to_z w64 (of_z w64 c.args.level)) (pos 0) within;
}

pub loop-club-preserved : goal.loop-club-preserved
loop-club-preserved c =
    let box = c.args.zone_box.now in
    let level = to_z w64 (of_z w64 c.args.level) in
    let table = c.loop-club.table in
    let club = c.loop-club.club in
    let own = own_end c.args.cut box.sheet box.season box.zone in
    let value = to_z w64 (of_z w64 (level +ℤ to_z w64 (of_z w64 c.end_of.result))) in
    let many = ap length c.deductions.ensures.deductions in
    let within : club < length table = omega (
      arith,
      c.loop-club.invariant.long,
      c.loop-club-test.true,
      many,
      c.season.ensures.of_sheet.deductions,
      ap (λ (s : Sheet). length s.clubs) c.sheet-sheet.ensures.sheet,
      c.sheet-sheet.ensures.limits.most_clubs,
    ) in
    let bounds = c.end_of.ensures.within in
    let written : value ≡ level +ℤ own club =
    omega (
      arith,
      ints,
      c.requires.least,
      c.requires.most,
      bounds.0,
      bounds.1,
      c.end_of.ensures.value,
    ) in
    record {
      done = λ other below.
          elim (cases_eq other club) as
          (λ _. entry (set table club value) other ≡ level +ℤ own other) [
            | inl same ↦ entry_written table club other value within same ∙ written
                ∙ ap (λ n. level +ℤ own n) (sym same)
            | inr apart ↦ entry_kept table club other value apart
                ∙ c.loop-club.invariant.done other (omega arith)
          ];
      near = λ other below.
          elim (cases_eq other club) as
          (λ _. (neg_ℤ (pos 8160) ≤ℤ own other) × (own other ≤ℤ pos 8160)) [
            | inl same ↦
                let there = ap own same in (
                  omega (arith, ints, there, bounds.0, c.end_of.ensures.value),
                  omega (arith, ints, there, bounds.1, c.end_of.ensures.value),
                )
            | inr apart ↦ c.loop-club.invariant.near other (omega arith)
          ];
      long = length-set table club value ∙ c.loop-club.invariant.long;
      left = λ other low below.
          entry_kept table club other value (λ e. omega arith)
          ∙ c.loop-club.invariant.left other (omega arith) below;
    }

pub returns-clause-entries : goal.returns-clause-entries
returns-clause-entries c club within =
    let box = c.args.zone_box.now in
    let own = own_end c.args.cut box.sheet box.season box.zone in
    let fits : to_z w64 (of_z w64 c.args.level) ≡ c.args.level =
    omega (arith, ints, c.requires.least, c.requires.most) in
    elim (cases_lt club c.loop-club.club) as
    (λ _. entry c.loop-club.table club ≡ c.args.level +ℤ own club) [
      | inl below ↦ c.loop-club.invariant.done club below ∙ ap (λ n. n +ℤ own club) fits
      | inr above ↦
          let nothing : own club ≡ pos 0 =
          own_end-past c.args.cut box.sheet box.season box.zone club
          (subst IsWithinLimits c.sheet-sheet.ensures.sheet c.sheet-sheet.ensures.limits)
          (sym (ap (λ (s : Results). length s.deductions) c.season.ensures.season)
          ∙ c.season.ensures.of_sheet.deductions)
          (omega (
            arith,
            above,
            c.loop-club-test.false,
            ap length c.deductions.ensures.deductions,
            c.season.ensures.of_sheet.deductions,
          )) in
          let left = c.loop-club.invariant.left club above within in
          omega (arith, ints, nothing, left, fits)
    ]

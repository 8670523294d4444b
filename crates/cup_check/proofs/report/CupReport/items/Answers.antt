-- One club after the other, each with what comes after its row.
use Rattle.std.proofs.Common.{◌<◌, ◌+◌, ℕ, List, [], ◌∷◌, map, drop, subst, sym, arith}
use Rattle.std.specs.List.{range_with_len}
use Rattle.std.proofs.lemmas.List.{drop_all}
use Rattle.std.proofs.lemmas.List.FromFn.{length-range_with_len}
use Rattle.std.proofs.lemmas.Result.{err_from_is_err_and}
use Rattle.league_core.proofs.plain.Runs.{drop-range}
use Rattle.cup_sheet.specs.Cups.{clubs_together}
use Rattle.cert_check.proofs.GoesLemmas.{reach_halt, reach_on}
use Rattle.cup_grammar.specs.CupDues.{club_row}
use Rattle.cup_grammar.specs.CupReports.{cup_grammar}
use Rattle.cup_check.specs.inside.CupGoes.{ReachesInCup}
use Rattle.cup_check.proofs.report.CupReport.items.Goals as goal

pub returns-in_err-item : goal.returns-in_err-item
returns-in_err-item c =
    let judged = c.args.self.now in
    let together = clubs_together judged.basis.cup.groups in
    let clubs = range_with_len 0 together in
    let wanted = map club_row clubs in
    let club = c.loop-club.club in
    let found = c.loop-club.found in
    let within : club < together = omega (arith, c.clubs-club-end.ensures, c.loop-club-test.true) in
    let R : List ℕ → Type 0 = λ it. ReachesInCup judged c.args.from wanted found.next
    (map club_row it) found.unsettled in
    let gone = err_from_is_err_and c.from_residual.result c.from_residual.ensures.1 in
    rw (gone.1, gone.2)
    (reach_halt cup_grammar judged c.args.from found.next found.unsettled wanted
    (club_row club ∷ []) (map club_row (drop (club + 1) clubs)) c.in_err-item.field-0.0
    (subst R (drop-range together club within) c.loop-club.invariant.2) c.in_err-item.ensures.goes)

pub loop-club-preserved : goal.loop-club-preserved
loop-club-preserved c =
    let judged = c.args.self.now in
    let together = clubs_together judged.basis.cup.groups in
    let clubs = range_with_len 0 together in
    let wanted = map club_row clubs in
    let club = c.loop-club.club in
    let found = c.loop-club.found in
    let item = c.in_ok-item.field-0 in
    let later = map club_row (drop (club + 1) clubs) in
    let within : club < together = omega (arith, c.clubs-club-end.ensures, c.loop-club-test.true) in
    let R : List ℕ → Type 0 = λ it. ReachesInCup judged c.args.from wanted found.next
    (map club_row it) found.unsettled in
    let on = reach_on cup_grammar judged c.args.from found.next found.unsettled wanted
    (club_row club ∷ []) later item
    (subst R (drop-range together club within) c.loop-club.invariant.2)
    c.in_ok-item.ensures.goes in
    let A : ℕ → Type 0 = λ it. ReachesInCup judged c.args.from wanted it later
    (found.unsettled + item.unsettled) in
    let B : ℕ → Type 0 = λ it. ReachesInCup judged c.args.from wanted c.and-found.result.next later
    it in (
      omega (arith, c.in_ok-item.ensures.goes.0, c.and-found.ensures.next),
      omega (
        arith,
        c.in_ok-item.ensures.few,
        c.and-found.ensures.unsettled,
        c.loop-club.invariant.1,
      ),
      subst B (sym c.and-found.ensures.unsettled) (subst A (sym c.and-found.ensures.next) on),
    )

pub returns : goal.returns
returns c =
    let judged = c.args.self.now in
    let together = clubs_together judged.basis.cup.groups in
    let clubs = range_with_len 0 together in
    let club = c.loop-club.club in
    let found = c.loop-club.found in
    let R : List ℕ → Type 0 = λ it. ReachesInCup judged c.args.from (map club_row clubs)
    found.next (map club_row it) found.unsettled in (
      c.loop-club.invariant.0,
      subst R (drop_all club clubs (omega (
        arith,
        c.clubs-club-end.ensures,
        c.loop-club-test.false,
        length-range_with_len 0 together,
      ))) c.loop-club.invariant.2,
    )

-- One club of the group after the other.
use Rattle.std.proofs.Common.{◌<◌, ◌+◌, ℕ, List, [], ◌∷◌, length, map, drop, subst}
use Rattle.std.proofs.Common.{arith, Ok}
use Rattle.std.specs.List.{range_with_len}
use Rattle.std.proofs.lemmas.List.{drop_all}
use Rattle.std.proofs.lemmas.List.FromFn.{length-range_with_len}
use Rattle.std.proofs.lemmas.Result.{err_from_is_err_and}
use Rattle.league_core.proofs.plain.Runs.{drop-range}
use Rattle.club_keys.specs.inside.KeyEnds.{key_parts}
use Rattle.cert_check.proofs.GoesLemmas.{reach_halt}
use Rattle.cup_sheet.specs.GroupQuestions.{GroupQuestion}
use Rattle.cup_sheet.specs.KeyBounds.{others_kind}
use Rattle.cup_grammar.specs.CupDues.{CupDue, others_due, tree_head}
use Rattle.cup_grammar.specs.CupReports.{cup_grammar}
use Rattle.cup_check.specs.inside.CupGoes.{GoesInCup, HaltsInCup, ReachesInCup}
use Rattle.cup_check.proofs.CupReachLemmas.{reach_after, reached_goes}
use Rattle.cup_check.proofs.GroupTreeLemmas.{others_head}
use Rattle.cup_check.proofs.report.CupReport.group_trees.Goals as goal

pub returns-in_err-at : goal.returns-in_err-at
returns-in_err-at c =
    let judged = c.args.self.now in
    let group = c.args.group.now in
    let key = key_parts c.args.key in
    let clubs = range_with_len 0 (length group.sheet.clubs) in
    let head : ℕ → CupDue = λ club. tree_head group (record {
      kind = others_kind c.args.claim;
      club = club;
      key = key;
    }) in
    let club = c.loop-club.club in
    let within : club < length group.sheet.clubs = omega
    (arith, c.clubs-club-end.ensures, c.loop-club-test.true) in
    let R : List ℕ → Type 0 = λ it. ReachesInCup judged c.args.from
    (others_due c.args.claim key group) c.loop-club.at (map head it) 0 in
    let same = others_head c.args.claim c.others_kind.result club c.args.key
    c.question_of.result c.others_kind.ensures c.question_of.ensures in
    let H : GroupQuestion → Type 0 = λ it. HaltsInCup judged c.loop-club.at (tree_head group it)
    c.in_err-at.field-0.0 in
    let gone = err_from_is_err_and c.from_residual.result c.from_residual.ensures.1 in
    rw (gone.1, gone.2)
    (reach_halt cup_grammar judged c.args.from c.loop-club.at 0
    (others_due c.args.claim key group) (head club ∷ []) (map head (drop (club + 1) clubs))
    c.in_err-at.field-0.0
    (subst R (drop-range (length group.sheet.clubs) club within) c.loop-club.invariant.1)
    (subst H same c.in_err-at.ensures))

pub loop-club-preserved : goal.loop-club-preserved
loop-club-preserved c =
    let judged = c.args.self.now in
    let group = c.args.group.now in
    let key = key_parts c.args.key in
    let clubs = range_with_len 0 (length group.sheet.clubs) in
    let head : ℕ → CupDue = λ club. tree_head group (record {
      kind = others_kind c.args.claim;
      club = club;
      key = key;
    }) in
    let club = c.loop-club.club in
    let within : club < length group.sheet.clubs = omega
    (arith, c.clubs-club-end.ensures, c.loop-club-test.true) in
    let R : List ℕ → Type 0 = λ it. ReachesInCup judged c.args.from
    (others_due c.args.claim key group) c.loop-club.at (map head it) 0 in
    let same = others_head c.args.claim c.others_kind.result club c.args.key
    c.question_of.result c.others_kind.ensures c.question_of.ensures in
    let G : GroupQuestion → Type 0 = λ it. GoesInCup judged c.loop-club.at (tree_head group it)
    (Ok c.in_ok-at.at) in
    let goes = subst G same c.in_ok-at.ensures in (
      omega (arith, goes.0),
      reach_after judged c.args.from c.loop-club.at c.in_ok-at.at
          (others_due c.args.claim key group) (head club ∷ [])
          (map head (drop (club + 1) clubs))
          (subst R (drop-range (length group.sheet.clubs) club within) c.loop-club.invariant.1)
          goes,
    )

pub returns : goal.returns
returns c =
    let judged = c.args.self.now in
    let group = c.args.group.now in
    let key = key_parts c.args.key in
    let clubs = range_with_len 0 (length group.sheet.clubs) in
    let head : ℕ → CupDue = λ club. tree_head group (record {
      kind = others_kind c.args.claim;
      club = club;
      key = key;
    }) in
    let R : List ℕ → Type 0 = λ it. ReachesInCup judged c.args.from
    (others_due c.args.claim key group) c.loop-club.at (map head it) 0 in (
      c.loop-club.invariant.0,
      reached_goes judged c.args.from c.loop-club.at (others_due c.args.claim key group)
          (subst R (drop_all c.loop-club.club clubs (omega (
            arith,
            c.clubs-club-end.ensures,
            c.loop-club-test.false,
            length-range_with_len 0 (length group.sheet.clubs),
          ))) c.loop-club.invariant.1),
    )

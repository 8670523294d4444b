-- One listed group after the other.
use Rattle.std.proofs.Common.{◌≡◌, ◌+◌, ◌∙◌, ℕ, List, ◌∷◌, length, drop, get_or, ap, subst}
use Rattle.std.proofs.Common.{arith}
use Rattle.std.specs.Prelude.{nat_lt}
use Rattle.std.specs.List.{flat_map}
use Rattle.std.proofs.lemmas.Bool.{ltb-true}
use Rattle.std.proofs.lemmas.List.{drop_all, drop_more}
use Rattle.std.proofs.lemmas.Result.{err_from_is_err_and}
use Rattle.club_keys.specs.inside.KeyEnds.{key_parts}
use Rattle.cup_grammar.specs.PlacedGroups.{PlacedGroup, groups_at, placed_groups}
use Rattle.cert_check.proofs.GoesLemmas.{reach_halt}
use Rattle.cup_grammar.specs.CupDues.{others_due}
use Rattle.cup_grammar.specs.CupReports.{cup_grammar}
use Rattle.cup_check.specs.inside.CupGoes.{ReachesInCup}
use Rattle.cup_check.proofs.CupReachLemmas.{reach_after, reached_goes}
use Rattle.cup_check.proofs.PlaceLemmas.{all_at, groups_at-cons, length-placed}
use Rattle.cup_check.proofs.report.CupReport.other_trees.Goals as goal

pub group-requires : goal.group-requires
group-requires c =
    let basis = c.args.self.now.basis in
    let count = length (placed_groups basis) in
    let below = all_at (λ number. nat_lt number count) c.args.numbers.now
    c.loop-number.number-index c.requires.numbers c.loop-number-test.true in
    omega (
      arith,
      ltb-true (get_or c.args.numbers.now c.loop-number.number-index 0) count below,
      length-placed basis c.recall_invariant.ensures.of_groups,
    )

pub returns-in_err-at : goal.returns-in_err-at
returns-in_err-at c =
    let judged = c.args.self.now in
    let placed = placed_groups judged.basis in
    let due = others_due c.args.claim (key_parts c.args.key) in
    let numbers = c.args.numbers.now in
    let index = c.loop-number.number-index in
    let number = get_or numbers index 0 in
    let later = groups_at placed (drop (index + 1) numbers) in
    let left : groups_at placed (drop index numbers) ≡ c.group.result ∷ later =
    ap (groups_at placed) (drop_more numbers index 0 c.loop-number-test.true)
    ∙ groups_at-cons placed number (drop (index + 1) numbers) c.group.result c.group.ensures in
    let R : List PlacedGroup → Type 0 = λ it. ReachesInCup judged c.args.from
    (flat_map due (groups_at placed numbers)) c.loop-number.at (flat_map due it) 0 in
    let gone = err_from_is_err_and c.from_residual.result c.from_residual.ensures.1 in
    rw (gone.1, gone.2)
    (reach_halt cup_grammar judged c.args.from c.loop-number.at 0
    (flat_map due (groups_at placed numbers))
    (due c.group.result) (flat_map due later) c.in_err-at.field-0.0
    (subst R left c.loop-number.invariant.1) c.in_err-at.ensures)

pub loop-number-preserved : goal.loop-number-preserved
loop-number-preserved c =
    let judged = c.args.self.now in
    let placed = placed_groups judged.basis in
    let due = others_due c.args.claim (key_parts c.args.key) in
    let numbers = c.args.numbers.now in
    let index = c.loop-number.number-index in
    let number = get_or numbers index 0 in
    let later = groups_at placed (drop (index + 1) numbers) in
    let left : groups_at placed (drop index numbers) ≡ c.group.result ∷ later =
    ap (groups_at placed) (drop_more numbers index 0 c.loop-number-test.true)
    ∙ groups_at-cons placed number (drop (index + 1) numbers) c.group.result c.group.ensures in
    let R : List PlacedGroup → Type 0 = λ it. ReachesInCup judged c.args.from
    (flat_map due (groups_at placed numbers)) c.loop-number.at (flat_map due it) 0 in (
      c.in_ok-at.ensures.0,
      reach_after judged c.args.from c.loop-number.at c.in_ok-at.at
          (flat_map due (groups_at placed numbers)) (due c.group.result) (flat_map due later)
          (subst R left c.loop-number.invariant.1) c.in_ok-at.ensures,
    )

pub returns : goal.returns
returns c =
    let judged = c.args.self.now in
    let placed = placed_groups judged.basis in
    let due = others_due c.args.claim (key_parts c.args.key) in
    let numbers = c.args.numbers.now in
    let R : List ℕ → Type 0 = λ it. ReachesInCup judged c.args.from
    (flat_map due (groups_at placed numbers)) c.loop-number.at
    (flat_map due (groups_at placed it)) 0 in (
      c.loop-number.invariant.0,
      reached_goes judged c.args.from c.loop-number.at (flat_map due (groups_at placed numbers))
          (subst R (drop_all c.loop-number.number-index numbers c.loop-number-test.false)
          c.loop-number.invariant.1),
    )

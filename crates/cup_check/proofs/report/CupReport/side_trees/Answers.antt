-- The tree about the club's place, then the one about nearer keys, then those of other groups.
use Rattle.std.proofs.Common.{◌∷◌, [], Err, Ok, ap, arith, subst}
use Rattle.std.specs.List.{flat_map}
use Rattle.std.proofs.lemmas.Result.{err_from_is_err_and}
use Rattle.club_keys.specs.inside.KeyEnds.{key_parts}
use Rattle.cert_check.proofs.GoesLemmas.{first_goes, first_halts}
use Rattle.cup_sheet.specs.KeyBounds.{nearer_kind, place_kind}
use Rattle.cup_groups.specs.declared.question.KindQuestion.{KindQuestion}
use Rattle.cup_grammar.specs.PlacedGroups.{groups_at, own_club, placed_groups}
use Rattle.cup_grammar.specs.CupDues.{CupDue, others_due, tree_head}
use Rattle.cup_grammar.specs.CupReports.{cup_grammar}
use Rattle.cup_check.specs.inside.CupGoes.{GoesInCup, HaltsInCup}
use Rattle.cup_check.proofs.CupSideLemmas.{from_start, nearer_due, own_below, place_due}
use Rattle.cup_check.proofs.report.CupReport.side_trees.Goals as goal

pub own_club-own-requires : goal.own_club-own-requires
own_club-own-requires c = from_start c.args.mine.now c.args.side.club c.requires.has

pub tree_head-requires-clause-in_range : goal.tree_head-requires-clause-in_range
tree_head-requires-clause-in_range c =
    omega (
      arith,
      c.own_club-own.ensures,
      ap (λ (it : KindQuestion). it.club) c.question_of-place.ensures,
      own_below c.args.mine.now c.args.side.club c.requires.has,
    )

pub tree_head-requires-2-clause-in_range : goal.tree_head-requires-2-clause-in_range
tree_head-requires-2-clause-in_range c =
    omega (
      arith,
      c.own_club-own.ensures,
      ap (λ (it : KindQuestion). it.club) c.question_of-nearer.ensures,
      own_below c.args.mine.now c.args.side.club c.requires.has,
    )

pub returns-in_err-at : goal.returns-in_err-at
returns-in_err-at c =
    let judged = c.args.self.now in
    let mine = c.args.mine.now in
    let claim = c.args.side.claim in
    let club = c.args.side.club in
    let key = key_parts c.args.key in
    let nearer = tree_head mine (record {
      kind = nearer_kind claim;
      club = own_club mine club;
      key = key;
    }) in
    let others = flat_map (others_due claim key)
    (groups_at (placed_groups judged.basis) c.args.numbers.now) in
    let stop = c.in_err-at.field-0.0 in
    let H : CupDue → Type 0 = λ it. HaltsInCup judged c.args.from it stop in
    let place = place_due mine claim club c.own_club-own.result c.args.key c.place_kind.result
    c.question_of-place.result c.place_kind.ensures c.question_of-place.ensures
    c.own_club-own.ensures in
    let gone = err_from_is_err_and c.from_residual.result c.from_residual.ensures.1 in
    rw (gone.1, gone.2)
    (first_halts cup_grammar judged c.args.from
    (tree_head mine (record { kind = place_kind claim; club = own_club mine club; key = [] }))
    (nearer ∷ others) stop (subst H place c.in_err-at.ensures))

pub returns-in_err-behind : goal.returns-in_err-behind
returns-in_err-behind c =
    let judged = c.args.self.now in
    let mine = c.args.mine.now in
    let claim = c.args.side.claim in
    let club = c.args.side.club in
    let key = key_parts c.args.key in
    let at = c.in_ok-at.at in
    let first =
    tree_head mine (record { kind = place_kind claim; club = own_club mine club; key = [] }) in
    let second = tree_head mine (record {
      kind = nearer_kind claim;
      club = own_club mine club;
      key = key;
    }) in
    let others = flat_map (others_due claim key)
    (groups_at (placed_groups judged.basis) c.args.numbers.now) in
    let stop = c.in_err-behind.field-0.0 in
    let G : CupDue → Type 0 = λ it. GoesInCup judged c.args.from it (Ok at) in
    let H : CupDue → Type 0 = λ it. HaltsInCup judged at it stop in
    let place = place_due mine claim club c.own_club-own.result c.args.key c.place_kind.result
    c.question_of-place.result c.place_kind.ensures c.question_of-place.ensures
    c.own_club-own.ensures in
    let nearer = nearer_due mine claim club c.own_club-own.result c.args.key
    c.nearer_kind.result c.question_of-nearer.result c.nearer_kind.ensures
    c.question_of-nearer.ensures c.own_club-own.ensures in
    let gone = err_from_is_err_and c.from_residual-in_err-behind.result
    c.from_residual-in_err-behind.ensures.1 in
    rw (gone.1, gone.2)
    (first_goes cup_grammar judged c.args.from at first (second ∷ others) (Err stop)
    (subst G place c.in_ok-at.ensures)
    (first_halts cup_grammar judged at second others stop (subst H nearer c.in_err-behind.ensures)))

pub returns : goal.returns
returns c =
    let judged = c.args.self.now in
    let mine = c.args.mine.now in
    let claim = c.args.side.claim in
    let club = c.args.side.club in
    let key = key_parts c.args.key in
    let at = c.in_ok-at.at in
    let behind = c.in_ok-behind.behind in
    let first =
    tree_head mine (record { kind = place_kind claim; club = own_club mine club; key = [] }) in
    let second = tree_head mine (record {
      kind = nearer_kind claim;
      club = own_club mine club;
      key = key;
    }) in
    let others = flat_map (others_due claim key)
    (groups_at (placed_groups judged.basis) c.args.numbers.now) in
    let G : CupDue → Type 0 = λ it. GoesInCup judged c.args.from it (Ok at) in
    let H : CupDue → Type 0 = λ it. GoesInCup judged at it (Ok behind) in
    let place = place_due mine claim club c.own_club-own.result c.args.key c.place_kind.result
    c.question_of-place.result c.place_kind.ensures c.question_of-place.ensures
    c.own_club-own.ensures in
    let nearer = nearer_due mine claim club c.own_club-own.result c.args.key
    c.nearer_kind.result c.question_of-nearer.result c.nearer_kind.ensures
    c.question_of-nearer.ensures c.own_club-own.ensures in
    first_goes cup_grammar judged c.args.from at first (second ∷ others) c.other_trees.result
    (subst G place c.in_ok-at.ensures)
    (first_goes cup_grammar judged at behind second others c.other_trees.result
    (subst H nearer c.in_ok-behind.ensures) c.other_trees.ensures)

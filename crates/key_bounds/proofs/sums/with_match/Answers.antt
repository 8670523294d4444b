-- By the side on which the club plays, if it does.
use Rattle.std.proofs.Common.{◌≡◌, true, false, eqb, arith}
use Rattle.std.proofs.lemmas.Bool.Decides.{nat_tests}
use Rattle.key_bounds.proofs.WalkLemmas.{side_grows, grows_at_home, grows_away, grows_nowhere}
use Rattle.key_bounds.proofs.sums.with_match.Goals as goal

pub returns-then-fixture-club : goal.returns-then-fixture-club
returns-then-fixture-club c = λ options is.
    let home = c.if-fixture-club.true in
    let is_home : eqb c.args.fixture.home c.args.club ≡ true = grind (arith, nat_tests, home) in
    grows_at_home c.args.fixture c.args.club options c.args.sums.now c.plus.result is_home
    (side_grows c.args.cell.now false options c.side_ends.result c.args.sums.now c.plus.result
    c.side_ends.ensures is c.plus.ensures)

pub returns-then-fixture-club-2 : goal.returns-then-fixture-club-2
returns-then-fixture-club-2 c = λ options is.
    let home = c.if-fixture-club.false in
    let away = c.if-fixture-club-2.true in
    let not_home : eqb c.args.fixture.home c.args.club ≡ false = grind (arith, nat_tests, home) in
    let is_away : eqb c.args.fixture.away c.args.club ≡ true = grind (arith, nat_tests, away) in
    grows_away c.args.fixture c.args.club options c.args.sums.now
    c.plus-then-fixture-club-2.result not_home is_away
    (side_grows c.args.cell.now true options c.side_ends-then-fixture-club-2.result
    c.args.sums.now c.plus-then-fixture-club-2.result c.side_ends-then-fixture-club-2.ensures is
    c.plus-then-fixture-club-2.ensures)

pub returns-else-fixture-club-2 : goal.returns-else-fixture-club-2
returns-else-fixture-club-2 c = λ options is.
    let home = c.if-fixture-club.false in
    let away = c.if-fixture-club-2.false in
    let not_home : eqb c.args.fixture.home c.args.club ≡ false = grind (arith, nat_tests, home) in
    let not_away : eqb c.args.fixture.away c.args.club ≡ false = grind (arith, nat_tests, away) in
    grows_nowhere c.args.fixture c.args.club options c.args.sums.now not_home not_away

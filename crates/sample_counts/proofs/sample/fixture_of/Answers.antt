use Rattle.std.proofs.Common.{◌≡◌, refl, ◌+◌, ◌/◌, ◌%◌, eq-eqb, ne_eqb, true, false}
use Rattle.sample_counts.specs.Samples.{sample_fixture, is_first_at_home}
use Rattle.sample_counts.proofs.sample.fixture_of.Goals as goal

pub returns-then-half-turn-eq0 : goal.returns-then-half-turn-eq0
unfolding sample_fixture
returns-then-half-turn-eq0 c =
    let number = c.args.number in
    let home : is_first_at_home (number / 66) (number / 6 % 11) ≡ true =
    eq-eqb ((number / 66 + number / 6 % 11) % 2) 0 c.if-half-turn-eq0.true in
    rw (home, c.second_of-second.ensures) refl

pub returns-else-half-turn-eq0 : goal.returns-else-half-turn-eq0
unfolding sample_fixture
returns-else-half-turn-eq0 c =
    let number = c.args.number in
    let away : is_first_at_home (number / 66) (number / 6 % 11) ≡ false =
    ne_eqb ((number / 66 + number / 6 % 11) % 2) 0 c.if-half-turn-eq0.false in
    rw (away, c.second_of-second.ensures) refl

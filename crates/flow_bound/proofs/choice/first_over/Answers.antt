use Rattle.std.proofs.Common.{◌≡◌, ℕ, ℤ, pos, ◌≤ℤ◌, ◌<ℤ◌, true, false, sym, ◌∙◌}
use Rattle.std.proofs.Common.{arith}
use Rattle.std.specs.Prelude.{int_lt}
use Rattle.std.proofs.lemmas.Bool.{false≢true}
use Rattle.std.proofs.lemmas.Int.{ints}
use Rattle.league_core.proofs.WalkLemmas.{comes_to}
use Rattle.league_core.proofs.SeenLemmas.{each_seen}
use Rattle.flow_bound.specs.inside.Parts.{entry}
use Rattle.flow_bound.proofs.choice.first_over.Goals as goal

above : (n : ℤ) → int_lt (pos 0) n ≡ true → pos 0 <ℤ n
above n is = grind (arith, ints)

not_above : (n : ℤ) → int_lt (pos 0) n ≡ false → n ≤ℤ pos 0
not_above n is = grind (arith, ints)

pub loop-club-init : goal.loop-club-init
loop-club-init c = λ club has. absurd (false≢true has)

pub is_over-requires : goal.is_over-requires
is_over-requires c =
    (comes_to c.args.marked c.loop-club.yielded c.in-Some.club
    (c.into_iter-club-iterator.ensures.into_iter_gives ∙ c.clubs-club-items.ensures.all)
    c.loop-club.yielded_by c.in-Some.ensures.steps).low

pub loop-club-preserved : goal.loop-club-preserved
loop-club-preserved c =
    let None : ℕ → Type 0 = λ club. entry c.args.alone.now club ≤ℤ pos 0 in
    each_seen None None c.loop-club.yielded c.in-Some.club (λ club apart none. none)
    (not_above (entry c.args.alone.now c.in-Some.club)
    (sym c.is_over.ensures ∙ c.if-is_over.false))
    c.loop-club.invariant

pub returns-then-is_over : goal.returns-then-is_over
returns-then-is_over c =
    let met = comes_to c.args.marked c.loop-club.yielded c.in-Some.club
    (c.into_iter-club-iterator.ensures.into_iter_gives ∙ c.clubs-club-items.ensures.all)
    c.loop-club.yielded_by c.in-Some.ensures.steps in
    record {
      among = met.among;
      over = above (entry c.args.alone.now c.in-Some.club)
          (sym c.is_over.ensures ∙ c.if-is_over.true);
      none_before = λ earlier less among.
          c.loop-club.invariant earlier (met.before earlier less among);
    }

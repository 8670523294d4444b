-- The next club has as many before it as were counted.
use Rattle.std.proofs.Common.{◌≡◌, ◌<◌, length, set, slice_index, refl, sym, ap, ◌∙◌, inl, inr}
use Rattle.std.proofs.Common.{arith}
use Rattle.std.proofs.lemmas.Bool.{cases_eq}
use Rattle.std.proofs.lemmas.Bool.Decides.{nat_tests}
use Rattle.std.proofs.lemmas.List.{get_or-set_other, get_or-set_same, length-set}
use Rattle.league_core.specs.game.ClubSets.{clubs_below, clubs_in}
use Rattle.league_core.proofs.ClubSetLemmas.{clubs_below-none, length-clubs_below-suc}
use Rattle.flow_bound.proofs.PlaceLemmas.{place_back, place_within}
use Rattle.flow_bound.proofs.SetLemmas.{side_of-lt}
use Rattle.flow_bound.proofs.places.places_of.Goals as goal

pub loop-club-init : goal.loop-club-init
loop-club-init c = record {
  long = refl;
  count = sym (ap length (clubs_below-none c.args.set.bits));
  few = omega arith;
  done = λ other below. absurd (omega arith);
}

pub loop-club-preserved : goal.loop-club-preserved
loop-club-preserved c =
    let places = c.loop-club.places in
    let club = c.loop-club.club in
    let bits = c.args.set.bits in
    let low : club < 32 = c.loop-club-test.true in
    let within : club < length places = omega (arith, c.loop-club.invariant.long) in
    let more = length-clubs_below-suc club bits low in
    record {
      long = length-set places club c.loop-club.count ∙ c.loop-club.invariant.long;
      count = grind (arith, nat_tests);
      few = grind (arith, nat_tests);
      done = λ other below.
          elim (cases_eq other club) as (λ _. slice_index (set places club c.loop-club.count) other
          ≡ length (clubs_below other bits)) [
            | inl same ↦ ap (λ n. slice_index (set places club c.loop-club.count) n) same
                ∙ get_or-set_same places club c.loop-club.count 0 within
                ∙ c.loop-club.invariant.count
                ∙ ap (λ n. length (clubs_below n bits)) (sym same)
            | inr apart ↦ get_or-set_other places club other c.loop-club.count 0 apart
                ∙ c.loop-club.invariant.done other (omega arith)
          ];
    }

pub returns : goal.returns
returns c =
    let bits = c.args.set.bits in
    record {
      long = c.loop-club.invariant.long;
      within = λ club has.
          let low = side_of-lt c.args.set club has in
          let place = c.loop-club.invariant.done club (omega (arith, c.loop-club-test.false)) in
          omega (arith, place_within bits club low has);
      back = λ club has.
          let low = side_of-lt c.args.set club has in
          let place = c.loop-club.invariant.done club (omega (arith, c.loop-club-test.false)) in
          ap (λ n. slice_index (clubs_in c.args.set) n) place ∙ place_back bits club low has;
    }

use Rattle.std.proofs.Common.{◌≡◌, ◌++◌, [], ◌∷◌, map, ap, refl, sym, ◌∙◌, arith}
use Rattle.std.specs.List.{range_with_len}
use Rattle.std.proofs.lemmas.List.FromFn.{map-range_with_len_more}
use Rattle.league_core.specs.declared.season.Event.TheVariants.{Set}
use Rattle.sample_counts.specs.Samples.{sample_events, sample_event, state_after, next_state}
use Rattle.sample_counts.proofs.SampleLemmas.{state-pair, result-drawn}
use Rattle.sample_counts.proofs.sample.results.Goals as goal

pub returns : goal.returns
unfolding sample_events
returns c =
    let all : c.loop-fixture.fixture ≡ 114 = omega arith in
    c.loop-fixture.invariant.events_are
    ∙ ap (λ n. map (sample_event c.args.seed) (range_with_len 0 n)) all

pub loop-fixture-init : goal.loop-fixture-init
unfolding state_after
loop-fixture-init c = record { state_is = refl; events_are = c.new-events.ensures.items }

pub loop-fixture-preserved : goal.loop-fixture-preserved
loop-fixture-preserved c =
    let seed = c.args.seed in
    let fixture = c.loop-fixture.fixture in
    let before = c.loop-fixture.invariant in
    record {
      state_is = c.draw-away.ensures.state
          ∙ ap next_state (c.draw-home.ensures.state ∙ ap next_state before.state_is)
          ∙ sym (state-pair seed fixture);
      events_are = c.in_ok-push.ensures.items
          ∙ ap (λ es. es ++ Set fixture (record {
            home = c.draw-home.result;
            away =
                c.draw-away.result;
          }) ∷ []) before.events_are
          ∙ ap (λ e. map (sample_event seed) (range_with_len 0 fixture) ++ e ∷ [])
          (result-drawn seed fixture _ _ _ _ _ before.state_is c.draw-home.ensures.state
          c.draw-away.ensures.state c.draw-home.ensures.value c.draw-away.ensures.value)
          ∙ sym (map-range_with_len_more (sample_event seed) 0 fixture fixture (omega arith));
    }

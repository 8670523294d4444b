use Rattle.std.proofs.Common.{◌≡◌, ℤ, List, subst, ap, ◌∙◌, inr}
use Rattle.club_keys.specs.inside.KeyEnds.{key_parts}
use Rattle.cup_sheet.specs.KeyBounds.{far_key}
use Rattle.turning_keys.specs.inside.TurningSearches.{IsRefutedWithin}
use Rattle.turning_keys.specs.inside.TurningQuestions.{halving_question}
use Rattle.turning_keys.proofs.ReachedLemmas.{example_reached, refuted_at}
use Rattle.turning_keys.proofs.FindLemmas.{none_known, none_at_far}
use Rattle.turning_keys.proofs.EndLemmas.{spent_at_first}
use Rattle.turning_keys.proofs.turning.turning_key.Goals as goal

pub candidate_key-requires-clause-reached : goal.candidate_key-requires-clause-reached
candidate_key-requires-clause-reached c =
    let found = rw c.in-Won.is at c.in_ok-example.ensures in
    record {
      known =
          none_known c.args.sheet.now c.args.season.now c.args.claim c.args.club
          c.requires.league.limits c.scores-scores.ensures.within c.requires.in_range
          (key_parts c.far_key-key.result) c.far_key-key.ensures;
      near =
          example_reached c.args.sheet.now c.args.season.now c.args.club c.args.claim
          (key_parts c.far_key-key.result) c.in-Won.example
          (rw c.halving-question.ensures.question at found);
    }

pub last_question-requires-clause-turning : goal.last_question-requires-clause-turning
last_question-requires-clause-turning c =
    let found = rw c.in-Refuted.is at c.in_ok-example.ensures in
    let refuted = refuted_at c.args.sheet.now c.args.season.now c.args.club c.args.claim
    (key_parts c.far_key-key.result) _ _ c.requires.league.limits
    c.scores-scores.ensures.within c.requires.in_range
    (rw c.halving-question.ensures.question at found) in
    let far : key_parts c.far_key-key.result ≡ far_key c.args.claim = c.far_key-key.ensures in
    inr (
      none_at_far c.args.sheet.now c.args.season.now c.args.claim c.args.club
          c.requires.league.limits c.scores-scores.ensures.within c.requires.in_range
          (subst (λ (it : List ℤ). IsRefutedWithin c.args.sheet.now c.args.season.now c.args.claim
          c.args.club it) far refuted),
      far,
    )

pub last_question-requires-clause-example : goal.last_question-requires-clause-example
last_question-requires-clause-example c =
    let found = rw c.in-Refuted.is at c.in_ok-example.ensures in
    let refuted = refuted_at c.args.sheet.now c.args.season.now c.args.club c.args.claim
    (key_parts c.far_key-key.result) _ _ c.requires.league.limits
    c.scores-scores.ensures.within c.requires.in_range
    (rw c.halving-question.ensures.question at found) in
    let far : key_parts c.far_key-key.result ≡ far_key c.args.claim = c.far_key-key.ensures in (
      none_at_far c.args.sheet.now c.args.season.now c.args.claim c.args.club
          c.requires.league.limits c.scores-scores.ensures.within c.requires.in_range
          (subst (λ (it : List ℤ). IsRefutedWithin c.args.sheet.now c.args.season.now c.args.claim
          c.args.club it) far refuted),
      far,
    )

pub returns : goal.returns
returns c =
    let found = rw c.in-Spent.is at c.in_ok-example.ensures in
    let far : key_parts c.far_key-key.result ≡ far_key c.args.claim = c.far_key-key.ensures in
    spent_at_first c.args.sheet.now c.args.season.now c.args.claim c.args.club
    c.requires.in_range c.halving-question.result c.in-Spent.nodes.items
    (c.halving-question.ensures.question
    ∙ ap (λ (it : List ℤ). halving_question c.args.claim c.args.club it) far) found

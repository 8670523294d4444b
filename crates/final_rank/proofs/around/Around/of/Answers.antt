use Rattle.std.proofs.Common.{[], ◌||◌, map, get_or, take, sym, ap, ◌∙◌, arith}
use Rattle.std.proofs.lemmas.Bool.{or_from}
use Rattle.std.proofs.lemmas.List.{length-map, get_or-map}
use Rattle.std.specs.List.{concat}
use Rattle.league_core.specs.game.Sums.{has_club}
use Rattle.league_core.specs.game.ClubSets.{clubs_in}
use Rattle.final_rank.proofs.AroundLemmas.{around_found, has_club-taken_more}
use Rattle.final_rank.proofs.around.Around.of.Goals as goal

pub returns-then-has : goal.returns-then-has
returns-then-has c = λ order group total are among.
    let blocks = c.args.blocks.now in
    let i = c.loop-block.block-index in
    let read = get_or-map clubs_in blocks i (record { bits = 0 }) [] (omega arith) in
    around_found order group (map clubs_in blocks) i c.args.club
    (record { ahead = c.loop-block.ahead; level = get_or blocks i (record { bits = 0 }) })
    total are (omega (arith, length-map blocks clubs_in))
    (ap (λ xs. has_club xs c.args.club) read ∙ sym c.has.ensures ∙ c.if-has.true)
    c.loop-block.invariant.ahead
    (λ x. ap (λ xs. has_club xs x) (sym read))

pub loop-block-preserved : goal.loop-block-preserved
loop-block-preserved c =
    let blocks = c.args.blocks.now in
    let i = c.loop-block.block-index in
    let read = get_or-map clubs_in blocks i (record { bits = 0 }) [] (omega arith) in
    record {
      ahead = λ x.
          c.union-ahead.ensures x
          ∙ (λ j. c.loop-block.invariant.ahead x j || has_club (sym read j) x)
          ∙ sym (has_club-taken_more (map clubs_in blocks) i x
          (omega (arith, length-map blocks clubs_in)));
      missing =
          has_club-taken_more (map clubs_in blocks) i c.args.club
          (omega (arith, length-map blocks clubs_in))
          ∙ or_from (has_club (concat (take i (map clubs_in blocks))) c.args.club)
          (has_club (get_or (map clubs_in blocks) i []) c.args.club)
          c.loop-block.invariant.missing (ap (λ xs. has_club xs c.args.club) read
          ∙ sym c.has.ensures ∙ c.if-has.false);
    }

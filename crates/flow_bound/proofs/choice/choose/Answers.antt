-- Clubs that cannot add anything are left out first. Then one club is enough, or none is left, or
-- the rest is decided by the network.
use Rattle.std.proofs.Common.{List, inl, sym, subst, ◌∙◌}
use Rattle.std.proofs.lemmas.Bool.{false≢true}
use Rattle.std.specs.Prelude.{MatchOption}
use Rattle.flow_bound.specs.declared.tally.Pair.{Pair}
use Rattle.flow_bound.specs.inside.Fixtures.{pairs_in}
use Rattle.flow_bound.specs.inside.Parts.{HasNoExcess, IsLeastBest, IsLeftOpenIn, side_of}
use Rattle.flow_bound.proofs.ChoiceLemmas.{answer_of_rest, left_open, rest_of_pairs}
use Rattle.flow_bound.proofs.PeelLemmas.{none_left}
use Rattle.flow_bound.proofs.SetLemmas.{no_club_left}
use Rattle.flow_bound.proofs.SpareLemmas.{IsFirstOver-whole, KeepsExcess-both, NoneOver-whole}
use Rattle.flow_bound.proofs.choice.choose.Goals as goal
use Rattle.league_core.proofs.plain.Options.{err-holds}

pub returns-then-is_empty-clause-answer : goal.returns-then-is_empty-clause-answer
returns-then-is_empty-clause-answer c =
    none_left c.args.alone.now (pairs_in c.args.cut c.args.zone_box.now) (side_of c.args.marked)
    (side_of c.prefilter_by_points-prefilter_by_points.result)
    (c.prefilter_by_points-prefilter_by_points.ensures.kept c.args.cut)
    (no_club_left c.prefilter_by_points-prefilter_by_points.result
    (c.is_empty.ensures.0 c.if-is_empty.true))

pub returns-in-Some-clause-answer : goal.returns-in-Some-clause-answer
returns-in-Some-clause-answer c = inl (
  c.in-Some.club,
  IsFirstOver-whole c.args.alone.now (side_of c.args.marked)
      (side_of c.prefilter_by_points-prefilter_by_points.result)
      c.in-Some.club (c.prefilter_by_points-prefilter_by_points.ensures.kept c.args.cut).part
      c.prefilter_by_points-prefilter_by_points.ensures.low c.in-Some.ensures,
  c.single.ensures,
)

pub returns-then-is_empty-2-clause-answer : goal.returns-then-is_empty-2-clause-answer
returns-then-is_empty-2-clause-answer c =
    let pairs = pairs_in c.args.cut c.args.zone_box.now in
    none_left c.args.alone.now pairs (side_of c.args.marked) (side_of c.peel-rest.result)
    (KeepsExcess-both c.args.alone.now pairs (side_of c.args.marked)
    (side_of c.prefilter_by_points-prefilter_by_points.result) (side_of c.peel-rest.result)
    (c.prefilter_by_points-prefilter_by_points.ensures.kept c.args.cut) c.peel-rest.ensures.kept)
    (no_club_left c.peel-rest.result (c.is_empty-2.ensures.0 c.if-is_empty-2.true))

pub returns-clause-answer : goal.returns-clause-answer
returns-clause-answer c =
    let pairs = pairs_in c.args.cut c.args.zone_box.now in
    let keeps = KeepsExcess-both c.args.alone.now pairs (side_of c.args.marked)
    (side_of c.prefilter_by_points-prefilter_by_points.result) (side_of c.peel-rest.result)
    (c.prefilter_by_points-prefilter_by_points.ensures.kept c.args.cut) c.peel-rest.ensures.kept in
    let none = NoneOver-whole c.args.alone.now (side_of c.args.marked)
    (side_of c.prefilter_by_points-prefilter_by_points.result)
    c.prefilter_by_points-prefilter_by_points.ensures.low c.in_default.ensures in
    let Decided : List Pair → Type 0 = λ ps. MatchOption c.in_ok-found.found
    (HasNoExcess c.args.alone.now ps (side_of c.peel-rest.result))
    (λ set. IsLeastBest c.args.alone.now ps (side_of c.peel-rest.result) (side_of set)) in
    answer_of_rest c.args.alone.now pairs (side_of c.args.marked)
    (side_of c.peel-rest.result) c.in_ok-found.found keeps none
    (rest_of_pairs c.args.alone.now c.in_ok-pairs.pairs.items pairs (side_of c.peel-rest.result)
    c.in_ok-found.found c.in_ok-pairs.ensures.sums
    (subst Decided c.as_slice.ensures.value c.in_ok-found.ensures))

pub returns-in_err-pairs-clause-spared : goal.returns-in_err-pairs-clause-spared
returns-in_err-pairs-clause-spared c =
    let pairs = pairs_in c.args.cut c.args.zone_box.now in
    err-holds c.from_residual.result
    (IsLeftOpenIn c.args.alone.now pairs (side_of c.args.marked))
    (left_open c.args.alone.now pairs (side_of c.args.marked) c.peel-rest.result
    (NoneOver-whole c.args.alone.now (side_of c.args.marked)
    (side_of c.prefilter_by_points-prefilter_by_points.result)
    c.prefilter_by_points-prefilter_by_points.ensures.low c.in_default.ensures)
    (KeepsExcess-both c.args.alone.now pairs (side_of c.args.marked)
    (side_of c.prefilter_by_points-prefilter_by_points.result) (side_of c.peel-rest.result)
    (c.prefilter_by_points-prefilter_by_points.ensures.kept c.args.cut) c.peel-rest.ensures.kept)
    (λ none. false≢true (sym c.if-is_empty-2.false ∙ c.is_empty-2.ensures.1 none))
    c.peel-rest.ensures.needed)

pub returns-in_err-found-clause-spared : goal.returns-in_err-found-clause-spared
returns-in_err-found-clause-spared c =
    let pairs = pairs_in c.args.cut c.args.zone_box.now in
    err-holds c.from_residual-in_err-found.result
    (IsLeftOpenIn c.args.alone.now pairs (side_of c.args.marked))
    (left_open c.args.alone.now pairs (side_of c.args.marked) c.peel-rest.result
    (NoneOver-whole c.args.alone.now (side_of c.args.marked)
    (side_of c.prefilter_by_points-prefilter_by_points.result)
    c.prefilter_by_points-prefilter_by_points.ensures.low c.in_default.ensures)
    (KeepsExcess-both c.args.alone.now pairs (side_of c.args.marked)
    (side_of c.prefilter_by_points-prefilter_by_points.result) (side_of c.peel-rest.result)
    (c.prefilter_by_points-prefilter_by_points.ensures.kept c.args.cut) c.peel-rest.ensures.kept)
    (λ none. false≢true (sym c.if-is_empty-2.false ∙ c.is_empty-2.ensures.1 none))
    c.peel-rest.ensures.needed)

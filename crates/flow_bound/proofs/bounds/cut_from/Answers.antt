-- The parts of the tally give the excess, and so the cut that is chosen.
use Rattle.std.proofs.Common.{sym, ◌∙◌}
use Rattle.flow_bound.specs.inside.Cuts.{excess_for, marked_for}
use Rattle.flow_bound.specs.inside.Fixtures.{pairs_in}
use Rattle.flow_bound.proofs.CutLemmas.{chosen_found, cut_fails, cut_found, cut_unmarked}
use Rattle.flow_bound.proofs.CutLemmas.{gives_excess, nothing_exceeds}
use Rattle.flow_bound.proofs.NeededLemmas.{left_open_is}
use Rattle.flow_bound.proofs.SetLemmas.{no_club_left}
use Rattle.flow_bound.proofs.bounds.cut_from.Goals as goal
use Rattle.league_core.proofs.plain.Options.{err-holds}

pub returns-clause-found : goal.returns-clause-found
returns-clause-found c =
    let box = c.args.zone_box.now in
    let gives = gives_excess c.args.cut box c.args.question.now c.own_entries-alone.result
    c.rivals_for-rivals.result c.level_for-level.result c.level_for-level.ensures.value
    c.level_for-level.ensures.least c.level_for-level.ensures.most
    c.rivals_for-rivals.ensures c.own_entries-alone.ensures.apart
    c.own_entries-alone.ensures.excess in
    cut_found c.args.cut box.sheet box.season c.args.question.now box.zone
    c.own_entries-alone.result (pairs_in c.args.cut box) c.rivals_for-rivals.result
    c.in_ok-chosen.chosen gives c.requires.has_finish c.in_ok-chosen.ensures.answer

pub returns-clause-absent : goal.returns-clause-absent
returns-clause-absent c none set =
    let box = c.args.zone_box.now in
    let gives = gives_excess c.args.cut box c.args.question.now c.own_entries-alone.result
    c.rivals_for-rivals.result c.level_for-level.result c.level_for-level.ensures.value
    c.level_for-level.ensures.least c.level_for-level.ensures.most
    c.rivals_for-rivals.ensures c.own_entries-alone.ensures.apart
    c.own_entries-alone.ensures.excess in
    cut_fails c.args.cut box.sheet box.season c.args.question.now box.zone set
    (nothing_exceeds c.own_entries-alone.result (pairs_in c.args.cut box) c.rivals_for-rivals.result
    (marked_for c.args.cut box.zone)
    (excess_for c.args.cut box.sheet box.season c.args.question.now box.zone)
    c.in_ok-chosen.chosen gives c.in_ok-chosen.ensures.answer none set)

pub returns-clause-chosen : goal.returns-clause-chosen
returns-clause-chosen c =
    let box = c.args.zone_box.now in
    let gives = gives_excess c.args.cut box c.args.question.now c.own_entries-alone.result
    c.rivals_for-rivals.result c.level_for-level.result c.level_for-level.ensures.value
    c.level_for-level.ensures.least c.level_for-level.ensures.most
    c.rivals_for-rivals.ensures c.own_entries-alone.ensures.apart
    c.own_entries-alone.ensures.excess in
    chosen_found c.own_entries-alone.result (pairs_in c.args.cut box) c.rivals_for-rivals.result
    (marked_for c.args.cut box.zone)
    (excess_for c.args.cut box.sheet box.season c.args.question.now box.zone)
    c.in_ok-chosen.chosen gives c.in_ok-chosen.ensures.answer

pub returns-in_err-chosen-clause-spared : goal.returns-in_err-chosen-clause-spared
returns-in_err-chosen-clause-spared c =
    let box = c.args.zone_box.now in
    let gives = gives_excess c.args.cut box c.args.question.now c.own_entries-alone.result
    c.rivals_for-rivals.result c.level_for-level.result c.level_for-level.ensures.value
    c.level_for-level.ensures.least c.level_for-level.ensures.most
    c.rivals_for-rivals.ensures c.own_entries-alone.ensures.apart
    c.own_entries-alone.ensures.excess in
    err-holds _ _ (left_open_is c.own_entries-alone.result (pairs_in c.args.cut box)
    c.rivals_for-rivals.result
    (marked_for c.args.cut box.zone)
    (excess_for c.args.cut box.sheet box.season c.args.question.now box.zone)
    gives c.in_err-chosen.ensures.spared)

pub returns-then-is_empty-clause-absent : goal.returns-then-is_empty-clause-absent
returns-then-is_empty-clause-absent c none set =
    let box = c.args.zone_box.now in
    cut_unmarked c.args.cut box.sheet box.season c.args.question.now box.zone set
    (λ club. sym (c.rivals_for-rivals.ensures club)
    ∙ no_club_left c.rivals_for-rivals.result (c.is_empty.ensures.0 c.if-is_empty.true) club)

use Rattle.std.proofs.Common.{[], get_or, refl, sym, ◌∙◌, arith}
use Rattle.league_core.specs.search.Options.{options_in, has_finish}
use Rattle.near_bound.proofs.TieLemmas.{none_there, some_there, some_everywhere}
use Rattle.near_bound.proofs.zone_left.ZoneLeft.has_finish.Goals as goal

pub loop-i-init : goal.loop-i-init
loop-i-init c = λ zone stands. refl

pub returns-then-not-has_score : goal.returns-then-not-has_score
unfolding has_finish
returns-then-not-has_score c = λ zone stands.
    let left = c.args.self.now in
    let options = options_in left.sheet.now left.season.now zone in
    let many = stands.matches.many in
    sym (none_there options c.loop-i.i (c.loop-i.invariant zone stands) (omega (arith, many))
    (sym (c.has_score.ensures (get_or options c.loop-i.i [])
    (stands.matches.each c.loop-i.i _ (omega arith)))
    ∙ c.if-not-has_score.true))

pub loop-i-preserved : goal.loop-i-preserved
loop-i-preserved c = λ zone stands.
    let left = c.args.self.now in
    let options = options_in left.sheet.now left.season.now zone in
    let many = stands.matches.many in
    some_there options c.loop-i.i (c.loop-i.invariant zone stands) (omega (arith, many))
    (sym (c.has_score.ensures (get_or options c.loop-i.i [])
    (stands.matches.each c.loop-i.i _ (omega arith)))
    ∙ c.if-not-has_score.false)

pub returns : goal.returns
unfolding has_finish
returns c = λ zone stands.
    let left = c.args.self.now in
    let many = stands.matches.many in
    sym (some_everywhere (options_in left.sheet.now left.season.now zone) c.loop-i.i
    (c.loop-i.invariant zone stands) (omega (arith, many)))

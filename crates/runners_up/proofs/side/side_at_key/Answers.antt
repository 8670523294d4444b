use Rattle.std.proofs.Common.{◌<◌, ◌≤◌, length, arith}
use Rattle.std.proofs.lemmas.Option.{slice_get_within}
use Rattle.club_keys.specs.inside.KeyEnds.{key_parts}
use Rattle.cup_sheet.specs.CupAnswers.{listed_groups, shown_groups}
use Rattle.runners_up.proofs.GroupSurveyLemmas.{one_is_open}
use Rattle.runners_up.proofs.SideAtKeyLemmas.{own_end_set, own_end_within, side_shown}
use Rattle.runners_up.proofs.side.side_at_key.Goals as goal

pub index_mut-requires : goal.index_mut-requires
index_mut-requires c =
    let within = own_end_within c.args.cup.now c.args.seasons.now c.args.seat.now
    (key_parts c.args.sought.now.key) c.args.own c.in_ok-ends.ends.items c.args.sought.now.mine
    c.requires.mine c.requires.own c.in_ok-ends.ensures in
    omega (arith, within)

pub survey_groups-requires-clause-ends : goal.survey_groups-requires-clause-ends
survey_groups-requires-clause-ends c =
    own_end_set c.args.cup.now c.args.seasons.now c.args.seat.now
    (key_parts c.args.sought.now.key) c.args.own c.in_ok-ends.ends.items c.args.sought.now.mine
    c.requires.mine c.requires.own c.in_ok-ends.ensures

pub returns-then-len-shown_groups : goal.returns-then-len-shown_groups
returns-then-len-shown_groups c =
    let cup = c.args.cup.now in
    let claim = c.args.sought.now.claim in
    let survey = c.in_ok-survey.survey in
    let enough : shown_groups cup claim ≤ length survey.shown.items =
    omega (
      arith,
      c.if-len-shown_groups.true,
      c.shown_groups.ensures,
      c.len.ensures,
    ) in
    side_shown cup c.args.seasons.now c.args.seat.now claim (key_parts c.args.sought.now.key)
    c.args.own c.in_ok-ends.ends.items c.args.sought.now.mine c.in_ok-survey.ensures.count survey
    c.in_ok-joint.joint c.requires.mine c.requires.own c.in_ok-ends.ensures
    c.in_ok-survey.ensures.asked enough c.in_ok-joint.ensures

pub unwrap-requires : goal.unwrap-requires
unwrap-requires c =
    let cup = c.args.cup.now in
    let claim = c.args.sought.now.claim in
    let mine = c.args.sought.now.mine in
    let survey = c.in_ok-survey.survey in
    let few_shown : length survey.shown.items < shown_groups cup claim =
    omega (arith, c.if-len-shown_groups.false, c.shown_groups.ensures, c.len.ensures) in
    let few_listed : length survey.listed.items < listed_groups cup claim =
    omega (arith, c.if-len-listed_groups.false, c.listed_groups.ensures, c.len-2.ensures) in
    let inside : mine < length cup.groups =
    omega (
      arith,
      c.requires.mine,
      slice_get_within cup.groups c.args.seat.now.group c.requires.seat.sheet
          c.requires.seat.there,
    ) in
    one_is_open cup c.args.seasons.now claim (key_parts c.args.sought.now.key) mine _ survey
    c.requires.cup inside c.in_ok-survey.ensures few_shown few_listed

use Rattle.std.proofs.Common.{◌<◌, length, arith}
use Rattle.std.proofs.lemmas.Option.{slice_get_within}
use Rattle.club_keys.specs.inside.KeyEnds.{key_parts}
use Rattle.cup_sheet.specs.CupAnswers.{listed_groups}
use Rattle.cup_sides.proofs.FarKeyLemmas.{none_shown, none_is_few}
use Rattle.runners_up.proofs.GroupSurveyLemmas.{one_is_open}
use Rattle.cup_sides.proofs.far.side_at_far_key.Goals as goal

pub unwrap-requires : goal.unwrap-requires
unwrap-requires c =
    let cup = c.args.cup.now in
    let claim = c.args.sought.now.claim in
    let key = key_parts c.args.sought.now.key in
    let mine = c.args.sought.now.mine in
    let survey = c.in_ok-survey.survey in
    let over = c.in_ok-survey.ensures in
    let none = none_shown cup c.args.seasons.now claim key mine c.in_ok-ends.ends.items
    over.count survey c.requires.cup c.have_results.ensures c.requires.far over.asked in
    let few_listed : length survey.listed.items < listed_groups cup claim =
    omega (arith, c.if-len-listed_groups.false, c.listed_groups.ensures, c.len.ensures) in
    let inside : mine < length cup.groups =
    omega (
      arith,
      c.requires.mine,
      slice_get_within cup.groups c.args.seat.now.group c.requires.seat.sheet
          c.requires.seat.there,
    ) in
    one_is_open cup c.args.seasons.now claim key mine c.in_ok-ends.ends.items survey
    c.requires.cup inside over
    (none_is_few cup claim (length survey.shown.items) c.requires.cup none) few_listed

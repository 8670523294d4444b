use Rattle.std.proofs.Common.{◌≡◌, ◌<◌, ◌+◌, ◌∙◌, List, length, sym, ap, arith, slice_index_or}
use Rattle.std.proofs.Common.{subst, inl, inr}
use Rattle.league_core.specs.declared.sheet.Sheet.{Sheet}
use Rattle.league_core.proofs.plain.Slots.{found_at}
use Rattle.club_keys.specs.inside.KeyEnds.{key_parts}
use Rattle.runners_up.specs.declared.survey.GroupSurvey.{GroupSurvey}
use Rattle.runners_up.specs.inside.GroupSurveys.{IsSurveyed}
use Rattle.runners_up.proofs.AnyEndLemmas.{seasons_count, each_league}
use Rattle.runners_up.proofs.GroupSurveyLemmas.{ends_count, own_surveyed, group_surveyed}
use Rattle.runners_up.proofs.JointShownLemmas.{starts_differ}
use Rattle.runners_up.proofs.survey.survey_groups.Goals as goal
use Rattle.runners_up.proofs.survey.survey_groups.Goals.{then-group-sought+in_ok-asked+in_ok-note}
use Rattle.runners_up.proofs.survey.survey_groups.Goals.{else-group-sought}

pub bounds-seasons-at : goal.bounds-seasons-at
bounds-seasons-at c =
    omega (
      arith,
      c.loop-group-test.true,
      ap length c.as_slice-groups.ensures,
      seasons_count c.args.cup.now.groups c.args.seasons.now c.requires.seasons,
    )

pub ask_group-requires : goal.ask_group-requires
ask_group-requires c =
    let groups = c.args.cup.now.groups in
    let k = c.loop-group.group in
    let sheet = c.index-groups-at.result in
    let inside : k < length groups =
    omega (arith, c.loop-group-test.true, ap length c.as_slice-groups.ensures) in
    let is : sheet ≡ slice_index_or groups k sheet = c.index-groups-at.is
    ∙ ap (λ (all : List Sheet). slice_index_or all k sheet) c.as_slice-groups.ensures in
    each_league c.requires.cup.groups.0 c.requires.cup.groups.1 groups c.args.seasons.now k sheet
    c.index-seasons-at.result c.requires.cup.groups.2 c.requires.seasons inside is
    c.index-seasons-at.is

pub note-requires : goal.note-requires
note-requires c =
    omega (
      arith,
      c.loop-group-test.true,
      ap length c.as_slice-groups.ensures,
      ends_count c.args.cup.now.groups c.args.seasons.now c.loop-group.survey.ends.items
          c.loop-group.invariant.each,
    )

pub loop-group-preserved : goal.loop-group-preserved
loop-group-preserved c =
    let groups = c.args.cup.now.groups in
    let seasons = c.args.seasons.now in
    let sought = c.args.sought.now in
    let key = key_parts sought.key in
    let k = c.loop-group.group in
    let inside : k < length groups =
    omega (arith, c.loop-group-test.true, ap length c.as_slice-groups.ensures) in
    let P : GroupSurvey → Type 0 = IsSurveyed c.args.cup.now seasons sought.claim key sought.mine
    c.args.ends.items (k + 1) in
    elim c.if-group-sought.branch as (λ _. P c.if-group-sought.survey) [
      | then-group-sought+in_ok-asked+in_ok-note w ↦ let sheet = w.index-groups-at.result in
          let season = w.index-seasons-at.result in
          let is : sheet ≡ slice_index_or groups k sheet = w.index-groups-at.is
          ∙ ap (λ (all : List Sheet). slice_index_or all k sheet) c.as_slice-groups.ensures in
          let many = seasons_count groups seasons c.requires.seasons in
          subst P (sym w.survey-is) (group_surveyed c.args.cup.now seasons sought.claim key
          sought.mine c.args.ends.items k sheet season w.in_ok-asked.asked c.loop-group.survey
          w.note.new.self
          (record {
            there = found_at groups k sheet inside is;
            season_there = found_at seasons k season (omega (arith, inside, many))
                w.index-seasons-at.is;
            differ = starts_differ k sought.mine w.if-group-sought.true;
          })
          w.in_ok-asked.ensures c.loop-group.invariant w.in_ok-note.ensures)
      | else-group-sought w ↦ subst P (sym w.survey-is) (own_surveyed c.args.cup.now seasons
          sought.claim key sought.mine c.args.ends.items k c.loop-group.survey
          w.if-group-sought.false c.loop-group.invariant)
    ]

pub returns-then-has_enough : goal.returns-then-has_enough
returns-then-has_enough c = record {
  count = c.loop-group.group;
  asked = c.loop-group.invariant;
  over = inr (c.has_enough.ensures.0 c.if-has_enough.true);
}

pub returns : goal.returns
returns c = record {
  count = c.loop-group.group;
  asked = c.loop-group.invariant;
  over = inl (omega (
    arith,
    c.loop-group.auto.group-end,
    c.loop-group-test.false,
    ap length c.as_slice-groups.ensures,
  ));
}

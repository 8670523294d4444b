use Rattle.std.proofs.Common.{sym, subst, arith}
use Rattle.league_core.specs.declared.club_set.ClubSet.{ClubSet}
use Rattle.league_core.specs.game.ClubSets.{clubs_in}
use Rattle.league_core.specs.game.HeadToHead.{by_head_to_head}
use Rattle.league_core.specs.game.Ahead.{lead_in}
use Rattle.example_finish.specs.inside.ProposalViews.{sheet_asked, finish_asked}
use Rattle.example_finish.specs.inside.GroupStandings.{IsStandingOf}
use Rattle.example_finish.proofs.GroupStandingLemmas.{standing_in_lead, itself_by_record}
use Rattle.example_finish.proofs.GroupStandingLemmas.{level_in_group, alone_in_lead}
use Rattle.example_finish.proofs.GroupStandingLemmas.{few_by_record}
use Rattle.example_finish.proofs.lead.+lead.Goals as goal

pub lead-after_record-inner-requires : goal.lead-after_record-inner-requires
lead-after_record-inner-requires t c =
    let sheet = sheet_asked c.args.proposed.now in
    let finish = finish_asked c.args.proposed.now in
    let outer = c.by_record-outer.result in
    let few = few_by_record sheet finish c.args.group c.args.club outer c.by_record-outer.ensures
    in (
      omega (arith, few, c.decreases),
      (
        λ x has. c.requires.of_group x
            (level_in_group (by_head_to_head sheet finish (clubs_in c.args.group))
            (clubs_in c.args.group) c.args.club outer c.by_record-outer.ensures x has),
        (
          itself_by_record sheet finish c.args.group c.args.club outer c.requires.among
              c.by_record-outer.ensures,
          few,
        ),
      ),
    )

pub lead-returns-then-len-eq1 : goal.lead-returns-then-len-eq1
lead-returns-then-len-eq1 t c =
    alone_in_lead (sheet_asked c.args.proposed.now) (finish_asked c.args.proposed.now) c.args.group
    c.args.club c.alone.result (omega (arith, c.len.ensures)) c.requires.among c.alone.ensures.ahead
    c.alone.ensures.level

pub lead-returns : goal.lead-returns
lead-returns t c =
    let sheet = sheet_asked c.args.proposed.now in
    let finish = finish_asked c.args.proposed.now in
    let group = c.args.group in
    subst (λ (level : ClubSet). IsStandingOf (lead_in sheet finish (clubs_in group)) (clubs_in
    group)
    c.args.club (record { ahead = c.then.result.ahead; level = level })) (sym c.then.ensures.level)
    (standing_in_lead sheet finish group c.args.club c.by_record-outer.result
    c.after_record-inner.result c.then.result.ahead c.by_record-outer.ensures
    c.after_record-inner.ensures c.then.ensures.ahead)

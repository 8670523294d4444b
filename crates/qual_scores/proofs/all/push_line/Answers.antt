use Rattle.std.proofs.Common.{◌<◌, length, arith}
use Rattle.league_core.specs.declared.question.Claim.TheVariants.{Inside}
use Rattle.qual_scores.proofs.AllLemmas.{adds_none, adds_one, row_is_asked}
use Rattle.qual_scores.proofs.all.push_line.Goals as goal

pub loop-club-init : goal.loop-club-init
loop-club-init c =
    adds_none c.args.sheet.now c.args.season.now c.args.line c.args.found.now.items

pub scores-requires-clause-of_sheet : goal.scores-requires-clause-of_sheet
scores-requires-clause-of_sheet c =
    let within : c.loop-club.club < length c.args.sheet.now.clubs = omega arith in
    row_is_asked c.args.sheet.now c.args.line c.loop-club.club Inside within c.requires.line

pub loop-club-preserved : goal.loop-club-preserved
loop-club-preserved c =
    let within : c.loop-club.club < length c.args.sheet.now.clubs = omega arith in
    adds_one c.args.sheet.now c.args.season.now c.args.line c.loop-club.club _ _ _ _
    c.loop-club.invariant within c.in_ok-scores.ensures c.in_ok-push.ensures.items

use Rattle.what_if.proofs.TaskLemmas.{look_found, look_halves}
use Rattle.what_if.proofs.task.TaskKind.look.Goals as goal

pub found-requires : goal.found-requires
found-requires c = record { in_range = rw c.requires.sheet at c.requires.of_sheet.club }

pub solve-requires-clause-of_zone : goal.solve-requires-clause-of_zone
solve-requires-clause-of_zone c =
    rw (c.as_slice.ensures.value, c.in_ok-put_zone.ensures) c.requires.for_question

pub solve-requires-clause-has_finish : goal.solve-requires-clause-has_finish
solve-requires-clause-has_finish c =
    rw (c.as_slice.ensures.value, c.in_ok-put_zone.ensures) c.requires.has_finish

pub returns-in-Some-clause-found : goal.returns-in-Some-clause-found
returns-in-Some-clause-found c =
    rw (c.requires.sheet, c.requires.season) (rw c.in-Some.is at c.in_ok-found.ensures)

pub returns-clause-found : goal.returns-clause-found
returns-clause-found c =
    rw c.look_of.ensures (look_found _ c.args.way.now c.in_ok-finding.finding c.requires
    (rw (c.as_slice.ensures.value, c.in_ok-put_zone.ensures) at c.in_ok-finding.ensures.first))

pub returns-clause-halves : goal.returns-clause-halves
returns-clause-halves c =
    rw c.look_of.ensures (look_halves _ c.args.way.now c.in_ok-finding.finding c.requires
    (rw (c.as_slice.ensures.value, c.in_ok-put_zone.ensures) at c.in_ok-finding.ensures.first))

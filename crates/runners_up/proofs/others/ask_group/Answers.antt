use Rattle.std.proofs.Common.{◌≡◌, length, subst, arith}
use Rattle.std.specs.Prelude.{Option}
use Rattle.tree_arena.specs.declared.example.Example.{Example}
use Rattle.club_keys.specs.inside.KeyEnds.{key_parts}
use Rattle.runners_up.specs.inside.GroupsAsked.{IsClubNoted}
use Rattle.runners_up.proofs.GroupsAskedLemmas.{club_found, club_noted, all_asked, no_example}
use Rattle.runners_up.proofs.others.ask_group.Goals as goal

pub returns-in-Some : goal.returns-in-Some
returns-in-Some c =
    let question = c.other_question-question.result in
    let old = c.loop-club.asked in
    let new = c.note.new.self in
    let P : Option Example → Type 0 = λ found. IsClubNoted question c.in_ok-end.end old.trees.items
    old.spent new.trees.items new.spent found in
    club_found c.args.sheet.now c.args.season.now c.args.claim (key_parts c.args.key.now)
    c.loop-club.club question c.in_ok-end.end old.trees.items new.trees.items old.spent new.spent
    c.in-Some.example (omega (arith, c.loop-club-test.true, c.len-club-end.ensures))
    c.other_question-question.ensures.value c.in_ok-end.ensures
    (subst P c.in-Some.is c.in_ok-example.ensures)

pub loop-club-preserved : goal.loop-club-preserved
loop-club-preserved c =
    let question = c.other_question-question.result in
    let old = c.loop-club.asked in
    let new = c.note.new.self in
    let P : Option Example → Type 0 = λ found. IsClubNoted question c.in_ok-end.end old.trees.items
    old.spent new.trees.items new.spent found in
    club_noted c.args.sheet.now c.args.season.now c.args.claim (key_parts c.args.key.now)
    c.loop-club.club question c.in_ok-end.end old.trees.items new.trees.items old.spent new.spent
    (omega (arith, c.loop-club-test.true, c.len-club-end.ensures))
    c.other_question-question.ensures.value c.in_ok-end.ensures c.loop-club.invariant
    (subst P (no_example c.in_ok-example.field-0 c.in_default.not-Some) c.in_ok-example.ensures)

pub returns : goal.returns
returns c =
    let sheet = c.args.sheet.now in
    let all : c.loop-club.club ≡ length sheet.clubs =
    omega (
      arith,
      c.loop-club-test.false,
      c.loop-club.auto.club-end,
      c.len-club-end.ensures,
    ) in
    rw c.end.ensures (all_asked sheet c.args.season.now c.args.claim (key_parts c.args.key.now)
    c.loop-club.club c.loop-club.asked.trees c.loop-club.asked.spent all c.loop-club.invariant)

use Rattle.std.proofs.Common.{◌≡◌, ◌+◌, ◌++◌, ◌∷◌, [], List, ap, ◌∙◌, arith, sym, subst}
use Rattle.kept_lines.specs.LineLists.{NumberedLine}
use Rattle.kept_lines.specs.inside.LineBlocks.{IsFilled, lines_of_blocks}
use Rattle.kept_lines.proofs.LineListLemmas.{added_one}
use Rattle.kept_lines.proofs.line_list.LineList.add.Goals as goal

pub invariant_of-self-2 : goal.invariant_of-self-2
invariant_of-self-2 c =
    let list = c.self.inside in
    let full = c.make_room.new.full.items in
    let line : NumberedLine = record { number = c.args.number; text = c.args.text.now } in
    let kept = c.in_ok-make_room.ensures.kept list.count c.self.invariant in
    let added = added_one full c.make_room.new.latest list.count line kept
    c.in_ok-make_room.ensures.ok in
    let count : list.count + 1 ≡ c.in-Some.count = omega (arith, c.in-Some.ensures) in
    subst (λ latest. IsFilled full latest c.in-Some.count) (sym c.in_ok-add.ensures.ok)
    (subst (IsFilled full (c.make_room.new.latest ++ line ∷ [])) count added.0)

pub returns-clause-ok : goal.returns-clause-ok
returns-clause-ok c =
    let list = c.self.inside in
    let full = c.make_room.new.full.items in
    let line : NumberedLine = record { number = c.args.number; text = c.args.text.now } in
    let kept = c.in_ok-make_room.ensures.kept list.count c.self.invariant in
    let added = added_one full c.make_room.new.latest list.count line kept
    c.in_ok-make_room.ensures.ok in
    ap (lines_of_blocks full) c.in_ok-add.ensures.ok
    ∙ added.1
    ∙ ap (λ (lines : List NumberedLine). lines ++ line ∷ [])
    (c.in_ok-make_room.ensures.same ∙ c.self.view_is)

use Rattle.std.proofs.Common.{◌≡◌, ◌++◌, ◌∷◌, List, ap, ◌∙◌, subst, sym}
use Rattle.std.specs.Int.{w32, to_le_bytes}
use Rattle.std.proofs.Common.{ℕ}
use Rattle.kept_lines.specs.inside.LineHeads.{WritesHead}
use Rattle.kept_lines.proofs.LineHeadLemmas.{far_written}
use Rattle.kept_lines.proofs.line_head.write_head.Goals as goal

pub returns-in_ok-extend_from_slice-in-None-clause-ok :
    goal.returns-in_ok-extend_from_slice-in-None-clause-ok
returns-in_ok-extend_from_slice-in-None-clause-ok c =
    let bytes = c.args.bytes.now.items in
    let is : c.extend_from_slice.new.self.items
    ≡ bytes ++ (255 ∷ to_le_bytes w32 c.args.number ++ to_le_bytes w32 c.args.long) =
    c.in_ok-extend_from_slice-in-None.ensures.items
    ∙ ap (λ (head : List ℕ). bytes ++ head) c.far_bytes.ensures in
    subst (λ new. WritesHead bytes new c.args.last c.args.number c.args.long) (sym is)
    (far_written bytes c.args.last c.args.number c.args.long c.ranges.number.fits
    c.ranges.long.fits)

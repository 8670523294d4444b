-- The next club has its points, and those before it keep theirs.
use mir.Syntax.{w32}
use mir.Val.{to_z, of_z}
use Rattle.std.proofs.Common.{◌≡◌, ℤ, pos, set, inl, inr, sym, ap, ◌∙◌, arith}
use Rattle.std.proofs.lemmas.Int.{ints}
use Rattle.std.proofs.lemmas.Bool.{cases_eq}
use Rattle.std.proofs.lemmas.List.{get_or-set_same, get_or-set_other, length-set}
use Rattle.score_box.specs.declared.totals.Totals.{Totals}
use Rattle.score_box.specs.inside.Ends.{end_at}
use Rattle.score_box.specs.inside.Totals.{totals_at, points_column}
use Rattle.score_box.proofs.ends.points_won.Goals as goal

pub loop-club-preserved : goal.loop-club-preserved
loop-club-preserved c =
    let club = c.loop-club.club in
    let points = c.loop-club.points in
    let rows = c.args.tables.now.clubs.items in
    let near = c.requires.near club c.loop-club-test.true points_column in
    let row = ap (λ (t : Totals). t.points) c.of_club.ensures in
    let value : ℤ = to_z w32 (of_z w32 c.of_club.result.points) in
    let is : value ≡ (totals_at rows club).points = omega (arith, ints, row, near.0, near.1) in (
      length-set points club value ∙ c.loop-club.invariant.0,
      λ k below.
          elim (cases_eq k club) as
          (λ _. end_at (set points club value) k ≡ (totals_at rows k).points) [
            | inl here ↦
                ap (λ n. end_at (set points club value) n) here
                ∙ get_or-set_same points club value (pos 0)
                (omega (arith, c.loop-club.invariant.0, c.loop-club-test.true))
                ∙ is
                ∙ sym (ap (λ n. (totals_at rows n).points) here)
            | inr other ↦
                get_or-set_other points club k value (pos 0) other
                ∙ c.loop-club.invariant.1 k (omega (arith, other, below))
          ],
    )

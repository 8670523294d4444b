-- Each part is read as it is, and there are seven.
use Rattle.std.proofs.Common.{◌≡◌, ◌∙◌, List, [], ◌∷◌, arith, length, refl, slice_index_or}
use Rattle.std.proofs.Common.{ℤ, pos, w32}
use Rattle.std.proofs.lemmas.Int.{ints, to_z-of_z}
use Rattle.cup_check.proofs.keys.key_with.Goals as goal

seven : (parts : List ℤ) → length parts ≡ 7
    → slice_index_or parts 0 (pos 0) ∷ slice_index_or parts 1 (pos 0)
    ∷ slice_index_or parts 2 (pos 0) ∷ slice_index_or parts 3 (pos 0)
    ∷ slice_index_or parts 4 (pos 0) ∷ slice_index_or parts 5 (pos 0)
    ∷ slice_index_or parts 6 (pos 0) ∷ [] ≡ parts
seven [] many = absurd (omega (arith, many))
seven (a ∷ []) many = absurd (omega (arith, many))
seven (a ∷ b ∷ []) many = absurd (omega (arith, many))
seven (a ∷ b ∷ d ∷ []) many = absurd (omega (arith, many))
seven (a ∷ b ∷ d ∷ e ∷ []) many = absurd (omega (arith, many))
seven (a ∷ b ∷ d ∷ e ∷ f ∷ []) many = absurd (omega (arith, many))
seven (a ∷ b ∷ d ∷ e ∷ f ∷ g ∷ []) many = absurd (omega (arith, many))
seven (a ∷ b ∷ d ∷ e ∷ f ∷ g ∷ h ∷ []) many = refl
seven (a ∷ b ∷ d ∷ e ∷ f ∷ g ∷ h ∷ i ∷ parts) many = absurd (omega (arith, many))

pub returns : goal.returns
returns c =
    let points = to_z-of_z w32 c.part_at.result (omega (arith, ints, c.part_at.type_inv))
    ∙ c.part_at.ensures in
    let difference = to_z-of_z w32 c.part_at-2.result (omega (arith, ints, c.part_at-2.type_inv))
    ∙ c.part_at-2.ensures in
    let goals = to_z-of_z w32 c.part_at-3.result (omega (arith, ints, c.part_at-3.type_inv))
    ∙ c.part_at-3.ensures in
    let away_goals = to_z-of_z w32 c.part_at-4.result (omega (arith, ints, c.part_at-4.type_inv))
    ∙ c.part_at-4.ensures in
    let wins = to_z-of_z w32 c.part_at-5.result (omega (arith, ints, c.part_at-5.type_inv))
    ∙ c.part_at-5.ensures in
    let away_wins = to_z-of_z w32 c.part_at-6.result (omega (arith, ints, c.part_at-6.type_inv))
    ∙ c.part_at-6.ensures in
    let by_rank = to_z-of_z w32 c.part_at-7.result (omega (arith, ints, c.part_at-7.type_inv))
    ∙ c.part_at-7.ensures in
    (λ j. points j ∷ difference j ∷ goals j ∷ away_goals j ∷ wins j
    ∷ away_wins j ∷ by_rank j ∷ [])
    ∙ seven c.args.parts.now c.requires

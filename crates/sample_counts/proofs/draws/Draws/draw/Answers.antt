use Rattle.std.proofs.Common.{◌+◌, ◌*◌, ◌%◌, ap, ◌∙◌, refl, mul_comm}
use Rattle.std.proofs.Math.Nat.{mod-add-mod}
use Rattle.sample_counts.specs.Samples.{next_state, drawn_from}
use Rattle.sample_counts.proofs.draws.Draws.draw.Goals as goal

pub returns-clause-state : goal.returns-clause-state
unfolding next_state
returns-clause-state c =
    let state = c.args.self.now.state in
    mod-add-mod (state * 6364136223846793005) 18446744073709551616 1442695040888963407
    ∙ ap (λ n. (n + 1442695040888963407) % 18446744073709551616)
    (mul_comm state 6364136223846793005)

pub returns-clause-value : goal.returns-clause-value
unfolding drawn_from
returns-clause-value c = refl

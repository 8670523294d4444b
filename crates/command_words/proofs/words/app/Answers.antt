use Rattle.std.proofs.Common.{rules, ap₂, ◌≡◌, ◌∙◌}
use Rattle.clap.specs.Words.{rule_of, with_rule}
use Rattle.command_words.specs.Commands.{app, mode_rule, workers_rule, proofs_rule, seed_rule}
use Rattle.command_words.proofs.words.app.Goals as goal

pub returns : goal.returns
unfolding app
returns c =
    let mode_is : rule_of c.required-mode.result ≡ mode_rule = search rules in
    let workers_is : rule_of c.long-workers.result ≡ workers_rule = search rules in
    let proofs_is : rule_of c.action-proofs.result ≡ proofs_rule = search rules in
    let seed_is : rule_of c.long-seed.result ≡ seed_rule = search rules in
    c.in_ok-whole.ensures.shape (search rules)
    ∙ ap₂ with_rule
    (c.in_ok-arg-3.ensures.shape (search rules)
    ∙ ap₂ with_rule
    (c.in_ok-arg-2.ensures.shape (search rules)
    ∙ ap₂ with_rule
    (c.in_ok-arg.ensures.shape (search rules) ∙ ap₂ with_rule c.new-5.ensures.app mode_is)
    workers_is)
    proofs_is)
    seed_is

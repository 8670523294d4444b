use Rattle.std.proofs.Common.{◌≡◌, sym, ap, ◌∙◌, subst, [], ◌∷◌}
use Rattle.atomic_table.specs.Table.{opening}
use Rattle.epoch_cancel.specs.inside.Views.{owner_of}
use Rattle.epoch_cancel.specs.inside.Rule.{IsRuled}
use Rattle.epoch_cancel.proofs.MoveLemmas.{begins_ruled}
use Rattle.epoch_cancel.proofs.word.EpochWord.begin.Goals as goal

pub of_words-requires : goal.of_words-requires
of_words-requires c =
    let copied : c.of-key.result.value.items ≡ c.args.log.now =
    ap (λ copy. copy.items) c.of-key.ensures ∙ c.in_ok-copy.ensures.items in
    subst (λ log. IsRuled (opening (c.pack.result ∷ []) [] (owner_of log))) (sym copied)
    (begins_ruled c.args.log.now c.pack.result c.pack.ensures.value c.requires.codes)

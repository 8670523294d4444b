use Rattle.std.proofs.Common.{◌∙◌, ap, sym, ◌+◌, ◌*◌, length}
use Rattle.std.specs.Prelude.{option_copied}
use Rattle.epoch_cancel.proofs.PackLemmas.{last_code-get}
use Rattle.epoch_cancel.proofs.code.pack.Goals as goal

pub returns-in-Some : goal.returns-in-Some
returns-in-Some c =
    let log = c.args.log.now in
    let last = last_code-get log c.in-Some.last.now
    (sym c.last.ensures.value ∙ ap option_copied c.in-Some.is) in
    record { value = c.word_of.ensures.value ∙ ap (λ n. length log * 4294967296 + n) (sym last) }

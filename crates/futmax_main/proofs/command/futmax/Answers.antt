use Rattle.std.proofs.Common.{◌≡◌, Option, Some, map, string_bytes, subst, sym, rules}
use Rattle.command_words.specs.declared.command.Mode.{Mode}
use Rattle.command_words.specs.Commands.{mode_of}
use Rattle.futmax_main.specs.Modes.{IsSettledAs}
use Rattle.futmax_main.proofs.ModeLemmas.{stops-unread}
use Rattle.futmax_main.proofs.ModeLemmas.{mode-settled, only_checks, serves_as-no_memory}
use Rattle.futmax_main.proofs.ModeLemmas.{settled_as-no_memory}
use Rattle.futmax_main.proofs.command.futmax.Goals as goal

pub returns-in-Ok-Some-clause-settled : goal.returns-in-Ok-Some-clause-settled
returns-in-Ok-Some-clause-settled g c = λ read write.
    let is : mode_of (map string_bytes c.args.words.items) ≡ Some c.in-Ok-Some.field-0-0.mode =
    search rules in
    let P : Option Mode → Type 0 =
    λ mode. IsSettledAs mode (g.S.Source.left c.args.source.now) c.run_mode.result in
    subst P (sym is) (mode-settled c.in-Ok-Some.field-0-0.mode _ _ _ _ _ c.run_mode.result
    c.run_mode.ensures.serves c.run_mode.ensures.status read write)

pub returns-in-Ok-Some-clause-unproved : goal.returns-in-Ok-Some-clause-unproved
returns-in-Ok-Some-clause-unproved g c = λ unproved.
    let is : mode_of (map string_bytes c.args.words.items) ≡ Some c.in-Ok-Some.field-0-0.mode =
    search rules in
    let found = only_checks c.in-Ok-Some.field-0-0.mode c.run_mode.result
    c.run_mode.ensures.status unproved in
    (c.in-Ok-Some.field-0-0.mode, found, is)

pub returns-clause-serves : goal.returns-clause-serves
returns-clause-serves g c = serves_as-no_memory _ _ _ _ _

pub returns-clause-last : goal.returns-clause-last
returns-clause-last g c = stops-unread g.S.Source.left g.S.Source.reads _ c.args.source.now _

pub returns-clause-settled : goal.returns-clause-settled
returns-clause-settled g c = λ read write. settled_as-no_memory _ _

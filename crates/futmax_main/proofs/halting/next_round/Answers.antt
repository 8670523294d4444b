use Rattle.std.proofs.Common.{rules, ap, length, subst, sym, ◌∙◌}
use Rattle.league_core.specs.game.Seasons.{IsSeasonOf}
use Rattle.league_core.proofs.LogLemmas.{season_after_of}
use Rattle.command_words.specs.declared.command.Mode.TheVariants.{Verdicts, WhatIf}
use Rattle.result_log.specs.inside.Rounds.{live_entry}
use Rattle.what_if.specs.inside.StepCalls.{live_step}
use Rattle.command_words.specs.declared.command.Mode.{Mode}
use Rattle.session_turns.specs.Courses.{about_in}
use Rattle.session_turns.specs.inside.RoundHalts.{IsReportedIn}
use Rattle.session_turns.proofs.HaltLemmas.{entries-halt, plain-about_in, plain-reads, reads-as}
use Rattle.session_turns.proofs.HaltLemmas.{round-live, round-starves, steps-halt}
use Rattle.session_turns.proofs.HaltLemmas.{reported-in, steps-no_proofs}
use Rattle.futmax_main.proofs.halting.next_round.Goals as goal
use Rattle.league_core.proofs.plain.Options.{err-holds}

pub returns-in_err-round-in-Verdicts-clause-err : goal.returns-in_err-round-in-Verdicts-clause-err
returns-in_err-round-in-Verdicts-clause-err g c =
    let starved = c.in_err-round-in-Verdicts.ensures in
    err-holds c.from_residual.result _
    (round-starves g.S.Source.left g.S.Source.reads c.args.setup.now.mode c.args.pool _ _
    c.args.source.now c.run_round.new.source (live_entry c.args.pool.sheet)
    (reads-as c.args.setup.now.mode (Verdicts c.in-Verdicts.proofs) c.args.pool.sheet
    c.in-Verdicts.is)
    starved.err starved.err_last)

pub returns-in_ok-round-in-Verdicts-clause-ok : goal.returns-in_ok-round-in-Verdicts-clause-ok
returns-in_ok-round-in-Verdicts-clause-ok g c =
    let round = c.in_ok-round-in-Verdicts.round in
    let over = c.in_ok-round-in-Verdicts.ensures in
    let P : Mode → Type 0 = λ mode. IsReportedIn mode c.args.pool round.pool in
    let reported : P c.args.setup.now.mode = subst P (sym c.in-Verdicts.is) tt in
    entries-halt g.S.Source.left g.S.Source.reads c.args.setup.now.mode c.args.pool _ _
    c.args.source.now c.run_round.new.source round c.halt_of.result c.halt_of.ensures
    (reads-as c.args.setup.now.mode (Verdicts c.in-Verdicts.proofs) c.args.pool.sheet
    c.in-Verdicts.is)
    (ap (λ mode. about_in mode c.run_round.new.reader.text) c.in-Verdicts.is)
    (round-live c.args.setup.now.mode c.args.pool round.pool c.requires.live over.sheet
    over.questions over.season (over.home ∙ sym c.requires.live.home) reported)
    over.sheet reported over.ends over.last

pub returns-in_err-round-in-WhatIf-clause-err : goal.returns-in_err-round-in-WhatIf-clause-err
returns-in_err-round-in-WhatIf-clause-err g c =
    let starved = c.in_err-round-in-WhatIf.ensures in
    err-holds c.from_residual-in_err-round-in-WhatIf.result _
    (round-starves g.S.Source.left g.S.Source.reads c.args.setup.now.mode c.args.pool _ _
    c.args.source.now c.read_parsed.new.source (live_step c.args.pool.sheet)
    (reads-as c.args.setup.now.mode WhatIf c.args.pool.sheet c.in-WhatIf.is)
    starved.err starved.err_last)

pub halt_of_steps-requires-clause-proofs : goal.halt_of_steps-requires-clause-proofs
halt_of_steps-requires-clause-proofs g c =
    let round = c.in_ok-round-in-WhatIf.round in
    let over = c.in_ok-round-in-WhatIf.ensures in
    steps-no_proofs round.pool.sheet round.pool.season (length round.pool.log)
    c.read_parsed.new.reader.text round.last
    (subst (IsSeasonOf round.pool.sheet) (sym over.season)
    (season_after_of round.pool.sheet round.pool.log)) over.there

pub returns-in_ok-round-in-WhatIf-clause-ok : goal.returns-in_ok-round-in-WhatIf-clause-ok
returns-in_ok-round-in-WhatIf-clause-ok g c =
    let round = c.in_ok-round-in-WhatIf.round in
    let over = c.in_ok-round-in-WhatIf.ensures in
    steps-halt g.S.Source.left g.S.Source.reads c.args.setup.now.mode c.args.pool _ _
    c.args.source.now c.read_parsed.new.source round.pool c.halt_of_steps.result.end round.last
    c.halt_of_steps.result c.halt_of_steps.ensures.halt c.halt_of_steps.ensures.end c.in-WhatIf.is
    (round-live c.args.setup.now.mode c.args.pool round.pool c.requires.live over.sheet
    over.questions over.season over.home
    (reported-in c.args.setup.now.mode c.args.pool round.pool over.reported))
    over.sheet over.season over.ends over.last over.there

pub returns-in_err-read_round-in-Table : goal.returns-in_err-read_round-in-Table
returns-in_err-read_round-in-Table g c =
    let starved = c.in_err-read_round-in-Table.ensures in
    record {
      ok = search rules;
      err = err-holds c.from_residual-in_err-read_round-in-Table.result _
          (round-starves g.S.Source.left g.S.Source.reads c.args.setup.now.mode c.args.pool _ _
          c.args.source.now c.read_round.new.source (live_entry c.args.pool.sheet)
          (plain-reads c.args.setup.now.mode c.args.pool.sheet c.in-Table.is)
          starved.err starved.err_last);
    }

pub returns-in_ok-read_round-in-Table : goal.returns-in_ok-read_round-in-Table
returns-in_ok-read_round-in-Table g c =
    let round = c.in_ok-read_round-in-Table.field-0 in
    let over = c.in_ok-read_round-in-Table.ensures in
    let reported =
    reported-in c.args.setup.now.mode c.args.pool round.pool over.reported in
    record {
      ok = entries-halt g.S.Source.left g.S.Source.reads c.args.setup.now.mode c.args.pool _ _
          c.args.source.now c.read_round.new.source round c.halt_of-in-Table.result
          c.halt_of-in-Table.ensures
          (plain-reads c.args.setup.now.mode c.args.pool.sheet c.in-Table.is)
          (plain-about_in c.args.setup.now.mode c.read_round.new.reader.text c.in-Table.is)
          (round-live c.args.setup.now.mode c.args.pool round.pool c.requires.live over.sheet
          over.questions over.season over.home reported)
          over.sheet reported over.ends over.last;
      err = tt;
    }

use Rattle.std.proofs.Common.{Ok, sym, subst, ◌∙◌, length}
use Rattle.cert_check.specs.Machine.{part_of_ask}
use Rattle.par_check.specs.declared.places.Place.{Place}
use Rattle.par_check.specs.Places.{ReadsOn}
use Rattle.par_check.proofs.AskLemmas.{report_is}
use Rattle.par_check.proofs.PlaceLemmas.{ask_read, ask_stops_at, behind_ask}
use Rattle.par_check.proofs.reading.read_ask.Goals as goal

pub returns-in-Ok-clause-reads : goal.returns-in-Ok-clause-reads
returns-in-Ok-clause-reads c =
    let sheet = c.args.whole.now.sheet.now in
    let asks = c.args.whole.now.asks.now in
    let lines = c.args.whole.now.lines.now in
    let at = c.args.at in
    let found = c.in-Ok.found in
    let judged = c.in_ok-report.report in
    let is = report_is sheet asks lines at.ask c.from.result c.args.season.now judged
    c.in_ok-report.ensures c.requires.season (c.from.ensures ∙ c.requires.epoch) in
    let P : Place → Type 0 = λ it.
    ReadsOn sheet asks lines at (Ok (record { to = it; unsettled = found.unsettled })) in
    subst P (sym c.place_behind.ensures)
    (ask_read sheet asks lines judged at c.last_row-until.result found c.requires.in_range is
    c.in-Ok.ensures)

pub returns-in-Ok-clause-ask : goal.returns-in-Ok-clause-ask
returns-in-Ok-clause-ask c =
    behind_ask (length (part_of_ask c.args.whole.now.sheet.now)) c.args.at.ask
    c.last_row-until.result c.in-Ok.found.next c.args.run.until_ask c.place_behind.result
    c.place_behind.ensures c.last_row-until.ensures.all

pub returns-clause-reads : goal.returns-clause-reads
returns-clause-reads c =
    let sheet = c.args.whole.now.sheet.now in
    let asks = c.args.whole.now.asks.now in
    let lines = c.args.whole.now.lines.now in
    let at = c.args.at in
    let judged = c.in_ok-report.report in
    let is = report_is sheet asks lines at.ask c.from.result c.args.season.now judged
    c.in_ok-report.ensures c.requires.season (c.from.ensures ∙ c.requires.epoch) in
    ask_stops_at sheet asks lines judged at c.last_row-until.result c.in-Err.stop
    c.requires.in_range is c.in-Err.ensures

use Rattle.std.proofs.Common.{◌<◌, ◌+◌, ◌∙◌, ℕ, arith, ap, subst, sym, length}
use Rattle.std.proofs.lemmas.List.{length-map}
use Rattle.kept_lines.specs.LineLists.{NumberedLine}
use Rattle.line_tokens.specs.Tokens.{token_of}
use Rattle.cert_check.specs.inside.Calls.{ReportView}
use Rattle.par_check.specs.Cuts.{KeepsItems}
use Rattle.par_check.proofs.AskLemmas.{AsksCut, asks_on, asks_stop, asks_end, report_is, stopped_is}
use Rattle.par_check.proofs.AskLemmas.{season_next}
use Rattle.par_check.proofs.cutting.read_cut.Goals as goal

pub returns-in-Err : goal.returns-in-Err
returns-in-Err c =
    let before = c.loop-ask.invariant in
    let sheet = c.args.sheet.now in
    let asks = c.args.asks.now in
    let lines = c.args.lines.now in
    let ask = c.loop-ask.ask in
    let items = c.cut_ask.new.items.items in
    let reached = c.loop-ask.reached in
    let judged = c.in_ok-report.report in
    let is = report_is sheet asks lines ask c.from.result c.advance-epoch.new.season judged
    c.in_ok-report.ensures c.advance-epoch.ensures.at
    (c.from.ensures ∙ c.advance-epoch.ensures.epoch) in
    let within : ask < length asks.epochs.items = omega (arith, c.loop-ask-test.true) in
    let shown = λ (it : NumberedLine). token_of it.text in
    let K : ReportView → Type 0 = λ it. KeepsItems it.basis.sheet (length it.tokens) ask
    c.loop-ask.items.items items in
    let L : ℕ → Type 0 = λ it. KeepsItems sheet it ask c.loop-ask.items.items items in
    stopped_is sheet asks lines items c.in-Err.stop c.stopped.result c.stopped.ensures.items
    c.stopped.ensures.ending c.stopped.ensures.cause
    (λ told. asks_stop sheet asks lines judged ask reached.next reached.unsettled
    c.loop-ask.items.items items c.in-Err.stop told within is before.cut c.in-Err.ensures.cuts
    (subst L (length-map lines shown) (subst K is c.cut_ask.ensures.items)
    (length asks.epochs.items) within before.items))

pub loop-ask-preserved : goal.loop-ask-preserved
loop-ask-preserved c =
    let before = c.loop-ask.invariant in
    let sheet = c.args.sheet.now in
    let asks = c.args.asks.now in
    let lines = c.args.lines.now in
    let ask = c.loop-ask.ask in
    let items = c.cut_ask.new.items.items in
    let reached = c.loop-ask.reached in
    let found = c.in-Ok.found in
    let judged = c.in_ok-report.report in
    let goes = c.in-Ok.ensures.cuts in
    let is = report_is sheet asks lines ask c.from.result c.advance-epoch.new.season judged
    c.in_ok-report.ensures c.advance-epoch.ensures.at
    (c.from.ensures ∙ c.advance-epoch.ensures.epoch) in
    let within : ask < length asks.epochs.items = omega (arith, c.loop-ask-test.true) in
    let on = asks_on sheet asks lines judged ask reached.next reached.unsettled
    c.loop-ask.items.items items found within is before.cut goes in
    let A : ℕ → Type 0 = λ it. AsksCut sheet asks lines items (ask + 1) it
    (reached.unsettled + found.unsettled) in
    let B : ℕ → Type 0 = λ it. AsksCut sheet asks lines items (ask + 1) c.and-reached.result.next
    it in
    let K : ReportView → Type 0 = λ it. KeepsItems it.basis.sheet (length it.tokens) ask
    c.loop-ask.items.items items in
    let shown = λ (it : NumberedLine). token_of it.text in
    let L : ℕ → Type 0 = λ it. KeepsItems sheet it ask c.loop-ask.items.items items in
    record {
      cut = subst B (sym c.and-reached.ensures.unsettled)
          (subst A (sym c.and-reached.ensures.next) on);
      items = subst L (length-map lines shown) (subst K is c.cut_ask.ensures.items)
          (length asks.epochs.items) within before.items;
      season = season_next sheet asks ask c.advance-epoch.new.season c.advance-epoch.ensures.at;
      league = c.advance-epoch.ensures.league;
      few = omega (
        arith,
        before.few,
        goes.0,
        c.and-reached.ensures.next,
        c.and-reached.ensures.unsettled,
      );
      room = omega (
        arith,
        goes.1,
        c.and-reached.ensures.next,
        ap (λ (it : ReportView). length it.tokens) is,
        length-map lines shown,
      );
    }

pub returns : goal.returns
returns c =
    let before = c.loop-ask.invariant in
    asks_end c.args.sheet.now c.args.asks.now c.args.lines.now c.loop-ask.ask c.loop-ask.items.items
    c.loop-ask.reached (omega (arith, c.loop-ask-test.false)) before.few before.room before.cut
    before.items

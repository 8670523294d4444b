-- Where a round halts: what the ask that ends it is about.
use Rattle.std.proofs.Common.{◌≡◌, ℕ, Bool, List, length, Option, None, Result, Ok, Err, ap, sym}
use Rattle.std.proofs.Common.{◌∙◌, subst, inl, inr}
use Rattle.std.specs.Prelude.{◌⊎◌, IfSome}
use Rattle.std.proofs.lemmas.Bool.{false≢true}
use Rattle.league_core.specs.game.Results.{Results}
use Rattle.league_core.proofs.LogLemmas.{season_after_of}
use Rattle.league_core.specs.declared.sheet.Sheet.{Sheet}
use Rattle.league_core.specs.declared.season.Event.{Event}
use Rattle.league_core.specs.game.Sheets.{IsWithinLimits}
use Rattle.league_core.specs.game.Seasons.{IsSeasonOf, season_after}
use Rattle.port_core.specs.Readers.{LineReaderView}
use Rattle.fixture_sheet.specs.LastReads.{ReadsOnWay}
use Rattle.result_log.specs.declared.entry.Entry.{Entry}
use Rattle.result_log.specs.declared.entry.Entry.TheVariants.{Change, Ask, Proofs, End}
use Rattle.result_log.specs.declared.fault.FeedStop.{FeedStop}
use Rattle.result_log.specs.inside.FeedParts.{LiveReading}
use Rattle.result_log.specs.inside.Readings.{IsParsedThere, answer_as}
use Rattle.result_log.specs.inside.LastReads.{GivesEvents, StopsAtClose}
use Rattle.result_log.specs.inside.Rounds.{BreaksOff, EndsRound, Spot, live_entry}
use Rattle.branch_pool.specs.inside.States.{PoolView, out_count}
use Rattle.plain_rounds.specs.declared.round.Round.{Round}
use Rattle.plain_rounds.specs.declared.round.RoundEnd.{RoundEnd}
use Rattle.plain_rounds.specs.declared.round.RoundEnd.TheVariants as round
use Rattle.plain_rounds.specs.inside.Reports.{ReportsTo}
use Rattle.plain_rounds.specs.inside.Rounds.{close_of}
use Rattle.what_if.specs.declared.step.Step.{Step}
use Rattle.what_if.specs.declared.step.Step.TheVariants as step
use Rattle.what_if.specs.Steps.{forget, step_of}
use Rattle.what_if.specs.inside.StepCalls.{IsUnplayedFixture, live_step}
use Rattle.what_if.proofs.StepLemmas.{step-about, step-may_come}
use Rattle.command_words.specs.declared.command.Mode.{Mode}
use Rattle.command_words.specs.declared.command.Mode.TheVariants.{Table, Scores, WhatIf, Save}
use Rattle.command_words.specs.declared.command.Mode.TheVariants.{Resume, Decide, Check}
use Rattle.command_words.specs.declared.command.Mode.TheVariants.{Groups, GroupsCheck, Sample}
use Rattle.session_turns.specs.declared.halt.Halt.{Halt}
use Rattle.session_turns.specs.Courses.{about_in}
use Rattle.session_turns.specs.inside.Halts.{IsAboutAt, about_at}
use Rattle.session_turns.specs.inside.Progress.{round_line}
use Rattle.session_turns.specs.inside.RoundHalts.{HaltsRound, IsReportedIn, StarvesRound, halt_at}
use Rattle.session_turns.specs.inside.RoundHalts.{halt_of}
use Rattle.session_turns.specs.inside.Turns.{IsLive, asked_by}
use Rattle.session_turns.proofs.OriginLemmas.{round-unworked}

-- a mode reads lines as what it is
pub reads-as : (mode other : Mode) (sheet : Sheet) → mode ≡ other
    → round_line mode sheet ≡ round_line other sheet
reads-as mode other sheet is = ap (λ m. round_line m sheet) is

-- ---- a round of steps

-- the round ends on what its last line is
pub steps-end : (mode : Mode) (sheet : Sheet) (log log' : List Event) (from to : Spot)
    (close : Result Entry FeedStop) (found : RoundEnd) → mode ≡ WhatIf → close_of found ≡ close
    → EndsRound (live_step sheet) log log' from to close
    → EndsRound (round_line mode sheet) log log' from to (close_of found)
steps-end mode sheet log log' from to close found is found_is ends =
    let P : LiveReading → Type 0 = λ live. EndsRound live log log' from to (close_of found) in
    let Q : Result Entry FeedStop → Type 0 =
    λ last. EndsRound (live_step sheet) log log' from to last in
    subst P (sym (reads-as mode WhatIf sheet is)) (subst Q (sym found_is) ends)

-- and stops there
pub steps-last : {S : Type 0} (left : S → Option (List ℕ)) (reads : S → List ℕ → S → Type 0)
    (mode : Mode) (sheet : Sheet) (log : List Event) (old new : LineReaderView)
    (before after : S) (close : Result Entry FeedStop) (found : RoundEnd) → mode ≡ WhatIf
    → close_of found ≡ close
    → StopsAtClose left reads (live_step sheet) log old new before after close
    → StopsAtClose left reads (round_line mode sheet) log old new before after (close_of found)
steps-last left reads mode sheet log old new before after close found is found_is stops =
    let P : LiveReading → Type 0 =
    λ live. StopsAtClose left reads live log old new before after (close_of found) in
    let Q : Result Entry FeedStop → Type 0 =
    λ last. StopsAtClose left reads (live_step sheet) log old new before after last in
    subst P (sym (reads-as mode WhatIf sheet is)) (subst Q (sym found_is) stops)

-- ---- a round of entries

module _ (mode : Mode) (sheet : Sheet) (live : LiveReading) (log : List Event)
    (is : round_line mode sheet ≡ live) where
  -- the mode reads it so
  pub entries-end : (log' : List Event) (from to : Spot) (end : RoundEnd)
      → EndsRound live log log' from to (close_of end)
      → EndsRound (round_line mode sheet) log log' from to (close_of end)
  entries-end log' from to end ends =
      let P : LiveReading → Type 0 = λ read. EndsRound read log log' from to (close_of end) in
      subst P (sym is) ends

  -- and stops so
  pub entries-last : {S : Type 0} (left : S → Option (List ℕ)) (reads : S → List ℕ → S → Type 0)
      (old new : LineReaderView) (before after : S) (end : RoundEnd)
      → StopsAtClose left reads live log old new before after (close_of end)
      → StopsAtClose left reads (round_line mode sheet) log old new before after (close_of end)
  entries-last left reads old new before after end last =
      let P : LiveReading → Type 0 =
      λ read. StopsAtClose left reads read log old new before after (close_of end) in
      subst P (sym is) last

-- ---- the modes that know no `when` and whose rounds have no workers

abbrev pub IsPlain : Mode → Type 0
IsPlain mode =
    (mode ≡ Table) ⊎ ((mode ≡ Scores) ⊎ ((mode ≡ Save) ⊎ (((proofs : Bool) × (mode ≡ Resume proofs))
    ⊎ (((proofs : Bool) × (mode ≡ Decide proofs)) ⊎ (((wide : Bool) × (mode ≡ Check wide))
    ⊎ (((proofs : Bool) × (mode ≡ Groups proofs)) ⊎ ((mode ≡ GroupsCheck)
    ⊎ ((seed : ℕ) × (mode ≡ Sample seed)))))))))

-- lines are entries there
pub plain-reads : (mode : Mode) (sheet : Sheet) → IsPlain mode
    → round_line mode sheet ≡ live_entry sheet
plain-reads mode sheet (inl is) = reads-as mode Table sheet is
plain-reads mode sheet (inr (inl is)) = reads-as mode Scores sheet is
plain-reads mode sheet (inr (inr (inl is))) = reads-as mode Save sheet is
plain-reads mode sheet (inr (inr (inr (inl is)))) = reads-as mode (Resume is.0) sheet is.1
plain-reads mode sheet (inr (inr (inr (inr (inl is))))) = reads-as mode (Decide is.0) sheet is.1
plain-reads mode sheet (inr (inr (inr (inr (inr (inl is)))))) =
    reads-as mode (Check is.0) sheet is.1
plain-reads mode sheet (inr (inr (inr (inr (inr (inr (inl is))))))) =
    reads-as mode (Groups is.0) sheet is.1
plain-reads mode sheet (inr (inr (inr (inr (inr (inr (inr (inl is)))))))) =
    reads-as mode GroupsCheck sheet is
plain-reads mode sheet (inr (inr (inr (inr (inr (inr (inr (inr is)))))))) =
    reads-as mode (Sample is.0) sheet is.1

-- and name no fixture to ask about
pub plain-about_in : (mode : Mode) (content : List ℕ) → IsPlain mode → about_in mode content ≡ None
plain-about_in mode content (inl is) = ap (λ m. about_in m content) is
plain-about_in mode content (inr (inl is)) = ap (λ m. about_in m content) is
plain-about_in mode content (inr (inr (inl is))) = ap (λ m. about_in m content) is
plain-about_in mode content (inr (inr (inr (inl is)))) = ap (λ m. about_in m content) is.1
plain-about_in mode content (inr (inr (inr (inr (inl is))))) = ap (λ m. about_in m content) is.1
plain-about_in mode content (inr (inr (inr (inr (inr (inl is)))))) =
    ap (λ m. about_in m content) is.1
plain-about_in mode content (inr (inr (inr (inr (inr (inr (inl is))))))) =
    ap (λ m. about_in m content) is.1
plain-about_in mode content (inr (inr (inr (inr (inr (inr (inr (inl is)))))))) =
    ap (λ m. about_in m content) is
plain-about_in mode content (inr (inr (inr (inr (inr (inr (inr (inr is)))))))) =
    ap (λ m. about_in m content) is.1

-- a round that only reports does what the mode has to
pub reported-in : (mode : Mode) (pool next : PoolView) → ReportsTo pool next
    → IsReportedIn mode pool next
reported-in Save pool next reported = reported
reported-in (Resume proofs) pool next reported = reported
reported-in mode pool next reported = tt

none-about_at : (mode : Mode) (end : RoundEnd) (content : List ℕ) → about_in mode content ≡ None
    → IsAboutAt mode end content None
none-about_at mode round.Ask content none = sym none
none-about_at mode round.End content none = tt
none-about_at mode (round.Stop stop) content none = tt

-- the pool is as live after a round
pub round-live : (mode : Mode) (pool next : PoolView) → IsLive mode pool
    → next.sheet ≡ pool.sheet → next.questions ≡ pool.questions
    → next.season ≡ season_after next.sheet next.log
    → out_count next.loans ≡ out_count pool.loans → IsReportedIn mode pool next
    → IsLive mode next
round-live mode pool next live sheet questions season home reported =
    let P : Sheet → Type 0 = λ s. IsWithinLimits s in
    record {
      limits = subst P (sym sheet) live.limits;
      questions = questions ∙ live.questions ∙ ap (asked_by mode) (sym sheet);
      season = season;
      home = home ∙ live.home;
      unworked = round-unworked mode pool next reported live.unworked;
    }

-- ---- where a round halts

module _ (sheet : Sheet) (season : Results) (events : ℕ) (content : List ℕ) where
  -- what a `when` or an ask that ends a round is about
  steps-about : (last : Result Step FeedStop) (end : RoundEnd)
      → close_of end ≡ answer_as forget last
      → IsParsedThere forget (step_of sheet season events) content last
      → IsAboutAt WhatIf end content (about_at last)
  steps-about (Ok (step.When fixture)) round.Ask is there =
      sym (step-about sheet season events content (step.When fixture)
      (there (λ (end : Ask ≡ End). cc)))
  steps-about (Ok (step.Entry Ask)) round.Ask is there =
      sym (step-about sheet season events content (step.Entry Ask)
      (there (λ (end : Ask ≡ End). cc)))
  steps-about (Ok (step.Entry (Change event))) round.Ask is there = cc
  steps-about (Ok (step.Entry Proofs)) round.Ask is there = cc
  steps-about (Ok (step.Entry End)) round.Ask is there = cc
  steps-about (Err stop) round.Ask is there = cc
  steps-about last round.End is there = tt
  steps-about last (round.Stop stop) is there = tt

  -- is a match to be played
  steps-askable : (last : Result Step FeedStop) → IsSeasonOf sheet season
      → IsParsedThere forget (step_of sheet season events) content last
      → IfSome (about_at last) (IsUnplayedFixture sheet season)
  steps-askable (Ok (step.When fixture)) of_sheet there =
      step-may_come sheet season events content (step.When fixture) of_sheet
      (there (λ (end : Ask ≡ End). cc))
  steps-askable (Ok (step.Entry entry)) of_sheet there = tt
  steps-askable (Err stop) of_sheet there = tt

  -- no proofs follow
  pub steps-no_proofs : (last : Result Step FeedStop) → IsSeasonOf sheet season
      → IsParsedThere forget (step_of sheet season events) content last
      → answer_as forget last ≡ Ok Proofs → ⊥
  steps-no_proofs (Ok (step.When fixture)) of_sheet there is = cc
  steps-no_proofs (Ok (step.Entry (Change event))) of_sheet there is = cc
  steps-no_proofs (Ok (step.Entry Ask)) of_sheet there is = cc
  steps-no_proofs (Ok (step.Entry Proofs)) of_sheet there is =
      false≢true (step-may_come sheet season events content (step.Entry Proofs) of_sheet
      (there (λ (end : Proofs ≡ End). cc)))
  steps-no_proofs (Ok (step.Entry End)) of_sheet there is = cc
  steps-no_proofs (Err stop) of_sheet there is = cc

module _ {S : Type 0} (left : S → Option (List ℕ)) (reads : S → List ℕ → S → Type 0)
    (mode : Mode) (pool : PoolView) (from to : Spot) (before after : S) where
  -- a round of entries, in a mode that reads lines so
  pub entries-halt : (round : Round) (halt : Halt) → halt ≡ halt_of round
      → round_line mode pool.sheet ≡ live_entry pool.sheet
      → about_in mode to.reader.text ≡ None → IsLive mode round.pool
      → round.pool.sheet ≡ pool.sheet → IsReportedIn mode pool round.pool
      → EndsRound (live_entry pool.sheet) pool.log round.pool.log from to (close_of round.end)
      → StopsAtClose left reads (live_entry pool.sheet) pool.log from.reader to.reader before after
      (close_of round.end)
      → HaltsRound left reads mode pool from to before after halt
  entries-halt round halt halts is none live sheet reported ends last =
      let P : Halt → Type 0 = λ at. HaltsRound left reads mode pool from to before after at in
      subst P (sym halts) record {
        live = live;
        sheet = sheet;
        about = none-about_at mode round.end to.reader.text none;
        askable = tt;
        reported = reported;
        ends = entries-end mode pool.sheet (live_entry pool.sheet) pool.log is round.pool.log from
            to round.end ends;
        last = entries-last mode pool.sheet (live_entry pool.sheet) pool.log is left reads
            from.reader to.reader before after round.end last;
      }

  -- a round of steps
  pub steps-halt : (round : PoolView) (end : RoundEnd) (last : Result Step FeedStop) (halt : Halt)
      → halt ≡ halt_at round end (about_at last) → close_of end ≡ answer_as forget last
      → mode ≡ WhatIf → IsLive mode round → round.sheet ≡ pool.sheet
      → round.season ≡ season_after round.sheet round.log
      → EndsRound (live_step pool.sheet) pool.log round.log from to (answer_as forget last)
      → StopsAtClose left reads (live_step pool.sheet) pool.log from.reader to.reader before after
      (answer_as forget last)
      → IsParsedThere forget (step_of round.sheet round.season (length round.log)) to.reader.text
      last
      → HaltsRound left reads mode pool from to before after halt
  steps-halt round end last halt halts is_end is live sheet season ends stops there =
      let P : Halt → Type 0 = λ at. HaltsRound left reads mode pool from to before after at in
      let Q : Mode → Type 0 = λ m. IsAboutAt m end to.reader.text (about_at last) in
      let of_sheet =
      subst (IsSeasonOf round.sheet) (sym season) (season_after_of round.sheet round.log) in
      subst P (sym halts) record {
        live = live;
        sheet = sheet;
        about = subst Q (sym is) (steps-about round.sheet round.season (length round.log)
            to.reader.text last end is_end there);
        askable = steps-askable round.sheet round.season (length round.log) to.reader.text last
            of_sheet there;
        reported = subst (λ m. IsReportedIn m pool round) (sym is) tt;
        ends = steps-end mode pool.sheet pool.log round.log from to (answer_as forget last) end is
            is_end ends;
        last = steps-last left reads mode pool.sheet pool.log from.reader to.reader before after
            (answer_as forget last) end is is_end stops;
      }

  -- memory runs out in a round of lines that the mode reads so
  pub round-starves : (live : LiveReading) → round_line mode pool.sheet ≡ live
      → BreaksOff live pool.log from to
      → ReadsOnWay left reads (GivesEvents live pool.log) from.reader to.reader before after
      → StarvesRound left reads mode pool from to before after
  round-starves live is breaks way =
      let P : LiveReading → Type 0 =
      λ read. ReadsOnWay left reads (GivesEvents read pool.log) from.reader to.reader before
      after in
      record { counts = breaks.1.counts; last = subst P (sym is) way }

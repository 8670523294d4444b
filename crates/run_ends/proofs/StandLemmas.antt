-- Where the reading of a session stands, and where it stops.
use Rattle.std.proofs.Common.{◌≡◌, ℕ, Bool, List, [], ◌∷◌, ◌++◌, Option, Some, None, option_map, Ok}
use Rattle.std.proofs.Common.{Err, refl, ap, sym, ◌∙◌, subst, inl, inr}
use Rattle.std.proofs.lemmas.List.{append_assoc}
use Rattle.std.proofs.lemmas.Option.{none-some}
use Rattle.league_core.specs.declared.season.Event.{Event}
use Rattle.port_core.specs.Contents.{Contents, with_line, with_lines}
use Rattle.port_core.specs.declared.line.ReadStop.TheVariants as read_stop
use Rattle.port_core.specs.Readers.{LineReaderView, contents_to_come}
use Rattle.port_core.proofs.ContentLemmas.{with_lines-append}
use Rattle.port_core.proofs.TakingLemmas.{TakesInput-more}
use Rattle.fixture_sheet.specs.LastReads.{ReadsOnWay}
use Rattle.fixture_sheet.proofs.LastReadLemmas.{passed-to-come, way-more}
use Rattle.result_log.specs.declared.entry.Entry.TheVariants.{Ask}
use Rattle.result_log.specs.declared.fault.FeedStop.{FeedStop}
use Rattle.result_log.specs.declared.fault.FeedStop.TheVariants as feed_stop
use Rattle.result_log.specs.inside.LastReads.{GivesEvents, StopsAtClose}
use Rattle.result_log.specs.inside.Rounds.{EndsRound, ReadsEvents}
use Rattle.run_ends.specs.declared.status.Status.{Status}
use Rattle.run_ends.specs.declared.status.Status.TheVariants.{ReadFault}
use Rattle.run_ends.specs.Courses.{CourseOf, FeedKind, feed_course, with_asks}
use Rattle.run_ends.specs.Texts.{SessionKind}
use Rattle.run_ends.specs.LastReads.{LeadToCourse, Stands, StopsSession, fresh_reader}
use Rattle.run_ends.specs.inside.Stops.{StopEnds, stop_of_feed}
use Rattle.run_ends.specs.inside.Ways.{HasCome}
use Rattle.run_ends.proofs.FeedCourseLemmas.{asks-joined, course-ask, course-told}

-- ---- contents that are told

-- what comes after an option, where it is there
abbrev pub known : {A : Type 0} → A → Option A → A
known value None = value
known value (Some other) = other

-- lines before what is told are told
pub told-front : (lines : List (ℕ × List ℕ)) (before after : Contents)
    → Some before ≡ option_map (with_lines lines) (Some after) → before ≡ with_lines lines after
told-front lines before after is = ap (known before) is

-- and before nothing told nothing is
pub told-nothing : (lines : List (ℕ × List ℕ)) (before : Contents)
    → Some before ≡ option_map (with_lines lines) None → ⊥
told-nothing lines before is = none-some before (sym is)

-- what was read of told contents is read of them
pub told-known : {A : Type 0} (one other : A) → Some one ≡ Some other → one ≡ other
told-known one other is = ap (known one) is

-- lines that lead on to something else
pub stands-on : (Leads More : List (ℕ × List ℕ) → Type 0) (before mid after : Option Contents)
    (lines : List (ℕ × List ℕ)) → Stands Leads before mid
    → mid ≡ option_map (with_lines lines) after
    → ((taken : List (ℕ × List ℕ)) → Leads taken → More (taken ++ lines))
    → Stands More before after
stands-on Leads More None mid after lines stands is leads = tt
stands-on Leads More (Some before) None after lines stands is leads = absurd stands
stands-on Leads More (Some before) (Some mid) None lines stands is leads =
    absurd (told-nothing lines mid is)
stands-on Leads More (Some before) (Some mid) (Some after) lines stands is leads = (
  stands.0 ++ lines,
  stands.1 ∙ ap (with_lines stands.0) (told-front lines mid after is)
      ∙ sym (with_lines-append stands.0 lines after),
  leads stands.0 stands.2,
)

-- lines that were given, and lead on so
pub stands-given : (Leads : List (ℕ × List ℕ) → Type 0) (before after : Option Contents)
    (given : List (ℕ × List ℕ)) → before ≡ option_map (with_lines given) after
    → ((one there : Contents) → before ≡ Some one → after ≡ Some there
    → one ≡ with_lines given there → Leads given)
    → Stands Leads before after
stands-given Leads None after given is leads = tt
stands-given Leads (Some before) None given is leads = absurd (told-nothing given before is)
stands-given Leads (Some before) (Some after) given is leads =
    let front = told-front given before after is in
    (given, front, leads before after refl refl front)

module _ {Play : Type 0} (kind : SessionKind Play) (feed : FeedKind Play)
    (behind : List Event → Contents → CourseOf Play) where
  -- lines that tell events lead on
  pub feed-told : (taken lines : List (ℕ × List ℕ)) (log log' : List Event)
      → LeadToCourse kind.course taken (feed_course feed behind log)
      → ReadsEvents feed.line log lines log'
      → LeadToCourse kind.course (taken ++ lines) (feed_course feed behind log')
  feed-told taken lines log log' leads tells = (
    leads.0,
    λ rest. ap kind.course (with_lines-append taken lines rest)
        ∙ leads.1 (with_lines lines rest)
        ∙ ap (with_asks leads.0) (course-told feed behind log log' lines rest tells),
  )

  -- so does an ask
  feed-asks : (taken : List (ℕ × List ℕ)) (number : ℕ) (text : List ℕ) (log : List Event)
      → LeadToCourse kind.course taken (feed_course feed behind log)
      → feed.line log text ≡ Ok (Some Ask)
      → LeadToCourse kind.course (taken ++ (number, text) ∷ []) (feed_course feed behind log)
  feed-asks taken number text log leads is =
      let asked = feed.asks log text in (
        leads.0 ++ asked,
        λ rest. ap kind.course (with_lines-append taken ((number, text) ∷ []) rest)
            ∙ leads.1 (with_line number text rest)
            ∙ ap (with_asks leads.0) (course-ask feed behind log number text rest is)
            ∙ asks-joined leads.0 asked (feed_course feed behind log rest),
      )

  -- a round is on a way that such lines are on
  pub events-stand : (Way : List (ℕ × List ℕ) → Type 0)
      → ((taken : List (ℕ × List ℕ)) (log : List Event)
      → LeadToCourse kind.course taken (feed_course feed behind log) → Way taken)
      → (before mid after : Option Contents) (log : List Event)
      → Stands (λ taken. LeadToCourse kind.course taken (feed_course feed behind log)) before mid
      → GivesEvents feed.line log mid after → Stands Way before after
  events-stand Way on_way None mid after log stands gives = tt
  events-stand Way on_way (Some before) None after log stands gives = absurd stands
  events-stand Way on_way (Some before) (Some mid) None log stands gives =
      absurd (told-nothing gives.0 mid gives.3)
  events-stand Way on_way (Some before) (Some mid) (Some after) log stands gives = (
    stands.0 ++ gives.0,
    stands.1 ∙ ap (with_lines stands.0) (told-front gives.0 mid after gives.3)
        ∙ sym (with_lines-append stands.0 gives.0 after),
    on_way (stands.0 ++ gives.0) gives.1
        (feed-told stands.0 gives.0 log gives.1 stands.2 gives.2),
  )

  -- where a session stands after an ask
  ask-stands : (before mid after : Option Contents) (lines : List (ℕ × List ℕ)) (number : ℕ)
      (text : List ℕ) (log log' : List Event)
      → Stands (λ taken. LeadToCourse kind.course taken (feed_course feed behind log)) before mid
      → mid ≡ option_map (with_lines (lines ++ (number, text) ∷ [])) after
      → ReadsEvents feed.line log lines log' → feed.line log' text ≡ Ok (Some Ask)
      → Stands (λ taken. LeadToCourse kind.course taken (feed_course feed behind log')) before after
  ask-stands before mid after lines number text log log' stands is tells asks =
      let ask : List (ℕ × List ℕ) = (number, text) ∷ [] in
      let P : List (ℕ × List ℕ) → Type 0 =
      λ all. LeadToCourse kind.course all (feed_course feed behind log') in
      stands-on (λ taken. LeadToCourse kind.course taken (feed_course feed behind log))
      (λ taken. LeadToCourse kind.course taken (feed_course feed behind log')) before mid after
      (lines ++ ask)
      stands is
      (λ taken leads. subst P (append_assoc taken lines ask)
      (feed-asks (taken ++ lines) number text log' (feed-told taken lines log log' leads tells)
      asks))

-- ---- where the reading stops

module _ {S : Type 0} (left : S → Option (List ℕ)) (reads : S → List ℕ → S → Type 0)
    (Way : List (ℕ × List ℕ) → Type 0) where
  -- whatever the status
  pub stops-any : (reader : LineReaderView) (before after : S) (status : Status)
      → ReadsOnWay left reads (Stands Way) fresh_reader reader before after
      → StopsSession left reads Way before after status
  stops-any reader before after ReadFault ways = tt
  stops-any reader before after status ways = (reader, ways)

  -- where nothing was read
  pub stops-nothing : (source : S) (status : Status)
      → StopsSession left reads Way source source status
  stops-nothing source status = stops-any fresh_reader source source status (inl (refl, refl))

  -- what was read on one way from a reader that has given nothing was read on another
  pub fresh-way : (Other : Option Contents → Option Contents → Type 0)
      (reader new : LineReaderView) (before after : S) → reader ≡ fresh_reader
      → ((one other : Option Contents) → Other one other → Stands Way one other)
      → ReadsOnWay left reads Other reader new before after
      → ReadsOnWay left reads (Stands Way) fresh_reader new before after
  fresh-way Other reader new before after fresh on ways =
      let P : LineReaderView → Type 0 =
      λ r. ReadsOnWay left reads Other r new before after in
      course (subst P fresh ways)
    where
      course : ReadsOnWay left reads Other fresh_reader new before after
          → ReadsOnWay left reads (Stands Way) fresh_reader new before after
      course one = elim one [
        | inl nothing ↦ inl nothing
        | inr last ↦ inr (record {
          reader = last.reader;
          source = last.source;
          last = last.last;
          way = on (contents_to_come fresh_reader (left before))
              (contents_to_come last.reader (left last.source)) last.way;
          front = last.front;
          unanswered = last.unanswered;
          read = last.read;
          stream = last.stream;
          count = last.count;
        })
      ]

  -- ---- a round

  module _ {Play : Type 0} (kind : SessionKind Play) (feed : FeedKind Play)
      (behind : List Event → Contents → CourseOf Play)
      (on_way : (taken : List (ℕ × List ℕ)) (log : List Event)
      → LeadToCourse kind.course taken (feed_course feed behind log) → Way taken)
      (first : S) (reader new : LineReaderView) (before after : S) (log : List Event)
      (come : HasCome left reads Way first reader before
      (λ taken. LeadToCourse kind.course taken (feed_course feed behind log)))
    where
      -- what was read of it was read on the way
      pub stand-course : ReadsOnWay left reads (GivesEvents feed.line log) reader new before after
          → ReadsOnWay left reads (Stands Way) fresh_reader new first after
      stand-course ways =
          way-more left reads (Stands Way) (GivesEvents feed.line log) fresh_reader reader new
          first before after
          (λ then gives. events-stand kind feed behind Way on_way
          (contents_to_come fresh_reader (left first)) (contents_to_come reader (left before)) then
          log come.way gives)
          come.takes come.last ways

      -- it ends the session
      pub stand-stops : ReadsOnWay left reads (GivesEvents feed.line log) reader new before after
          → (status : Status) → StopsSession left reads Way first after status
      stand-stops ways status = stops-any new first after status (stand-course ways)

      -- its ask is answered
      pub stand-come : ReadsOnWay left reads (GivesEvents feed.line log) reader new before after
          → (log' : List Event) (x y : Bool) (m n : ℕ)
          → EndsRound feed.line log log'
          (record { reader = reader; left = left before; ended = x; faults = m })
          (record { reader = new; left = left after; ended = y; faults = n }) (Ok Ask)
          → HasCome left reads Way first new after
          (λ taken. LeadToCourse kind.course taken (feed_course feed behind log'))
      stand-come ways log' x y m n ends = record {
        way = ask-stands kind feed behind (contents_to_come fresh_reader (left first))
            (contents_to_come reader (left before)) (contents_to_come new (left after)) ends.lines
            new.position.lines new.text log log' come.way
            (passed-to-come reader new (left before) (left after) x y
            (ends.lines ++ (new.position.lines, new.text) ∷ []) ends.passes)
            ends.tells ends.comes;
        takes = TakesInput-more fresh_reader reader new _ _ _ come.takes ends.takes;
        last = stand-course ways;
      }

      -- a stop of the feed ends it, if the source did not fail
      pub stand-feed_stops : (stop : FeedStop)
          → StopsAtClose left reads feed.line log reader new before after (Err stop)
          → (old now : Option (List ℕ)) (status : Status)
          → StopEnds (stop_of_feed stop) old now status
          → StopsSession left reads Way first after status
      stand-feed_stops (feed_stop.Read read_stop.ReadFault) ways old now status stops =
          let P : Status → Type 0 = λ s. StopsSession left reads Way first after s in
          subst P (sym stops.0) tt
      stand-feed_stops stop ways old now status stops = stand-stops ways status

-- The cup that contents give is one that may be played, by the definitions alone: each record keeps
-- a cup so far within its limits, and `season` is taken only where the cup is whole.
use Rattle.std.proofs.Common.{◌≡◌, ℕ, ◌<◌, true, false, not, ◌&&◌, ◌==◌, nat_le, nat_lt}
use Rattle.std.proofs.Common.{List, [], ◌∷◌, ◌++◌, length, Option, Some, None, Result, Ok, Err}
use Rattle.std.proofs.Common.{bytes_eq, codes, refl, ap, ◌∙◌, arith, subst}
use Rattle.std.specs.Prelude.{option_and_then, option_map}
use Rattle.std.specs.Option.{ok_or}
use Rattle.std.proofs.lemmas.Bool.{and_from, leb-true, leb-false, ltb-false, lt-ltb, not_from_false}
use Rattle.std.proofs.lemmas.Bool.{not-false}
use Rattle.std.proofs.lemmas.List.{length_push}
use Rattle.std.proofs.lemmas.List.Elements.{All-nil}
use Rattle.league_core.specs.declared.sheet.Sheet.{Sheet}
use Rattle.league_core.specs.declared.sheet.Club.{Club}
use Rattle.league_core.specs.declared.sheet.Fixture.{Fixture}
use Rattle.league_core.specs.game.Limits.{most_goal_limit, most_budget}
use Rattle.league_core.specs.game.Sheets.{are_different, same_name}
use Rattle.port_core.specs.declared.line.ReadStop.{ReadStop}
use Rattle.port_core.specs.Contents.{Contents}
use Rattle.fixture_sheet.specs.Fields.{field, has_return, record_of}
use Rattle.fixture_sheet.specs.Texts.{name_of, number_within, number_written}
use Rattle.fixture_sheet.specs.Readings.{and_then, reading_by, record_taken_if, so_far, whole}
use Rattle.fixture_sheet.specs.Records.{club_of, fixture_of}
use Rattle.cup_sheet.specs.declared.cup.Cup.{Cup}
use Rattle.cup_sheet.specs.declared.cup.CupHead.{CupHead}
use Rattle.cup_sheet.specs.declared.cup.CupDraft.{CupDraft}
use Rattle.cup_sheet.specs.declared.fault.CupFault.{CupFault}
use Rattle.cup_sheet.specs.declared.fault.CupFault.TheVariants as fault
use Rattle.fixture_sheet.specs.declared.progress.Progress.TheVariants.{SoFar, Whole}
use Rattle.cup_sheet.specs.CupLimits.{least_groups, most_groups, most_group_clubs}
use Rattle.cup_sheet.specs.CupLimits.{most_group_fixtures}
use Rattle.cup_sheet.specs.Cups.{IsCup, clubs_of_groups}
use Rattle.cup_sheet.specs.CupDrafts.{IsCupDraft, IsHead}
use Rattle.cup_sheet.specs.CupRecords.{club_added_to, cup_begun, cup_club_taken, cup_content_taken}
use Rattle.cup_sheet.specs.CupRecords.{cup_head_of, cup_later_taken, cup_match_taken, cup_of}
use Rattle.cup_sheet.specs.CupRecords.{CupProgress, cup_refusal_of_no_record, cup_rules}
use Rattle.cup_sheet.specs.CupRecords.{cup_season_taken, cup_taken, fixture_added_to, group_added}
use Rattle.cup_sheet.specs.CupRecords.{group_taken, groups_so_far, is_begun, is_last_short}
use Rattle.cup_sheet.specs.CupRecords.{is_last_without_matches, is_named_before, is_quota}
use Rattle.cup_sheet.specs.CupRecords.{last_fixture_of, with_fixture}
use Rattle.cup_sheet.specs.CupReadings.{CupStop, cup_reading_from, cup_reading_of}
use Rattle.cup_sheet.proofs.CupDraftLemmas.{club-keeps-cup, cup-is-whole, group-keeps}
use Rattle.run_ends.proofs.FieldLemmas.{Anything, Fits, Has, IsBetween, IsClub, IsMatchOf, IsNamed}
use Rattle.run_ends.proofs.FieldLemmas.{club-has, fits-either, fits-ok_or, fits-unless, fixture-has}
use Rattle.run_ends.proofs.FieldLemmas.{fixture-more, has-anything, has-map, has-then, name-has}
use Rattle.run_ends.proofs.FieldLemmas.{number-has}

-- what is made of a value that is not refused
taken-then : {A B : Type 0} (P : A → Type 0) (Q : B → Type 0) (next : A → Result B CupFault)
    (found : Result A CupFault) → Fits P found → ((value : A) → P value → Fits Q (next value))
    → Fits Q (and_then next found)
taken-then P Q next (Ok value) fits behind = behind value fits
taken-then P Q next (Err why) fits behind = tt

-- ---- the first record

head-has : (fields : List (List ℕ)) → Has IsHead (cup_head_of fields)
head-has fields =
    has-then IsNamed IsHead (λ name. with_name name) (name_of (field 1 fields))
    (name-has (field 1 fields))
    (λ name named. has-then (IsBetween 1 most_goal_limit) IsHead
    (λ goal_limit. with_goals name goal_limit)
    (number_within 1 most_goal_limit (field 2 fields))
    (number-has 1 most_goal_limit (field 2 fields))
    (λ goal_limit goals. has-then (IsBetween 1 most_budget) IsHead
    (λ budget. with_budget name goal_limit budget) (number_within 1 most_budget (field 3 fields))
    (number-has 1 most_budget (field 3 fields))
    (λ budget nodes. has-map Anything IsHead
    (λ quota. record { name = name; goal_limit = goal_limit; budget = budget; quota = quota })
    (number_written (field 4 fields)) (has-anything (number_written (field 4 fields)))
    (λ quota any. record {
      name = named;
      least_goal_limit = leb-true 1 goal_limit goals.0;
      most_goal_limit = leb-true goal_limit most_goal_limit goals.1;
      least_budget = leb-true 1 budget nodes.0;
      most_budget = leb-true budget most_budget nodes.1;
    }))))
  where
    with_budget : List ℕ → ℕ → ℕ → Option CupHead
    with_budget name goal_limit budget =
        option_map
        (λ quota. record { name = name; goal_limit = goal_limit; budget = budget; quota = quota })
        (number_written (field 4 fields))

    with_goals : List ℕ → ℕ → Option CupHead
    with_goals name goal_limit =
        option_and_then (with_budget name goal_limit)
        (number_within 1 most_budget (field 3 fields))

    with_name : List ℕ → Option CupHead
    with_name name =
        option_and_then (with_goals name) (number_within 1 most_goal_limit (field 2 fields))

-- a cup with no group yet
begun-cup : (head : CupHead) → IsHead head → IsCupDraft (cup_begun head)
begun-cup head is = record {
  head = is;
  ended = All-nil _;
  last = tt;
  many = omega arith;
  different = refl;
}

cup-fits : (fields : List (List ℕ)) → Fits IsCupDraft (cup_taken fields)
cup-fits fields =
    fits-unless IsCupDraft (not (bytes_eq (field 0 fields) (codes "cup"))) fault.NoCup _
    (λ is. fits-unless IsCupDraft (not (length fields == 5)) fault.WrongWidth _
    (λ wide. taken-then IsHead IsCupDraft (λ head. Ok (cup_begun head))
    (ok_or (cup_head_of fields) fault.BadField)
    (fits-ok_or IsHead (cup_head_of fields) fault.BadField (head-has fields))
    (λ head is. begun-cup head is)))

-- ---- a group

group-fits : (draft : CupDraft) (fields : List (List ℕ)) → IsCupDraft draft
    → Fits IsCupDraft (group_taken draft fields)
group-fits draft fields is =
    fits-unless IsCupDraft (is_last_short draft) fault.TooFewClubs _
    (λ enough. fits-unless IsCupDraft (not (length fields == 2)) fault.WrongWidth _
    (λ wide. taken-then IsNamed IsCupDraft (group_added draft)
    (ok_or (name_of (field 1 fields)) fault.BadField)
    (fits-ok_or IsNamed (name_of (field 1 fields)) fault.BadField (name-has (field 1 fields)))
    (λ name named. fits-unless IsCupDraft
    (nat_le most_groups (length (groups_so_far draft))) fault.TooMany _
    (λ room. group-keeps draft name is named enough
    (leb-false most_groups (length (groups_so_far draft)) room)))))

-- ---- a club

club-fits-in : (draft : CupDraft) (last : Option Sheet) (club : Club) → IsCupDraft draft
    → draft.group ≡ last → is_last_without_matches draft ≡ true → IsClub club
    → Fits IsCupDraft (club_added_to draft last club)
club-fits-in draft None club is begun first fits = tt
club-fits-in draft (Some group) club is begun first fits =
    fits-unless IsCupDraft (is_named_before draft club.name) fault.ClubTwice _
    (λ fresh. fits-unless IsCupDraft (nat_le most_group_clubs (length group.clubs)) fault.TooMany _
    (λ room. club-keeps-cup draft group _ club is begun fits fresh
    (leb-false most_group_clubs (length group.clubs) room) first refl))

club-fits : (draft : CupDraft) (fields : List (List ℕ)) → IsCupDraft draft
    → Fits IsCupDraft (cup_club_taken draft fields)
club-fits draft fields is =
    fits-unless IsCupDraft (not (is_last_without_matches draft)) fault.UnknownRecord _
    (λ first. fits-unless IsCupDraft (not (length fields == 3)) fault.WrongWidth _
    (λ wide. taken-then IsClub IsCupDraft (club_added_to draft draft.group)
    (ok_or (club_of fields) fault.BadField)
    (fits-ok_or IsClub (club_of fields) fault.BadField (club-has fields))
    (λ club fits. club-fits-in draft draft.group club is refl
    (not-false (is_last_without_matches draft) first) fits)))

-- ---- a match

-- two clubs of the group begun last
abbrev IsMatchOfLast : Option Sheet → Fixture → Type 0
IsMatchOfLast None match = Unit {0}
IsMatchOfLast (Some group) match = IsMatchOf group match

last-fixture-has : (last : Option Sheet) (fields : List (List ℕ))
    → Has (IsMatchOfLast last) (option_and_then (λ group. fixture_of group fields) last)
last-fixture-has None fields = tt
last-fixture-has (Some group) fields = fixture-has group fields

-- a match more keeps the cup so far
match-keeps : (draft : CupDraft) (group : Sheet) (match : Fixture)
    → IsCupDraft (record { head = draft.head; groups = draft.groups; group = Some group })
    → IsMatchOf group match → (match.home == match.away) ≡ false
    → length group.fixtures < most_group_fixtures
    → IsCupDraft (record {
      head = draft.head;
      groups = draft.groups;
      group = Some (with_fixture match group);
    })
match-keeps draft group match is within apart room =
    let clubs = length group.clubs in
    let longer = length_push group.fixtures match in
    let more = with_fixture match group in
    let all : clubs_of_groups (draft.groups ++ more ∷ [])
    ≡ clubs_of_groups (draft.groups ++ group ∷ []) =
    same-clubs draft.groups in
    record {
      head = is.head;
      ended = is.ended;
      last = record {
        sheet = fixture-more group match is.last.sheet
            (and_from (nat_lt match.home clubs && nat_lt match.away clubs)
            (not (match.home == match.away))
            (and_from (nat_lt match.home clubs) (nat_lt match.away clubs)
            (lt-ltb match.home clubs within.0) (lt-ltb match.away clubs within.1))
            (not_from_false (match.home == match.away) apart))
            (omega (arith, room));
        most_clubs = is.last.most_clubs;
        most_fixtures = omega (arith, longer, room);
        no_lines = is.last.no_lines;
        same_goal_limit = is.last.same_goal_limit;
        same_budget = is.last.same_budget;
        head_first = is.last.head_first;
      };
      many = omega (arith, length_push draft.groups more, length_push draft.groups group, is.many);
      different = ap (λ those. are_different same_name those) all ∙ is.different;
    }
  where
    -- the clubs are the same
    same-clubs : (groups : List Sheet)
        → clubs_of_groups (groups ++ with_fixture match group ∷ [])
        ≡ clubs_of_groups (groups ++ group ∷ [])
    same-clubs [] = refl
    same-clubs (first ∷ groups) = ap (λ those. first.clubs ++ those) (same-clubs groups)

match-fits-in : (draft : CupDraft) (last : Option Sheet) (match : Fixture)
    → IsCupDraft draft → draft.group ≡ last → IsMatchOfLast last match
    → Fits IsCupDraft (fixture_added_to draft last match)
match-fits-in draft None match is begun within = tt
match-fits-in draft (Some group) match is begun within =
    let P : Option Sheet → Type 0 =
    λ last. IsCupDraft (record { head = draft.head; groups = draft.groups; group = last }) in
    fits-unless IsCupDraft (match.home == match.away) fault.SelfMatch _
    (λ apart. fits-unless IsCupDraft (nat_le most_group_fixtures (length group.fixtures))
    fault.TooMany _
    (λ room. match-keeps draft group match (subst P begun is) within apart
    (leb-false most_group_fixtures (length group.fixtures) room)))

match-fits : (draft : CupDraft) (fields : List (List ℕ)) → IsCupDraft draft
    → Fits IsCupDraft (cup_match_taken draft fields)
match-fits draft fields is =
    fits-unless IsCupDraft (not (is_begun draft)) fault.UnknownRecord _
    (λ begun. fits-unless IsCupDraft (is_last_short draft) fault.TooFewClubs _
    (λ some. fits-unless IsCupDraft (not (length fields == 3)) fault.WrongWidth _
    (λ wide. taken-then (IsMatchOfLast draft.group) IsCupDraft (fixture_added_to draft draft.group)
    (ok_or (last_fixture_of draft fields) fault.UnknownClub)
    (fits-ok_or (IsMatchOfLast draft.group) (last_fixture_of draft fields) fault.UnknownClub
    (last-fixture-has draft.group fields))
    (λ match within. match-fits-in draft draft.group match is refl within))))

-- ---- the last record

season-fits : (draft : CupDraft) (fields : List (List ℕ)) → IsCupDraft draft
    → Fits IsCup (cup_season_taken draft fields)
season-fits draft fields is =
    fits-unless IsCup (is_last_short draft) fault.TooFewClubs _
    (λ enough. fits-unless IsCup (not (length fields == 1)) fault.WrongWidth _
    (λ wide. fits-unless IsCup (nat_lt (length (groups_so_far draft)) least_groups)
    fault.TooFewGroups _
    (λ two. fits-unless IsCup (not (is_quota (length (groups_so_far draft)) draft.head.quota))
    fault.QuotaRange (Ok (cup_of draft))
    (λ quota. cup-is-whole draft is enough
    (ltb-false (length (groups_so_far draft)) least_groups two)
    (not-false (is_quota (length (groups_so_far draft)) draft.head.quota) quota)))))

-- ---- any record

-- a cup so far is one, or the whole cup may be played
abbrev IsKept : CupProgress → Type 0
IsKept (SoFar draft) = Has IsCupDraft draft
IsKept (Whole cup) = IsCup cup

later-fits : (draft : CupDraft) (fields : List (List ℕ)) → IsCupDraft draft
    → Fits IsKept (cup_later_taken draft fields)
later-fits draft fields is =
    fits-either IsKept (bytes_eq (field 0 fields) (codes "group"))
    (and_then so_far (group_taken draft fields)) _
    (taken-then IsCupDraft IsKept so_far (group_taken draft fields)
    (group-fits draft fields is) (λ next keeps. keeps))
    (fits-either IsKept (bytes_eq (field 0 fields) (codes "club"))
    (and_then so_far (cup_club_taken draft fields)) _
    (taken-then IsCupDraft IsKept so_far (cup_club_taken draft fields)
    (club-fits draft fields is) (λ next keeps. keeps))
    (fits-either IsKept (bytes_eq (field 0 fields) (codes "match"))
    (and_then so_far (cup_match_taken draft fields)) _
    (taken-then IsCupDraft IsKept so_far (cup_match_taken draft fields)
    (match-fits draft fields is) (λ next keeps. keeps))
    (fits-either IsKept (bytes_eq (field 0 fields) (codes "season"))
    (and_then whole (cup_season_taken draft fields)) (Err fault.UnknownRecord)
    (taken-then IsCup IsKept whole (cup_season_taken draft fields)
    (season-fits draft fields is) (λ next keeps. keeps))
    tt)))

record-fits : (draft : Option CupDraft) (found : Option (List (List ℕ))) → Has IsCupDraft draft
    → Fits IsKept (record_taken_if cup_rules draft found)
record-fits draft None is = is
record-fits None (Some fields) is =
    taken-then IsCupDraft IsKept so_far (cup_taken fields) (cup-fits fields)
    (λ next begun. begun)
record-fits (Some draft) (Some fields) is = later-fits draft fields is

content-fits : (draft : Option CupDraft) (content : List ℕ) → Has IsCupDraft draft
    → Fits IsKept (cup_content_taken draft content)
content-fits draft content is =
    fits-unless IsKept (has_return content) (cup_refusal_of_no_record draft)
    (record_taken_if cup_rules draft (record_of content))
    (λ none. record-fits draft (record_of content) is)

-- ---- all of the contents

-- the cup that is given, if one is, may be played
abbrev pub GivesCup : Result Cup CupStop → Type 0
GivesCup (Ok cup) = IsCup cup
GivesCup (Err why) = Unit {0}

lines-give : (lines : List (ℕ × List ℕ)) (ending : Result ℕ ReadStop) (draft : Option CupDraft)
    → Has IsCupDraft draft → GivesCup (cup_reading_from lines ending draft).gives
lines-give [] (Ok number) draft is = tt
lines-give [] (Err stop) draft is = tt
lines-give (line ∷ lines) ending draft is =
    by_line (lines-give lines ending) (cup_content_taken draft line.1)
    (content-fits draft line.1 is)
  where
    by_line : ((next : Option CupDraft) → Has IsCupDraft next
        → GivesCup (cup_reading_from lines ending next).gives)
        → (found : Result CupProgress CupFault) → Fits IsKept found
        → GivesCup (reading_by line.0 (record { lines = lines; ending = ending })
        (cup_reading_from lines ending) found).gives
    by_line behind (Ok (SoFar next)) fits = behind next fits
    by_line behind (Ok (Whole cup)) fits = fits
    by_line behind (Err why) fits = tt

-- a cup that contents give may be played
pub cup-limits : (contents : Contents) → GivesCup (cup_reading_of contents None).gives
cup-limits contents = lines-give contents.lines contents.ending None tt

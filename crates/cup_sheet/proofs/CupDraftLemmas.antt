-- What a record adds to a cup so far keeps it within the limits.
use Rattle.std.proofs.Common.{◌≡◌, ◌≤◌, ◌<◌, ℕ, ◌+◌, Bool, true, false, not, ◌||◌, ◌==◌, nat_lt}
use Rattle.std.proofs.Common.{List, [], ◌∷◌, ◌++◌, length, map, Option, None, Some, bytes_eq, All}
use Rattle.std.proofs.Common.{option_to_list, refl, sym, ap, subst, ◌∙◌, arith, append-nil}
use Rattle.std.proofs.Common.{append_assoc}
use Rattle.std.specs.List.{list_any}
use Rattle.std.proofs.lemmas.Bool.{and_parts, and_from, or_from, or_parts, not-true, not_from_false}
use Rattle.std.proofs.lemmas.Bool.{ltb-false}
use Rattle.std.proofs.lemmas.Bool.Decides.{nat_tests}
use Rattle.std.proofs.lemmas.Grind.{flat_map-append}
use Rattle.std.proofs.lemmas.List.{length_push}
use Rattle.std.proofs.lemmas.List.Elements.{All-push}
use Rattle.std.proofs.lemmas.List.Folds.{list_any-append}
use Rattle.league_core.specs.declared.sheet.Sheet.{Sheet}
use Rattle.league_core.specs.declared.sheet.Club.{Club}
use Rattle.league_core.specs.declared.sheet.Order.TheVariants.{HeadFirst}
use Rattle.league_core.specs.game.Sheets.{is_club, is_name, are_different}
use Rattle.league_core.specs.game.Sheets.{same_name}
use Rattle.league_core.proofs.plain.Texts.{bytes_eq-swap}
use Rattle.fixture_sheet.specs.Records.{has_name, is_past_clubs, sheet_begun}
use Rattle.fixture_sheet.proofs.DraftLemmas.{club-keeps}
use Rattle.cup_sheet.specs.declared.cup.CupHead.{CupHead}
use Rattle.cup_sheet.specs.declared.cup.CupDraft.{CupDraft}
use Rattle.cup_sheet.specs.CupLimits.{least_groups, most_groups, least_group_clubs}
use Rattle.cup_sheet.specs.CupLimits.{most_group_clubs}
use Rattle.cup_sheet.specs.Cups.{clubs_of_groups, IsGroup, IsCup}
use Rattle.cup_sheet.specs.CupRecords.{groups_so_far, does_last, is_last_short, with_club, is_quota}
use Rattle.cup_sheet.specs.CupRecords.{cup_of}
use Rattle.cup_sheet.specs.CupDrafts.{IsHead, IsGroupSoFar, IsGroupEnded, IsLastGroup}
use Rattle.cup_sheet.specs.CupDrafts.{IsCupDraft}

-- ---- names

-- a list of different ones, with one more that is like none of them
are_different-push : {A : Type 0} (same : A → A → Bool) (xs : List A) (y : A)
    → are_different same xs ≡ true → list_any (λ x. same x y) xs ≡ false
    → are_different same (xs ++ y ∷ []) ≡ true
are_different-push same [] y different fresh = refl
are_different-push same (x ∷ xs) y different fresh =
    let parts = and_parts (not (list_any (same x) xs)) (are_different same xs) different in
    let news = or_parts (same x y) (list_any (λ z. same z y) xs) fresh in
    let none : list_any (same x) (xs ++ y ∷ []) ≡ false =
    list_any-append (same x) xs (y ∷ [])
    ∙ or_from (list_any (same x) xs) (same x y || false) (not-true (list_any (same x) xs) parts.0)
    (or_from (same x y) false news.0 refl) in
    and_from (not (list_any (same x) (xs ++ y ∷ []))) (are_different same (xs ++ y ∷ []))
    (not_from_false (list_any (same x) (xs ++ y ∷ [])) none)
    (are_different-push same xs y parts.1 news.1)

-- a name that no club of a list has is like none of theirs
fresh-among : (clubs : List Club) (club : Club)
    → list_any (bytes_eq club.name) (map (λ (other : Club). other.name) clubs) ≡ false
    → list_any (λ other. same_name other club) clubs ≡ false
fresh-among [] club fresh = refl
fresh-among (first ∷ clubs) club fresh =
    let parts = or_parts (bytes_eq club.name first.name)
    (list_any (bytes_eq club.name) (map (λ (other : Club). other.name) clubs)) fresh in
    or_from (bytes_eq first.name club.name) (list_any (λ other. same_name other club) clubs)
    (bytes_eq-swap first.name club.name ∙ parts.0) (fresh-among clubs club parts.1)

-- one that no group has is like none of any group
fresh-in-groups : (groups : List Sheet) (club : Club)
    → list_any (λ (group : Sheet). has_name group club.name) groups ≡ false
    → list_any (λ other. same_name other club) (clubs_of_groups groups) ≡ false
fresh-in-groups [] club fresh = refl
fresh-in-groups (group ∷ groups) club fresh =
    let test = λ (other : Club). same_name other club in
    let parts = or_parts (has_name group club.name)
    (list_any (λ (other : Sheet). has_name other club.name) groups) fresh in
    list_any-append test group.clubs (clubs_of_groups groups)
    ∙ or_from (list_any test group.clubs) (list_any test (clubs_of_groups groups))
    (fresh-among group.clubs club parts.0) (fresh-in-groups groups club parts.1)

-- the clubs of groups with one more
clubs_of_groups-push : (groups : List Sheet) (group : Sheet)
    → clubs_of_groups (groups ++ group ∷ []) ≡ clubs_of_groups groups ++ group.clubs
clubs_of_groups-push groups group =
    flat_map-append (λ (other : Sheet). other.clubs) groups (group ∷ [])
    ∙ ap (λ clubs. clubs_of_groups groups ++ clubs) (append-nil group.clubs)

-- ---- a group more

-- all groups are ended, if the last one has its clubs
all-ended : (head : CupHead) (groups : List Sheet) (group : Option Sheet)
    → All (IsGroupEnded head) groups → IsLastGroup head group
    → does_last (λ (last : Sheet). nat_lt (length last.clubs) least_group_clubs) group ≡ false
    → All (IsGroupEnded head) (groups ++ option_to_list group)
all-ended head groups None ended last enough =
    subst (λ all. All (IsGroupEnded head) all) (sym (append-nil groups)) ended
all-ended head groups (Some group) ended last enough =
    All-push (IsGroupEnded head) groups group ended (record {
      so_far = last;
      least_clubs = ltb-false (length group.clubs) least_group_clubs enough;
    })

-- a group with nothing but its name
begun-group : (head : CupHead) (name : List ℕ) → IsHead head → is_name name ≡ true
    → IsGroupSoFar head (sheet_begun name head.goal_limit head.budget HeadFirst)
begun-group head name is named = record {
  sheet = record {
    name = named;
    most_clubs = omega arith;
    most_fixtures = omega arith;
    most_lines = omega arith;
    clubs = refl;
    different_names = refl;
    fixtures = refl;
    lines = refl;
    different_lines = refl;
    least_goal_limit = is.least_goal_limit;
    most_goal_limit = is.most_goal_limit;
    least_budget = is.least_budget;
    most_budget = is.most_budget;
  };
  most_clubs = omega arith;
  most_fixtures = omega arith;
  no_lines = refl;
  same_goal_limit = refl;
  same_budget = refl;
  head_first = refl;
}

-- one group more
pub group-keeps : (draft : CupDraft) (name : List ℕ) → IsCupDraft draft → is_name name ≡ true
    → is_last_short draft ≡ false → length (groups_so_far draft) < most_groups
    → IsCupDraft (record {
      head = draft.head;
      groups = groups_so_far draft;
      group = Some (sheet_begun name draft.head.goal_limit draft.head.budget HeadFirst);
    })
group-keeps draft name is named enough room =
    let begun = sheet_begun name draft.head.goal_limit draft.head.budget HeadFirst in
    let same : clubs_of_groups (groups_so_far draft ++ begun ∷ [])
    ≡ clubs_of_groups (groups_so_far draft) =
    clubs_of_groups-push (groups_so_far draft) begun
    ∙ append-nil (clubs_of_groups (groups_so_far draft)) in
    let more : length (groups_so_far draft ++ begun ∷ []) ≡ length (groups_so_far draft) + 1 =
    length_push (groups_so_far draft) begun in
    record {
      head = is.head;
      ended = all-ended draft.head draft.groups draft.group is.ended is.last enough;
      last = begun-group draft.head name is.head named;
      many = omega (arith, more, room);
      different = ap (are_different same_name) same ∙ is.different;
    }

-- ---- a club more

-- in the group begun last
club-more : (head : CupHead) (groups : List Sheet) (group : Sheet) (club : Club)
    → IsCupDraft (record { head = head; groups = groups; group = Some group })
    → is_club club ≡ true
    → list_any (λ (other : Sheet). has_name other club.name) (groups ++ group ∷ []) ≡ false
    → length group.clubs < most_group_clubs → (length group.fixtures == 0) ≡ true
    → IsCupDraft (record { head = head; groups = groups; group = Some (with_club club group) })
club-more head groups group club is fits fresh room first =
    let names = λ (other : Sheet). has_name other club.name in
    let own = or_parts (list_any names groups) (names group || false)
    (sym (list_any-append names groups (group ∷ [])) ∙ fresh) in
    let mine = or_parts (names group) false own.1 in
    let no_lines : length group.lines ≡ 0 = ap length is.last.no_lines in
    let past : is_past_clubs group ≡ false =
    or_from (nat_lt 0 (length group.fixtures)) (nat_lt 0 (length group.lines))
    (grind (arith, nat_tests, first)) (grind (arith, nat_tests, no_lines)) in
    let more = with_club club group in
    let longer : length more.clubs ≡ length group.clubs + 1 = length_push group.clubs club in
    let all : clubs_of_groups (groups ++ more ∷ [])
    ≡ clubs_of_groups (groups ++ group ∷ []) ++ club ∷ [] =
    clubs_of_groups-push groups more
    ∙ sym (append_assoc (clubs_of_groups groups) group.clubs (club ∷ []))
    ∙ ap (λ clubs. clubs ++ club ∷ []) (sym (clubs_of_groups-push groups group)) in
    record {
      head = is.head;
      ended = is.ended;
      last = record {
        sheet = club-keeps group group (group.clubs ++ club ∷ []) club refl is.last.sheet fits
            mine.0 (omega (arith, room)) past refl;
        most_clubs = omega (arith, longer, room);
        most_fixtures = is.last.most_fixtures;
        no_lines = is.last.no_lines;
        same_goal_limit = is.last.same_goal_limit;
        same_budget = is.last.same_budget;
        head_first = is.last.head_first;
      };
      many = omega (arith, length_push groups more, length_push groups group, is.many);
      different = ap (are_different same_name) all
          ∙ are_different-push same_name (clubs_of_groups (groups ++ group ∷ [])) club
          is.different (fresh-in-groups (groups ++ group ∷ []) club fresh);
    }

-- a club is added
pub club-keeps-cup : (draft : CupDraft) (group more : Sheet) (club : Club) → IsCupDraft draft
    → draft.group ≡ Some group → is_club club ≡ true
    → list_any (λ (other : Sheet). has_name other club.name) (groups_so_far draft) ≡ false
    → length group.clubs < most_group_clubs
    → does_last (λ (last : Sheet). length last.fixtures == 0) draft.group ≡ true
    → more ≡ with_club club group
    → IsCupDraft (record { head = draft.head; groups = draft.groups; group = Some more })
club-keeps-cup draft group more club is begun fits fresh room first added =
    let P : Option Sheet → Type 0 =
    λ last. IsCupDraft (record { head = draft.head; groups = draft.groups; group = last }) in
    subst P (ap Some (sym added))
    (club-more draft.head draft.groups group club (subst P begun is) fits
    (ap (λ last. list_any (λ (other : Sheet). has_name other club.name)
    (draft.groups ++ option_to_list last)) (sym begun) ∙ fresh)
    room
    (ap (does_last (λ (last : Sheet). length last.fixtures == 0)) (sym begun) ∙ first))

-- ---- the whole cup

-- a group that is ended is a group of the cup
whole-group : (head : CupHead) (group : Sheet) → IsGroupEnded head group
    → IsGroup head.goal_limit head.budget group
whole-group head group ended =
    let own = ended.so_far in
    let sheet = own.sheet in
    record {
      limits = record {
        name = sheet.name;
        two_clubs = omega (arith, ended.least_clubs);
        most_clubs = sheet.most_clubs;
        most_fixtures = sheet.most_fixtures;
        most_lines = sheet.most_lines;
        clubs = sheet.clubs;
        different_names = sheet.different_names;
        fixtures = sheet.fixtures;
        lines = sheet.lines;
        different_lines = sheet.different_lines;
        least_goal_limit = sheet.least_goal_limit;
        most_goal_limit = sheet.most_goal_limit;
        least_budget = sheet.least_budget;
        most_budget = sheet.most_budget;
      };
      least_clubs = ended.least_clubs;
      most_clubs = own.most_clubs;
      most_fixtures = own.most_fixtures;
      same_goal_limit = own.same_goal_limit;
      same_budget = own.same_budget;
      head_first = own.head_first;
    }

-- the cup is whole
pub cup-is-whole : (draft : CupDraft) → IsCupDraft draft → is_last_short draft ≡ false
    → least_groups ≤ length (groups_so_far draft)
    → is_quota (length (groups_so_far draft)) draft.head.quota ≡ true
    → IsCup (cup_of draft)
cup-is-whole draft is enough two quota =
    let groups = groups_so_far draft in
    let ended = all-ended draft.head draft.groups draft.group is.ended is.last enough in
    record {
      name = is.head.name;
      least_groups = two;
      most_groups = is.many;
      groups = (
        draft.head.goal_limit,
        draft.head.budget,
        λ place other below. whole-group draft.head _ (ended place other below),
      );
      different_names = is.different;
      least_quota = grind (arith, nat_tests, quota);
      most_quota = grind (arith, nat_tests, quota);
    }

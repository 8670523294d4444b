-- What a record adds to a sheet so far keeps it within the limits.
use Rattle.std.proofs.Common.{◌≡◌, ℕ, ◌+◌, ◌<◌, Bool, true, false, not, ◌||◌, ◌==◌, nat_lt, nat_le}
use Rattle.std.proofs.Common.{nat_eq, List, [], ◌∷◌, ◌++◌, length, map, Ok, bytes_eq, refl, sym, ap}
use Rattle.std.proofs.Common.{subst, ◌∙◌, arith}
use Rattle.std.specs.List.{list_any}
use Rattle.std.proofs.lemmas.Bool.{and_parts, and_from, or_from, or_parts, not-true, not_from_false}
use Rattle.std.proofs.lemmas.List.{length_push}
use Rattle.std.proofs.lemmas.List.Folds.{list_any-append}
use Rattle.league_core.specs.declared.sheet.Sheet.{Sheet}
use Rattle.league_core.specs.declared.sheet.Club.{Club}
use Rattle.league_core.specs.game.Limits.{most_clubs, most_lines}
use Rattle.league_core.specs.game.Sheets.{is_club, is_line, are_different, same_name}
use Rattle.fixture_sheet.specs.inside.Drafts.{IsDraft}
use Rattle.fixture_sheet.specs.Records.{has_name, is_past_clubs, line_added}
use Rattle.league_core.proofs.plain.Texts.{bytes_eq-swap}
use Rattle.league_core.proofs.plain.Lists.{list_all-push}
use Rattle.league_core.proofs.plain.Parts.{nothing-in}

-- a list of different ones, with one more that is like none of them
are_different-push : {A : Type 0} (same : A → A → Bool) (xs : List A) (y : A)
    → are_different same xs ≡ true → list_any (λ x. same x y) xs ≡ false
    → are_different same (xs ++ y ∷ []) ≡ true
are_different-push same [] y different fresh = refl
are_different-push same (x ∷ xs) y different fresh =
    let parts = and_parts (not (list_any (same x) xs)) (are_different same xs) different in
    let news = or_parts (same x y) (list_any (λ z. same z y) xs) fresh in
    let none : list_any (same x) (xs ++ y ∷ []) ≡ false =
    list_any-append (same x) xs (y ∷ [])
    ∙ or_from (list_any (same x) xs) (same x y || false) (not-true (list_any (same x) xs) parts.0)
    (or_from (same x y) false news.0 refl) in
    and_from (not (list_any (same x) (xs ++ y ∷ []))) (are_different same (xs ++ y ∷ []))
    (not_from_false (list_any (same x) (xs ++ y ∷ [])) none)
    (are_different-push same xs y parts.1 news.1)

-- a name that no club has is like none of theirs
fresh-name : (clubs : List Club) (club : Club)
    → list_any (bytes_eq club.name) (map (λ (other : Club). other.name) clubs) ≡ false
    → list_any (λ other. same_name other club) clubs ≡ false
fresh-name [] club fresh = refl
fresh-name (first ∷ clubs) club fresh =
    let parts = or_parts (bytes_eq club.name first.name)
    (list_any (bytes_eq club.name) (map (λ (other : Club). other.name) clubs)) fresh in
    or_from (bytes_eq first.name club.name) (list_any (λ other. same_name other club) clubs)
    (bytes_eq-swap first.name club.name ∙ parts.0) (fresh-name clubs club parts.1)

-- a club more
club-more : (sheet : Sheet) (club : Club) → IsDraft sheet → is_club club ≡ true
    → has_name sheet club.name ≡ false → length sheet.clubs < most_clubs
    → is_past_clubs sheet ≡ false
    → IsDraft (record sheet { clubs = sheet.clubs ++ club ∷ [] })
club-more sheet club draft is fresh room first =
    let none = or_parts (nat_lt 0 (length sheet.fixtures)) (nat_lt 0 (length sheet.lines)) first in
    let no_fixtures = nothing-in sheet.fixtures none.0 in
    let no_lines = nothing-in sheet.lines none.1 in
    let longer : length (sheet.clubs ++ club ∷ []) ≡ length sheet.clubs + 1 =
    length_push sheet.clubs club in
    record {
      name = draft.name;
      most_clubs = omega (arith, longer, room);
      most_fixtures = draft.most_fixtures;
      most_lines = draft.most_lines;
      clubs = list_all-push is_club sheet.clubs club draft.clubs is;
      different_names =
          are_different-push same_name sheet.clubs club draft.different_names
          (fresh-name sheet.clubs club fresh);
      fixtures = rw no_fixtures refl;
      lines = rw no_lines refl;
      different_lines = draft.different_lines;
      least_goal_limit = draft.least_goal_limit;
      most_goal_limit = draft.most_goal_limit;
      least_budget = draft.least_budget;
      most_budget = draft.most_budget;
    }

-- a line more
line-more : (sheet : Sheet) (line : ℕ) → IsDraft sheet
    → is_line (length sheet.clubs) line ≡ true
    → list_any (λ other. other == line) sheet.lines ≡ false → length sheet.lines < most_lines
    → IsDraft (record sheet { lines = sheet.lines ++ line ∷ [] })
line-more sheet line draft is fresh room =
    let longer : length (sheet.lines ++ line ∷ []) ≡ length sheet.lines + 1 =
    length_push sheet.lines line in
    record {
      name = draft.name;
      most_clubs = draft.most_clubs;
      most_fixtures = draft.most_fixtures;
      most_lines = omega (arith, longer, room);
      clubs = draft.clubs;
      different_names = draft.different_names;
      fixtures = draft.fixtures;
      lines = list_all-push (is_line (length sheet.clubs)) sheet.lines line draft.lines is;
      different_lines = are_different-push nat_eq sheet.lines line draft.different_lines fresh;
      least_goal_limit = draft.least_goal_limit;
      most_goal_limit = draft.most_goal_limit;
      least_budget = draft.least_budget;
      most_budget = draft.most_budget;
    }

-- a club is added
pub club-keeps : (self sheet : Sheet) (clubs : List Club) (club : Club)
    → sheet ≡ self → IsDraft sheet → is_club club ≡ true
    → has_name self club.name ≡ false → length self.clubs < most_clubs → is_past_clubs self ≡ false
    → clubs ≡ sheet.clubs ++ club ∷ []
    → IsDraft (record sheet { clubs = clubs })
club-keeps self sheet clubs club view draft is fresh room first added =
    let P : List Club → Type 0 = λ cs. IsDraft (record sheet { clubs = cs }) in
    subst P (sym added)
    (club-more sheet club draft is (ap (λ s. has_name s club.name) view ∙ fresh)
    (omega (arith, ap (λ s. length s.clubs) view, room)) (ap is_past_clubs view ∙ first))

-- a line is added
pub line-keeps : (self sheet : Sheet) (lines : List ℕ) (line : ℕ)
    → sheet ≡ self → IsDraft sheet → is_line (length self.clubs) line ≡ true
    → list_any (λ other. other == line) self.lines ≡ false → length self.lines < most_lines
    → lines ≡ sheet.lines ++ line ∷ []
    → IsDraft (record sheet { lines = lines })
line-keeps self sheet lines line view draft is fresh room added =
    let P : List ℕ → Type 0 = λ ls. IsDraft (record sheet { lines = ls }) in
    subst P (sym added)
    (line-more sheet line draft (ap (λ s. is_line (length s.clubs) line) view ∙ is)
    (ap (λ s. list_any (λ other. other == line) s.lines) view ∙ fresh)
    (omega (arith, ap (λ s. length s.lines) view, room)))

-- a line that passes each test is added
pub line_added-ok : (sheet next : Sheet) (line : ℕ) → is_line (length sheet.clubs) line ≡ true
    → list_any (λ other. other == line) sheet.lines ≡ false
    → nat_le most_lines (length sheet.lines) ≡ false
    → next ≡ record sheet { lines = sheet.lines ++ line ∷ [] }
    → line_added sheet line ≡ Ok next
line_added-ok sheet next line is fresh room added = rw (is, fresh, room) (ap Ok (sym added))

-- Items of an answer, one after another.
use Rattle.std.proofs.Common.{◌≡◌, ℕ, ◌+◌, ◌<◌, List, [], ◌∷◌, ◌++◌, length, map, take, get_or}
use Rattle.std.proofs.Common.{refl, sym, ap, ◌∙◌, subst, arith, append_assoc, append-nil}
use Rattle.std.specs.List.{flat_map}
use Rattle.std.proofs.lemmas.List.{map-append, take_more, flat_map_more}
use Rattle.std.proofs.lemmas.List.Elements.{All-nil, All-cons, All-append}
use Rattle.std.proofs.lemmas.List.FromFn.{map-range_with_len_more}
use Rattle.answer_rows.specs.Items.{AnswerRow, answer_rows_of}
use Rattle.answer_rows.specs.inside.RowItems.{AreAbout, AddsAbout}

module _ {I : Type 0} (row_of : I → AnswerRow) (Fact : I → Type 0) where
  -- items for some rows and then for others
  about_joined : (rows others : List AnswerRow) (items more : List I)
      → AreAbout row_of Fact rows items → AreAbout row_of Fact others more
      → AreAbout row_of Fact (rows ++ others) (items ++ more)
  about_joined rows others items more first second = record {
    about = map-append row_of items more
        ∙ ap (λ xs. xs ++ map row_of more) first.about
        ∙ ap (λ xs. rows ++ xs) second.about;
    each = All-append Fact items more first.each second.each;
  }

  pub none_about : AreAbout row_of Fact [] []
  none_about = record { about = refl; each = All-nil Fact }

  -- nothing is added yet
  pub adds_nothing : (line : ℕ) (old : List I) → AddsAbout row_of Fact line 0 old old
  adds_nothing line old = record { more = []; after = sym (append-nil old); right = none_about }

  -- one club more
  pub adds_item : (line club : ℕ) (item : I) (old between new : List I)
      → AddsAbout row_of Fact line club old between
      → row_of item ≡ record { line = line; club = club } → Fact item
      → new ≡ between ++ item ∷ [] → AddsAbout row_of Fact line (club + 1) old new
  adds_item line club item old between new adds about right after =
      let row : AnswerRow = record { line = line; club = club } in
      let one : AreAbout row_of Fact (row ∷ []) (item ∷ []) = record {
        about = ap (λ (r : AnswerRow). r ∷ []) about;
        each = All-cons Fact item [] right (All-nil Fact);
      } in
      record {
        more = adds.more ++ item ∷ [];
        after = after ∙ ap (λ xs. xs ++ item ∷ []) adds.after
            ∙ append_assoc old adds.more (item ∷ []);
        right = subst (λ (rows : List AnswerRow).
            AreAbout row_of Fact rows (adds.more ++ item ∷ []))
            (sym (map-range_with_len_more (λ c. record { line = line; club = c }) 0 club club
            (omega arith)))
            (about_joined (answer_rows_of club line) (row ∷ []) adds.more (item ∷ []) adds.right
            one);
      }

  -- one line more
  pub line_added : (clubs : ℕ) (lines : List ℕ) (i d : ℕ) (old new : List I) → i < length lines
      → AreAbout row_of Fact (flat_map (answer_rows_of clubs) (take i lines)) old
      → AddsAbout row_of Fact (get_or lines i d) clubs old new
      → AreAbout row_of Fact (flat_map (answer_rows_of clubs) (take (i + 1) lines)) new
  line_added clubs lines i d old new inside so_far adds =
      let rows_of : ℕ → List AnswerRow = λ line. answer_rows_of clubs line in
      let line = get_or lines i d in
      let before = flat_map rows_of (take i lines) in
      let are : before ++ rows_of line ≡ flat_map rows_of (take (i + 1) lines) =
      flat_map_more rows_of [] (take i lines) line
      ∙ ap (λ ls. flat_map rows_of ls) (sym (take_more lines i d inside)) in
      let P : List AnswerRow → Type 0 = λ rows. AreAbout row_of Fact rows new in
      let Q : List I → Type 0 = λ found. AreAbout row_of Fact (before ++ rows_of line) found in
      subst P are (subst Q (sym adds.after)
      (about_joined before (rows_of line) old adds.more so_far adds.right))

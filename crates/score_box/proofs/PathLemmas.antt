-- A box along a path: one literal more or less, and the fixtures that are not played.
use Rattle.std.proofs.Common.{◌≡◌, ◌≢◌, ◌⊎◌, ℕ, ◌+◌, ◌<◌, true, false, not, ◌&&◌, ◌||◌, ◌==◌, List}
use Rattle.std.proofs.Common.{[], ◌∷◌, ◌++◌, length, get_or, set, take, cond, Option, None, refl}
use Rattle.std.proofs.Common.{sym, ap, ◌∙◌, inl, inr, arith, ◌≤◌, append_assoc}
use Rattle.std.proofs.lemmas.Bool.{and_parts, and_from, cases_eq, ne_eqb, cases_lt}
use Rattle.std.proofs.lemmas.List.{length-set, get_or-set_same, get_or-set_other, map-id, take_more}
use Rattle.std.proofs.lemmas.List.{ext_get_or, get_or_past}
use Rattle.std.proofs.lemmas.List.Elements.{filter_agree}
use Rattle.league_core.specs.search.Options.{meets, endings, options_in, meets_literal, options_of}
use Rattle.league_core.specs.search.Options.{options_from, has_score}
use Rattle.score_box.specs.inside.ZoneBoxViews.{ZoneBoxView}
use Rattle.std.proofs.lemmas.List.Folds.{list_all-append}
use Rattle.std.proofs.lemmas.List.FromFn.{filter_of_map_range_with_len_more}
use Rattle.std.proofs.Math.Bool.{and-true}
use Rattle.league_core.specs.declared.sheet.Sheet.{Sheet}
use Rattle.league_core.specs.declared.season.Score.{Score}
use Rattle.league_core.specs.declared.zone.Literal.{Literal}
use Rattle.league_core.specs.declared.club_set.ClubSet.{ClubSet}
use Rattle.league_core.specs.game.Results.{Results}
use Rattle.league_core.specs.game.Sums.{has_club}
use Rattle.league_core.specs.game.ClubSets.{clubs_in}
use Rattle.league_core.specs.search.Zones.{is_on, is_of_rival, is_test_of, is_zone_of}
use Rattle.league_core.proofs.OptionLemmas.{length-options_from}
use Rattle.league_core.proofs.LiteralLemmas.{options_at, options_at-with, meets-other}
use Rattle.score_box.specs.declared.cell.Cell.{Cell}
use Rattle.score_box.specs.inside.Cells.{allows, IsCellOf, IsExactCell}
use Rattle.score_box.specs.inside.Unplayed.{is_unplayed, unplayed_below}
use Rattle.score_box.specs.inside.Boxes.{AreCellsOf, IsSetOf}
use Rattle.score_box.specs.declared.ends.Ends.{Ends}
use Rattle.score_box.specs.inside.Ends.{AreEnds}
use Rattle.score_box.specs.declared.trail.Undo.{Undo}
use Rattle.score_box.specs.inside.PlayedViews.{IsBoxOf, IsUndoOf}
use Rattle.score_box.proofs.TrailLemmas.{trail_more, trail_less}
use Rattle.score_box.specs.declared.totals.Totals.{Totals}
use Rattle.score_box.proofs.EndLemmas.{set_is}
use Rattle.score_box.proofs.BoxLemmas.{exact_set, marked_before-push, marked_after-push}

-- none is below 0, and the next fixture follows those before it if it is not played
pub unplayed_below-zero : (scores : List (Option Score)) → unplayed_below 0 scores ≡ []
unfolding unplayed_below
unplayed_below-zero scores = refl

pub unplayed_below-suc : (count : ℕ) (scores : List (Option Score))
    → unplayed_below (count + 1) scores ≡ unplayed_below count scores
    ++ cond (is_unplayed (get_or scores count None)) (count ∷ []) []
unfolding unplayed_below
unplayed_below-suc count scores =
    let more = filter_of_map_range_with_len_more
    (λ fixture. is_unplayed (get_or scores fixture None)) (λ (x : ℕ). x) 0 count count
    (omega arith) in
    rw (map-id, map-id) at more

-- a zone with one literal more names the sheet alone, if the literal does
pub zone_with : (sheet : Sheet) (zone : List Literal) (literal : Literal)
    → is_zone_of sheet zone ≡ true → is_test_of sheet literal.test ≡ true
    → is_zone_of sheet (zone ++ literal ∷ []) ≡ true
zone_with sheet zone literal before here =
    list_all-append (λ (l : Literal). is_test_of sheet l.test) zone (literal ∷ [])
    ∙ and_from (is_zone_of sheet zone) (is_zone_of sheet (literal ∷ [])) before
    (and_from (is_test_of sheet literal.test) true here refl)

pub zone_without : (sheet : Sheet) (zone : List Literal) (literal : Literal)
    → is_zone_of sheet (zone ++ literal ∷ []) ≡ true
    → (is_zone_of sheet zone ≡ true) × (is_test_of sheet literal.test ≡ true)
zone_without sheet zone literal all =
    let both = and_parts (is_zone_of sheet zone) (is_zone_of sheet (literal ∷ []))
    (sym (list_all-append (λ (l : Literal). is_test_of sheet l.test) zone (literal ∷ [])) ∙ all) in
    (both.0, (and_parts (is_test_of sheet literal.test) true both.1).0)

-- a box with one literal more
pub box_with : (sheet : Sheet) (season : Results) (zone : List Literal) (literal : Literal)
    (trail : List Undo) (undo : Undo) (unplayed : List ℕ) (sides : List ClubSet)
    (old new : List Cell)
    (before after before_new after_new : ClubSet) (ends ends_new : Ends)
    (clubs pairs : List Totals)
    → IsBoxOf (record { sheet = sheet; season = season; zone = zone }) trail unplayed sides old
    before after ends clubs pairs → is_test_of sheet literal.test ≡ true
    → IsUndoOf sheet.goal_limit season.scores zone literal undo
    → AreCellsOf new (options_in sheet season (zone ++ literal ∷ []))
    → AreEnds sheet.fixtures (options_in sheet season (zone ++ literal ∷ [])) ends_new
    → IsSetOf before_new (λ club. has_club (clubs_in before) club
    || (is_of_rival club literal.test && literal.yes))
    → IsSetOf after_new (λ club. has_club (clubs_in after) club
    || (is_of_rival club literal.test && not literal.yes))
    → IsBoxOf (record { sheet = sheet; season = season; zone = zone ++ literal ∷ [] })
    (trail ++ undo ∷ []) unplayed sides new before_new after_new ends_new clubs pairs
box_with sheet season zone literal trail undo unplayed sides old new before after before_new
    after_new ends ends_new clubs pairs is here stood cells ends_are marks_before marks_after =
    record {
      league = is.league;
      open_fixtures = is.open_fixtures;
      open_sides = is.open_sides;
      of_zone = zone_with sheet zone literal is.of_zone here;
      trail_is = trail_more sheet.goal_limit season.scores zone trail literal undo is.trail_is
          stood;
      options = cells;
      marks_before = λ club.
          marks_before club
          ∙ ap (λ b. b || (is_of_rival club literal.test && literal.yes)) (is.marks_before club)
          ∙ sym (marked_before-push zone literal club);
      marks_after = λ club.
          marks_after club
          ∙ ap (λ b. b || (is_of_rival club literal.test && not literal.yes)) (is.marks_after club)
          ∙ sym (marked_after-push zone literal club);
      ends_are = ends_are;
      tables = is.tables;
    }

-- and without its last
pub box_without : (sheet : Sheet) (season : Results) (zone : List Literal) (last : Literal)
    (trail : List Undo) (undo : Undo) (unplayed : List ℕ) (sides : List ClubSet)
    (old new : List Cell)
    (before after : ClubSet) (ends ends_new : Ends) (clubs pairs : List Totals)
    → IsBoxOf (record { sheet = sheet; season = season; zone = zone ++ last ∷ [] })
    (trail ++ undo ∷ []) unplayed sides old before after ends clubs pairs
    → AreCellsOf new (options_in sheet season zone)
    → AreEnds sheet.fixtures (options_in sheet season zone) ends_new
    → IsBoxOf (record { sheet = sheet; season = season; zone = zone }) trail unplayed sides new
    undo.marks.before undo.marks.after ends_new clubs pairs
box_without sheet season zone last trail undo unplayed sides old new before after ends ends_new
    clubs pairs is cells ends_are =
    let less = trail_less sheet.goal_limit season.scores zone trail last undo is.trail_is in
    record {
      league = is.league;
      open_fixtures = is.open_fixtures;
      open_sides = is.open_sides;
      of_zone = (zone_without sheet zone last is.of_zone).0;
      trail_is = less.0;
      options = cells;
      marks_before = less.1.before;
      marks_after = less.1.after;
      ends_are = ends_are;
      tables = is.tables;
    }

-- a literal of another fixture takes nothing away, and so gives nothing back
options_without : (limit : ℕ) (zone : List Literal) (last : Literal) (scores : List (Option Score))
    (k : ℕ) (score : Score) → k < length scores → is_on k last.test ≡ false
    → has_score (get_or (options_from limit (zone ++ last ∷ []) 0 scores) k []) score
    ≡ has_score (get_or (options_from limit zone 0 scores) k []) score
options_without limit zone last scores k score inside off =
    options_at-with limit zone last scores k score inside
    ∙ ap (λ b. has_score (get_or (options_from limit zone 0 scores) k []) score && b)
    (meets-other k score last off)
    ∙ and-true (has_score (get_or (options_from limit zone 0 scores) k []) score)

-- a literal that is on no fixture is given back by leaving the cells as they are
pub gives_mark : (limit : ℕ) (zone : List Literal) (last : Literal) (scores : List (Option Score))
    (cells : List Cell) → ((number : ℕ) → is_on number last.test ≡ false)
    → AreCellsOf cells (options_from limit (zone ++ last ∷ []) 0 scores)
    → AreCellsOf cells (options_from limit zone 0 scores)
gives_mark limit zone last scores cells off are = record {
  many = are.many ∙ length-options_from limit (zone ++ last ∷ []) 0 scores
      ∙ sym (length-options_from limit zone 0 scores);
  each = λ k d within score.
      let inside : k < length scores = omega (
        arith,
        are.many,
        length-options_from limit (zone ++ last ∷ []) 0 scores,
      ) in
      are.each k d within score
      ∙ options_without limit zone last scores k score inside (off k);
  exact = are.exact;
}

-- and one that is on a fixture by that fixture's cell
pub gives_cell : (limit : ℕ) (zone : List Literal) (last : Literal) (scores : List (Option Score))
    (cells : List Cell) (fixture : ℕ) (cell : Cell)
    → ((number : ℕ) → is_on number last.test ≡ (fixture == number)) → fixture < length scores
    → IsCellOf cell (options_of limit zone fixture (get_or scores fixture None))
    → IsExactCell cell → AreCellsOf cells (options_from limit (zone ++ last ∷ []) 0 scores)
    → AreCellsOf (set cells fixture cell) (options_from limit zone 0 scores)
gives_cell limit zone last scores cells fixture cell on in_range is is_exact are = record {
  many = length-set cells fixture cell ∙ are.many
      ∙ length-options_from limit (zone ++ last ∷ []) 0 scores
      ∙ sym (length-options_from limit zone 0 scores);
  each = λ k d within score.
      let below : k < length cells = omega (arith, length-set cells fixture cell) in
      let inside : k < length scores = omega (
        arith,
        are.many,
        length-options_from limit (zone ++ last ∷ []) 0 scores,
      ) in
      at k d score below inside (cases_eq k fixture);
  exact = exact_set cells fixture cell
      (omega (arith, in_range, are.many, length-options_from limit (zone ++ last ∷ []) 0 scores))
      are.exact is_exact;
}
  where
    at : (k : ℕ) (d : Cell) (score : Score) → k < length cells → k < length scores
        → (k ≡ fixture) ⊎ (k ≢ fixture)
        → allows (get_or (set cells fixture cell) k d) score
        ≡ has_score (get_or (options_from limit zone 0 scores) k []) score
    at k d score below inside (inl same) =
        let within : fixture < length cells = omega arith in
        ap (λ n. allows (get_or (set cells fixture cell) n d) score) same
        ∙ ap (λ c. allows c score) (get_or-set_same cells fixture cell d within)
        ∙ is score
        ∙ ap (λ options. has_score options score) (sym (options_at limit zone scores fixture
        in_range))
        ∙ ap (λ n. has_score (get_or (options_from limit zone 0 scores) n []) score) (sym same)
    at k d score below inside (inr other) =
        ap (λ c. allows c score) (get_or-set_other cells fixture k cell d other)
        ∙ are.each k d below score
        ∙ options_without limit zone last scores k score inside
        (on k ∙ ne_eqb fixture k (λ e. other (sym e)))

-- a literal that is not on a fixture leaves its options as they are
pub options_but : (limit : ℕ) (zone : List Literal) (literal : Literal)
    (scores : List (Option Score)) (k : ℕ) → is_on k literal.test ≡ false
    → get_or (options_from limit (zone ++ literal ∷ []) 0 scores) k []
    ≡ get_or (options_from limit zone 0 scores) k []
options_but limit zone literal scores k off = at (cases_lt k (length scores))
  where
    same : (score : Score) → meets (zone ++ literal ∷ []) k score ≡ meets zone k score
    same score =
        list_all-append (meets_literal k score) zone (literal ∷ [])
        ∙ ap (λ b. meets zone k score && (b && true)) (meets-other k score literal off)
        ∙ and-true (meets zone k score)

    at : (k < length scores) ⊎ (length scores ≤ k)
        → get_or (options_from limit (zone ++ literal ∷ []) 0 scores) k []
        ≡ get_or (options_from limit zone 0 scores) k []
    at (inl within) =
        options_at limit (zone ++ literal ∷ []) scores k within
        ∙ filter_agree (meets (zone ++ literal ∷ []) k) (meets zone k) same
        (endings limit (get_or scores k None))
        ∙ sym (options_at limit zone scores k within)
    at (inr past) =
        get_or_past (options_from limit (zone ++ literal ∷ []) 0 scores) k []
        (omega (arith, length-options_from limit (zone ++ literal ∷ []) 0 scores))
        ∙ sym (get_or_past (options_from limit zone 0 scores) k []
        (omega (arith, length-options_from limit zone 0 scores)))

-- one that is on none leaves all
pub options_same : (limit : ℕ) (zone : List Literal) (literal : Literal)
    (scores : List (Option Score)) → ((number : ℕ) → is_on number literal.test ≡ false)
    → options_from limit (zone ++ literal ∷ []) 0 scores ≡ options_from limit zone 0 scores
options_same limit zone literal scores off =
    ext_get_or [] (options_from limit (zone ++ literal ∷ []) 0 scores)
    (options_from limit zone 0 scores)
    (length-options_from limit (zone ++ literal ∷ []) 0 scores
    ∙ sym (length-options_from limit zone 0 scores))
    (λ k below. options_but limit zone literal scores k (off k))

-- and one that is on a fixture all but that one's, on the way there and back
pub one_more : (limit : ℕ) (zone : List Literal) (literal : Literal)
    (scores : List (Option Score)) (f : ℕ) → f < length scores
    → ((number : ℕ) → is_on number literal.test ≡ (f == number))
    → set (options_from limit zone 0 scores) f
    (get_or (options_from limit (zone ++ literal ∷ []) 0 scores) f [])
    ≡ options_from limit (zone ++ literal ∷ []) 0 scores
one_more limit zone literal scores f within on =
    set_is (options_from limit zone 0 scores) (options_from limit (zone ++ literal ∷ []) 0 scores) f
    (omega (arith, length-options_from limit zone 0 scores))
    (length-options_from limit zone 0 scores
    ∙ sym (length-options_from limit (zone ++ literal ∷ []) 0 scores))
    (λ k other. options_but limit zone literal scores k
    (on k ∙ ne_eqb f k (λ e. other (sym e))))

pub one_less : (limit : ℕ) (zone : List Literal) (literal : Literal)
    (scores : List (Option Score)) (f : ℕ) → f < length scores
    → ((number : ℕ) → is_on number literal.test ≡ (f == number))
    → set (options_from limit (zone ++ literal ∷ []) 0 scores) f
    (get_or (options_from limit zone 0 scores) f [])
    ≡ options_from limit zone 0 scores
one_less limit zone literal scores f within on =
    set_is (options_from limit (zone ++ literal ∷ []) 0 scores) (options_from limit zone 0 scores) f
    (omega (arith, length-options_from limit (zone ++ literal ∷ []) 0 scores))
    (length-options_from limit (zone ++ literal ∷ []) 0 scores
    ∙ sym (length-options_from limit zone 0 scores))
    (λ k other. sym (options_but limit zone literal scores k
    (on k ∙ ne_eqb f k (λ e. other (sym e)))))

-- a cell that was put in a place is the one that stands there
pub cell_set : (cells : List Cell) (f : ℕ) (cell : Cell) (options : List (List Score))
    → f < length cells → AreCellsOf (set cells f cell) options
    → IsCellOf cell (get_or options f [])
cell_set cells f cell options within are score =
    ap (λ c. allows c score) (sym (get_or-set_same cells f cell cell within))
    ∙ are.each f cell (omega (arith, length-set cells f cell)) score

-- a step of the path
pub step_more : (start now new : ZoneBoxView) (literals : List Literal) (i : ℕ) (d : Literal)
    → i < length literals
    → now ≡ record start { zone = start.zone ++ take i literals }
    → new ≡ record now { zone = now.zone ++ get_or literals i d ∷ [] }
    → new ≡ record start { zone = start.zone ++ take (i + 1) literals }
step_more start now new literals i d within is next =
    next
    ∙ ap (λ (b : ZoneBoxView). let r : ZoneBoxView = record b
    { zone = b.zone ++ get_or literals i d ∷ [] }
    in r) is
    ∙ ap (λ (z : List Literal). let r : ZoneBoxView = record start { zone = z } in r)
    (append_assoc start.zone (take i literals) (get_or literals i d ∷ [])
    ∙ ap (λ z. start.zone ++ z) (sym (take_more literals i d within)))

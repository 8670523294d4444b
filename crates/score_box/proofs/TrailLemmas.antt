-- What stood before each literal of a zone, with one literal more and one less.
use Rattle.std.proofs.Common.{◌≡◌, ◌⊎◌, ℕ, ◌<◌, ◌≤◌, true, List, [], ◌∷◌, ◌++◌}
use Rattle.std.proofs.Common.{length, get_or, take}
use Rattle.std.proofs.Common.{Option, refl, sym, ap, ◌∙◌, subst, inl, inr, arith, length-append}
use Rattle.std.proofs.lemmas.Bool.{cases_lt, eqb-true, false≢true}
use Rattle.std.proofs.lemmas.List.{take-append-le, take_at, get_or_append_left, get_or_push}
use Rattle.league_core.specs.declared.season.Score.{Score}
use Rattle.league_core.specs.declared.zone.Literal.{Literal}
use Rattle.league_core.specs.declared.zone.Test.{Test}
use Rattle.league_core.specs.declared.zone.Test.TheVariants.{Home, Draw, HomeMost, AwayMost, Rival}
use Rattle.league_core.specs.search.Zones.{is_on}
use Rattle.league_core.specs.search.Options.{options_from, has_score}
use Rattle.league_core.proofs.OptionLemmas.{length-options_from}
use Rattle.league_core.proofs.LiteralLemmas.{options_at}
use Rattle.score_box.specs.declared.cell.Cell.{Cell}
use Rattle.score_box.specs.declared.trail.Undo.{Undo}
use Rattle.score_box.specs.inside.Cells.{allows, IsExactCell}
use Rattle.score_box.specs.inside.Boxes.{AreCellsOf, IsTestBelow}
use Rattle.score_box.specs.inside.PlayedViews.{IsCellBefore, IsUndoOf, IsTrailOf}

-- a literal is on a fixture that is there
below_on : (test : Test) (fixtures clubs number : ℕ) → IsTestBelow fixtures clubs test
    → is_on number test ≡ true → number < fixtures
below_on (Home fixture) fixtures clubs number below on =
    let same = eqb-true fixture number on in omega arith
below_on (Draw fixture) fixtures clubs number below on =
    let same = eqb-true fixture number on in omega arith
below_on (HomeMost fixture most) fixtures clubs number below on =
    let same = eqb-true fixture number on in omega arith
below_on (AwayMost fixture most) fixtures clubs number below on =
    let same = eqb-true fixture number on in omega arith
below_on (Rival club) fixtures clubs number below on = absurd (false≢true on)

-- the cell that a box has of the fixture that a literal is on
pub cell_before : (limit : ℕ) (zone : List Literal) (scores : List (Option Score))
    (cells : List Cell) (literal : Literal) (cell : Cell)
    → AreCellsOf cells (options_from limit zone 0 scores)
    → IsTestBelow (length cells) 32 literal.test
    → ((number : ℕ) (d : Cell) → is_on number literal.test ≡ true
    → cell ≡ get_or cells number d)
    → IsCellBefore limit scores zone literal cell
cell_before limit zone scores cells literal cell are below is number on =
    let within : number < length cells = below_on literal.test (length cells) 32 number below on in
    let inside : number < length scores = omega (
      arith,
      within,
      are.many,
      length-options_from limit zone 0 scores,
    ) in (
      λ score. ap (λ c. allows c score) (is number cell on)
          ∙ are.each number cell within score
          ∙ ap (λ options. has_score options score) (options_at limit zone scores number inside),
      subst IsExactCell (sym (is number cell on)) (are.exact number cell within),
    )

-- the same undo of the same literal after the same zone
undo_same : (limit : ℕ) (scores : List (Option Score)) (zone zone_too : List Literal)
    (literal literal_too : Literal) (undo undo_too : Undo) → zone ≡ zone_too
    → literal ≡ literal_too → undo ≡ undo_too → IsUndoOf limit scores zone literal undo
    → IsUndoOf limit scores zone_too literal_too undo_too
undo_same limit scores zone zone_too literal literal_too undo undo_too same_zone same_literal
    same_undo is =
    let Of_zone : List Literal → Type 0 = λ z. IsUndoOf limit scores z literal undo in
    let Of_literal : Literal → Type 0 = λ l. IsUndoOf limit scores zone_too l undo in
    let Of_undo : Undo → Type 0 = λ u. IsUndoOf limit scores zone_too literal_too u in
    subst Of_undo same_undo (subst Of_literal same_literal (subst Of_zone same_zone is))

-- one literal more
pub trail_more : (limit : ℕ) (scores : List (Option Score)) (zone : List Literal)
    (trail : List Undo) (literal : Literal) (undo : Undo) → IsTrailOf limit scores zone trail
    → IsUndoOf limit scores zone literal undo
    → IsTrailOf limit scores (zone ++ literal ∷ []) (trail ++ undo ∷ [])
trail_more limit scores zone trail literal undo are is = record {
  many = omega (
    arith,
    are.many,
    length-append zone (literal ∷ []),
    length-append trail (undo ∷ []),
  );
  each = λ k d e within. at k d e within (cases_lt k (length zone));
}
  where
    at : (k : ℕ) (d : Literal) (e : Undo) → k < length (zone ++ literal ∷ [])
        → (k < length zone) ⊎ (length zone ≤ k)
        → IsUndoOf limit scores (take k (zone ++ literal ∷ []))
        (get_or (zone ++ literal ∷ []) k d) (get_or (trail ++ undo ∷ []) k e)
    at k d e within (inl below) =
        undo_same limit scores (take k zone) (take k (zone ++ literal ∷ [])) (get_or zone k d)
        (get_or (zone ++ literal ∷ []) k d) (get_or trail k e) (get_or (trail ++ undo ∷ []) k e)
        (sym (take-append-le k zone (literal ∷ []) (omega (arith, below))))
        (sym (get_or_append_left zone (literal ∷ []) d k below))
        (sym (get_or_append_left trail (undo ∷ []) e k (omega (arith, below, are.many))))
        (are.each k d e below)
    at k d e within (inr past) =
        let last : length zone ≡ k = omega (
          arith,
          within,
          past,
          length-append zone (literal ∷ []),
        ) in
        undo_same limit scores zone (take k (zone ++ literal ∷ [])) literal
        (get_or (zone ++ literal ∷ []) k d) undo (get_or (trail ++ undo ∷ []) k e)
        (sym (take_at zone (literal ∷ []) k last)) (sym (get_or_push zone literal d k last))
        (sym (get_or_push trail undo e k (are.many ∙ last))) is

-- one literal less, and what stood before it
pub trail_less : (limit : ℕ) (scores : List (Option Score)) (zone : List Literal)
    (trail : List Undo) (literal : Literal) (undo : Undo)
    → IsTrailOf limit scores (zone ++ literal ∷ []) (trail ++ undo ∷ [])
    → IsTrailOf limit scores zone trail × IsUndoOf limit scores zone literal undo
trail_less limit scores zone trail literal undo are =
    let many : length trail ≡ length zone = omega (
      arith,
      are.many,
      length-append zone (literal ∷ []),
      length-append trail (undo ∷ []),
    ) in
    let last : length zone < length (zone ++ literal ∷ []) = omega (
      arith,
      length-append zone (literal ∷ []),
    ) in (
      record {
        many = many;
        each = λ k d e below. undo_same limit scores (take k (zone ++ literal ∷ [])) (take k zone)
            (get_or (zone ++ literal ∷ []) k d) (get_or zone k d)
            (get_or (trail ++ undo ∷ []) k e) (get_or trail k e)
            (take-append-le k zone (literal ∷ []) (omega (arith, below)))
            (get_or_append_left zone (literal ∷ []) d k below)
            (get_or_append_left trail (undo ∷ []) e k (omega (arith, below, many)))
            (are.each k d e (omega (arith, below, last)));
      },
      undo_same limit scores (take (length zone) (zone ++ literal ∷ [])) zone
          (get_or (zone ++ literal ∷ []) (length zone) literal) literal
          (get_or (trail ++ undo ∷ []) (length zone) undo) undo
          (take_at zone (literal ∷ []) (length zone) refl)
          (get_or_push zone literal literal (length zone) refl)
          (get_or_push trail undo undo (length zone) many)
          (are.each (length zone) literal undo last),
    )

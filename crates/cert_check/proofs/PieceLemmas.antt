-- Pieces of a report over any grammar: the first stop among them is where reading them one after
-- another stops, and the pieces of asks are the asks one by one.
use Rattle.std.proofs.Common.{◌≡◌, ℕ, ◌+◌, List, [], ◌∷◌, ◌++◌, drop, map, Option, Some, None}
use Rattle.std.proofs.Common.{Bool, true, false, refl, sym, ap, ◌∙◌, if◌then◌else◌}
use Rattle.cert_check.specs.LineGrammars.{Ending, whole_at, bad_line, no_proof, short, ending_by}
use Rattle.cert_check.specs.inside.Pieces.{believing, unproved_in, first_found_of, first_among}
use Rattle.cert_check.specs.inside.Pieces.{first_stop, AnswerForm, WantedBy, PieceBy, CutBy}
use Rattle.cert_check.specs.inside.Pieces.{ending_at, grammar_of_piece, end_by, go_on_by, cut_of}
use Rattle.cert_check.specs.inside.Pieces.{cut_behind, judged_alone, rows_wanted, wanted_by_ask}
use Rattle.cert_check.specs.inside.Pieces.{wanted_by_asks, ending_of_asks, cut_of_asks}
use Rattle.cert_check.specs.inside.Pieces.{items_among, first_stop_of}
use Rattle.cert_check.proofs.MachineLemmas.{go_on_same, go_on_twice, nothing_due, first_unproved}
use Rattle.cert_check.proofs.MachineLemmas.{splits, named_alone, goes_on}

-- one piece more
piece_more : {Basis Due : Type 0} (alone : PieceBy Basis Due → Option ℕ) (piece : PieceBy Basis Due)
    (found : Option ℕ) (grammar : Ending) (reads : ℕ → ℕ → Ending)
    (rest : ℕ → ℕ → CutBy Basis Due) → alone piece ≡ found
    → ((to count : ℕ) → reads to count
    ≡ first_stop (first_among (map alone (rest to count).pieces)) (rest to count).ending)
    → go_on_by (first_stop found grammar) reads
    ≡ first_stop (first_among (map alone (cut_behind piece grammar rest).pieces))
    (cut_behind piece grammar rest).ending
piece_more alone piece None (whole_at to count) reads rest is later =
    let pieces = map alone (rest to count).pieces in
    later to count
    ∙ ap (λ it. first_stop (first_found_of it (first_among pieces)) (rest to count).ending) (sym is)
piece_more alone piece None (bad_line at) reads rest is later =
    ap (λ it. first_stop (first_found_of it None) (bad_line at)) (sym is)
piece_more alone piece None (no_proof at) reads rest is later =
    ap (λ it. first_stop (first_found_of it None) (no_proof at)) (sym is)
piece_more alone piece None short reads rest is later =
    ap (λ it. first_stop (first_found_of it None) short) (sym is)
piece_more alone piece (Some place) (whole_at to count) reads rest is later =
    let pieces = map alone (rest to count).pieces in
    ap (λ it. first_stop (first_found_of it (first_among pieces)) (rest to count).ending) (sym is)
piece_more alone piece (Some place) (bad_line at) reads rest is later =
    ap (λ it. first_stop (first_found_of it None) (bad_line at)) (sym is)
piece_more alone piece (Some place) (no_proof at) reads rest is later =
    ap (λ it. first_stop (first_found_of it None) (no_proof at)) (sym is)
piece_more alone piece (Some place) short reads rest is later =
    ap (λ it. first_stop (first_found_of it None) short) (sym is)

module _ {Basis Line Due : Type 0} (form : AnswerForm Basis Line Due) (lines : List Line) where
  -- ---- pieces

  -- what is wanted, read one after another
  abbrev pub ending_of_all : List (WantedBy Basis Due) → ℕ → ℕ → Ending
  ending_of_all [] at unsettled = whole_at at unsettled
  ending_of_all (wanted ∷ later) at unsettled =
      go_on_by (ending_at form lines wanted.basis at (wanted.due ∷ []) unsettled)
      (λ to found. ending_of_all later to found)

  -- the first stop among pieces is where reading them one after another stops
  pub pieces_stop : (wanted : List (WantedBy Basis Due)) (at unsettled : ℕ)
      → ending_of_all wanted at unsettled
      ≡ first_stop
      (first_among (map (judged_alone form lines) (cut_of form lines wanted at unsettled).pieces))
      (cut_of form lines wanted at unsettled).ending
  pieces_stop [] at unsettled = refl
  pieces_stop (wanted ∷ later) at unsettled =
      let grammar = form.grammar in
      let basis = wanted.basis in
      let here = drop at lines in
      let due = wanted.due ∷ [] in
      let reads : ℕ → ℕ → Ending = λ to count. ending_of_all later to count in
      ap (λ it. go_on_by it reads) (splits grammar basis here due at unsettled)
      ∙ piece_more (judged_alone form lines)
      (record {
        wanted = wanted;
        from = at;
        until = end_by lines (grammar_of_piece form lines wanted at unsettled);
      })
      (first_unproved grammar basis here due at)
      (ending_by (believing grammar) basis here due at unsettled) reads
      (λ to count. cut_of form lines later to count) (named_alone grammar basis here due at 0)
      (λ to count. pieces_stop later to count)

  -- ---- asks

  -- rows of an ask are read as one part, and then the rest
  rows_then : (basis : Basis) (ask row : ℕ) (dues : List Due) (later : List (WantedBy Basis Due))
      (at unsettled : ℕ)
      → ending_of_all (rows_wanted basis ask row dues ++ later) at unsettled
      ≡ go_on_by (ending_at form lines basis at dues unsettled)
      (λ to found. ending_of_all later to found)
  rows_then basis ask row [] later at unsettled =
      ap (λ it. go_on_by it (λ to found. ending_of_all later to found))
      (sym (nothing_due form.grammar basis (drop at lines) at unsettled))
  rows_then basis ask row (due ∷ dues) later at unsettled =
      let rest : ℕ → ℕ → Ending = λ to found. ending_of_all later to found in
      let first = ending_at form lines basis at (due ∷ []) unsettled in
      go_on_same first
      (λ to found. ending_of_all (rows_wanted basis ask (row + 1) dues ++ later) to found)
      (λ to found. go_on_by (ending_at form lines basis to dues found) rest)
      (λ to found. rows_then basis ask (row + 1) dues later to found)
      ∙ sym (go_on_twice first (λ to found. ending_at form lines basis to dues found) rest)
      ∙ ap (λ it. go_on_by it rest)
      (sym (goes_on form.grammar basis lines (due ∷ []) dues at unsettled))

  -- asks are read one after another: the row of each is the first of its rows
  asks_one_by_one : (ask : ℕ) (asks : List Basis) (at unsettled : ℕ)
      → ending_of_all (wanted_by_asks form ask asks) at unsettled
      ≡ ending_of_asks form lines asks at unsettled
  asks_one_by_one ask [] at unsettled = refl
  asks_one_by_one ask (basis ∷ later) at unsettled =
      ask_then basis ask (wanted_by_asks form (ask + 1) later) at unsettled
      ∙ go_on_same (ending_at form lines basis at (form.own ∷ form.rows basis) unsettled)
      (λ to found. ending_of_all (wanted_by_asks form (ask + 1) later) to found)
      (λ to found. ending_of_asks form lines later to found)
      (λ to found. asks_one_by_one (ask + 1) later to found)
    where
      -- what one ask wants is read as its part, and then the rest
      ask_then : (basis : Basis) (ask : ℕ) (later : List (WantedBy Basis Due)) (at unsettled : ℕ)
          → ending_of_all (wanted_by_ask form basis ask ++ later) at unsettled
          ≡ go_on_by (ending_at form lines basis at (form.own ∷ form.rows basis) unsettled)
          (λ to found. ending_of_all later to found)
      ask_then basis ask later at unsettled =
          let rest : ℕ → ℕ → Ending = λ to found. ending_of_all later to found in
          let rows = form.rows basis in
          let first = ending_at form lines basis at (form.own ∷ []) unsettled in
          go_on_same first
          (λ to found. ending_of_all (rows_wanted basis ask 0 rows ++ later) to found)
          (λ to found. go_on_by (ending_at form lines basis to rows found) rest)
          (λ to found. rows_then basis ask 0 rows later to found)
          ∙ sym (go_on_twice first (λ to found. ending_at form lines basis to rows found) rest)
          ∙ ap (λ it. go_on_by it rest)
          (sym (goes_on form.grammar basis lines (form.own ∷ []) rows at unsettled))

-- ---- items

module _ {Basis Line Due : Type 0} (form : AnswerForm Basis Line Due) (lines : List Line)
    (believed : (basis : Basis) (due : Due) → form.is_item due ≡ false → (behind : List Line)
    (at : ℕ) → unproved_in (ending_by form.grammar basis behind (due ∷ []) at 0) ≡ None) where
  -- a piece that is no item adds nothing to what is named
  piece_counts : (piece : PieceBy Basis Due) (items : List (PieceBy Basis Due)) (is : Bool)
      → form.is_item piece.wanted.due ≡ is
      → first_found_of (judged_alone form lines piece)
      (first_among (map (judged_alone form lines) items))
      ≡ first_among (map (judged_alone form lines) (if is then piece ∷ items else items))
  piece_counts piece items true is = refl
  piece_counts piece items false is =
      ap (λ it. first_found_of it (first_among (map (judged_alone form lines) items)))
      (believed piece.wanted.basis piece.wanted.due is (drop piece.from lines) piece.from)

  items_name : (pieces : List (PieceBy Basis Due))
      → first_among (map (judged_alone form lines) pieces)
      ≡ first_among (map (judged_alone form lines) (items_among form pieces))
  items_name [] = refl
  items_name (piece ∷ pieces) =
      ap (first_found_of (judged_alone form lines piece)) (items_name pieces)
      ∙ piece_counts piece (items_among form pieces) (form.is_item piece.wanted.due) refl

  -- the first stop of a report is where reading ask after ask stops
  pub first_stop_of_asks : (asks : List Basis)
      → ending_of_asks form lines asks 0 0
      ≡ first_stop_of form lines (cut_of_asks form lines asks)
  first_stop_of_asks asks =
      let cut = cut_of_asks form lines asks in
      sym (asks_one_by_one form lines 0 asks 0 0)
      ∙ pieces_stop form lines (wanted_by_asks form 0 asks) 0 0
      ∙ ap (λ found. first_stop found cut.ending) (items_name cut.pieces)

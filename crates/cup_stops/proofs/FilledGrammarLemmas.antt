-- A grammar in which not everything that is due can be met: where each line keeps what can, any
-- other due may be met by one line, whatever it is, and nothing changes for what is read.
use Rattle.std.proofs.Common.{◌≡◌, Bool, true, false, List, [], ◌∷◌, refl, sym, ap, ◌∙◌}
use Rattle.std.proofs.Common.{subst}
use Rattle.std.specs.Prelude.{if◌then◌else◌}
use Rattle.std.specs.List.{list_all}
use Rattle.std.proofs.lemmas.Bool.{and_parts}
use Rattle.cert_check.specs.LineGrammars.{Next, go, LineGrammar}
use Rattle.cert_check.specs.inside.LineParts.{PartGrammar, AreAllParts}
use Rattle.cert_check.proofs.LinePartLemmas.{ReadsParts}
use Rattle.cert_check.proofs.NextLemmas.{go-same, Parted}

-- one of two facts, by a test
abbrev pub FactBy : Bool → Type 0 → Type 0 → Type 0
FactBy true One Other = One
FactBy false One Other = Other

module _ {Basis Line Due : Type 0} (grammar : PartGrammar Basis Line Due) (basis : Basis)
    (is_met : Due → Bool) where
  -- the grammar reads line by line what its parts are: as ReadsParts, but that something may stand
  -- for what can be met alone, and each line leaves due what can be met
  pub record ReadsMetParts : Type 0 where
    pub joins : (proved : Bool) (due : Due) (line : Line) (holds : Bool) (more : List Due)
        (lines : List Line) → grammar.counts line ≡ true
        → grammar.reads.after basis due line ≡ go holds more → (proved ≡ true → holds ≡ true)
        → AreAllParts grammar proved basis more lines
        → grammar.IsPart proved basis due (line ∷ lines)
    pub starts : (proved : Bool) (due : Due) (lines : List Line)
        → grammar.IsPart proved basis due lines
        → Parted grammar proved basis (grammar.reads.after basis) due lines
    pub some : (due : Due) → is_met due ≡ true
        → (lines : List Line) × grammar.IsPart false basis due lines
    pub passed : (due : Due) (line : Line) → grammar.counts line ≡ false
        → grammar.reads.after basis due line ≡ go true (due ∷ [])
    pub no_row : (line : Line) → grammar.counts line ≡ false
        → grammar.reads.is_unsettled line ≡ false
    pub keeps : (due : Due) (line : Line) (holds : Bool) (more : List Due) → is_met due ≡ true
        → grammar.reads.after basis due line ≡ go holds more → list_all is_met more ≡ true
    pub some_line : Line
    pub counted : grammar.counts some_line ≡ true

  -- what any line leaves due that may stand for everything
  abbrev pub after_any : Due → Line → Next Due
  after_any due line = if grammar.counts line then go true [] else go true (due ∷ [])

  -- one line that counts
  abbrev pub IsAnyLine : List Line → Type 0
  IsAnyLine lines = (line : Line) × (grammar.counts line ≡ true) × (lines ≡ line ∷ [])

  -- the same grammar, but that any line that counts meets what cannot be met
  abbrev pub filled_reads : LineGrammar Basis Line Due
  filled_reads = record {
    after =
        λ own due line.
        if is_met due then grammar.reads.after own due line else after_any due line;
    is_unsettled = grammar.reads.is_unsettled;
  }

  abbrev pub filled : PartGrammar Basis Line Due
  filled = record {
    reads = filled_reads;
    counts = grammar.counts;
    IsPart =
        λ proved own due lines.
        FactBy (is_met due) (grammar.IsPart proved own due lines) (IsAnyLine lines);
  }

  -- what can be met is read alike
  pub met_after : (due : Due) (line : Line) → is_met due ≡ true
      → filled_reads.after basis due line ≡ grammar.reads.after basis due line
  met_after due line met =
      ap (λ it. if it then grammar.reads.after basis due line else after_any due line) met

  -- ---- parts

  pub to_filled : (proved : Bool) (dues : List Due) (lines : List Line)
      → list_all is_met dues ≡ true → AreAllParts grammar proved basis dues lines
      → AreAllParts filled proved basis dues lines
  to_filled proved [] lines met parts = parts
  to_filled proved (due ∷ dues) lines met parts =
      let both = and_parts (is_met due) (list_all is_met dues) met in
      let P : Bool → Type 0 =
      λ it. FactBy it (grammar.IsPart proved basis due parts.0) (IsAnyLine parts.0) in (
        parts.0,
        parts.1,
        subst P (sym both.0) parts.2,
        to_filled proved dues parts.1 both.1 parts.3,
        parts.4,
      )

  pub of_filled : (proved : Bool) (dues : List Due) (lines : List Line)
      → list_all is_met dues ≡ true → AreAllParts filled proved basis dues lines
      → AreAllParts grammar proved basis dues lines
  of_filled proved [] lines met parts = parts
  of_filled proved (due ∷ dues) lines met parts =
      let both = and_parts (is_met due) (list_all is_met dues) met in
      let P : Bool → Type 0 =
      λ it. FactBy it (grammar.IsPart proved basis due parts.0) (IsAnyLine parts.0) in (
        parts.0,
        parts.1,
        subst P both.0 parts.2,
        of_filled proved dues parts.1 both.1 parts.3,
        parts.4,
      )

module _ {Basis Line Due : Type 0} (grammar : PartGrammar Basis Line Due) (basis : Basis)
    (is_met : Due → Bool) (agrees : ReadsMetParts grammar basis is_met) where
  -- the grammar that is filled up
  abbrev whole : PartGrammar Basis Line Due
  whole = filled grammar basis is_met

  any_next : Due → Line → Next Due
  any_next due line = after_any grammar basis is_met due line

  -- ---- a line

  filled_joins : (proved : Bool) (due : Due) (line : Line) (holds : Bool) (more : List Due)
      (lines : List Line) → grammar.counts line ≡ true
      → whole.reads.after basis due line ≡ go holds more → (proved ≡ true → holds ≡ true)
      → AreAllParts whole proved basis more lines → whole.IsPart proved basis due (line ∷ lines)
  filled_joins proved due line holds more lines counted goes so parts =
      by_test (is_met due) refl goes
    where
      by_test : (test : Bool) → is_met due ≡ test
          → (if test then grammar.reads.after basis due line
          else after_any grammar basis is_met due line) ≡ go holds more
          → FactBy test (grammar.IsPart proved basis due (line ∷ lines))
          (IsAnyLine grammar basis is_met (line ∷ lines))
      by_test true met goes =
          agrees.joins proved due line holds more lines counted goes so
          (of_filled grammar basis is_met proved more lines
          (agrees.keeps due line holds more met goes) parts)
      by_test false met goes =
          let ends : go true [] ≡ go holds more =
          sym (ap (λ it. if it then go true [] else go true (due ∷ [])) counted) ∙ goes in
          let P : List Due → Type 0 = λ it. AreAllParts whole proved basis it lines in
          let none : lines ≡ [] = subst P (sym (go-same true holds [] more ends).1) parts in
          (line, counted, ap (λ it. line ∷ it) none)

  filled_starts : (proved : Bool) (due : Due) (lines : List Line)
      → whole.IsPart proved basis due lines
      → Parted whole proved basis (whole.reads.after basis) due lines
  filled_starts proved due lines part = by_test (is_met due) refl part
    where
      by_test : (test : Bool) → is_met due ≡ test
          → FactBy test (grammar.IsPart proved basis due lines)
          (IsAnyLine grammar basis is_met lines)
          → Parted whole proved basis (whole.reads.after basis) due lines
      by_test true met part =
          let it = agrees.starts proved due lines part in (
            it.0,
            it.1,
            it.2,
            it.3,
            it.4,
            met_after grammar basis is_met due it.0 met ∙ it.5,
            it.6,
            it.7,
            to_filled grammar basis is_met proved it.3 it.1
                (agrees.keeps due it.0 it.2 it.3 met it.5) it.8,
          )
      by_test false met part = (
        part.0,
        [],
        true,
        [],
        part.2,
        ap (λ it. if it then grammar.reads.after basis due part.0
            else after_any grammar basis is_met due part.0) met
            ∙ ap (λ it. if it then go true [] else go true (due ∷ [])) part.1,
        λ _. refl,
        part.1,
        refl,
      )

  -- ---- the rest

  filled_some : (due : Due) → (lines : List Line) × whole.IsPart false basis due lines
  filled_some due = by_test (is_met due) refl
    where
      by_test : (test : Bool) → is_met due ≡ test
          → (lines : List Line)
          × FactBy test (grammar.IsPart false basis due lines)
          (IsAnyLine grammar basis is_met lines)
      by_test true met = agrees.some due met
      by_test false met =
          (agrees.some_line ∷ [], (agrees.some_line, agrees.counted, refl))

  filled_passed : (due : Due) (line : Line) → grammar.counts line ≡ false
      → whole.reads.after basis due line ≡ go true (due ∷ [])
  filled_passed due line passed = by_test (is_met due)
    where
      by_test : (test : Bool)
          → (if test then grammar.reads.after basis due line
          else after_any grammar basis is_met due line) ≡ go true (due ∷ [])
      by_test true = agrees.passed due line passed
      by_test false = ap (λ it. if it then go true [] else go true (due ∷ [])) passed

  -- so all of it can be met, and it reads what its parts are
  pub reads_filled : ReadsParts whole basis
  reads_filled = record {
    joins = filled_joins;
    starts = filled_starts;
    some = filled_some;
    passed = filled_passed;
    no_row = agrees.no_row;
  }

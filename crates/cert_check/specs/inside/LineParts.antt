-- What lines are by parts, over any grammar: which may stand for what is due; and by these words
-- where a reading stops.
use Rattle.std.specs.Prelude.{◌≡◌, ◌<◌, ℕ, ◌+◌, Bool, true, false, List, [], ◌∷◌, ◌++◌, length}
use Rattle.std.specs.Prelude.{filter, if◌then◌else◌}
use Rattle.cert_check.specs.LineGrammars.{LineGrammar, go}

-- a grammar with its parts: which lines count, and which may stand for something due; proved, they
-- prove it
pub record PartGrammar (Basis Line Due : Type 0) : Type 1 where
  pub reads : LineGrammar Basis Line Due
  pub counts : Line → Bool
  pub IsPart : Bool → Basis → Due → List Line → Type 0

-- the lines are parts for what is due, one after another
abbrev pub AreAllParts : {Basis Line Due : Type 0} → PartGrammar Basis Line Due → Bool → Basis
    → List Due → List Line → Type 0
AreAllParts grammar proved basis [] lines = lines ≡ []
AreAllParts {Basis} {Line} grammar proved basis (due ∷ dues) lines =
    (front : List Line) × (back : List Line) × grammar.IsPart proved basis due front
    × AreAllParts grammar proved basis dues back × (lines ≡ front ++ back)

-- so many unsettled rows with those of these lines
abbrev pub unsettled_with : {Line : Type 0} → (Line → Bool) → ℕ → List Line → ℕ
unsettled_with is_unsettled unsettled [] = unsettled
unsettled_with is_unsettled unsettled (line ∷ lines) =
    unsettled_with is_unsettled (if is_unsettled line then unsettled + 1 else unsettled) lines

-- each of these lines may come and proves what it says, and this is due after them
abbrev pub LeavesDue : {Basis Line Due : Type 0} → LineGrammar Basis Line Due → Basis
    → List Line → List Due → List Due → Type 0
LeavesDue grammar basis [] dues left = dues ≡ left
LeavesDue grammar basis (line ∷ lines) [] left = ⊥
LeavesDue {Basis} {Line} {Due} grammar basis (line ∷ lines) (due ∷ dues) left =
    (more : List Due) × (grammar.after basis due line ≡ go true more)
    × LeavesDue grammar basis lines (more ++ dues) left

-- the lines begin what is due, as the parts say
abbrev pub Begins : {Basis Line Due : Type 0} → PartGrammar Basis Line Due → Basis → List Due
    → List Line → Type 0
Begins {Basis} {Line} grammar basis dues lines =
    (rest : List Line) × AreAllParts grammar false basis dues (filter grammar.counts lines ++ rest)

-- the line at this position does not fit: the lines before it begin what is due, each of them
-- proves what it says, something is still due, and with this line they begin it no longer
pub record IsBadLineAt {Basis Line Due : Type 0} (grammar : PartGrammar Basis Line Due)
    (basis : Basis) (lines : List Line) (dues : List Due) (at : ℕ) : Type 0
  where
    pub before : List Line
    pub bad_one : Line
    pub later : List Line
    pub left : List Due
    pub parts : lines ≡ before ++ bad_one ∷ later
    pub place : at ≡ length before
    pub due : 0 < length left
    pub passed : LeavesDue grammar.reads basis before dues left
    pub begins : Begins grammar basis dues before
    pub ends : ¬ Begins grammar basis dues (before ++ bad_one ∷ [])

-- the line at this position fits, and is the first that does not prove what it says
pub record IsUnprovedAt {Basis Line Due : Type 0} (grammar : PartGrammar Basis Line Due)
    (basis : Basis) (lines : List Line) (dues : List Due) (at : ℕ) : Type 0
  where
    pub before : List Line
    pub unproved : Line
    pub later : List Line
    pub due : Due
    pub left : List Due
    pub more : List Due
    pub parts : lines ≡ before ++ unproved ∷ later
    pub place : at ≡ length before
    pub passed : LeavesDue grammar.reads basis before dues (due ∷ left)
    pub fails : grammar.reads.after basis due unproved ≡ go false more
    pub begins : Begins grammar basis dues (before ++ unproved ∷ [])

-- the lines are too few: each of them proves what it says, they begin what is due, and something is
-- still due after them
pub record AreTooFew {Basis Line Due : Type 0} (grammar : PartGrammar Basis Line Due)
    (basis : Basis) (lines : List Line) (dues : List Due) : Type 0
  where
    pub left : List Due
    pub due : 0 < length left
    pub passed : LeavesDue grammar.reads basis lines dues left
    pub begins : Begins grammar basis dues lines

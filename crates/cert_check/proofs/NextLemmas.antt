-- Plain facts: what a line that goes on says, and lists of parts that stand one after another.
use Rattle.std.proofs.Common.{◌≡◌, Bool, true, false, List, [], ◌∷◌, ◌++◌, refl, sym, ap, ◌∙◌}
use Rattle.std.proofs.Common.{subst, append_assoc, append-nil}
use Rattle.std.specs.Prelude.{if◌then◌else◌}
use Rattle.cert_check.specs.LineGrammars.{Next, bad, go}
use Rattle.cert_check.specs.inside.LineParts.{PartGrammar, AreAllParts}

module _ {Due : Type 0} where
  -- two lines that go on so go on alike
  pub go-same : (holds other : Bool) (more others : List Due) → go holds more ≡ go other others
      → (holds ≡ other) × (more ≡ others)
  go-same holds other more others same = (cc, cc)

  -- a line that may not come does not go on
  pub bad-go : (holds : Bool) (more : List Due) → bad ≡ go holds more → ⊥
  bad-go holds more same = cc

  -- if a line goes on under a test, the test was true
  pub go-if : (test : Bool) (next : Next Due) (holds : Bool) (more : List Due)
      → (if test then next else bad) ≡ go holds more → (test ≡ true) × (next ≡ go holds more)
  go-if true next holds more same = (refl, same)
  go-if false next holds more same = absurd (bad-go holds more same)

  -- under a test that is true the line goes on
  pub if-go : (test : Bool) (next : Next Due) → test ≡ true → (if test then next else bad) ≡ next
  if-go test next holds = rw holds refl

module _ {Basis Line Due : Type 0} (grammar : PartGrammar Basis Line Due) (proved : Bool)
    (basis : Basis) where
  -- one thing due is one part
  pub only_part : (due : Due) (lines : List Line)
      → AreAllParts grammar proved basis (due ∷ []) lines → grammar.IsPart proved basis due lines
  only_part due lines parts =
      let all : lines ≡ parts.0 =
      parts.4 ∙ ap (λ back. parts.0 ++ back) parts.3 ∙ append-nil parts.0 in
      subst (grammar.IsPart proved basis due) (sym all) parts.2

  -- one part is one thing due
  pub as_only_part : (due : Due) (lines : List Line) → grammar.IsPart proved basis due lines
      → AreAllParts grammar proved basis (due ∷ []) lines
  as_only_part due lines part = (lines, [], part, refl, sym (append-nil lines))

  -- parts for two lists of things due, one after another
  pub parts-join : (more dues : List Due) (front back : List Line)
      → AreAllParts grammar proved basis more front → AreAllParts grammar proved basis dues back
      → AreAllParts grammar proved basis (more ++ dues) (front ++ back)
  parts-join [] dues front back ends parts =
      let P : List Line → Type 0 = λ it. AreAllParts grammar proved basis dues (it ++ back) in
      subst P (sym ends) parts
  parts-join (due ∷ more) dues front back ends parts = (
    ends.0,
    ends.1 ++ back,
    ends.2,
    parts-join more dues ends.1 back ends.3 parts,
    ap (λ it. it ++ back) ends.4 ∙ append_assoc ends.0 ends.1 back,
  )

  -- lines that are parts for two lists fall into two
  pub parts-split : (more dues : List Due) (lines : List Line)
      → AreAllParts grammar proved basis (more ++ dues) lines
      → (front : List Line) × (back : List Line) × AreAllParts grammar proved basis more front
      × AreAllParts grammar proved basis dues back × (lines ≡ front ++ back)
  parts-split [] dues lines parts = ([], lines, refl, parts, refl)
  parts-split (due ∷ more) dues lines parts =
      let rest = parts-split more dues parts.1 parts.3 in (
        parts.0 ++ rest.0,
        rest.1,
        (parts.0, rest.0, parts.2, rest.2, refl),
        rest.3,
        parts.4 ∙ ap (λ it. parts.0 ++ it) rest.4 ∙ sym (append_assoc parts.0 rest.0 rest.1),
      )

  -- the first line of a part, what it leaves due, and that the other lines are that
  abbrev pub Parted : (Due → Line → Next Due) → Due → List Line → Type 0
  Parted after due lines =
      (line : Line) × (rest : List Line) × (holds : Bool) × (more : List Due)
      × (lines ≡ line ∷ rest) × (after due line ≡ go holds more)
      × (proved ≡ true → holds ≡ true) × (grammar.counts line ≡ true)
      × AreAllParts grammar proved basis more rest

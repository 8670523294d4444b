-- A list of trees that are adopted, the last first: what becomes of the questions, and that the
-- pool stays sound.
use Rattle.std.proofs.Common.{◌≡◌, ℕ, zero, suc, ◌<◌, List, [], ◌∷◌, ◌++◌, length, map, Option}
use Rattle.std.proofs.Common.{Some, None, refl, sym, ap, ◌∙◌, set, subst, arith, get_or}
use Rattle.std.proofs.Common.{length-append}
use Rattle.std.specs.Prelude.{IfSome}
use Rattle.std.specs.List.{slice_get}
use Rattle.std.proofs.lemmas.List.{length-set}
use Rattle.std.proofs.lemmas.Option.{none-some, same_Some, slice_get-get_or}
use Rattle.league_core.specs.declared.sheet.Sheet.{Sheet}
use Rattle.league_core.specs.declared.question.Question.{Question}
use Rattle.league_core.specs.game.Results.{Results}
use Rattle.league_core.specs.search.Trees.{Tree}
use Rattle.league_core.specs.inside.Lending.{lent_zones}
use Rattle.league_core.proofs.plain.Slots.{All-at, found_at, slice_get-set_other}
use Rattle.tree_reuse.specs.Asked.{IsAskedTree}
use Rattle.branch_pool.specs.declared.question_state.QuestionState.{QuestionState}
use Rattle.branch_pool.specs.inside.States.{PoolView, loan_at, present_epoch}
use Rattle.branch_pool.specs.inside.Steps.{seat_adopted}
use Rattle.branch_pool.specs.inside.Adoptions.{AreAdoptable, MayAdoptAll, MayBeAdopted}
use Rattle.branch_pool.specs.inside.Adoptions.{pool_adopted, seat_adopted_if, seats_adopted}
use Rattle.branch_pool.specs.inside.Goodness.{IsSoundPool, IsGoodSeat, zones_due}
use Rattle.branch_pool.proofs.AdoptLemmas.{adopted_good, adopted_due}
use Rattle.branch_pool.proofs.GoodLemmas.{asked_there, seat_question, sound_places}

-- ---- one tree after the other

-- a place without a tree at the end changes nothing
seats-none : (sheet : Sheet) (season : Results) (seats : List QuestionState)
    (trees : List (Option Tree))
    → seats_adopted sheet season seats trees
    ≡ seats_adopted sheet season seats (trees ++ None ∷ [])
seats-none sheet season [] [] = refl
seats-none sheet season [] (tree ∷ trees) = refl
seats-none sheet season (seat ∷ seats) [] = refl
seats-none sheet season (seat ∷ seats) (None ∷ trees) =
    ap (λ rest. seat ∷ rest) (seats-none sheet season seats trees)
seats-none sheet season (seat ∷ seats) (Some tree ∷ trees) =
    ap (λ rest. seat_adopted sheet season tree seat ∷ rest)
    (seats-none sheet season seats trees)

-- a tree at the end may be adopted before the others
seats-some : (sheet : Sheet) (season : Results) (seats : List QuestionState)
    (trees : List (Option Tree)) (tree : Option Tree) (seat : QuestionState)
    → slice_get seats (length trees) ≡ Some seat
    → seats_adopted sheet season
    (set seats (length trees) (seat_adopted_if sheet season tree seat)) trees
    ≡ seats_adopted sheet season seats (trees ++ tree ∷ [])
seats-some sheet season [] [] tree seat found = absurd (none-some seat found)
seats-some sheet season [] (other ∷ trees) tree seat found = absurd (none-some seat found)
seats-some sheet season (first ∷ seats) [] tree seat found =
    ap (λ s. seat_adopted_if sheet season tree s ∷ seats) (sym (same_Some first seat found))
seats-some sheet season (first ∷ seats) (None ∷ trees) tree seat found =
    ap (λ rest. first ∷ rest) (seats-some sheet season seats trees tree seat found)
seats-some sheet season (first ∷ seats) (Some other ∷ trees) tree seat found =
    ap (λ rest. seat_adopted sheet season other first ∷ rest)
    (seats-some sheet season seats trees tree seat found)

-- the last of a list stands at its end, and the others where they stood
slice_get-last : (trees : List (Option Tree)) (tree : Option Tree)
    → slice_get (trees ++ tree ∷ []) (length trees) ≡ Some tree
slice_get-last [] tree = refl
slice_get-last (other ∷ trees) tree = slice_get-last trees tree

-- what stands in a list stands there with one more at its end
slice_get-before : (trees : List (Option Tree)) (tree own : Option Tree) (place : ℕ)
    → slice_get trees place ≡ Some own
    → (place < length trees) × (slice_get (trees ++ tree ∷ []) place ≡ Some own)
slice_get-before [] tree own place is = absurd (none-some own is)
slice_get-before (other ∷ trees) tree own zero is = (omega arith, is)
slice_get-before (other ∷ trees) tree own (suc place) is =
    let rest = slice_get-before trees tree own place is in
    let within = rest.0 in
    (omega (arith, within), rest.1)

-- how far the trees of a list are adopted: with those that are left the questions become what they
-- were to become with all
pub record AreLeft (sheet : Sheet) (season : Results) (first : List QuestionState)
    (all : List (Option Tree)) (seats : List QuestionState) (trees : List (Option Tree))
    : Type 0 where
  pub same : seats_adopted sheet season seats trees ≡ seats_adopted sheet season first all
  pub adoptable : AreAdoptable sheet seats trees

-- the question at the place of the last tree is there, and is one for the tree
pub record IsLast (sheet : Sheet) (seats : List QuestionState) (rest : List (Option Tree))
    (tree : Option Tree) : Type 0 where
  pub within : length rest < length seats
  pub own : (seat : QuestionState) → slice_get seats (length rest) ≡ Some seat
      → IfSome tree (λ it. MayBeAdopted sheet it seat)

-- so it is if the trees may be adopted
pub last_left : (sheet : Sheet) (seats : List QuestionState) (trees rest : List (Option Tree))
    (tree : Option Tree) → AreAdoptable sheet seats trees → trees ≡ rest ++ tree ∷ []
    → IsLast sheet seats rest tree
last_left sheet seats trees rest tree adoptable is = record {
  within = omega (arith, adoptable.few, ap length is, length-append rest (tree ∷ []));
  own = λ seat found. by tree is seat found;
}
  where
    by : (last : Option Tree) → trees ≡ rest ++ last ∷ [] → (seat : QuestionState)
        → slice_get seats (length rest) ≡ Some seat
        → IfSome last (λ it. MayBeAdopted sheet it seat)
    by None same seat found = tt
    by (Some it) same seat found =
        subst (λ (one : Option QuestionState). IfSome one (MayBeAdopted sheet it)) found
        (adoptable.each (length rest) it
        (ap (λ (list : List (Option Tree)). slice_get list (length rest)) same
        ∙ slice_get-last rest (Some it)))

-- it is the one that is read there
pub seat_last : (seats : List QuestionState) (rest : List (Option Tree)) (place : ℕ)
    (seat : QuestionState) → place ≡ length rest → length rest < length seats
    → seat ≡ get_or seats place seat → slice_get seats (length rest) ≡ Some seat
seat_last seats rest place seat at within read =
    found_at seats (length rest) seat within
    (subst (λ (n : ℕ). seat ≡ get_or seats n seat) at read)

-- then the others are left
pub left_after : (sheet : Sheet) (season : Results) (first seats : List QuestionState)
    (all trees rest : List (Option Tree)) (tree : Option Tree) (seat new : QuestionState)
    → AreLeft sheet season first all seats trees → trees ≡ rest ++ tree ∷ []
    → slice_get seats (length rest) ≡ Some seat → new ≡ seat_adopted_if sheet season tree seat
    → AreLeft sheet season first all (set seats (length rest) new) rest
left_after sheet season first seats all trees rest tree seat new left is found made = record {
  same = ap (λ (s : QuestionState). seats_adopted sheet season (set seats (length rest) s) rest)
      made
      ∙ seats-some sheet season seats rest tree seat found
      ∙ ap (seats_adopted sheet season seats) (sym is) ∙ left.same;
  adoptable = record {
    few = let within = (last_left sheet seats trees rest tree left.adoptable is).within in
        let long = length-set seats (length rest) new in
        omega (arith, within, long);
    each = λ place own at.
        let there = slice_get-before rest tree (Some own) place at in
        let within = there.0 in
        subst (λ (one : Option QuestionState). IfSome one (MayBeAdopted sheet own))
        (sym (slice_get-set_other seats (length rest) place new
        (λ same. omega (arith, within, same))))
        (left.adoptable.each place own
        (ap (λ (list : List (Option Tree)). slice_get list place) is ∙ there.1));
  };
}

-- ---- the pool

-- a list of trees that a pool may adopt
pub may_be_adopted : (pool : PoolView) (trees : List (Option Tree)) → IsSoundPool pool
    → MayAdoptAll pool trees → AreAdoptable pool.sheet pool.seats trees
may_be_adopted pool trees sound may = record {
  few = omega (arith, may.few, sound_places pool sound);
  each = λ place tree own. by place tree own (slice_get pool.seats place) refl;
}
  where
    by : (place : ℕ) (tree : Tree) → slice_get trees place ≡ Some (Some tree)
        → (found : Option QuestionState) → slice_get pool.seats place ≡ found
        → IfSome found (MayBeAdopted pool.sheet tree)
    by place tree own None at = tt
    by place tree own (Some seat) at = record {
      club = (seat_question pool place seat sound at).club;
      asked = subst (λ (one : Option Question).
          IfSome one (λ q. IsAskedTree pool.sheet q tree)) (asked_there pool place seat sound at)
          (may.asked place tree own);
    }

-- the questions stay
asked-adopted : (sheet : Sheet) (season : Results) (seats : List QuestionState)
    (trees : List (Option Tree))
    → map (λ (s : QuestionState). s.question) (seats_adopted sheet season seats trees)
    ≡ map (λ (s : QuestionState). s.question) seats
asked-adopted sheet season [] [] = refl
asked-adopted sheet season [] (tree ∷ trees) = refl
asked-adopted sheet season (seat ∷ seats) [] = refl
asked-adopted sheet season (seat ∷ seats) (None ∷ trees) =
    ap (λ qs. seat.question ∷ qs) (asked-adopted sheet season seats trees)
asked-adopted sheet season (seat ∷ seats) (Some tree ∷ trees) =
    ap (λ qs. seat.question ∷ qs) (asked-adopted sheet season seats trees)

-- there are as many questions
length-adopted : (sheet : Sheet) (season : Results) (seats : List QuestionState)
    (trees : List (Option Tree))
    → length (seats_adopted sheet season seats trees) ≡ length seats
length-adopted sheet season [] [] = refl
length-adopted sheet season [] (tree ∷ trees) = refl
length-adopted sheet season (seat ∷ seats) [] = refl
length-adopted sheet season (seat ∷ seats) (tree ∷ trees) =
    ap suc (length-adopted sheet season seats trees)

-- what a question that adopted its tree, if it has one, was before
record WasBefore (sheet : Sheet) (season : Results) (seats : List QuestionState)
    (trees : List (Option Tree)) (place : ℕ) (new : QuestionState) : Type 0 where
  seat : QuestionState
  tree : Option Tree
  found : slice_get seats place ≡ Some seat
  own : IfSome tree (λ it. slice_get trees place ≡ Some (Some it))
  is : seat_adopted_if sheet season tree seat ≡ new

-- each was one before
was_before : (sheet : Sheet) (season : Results) (seats : List QuestionState)
    (trees : List (Option Tree)) (place : ℕ) (new : QuestionState)
    → slice_get (seats_adopted sheet season seats trees) place ≡ Some new
    → WasBefore sheet season seats trees place new
was_before sheet season [] [] place new found = absurd (none-some new found)
was_before sheet season [] (tree ∷ trees) place new found = absurd (none-some new found)
was_before sheet season (seat ∷ seats) [] place new found =
    record { seat = new; tree = None; found = found; own = tt; is = refl }
was_before sheet season (seat ∷ seats) (None ∷ trees) zero new found =
    record { seat = seat; tree = None; found = refl; own = tt; is = same_Some seat new found }
was_before sheet season (seat ∷ seats) (Some tree ∷ trees) zero new found = record {
  seat = seat;
  tree = Some tree;
  found = refl;
  own = refl;
  is = same_Some (seat_adopted sheet season tree seat) new found;
}
was_before sheet season (seat ∷ seats) (tree ∷ trees) (suc place) new found =
    let rest = was_before sheet season seats trees place new found in
    record {
      seat = rest.seat;
      tree = rest.tree;
      found = rest.found;
      own = rest.own;
      is = rest.is;
    }

-- the pool with what its season leaves of a list of trees is sound
pub all_adopted_sound : (old : PoolView) (trees : List (Option Tree)) → IsSoundPool old
    → MayAdoptAll old trees → IsSoundPool (pool_adopted old trees)
all_adopted_sound old trees sound may = record {
  limits = sound.limits;
  season = sound.season;
  events = sound.events;
  most_events = sound.most_events;
  asked = asked-adopted old.sheet old.season old.seats trees ∙ sound.asked;
  questions = sound.questions;
  most_questions = sound.most_questions;
  seats = λ place d within. (facts place _ (slice_get-get_or after place d within)).0;
  loans = rw (length-adopted old.sheet old.season old.seats trees) sound.loans;
  due = λ number place seat found. (facts place seat found).1 number;
}
  where
    after : List QuestionState
    after = seats_adopted old.sheet old.season old.seats trees

    Good : ℕ → QuestionState → Type 0
    Good place new =
        IsGoodSeat old.sheet old.season new
        × ((number : ℕ) → lent_zones number [] new.tree
        ≡ zones_due (present_epoch old) place (loan_at old.loans number))

    by : (place : ℕ) (seat : QuestionState) (tree : Option Tree)
        → slice_get old.seats place ≡ Some seat
        → IfSome tree (λ it. slice_get trees place ≡ Some (Some it))
        → Good place (seat_adopted_if old.sheet old.season tree seat)
    by place seat None found own = (
      All-at (IsGoodSeat old.sheet old.season) old.seats place seat sound.seats found,
      λ number. sound.due number place seat found,
    )
    by place seat (Some tree) found own =
        let asked = subst (λ (one : Option QuestionState).
        IfSome one (MayBeAdopted old.sheet tree)) found
        ((may_be_adopted old trees sound may).each place tree own) in (
          adopted_good old place tree seat sound may.home found asked.asked,
          λ number. adopted_due old tree seat number place may.home,
        )

    facts : (place : ℕ) (new : QuestionState) → slice_get after place ≡ Some new
        → Good place new
    facts place new found =
        let was = was_before old.sheet old.season old.seats trees place new found in
        subst (Good place) was.is (by place was.seat was.tree was.found was.own)

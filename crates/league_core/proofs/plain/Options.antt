-- General facts on what may be there, and on calls that may fail.
use Rattle.std.proofs.Common.{Bool, Err, IfNone, IfSome, IsSome, MatchOption, None, Ok, Option}
use Rattle.std.proofs.Common.{Result, Some, false, is_some, refl, true, ℕ, ◌≡◌}
use Rattle.std.specs.Bool.{OnTrue}
use Rattle.std.specs.Prelude.{IfOk, MatchBool, OnErr, OnOk}
use Rattle.std.specs.Result.{is_err}
use Rattle.std.proofs.lemmas.Bool.{OnTrue_at, OnTrue_from, false≢true}

-- what holds anyhow holds of a call that failed
pub err-holds : {A E : Type 0} (result : Result A E) (P : Type 0) → P → OnErr result P
err-holds (Ok done) P holds = tt
err-holds (Err stop) P holds = holds

-- what is said of what is there
pub where_some : {A : Type 0} (found : Option A) (none : Type 0) (some : A → Type 0)
    → MatchOption found none some → IfSome found some
where_some None none some said = tt
where_some (Some x) none some said = said

-- if proofs are not asked for, nothing has to hold
pub OnTrue-false : (P : Type 0) → OnTrue false P
OnTrue-false P = OnTrue_from false P (λ it. absurd (false≢true it))

-- what holds if a test is true gives what follows from it
pub OnTrue-weaker : (test : Bool) (P Q : Type 0) → (P → Q) → OnTrue test P → OnTrue test Q
OnTrue-weaker test P Q follows holds =
    OnTrue_from test Q (λ it. follows (OnTrue_at {b = test} {P = P} it holds))

-- what holds of a call that is done, if it is no error
pub ok-holds : {A E : Type 0} (result : Result A E) (P : Type 0) → is_err result ≡ false
    → OnOk result P → P
ok-holds (Ok done) P is holds = holds
ok-holds (Err stop) P is holds = cc

-- two facts of what an `Ok` has give a third
pub both_ok : {A E : Type 0} (r : Result A E) (P Q R : A → Type 0)
    → ((x : A) → P x → Q x → R x) → IfOk r P → IfOk r Q → IfOk r R
both_ok (Ok x) P Q R gives one other = gives x one other
both_ok (Err e) P Q R gives one other = tt

pub some_is : {X : Type 0} (o : Option X) → is_some o ≡ true → IsSome o
some_is None is = absurd (false≢true is)
some_is (Some x) is = refl

pub none_there : {A : Type 0} (found : Option A) → is_some found ≡ false → found ≡ None
none_there None is = refl
none_there (Some value) is = cc

-- what holds of none, if there is not some
pub none_from : (o : Option ℕ) (P : Type 0) → ((x : ℕ) → o ≡ Some x → ⊥) → IfNone o P → P
none_from None P not_some holds = holds
none_from (Some x) P not_some holds = absurd (not_some x refl)

-- a fact by cases on a test
pub match_bool : (b : Bool) (A B P : Type 0) → MatchBool b A B → (b ≡ true → A → P)
    → (b ≡ false → B → P) → P
match_bool true A B P fact when unless = when refl fact
match_bool false A B P fact when unless = unless refl fact

-- The status of a run in which no device failed.
use Rattle.std.proofs.Common.{◌≡◌, ◌≢◌, ℕ, Bool, List, Option, Some, None, refl, sym, inl, inr}
use Rattle.run_ends.specs.declared.status.Status.{Status}
use Rattle.run_ends.specs.declared.status.Status.TheVariants.{Done, BadWords, BadSheet, BadFeed}
use Rattle.run_ends.specs.declared.status.Status.TheVariants.{ReadFault, WriteFault, OutOfMemory}
use Rattle.run_ends.specs.declared.status.Status.TheVariants.{NotProved, TooLong}
use Rattle.run_ends.specs.Texts.{SessionKind}
use Rattle.run_ends.specs.Runs.{IsEarned, IsSettled, Serves}
use Rattle.run_ends.specs.inside.RunTurns.{MayEndSession}

-- it is that of the session, or of some input, where there is one for each status that a session
-- may have
pub settled-by : {Play : Type 0} (kind : SessionKind Play) → IsEarned kind Done
    → IsEarned kind BadSheet → IsEarned kind BadFeed → IsEarned kind TooLong
    → (input left : Option (List ℕ)) (told : Bool) (old new : Option (List ℕ)) (status : Status)
    → Serves kind input left told old new status → MayEndSession status
    → status ≢ ReadFault → status ≢ WriteFault → IsSettled kind input status
settled-by kind done sheet feed long None left told old new Done serves may read write = inl done
settled-by kind done sheet feed long None left told old new BadWords serves may read write =
    absurd may
settled-by kind done sheet feed long None left told old new BadSheet serves may read write =
    inl sheet
settled-by kind done sheet feed long None left told old new BadFeed serves may read write =
    inl feed
settled-by kind done sheet feed long None left told old new ReadFault serves may read write =
    absurd (read refl)
settled-by kind done sheet feed long None left told old new WriteFault serves may read write =
    absurd (write refl)
settled-by kind done sheet feed long None left told old new OutOfMemory serves may read write =
    inr refl
settled-by kind done sheet feed long None left told old new NotProved serves may read write =
    absurd may
settled-by kind done sheet feed long None left told old new TooLong serves may read write =
    inl long
settled-by kind done sheet feed long (Some input) left told old new Done serves may read write =
    inl (sym serves.2.0.0)
settled-by kind done sheet feed long (Some input) left told old new BadWords serves may read write =
    absurd may
settled-by kind done sheet feed long (Some input) left told old new BadSheet serves may read write =
    inl (sym serves.2.0)
settled-by kind done sheet feed long (Some input) left told old new BadFeed serves may read write =
    inl (sym serves.2.0)
settled-by kind done sheet feed long (Some input) left told old new ReadFault serves may read
    write = absurd (read refl)
settled-by kind done sheet feed long (Some input) left told old new WriteFault serves may read
    write = absurd (write refl)
settled-by kind done sheet feed long (Some input) left told old new OutOfMemory serves may read
    write = inr refl
settled-by kind done sheet feed long (Some input) left told old new NotProved serves may read
    write = absurd may
settled-by kind done sheet feed long (Some input) left told old new TooLong serves may read write =
    inl (sym serves.2.0)

-- The words of the command: the program's own name, a mode, two options and a flag, which may stand
-- before the mode or after it. Which words such a command takes is clap's own rule for a simple
-- command. Words that ask for help are none of them.
use Rattle.std.specs.Prelude.{ℕ, Bool, true, false, ◌&&◌, nat_le, List, [], ◌∷◌, length, Option}
use Rattle.std.specs.Prelude.{Some, None, if◌then◌else◌, option_and_then, option_map, bytes_eq}
use Rattle.std.specs.Prelude.{codes}
use Rattle.std.specs.List.{list_all}
use Rattle.std.specs.Char.{is_ascii_digit}
use Rattle.std.specs.Option.{option_map_or}
use Rattle.std.specs.Str.Parse.{digits_value}
use Rattle.clap.specs.declared.builder.action.ArgAction.TheVariants.{SetTrue}
use Rattle.clap.specs.Words.{App, Kinds, Row, Rule, Text, fault_of, first_of, matches_of, new_app}
use Rattle.clap.specs.Words.{new_rule, with_rule}
use Rattle.command_words.specs.declared.command.Mode.{Mode}
use Rattle.command_words.specs.declared.command.Mode.TheVariants.{Verdicts, Table, Scores, WhatIf}
use Rattle.command_words.specs.declared.command.Mode.TheVariants.{Save, Resume, Decide, Check}
use Rattle.command_words.specs.declared.command.Mode.TheVariants.{Groups, GroupsCheck, Sample}
use Rattle.command_words.specs.declared.command.Command.{Command}

-- ---- the words that may stand

-- the mode, which must be there
abbrev pub mode_rule : Rule
mode_rule = record (new_rule (codes "mode")) { required = true }

-- `--workers N`
abbrev pub workers_rule : Rule
workers_rule = record (new_rule (codes "workers")) { long = Some (codes "workers") }

-- `--proofs`
abbrev pub proofs_rule : Rule
proofs_rule =
    record (new_rule (codes "proofs")) { long = Some (codes "proofs"); action = Some SetTrue }

-- `--seed N`
abbrev pub seed_rule : Rule
seed_rule = record (new_rule (codes "seed")) { long = Some (codes "seed") }

-- the program's words as clap has them
unfoldable pub app : App
app = with_rule (with_rule (with_rule (with_rule (new_app (codes "futmax")) mode_rule) workers_rule)
    proofs_rule) seed_rule

-- ---- what is taken of them

-- what was taken, if nothing is a fault
abbrev pub unless_fault : Kinds → List Row → Option (List Row)
unless_fault [] rows = Some rows
unless_fault (kind ∷ kinds) rows = None

-- what clap takes of the words, if it takes them without a fault
unfoldable pub rows_taken : List Text → Option (List Row)
rows_taken words = unless_fault (fault_of app words) (matches_of app words)

-- ---- what a mode and a number are

-- the mode of a word, if it names one, with proofs or without, and with this seed
abbrev pub mode_named : List ℕ → Bool → ℕ → Option Mode
mode_named word proofs seed =
    if bytes_eq word (codes "verdicts") then Some (Verdicts proofs)
    else if bytes_eq word (codes "table") then Some Table
    else if bytes_eq word (codes "scores") then Some Scores
    else if bytes_eq word (codes "whatif") then Some WhatIf
    else if bytes_eq word (codes "save") then Some Save
    else if bytes_eq word (codes "resume") then Some (Resume proofs)
    else if bytes_eq word (codes "decide") then Some (Decide proofs)
    else if bytes_eq word (codes "check") then Some (Check false)
    else if bytes_eq word (codes "decide_check") then Some (Check true)
    else if bytes_eq word (codes "groups") then Some (Groups proofs)
    else if bytes_eq word (codes "groups_check") then Some GroupsCheck
    else if bytes_eq word (codes "sample") then Some (Sample seed)
    else None

-- 1 to 20 ASCII digits
abbrev pub is_numeral : List ℕ → Bool
is_numeral text = nat_le 1 (length text) && nat_le (length text) 20 && list_all is_ascii_digit text

-- such digits that write a number in this range
abbrev pub is_number_within : ℕ → ℕ → List ℕ → Bool
is_number_within least most text =
    is_numeral text && nat_le least (digits_value 10 text) && nat_le (digits_value 10 text) most

-- their number
abbrev pub numeral_within : ℕ → ℕ → List ℕ → Option ℕ
numeral_within least most text =
    if is_number_within least most text then Some (digits_value 10 text) else None

-- the number of an option, which has one even if it is not given
abbrev pub option_number : ℕ → ℕ → ℕ → Option Text → Option ℕ
option_number absent least most None = Some absent
option_number absent least most (Some text) = numeral_within least most text

-- ---- the command

-- 1 to 8 workers, and 4 if none are named
abbrev pub workers_in : List Row → Option ℕ
workers_in rows = option_number 4 1 8 (first_of (codes "workers") rows)

-- a seed of 64 bits, and 1 if none is named
abbrev pub seed_in : List Row → Option ℕ
seed_in rows = option_number 1 0 18446744073709551615 (first_of (codes "seed") rows)

-- the flag is there
abbrev pub has_proofs : List Row → Bool
has_proofs rows =
    option_map_or (λ text. bytes_eq text (codes "true")) (first_of (codes "proofs") rows) false

-- the mode of what was taken, if its word names one and the seed is a number in range
abbrev pub mode_in : List Row → Option Mode
mode_in rows =
    option_and_then (λ seed. option_and_then (λ word. mode_named word (has_proofs rows) seed)
    (first_of (codes "mode") rows)) (seed_in rows)

-- the command of what was taken, if it has a mode and its workers are a number in range
abbrev pub command_in : List Row → Option Command
command_in rows =
    option_and_then (λ mode. option_map (λ workers. record { mode = mode; workers = workers })
    (workers_in rows)) (mode_in rows)

-- the command of the words, if they fit
unfoldable pub command_of : List Text → Option Command
command_of words = option_and_then command_in (rows_taken words)

-- its mode
abbrev pub mode_of : List Text → Option Mode
mode_of words = option_map (λ command. command.mode) (command_of words)

-- Feeds worked by hand, in a league of two clubs and one match: what the definitions say of them is
-- computed when the crate is checked.
use Rattle.std.proofs.Common.{◌≡◌, ℕ, true, false, List, [], ◌∷◌, Ok, Err, refl}
use Rattle.std.specs.Prelude.{codes}
use Rattle.csv.specs.Machine.{next_record}
use Rattle.csv.specs.Reading.{strip_bom}
use Rattle.league_core.specs.declared.sheet.Sheet.{Sheet}
use Rattle.league_core.specs.declared.season.Event.TheVariants.{Set, Clear}
use Rattle.league_core.specs.rows.WorkedRows.{pair}
use Rattle.port_core.specs.Contents.{Contents, ended}
use Rattle.result_log.specs.declared.entry.Entry.{Entry}
use Rattle.result_log.specs.declared.entry.Entry.TheVariants.{Change, Ask, Proofs, End}
use Rattle.result_log.specs.declared.fault.FeedFault.TheVariants.{UnknownFixture, BadGoals}
use Rattle.result_log.specs.declared.fault.FeedFault.TheVariants.{AlreadyPlayed, NotPlayed}
use Rattle.result_log.specs.declared.fault.FeedStop.TheVariants.{Fault}
use Rattle.result_log.specs.Feeds.{closed, feed_of}

-- two clubs, one match
abbrev league : Sheet
league = pair (1 ∷ 2 ∷ [])

-- the one match ended so
abbrev ended_so : ℕ → ℕ → Entry
ended_so home away = Change (Set 0 (record { home = home; away = away }))

-- these lines, and then the end of the input
abbrev lines_of : List (ℕ × List ℕ) → Contents
lines_of lines = record { lines = lines; ending = Ok 20 }

-- a result, its correction, and its annulment, each with an ask after it
corrected_and_annulled :
    feed_of league false
    (lines_of ((7, codes "result,1,1,1") ∷ (8, codes "ask")
    ∷ (9, codes "fix,1,1,0") ∷ (10, codes "ask")
    ∷ (11, codes "void,1") ∷ (12, codes "ask") ∷ [])) []
    ≡ record {
      entries = ended_so 1 1 ∷ Ask ∷ ended_so 1 0 ∷ Ask ∷ Change (Clear 0) ∷ Ask ∷ [];
      close = Ok End;
      rest = ended (Ok 20);
    }
unfolding next_record strip_bom
corrected_and_annulled = refl

-- a second result is refused at its line, and what comes after it is not read
told_twice :
    feed_of league false
    (lines_of ((7, codes "result,1,0,0") ∷ (8, codes "ask")
    ∷ (9, codes "result,1,1,0") ∷ (10, codes "ask") ∷ [])) []
    ≡ record {
      entries = ended_so 0 0 ∷ Ask ∷ [];
      close = Err (Fault 9 AlreadyPlayed);
      rest = lines_of ((10, codes "ask") ∷ []);
    }
unfolding next_record strip_bom
told_twice = refl

-- first records that are refused
corrected_unplayed :
    feed_of league false (lines_of ((7, codes "fix,1,1,0") ∷ [])) []
    ≡ closed (Err (Fault 7 NotPlayed)) (ended (Ok 20))
unfolding next_record strip_bom
corrected_unplayed = refl

fixture_too_great :
    feed_of league false (lines_of ((7, codes "result,2,0,0") ∷ [])) []
    ≡ closed (Err (Fault 7 UnknownFixture)) (ended (Ok 20))
unfolding next_record strip_bom
fixture_too_great = refl

goals_too_many :
    feed_of league false (lines_of ((7, codes "result,1,100,0") ∷ [])) []
    ≡ closed (Err (Fault 7 BadGoals)) (ended (Ok 20))
unfolding next_record strip_bom
goals_too_many = refl

-- padded lines, a line of empty fields, leading zeros, and proofs after the feed
padded :
    feed_of league true
    (lines_of ((7, codes "result,01,000099,7,,") ∷ (8, codes ",,")
    ∷ (9, codes "proofs") ∷ (10, codes "ask,1") ∷ [])) []
    ≡ record {
      entries = ended_so 99 7 ∷ [];
      close = Ok Proofs;
      rest = lines_of ((10, codes "ask,1") ∷ []);
    }
unfolding next_record strip_bom
padded = refl

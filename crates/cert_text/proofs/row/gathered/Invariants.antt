use Rattle.std.proofs.Common.{◌≡◌, [], map, take}
use Rattle.csv.specs.Records.{fields_of, partial_of}
use Rattle.cert_text.proofs.row.gathered.Given as goal

-- the record has the fields so far, and no part of another
abbrev pub invariant-loop-field : goal.invariant-loop-field
invariant-loop-field l =
    (fields_of l.found ≡ map (λ field. field.items) (take l.field-index l.fields))
    × (partial_of l.found ≡ [])

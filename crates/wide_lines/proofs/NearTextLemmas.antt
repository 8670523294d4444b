-- The text of a near leaf: it is printed, and read back as the leaf, which is no proof line.
use Rattle.std.proofs.Common.{◌≡◌, ◌<◌, ◌+◌, ◌-◌, ℕ, Bool, true, false, Some, None, nat_le, nat_lt}
use Rattle.std.proofs.Common.{refl, ap, ◌∙◌, cond, arith}
use Rattle.std.specs.Prelude.{option_map, option_and_then}
use Rattle.std.specs.List.{list_all}
use Rattle.std.proofs.lemmas.Bool.{and_from, ltb-true, le-leb}
use Rattle.serde_json.specs.Written.{compact_text}
use Rattle.league_core.specs.game.Limits.{most_clubs}
use Rattle.cert_text.specs.Lines.{number_in_text, is_printed}
use Rattle.cert_text.specs.Ranges.{is_club_number}
use Rattle.cert_text.specs.inside.Values.{parts_value}
use Rattle.cert_text.specs.Places.{if_between, number_here}
use Rattle.cert_text.specs.Forms.{line_of_value}
use Rattle.cert_text.proofs.LineLemmas.{is_plain_part, text_of_parts}
use Rattle.cert_text.proofs.PrintedLemmas.{is_small_part, small_number, parts_printed}
use Rattle.cert_text.proofs.ReadBackLemmas.{json_of-parts, line_in-parts}
use Rattle.league_core.proofs.plain.TruthValues.{true_and_true}
use Rattle.wide_lines.specs.declared.wide_line.WideLine.TheVariants.{Near, NewNear}
use Rattle.wide_lines.specs.WideTexts.{near_parts, text_of_near, near_line_in, wide_line_in}
use Rattle.wide_lines.specs.WideTexts.{near_line, near_line_of_value, plain_or}

near_is_plain : (fresh : Bool) (rival : ℕ) → list_all is_plain_part (near_parts fresh rival) ≡ true
near_is_plain true rival = refl
near_is_plain false rival = refl

near_is_small : (fresh : Bool) (rival : ℕ) → is_club_number rival ≡ true
    → list_all is_small_part (near_parts fresh rival) ≡ true
near_is_small true rival known =
    true_and_true (nat_lt (number_in_text rival) 10000)
    (small_number most_clubs rival (omega arith) known)
near_is_small false rival known =
    true_and_true (nat_lt (number_in_text rival) 10000)
    (small_number most_clubs rival (omega arith) known)

-- as compact JSON
pub near_text : (fresh : Bool) (rival : ℕ)
    → compact_text (parts_value (near_parts fresh rival)) ≡ text_of_near fresh rival
near_text fresh rival = text_of_parts (near_parts fresh rival) (near_is_plain fresh rival)

-- printed
pub near_printed : (fresh : Bool) (rival : ℕ) → is_club_number rival ≡ true
    → list_all is_printed (text_of_near fresh rival) ≡ true
near_printed fresh rival known =
    parts_printed most_clubs (omega arith) (near_parts fresh rival)
    (near_is_small fresh rival known)

-- the number of the rival, counted from 0 again
counted : (rival : ℕ) → rival < most_clubs
    → option_map number_here (if_between 1 most_clubs (number_in_text rival)) ≡ Some rival
counted rival below =
    ap (λ b. option_map number_here (cond b (Some (number_in_text rival)) None))
    (and_from (nat_le 1 (number_in_text rival)) (nat_le (number_in_text rival) most_clubs)
    (le-leb 1 (number_in_text rival) (omega arith))
    (le-leb (number_in_text rival) most_clubs (omega (arith, below))))
    ∙ ap Some (back rival)
  where
    back : (n : ℕ) → n + 1 - 1 ≡ n
    back n = omega arith

of_value : (fresh : Bool) (rival : ℕ) → is_club_number rival ≡ true
    → near_line_of_value (parts_value (near_parts fresh rival)) ≡ Some (near_line fresh rival)
of_value true rival known =
    ap (option_map (λ it. NewNear it)) (counted rival (ltb-true rival most_clubs known))
of_value false rival known =
    ap (option_map (λ it. Near it)) (counted rival (ltb-true rival most_clubs known))

-- no proof line has the form
no_proof_line : (fresh : Bool) (rival : ℕ)
    → line_of_value (parts_value (near_parts fresh rival)) ≡ None
no_proof_line true rival = refl
no_proof_line false rival = refl

-- read back
pub near_reads_back : (fresh : Bool) (rival : ℕ) → is_club_number rival ≡ true
    → wide_line_in (text_of_near fresh rival) ≡ Some (near_line fresh rival)
near_reads_back fresh rival known =
    let parts = near_parts fresh rival in
    let plain = near_is_plain fresh rival in
    let small = near_is_small fresh rival known in
    ap (λ it. plain_or it (near_line_in (text_of_near fresh rival)))
    (line_in-parts parts plain small ∙ no_proof_line fresh rival)
    ∙ ap (option_and_then near_line_of_value)
    (json_of-parts most_clubs (omega arith) parts plain small)
    ∙ of_value fresh rival known

-- What a text is as JSON.
use Rattle.std.proofs.Common.{◌≡◌, ℕ, List, None, cond, ap}
use Rattle.std.specs.Str.{IsUtf8, is_utf8}
use Rattle.std.proofs.lemmas.Str.{IsUtf8-from_is_utf8, is_utf8-from_IsUtf8}
use Rattle.std.proofs.lemmas.Bool.{cond_both}
use Rattle.serde_json.specs.Read.{read}
use Rattle.cert_text.specs.Forms.{json_of}
use Rattle.std.proofs.Common.{refl}

-- UTF-8 is what it reads as
pub json_of-utf8 : (text : List ℕ) → IsUtf8 text → json_of text ≡ read text
json_of-utf8 text utf8 = ap (λ b. cond b (read text) None) (is_utf8-from_IsUtf8 text utf8)

-- a text that reads as nothing if it is UTF-8 is nothing
pub json_of-none : (text : List ℕ) → (IsUtf8 text → read text ≡ None) → json_of text ≡ None
json_of-none text none =
    cond_both (is_utf8 text) (read text) None (λ found. found ≡ None)
    (λ utf8. none (IsUtf8-from_is_utf8 text utf8)) (λ other. refl)

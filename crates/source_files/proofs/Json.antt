-- The JSON value of bytes, by whether they are UTF-8.
use Rattle.std.proofs.Common.{◌≡◌, ℕ, Bool, true, false, List, Option, None, Some, if◌then◌else◌}
use Rattle.std.proofs.Common.{refl, ap, ◌∙◌}
use Rattle.std.specs.Str.{IsUtf8, is_utf8}
use Rattle.std.proofs.lemmas.Str.{IsUtf8-from_is_utf8, is_utf8-from_IsUtf8}
use Rattle.serde_json.specs.Data.{Data}
use Rattle.serde_json.specs.Read as json
use Rattle.source_files.specs.SourceFiles.{json_of}

pub value_read : (bytes : List ℕ) (value : Data)
    → IsUtf8 bytes
    → json.read bytes ≡ Some value
    → json_of bytes ≡ Some value
unfolding json_of
value_read bytes value utf8 read = ap (λ t. if t then json.read bytes else None)
    (is_utf8-from_IsUtf8 bytes utf8) ∙ read

none_by : (bytes : List ℕ) (t : Bool)
    → is_utf8 bytes ≡ t
    → (IsUtf8 bytes → json.read bytes ≡ None)
    → (if t then json.read bytes else None) ≡ None
none_by bytes true e unread = unread (IsUtf8-from_is_utf8 bytes e)
none_by bytes false e unread = refl

pub none_read : (bytes : List ℕ)
    → (IsUtf8 bytes → json.read bytes ≡ None)
    → json_of bytes ≡ None
unfolding json_of
none_read bytes unread = none_by bytes (is_utf8 bytes) refl unread

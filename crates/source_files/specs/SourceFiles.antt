-- What the files of a registry say of where its modules' sources are: Bazel, "Bazel registries",
-- section "Index registry".
use Rattle.std.specs.Prelude.{ℕ, Bool, true, false, ◌||◌, if◌then◌else◌, List, Option, None, Some}
use Rattle.std.specs.Prelude.{option_and_then, Result, Ok, Err, codes, bytes_eq}
use Rattle.std.specs.Str.{is_utf8}
use Rattle.serde_json.specs.Data.{Data, null, boolean, number, string, array, object}
use Rattle.serde_json.specs.Find.{as_str, get}
use Rattle.serde_json.specs.Read as json
use Rattle.source_files.specs.declared.source_file.BadSource.{BadSource}
use Rattle.source_files.specs.declared.source_file.SourceFile.{SourceFile}
use Rattle.source_files.specs.declared.source_file.SourceFile.TheVariants.{Local, Remote}

-- that a file doesn't say where a source is
abbrev pub bad_source : BadSource
bad_source = record {}

-- the JSON value of a file, whose bytes are UTF-8: RFC 8259, 8.1
unfoldable pub json_of : List ℕ → Option Data
json_of bytes = if is_utf8 bytes then json.read bytes else None

abbrev pub is_object : Data → Bool
is_object null = false
is_object (boolean flag) = false
is_object (number n) = false
is_object (string text) = false
is_object (array items) = false
is_object (object parts) = true

-- the value's members, where it is an object
abbrev pub object_of : Option Data → Result Data BadSource
object_of None = Err bad_source
object_of (Some json) = if is_object json then Ok json else Err bad_source

-- the directory that `path` names
abbrev pub local_source : Option (List ℕ) → Result SourceFile BadSource
local_source None = Err bad_source
local_source (Some path) = Ok (Local path)

abbrev pub text_under : List ℕ → Data → Option (List ℕ)
text_under name json = option_and_then as_str (get name json)

-- an archive and a Git repository are elsewhere, whatever else the file holds of them
abbrev pub is_remote : List ℕ → Bool
is_remote type = bytes_eq type (codes "archive") || bytes_eq type (codes "git_repository")

abbrev pub source_of_type : List ℕ → Data → Result SourceFile BadSource
source_of_type type json =
    if is_remote type then Ok Remote
    else (if bytes_eq type (codes "local_path") then local_source (text_under (codes "path") json)
    else Err bad_source)

-- the source by its type, which is an archive where none is given
abbrev pub source_by_type : Option Data → Data → Result SourceFile BadSource
source_by_type None json = Ok Remote
source_by_type (Some null) json = Err bad_source
source_by_type (Some (boolean flag)) json = Err bad_source
source_by_type (Some (number n)) json = Err bad_source
source_by_type (Some (string type)) json = source_of_type type json
source_by_type (Some (array items)) json = Err bad_source
source_by_type (Some (object parts)) json = Err bad_source

abbrev pub source_of : Result Data BadSource → Result SourceFile BadSource
source_of (Err bad) = Err bad
source_of (Ok json) = source_by_type (get (codes "type") json) json

-- what a `source.json` says
unfoldable pub source_in : List ℕ → Result SourceFile BadSource
source_in bytes = source_of (object_of (json_of bytes))

-- a base is a text, where one is given
abbrev pub base_of_text : Option (List ℕ) → Result (Option (List ℕ)) BadSource
base_of_text None = Err bad_source
base_of_text (Some base) = Ok (Some base)

abbrev pub base_of_member : Option Data → Result (Option (List ℕ)) BadSource
base_of_member None = Ok None
base_of_member (Some json) = base_of_text (as_str json)

abbrev pub base_of : Result Data BadSource → Result (Option (List ℕ)) BadSource
base_of (Err bad) = Err bad
base_of (Ok json) = base_of_member (get (codes "module_base_path") json)

-- the directory from which a `bazel_registry.json` says that local paths begin
unfoldable pub base_in : List ℕ → Result (Option (List ℕ)) BadSource
base_in bytes = base_of (object_of (json_of bytes))

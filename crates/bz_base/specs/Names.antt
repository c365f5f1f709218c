-- Names of modules, repositories and what lies in them: Bazel's "Bazel modules", "External
-- dependencies overview" and "Labels".
use Rattle.std.specs.Prelude.{ℕ, Bool, false, not, ◌||◌, ◌&&◌, ◌==◌, nat_lt, List, [], ◌∷◌}
use Rattle.std.specs.Prelude.{bytes_eq}
use Rattle.std.specs.List.{list_all}
use Rattle.std.specs.Char.{is_ascii_digit, is_ascii_lowercase, is_ascii_alphabetic}
use Rattle.std.specs.Char.{is_ascii_alphanumeric}
use Rattle.bz_base.specs.Paths.{segments_of, stays, goes_up}

-- the first byte passes one test and each byte another
abbrev pub begins_and_goes_on : (ℕ → Bool) → (ℕ → Bool) → List ℕ → Bool
begins_and_goes_on begins goes_on [] = false
begins_and_goes_on begins goes_on (b ∷ bs) = begins b && list_all goes_on (b ∷ bs)

-- the last byte passes the test
abbrev pub ends : (ℕ → Bool) → List ℕ → Bool
ends test [] = false
ends test (b ∷ []) = test b
ends test (b ∷ c ∷ bs) = ends test (c ∷ bs)

-- `_`, `.` and `-`
abbrev pub is_joint : ℕ → Bool
is_joint b = b == 95 || b == 46 || b == 45

abbrev pub is_module_byte : ℕ → Bool
is_module_byte b = is_ascii_lowercase b || is_ascii_digit b || is_joint b

-- a module's name: lower-case letters, digits, `.`, `-` and `_`, from a letter to a letter or digit
abbrev pub is_module_name : List ℕ → Bool
is_module_name text =
    begins_and_goes_on is_ascii_lowercase is_module_byte text
    && ends (λ b. is_ascii_lowercase b || is_ascii_digit b) text

abbrev pub is_apparent_byte : ℕ → Bool
is_apparent_byte b = is_ascii_alphanumeric b || is_joint b

-- an apparent repository name in a label, which may be empty
abbrev pub is_apparent : List ℕ → Bool
is_apparent text = list_all is_apparent_byte text

abbrev pub is_canonical_byte : ℕ → Bool
is_canonical_byte b = is_apparent_byte b || b == 43

-- a canonical repository name, which may be empty and may have a `+`
abbrev pub is_canonical : List ℕ → Bool
is_canonical text = list_all is_canonical_byte text

-- an apparent name that a module file states, or the name of a generated repository
abbrev pub is_repository_name : List ℕ → Bool
is_repository_name text = begins_and_goes_on is_ascii_alphabetic is_apparent_byte text

-- an identifier of Starlark
abbrev pub is_identifier : List ℕ → Bool
is_identifier text =
    begins_and_goes_on (λ b. is_ascii_alphabetic b || b == 95)
    (λ b. is_ascii_alphanumeric b || b == 95) text

-- a byte of a package or a target name: no `:`, no `\`, no control character
abbrev pub is_label_byte : ℕ → Bool
is_label_byte b = not (b == 58 || b == 92 || nat_lt b 32 || b == 127)

-- a segment that is neither empty, nor `.`, nor `..`
abbrev pub is_segment : List ℕ → Bool
is_segment segment = not (stays segment || goes_up segment)

-- the name of a target, and a package that is not the repository's top: segments joined by `/`
abbrev pub is_segmented : List ℕ → Bool
is_segmented text = list_all is_label_byte text && list_all is_segment (segments_of text)

-- a package, the repository's top included
abbrev pub is_package : List ℕ → Bool
is_package text = bytes_eq text [] || is_segmented text

-- Labels as they are printed, taken apart: Bazel's "Labels".
use Rattle.std.specs.Prelude.{ℕ, Bool, ◌&&◌, ◌||◌, List, [], Result, Ok, Err, Option, None, Some}
use Rattle.std.specs.Prelude.{option_and_then, bytes_eq, if◌then◌else◌}
use Rattle.bz_text.specs.Cuts.{behind, cut, cut_at_root}
use Rattle.bz_base.specs.Names.{is_canonical, is_package, is_segmented}
use Rattle.bz_base.specs.declared.labels.Label.{Label}
use Rattle.bz_base.specs.declared.plain_labels.NotPlain.{NotPlain}

-- that there is no such plain value
abbrev pub not_plain : NotPlain
not_plain = record {}

-- a canonical name, a package and a name, or the top of a repository
abbrev pub is_label : Label → Bool
is_label label =
    is_canonical label.repo
    && (is_package label.package
    && (is_segmented label.name || (bytes_eq label.name [] && bytes_eq label.package [])))

-- the label, where it is good
abbrev pub good_label : Label → Result Label NotPlain
good_label label = if is_label label then Ok label else Err not_plain

-- a package, `:` and a name
abbrev pub target_label : List ℕ → Option (List ℕ × List ℕ) → Result Label NotPlain
target_label repo None = Err not_plain
target_label repo (Some parts) = good_label
    (record { repo = repo; «package» = parts.0; name = parts.1 })

-- a canonical name, `//` and what stands there
abbrev pub rooted_label : Option (List ℕ × List ℕ) → Result Label NotPlain
rooted_label None = Err not_plain
rooted_label (Some parts) = target_label parts.0 (cut 58 parts.1)

-- what stands behind `@@` is a label without those marks
abbrev pub marked_label : Option (List ℕ) → Result Label NotPlain
marked_label None = Err not_plain
marked_label (Some rest) = rooted_label (cut_at_root rest)

-- what stands behind `@@`
abbrev pub behind_marks : List ℕ → Option (List ℕ)
behind_marks text = option_and_then (behind 64) (behind 64 text)

-- the label with this text
unfoldable pub label_of : List ℕ → Result Label NotPlain
label_of text = marked_label (behind_marks text)

-- A label's text, taken apart from the front.
use Rattle.std.specs.Prelude.{ℕ, Bool, ◌&&◌, List, [], ◌∷◌, Result, Ok, Err, Option, None, Some}
use Rattle.std.specs.Prelude.{bytes_eq, if◌then◌else◌}
use Rattle.std.specs.List.{list_all}
use Rattle.bz_base.specs.Names.{is_apparent, is_canonical, is_package, is_segment, is_segmented}
use Rattle.bz_base.specs.Paths.{segments_of}
use Rattle.bz_label.specs.declared.label_text.BadLabel.{BadLabel}
use Rattle.bz_label.specs.declared.label_text.LabelText.{LabelText}
use Rattle.bz_label.specs.declared.label_text.RepoPart.{RepoPart}
use Rattle.bz_label.specs.declared.label_text.RepoPart.TheVariants.{Home, Apparent, Canonical}
use Rattle.bz_text.specs.Cuts.{behind, cut, cut_at_root}

-- that a text is no label
abbrev pub bad_label : BadLabel
bad_label = record {}

-- none of the segments is empty, `.` or `..`
abbrev pub are_segments : List (List ℕ) → Bool
are_segments segments = list_all is_segment segments

-- the last of some segments
abbrev pub last_of : List (List ℕ) → List ℕ
last_of [] = []
last_of (segment ∷ []) = segment
last_of (segment ∷ next ∷ segments) = last_of (next ∷ segments)

abbrev pub last_segment : List ℕ → List ℕ
last_segment text = last_of (segments_of text)

abbrev pub apparent_repo : List ℕ → Result RepoPart BadLabel
apparent_repo name = if is_apparent name then Ok (Apparent name) else Err bad_label

abbrev pub canonical_repo : List ℕ → Result RepoPart BadLabel
canonical_repo name = if is_canonical name then Ok (Canonical name) else Err bad_label

-- behind one `@` stands an apparent name, behind two a canonical one
abbrev pub marked_repo : List ℕ → Option (List ℕ) → Result RepoPart BadLabel
marked_repo name None = apparent_repo name
marked_repo name (Some canonical) = canonical_repo canonical

abbrev pub unmarked_repo : Option (List ℕ) → Result RepoPart BadLabel
unmarked_repo None = Err bad_label
unmarked_repo (Some name) = marked_repo name (behind 64 name)

-- what a repository part names
abbrev pub repo_of : List ℕ → Result RepoPart BadLabel
repo_of text = if bytes_eq text [] then Ok Home else unmarked_repo (behind 64 text)

abbrev pub at_home : List ℕ → Result LabelText BadLabel
at_home name =
    if is_segmented name then Ok (record { repo = Home; «package» = None; name = name })
    else Err bad_label

abbrev pub named_target : RepoPart → List ℕ → List ℕ → Result LabelText BadLabel
named_target repo pkg name =
    if is_package pkg && is_segmented name then Ok (record {
      repo = repo;
      «package» = Some pkg;
      name
          = name;
    })
    else Err bad_label

abbrev pub package_target : RepoPart → List ℕ → Result LabelText BadLabel
package_target repo pkg =
    if is_segmented pkg then Ok
    (record { repo = repo; «package» = Some pkg; name = last_segment pkg })
    else Err bad_label

abbrev pub target_parts : RepoPart → List ℕ → Option (List ℕ × List ℕ) → Result LabelText BadLabel
target_parts repo target None = package_target repo target
target_parts repo target (Some parts) = named_target repo parts.0 parts.1

-- a label with `//`
abbrev pub rooted_parts : Result RepoPart BadLabel → List ℕ → Result LabelText BadLabel
rooted_parts (Err bad) target = Err bad
rooted_parts (Ok repo) target = target_parts repo target (cut 58 target)

abbrev pub repo_named : RepoPart → List ℕ → Result LabelText BadLabel
repo_named repo name =
    if is_segment name then Ok (record { repo = repo; «package» = Some []; name = name })
    else Err bad_label

-- a repository alone, which is the target of its name at its top
abbrev pub repo_alone : RepoPart → Result LabelText BadLabel
repo_alone Home = Err bad_label
repo_alone (Apparent name) = repo_named (Apparent name) name
repo_alone (Canonical name) = repo_named (Canonical name) name

abbrev pub repo_parts : Result RepoPart BadLabel → Result LabelText BadLabel
repo_parts (Err bad) = Err bad
repo_parts (Ok repo) = repo_alone repo

-- a label without `//` and without `:` at its front
abbrev pub alone_parts : Option (List ℕ) → List ℕ → Result LabelText BadLabel
alone_parts None text = at_home text
alone_parts (Some name) text = repo_parts (repo_of text)

abbrev pub rootless_or_rooted : List ℕ → Option (List ℕ × List ℕ) → Result LabelText BadLabel
rootless_or_rooted text None = alone_parts (behind 64 text) text
rootless_or_rooted text (Some parts) = rooted_parts (repo_of parts.0) parts.1

abbrev pub home_or_elsewhere : List ℕ → Option (List ℕ) → Result LabelText BadLabel
home_or_elsewhere text None = rootless_or_rooted text (cut_at_root text)
home_or_elsewhere text (Some name) = at_home name

-- the parts of a label's text
abbrev pub label_parts : List ℕ → Result LabelText BadLabel
label_parts text = home_or_elsewhere text (behind 58 text)

-- What is asked of registries over a tree of files, and what is remembered of it: Bazel, "Bazel
-- Lockfile", where a lockfile names the registry files on which a build rested.
use Rattle.std.specs.Prelude.{◌≡◌, ℕ, Bool, if◌then◌else◌, List, [], ◌∷◌, ◌++◌, map, Option, None}
use Rattle.std.specs.Prelude.{Some, IfSome, Result, Ok, Err, bytes_eq, ◌⊎◌, ⊤}
use Rattle.std.specs.List.{list_any}
use Rattle.bz_base.specs.Digests.{digest_hex_text}
use Rattle.bz_base.specs.declared.refusals.Refusal.{Refusal}
use Rattle.bz_base.specs.declared.tree_path.BadPath.{BadPath}
use Rattle.bz_tree.specs.Failures.{ReadsOver, TreeRun}
use Rattle.bz_tree.specs.Places.{Files}
use Rattle.bz_tree.specs.declared.failures.Failure.{Failure}
use Rattle.bz_tree.specs.declared.failures.Failure.TheVariants.{Refused, ReadFault, OutOfMemory}
use Rattle.bz_tree.specs.declared.tree.Found.{Found}
use Rattle.bz_tree.specs.declared.tree.Found.TheVariants.{Bytes, Large, Listing, Absent}
use Rattle.registry_index.specs.Registries.{FileOf, path_of, url_of}
use Rattle.registry_index.specs.declared.asked_files.FileHash.{FileHash}
use Rattle.registry_index.specs.declared.asked_files.RegistryBase.{RegistryBase}

-- what is remembered: the files asked, each once and in order of asking, with the hash of their
-- bytes or none; and the base directories that registries were read to have
pub record Asked : Type 0 where
  pub hashes : List FileHash
  pub bases : List RegistryBase

abbrev pub nothing_asked : Asked
nothing_asked = record { hashes = []; bases = [] }

abbrev pub is_among : List ℕ → List FileHash → Bool
is_among url hashes = list_any (λ one. bytes_eq url one.url) hashes

-- a file goes behind the others, unless it stands among them
abbrev pub with_hash : List ℕ → Option (List ℕ) → List FileHash → List FileHash
with_hash url hash hashes =
    if is_among url hashes then hashes else hashes ++ record { url = url; hash = hash } ∷ []

-- a file with the hash of its bytes; an absent one, or a directory, with none; a file that is too
-- large is not remembered, since its bytes are not read
abbrev pub hashes_with : List ℕ → Found → List FileHash → List FileHash
hashes_with url (Bytes bytes) hashes = with_hash url (Some (digest_hex_text bytes)) hashes
hashes_with url Large hashes = hashes
hashes_with url (Listing names) hashes = with_hash url None hashes
hashes_with url Absent hashes = with_hash url None hashes

abbrev pub asked_with : FileOf → Found → Asked → Asked
asked_with file found asked = record asked { hashes = hashes_with (url_of file) found asked.hashes }

-- what stands at a path, and nothing where a text leads nowhere
abbrev pub found_where : Files → Result (List ℕ) BadPath → Found
found_where look (Ok path) = look path
found_where look (Err bad) = Absent

unfoldable pub found_for : Files → FileOf → Found
found_for look file = found_where look (path_of file)

-- only this read fails, at its own path
abbrev pub FailsWhere : Result (List ℕ) BadPath → Result Found Failure → Type 0
FailsWhere place (Ok found) = ⊤
FailsWhere place (Err (Refused refusal)) = ⊥
FailsWhere place (Err (ReadFault path)) = place ≡ Ok path
FailsWhere place (Err OutOfMemory) = ⊤

-- a step: a file is asked, or a registry's base directory is kept
pub data Step : Type 0 where
  asks : FileOf → Step
  keeps : RegistryBase → Step

abbrev pub after_step : Files → Step → Asked → Asked
after_step look (asks file) asked = asked_with file (found_for look file) asked
after_step look (keeps base) asked = record asked { bases = asked.bases ++ base ∷ [] }

abbrev pub after_steps : Files → List Step → Asked → Asked
after_steps look [] asked = asked
after_steps look (step ∷ steps) asked = after_steps look steps (after_step look step asked)

-- the read of this step failed, at this path
abbrev pub FailedAt : List ℕ → Step → Type 0
FailedAt path (asks file) = path_of file ≡ Ok path
FailedAt path (keeps base) = ⊥

-- the read of one of the steps failed, with the steps before it made
abbrev pub FailedIn : Files → List ℕ → List Step → Asked → Asked → Type 0
FailedIn look path [] before now = ⊥
FailedIn look path (step ∷ steps) before now =
    (FailedAt path step × (now ≡ before))
    ⊎ FailedIn look path steps (after_step look step before) now

-- a front of the steps is made
abbrev pub StoppedIn : Files → List Step → Asked → Asked → Type 0
StoppedIn look [] before now = now ≡ before
StoppedIn look (step ∷ steps) before now =
    (now ≡ before) ⊎ StoppedIn look steps (after_step look step before) now

-- what the steps leave: with an answer or a refusal all are made, and at a failed read, or where
-- memory ran out, those before
abbrev pub Leaves : {A : Type 0}
    → Files
    → List Step
    → Asked
    → Asked
    → Result A Failure
    → Type 0
Leaves look steps before now (Ok value) = now ≡ after_steps look steps before
Leaves look steps before now (Err (Refused refusal)) = now ≡ after_steps look steps before
Leaves look steps before now (Err (ReadFault path)) = FailedIn look path steps before now
Leaves look steps before now (Err OutOfMemory) = StoppedIn look steps before now

-- steps, and what is answered behind them
pub record Reading (A : Type 0) : Type 0 where
  pub steps : List Step
  pub answer : Result A Refusal

-- the answer without a step
abbrev pub settled : {A : Type 0} → Result A Refusal → Reading A
settled answer = record { steps = []; answer = answer }

-- what stands where a file is
abbrev pub ask : Files → FileOf → Reading Found
ask look file = record { steps = asks file ∷ []; answer = Ok (found_for look file) }

-- a registry's base directory, which is kept
abbrev pub keep : List ℕ → List ℕ → Reading (List ℕ)
keep registry directory =
    record {
      steps = keeps (record { registry = registry; directory = directory }) ∷ [];
      answer = Ok directory;
    }

abbrev pub followed : {A B : Type 0}
    → List Step
    → Result A Refusal
    → (A → Reading B)
    → Reading B
followed steps (Ok value) next = record {
  steps = steps ++ (next value).steps;
  answer = (next
      value).answer;
}
followed steps (Err refusal) next = record { steps = steps; answer = Err refusal }

-- one reading and then another, which rests on its answer
abbrev pub and_then : {A B : Type 0} → Reading A → (A → Reading B) → Reading B
and_then reading next = followed reading.steps reading.answer next

-- what a call gives that makes these steps over a tree, and what it leaves where the tree tells its
-- files
abbrev pub AsksOver : {A : Type 0}
    → (Files → Reading A)
    → TreeRun
    → Asked
    → Asked
    → Result A Failure
    → Type 0
AsksOver wanted run before now result =
    ReadsOver (λ look. (wanted look).answer) run result
    × IfSome run.files_before (λ look. Leaves look (wanted look).steps before now result)

-- the names of the files, which a set has too
abbrev pub urls_of : List FileHash → List (List ℕ)
urls_of hashes = map (λ one. one.url) hashes

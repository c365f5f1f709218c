-- What stands in a tree in memory after its puts.
use Rattle.std.proofs.Common.{◌≡◌, ℕ, Bool, true, false, ◌≤◌, List, [], ◌∷◌, ◌++◌, length, drop}
use Rattle.std.proofs.Common.{subst, Option, Some, None, is_some, nat_le, leb-true, refl, ap, sym}
use Rattle.std.proofs.Common.{◌∙◌, arith, if◌then◌else◌, bytes_eq, codes, ◌⊎◌, inl, inr, Result, Ok}
use Rattle.std.proofs.Common.{Err, OnOk}
use Rattle.std.proofs.lemmas.Bool.{cases_Bool}
use Rattle.std.proofs.lemmas.List.{drop_all}
use Rattle.bz_text.specs.declared.memory.OutOfMemory.{OutOfMemory}
use Rattle.bz_tree.specs.declared.tree.Found.{Found}
use Rattle.bz_tree.specs.declared.tree.Found.TheVariants.{Bytes, Large, Listing, Absent}
use Rattle.bz_tree.specs.declared.mem_tree.Put.{Put}
use Rattle.bz_tree.specs.MemTrees.{MemTreeState, after_put, after_puts, found_in, directory_after}
use Rattle.bz_tree.specs.MemTrees.{directory_after_each, file_after, file_after_each, is_directory}
use Rattle.bz_tree.specs.MemTrees.{is_file}
use Rattle.bz_tree.specs.Places.{MayStand, MayStandBy, after_file, file_of, names_of, next_name}
use Rattle.bz_tree.specs.Places.{with_next}
use Rattle.bz_tree.specs.Reads.{IsReadable, are_ascending, largest_file}
use Rattle.bz_tree.proofs.Ascending.{with_name-ascending}

pub after_puts-append : (puts : List Put) (put : Put) (path : List ℕ) (before : Found)
    → after_puts (puts ++ put ∷ []) path before ≡ after_put put path (after_puts puts path before)
after_puts-append [] put path before = refl
after_puts-append (first ∷ puts) put path before = after_puts-append puts put path
    (after_put first path before)

pub put-stands : (r : Result (Unit {0}) OutOfMemory) (old new : MemTreeState)
    (path copy bytes : List ℕ)
    → copy ≡ bytes
    → OnOk r (new ≡ record old { puts = old.puts ++ record { path = path; bytes = copy } ∷ [] })
    → OnOk r ((there : List ℕ) → found_in new there ≡ after_put (record {
      path = path;
      bytes = bytes;
    }) there (found_in old there))
put-stands (Ok _) old new path copy bytes same is =
    λ there. ap (λ (tree : MemTreeState). found_in tree there) is
    ∙ (after_puts-append old.puts (record { path = path; bytes = copy }) there Absent
    ∙ ap (λ (all : List ℕ). after_put (record { path = path; bytes = all }) there (found_in old
    there)) same)
put-stands (Err _) old new path copy bytes same is = tt

-- ---- what stands is readable

file-readable : (bytes : List ℕ) → IsReadable (file_of bytes)
file-readable bytes = by (cases_Bool (nat_le (length bytes) largest_file))
  where
    by : ((nat_le (length bytes) largest_file ≡ true) ⊎ (nat_le (length bytes) largest_file ≡
        false)) → IsReadable (file_of bytes)
    by (inl small) = rw small (leb-true _ _ small)
    by (inr large) = rw large tt

names-ascending : (before : Found) → IsReadable before → are_ascending (names_of before) ≡ true
names-ascending (Listing names) so = so
names-ascending (Bytes bytes) so = refl
names-ascending Large so = refl
names-ascending Absent so = refl

with_next-readable : (name : Option (List ℕ)) (before : Found)
    → IsReadable before
    → IsReadable (with_next name before)
with_next-readable None before so = so
with_next-readable (Some name) before so = with_name-ascending name (names_of before)
    (names-ascending before so)

after_put-readable : (put : Put) (there : List ℕ) (before : Found)
    → IsReadable before
    → IsReadable (after_put put there before)
after_put-readable put there before so = by (bytes_eq there put.path)
  where
    by : (same : Bool)
        → IsReadable (if same then file_of put.bytes else with_next (next_name there put.path)
        before)
    by true = file-readable put.bytes
    by false = with_next-readable (next_name there put.path) before so

pub after_puts-readable : (puts : List Put) (there : List ℕ) (before : Found)
    → IsReadable before
    → IsReadable (after_puts puts there before)
after_puts-readable [] there before so = so
after_puts-readable (put ∷ puts) there before so =
    after_puts-readable puts there (after_put put there before)
    (after_put-readable put there before so)

pub found-readable : (puts : List Put) (there : List ℕ) (found : Found) (n : ℕ)
    → length puts ≤ n
    → after_puts (drop n puts) there found ≡ after_puts puts there Absent
    → IsReadable found
found-readable puts there found n past all =
    let is : found ≡ after_puts puts there Absent = ap (λ (rest : List Put). after_puts rest there
    found) (sym (drop_all n puts past)) ∙ all in
    subst IsReadable (sym is) (after_puts-readable puts there Absent tt)

-- ---- files and directories

is_file-file : (bytes : List ℕ) → is_file (file_of bytes) ≡ true
is_file-file bytes = by (nat_le (length bytes) largest_file)
  where
    by : (small : Bool) → is_file (if small then Bytes bytes else Large) ≡ true
    by true = refl
    by false = refl

is_directory-file : (bytes : List ℕ) → is_directory (file_of bytes) ≡ false
is_directory-file bytes = by (nat_le (length bytes) largest_file)
  where
    by : (small : Bool) → is_directory (if small then Bytes bytes else Large) ≡ false
    by true = refl
    by false = refl

is_file-next : (name : Option (List ℕ)) (before : Found)
    → is_file (with_next name before) ≡ (if is_some name then false else is_file before)
is_file-next None before = refl
is_file-next (Some name) before = refl

is_directory-next : (name : Option (List ℕ)) (before : Found)
    → is_directory (with_next name before) ≡ (if is_some name then true else is_directory before)
is_directory-next None before = refl
is_directory-next (Some name) before = refl

is_file-put : (put : Put) (there : List ℕ) (before : Found)
    → is_file (after_put put there before) ≡ file_after put there (is_file before)
is_file-put put there before = by (bytes_eq there put.path)
  where
    by : (same : Bool)
        → is_file (if same then file_of put.bytes else with_next (next_name there put.path) before)
        ≡ (if same then true
        else (if is_some (next_name there put.path) then false else is_file before))
    by true = is_file-file put.bytes
    by false = is_file-next (next_name there put.path) before

is_directory-put : (put : Put) (there : List ℕ) (before : Found)
    → is_directory (after_put put there before) ≡ directory_after put there (is_directory before)
is_directory-put put there before = by (bytes_eq there put.path)
  where
    by : (same : Bool)
        → is_directory (if same then file_of put.bytes else with_next (next_name there put.path)
        before) ≡ (if same then false else (if is_some (next_name there put.path) then true else
        is_directory before))
    by true = is_directory-file put.bytes
    by false = is_directory-next (next_name there put.path) before

pub is_file-puts : (puts : List Put) (there : List ℕ) (before : Found)
    → file_after_each puts there (is_file before) ≡ is_file (after_puts puts there before)
is_file-puts [] there before = refl
is_file-puts (put ∷ puts) there before =
    ap (file_after_each puts there) (sym (is_file-put put there before))
    ∙ is_file-puts puts there (after_put put there before)

pub is_directory-puts : (puts : List Put) (there : List ℕ) (before : Found)
    → directory_after_each puts there (is_directory before)
    ≡ is_directory (after_puts puts there before)
is_directory-puts [] there before = refl
is_directory-puts (put ∷ puts) there before =
    ap (directory_after_each puts there) (sym (is_directory-put put there before))
    ∙ is_directory-puts puts there (after_put put there before)

-- ---- a placing that failed

pub unplaced : (puts : List Put) (path bytes there : List ℕ)
    → MayStand path bytes there (after_puts puts there Absent) (after_puts puts there Absent)
unplaced puts path bytes there = by (bytes_eq there path) (after_puts puts there Absent)
  where
    by : (same : Bool) (found : Found) → MayStandBy same (next_name there path) bytes found found
    by true found = inl refl
    by false found = inl refl

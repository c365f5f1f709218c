-- A walk over places, in parts.
use Rattle.std.proofs.Common.{◌≡◌, ℕ, ◌+◌, ◌<◌, List, [], ◌∷◌, ◌++◌, Result, Ok, Err, length}
use Rattle.std.proofs.Common.{get_or, drop, map, refl, ap, ◌∙◌}
use Rattle.bz_text.proofs.ListWalks.{drop-next}
use Rattle.bz_text.specs.Answers.{Gives}
use Rattle.bz_text.specs.declared.memory.Miss.{Miss}
use Rattle.bz_text.specs.declared.memory.Miss.TheVariants.{OutOfMemory, Because}
use Rattle.star_trees.specs.Variables.{Names}
use Rattle.star_dialects.specs.ExtensionFiles.{Place, all_places, and_then_names, names_with}
use Rattle.star_dialects.specs.ExtensionFiles.{names_after}
use Rattle.star_dialects.specs.declared.forms.Refused.{Refused}

and_then_names-names_after : (names : Result Names Refused) (places others : List Place)
    → ((more : Names)
    → names_after more (places ++ others)
    ≡ and_then_names (names_after more places) (λ last. names_after last others))
    → and_then_names names (λ more. names_after more (places ++ others))
    ≡ and_then_names (and_then_names names (λ more. names_after more places))
    (λ last. names_after last others)
and_then_names-names_after (Ok names) places others each = each names
and_then_names-names_after (Err refused) places others each = refl

pub names_after-append : (names : Names) (places others : List Place)
    → names_after names (places ++ others)
    ≡ and_then_names (names_after names places) (λ more. names_after more others)
names_after-append names [] others = refl
names_after-append names (at ∷ places) others = and_then_names-names_after
    (names_with names at) places others (λ more. names_after-append more places others)

names_after-drop : {A : Type 0} (names : Names) (part : A → List Place) (xs : List A) (i : ℕ)
    (x : A)
    → i < length xs
    → x ≡ get_or xs i x
    → names_after names (all_places (map part (drop i xs)))
    ≡ and_then_names (names_after names (part x))
    (λ more. names_after more (all_places (map part (drop (i + 1) xs))))
names_after-drop names part xs i x below is =
    ap (λ l. names_after names (all_places (map part l))) (drop-next xs i x below is)
    ∙ names_after-append names (part x) (all_places (map part (drop (i + 1) xs)))

pub ruleset walks = (names_after-append)

-- the walk goes on behind an item whose places were all taken
pub names_after-next : {A : Type 0} {whole : Result Names Refused} (names more : Names)
    (part : A → List Place) (xs : List A) (i : ℕ) (x : A) → i < length xs → x ≡ get_or xs i x
    → whole ≡ names_after names (all_places (map part (drop i xs)))
    → names_after names (part x) ≡ Ok more
    → whole ≡ names_after more (all_places (map part (drop (i + 1) xs)))
names_after-next names more part xs i x below is left goes =
    left ∙ (names_after-drop names part xs i x below is ∙ ap (λ r. and_then_names r (λ last.
    names_after last (all_places (map part (drop (i + 1) xs))))) goes)

-- and ends at one with a place that is refused
pub names_after-stopped : {A : Type 0} {whole : Result Names Refused} (names : Names)
    (part : A → List Place) (xs : List A) (i : ℕ) (x : A) (miss : Miss Refused)
    → i < length xs
    → x ≡ get_or xs i x
    → whole ≡ names_after names (all_places (map part (drop i xs)))
    → Gives (names_after names (part x)) (Err miss)
    → Gives whole (Err miss)
names_after-stopped names part xs i x OutOfMemory below is left stops = stops
names_after-stopped names part xs i x (Because refused) below is left stops =
    left ∙ (names_after-drop names part xs i x below is ∙ ap (λ r. and_then_names r (λ last.
    names_after last (all_places (map part (drop (i + 1) xs))))) stops)

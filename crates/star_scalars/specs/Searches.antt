-- Where a text stands in another one: the Starlark specification, "string·find", "string·rfind",
-- "string·count" and "string·partition".
use Rattle.std.specs.Prelude.{ℕ, suc, ◌+◌, ◌-◌, Bool, nat_eq, if◌then◌else◌}
use Rattle.std.specs.Prelude.{List, [], ◌∷◌, length, take, drop, Option, Some, None}
use Rattle.std.specs.Prelude.{option_map}
use Rattle.std.specs.List.{ends_with, starts_with}
use Rattle.std.specs.Option.{option_or}

-- the text begins, or ends, with another one
abbrev pub begins : List ℕ → List ℕ → Bool
begins text front = starts_with nat_eq text front

abbrev pub ends : List ℕ → List ℕ → Bool
ends text behind = ends_with nat_eq text behind

-- the least index at which the text stands
abbrev pub first_index : List ℕ → List ℕ → Option ℕ
first_index sub [] = if begins [] sub then Some 0 else None
first_index sub (c ∷ text) =
    if begins (c ∷ text) sub then Some 0 else option_map suc (first_index sub text)

-- the greatest one
abbrev pub last_index : List ℕ → List ℕ → Option ℕ
last_index sub [] = if begins [] sub then Some 0 else None
last_index sub (c ∷ text) =
    option_or (option_map suc (last_index sub text))
    (if begins (c ∷ text) sub then Some 0 else None)

-- what stands before and behind a part of that length at an index
abbrev pub parts_at : ℕ → List ℕ → Option ℕ → Option (List ℕ × List ℕ)
parts_at long text index = option_map (λ i. (take i text, drop (i + long) text)) index

-- what stands before and behind the first, or the last, place of a text
abbrev pub cut_first : List ℕ → List ℕ → Option (List ℕ × List ℕ)
cut_first sub text = parts_at (length sub) text (first_index sub text)

abbrev pub cut_last : List ℕ → List ℕ → Option (List ℕ × List ℕ)
cut_last sub text = parts_at (length sub) text (last_index sub text)

-- a text without another one at its front, or at its end
abbrev pub without_prefix : List ℕ → List ℕ → List ℕ
without_prefix front text = if begins text front then drop (length front) text else text

abbrev pub without_suffix : List ℕ → List ℕ → List ℕ
without_suffix behind text =
    if ends text behind then take (length text - length behind) text else text

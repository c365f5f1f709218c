-- Ranges, number by number.
use Rattle.std.proofs.Common.{◌≡◌, ℕ, suc, ◌+◌, ◌*◌, ◌-◌, ◌/◌, ◌%◌, ◌<◌, ◌≤◌, min, ◌⊎◌, inl, inr}
use Rattle.std.proofs.Common.{Bool, true, false, ◌&&◌, ◌||◌, if◌then◌else◌, Option, Some, None}
use Rattle.std.proofs.Common.{List, [], ◌∷◌, ◌++◌, map, refl, ap, sym, subst, ◌∙◌, arith}
use Rattle.std.proofs.Common.{ℤ, pos, ◌+ℤ◌, ◌-ℤ◌}
use Rattle.std.proofs.lemmas.Int.{ints, to_z-of_z}
use Rattle.std.proofs.lemmas.Nat.{div-add-mod', div-mul-add, mod-mul-add, mod_below}
use Rattle.std.proofs.Common.{append_assoc}
use Rattle.std.proofs.lemmas.List.{append-nil}
use Rattle.std.proofs.Math.Nat.{suc-mul}
use Rattle.std.proofs.lemmas.Bool.{cases_lt}
use Rattle.std.specs.Option.{IfNone, IfSome, SomeIff}
use Rattle.std.specs.Int.{cast_signed, cast_unsigned, div_ceil, w64}
use Rattle.std.specs.Int.RustNames.{FitsSigned, int_lt, unsigned_abs}
use Rattle.star_core.specs.declared.values.Val.{Val}
use Rattle.star_core.specs.declared.values.Val.TheVariants.{Int}
use Rattle.star_library.specs.Ranges.{range_items, range_length, steps_from}

div_ceil-parts : (q r step : ℕ) → r < step → div_ceil (q * step + r) step ≡ q + min 1 r
div_ceil-parts q r step below = rw (div-mul-add q step r below, mod-mul-add q step r below) refl

-- a distance of more than a step is one step more than what is left behind it
div_ceil-step : (distance step : ℕ)
    → 0 < step
    → step < distance
    → div_ceil distance step ≡ suc (div_ceil (distance - step) step)
div_ceil-step distance step some more =
    let rest = distance - step in
    let parts : rest / step * step + rest % step ≡ rest = div-add-mod' rest step in
    let whole : distance ≡ suc (rest / step) * step + rest % step =
    rw (suc-mul (rest / step) step) (omega (arith, parts)) in
    ap (λ d. div_ceil d step) whole
    ∙ div_ceil-parts (suc (rest / step)) (rest % step) step (mod_below rest step some)
    ∙ omega arith

-- a distance of at most a step is one step
div_ceil-one : (distance step : ℕ)
    → 0 < distance
    → distance ≤ step
    → div_ceil distance step ≡ 1
div_ceil-one distance step some at_most = by (cases_lt distance step)
  where
    by : (distance < step) ⊎ (step ≤ distance) → div_ceil distance step ≡ 1
    by (inl less) =
        let whole : distance ≡ 0 * step + distance = omega arith in
        ap (λ d. div_ceil d step) whole ∙ div_ceil-parts 0 distance step less ∙ omega arith
    by (inr same) =
        let whole : distance ≡ 1 * step + 0 = omega arith in
        ap (λ d. div_ceil d step) whole ∙ div_ceil-parts 1 0 step (omega arith) ∙ refl

pub no_items : (first stop step : ℤ)
    → range_length first stop step ≡ 0
    → range_items first stop step ≡ []
unfolding steps_from
no_items first stop step none = rw none refl

-- upwards
up_more : (number stop step : ℤ)
    → int_lt (pos 0) step ≡ true
    → int_lt number stop ≡ true
    → unsigned_abs step < unsigned_abs (stop -ℤ number)
    → int_lt (number +ℤ step) stop ≡ true
up_more number stop step rises before more = grind (arith, ints)

up_less : (number stop step : ℤ)
    → int_lt (pos 0) step ≡ true
    → int_lt number stop ≡ true
    → unsigned_abs (stop -ℤ number) ≤ unsigned_abs step
    → int_lt (number +ℤ step) stop ≡ false
up_less number stop step rises before less = grind (arith, ints)

-- downwards
down_more : (number stop step : ℤ)
    → int_lt step (pos 0) ≡ true
    → int_lt stop number ≡ true
    → unsigned_abs step < unsigned_abs (stop -ℤ number)
    → int_lt stop (number +ℤ step) ≡ true
down_more number stop step falls before more = grind (arith, ints)

down_less : (number stop step : ℤ)
    → int_lt step (pos 0) ≡ true
    → int_lt stop number ≡ true
    → unsigned_abs (stop -ℤ number) ≤ unsigned_abs step
    → int_lt stop (number +ℤ step) ≡ false
down_less number stop step falls before less = grind (arith, ints)

one_way : (step : ℤ) → int_lt (pos 0) step ≡ true → int_lt step (pos 0) ≡ false
one_way step rises = grind (arith, ints)

other_way : (step : ℤ) → int_lt step (pos 0) ≡ true → int_lt (pos 0) step ≡ false
other_way step falls = grind (arith, ints)

up_rest : (number stop step : ℤ)
    → int_lt (pos 0) step ≡ true
    → int_lt number stop ≡ true
    → unsigned_abs step < unsigned_abs (stop -ℤ number)
    → unsigned_abs (stop -ℤ (number +ℤ step)) ≡ unsigned_abs (stop -ℤ number) - unsigned_abs step
up_rest number stop step rises before more = grind (arith, ints)

down_rest : (number stop step : ℤ)
    → int_lt step (pos 0) ≡ true
    → int_lt stop number ≡ true
    → unsigned_abs step < unsigned_abs (stop -ℤ number)
    → unsigned_abs (stop -ℤ (number +ℤ step)) ≡ unsigned_abs (stop -ℤ number) - unsigned_abs step
down_rest number stop step falls before more = grind (arith, ints)

some_step_up : (step : ℤ) → int_lt (pos 0) step ≡ true → 0 < unsigned_abs step
some_step_up step rises = grind (arith, ints)

some_step_down : (step : ℤ) → int_lt step (pos 0) ≡ true → 0 < unsigned_abs step
some_step_down step falls = grind (arith, ints)

some_way_up : (number stop : ℤ) → int_lt number stop ≡ true → 0 < unsigned_abs (stop -ℤ number)
some_way_up number stop before = grind (arith, ints)

some_way_down : (number stop : ℤ) → int_lt stop number ≡ true → 0 < unsigned_abs (stop -ℤ number)
some_way_down number stop before = grind (arith, ints)

-- where a range has a number it leads upwards or downwards
LeadsOn : ℤ → ℤ → ℤ → Type 0
LeadsOn number stop step =
    ((int_lt (pos 0) step ≡ true) × (int_lt number stop ≡ true))
    ⊎ ((int_lt step (pos 0) ≡ true) × (int_lt stop number ≡ true))

leads_by : (a b c d : Bool) (n : ℕ)
    → 0 < (if (a && b) || (c && d) then n else 0)
    → ((a ≡ true) × (b ≡ true)) ⊎ ((c ≡ true) × (d ≡ true))
leads_by true true c d n some = inl (refl, refl)
leads_by true false true true n some = inr (refl, refl)
leads_by true false true false n some = absurd (omega (arith, some))
leads_by true false false d n some = absurd (omega (arith, some))
leads_by false b true true n some = inr (refl, refl)
leads_by false b true false n some = absurd (omega (arith, some))
leads_by false b false d n some = absurd (omega (arith, some))

leads : (number stop step : ℤ) → 0 < range_length number stop step → LeadsOn number stop step
unfolding LeadsOn
leads number stop step some =
    leads_by (int_lt (pos 0) step) (int_lt number stop) (int_lt step (pos 0)) (int_lt stop number)
    (div_ceil (unsigned_abs (stop -ℤ number)) (unsigned_abs step)) some

counts_first : (a b c d : Bool) (n : ℕ)
    → a ≡ true
    → b ≡ true
    → (if (a && b) || (c && d) then n else 0) ≡ n
counts_first a b c d n one two = rw (one, two) refl

counts_second : (a b c d : Bool) (n : ℕ)
    → c ≡ true
    → d ≡ true
    → (if (a && b) || (c && d) then n else 0) ≡ n
counts_second true true c d n one two = refl
counts_second true false c d n one two = rw (one, two) refl
counts_second false b c d n one two = rw (one, two) refl

-- how many numbers a range has that leads on
counts : (number stop step : ℤ)
    → LeadsOn number stop step
    → range_length number stop step
    ≡ div_ceil (unsigned_abs (stop -ℤ number)) (unsigned_abs step)
unfolding LeadsOn
counts number stop step (inl h) =
    counts_first (int_lt (pos 0) step) (int_lt number stop) (int_lt step (pos 0))
    (int_lt stop number) (div_ceil (unsigned_abs (stop -ℤ number)) (unsigned_abs step)) h.0 h.1
counts number stop step (inr h) =
    counts_second (int_lt (pos 0) step) (int_lt number stop) (int_lt step (pos 0))
    (int_lt stop number) (div_ceil (unsigned_abs (stop -ℤ number)) (unsigned_abs step)) h.0 h.1

none_by : (a b c d : Bool) (n : ℕ)
    → ((a ≡ false) ⊎ (b ≡ false)) × ((c ≡ false) ⊎ (d ≡ false))
    → (if (a && b) || (c && d) then n else 0) ≡ 0
none_by a b c d n (inl x, inl y) = rw (x, y) refl
none_by true b c d n (inr x, inl y) = rw (x, y) refl
none_by false b c d n (inr x, inl y) = rw y refl
none_by a b true d n (inl x, inr y) = rw (x, y) refl
none_by a b false d n (inl x, inr y) = rw x refl
none_by true b true d n (inr x, inr y) = rw (x, y) refl
none_by true b false d n (inr x, inr y) = rw x refl
none_by false b true d n (inr x, inr y) = rw y refl
none_by false b false d n (inr x, inr y) = refl

ends_up : (number stop step : ℤ)
    → int_lt (pos 0) step ≡ true
    → int_lt number stop ≡ false
    → range_length number stop step ≡ 0
ends_up number stop step rises behind =
    none_by (int_lt (pos 0) step) (int_lt number stop) (int_lt step (pos 0)) (int_lt stop number)
    (div_ceil (unsigned_abs (stop -ℤ number)) (unsigned_abs step))
    (inr behind, inl (one_way step rises))

ends_down : (number stop step : ℤ)
    → int_lt step (pos 0) ≡ true
    → int_lt stop number ≡ false
    → range_length number stop step ≡ 0
ends_down number stop step falls behind =
    none_by (int_lt (pos 0) step) (int_lt number stop) (int_lt step (pos 0)) (int_lt stop number)
    (div_ceil (unsigned_abs (stop -ℤ number)) (unsigned_abs step))
    (inl (other_way step falls), inr behind)

ahead_up : (number stop step : ℤ)
    → int_lt (pos 0) step ≡ true
    → int_lt number stop ≡ true
    → range_length number stop step ≡ suc (range_length (number +ℤ step) stop step)
unfolding LeadsOn
ahead_up number stop step rises before =
    counts number stop step (inl (rises, before))
    ∙ by (cases_lt (unsigned_abs step) (unsigned_abs (stop -ℤ number)))
  where
    by : (unsigned_abs step < unsigned_abs (stop -ℤ number))
        ⊎ (unsigned_abs (stop -ℤ number) ≤ unsigned_abs step)
        → div_ceil (unsigned_abs (stop -ℤ number)) (unsigned_abs step)
        ≡ suc (range_length (number +ℤ step) stop step)
    by (inl more) =
        div_ceil-step (unsigned_abs (stop -ℤ number)) (unsigned_abs step)
        (some_step_up step rises) more
        ∙ ap (λ d. suc (div_ceil d (unsigned_abs step)))
        (sym (up_rest number stop step rises before more))
        ∙ ap suc (sym (counts (number +ℤ step) stop step
        (inl (rises, up_more number stop step rises before more))))
    by (inr less) =
        div_ceil-one (unsigned_abs (stop -ℤ number)) (unsigned_abs step)
        (some_way_up number stop before) less
        ∙ ap suc (sym (ends_up (number +ℤ step) stop step rises
        (up_less number stop step rises before less)))

ahead_down : (number stop step : ℤ)
    → int_lt step (pos 0) ≡ true
    → int_lt stop number ≡ true
    → range_length number stop step ≡ suc (range_length (number +ℤ step) stop step)
unfolding LeadsOn
ahead_down number stop step falls before =
    counts number stop step (inr (falls, before))
    ∙ by (cases_lt (unsigned_abs step) (unsigned_abs (stop -ℤ number)))
  where
    by : (unsigned_abs step < unsigned_abs (stop -ℤ number))
        ⊎ (unsigned_abs (stop -ℤ number) ≤ unsigned_abs step)
        → div_ceil (unsigned_abs (stop -ℤ number)) (unsigned_abs step)
        ≡ suc (range_length (number +ℤ step) stop step)
    by (inl more) =
        div_ceil-step (unsigned_abs (stop -ℤ number)) (unsigned_abs step)
        (some_step_down step falls) more
        ∙ ap (λ d. suc (div_ceil d (unsigned_abs step)))
        (sym (down_rest number stop step falls before more))
        ∙ ap suc (sym (counts (number +ℤ step) stop step
        (inr (falls, down_more number stop step falls before more))))
    by (inr less) =
        div_ceil-one (unsigned_abs (stop -ℤ number)) (unsigned_abs step)
        (some_way_down number stop before) less
        ∙ ap suc (sym (ends_down (number +ℤ step) stop step falls
        (down_less number stop step falls before less)))

-- a range has one number more than that from the next number on
pub one_ahead : (number stop step : ℤ)
    → 0 < range_length number stop step
    → range_length number stop step ≡ suc (range_length (number +ℤ step) stop step)
unfolding LeadsOn
one_ahead number stop step some = by (leads number stop step some)
  where
    by : LeadsOn number stop step
        → range_length number stop step ≡ suc (range_length (number +ℤ step) stop step)
    by (inl h) = ahead_up number stop step h.0 h.1
    by (inr h) = ahead_down number stop step h.0 h.1

pub items_ahead : (number stop step : ℤ)
    → 0 < range_length number stop step
    → range_items number stop step ≡ number ∷ range_items (number +ℤ step) stop step
unfolding steps_from
items_ahead number stop step some =
    ap (λ count. steps_from count number step) (one_ahead number stop step some)

between : (a z b : ℤ)
    → FitsSigned w64 a
    → FitsSigned w64 b
    → int_lt a z ≡ true
    → int_lt z b ≡ true
    → FitsSigned w64 z
between a z b low high above below = omega (arith, ints)

moves_up : (number step : ℤ) → int_lt (pos 0) step ≡ true → int_lt number (number +ℤ step) ≡ true
moves_up number step rises = grind (arith, ints)

moves_down : (number step : ℤ) → int_lt step (pos 0) ≡ true → int_lt (number +ℤ step) number ≡ true
moves_down number step falls = grind (arith, ints)

-- where the next number has no 64 bits there is none
pub nothing_behind : (number stop step : ℤ)
    → 0 < range_length number stop step
    → FitsSigned w64 number
    → FitsSigned w64 stop
    → ¬ (FitsSigned w64 (number +ℤ step))
    → range_length (number +ℤ step) stop step ≡ 0
unfolding LeadsOn
nothing_behind number stop step some first last unfit = by (leads number stop step some)
  where
    up : (b : Bool)
        → int_lt (number +ℤ step) stop ≡ b
        → int_lt (pos 0) step ≡ true
        → range_length (number +ℤ step) stop step ≡ 0
    up true is rises =
        absurd (unfit (between number (number +ℤ step) stop first last
        (moves_up number step rises) is))
    up false is rises = ends_up (number +ℤ step) stop step rises is

    down : (b : Bool)
        → int_lt stop (number +ℤ step) ≡ b
        → int_lt step (pos 0) ≡ true
        → range_length (number +ℤ step) stop step ≡ 0
    down true is falls =
        absurd (unfit (between stop (number +ℤ step) number last first is
        (moves_down number step falls)))
    down false is falls = ends_down (number +ℤ step) stop step falls is

    by : LeadsOn number stop step → range_length (number +ℤ step) stop step ≡ 0
    by (inl h) = up (int_lt (number +ℤ step) stop) refl h.0
    by (inr h) = down (int_lt stop (number +ℤ step)) refl h.0

-- what a sum of 64 bits says of the rest
abbrev pub Next : ℤ → ℤ → Option ℤ → Type 0
Next number step next = SomeIff next (FitsSigned w64 (number +ℤ step)) (number +ℤ step)

-- the same, as a sum of two numbers of 64 bits says it
pub next_of : (number step : ℤ) (next : Option ℤ)
    → FitsSigned w64 number
    → FitsSigned w64 step
    → Next (cast_signed w64 (cast_unsigned w64 number)) (cast_signed w64 (cast_unsigned w64 step))
    next
    → Next number step next
next_of number step next one other is =
    subst (λ y. Next number y next) (to_z-of_z w64 step other)
    (subst (λ x. Next x (cast_signed w64 (cast_unsigned w64 step)) next)
    (to_z-of_z w64 number one) is)

pub next_items : (number stop step : ℤ) (next : Option ℤ)
    → 0 < range_length number stop step
    → Next number step next
    → IfSome next (λ more. range_items number stop step ≡ number ∷ range_items more stop step)
next_items number stop step None some is = tt
next_items number stop step (Some more) some is = rw is.1 (items_ahead number stop step some)

pub next_fewer : (number stop step : ℤ) (next : Option ℤ)
    → 0 < range_length number stop step
    → Next number step next
    → IfSome next (λ more. range_length number stop step ≡ suc (range_length more stop step))
next_fewer number stop step None some is = tt
next_fewer number stop step (Some more) some is = rw is.1 (one_ahead number stop step some)

pub next_last : (number stop step : ℤ) (next : Option ℤ)
    → 0 < range_length number stop step
    → FitsSigned w64 number
    → FitsSigned w64 stop
    → Next number step next
    → IfNone next (range_items number stop step ≡ number ∷ [])
next_last number stop step None some first last is =
    items_ahead number stop step some
    ∙ ap (λ rest. number ∷ rest) (no_items (number +ℤ step) stop step
    (nothing_behind number stop step some first last is))
next_last number stop step (Some more) some first last is = tt

-- one value more is made of what is left
pub one_made : (values made whole : List Val) (number next stop step : ℤ)
    → values ++ map Int (range_items number stop step) ≡ whole
    → range_items number stop step ≡ number ∷ range_items next stop step
    → made ≡ values ++ Int number ∷ []
    → made ++ map Int (range_items next stop step) ≡ whole
one_made values made whole number next stop step all is push =
    rw push (append_assoc values (Int number ∷ []) (map Int (range_items next stop step))
    ∙ ap (λ rest. values ++ map Int rest) (sym is)
    ∙ all)

-- nothing is left
pub all_made : (values whole : List Val) (number stop step : ℤ) (count turn : ℕ)
    → values ++ map Int (range_items number stop step) ≡ whole
    → range_length number stop step ≡ count - turn
    → count ≤ turn
    → values ≡ whole
all_made values whole number stop step count turn all is over =
    let none : range_length number stop step ≡ 0 = rw is (omega (arith, over)) in
    sym (append-nil values)
    ∙ ap (λ rest. values ++ map Int rest) (sym (no_items number stop step none))
    ∙ all

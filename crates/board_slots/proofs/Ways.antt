-- A walk, step by step.
use Rattle.std.proofs.Common.{◌≡◌, ◌≢◌, ℕ, zero, suc, ◌+◌, ◌-◌, ◌<◌, ◌==◌, Bool, true, false, List, [], ◌∷◌, ◌++◌, Option, Some, None, option_map, refl, ap, sym, ◌∙◌, arith, if◌then◌else◌, append_assoc}
use Rattle.std.specs.Prelude.{is_some}
use Rattle.std.proofs.lemmas.Bool.Decides.{nat_tests}
use Rattle.board_machine.specs.Boards.{walk, option_then}

pub way_steps : (next : ℕ → Option ℕ) (goal all step at : ℕ) → step < all
    → walk next goal (all - step) at ≡ (if at == goal then Some [] else option_then (λ other. option_map (λ places. at ∷ places) (walk next goal (all - (step + 1)) other)) (next at))
unfolding walk
way_steps next goal all step at h = let is : all - step ≡ suc (all - (step + 1)) = omega arith in rw is refl

pub way_here : (next : ℕ → Option ℕ) (goal steps at : ℕ) → at ≡ goal → walk next goal steps at ≡ Some []
unfolding walk
way_here next goal zero at e = let on : at == goal ≡ true = grind (arith, nat_tests) in rw on refl
way_here next goal (suc steps) at e = let on : at == goal ≡ true = grind (arith, nat_tests) in rw on refl

pub way_stops : (next : ℕ → Option ℕ) (goal steps at : ℕ) → at ≢ goal → next at ≡ None → walk next goal steps at ≡ None
unfolding walk
way_stops next goal zero at off e = let away : at == goal ≡ false = grind (arith, nat_tests) in rw away refl
way_stops next goal (suc steps) at off e = let away : at == goal ≡ false = grind (arith, nat_tests) in rw (away, e) refl

pub way_ends : (next : ℕ → Option ℕ) (goal at : ℕ) → at ≢ goal → walk next goal 0 at ≡ None
unfolding walk
way_ends next goal at off = let away : at == goal ≡ false = grind (arith, nat_tests) in rw away refl

pub way_goes : (next : ℕ → Option ℕ) (goal all step at other : ℕ) (so : List ℕ) → step < all → at ≢ goal → next at ≡ Some other
    → option_map (λ rest. so ++ rest) (walk next goal (all - step) at) ≡ option_map (λ rest. (so ++ at ∷ []) ++ rest) (walk next goal (all - (step + 1)) other)
way_goes next goal all step at other so h off e =
    let away : at == goal ≡ false = grind (arith, nat_tests) in
    ap (option_map (λ rest. so ++ rest)) (way_steps next goal all step at h
    ∙ ap (λ b. if b then Some [] else option_then (λ other. option_map (λ places. at ∷ places) (walk next goal (all - (step + 1)) other)) (next at)) away
    ∙ ap (option_then (λ other. option_map (λ places. at ∷ places) (walk next goal (all - (step + 1)) other))) e) ∙ joined (walk next goal (all - (step + 1)) other)
  where
    joined : (o : Option (List ℕ)) → option_map (λ rest. so ++ rest) (option_map (λ places. at ∷ places) o) ≡ option_map (λ rest. (so ++ at ∷ []) ++ rest) o
    joined None = refl
    joined (Some rest) = ap (λ x. Some x) (sym (append_assoc so (at ∷ []) rest))

pub leads_on : (next : ℕ → Option ℕ) (goal all step at other : ℕ) → step < all → at ≢ goal
    → next at ≡ Some other
    → is_some (walk next goal (all - step) at) ≡ is_some (walk next goal (all - (step + 1)) other)
leads_on next goal all step at other h off e =
    let away : at == goal ≡ false = grind (arith, nat_tests) in
    ap is_some (way_steps next goal all step at h
    ∙ ap (λ b. if b then Some [] else option_then (λ other. option_map (λ places. at ∷ places)
    (walk next goal (all - (step + 1)) other)) (next at)) away
    ∙ ap (option_then (λ other. option_map (λ places. at ∷ places)
    (walk next goal (all - (step + 1)) other))) e) ∙ joined (walk next goal (all - (step + 1)) other)
  where
    joined : (o : Option (List ℕ)) → is_some (option_map (λ places. at ∷ places) o) ≡ is_some o
    joined None = refl
    joined (Some rest) = refl

pub leads_ends : (next : ℕ → Option ℕ) (goal at : ℕ) → is_some (walk next goal 0 at) ≡ (at == goal)
unfolding walk
leads_ends next goal at = go (at == goal)
  where
    go : (b : Bool) → is_some {T = List ℕ} (if b then Some [] else None) ≡ b
    go true = refl
    go false = refl

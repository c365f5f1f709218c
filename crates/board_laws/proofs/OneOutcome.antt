-- The rules leave no choice.
use Rattle.std.proofs.Common.{◌≡◌, Bool, true, false, List, [], ◌∷◌, ap, subst, Result, Ok, Err}
use Rattle.board_laws.specs.Works.{Answer, Found, Value, Rules}
use Rattle.board_laws.specs.Recursive.{on_path, path_from, cycle_of, Evaluates, done, refused}
use Rattle.board_laws.specs.Recursive.{reads, round_trip, given, passed}

on_off : {b : Bool} → b ≡ true → b ≡ false → ⊥
on_off h g = cc

module _ {J F A V R : Type 0} (rules : Rules J F A V R) where
  -- on any path a job has at most one outcome
  pub evaluates_same : {path : List J} {j : J} {answers : List (Answer A V)} {o o' : Result V R}
      → Evaluates rules path j answers o → Evaluates rules path j answers o' → o ≡ o'
  evaluates_same {path} {j} {answers} {o} {o'} (done e) (done e') = cc
  evaluates_same {path} {j} {answers} {o} {o'} (done e) (refused e') = cc
  evaluates_same {path} {j} {answers} {o} {o'} (done e) (reads {f = g} e' d') = cc
  evaluates_same {path} {j} {answers} {o} {o'} (done e) (round_trip {k = l} e' on') = cc
  evaluates_same {path} {j} {answers} {o} {o'} (done e) (given {k = l} {v = w} e' off' c' d') = cc
  evaluates_same {path} {j} {answers} {o} {o'} (done e) (passed {k = l} e' off' c') = cc
  evaluates_same {path} {j} {answers} {o} {o'} (refused e) (done e') = cc
  evaluates_same {path} {j} {answers} {o} {o'} (refused e) (refused e') = cc
  evaluates_same {path} {j} {answers} {o} {o'} (refused e) (reads {f = g} e' d') = cc
  evaluates_same {path} {j} {answers} {o} {o'} (refused e) (round_trip {k = l} e' on') = cc
  evaluates_same {path} {j} {answers} {o} {o'} (refused e) (given {k = l} {v = w} e' off' c' d') =
      cc
  evaluates_same {path} {j} {answers} {o} {o'} (refused e) (passed {k = l} e' off' c') = cc
  evaluates_same {path} {j} {answers} {o} {o'} (reads {f = f} e d) (done e') = cc
  evaluates_same {path} {j} {answers} {o} {o'} (reads {f = f} e d) (refused e') = cc
  evaluates_same {path} {j} {answers} {o} {o'} (reads {f = f} e d) (reads {f = g} e' d') =
      let same : g ≡ f = cc in
      evaluates_same d
      (subst (λ x. Evaluates rules path j (Found (rules.file x) ∷ answers) o') same d')
  evaluates_same {path} {j} {answers} {o} {o'} (reads {f = f} e d) (round_trip {k = l} e' on') = cc
  evaluates_same {path} {j} {answers} {o} {o'} (reads {f = f} e d)
      (given {k = l} {v = w} e' off' c' d') = cc
  evaluates_same {path} {j} {answers} {o} {o'} (reads {f = f} e d) (passed {k = l} e' off' c') = cc
  evaluates_same {path} {j} {answers} {o} {o'} (round_trip {k = k} e on) (done e') = cc
  evaluates_same {path} {j} {answers} {o} {o'} (round_trip {k = k} e on) (refused e') = cc
  evaluates_same {path} {j} {answers} {o} {o'} (round_trip {k = k} e on) (reads {f = g} e' d') = cc
  evaluates_same {path} {j} {answers} {o} {o'} (round_trip {k = k} e on)
      (round_trip {k = l} e' on') = let same : k ≡ l = cc in
      ap (λ x. Err (cycle_of rules (path_from rules x (j ∷ path) []))) same
  evaluates_same {path} {j} {answers} {o} {o'} (round_trip {k = k} e on)
      (given {k = l} {v = w} e' off' c' d') = let same : k ≡ l = cc in
      absurd (on_off (subst (λ x. on_path rules x (j ∷ path) ≡ true) same on) off')
  evaluates_same {path} {j} {answers} {o} {o'} (round_trip {k = k} e on)
      (passed {k = l} e' off' c') = let same : k ≡ l = cc in
      absurd (on_off (subst (λ x. on_path rules x (j ∷ path) ≡ true) same on) off')
  evaluates_same {path} {j} {answers} {o} {o'} (given {k = k} {v = v} e off c d) (done e') = cc
  evaluates_same {path} {j} {answers} {o} {o'} (given {k = k} {v = v} e off c d) (refused e') = cc
  evaluates_same {path} {j} {answers} {o} {o'} (given {k = k} {v = v} e off c d)
      (reads {f = g} e' d') = cc
  evaluates_same {path} {j} {answers} {o} {o'} (given {k = k} {v = v} e off c d)
      (round_trip {k = l} e' on') = let same : l ≡ k = cc in
      absurd (on_off (subst (λ x. on_path rules x (j ∷ path) ≡ true) same on') off)
  evaluates_same {path} {j} {answers} {o} {o'} (given {k = k} {v = v} e off c d)
      (given {k = l} {v = w} e' off' c' d') =
      let same : l ≡ k = cc in
      let one = evaluates_same c (subst (λ x. Evaluates rules (j ∷ path) x [] (Ok w)) same c') in
      let value : w ≡ v = cc in
      evaluates_same d (subst (λ x. Evaluates rules path j (Value x ∷ answers) o') value d')
  evaluates_same {path} {j} {answers} {o} {o'} (given {k = k} {v = v} e off c d)
      (passed {k = l} e' off' c') = let same : l ≡ k = cc in let one =
      evaluates_same c (subst (λ x. Evaluates rules (j ∷ path) x [] o') same c') in absurd (cc)
  evaluates_same {path} {j} {answers} {o} {o'} (passed {k = k} e off c) (done e') = cc
  evaluates_same {path} {j} {answers} {o} {o'} (passed {k = k} e off c) (refused e') = cc
  evaluates_same {path} {j} {answers} {o} {o'} (passed {k = k} e off c) (reads {f = g} e' d') = cc
  evaluates_same {path} {j} {answers} {o} {o'} (passed {k = k} e off c)
      (round_trip {k = l} e' on') = let same : l ≡ k = cc in
      absurd (on_off (subst (λ x. on_path rules x (j ∷ path) ≡ true) same on') off)
  evaluates_same {path} {j} {answers} {o} {o'} (passed {k = k} e off c)
      (given {k = l} {v = w} e' off' c' d') = let same : l ≡ k = cc in let one =
      evaluates_same c (subst (λ x. Evaluates rules (j ∷ path) x [] (Ok w)) same c') in absurd (cc)
  evaluates_same {path} {j} {answers} {o} {o'} (passed {k = k} e off c)
      (passed {k = l} e' off' c') = let same : l ≡ k = cc in
      evaluates_same c (subst (λ x. Evaluates rules (j ∷ path) x [] o') same c')

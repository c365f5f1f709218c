-- The first need that is open.
use Rattle.std.proofs.Common.{◌≡◌, ℕ, true, false, List, length, ap, sym, ◌∙◌, Option, Some, ◌≤◌}
use Rattle.std.proofs.Common.{None, slice_get, ◌⊎◌, inl, inr, subst, arith}
use Rattle.std.proofs.lemmas.Option.{slice_get_within}
use Rattle.std.specs.Borrow.{Bor}
use Rattle.std.specs.List.{position_or_len}
use Rattle.std.specs.Option.{option_copied}
use Rattle.board_machine.specs.Boards.{Needed, File, Job}
use Rattle.board_machine.proofs.Slots.{position_found}
use Rattle.board_slots.specs.Needs.{IsFirstOpen, IsNumbered, is_open, open_path_of}

module _ {A : Type 0} where
  no_path : (need : Needed A) → None ≡ open_path_of need → is_open need ≡ true → ⊥
  no_path (File path None) e h = cc
  no_path (File path (Some found)) e h = cc
  no_path (Job place) e h = cc

  path_is : (need : Needed A) (path : List ℕ) → Some path ≡ open_path_of need
      → need ≡ File path None
  path_is (File other None) path e = let same : other ≡ path = cc in ap (λ p. File p None) same
  path_is (File other (Some found)) path e = absurd (cc)
  path_is (Job place) path e = absurd (cc)

  -- no need stands at the place of the first open one
  pub none_open : (needs : List (Needed A)) (number : ℕ) → number ≡ position_or_len is_open needs
      → length needs ≤ number → position_or_len is_open needs ≡ length needs
  none_open needs number is past = go (position_found is_open needs)
    where
      go : ((x : Needed A) × (slice_get needs (position_or_len is_open needs) ≡ Some x)
          × (is_open x ≡ true))
          ⊎ ((position_or_len is_open needs ≡ length needs)
          × ((at : ℕ) (y : Needed A) → slice_get needs at ≡ Some y → is_open y ≡ false))
          → position_or_len is_open needs ≡ length needs
      go (inl found) =
          let less = slice_get_within needs (position_or_len is_open needs) found.0 found.1 in
          absurd (omega (arith, less, is, past))
      go (inr end) = end.0

  past_end : (needs : List (Needed A)) (at : ℕ) → at ≡ length needs → (need : Needed A)
      → slice_get needs at ≡ Some need → ⊥
  past_end needs at e need stands =
      let less = slice_get_within needs at need stands in omega (arith, e, less)

  first_open_need : (needs : List (Needed A)) (need : Needed A)
      → slice_get needs (position_or_len is_open needs) ≡ Some need → is_open need ≡ true
  first_open_need needs need stands = go (position_found is_open needs)
    where
      go : ((x : Needed A) × (slice_get needs (position_or_len is_open needs) ≡ Some x)
          × (is_open x ≡ true))
          ⊎ ((position_or_len is_open needs ≡ length needs)
          × ((at : ℕ) (y : Needed A) → slice_get needs at ≡ Some y → is_open y ≡ false))
          → is_open need ≡ true
      go (inl found) =
          let there = found.1 in let same : found.0 ≡ need = cc in
          ap is_open (sym same) ∙ found.2
      go (inr past) = absurd (past_end needs (position_or_len is_open needs) past.0 need stands)

  pub numbered_open : (needs : List (Needed A)) (number : ℕ) (need : Needed A)
      (path : Option (Bor (List ℕ))) (result : Option (ℕ × Bor (List ℕ)))
      → number ≡ position_or_len is_open needs → slice_get needs number ≡ Some need
      → option_copied path ≡ open_path_of need → IsNumbered number path result
      → IsFirstOpen needs result
  numbered_open needs number need None result is stands copied numbered =
      absurd (no_path need copied
      (first_open_need needs need (ap (slice_get needs) (sym is) ∙ stands)))
  numbered_open needs number need (Some path) result is stands copied numbered =
      subst (IsFirstOpen needs) (sym numbered)
      (is, stands ∙ ap (λ n. Some n) (path_is need path.now copied))

-- The texts of jobs at some places, one by one.
use Rattle.std.proofs.Common.{◌≡◌, ℕ, List, [], ◌∷◌, ◌++◌, refl, ap, sym, ◌∙◌, Option}
use Rattle.std.proofs.Common.{None, Some, append_assoc, append-nil, map, slice_get}
use Rattle.std.proofs.Common.{arith, false, length}
use Rattle.std.specs.Prelude.{nat_lt}
use Rattle.std.proofs.lemmas.Bool.Decides.{nat_tests}
use Rattle.std.proofs.lemmas.Option.{slice_get_within}
use Rattle.board_machine.specs.Boards.{Slot, job_in, jobs_at}

module _ {J A V R T : Type 0} (text : J → T) where
  texts_joined : (o : Option (Slot J A V R)) (jobs : List J)
      → map text (job_in o jobs) ≡ map text (job_in o []) ++ map text jobs
  texts_joined None jobs = refl
  texts_joined (Some slot) jobs = refl

  pub none_there : (texts : List T) (slots : List (Slot J A V R)) (place : ℕ)
      → false ≡ nat_lt place (length slots)
      → texts ≡ texts ++ map text (job_in (slice_get slots place) [])
  none_there texts slots place past = go (slice_get slots place) refl
    where
      go : (o : Option (Slot J A V R)) → slice_get slots place ≡ o
          → texts ≡ texts ++ map text (job_in o [])
      go None e = sym (append-nil texts)
      go (Some slot) e = let less = slice_get_within slots place slot e in
          absurd (grind (arith, nat_tests, less, past))

  pub texts_next : (slots : List (Slot J A V R)) (place : ℕ) (places rest : List ℕ)
      (texts new all : List T) → new ≡ texts ++ map text (job_in (slice_get slots place) [])
      → places ≡ place ∷ rest → texts ++ map text (jobs_at slots places) ≡ all
      → new ++ map text (jobs_at slots rest) ≡ all
  texts_next slots place places rest texts new all is first so =
      ap (λ ts. ts ++ map text (jobs_at slots rest)) is
      ∙ append_assoc texts (map text (job_in (slice_get slots place) [])) (map text (jobs_at slots rest))
      ∙ ap (λ t. texts ++ t) (sym (texts_joined (slice_get slots place) (jobs_at slots rest)))
      ∙ ap (λ ps. texts ++ map text (jobs_at slots ps)) (sym first) ∙ so

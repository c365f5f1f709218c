-- What a work means: each turn is a function of the job and of the answers given so far.
use Rattle.std.specs.Prelude.{ℕ, Bool, true, ◌≡◌, List}

-- what a job comes to next: its value, a refusal, a file to read, or a job to ask
pub data Turn (J F V R : Type 0) : Type 0 where
  Done : V → Turn J F V R
  Refused : R → Turn J F V R
  Reads : F → Turn J F V R
  Asks : J → Turn J F V R

-- what a job is given: what stands at a file, or another job's value
pub data Answer (A V : Type 0) : Type 0 where
  Found : A → Answer A V
  Value : V → Answer A V

-- the answers stand latest first
pub record Rules (J F A V R : Type 0) : Type 0 where
  pub run : J → List (Answer A V) → Turn J F V R
  pub file : F → A
  pub text : J → List ℕ
  pub own : J → Bool
  pub cycle : List (List ℕ) → R

-- of the work's own jobs two are equal where their texts are, and such a job asks only such jobs
pub record Lawful {J F A V R : Type 0} (rules : Rules J F A V R) : Type 0 where
  pub same : (j k : J) → rules.own j ≡ true → rules.own k ≡ true → rules.text j ≡ rules.text k
      → j ≡ k
  pub owns : (j k : J) (answers : List (Answer A V)) → rules.own j ≡ true
      → rules.run j answers ≡ Asks k → rules.own k ≡ true

-- What is found on a path holds without one.
use Rattle.std.proofs.Common.{◌≡◌, Bool, true, false, List, [], ◌∷◌, refl, ap, sym, ◌∙◌, subst}
use Rattle.std.proofs.Common.{if◌then◌else◌, Result, Ok, Err}
use Rattle.std.specs.Str.{bytes_eq}
use Rattle.board_laws.specs.Recursive.{same_job, on_path, path_from, cycle_of, Evaluates, done}
use Rattle.board_laws.specs.Recursive.{refused, reads, round_trip, given, passed}
use Rattle.board_laws.specs.Works.{Asks, Answer, Rules, Lawful}
use Rattle.board_laws.specs.Results.{ComesTo, IsGiven, AsksNext, Chain, last, more, DiffersFrom}
use Rattle.board_laws.specs.Results.{AllDiffer, IsRefusedWith, LeadsTo, AllOwn}
use Rattle.board_laws.proofs.Turning.{text_same, text_itself}

pub by_test : {P : Type 0} (b : Bool) → (b ≡ true → P) → (b ≡ false → P) → P
by_test true yes_case no_case = yes_case refl
by_test false yes_case no_case = no_case refl

-- so much is known of an outcome without a path
abbrev pub From : {J F A V R : Type 0} → Rules J F A V R → J → List (Answer A V) → Result V R
    → Type 0
From rules j answers (Ok v) = ComesTo rules j answers v
From rules j answers (Err r) = IsRefusedWith rules j r

-- none of the jobs stands in the list
pub data EachDiffersFrom {J F A V R : Type 0} (rules : Rules J F A V R) : List J → List J
    → Type 0 where
  nil : {jobs : List J} → EachDiffersFrom rules [] jobs
  cons : {k : J} {path jobs : List J} → DiffersFrom rules k jobs → EachDiffersFrom rules path jobs
      → EachDiffersFrom rules (k ∷ path) jobs

module _ {J F A V R : Type 0} (rules : Rules J F A V R) where
  pub all_absent_nil : (path : List J) → EachDiffersFrom rules path []
  all_absent_nil [] = EachDiffersFrom.nil
  all_absent_nil (k ∷ path) = EachDiffersFrom.cons DiffersFrom.nil (all_absent_nil path)

  pub all_absent_more : {j : J} {path jobs : List J} → DiffersFrom rules j path
      → EachDiffersFrom rules path jobs → EachDiffersFrom rules path (j ∷ jobs)
  all_absent_more DiffersFrom.nil EachDiffersFrom.nil = EachDiffersFrom.nil
  all_absent_more (DiffersFrom.cons apart rest) (EachDiffersFrom.cons away others) =
      EachDiffersFrom.cons (DiffersFrom.cons (λ e. apart (sym e)) away)
      (all_absent_more rest others)

  pub off_absent : (k : J) (path : List J) → on_path rules k path ≡ false → DiffersFrom rules k path
  off_absent k [] h = DiffersFrom.nil
  off_absent k (j ∷ path) h = go (same_job rules k j) refl h (off_absent k path)
    where
      go : (b : Bool) → same_job rules k j ≡ b → (if b then true else on_path rules k path) ≡ false
          → (on_path rules k path ≡ false → DiffersFrom rules k path)
          → DiffersFrom rules k (j ∷ path)
      go true e h rest = absurd (cc)
      go false e h rest =
          DiffersFrom.cons (λ same. let all = text_itself (rules.text j) in absurd (differs same e))
          (rest h)
        where
          differs : rules.text k ≡ rules.text j → same_job rules k j ≡ false → ⊥
          differs same e = let all : bytes_eq (rules.text j) (rules.text j) ≡ false =
              subst (λ t. bytes_eq t (rules.text j) ≡ false) same e in let one =
              text_itself (rules.text j) in cc

  path_from-here : (k x : J) (path behind : List J) → same_job rules k x ≡ true
      → path_from rules k (x ∷ path) behind ≡ x ∷ behind
  path_from-here k x path behind e =
      ap (λ b. if b then x ∷ behind else path_from rules k path (x ∷ behind)) e

  path_from-there : (k x : J) (path behind : List J) → same_job rules k x ≡ false
      → path_from rules k (x ∷ path) behind ≡ path_from rules k path (x ∷ behind)
  path_from-there k x path behind e =
      ap (λ b. if b then x ∷ behind else path_from rules k path (x ∷ behind)) e

  on-there : (k x : J) (path : List J) → same_job rules k x ≡ false
      → on_path rules k (x ∷ path) ≡ on_path rules k path
  on-there k x path e = ap (λ b. if b then true else on_path rules k path) e

  same_one : (law : Lawful rules) {k x : J} → rules.own k ≡ true → rules.own x ≡ true
      → same_job rules k x ≡ true → x ≡ k
  same_one law {k} {x} own_k own_x e =
      law.same x k own_x own_k (sym (text_same (rules.text k) (rules.text x) e))

  pub own_more : (law : Lawful rules) {j k : J} {path : List J} {answers : List (Answer A V)}
      → rules.run j answers ≡ Asks k → AllOwn rules (j ∷ path) → AllOwn rules (k ∷ j ∷ path)
  own_more law {j} {k} {answers = answers} e (AllOwn.cons own owned) =
      AllOwn.cons (law.owns j k answers own e) (AllOwn.cons own owned)

  -- a job that is asked again by its own chain of jobs is refused with the cycle
  pub path_from_refused : (law : Lawful rules) (k : J) (path : List J) (x : J) (behind : List J)
      → rules.own k ≡ true → AllOwn rules (x ∷ path) → LeadsTo rules path x → Chain rules x behind k
      → AllDiffer rules (x ∷ behind) → EachDiffersFrom rules path (x ∷ behind)
      → AllDiffer rules path → on_path rules k (x ∷ path) ≡ true
      → IsRefusedWith rules k (cycle_of rules (path_from rules k (x ∷ path) behind))
  path_from_refused law k [] x behind own (AllOwn.cons own' owned) leads chain apart away others
      on = by_test (same_job rules k x) found missed
    where
      found : same_job rules k x ≡ true
          → IsRefusedWith rules k (cycle_of rules (path_from rules k (x ∷ []) behind))
      found e =
          let same : x ≡ k = same_one law own own' e in
          subst (λ jobs. IsRefusedWith rules k (cycle_of rules jobs))
          (ap (λ z. z ∷ behind) (sym same) ∙ sym (path_from-here k x [] behind e))
          (IsRefusedWith.cycle (subst (λ z. Chain rules z behind k) same chain)
          (subst (λ z. AllDiffer rules (z ∷ behind)) same apart))

      missed : same_job rules k x ≡ false
          → IsRefusedWith rules k (cycle_of rules (path_from rules k (x ∷ []) behind))
      missed e = let away = on-there k x [] e in absurd (cc)
  path_from_refused law k (y ∷ path) x behind own (AllOwn.cons own' owned) (LeadsTo.cons a leads)
      chain apart (EachDiffersFrom.cons away rest) (AllDiffer.cons apart' others) on =
      by_test (same_job rules k x) found
      (λ e. subst (λ jobs. IsRefusedWith rules k (cycle_of rules jobs))
      (sym (path_from-there k x (y ∷ path) behind e))
      (path_from_refused law k path y (x ∷ behind) own owned leads (more a chain)
      (AllDiffer.cons away apart) (all_absent_more apart' rest) others
      (sym (on-there k x (y ∷ path) e) ∙ on)))
    where
      found : same_job rules k x ≡ true
          → IsRefusedWith rules k (cycle_of rules (path_from rules k (x ∷ y ∷ path) behind))
      found e =
          let same : x ≡ k = same_one law own own' e in
          subst (λ jobs. IsRefusedWith rules k (cycle_of rules jobs))
          (ap (λ z. z ∷ behind) (sym same) ∙ sym (path_from-here k x (y ∷ path) behind e))
          (IsRefusedWith.cycle (subst (λ z. Chain rules z behind k) same chain)
          (subst (λ z. AllDiffer rules (z ∷ behind)) same apart))

  -- what is found on the path of those that ask for a job holds without it
  pub evaluates_from : (law : Lawful rules) {path : List J} {j : J} {answers : List (Answer A V)}
      {o : Result V R}
      → LeadsTo rules path j → AllDiffer rules (j ∷ path) → AllOwn rules (j ∷ path)
      → IsGiven rules j answers → Evaluates rules path j answers o → From rules j answers o
  evaluates_from law leads apart owned h (done e) = ComesTo.done e
  evaluates_from law leads apart owned h (refused e) = IsRefusedWith.own h e
  evaluates_from law {o = Ok v} leads apart owned h (reads e d) =
      ComesTo.reads e (evaluates_from law leads apart owned (IsGiven.file h e) d)
  evaluates_from law {o = Err r} leads apart owned h (reads e d) =
      evaluates_from law leads apart owned (IsGiven.file h e) d
  evaluates_from law {path} {j} {answers} leads (AllDiffer.cons away apart) (AllOwn.cons own owned)
      h (round_trip {k = k} e on) =
      let a : AsksNext rules j k = record { answers = answers; is_given = h; asks = e } in
      IsRefusedWith.asked a
      (path_from_refused law k path j [] (law.owns j k answers own e) (AllOwn.cons own owned)
      leads (last a) (AllDiffer.cons DiffersFrom.nil AllDiffer.nil)
      (all_absent_more away (all_absent_nil path)) apart on)
  evaluates_from law {path} {j} {answers} {o = Ok v} leads apart owned h (given {k = k} e off c d) =
      let value = evaluates_from law (LeadsTo.cons (record { answers = answers; is_given = h; asks = e }) leads) (AllDiffer.cons (off_absent k (j ∷ path) off) apart)
      (own_more law e owned) IsGiven.none c in
      ComesTo.given e value (evaluates_from law leads apart owned (IsGiven.value h e value) d)
  evaluates_from law {path} {j} {answers} {o = Err r} leads apart owned h (given {k = k} e off c d)
      =
      let value = evaluates_from law (LeadsTo.cons (record { answers = answers; is_given = h; asks = e }) leads) (AllDiffer.cons (off_absent k (j ∷ path) off) apart)
      (own_more law e owned) IsGiven.none c in
      evaluates_from law leads apart owned (IsGiven.value h e value) d
  evaluates_from law {path} {j} {answers} leads apart owned h (passed {k = k} e off c) =
      let a : AsksNext rules j k = record { answers = answers; is_given = h; asks = e } in
      IsRefusedWith.asked a
      (evaluates_from law (LeadsTo.cons a leads)
      (AllDiffer.cons (off_absent k (j ∷ path) off) apart) (own_more law e owned) IsGiven.none
      c)

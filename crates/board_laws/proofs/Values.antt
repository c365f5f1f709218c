-- Values, and the answers that lead to them.
use Rattle.std.proofs.Common.{◌≡◌, ℕ, ◌+◌, ◌<◌, ◌≤◌, zero, suc, List, [], ◌∷◌, length, refl, sym}
use Rattle.std.proofs.Common.{subst, arith, ◌⊎◌, inl, inr}
use Rattle.std.proofs.lemmas.Bool.{cases_lt, cases_order}
use Rattle.board_laws.specs.Works.{Done, Refused, Reads, Asks, Answer, Found, Value, Rules}
use Rattle.board_laws.specs.Results.{ComesTo, done, reads, given, IsGiven, none, file, value}
use Rattle.board_laws.specs.Results.{AsksNext, Chain, last, more}

-- no answer comes behind these
abbrev pub IsLast : {J F A V R : Type 0} → Rules J F A V R → J → List (Answer A V) → Type 0
IsLast {A = A} {V = V} rules j answers = (answer : Answer A V) → IsGiven rules j (answer ∷ answers)
    → ⊥

abbrev pub IsNone : {J F A V R : Type 0} → Rules J F A V R → J → Type 0
IsNone {V = V} rules j = (v : V) → ComesTo rules j [] v → ⊥

module _ {J F A V R : Type 0} (rules : Rules J F A V R) where
  -- a job has one value
  pub ends_same : {j : J} {answers : List (Answer A V)} {v w : V} → ComesTo rules j answers v
      → ComesTo rules j answers w → v ≡ w
  ends_same (done e) (done f) = cc
  ends_same (done e) (reads f d) = cc
  ends_same (done e) (given f d' d) = cc
  ends_same (reads e d) (done f) = cc
  ends_same {j} {answers} {v} {w} (reads e d) (reads f d') =
      ends_same d (subst (λ x. ComesTo rules j (Found (rules.file x) ∷ answers) w) (cc) d')
  ends_same (reads e d) (given f d' d'') = cc
  ends_same (given e d' d) (done f) = cc
  ends_same (given e d' d) (reads f d'') = cc
  ends_same {j} {answers} {v} {w} (given {k = k} {w = x} e c d) (given {k = l} {w = y} f c' d') =
      let asked : l ≡ k = cc in
      let same : x ≡ y = ends_same c (subst (λ i. ComesTo rules i [] y) asked c') in
      ends_same d (subst (λ z. ComesTo rules j (Value z ∷ answers) w) (sym same) d')

  pub size : {j : J} {answers : List (Answer A V)} {v : V} → ComesTo rules j answers v → ℕ
  size (done e) = 1
  size (reads e d) = suc (size d)
  size (given e c d) = suc (size c + size d)

  -- what a job that comes to a value goes on with
  pub on_file : {j : J} {answers : List (Answer A V)} {v : V} {f : F}
      → rules.run j answers ≡ Reads f → (d : ComesTo rules j answers v)
      → (d' : ComesTo rules j (Found (rules.file f) ∷ answers) v) × (size d' < size d)
  unfolding size
  on_file e (done e') = absurd (cc)
  on_file {j} {answers} {v} {f} e (reads {f = g} e' d) =
      let same : g ≡ f = cc in
      subst (λ x. (d' : ComesTo rules j (Found (rules.file x) ∷ answers) v) × (size d' < suc (size d))) same (d, omega arith)
  on_file e (given e' c d) = absurd (cc)

  pub on_job : {j : J} {answers : List (Answer A V)} {v : V} {k : J} → rules.run j answers ≡ Asks k
      → (d : ComesTo rules j answers v)
      → (w : V) × (c : ComesTo rules k [] w) × (d' : ComesTo rules j (Value w ∷ answers) v)
      × (size c < size d) × (size d' < size d)
  unfolding size
  on_job e (done e') = absurd (cc)
  on_job e (reads e' d) = absurd (cc)
  on_job {j} {answers} {v} {k} e (given {k = l} {w = w} e' c d) =
      let same : l ≡ k = cc in
      subst (λ x. (w : V) × (c' : ComesTo rules x [] w) × (d' : ComesTo rules j (Value w ∷ answers) v) × (size c' < suc (size c + size d)) × (size d' < suc (size c + size d)))
      same (w, c, d, omega arith, omega arith)

  -- answers that the job was to be given lie on its way
  pub given_ends : {j : J} {answers : List (Answer A V)} {v : V} → IsGiven rules j answers
      → (d : ComesTo rules j [] v)
      → (d' : ComesTo rules j answers v) × (size d' ≤ size d)
  given_ends none d = (d, omega arith)
  given_ends (file h e) d =
      let r = given_ends h d in
      let s = on_file e r.0 in
      (s.0, omega arith)
  given_ends {j} {v = v} (value {answers = answers} {v = w} h e c) d =
      let r = given_ends h d in
      let s = on_job e r.0 in
      let same : s.0 ≡ w = ends_same s.1 c in
      subst (λ x. (d' : ComesTo rules j (Value x ∷ answers) v) × (size d' ≤ size d)) same
      (s.2, omega arith)

  -- so each job that it asks has a value, by a shorter derivation
  pub asks_ends : {j k : J} {v : V} → AsksNext rules j k → (d : ComesTo rules j [] v)
      → (w : V) × (c : ComesTo rules k [] w) × (size c < size d)
  asks_ends a d =
      let r = given_ends a.is_given d in
      let s = on_job a.asks r.0 in
      (s.0, s.1, omega arith)

  pub chain_ends : {j k : J} {jobs : List J} {v : V} → Chain rules j jobs k
      → (d : ComesTo rules j [] v) → (w : V) × (c : ComesTo rules k [] w) × (size c < size d)
  chain_ends (last a) d = asks_ends a d
  chain_ends (more a c) d =
      let r = asks_ends a d in
      let s = chain_ends c r.1 in
      (s.0, s.1, omega arith)

  -- no job on a cycle has a value
  pub no_loop : {j : J} {jobs : List J} → Chain rules j jobs j → (n : ℕ) (v : V)
      → (d : ComesTo rules j [] v) → size d < n → ⊥
  no_loop c zero v d h = omega arith
  no_loop c (suc n) v d h =
      let r = chain_ends c d in
      no_loop c n r.0 r.1 (omega arith)

  pub loop_empty : {j : J} {jobs : List J} {v : V} → Chain rules j jobs j → ComesTo rules j [] v → ⊥
  loop_empty {v = v} c d = no_loop c (suc (size d)) v d (omega arith)

  -- a job that comes to a value does so by such answers
  pub ends_given : {j : J} {answers : List (Answer A V)} {v : V} → IsGiven rules j answers
      → ComesTo rules j answers v
      → (all : List (Answer A V)) × IsGiven rules j all × (rules.run j all ≡ Done v)
  ends_given {answers = answers} h (done e) = (answers, h, e)
  ends_given h (reads e d) = ends_given (file h e) d
  ends_given h (given e c d) = ends_given (value h e c) d

  -- as many answers are the same answers
  pub given_same : {j : J} {xs ys : List (Answer A V)} → IsGiven rules j xs → IsGiven rules j ys
      → length xs ≡ length ys → xs ≡ ys
  given_same none none h = refl
  given_same none (file g e) h = absurd (omega arith)
  given_same none (value g e c) h = absurd (omega arith)
  given_same (file g e) none h = absurd (omega arith)
  given_same (value g e c) none h = absurd (omega arith)
  given_same (file g e) (file g' e') h = let r = given_same g g' (omega arith) in cc
  given_same (file g e) (value g' e' c') h = let r = given_same g g' (omega arith) in cc
  given_same (value g e c) (file g' e') h = let r = given_same g g' (omega arith) in cc
  given_same (value {k = k} {v = v} g e c) (value {k = l} {v = w} g' e' c') h =
      let r = given_same g g' (omega arith) in
      let same : l ≡ k = cc in
      let one : v ≡ w = ends_same c (subst (λ x. ComesTo rules x [] w) same c') in
      cc

  pub given_cut : {j : J} {answer : Answer A V} {answers : List (Answer A V)}
      → IsGiven rules j (answer ∷ answers) → IsGiven rules j answers
  given_cut (file h e) = h
  given_cut (value h e c) = h

  -- fewer answers go on
  pub given_longer : {j : J} {xs : List (Answer A V)} (ys : List (Answer A V)) → IsGiven rules j xs
      → IsGiven rules j ys → length xs < length ys
      → (y : Answer A V) × IsGiven rules j (y ∷ xs)
  given_longer [] h g less = absurd (omega arith)
  given_longer {j} {xs} (y ∷ ys) h g less =
      go (given_longer ys h (given_cut g)) (cases_lt (length xs) (length ys))
    where
      go : (length xs < length ys → (y : Answer A V) × IsGiven rules j (y ∷ xs))
          → (length xs < length ys) ⊎ (length ys ≤ length xs)
          → (y : Answer A V) × IsGiven rules j (y ∷ xs)
      go further (inl fewer) = further fewer
      go further (inr as_many) = (
        y,
        subst (λ zs. IsGiven rules j (y ∷ zs))
            (sym (given_same h (given_cut g) (omega arith))) g,
      )

  -- two places where no answer comes behind are one
  pub stuck_same : {j : J} (xs ys : List (Answer A V)) → IsGiven rules j xs → IsGiven rules j ys
      → IsLast rules j xs → IsLast rules j ys → xs ≡ ys
  stuck_same {j} xs ys h g no_x no_y = go (cases_order (length xs) (length ys))
    where
      go : (length xs ≡ length ys) ⊎ ((length xs < length ys) ⊎ (length ys < length xs)) → xs ≡ ys
      go (inl same) = given_same h g same
      go (inr (inl less)) = let r = given_longer ys h g less in absurd (no_x r.0 r.1)
      go (inr (inr less)) = let r = given_longer xs g h less in absurd (no_y r.0 r.1)

  pub last_refused : {j : J} {answers : List (Answer A V)} {r : R} → rules.run j answers ≡ Refused r
      → IsLast rules j answers
  last_refused e _ (file h e') = cc
  last_refused e _ (value h e' c) = cc

  pub last_asks : {j k : J} {answers : List (Answer A V)} → rules.run j answers ≡ Asks k
      → IsNone rules k → IsLast rules j answers
  last_asks e never _ (file h e') = cc
  last_asks {j} {k} e never _ (value {k = l} {v = v} h e' c) = let same : l ≡ k = cc in
      never v (subst (λ x. ComesTo rules x [] v) same c)

  -- a job asks one job that has no value
  pub asks_same : {j k l : J} → AsksNext rules j k → AsksNext rules j l → IsNone rules k
      → IsNone rules l → k ≡ l
  asks_same a b never_k never_l =
      let same = stuck_same a.answers b.answers a.is_given b.is_given (last_asks a.asks never_k) (last_asks b.asks never_l) in
      let e = a.asks in
      let f = b.asks in
      cc

  pub chain_none : {j k : J} {jobs : List J} → Chain rules j jobs k → IsNone rules k
      → IsNone rules j
  chain_none c never v d = let r = chain_ends c d in never r.0 r.1

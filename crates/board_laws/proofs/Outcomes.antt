-- Each job has an outcome, whichever path it is asked on, and the same on each.
use Rattle.std.proofs.Common.{◌≡◌, ℕ, zero, suc, ◌+◌, ◌<◌, ◌≤◌, true, false, List, [], ◌∷◌, ◌++◌}
use Rattle.std.proofs.Common.{length, refl, ap, sym, subst, arith, Result, Ok, Err, ◌↔◌, MatchBool}
use Rattle.board_laws.specs.Recursive.{on_path, path_from, cycle_of, Evaluates, done, refused}
use Rattle.board_laws.specs.Recursive.{reads, round_trip, given, passed, Recursive}
use Rattle.board_laws.specs.Works.{Turn, Done, Refused, Reads, Asks, Answer, Found, Value, Rules}
use Rattle.board_laws.specs.Works.{Lawful}
use Rattle.board_laws.specs.Results.{ComesTo, IsGiven, last, DiffersFrom, AllDiffer, IsRefusedWith}
use Rattle.board_laws.specs.Results.{LeadsTo, AllOwn, HasResult, PathOf}
use Rattle.board_laws.specs.Bounds.{StandsIn, here, there, MayBeGiven, AreOutcomes, GivenFrom}
use Rattle.board_laws.specs.Bounds.{LeadsThrough, Bounded}
use Rattle.board_laws.proofs.Values.{ends_same, ends_given}
use Rattle.board_laws.proofs.Falling.{refused_none, refused_same}
use Rattle.board_laws.proofs.Paths.{From, evaluates_from, path_from_refused, off_absent, own_more}
use Rattle.board_laws.proofs.Paths.{all_absent_nil, all_absent_more, by_test}

in_left : {X : Type 0} {x : X} {xs : List X} (ys : List X) → StandsIn x xs → StandsIn x (xs ++ ys)
in_left ys here = here
in_left ys (there h) = there (in_left ys h)

in_right : {X : Type 0} {x : X} (xs : List X) {ys : List X} → StandsIn x ys → StandsIn x (xs ++ ys)
in_right [] h = h
in_right (y ∷ xs) h = there (in_right xs h)

module _ {J F A V R : Type 0} (rules : Rules J F A V R) where
  -- the values that fair answers speak of
  by_left : {vs : List (J × V)} (ws : List (J × V)) {j : J} {answers : List (Answer A V)}
      → GivenFrom rules vs j answers → GivenFrom rules (vs ++ ws) j answers
  by_left ws GivenFrom.none = GivenFrom.none
  by_left ws (GivenFrom.file h e) = GivenFrom.file (by_left ws h) e
  by_left ws (GivenFrom.value h e i) = GivenFrom.value (by_left ws h) e (in_left ws i)

  by_right : (vs : List (J × V)) {ws : List (J × V)} {j : J} {answers : List (Answer A V)}
      → GivenFrom rules ws j answers → GivenFrom rules (vs ++ ws) j answers
  by_right vs GivenFrom.none = GivenFrom.none
  by_right vs (GivenFrom.file h e) = GivenFrom.file (by_right vs h) e
  by_right vs (GivenFrom.value h e i) = GivenFrom.value (by_right vs h) e (in_right vs i)

  leads_right : (vs : List (J × V)) {ws : List (J × V)} {path : List J} {j : J}
      → LeadsThrough rules ws path j → LeadsThrough rules (vs ++ ws) path j
  leads_right vs LeadsThrough.nil = LeadsThrough.nil
  leads_right vs (LeadsThrough.cons h e rest) =
      LeadsThrough.cons (by_right vs h) e (leads_right vs rest)

  real_join : {vs ws : List (J × V)} → AreOutcomes rules vs → AreOutcomes rules ws
      → AreOutcomes rules (vs ++ ws)
  real_join AreOutcomes.nil g = g
  real_join (AreOutcomes.cons e h) g = AreOutcomes.cons e (real_join h g)

  given_by : {j : J} {answers : List (Answer A V)} → IsGiven rules j answers
      → (vs : List (J × V)) × AreOutcomes rules vs × GivenFrom rules vs j answers
  given_by IsGiven.none = ([], AreOutcomes.nil, GivenFrom.none)
  given_by (IsGiven.file h e) = let r = given_by h in (r.0, r.1, GivenFrom.file r.2 e)
  given_by (IsGiven.value {k = k} {v = v} h e d) =
      let r = given_by h in
      let s = ends_given rules IsGiven.none d in (
        ((k, v) ∷ r.0),
        AreOutcomes.cons s.2 r.1,
        GivenFrom.value (by_right ((k, v) ∷ []) r.2) e here,
      )

  leads_by : {j : J} {path : List J} → LeadsTo rules path j
      → (vs : List (J × V)) × AreOutcomes rules vs × LeadsThrough rules vs path j
  leads_by LeadsTo.nil = ([], AreOutcomes.nil, LeadsThrough.nil)
  leads_by (LeadsTo.cons a rest) =
      let r = leads_by rest in
      let s = given_by a.is_given in (
        s.0 ++ r.0,
        real_join s.1 r.1,
        LeadsThrough.cons (by_left r.0 s.2) a.asks (leads_right s.0 r.2),
      )

  given_taken : {j : J} {answers : List (Answer A V)} → IsGiven rules j answers
      → MayBeGiven rules j answers
  given_taken IsGiven.none = MayBeGiven.none
  given_taken (IsGiven.file {f = f} h e) = MayBeGiven.file (rules.file f) (given_taken h) e
  given_taken (IsGiven.value {v = v} h e d) = MayBeGiven.value v (given_taken h) e

  -- a job that is asked by a path, and stands not on it
  pub record Asked (path : List J) (j : J) : Type 0 where
    pub leads : LeadsTo rules path j
    pub apart : AllDiffer rules (j ∷ path)
    pub owned : AllOwn rules (j ∷ path)

  pub path_bound : (bounds : Bounded rules) {path : List J} {j : J} → Asked path j
      → length (j ∷ path) ≤ bounds.deep
  path_bound bounds {path} {j} a = let r = leads_by a.leads in
      bounds.paths r.0 j path r.1 r.2 a.apart a.owned

  pub asked_next : (law : Lawful rules) {path : List J} {j k : J} {answers : List (Answer A V)}
      → Asked path j → IsGiven rules j answers → rules.run j answers ≡ Asks k
      → on_path rules k (j ∷ path) ≡ false → Asked (j ∷ path) k
  asked_next law {path} {j} {k} {answers} a h e off = record {
    leads = LeadsTo.cons (record { answers = answers; is_given = h; asks = e }) a.leads;
    apart = AllDiffer.cons (off_absent rules k (j ∷ path) off) a.apart;
    owned = own_more rules law e a.owned;
  }

  pub Found_outcome : List J → J → List (Answer A V) → Type 0
  Found_outcome path j answers = (o : Result V R) × Evaluates rules path j answers o

  pub own_first : {j : J} {path : List J} → AllOwn rules (j ∷ path) → rules.own j ≡ true
  own_first (AllOwn.cons own owned) = own

  turn_once : (law : Lawful rules) (path : List J) (j : J) → Asked path j
      → ((k : J) → Asked (j ∷ path) k → Found_outcome (j ∷ path) k [])
      → (answers : List (Answer A V)) → IsGiven rules j answers
      → ((answer : Answer A V) → IsGiven rules j (answer ∷ answers)
      → Found_outcome path j (answer ∷ answers)) → Found_outcome path j answers
  unfolding Found_outcome
  turn_once law path j asked outcome answers h rest = go (rules.run j answers) refl
    where
      given_one : (k : J) (o : Result V R) → rules.run j answers ≡ Asks k → Asked (j ∷ path) k
          → on_path rules k (j ∷ path) ≡ false → Evaluates rules (j ∷ path) k [] o
          → (o : Result V R) × Evaluates rules path j answers o
      given_one k (Ok v) e next off c =
          let value : ComesTo rules k [] v =
          evaluates_from rules law next.leads next.apart next.owned IsGiven.none c in
          let r = rest (Value v) (IsGiven.value h e value) in
          (r.0, given e off c r.1)
      given_one k (Err r) e next off c = (Err r, passed e off c)

      go : (turn : Turn J F V R) → rules.run j answers ≡ turn
          → (o : Result V R) × Evaluates rules path j answers o
      go (Done v) e = (Ok v, done e)
      go (Refused r) e = (Err r, refused e)
      go (Reads f) e = let r = rest (Found (rules.file f)) (IsGiven.file h e) in (r.0, reads e r.1)
      go (Asks k) e =
          by_test (on_path rules k (j ∷ path))
          (λ on. (Err (cycle_of rules (path_from rules k (j ∷ path) [])), round_trip e on))
          (λ off. let next = asked_next law asked h e off in let c = outcome k next in
          given_one k c.0 e next off c.1)

  pub given_room : (bounds : Bounded rules) {j : J} {answer : Answer A V}
      {answers : List (Answer A V)} → rules.own j ≡ true → IsGiven rules j (answer ∷ answers)
      → length answers < bounds.most
  given_room bounds {j} {answers = answers} own (IsGiven.file {f = f} h e) =
      bounds.reads j answers f own (given_taken h) e
  given_room bounds {j} {answers = answers} own (IsGiven.value {k = k} h e d) =
      bounds.asks j k answers own (given_taken h) e

  -- the turns of one job, where the jobs that it asks have outcomes
  turns : (law : Lawful rules) (bounds : Bounded rules) (path : List J) (j : J) → Asked path j
      → ((k : J) → Asked (j ∷ path) k → Found_outcome (j ∷ path) k [])
      → (n : ℕ) (answers : List (Answer A V)) → IsGiven rules j answers
      → bounds.most ≤ length answers + n → Found_outcome path j answers
  turns law bounds path j asked outcome zero answers h less =
      turn_once law path j asked outcome answers h
      (λ answer g. let room = given_room bounds (own_first asked.owned) g in
      absurd (omega arith))
  turns law bounds path j asked outcome (suc n) answers h less =
      turn_once law path j asked outcome answers h
      (λ answer g. turns law bounds path j asked outcome n (answer ∷ answers) g (omega arith))

  descend : (law : Lawful rules) (bounds : Bounded rules) (n : ℕ) (path : List J) (j : J)
      → Asked path j → bounds.deep ≤ length path + n → Found_outcome path j []
  descend law bounds zero path j asked less = let bound = path_bound bounds asked in
      absurd (omega arith)
  descend law bounds (suc n) path j asked less =
      turns law bounds path j asked (λ k next. descend law bounds n (j ∷ path) k next (omega arith))
      bounds.most [] IsGiven.none (omega arith)

  -- on such a path each job has an outcome
  pub recursive_has : (law : Lawful rules) (bounds : Bounded rules) {path : List J} {j : J}
      → PathOf rules path j → (o : Result V R) × Recursive rules path j o
  unfolding Found_outcome
  recursive_has law bounds {path} {j} p = by_test (on_path rules j path)
      (λ on. let r : Result V R = Err (cycle_of rules (path_from rules j path [])) in
      (r, subst (λ b. MatchBool b (r ≡ r) (Evaluates rules path j [] r)) (sym on) refl))
      (λ off. let r =
      descend law bounds bounds.deep path j
      (record { leads = p.leads; apart = AllDiffer.cons (off_absent rules j path off) p.apart; owned = p.owned }) (omega arith) in
      (r.0, subst (λ b. MatchBool b (r.0 ≡ Err (cycle_of rules (path_from rules j path []))) (Evaluates rules path j [] r.0)) (sym off) r.1))

  from_result : (j : J) (o : Result V R) → From rules j [] o → HasResult rules j o
  from_result j (Ok v) h = h
  from_result j (Err r) h = h

  on_result : (law : Lawful rules) (path : List J) (j : J) → PathOf rules path j
      → on_path rules j path ≡ true
      → IsRefusedWith rules j (cycle_of rules (path_from rules j path []))
  on_result law [] j p on = absurd (cc)
  on_result law (x ∷ path) j p on = go p.leads p.apart p.owned
    where
      go : LeadsTo rules (x ∷ path) j → AllDiffer rules (x ∷ path) → AllOwn rules (j ∷ x ∷ path)
          → IsRefusedWith rules j (cycle_of rules (path_from rules j (x ∷ path) []))
      go (LeadsTo.cons a leads) (AllDiffer.cons away apart) (AllOwn.cons own owned) =
          path_from_refused rules law j path x [] own owned leads (last a)
          (AllDiffer.cons DiffersFrom.nil AllDiffer.nil)
          (all_absent_more rules away (all_absent_nil rules path)) apart on

  -- and it is the one without the path
  pub recursive_result : (law : Lawful rules) (path : List J) (j : J) (o : Result V R)
      → PathOf rules path j → Recursive rules path j o → HasResult rules j o
  recursive_result law path j o p h = by_test (on_path rules j path)
      (λ on. subst (λ x. HasResult rules j x)
      (sym (subst (λ b. MatchBool b (o ≡ Err (cycle_of rules (path_from rules j path []))) (Evaluates rules path j [] o)) on h)) (on_result law path j p on))
      (λ off. from_result j o
      (evaluates_from rules law p.leads (AllDiffer.cons (off_absent rules j path off) p.apart)
      p.owned IsGiven.none
      (subst (λ b. MatchBool b (o ≡ Err (cycle_of rules (path_from rules j path []))) (Evaluates rules path j [] o)) off h)))

  pub result_same : (j : J) (o o' : Result V R) → HasResult rules j o → HasResult rules j o'
      → o ≡ o'
  result_same j (Ok v) (Ok w) h g = ap (λ x. Ok x) (ends_same rules h g)
  result_same j (Ok v) (Err r) h g = absurd (refused_none rules g v h)
  result_same j (Err r) (Ok w) h g = absurd (refused_none rules h w g)
  result_same j (Err r) (Err s) h g = ap (λ x. Err x) (refused_same rules h g)

  pub result_recursive : (law : Lawful rules) (bounds : Bounded rules) (path : List J) (j : J)
      (o : Result V R) → PathOf rules path j → HasResult rules j o → Recursive rules path j o
  result_recursive law bounds path j o p h =
      let r = recursive_has law bounds p in
      subst (λ x. Recursive rules path j x)
      (result_same j r.0 o (recursive_result law path j r.0 p r.1) h) r.1

  no_path : (j : J) → rules.own j ≡ true → PathOf rules [] j
  no_path j own =
      record { leads = LeadsTo.nil; apart = AllDiffer.nil; owned = AllOwn.cons own AllOwn.nil }

  -- one result a job
  pub one_result : (law : Lawful rules) (bounds : Bounded rules) (path : List J) (j : J)
      (o : Result V R) → PathOf rules path j → Recursive rules path j o ↔ Recursive rules [] j o
  one_result law bounds path j o p = (
    λ h. result_recursive law bounds [] j o (no_path j (own_first p.owned))
        (recursive_result law path j o p h),
    λ h. result_recursive law bounds path j o p
        (recursive_result law [] j o (no_path j (own_first p.owned)) h),
  )

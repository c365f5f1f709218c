-- Refusals, and the cycles that jobs ask.
use Rattle.std.proofs.Common.{◌≡◌, ◌≢◌, false, List, [], ◌∷◌, ◌++◌, map, refl, ap, sym, ◌∙◌, subst}
use Rattle.std.proofs.lemmas.List.{map-append}
use Rattle.board_laws.specs.Rounds.{cycle_texts, stands}
use Rattle.board_laws.specs.Recursive.{cycle_of}
use Rattle.board_laws.specs.Works.{Refused, Answer, Rules}
use Rattle.board_laws.specs.Results.{ComesTo, AsksNext, Chain, last, more, DiffersFrom, AllDiffer}
use Rattle.board_laws.specs.Results.{IsRefusedWith, own, asked, cycle}
use Rattle.board_laws.proofs.Turning.{text_differs, cycle_texts-turned}
use Rattle.board_laws.proofs.Values.{IsNone, loop_empty, stuck_same, last_refused, last_asks}
use Rattle.board_laws.proofs.Values.{asks_same, asks_ends, chain_none, given_ends}

module _ {J F A V R : Type 0} (rules : Rules J F A V R) where
  absent_last : {j k : J} {jobs : List J} → DiffersFrom rules k jobs → rules.text k ≢ rules.text j
      → DiffersFrom rules k (jobs ++ j ∷ [])
  absent_last DiffersFrom.nil away = DiffersFrom.cons away DiffersFrom.nil
  absent_last (DiffersFrom.cons apart rest) away = DiffersFrom.cons apart (absent_last rest away)

  -- the first may as well be the last
  different_turned : {j : J} {jobs : List J} → DiffersFrom rules j jobs → AllDiffer rules jobs
      → AllDiffer rules (jobs ++ j ∷ [])
  different_turned DiffersFrom.nil AllDiffer.nil = AllDiffer.cons DiffersFrom.nil AllDiffer.nil
  different_turned (DiffersFrom.cons apart rest) (AllDiffer.cons away others) =
      AllDiffer.cons (absent_last away (λ e. apart (sym e))) (different_turned rest others)

  absent_stands : {j : J} {jobs : List J} → DiffersFrom rules j jobs
      → stands (rules.text j) (map rules.text jobs) ≡ false
  absent_stands DiffersFrom.nil = refl
  absent_stands {j} (DiffersFrom.cons {k = k} apart rest) =
      rw (text_differs (rules.text j) (rules.text k) apart) (absent_stands rest)

  chain_last : {j k l : J} {jobs : List J} → Chain rules j jobs k → AsksNext rules k l
      → Chain rules j (jobs ++ k ∷ []) l
  chain_last (last a) b = more a (last b)
  chain_last (more a c) b = more a (chain_last c b)

  -- the text of a cycle is the same from the next job on
  cycle_turned : {j i : J} {jobs : List J} → DiffersFrom rules j (i ∷ jobs)
      → cycle_of rules (j ∷ i ∷ jobs) ≡ cycle_of rules (i ∷ jobs ++ j ∷ [])
  cycle_turned {j} {i} {jobs} away =
      ap rules.cycle
      (cycle_texts-turned (rules.text j) (map rules.text (i ∷ jobs)) (absent_stands away)
      ∙ ap cycle_texts (sym (map-append rules.text (i ∷ jobs) (j ∷ []))))

  -- a refused job has no value
  pub refused_none : {j : J} {r : R} → IsRefusedWith rules j r → IsNone rules j
  refused_none (own h e) v d = let s = given_ends rules h d in not_done s.0 e
    where
      not_done : {j : J} {answers : List (Answer A V)} {v : V} {r : R} → ComesTo rules j answers v
          → rules.run j answers ≡ Refused r → ⊥
      not_done (ComesTo.done e') e = cc
      not_done (ComesTo.reads e' d) e = cc
      not_done (ComesTo.given e' c d) e = cc
  refused_none (asked a f) v d = let s = asks_ends rules a d in refused_none f s.0 s.1
  refused_none (cycle c apart) v d = loop_empty rules c d

  -- the first job that a chain asks
  first_of_chain : {j k : J} {jobs : List J} → Chain rules j jobs k → IsNone rules k
      → (i : J) × AsksNext rules j i × IsNone rules i
  first_of_chain {k = k} (last a) never = (k, a, never)
  first_of_chain (more {i = i} a c) never = (i, a, chain_none rules c never)

  -- two cycles through one job are one cycle
  chains_same : {i j : J} {xs ys : List J} → Chain rules i xs j → Chain rules i ys j
      → DiffersFrom rules j xs → DiffersFrom rules j ys → IsNone rules j → xs ≡ ys
  chains_same (last a) (last b) no_x no_y never = refl
  chains_same {j = j} (last a) (more {i = y} b d) no_x (DiffersFrom.cons apart rest) never =
      absurd (apart (ap rules.text (asks_same rules a b never (chain_none rules d never))))
  chains_same (more {i = x} a c) (last b) (DiffersFrom.cons apart rest) no_y never =
      absurd (apart (ap rules.text (asks_same rules b a never (chain_none rules c never))))
  chains_same {j = j} (more {i = x} {jobs = xs} a c) (more {i = y} {jobs = ys} b d)
      (DiffersFrom.cons apart rest) (DiffersFrom.cons apart' rest') never =
      let same : y ≡ x =
      asks_same rules b a (chain_none rules d never) (chain_none rules c never) in
      let others : xs ≡ ys =
      chains_same c (subst (λ z. Chain rules z ys j) same d) rest rest' never in
      cc

  -- a job on a cycle is refused with it
  cycle_same : {j : J} {jobs : List J} {r : R} → Chain rules j jobs j → AllDiffer rules (j ∷ jobs)
      → IsRefusedWith rules j r → r ≡ cycle_of rules (j ∷ jobs)
  cycle_same {j} c apart (own {answers = answers} h e) =
      let s = first_of_chain c (λ v d. loop_empty rules c d) in
      let a = s.1 in
      let same = stuck_same rules answers a.answers h a.is_given (last_refused rules e) (last_asks rules a.asks s.2) in
      let f = a.asks in
      absurd (cc)
  cycle_same {j} (last b) apart (asked {k = k} a f) =
      let same : j ≡ k =
      asks_same rules b a (λ v d. loop_empty rules (last b) d) (refused_none f) in
      cycle_same (subst (λ x. Chain rules x [] x) same (last b))
      (subst (λ x. AllDiffer rules (x ∷ [])) same apart) f
      ∙ ap (λ x. cycle_of rules (x ∷ [])) (sym same)
  cycle_same {j} (more {i = i} {jobs = jobs} b c) (AllDiffer.cons away (AllDiffer.cons apart rest))
      (asked {k = k} a f) =
      let never : IsNone rules j = λ v d. loop_empty rules (more b c) d in
      let same : i ≡ k = asks_same rules b a (chain_none rules c never) (refused_none f) in
      cycle_same (subst (λ x. Chain rules x (jobs ++ j ∷ []) x) same (chain_last c b))
      (subst (λ x. AllDiffer rules (x ∷ jobs ++ j ∷ [])) same
      (different_turned away (AllDiffer.cons apart rest))) f
      ∙ ap (λ x. cycle_of rules (x ∷ jobs ++ j ∷ [])) (sym same) ∙ sym (cycle_turned away)
  cycle_same {j} c (AllDiffer.cons away rest) (cycle {jobs = others} d (AllDiffer.cons away' rest'))
      =
      let same = chains_same d c away' away (λ v e. loop_empty rules c e) in
      ap (λ xs. cycle_of rules (j ∷ xs)) same

  -- a job has one refusal
  pub refused_same : {j : J} {r s : R} → IsRefusedWith rules j r → IsRefusedWith rules j s → r ≡ s
  refused_same (cycle c apart) g = sym (cycle_same c apart g)
  refused_same f (cycle c apart) = cycle_same c apart f
  refused_same (own {answers = xs} h e) (own {answers = ys} h' e') =
      let same = stuck_same rules xs ys h h' (last_refused rules e) (last_refused rules e') in cc
  refused_same (own {answers = xs} h e) (asked a g) =
      let same = stuck_same rules xs a.answers h a.is_given (last_refused rules e) (last_asks rules a.asks (refused_none g)) in
      let e' = a.asks in cc
  refused_same (asked a f) (own {answers = ys} h e) =
      let same = stuck_same rules ys a.answers h a.is_given (last_refused rules e) (last_asks rules a.asks (refused_none f)) in
      let e' = a.asks in cc
  refused_same {s = s} (asked {k = k} a f) (asked {k = l} b g) =
      let same : l ≡ k = asks_same rules b a (refused_none g) (refused_none f) in
      refused_same f (subst (λ x. IsRefusedWith rules x s) same g)

-- Each step keeps what is known of each job.
use Rattle.std.proofs.Common.{◌≡◌, ℕ, List, [], ◌∷◌, refl, ap, sym, ◌∙◌, subst, Option, None, Some}
use Rattle.std.proofs.Common.{slice_get}
use Rattle.board_laws.specs.Works.{Rules, Asks}
use Rattle.board_laws.specs.Recursive.{cycle_of}
use Rattle.board_laws.specs.Results.{IsRefusedWith, AsksNext, Chain, DiffersFrom, AllDiffer}
use Rattle.board_machine.specs.Boards.{State, Queued, Claimed, OnFile, OnJob, Valued, RefusedWith}
use Rattle.board_machine.specs.Boards.{Slot, Needed, File, next_of, next_in, next_at, jobs_at}
use Rattle.board_machine.specs.Boards.{job_in}
use Rattle.board_machine.specs.Kept.{IsSoundState}
use Rattle.board_machine.proofs.Chases.{Way, way_apart}
use Rattle.board_machine.proofs.Places.{Off, Apart}

module _ {J A V R : Type 0} (rules : Rules J (List ℕ) A V R) where
  -- the jobs that stand go on standing at their places
  unfoldable pub KeepsJobs : List (Slot J A V R) → List (Slot J A V R) → Type 0
  KeepsJobs slots after = (place : ℕ) (slot : Slot J A V R) → slice_get slots place ≡ Some slot
      → (new : Slot J A V R) × (slice_get after place ≡ Some new) × (new.job ≡ slot.job)

  -- the files for which a state waits stay wanted
  unfoldable pub KeepsFile : List (Needed A) → List (Needed A) → State A V R → Type 0
  KeepsFile needs after (OnFile answers need) = (path : List ℕ)
      → slice_get needs need ≡ Some (File path None) → slice_get after need ≡ Some (File path None)
  KeepsFile needs after (Queued answers) = Unit {0}
  KeepsFile needs after (Claimed worker count) = Unit {0}
  KeepsFile needs after (OnJob answers need place) = Unit {0}
  KeepsFile needs after (Valued v) = Unit {0}
  KeepsFile needs after (RefusedWith r) = Unit {0}

  pub carry : (slots after : List (Slot J A V R)) (needs later : List (Needed A)) (job : J)
      (state : State A V R) → KeepsJobs slots after → KeepsFile needs later state
      → IsSoundState rules slots needs job state → IsSoundState rules after later job state
  unfolding KeepsJobs KeepsFile
  carry slots after needs later job (Queued answers) jobs files so = so
  carry slots after needs later job (Claimed worker count) jobs files so = so
  carry slots after needs later job (OnFile answers need) jobs files so =
      record {
        path = so.path;
        stands = files so.path so.stands;
        is_given = so.is_given;
        reads =
            so.reads;
      }
  carry slots after needs later job (OnJob answers need place) jobs files so =
      let r = jobs place so.other so.stands in
      record {
        other = r.0;
        stands = r.1;
        is_given = so.is_given;
        asks =
            so.asks ∙ ap (λ k. Asks k) (sym r.2);
      }
  carry slots after needs later job (Valued v) jobs files so = so
  carry slots after needs later job (RefusedWith r) jobs files so = so

  -- a job that waits for a job asks it
  pub next_asks : (slots : List (Slot J A V R)) (needs : List (Needed A)) (job : J)
      (state : State A V R) (place : ℕ) → IsSoundState rules slots needs job state
      → next_of state ≡ Some place
      → (other : Slot J A V R) × (slice_get slots place ≡ Some other) × AsksNext rules job other.job
  next_asks slots needs job (OnJob answers need other) place so e =
      let same : other ≡ place = cc in (
        so.other,
        subst (λ p. slice_get slots p ≡ Some so.other) same so.stands,
        record { answers = answers; is_given = so.is_given; asks = so.asks },
      )
  next_asks slots needs job (Queued answers) place so e = absurd (cc)
  next_asks slots needs job (Claimed worker count) place so e = absurd (cc)
  next_asks slots needs job (OnFile answers need) place so e = absurd (cc)
  next_asks slots needs job (Valued v) place so e = absurd (cc)
  next_asks slots needs job (RefusedWith r) place so e = absurd (cc)

  -- what stands so at each place
  unfoldable pub AllSo : List (Slot J A V R) → List (Needed A) → Type 0
  AllSo slots needs = (place : ℕ) (slot : Slot J A V R) → slice_get slots place ≡ Some slot
      → IsSoundState rules slots needs slot.job slot.state

  next_state : (slots : List (Slot J A V R)) (place other : ℕ) (slot : Slot J A V R)
      → slice_get slots place ≡ Some slot → next_at slots place ≡ Some other
      → next_of slot.state ≡ Some other
  next_state slots place other slot h e = sym (ap next_in h) ∙ e

  -- a refusal is that of all whose chain leads to it
  pub way_refused : (slots : List (Slot J A V R)) (needs : List (Needed A)) (goal : ℕ)
      (last : Slot J A V R) (r : R) → AllSo slots needs → slice_get slots goal ≡ Some last
      → IsRefusedWith rules last.job r
      → {place : ℕ} {places : List ℕ} → Way (next_at slots) goal place places
      → (slot : Slot J A V R) → slice_get slots place ≡ Some slot
      → IsRefusedWith rules slot.job r
  unfolding AllSo
  way_refused slots needs goal last r all h f (Way.here e) slot g =
      let same : last ≡ slot = cc in
      subst (λ s. IsRefusedWith rules s.job r) same f
  way_refused slots needs goal last r all h f (Way.on {place = place} {other = other} away n way)
      slot g =
      let a = next_asks slots needs slot.job slot.state other (all place slot g) (next_state slots place other slot g n) in
      IsRefusedWith.asked a.2 (way_refused slots needs goal last r all h f way a.0 a.1)

  -- a chain of parked jobs is a chain of jobs that ask
  way_chain : (slots : List (Slot J A V R)) (needs : List (Needed A)) (goal : ℕ)
      (last : Slot J A V R) → AllSo slots needs → slice_get slots goal ≡ Some last
      → {place : ℕ} {places : List ℕ} → Way (next_at slots) goal place places
      → (slot : Slot J A V R) → slice_get slots place ≡ Some slot
      → (j : J) → AsksNext rules j slot.job → Chain rules j (jobs_at slots places) last.job
  unfolding AllSo
  way_chain slots needs goal last all h (Way.here e) slot g j a =
      let same : slot ≡ last = cc in
      Chain.last (subst (λ s. AsksNext rules j s.job) same a)
  way_chain slots needs goal last all h
      (Way.on {place = place} {other = other} {places = places} away n way) slot g j a =
      let b = next_asks slots needs slot.job slot.state other (all place slot g) (next_state slots place other slot g n) in
      subst (λ jobs. Chain rules j jobs last.job)
      (sym (ap (λ o. job_in o (jobs_at slots places)) g))
      (Chain.more a (way_chain slots needs goal last all h way b.0 b.1 slot.job b.2))

  -- no two places have one text
  unfoldable pub Separate : List (Slot J A V R) → Type 0
  Separate slots = (i k : ℕ) (one other : Slot J A V R) → slice_get slots i ≡ Some one
      → slice_get slots k ≡ Some other → rules.text one.job ≡ rules.text other.job → i ≡ k

  absent_at : (slots : List (Slot J A V R)) → Separate slots → (place : ℕ) (slot : Slot J A V R)
      → slice_get slots place ≡ Some slot → (places : List ℕ) → Off place places
      → DiffersFrom rules slot.job (jobs_at slots places)
  unfolding Separate
  absent_at slots apart place slot h [] Off.nil = DiffersFrom.nil
  absent_at slots apart place slot h (other ∷ places) (Off.cons away rest) =
      go (slice_get slots other) refl (absent_at slots apart place slot h places rest)
    where
      go : (o : Option (Slot J A V R)) → slice_get slots other ≡ o
          → DiffersFrom rules slot.job (jobs_at slots places)
          → DiffersFrom rules slot.job (job_in o (jobs_at slots places))
      go None e r = r
      go (Some one) e r = DiffersFrom.cons (λ same. away (apart place other slot one h e same)) r

  different_at : (slots : List (Slot J A V R)) → Separate slots → (places : List ℕ) → Apart places
      → AllDiffer rules (jobs_at slots places)
  different_at slots apart [] Apart.nil = AllDiffer.nil
  different_at slots apart (place ∷ places) (Apart.cons off rest) =
      go (slice_get slots place) refl (different_at slots apart places rest)
    where
      go : (o : Option (Slot J A V R)) → slice_get slots place ≡ o
          → AllDiffer rules (jobs_at slots places)
          → AllDiffer rules (job_in o (jobs_at slots places))
      go None e r = r
      go (Some one) e r = AllDiffer.cons (absent_at slots apart place one e places off) r

  goal_off : (slots : List (Slot J A V R)) (goal : ℕ) → {place : ℕ} {places : List ℕ}
      → Way (next_at slots) goal place places → Off goal places
  goal_off slots goal (Way.here e) = Off.nil
  goal_off slots goal (Way.on away n way) = Off.cons (λ e. away (sym e)) (goal_off slots goal way)

  -- a job whose need leads back to it stands on a cycle
  pub way_cycle : (slots : List (Slot J A V R)) (needs : List (Needed A)) → AllSo slots needs
      → Separate slots → (goal : ℕ) (last : Slot J A V R) → slice_get slots goal ≡ Some last
      → {place : ℕ} {places : List ℕ} → Way (next_at slots) goal place places
      → (slot : Slot J A V R) → slice_get slots place ≡ Some slot
      → AsksNext rules last.job slot.job
      → IsRefusedWith rules last.job (cycle_of rules (last.job ∷ jobs_at slots places))
  way_cycle slots needs all apart goal last h {places = places} way slot g a =
      IsRefusedWith.cycle (way_chain slots needs goal last all h way slot g last.job a)
      (AllDiffer.cons (absent_at slots apart goal last h places (goal_off slots goal way))
      (different_at slots apart places (way_apart (next_at slots) goal way)))

-- A claim of the first queued job is the machine's.
use Rattle.std.proofs.Common.{◌≡◌, ◌≢◌, ℕ, ◌<◌, true, false, List, [], ◌∷◌, ◌++◌, length}
use Rattle.std.proofs.Common.{refl, ap, sym, ◌∙◌, subst, Some, slice_get, slice_set, ◌⊎◌}
use Rattle.std.proofs.Common.{inl, inr}
use Rattle.std.proofs.lemmas.Option.{slice_get_within}
use Rattle.bz_base.specs.declared.refusals.Refusal.{Refusal}
use Rattle.bz_tree.specs.declared.tree.Found.{Found}
use Rattle.board_laws.specs.Works.{Answer}
use Rattle.board_machine.specs.Boards.{Slot, Claimed, Queued}
use Rattle.board_machine.specs.Events.{Event}
use Rattle.board_machine.specs.Events
use Rattle.board_machine.specs.Moves.{claim, count_in, first_queued, is_over, is_queued}
use Rattle.board_machine.specs.Moves.{set_state, state_in, with_slots}
use Rattle.board_machine.proofs.Slots.{position_found, put-set}
use Rattle.board_work.specs.declared.worker.Claim.{Claim}
use Rattle.board_work.specs.declared.worker.Claim.TheVariants.{Job, Nothing, Finished}
use Rattle.board_slots.specs.Claims.{IsTaken}
use Rattle.board_slots.specs.Views.{queued_answers}
use Rattle.board_core.specs.Accounts.{Account, noted}
use Rattle.board_core.specs.Claims.{ClaimGives, claim_count}
use Rattle.board_jobs.specs.Taking.{IsQueuedAt, IsTakenAt}

module _ {J V : Type 0} where
  -- the first queued job stands on the board
  pub first_stands : (slots : List (Slot J Found V Refusal)) → first_queued slots ≢ length slots
      → (slot : Slot J Found V Refusal) × (slice_get slots (first_queued slots) ≡ Some slot)
      × (is_queued slot.state ≡ true)
  first_stands slots off =
      go (position_found (λ (slot : Slot J Found V Refusal). is_queued slot.state) slots)
    where
      go : ((x : Slot J Found V Refusal) × (slice_get slots (first_queued slots) ≡ Some x)
          × (is_queued x.state ≡ true))
          ⊎ ((first_queued slots ≡ length slots)
          × ((at : ℕ) (y : Slot J Found V Refusal) → slice_get slots at ≡ Some y
          → is_queued y.state ≡ false))
          → (slot : Slot J Found V Refusal) × (slice_get slots (first_queued slots) ≡ Some slot)
          × (is_queued slot.state ≡ true)
      go (inl found) = found
      go (inr none) = absurd (off none.0)

  pub queued_there : (slots : List (Slot J Found V Refusal)) → first_queued slots ≢ length slots
      → IsQueuedAt (first_queued slots) slots
  queued_there slots off =
      let first = first_stands slots off in
      λ slot stands. let same : slot ≡ first.0 = one_of stands first.1 in
      subst (λ s. is_queued s.state ≡ true) (sym same) first.2
    where
      one_of : {x y : Slot J Found V Refusal} → slice_get slots (first_queued slots) ≡ Some x
          → slice_get slots (first_queued slots) ≡ Some y → x ≡ y
      one_of e f = cc

  pub queued_within : (slots : List (Slot J Found V Refusal)) → first_queued slots ≢ length slots
      → first_queued slots < length slots
  queued_within slots off =
      let first = first_stands slots off in
      slice_get_within slots (first_queued slots) first.0 first.1

  claim_is : (worker : ℕ) (account : Account J V) (new : List (Slot J Found V Refusal)) (events : List Event)
      (slot after : Slot J Found V Refusal) (answers : List (Answer Found V)) (count : ℕ)
      → slice_get account.board.slots (first_queued account.board.slots) ≡ Some slot
      → slot.state ≡ Queued answers → length answers ≡ count
      → after ≡ record { job = slot.job; state = Claimed worker count }
      → new ≡ slice_set account.board.slots (first_queued account.board.slots) after
      → events ≡ account.journal ++ Events.Claim worker (first_queued account.board.slots) ∷ []
      → record {
        board = with_slots new account.board;
        journal = events;
        spent = account.spent;
      } ≡ noted (Events.Claim worker (first_queued account.board.slots))
      (claim worker account.board) account
  claim_is worker account new events slot after answers count stands queued many claimed is written =
      let slots = account.board.slots in
      let place = first_queued slots in
      let counted : count_in (state_in (slice_get slots place)) ≡ count =
      ap (λ o. count_in (state_in o)) stands ∙ ap count_in queued ∙ many in
      let put : new ≡ set_state place (Claimed worker (count_in (state_in (slice_get slots place)))) slots =
      is ∙ ap (slice_set slots place) claimed
      ∙ ap (λ n. slice_set slots place (record { job = slot.job; state = Claimed worker n })) (sym counted)
      ∙ sym (put-set (λ one. record { job = one.job; state = Claimed worker (count_in (state_in (slice_get slots place))) }) slots place slot stands) in
      ap (λ xs. seen xs events) put ∙ ap (seen (set_state place (Claimed worker (count_in (state_in (slice_get slots place)))) slots)) written
    where
      seen : List (Slot J Found V Refusal) → List Event → Account J V
      seen xs es = record { board = with_slots xs account.board; journal = es; spent = account.spent }

module _ {W J P V : Type 0} (job_of : P → J) (answers_of : P → List (Answer Found V))
    (worker : ℕ) where
  -- whoever takes the first queued job gets one
  pub taken_one : (slots new : List (Slot J Found V Refusal)) (result : Claim W J P V)
      → first_queued slots ≢ length slots
      → IsTakenAt job_of answers_of worker (first_queued slots) slots new result
      → claim_count result ≡ 1
  taken_one slots new result off taken =
      let first = first_stands slots off in
      let one = taken first.0 first.1 in
      go first.0 one.0 result one.1
    where
      go : (old after : Slot J Found V Refusal) (one : Claim W J P V)
          → IsTaken job_of answers_of worker (first_queued slots) old after one
          → claim_count one ≡ 1
      go old after (Job held part given) h = refl
      go old after Nothing h = elim h [ ]
      go old after Finished h = elim h [ ]

  pub claimed_of : (account : Account J V) (new : List (Slot J Found V Refusal))
      (events : List Event) (result : Claim W J P V)
      → is_over account.board ≡ false
      → first_queued account.board.slots ≢ length account.board.slots
      → IsTakenAt job_of answers_of worker (first_queued account.board.slots) account.board.slots
      new result
      → events ≡ account.journal ++ Events.Claim worker (first_queued account.board.slots) ∷ []
      → ClaimGives job_of answers_of worker account
      (record { board = with_slots new account.board; journal = events; spent = account.spent })
      result
  claimed_of account new events result over off taken written =
      let first = first_stands account.board.slots off in
      let one = taken first.0 first.1 in
      go first.0 one.0 first.1 result one.1 one.2
    where
      go : (slot after : Slot J Found V Refusal)
          → slice_get account.board.slots (first_queued account.board.slots) ≡ Some slot
          → (result : Claim W J P V)
          → IsTaken job_of answers_of worker (first_queued account.board.slots) slot after result
          → new ≡ slice_set account.board.slots (first_queued account.board.slots) after
          → ClaimGives job_of answers_of worker account
          (record { board = with_slots new account.board; journal = events; spent = account.spent })
          result
      go slot after stands (Job held part given) h is =
          record {
            worker_is = h.worker_is;
            place_is = h.place_is;
            own = h.own;
            stood = stands ∙ ap (λ x. Some x) h.stood;
            many = h.many;
            not_over = over;
            event =
                claim_is worker account new events slot after (queued_answers answers_of part given)
                held.answers stands (ap (λ s. s.state) h.stood) h.many
                (h.claimed ∙ ap (λ j. record { job = j; state = Claimed worker held.answers }) (sym (ap (λ s. s.job) h.stood)))
                is written;
          }
      go slot after stands Nothing h is = elim h [ ]
      go slot after stands Finished h is = elim h [ ]

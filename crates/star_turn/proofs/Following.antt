-- A step follows, and the last one of a turn tells.
use Rattle.std.proofs.Common.{◌≡◌, ◌∙◌, refl, sym, subst, true, false, List, [], ◌∷◌}
use Rattle.std.proofs.Common.{Some, None, Result, Ok, Err}
use Rattle.bz_text.specs.declared.memory.Miss.{Miss}
use Rattle.bz_text.specs.declared.memory.Miss.TheVariants as miss
use Rattle.star_code.specs.declared.code.Code.{Code}
use Rattle.star_code.specs.declared.code.Instr.{Instr}
use Rattle.star_core.specs.Hosts.{Asks, HostCall, IsLawful, IsNoQuestion, Lacks, Meaning, Refuses}
use Rattle.star_core.specs.Hosts.{Reply, Returns}
use Rattle.star_core.specs.Tables.{Table, Within}
use Rattle.star_core.specs.declared.values.Val.{Val}
use Rattle.star_machine.specs.Configs.{Config, Doing, Leaves, Runs}
use Rattle.star_machine.specs.Outcomes.{Acted, Breaks, Ends, Goes, Step}
use Rattle.star_machine.specs.declared.machine.Next.{Next}
use Rattle.star_machine.specs.declared.machine.Next.TheVariants as next
use Rattle.star_meaning.specs.Libraries.{Rows}
use Rattle.star_meaning.specs.Results.{Outcome}
use Rattle.star_meaning.specs.declared.reasons.Reason.{Reason}
use Rattle.star_runs.specs.Runs.{Comes, Follows, On, Over, Wanted, act, acted, instructed}
use Rattle.star_runs.specs.Runs.{on, over, replied_on, wanted, went}
use Rattle.star_turn.specs.Turns.{IsAnswered, ParksAt, Tells, Told, WentTo, came_of, leads_on}
use Rattle.star_turn.specs.declared.turns.Came.{Came}
use Rattle.star_turn.specs.declared.turns.Came.TheVariants as came

-- what a step does without the host is done beside a host that stays
pub went_so : {H : Type 0} (step : Step) (answer : Result Next (Miss Reason)) (old new : Config)
    (host : H)
    → Acted step answer new
    → WentTo (went step host) (came_of answer) old new host host
went_so (Goes config) (Ok next.On) old new host so = rw so refl
went_so (Goes config) (Ok (next.Done value)) old new host so = absurd so
went_so (Goes config) (Err (miss.Because why)) old new host so = absurd so
went_so (Goes config) (Err miss.OutOfMemory) old new host so = tt
went_so (Ends value world) (Ok next.On) old new host so = absurd so
went_so (Ends value world) (Ok (next.Done given)) old new host so = rw (so.0, so.1) refl
went_so (Ends value world) (Err (miss.Because why)) old new host so = absurd so
went_so (Ends value world) (Err miss.OutOfMemory) old new host so = tt
went_so (Breaks reason place count) (Ok answer) old new host so = absurd so
went_so (Breaks reason place count) (Err (miss.Because why)) old new host so =
    rw (so.0, so.1, so.2) refl
went_so (Breaks reason place count) (Err miss.OutOfMemory) old new host so = tt

replied_steady : {H : Type 0} (reply other : Reply H) (below : List Val) (config to : Config)
    (host : H)
    → (IsNoQuestion reply → other ≡ reply)
    → replied_on reply below config ≡ On to host
    → replied_on other below config ≡ On to host
replied_steady (Returns value heap host_now) other below config to host same is = rw (same tt) is
replied_steady (Refuses refusal) other below config to host same is = rw (same tt) is
replied_steady (Asks question) other below config to host same is = cc
replied_steady Lacks other below config to host same is = cc

module _ {H : Type 0} (does : Meaning H HostCall) (library : Rows) (codes : List Code)
    (lawful : IsLawful does) (less more : Table) (within : Within less more) where
  instructed_steady : (call : Wanted) (i : Instr) (config : Config) (host : H) (to : Config)
      (host_to : H)
      → instructed does library codes less call i config host ≡ On to host_to
      → instructed does library codes more call i config host ≡ On to host_to
  instructed_steady None i config host to host_to is = is
  instructed_steady (Some call) i config host to host_to is =
      replied_steady (does host config.world.heap call.0 less)
      (does host config.world.heap call.0 more) call.1 config to host_to
      (lawful.steady host config.world.heap call.0 less more within) is

  acted_steady : (doing : Doing) (config : Config) (host : H) (to : Config) (host_to : H)
      → acted does library codes less doing config host ≡ On to host_to
      → acted does library codes more doing config host ≡ On to host_to
  acted_steady (Runs []) config host to host_to is = is
  acted_steady (Runs (i ∷ rest)) config host to host_to is =
      instructed_steady (wanted codes i (record config { doing = Runs rest })) i
      (record config { doing = Runs rest }) host to host_to is
  acted_steady (Leaves exit) config host to host_to is = is

not_both : {H : Type 0} {config : Config} {host : H} {outcome : Outcome H}
    → On config host ≡ Over outcome
    → ⊥
not_both both = cc

same_config : {H : Type 0} {one other : Config} {host next : H}
    → On one host ≡ On other next
    → one ≡ other
same_config both = cc

same_host : {H : Type 0} {one other : Config} {host next : H}
    → On one host ≡ On other next
    → host ≡ next
same_host both = cc

same_outcome : {H : Type 0} {one other : Outcome H} → Over one ≡ Over other → one ≡ other
same_outcome both = cc

module _ {H : Type 0} (does : Meaning H HostCall) (library : Rows) (codes : List Code) where
  -- where a step leads on, a run goes that way
  comes_on : (answers : Table) (config to : Config) (host host_to : H) (outcome : Outcome H)
      → act does library codes answers config host ≡ On to host_to
      → Comes does library codes answers config host outcome
      → Comes does library codes answers to host_to outcome
  comes_on answers config to host host_to outcome is (over ends) =
      absurd (not_both (sym is ∙ ends))
  comes_on answers config to host host_to outcome is (on {next = other} {host_next = beside} leads rest) =
      let same = sym leads ∙ is in
      subst (λ x. Comes does library codes answers to x outcome) (same_host same)
      (subst (λ x. Comes does library codes answers x beside outcome) (same_config same) rest)

  -- where a step ends, so does a run
  comes_over : (answers : Table) (config : Config) (host : H) (outcome ended : Outcome H)
      → act does library codes answers config host ≡ Over ended
      → Comes does library codes answers config host outcome
      → outcome ≡ ended
  comes_over answers config host outcome ended is (over ends) = same_outcome (sym ends ∙ is)
  comes_over answers config host outcome ended is (on leads rest) =
      absurd (not_both (sym leads ∙ is))

  module _ (answers : Table) (before : Config) (host : H) where
    pub follows_none : Follows does library codes answers before host before host
    follows_none = record { follows = λ more outcome within comes. comes }

    pub follows_step : (config to : Config) (host_at host_to : H)
        (answer : Result Came (Miss Reason))
        → leads_on answer ≡ true
        → IsLawful does
        → Follows does library codes answers before host config host_at
        → WentTo (act does library codes answers config host_at) answer config to host_at host_to
        → Follows does library codes answers before host to host_to
    follows_step config to host_at host_to (Ok came.On) is lawful followed so =
        record {
          follows = λ more outcome within comes.
              comes_on more config to host_at host_to outcome
              (acted_steady does library codes lawful answers more within config.doing config host_at
              to host_to so)
              (followed.follows more outcome within comes);
        }
    follows_step config to host_at host_to (Ok (came.Done value)) is lawful followed so = cc
    follows_step config to host_at host_to (Ok (came.Asks question)) is lawful followed so = cc
    follows_step config to host_at host_to (Ok (came.Denied refusal)) is lawful followed so = cc
    follows_step config to host_at host_to (Err why) is lawful followed so = cc

    told_at : (config to : Config) (host_at host_to : H) (answer : Result Came (Miss Reason))
        (outcome : Outcome H)
        → leads_on answer ≡ false
        → WentTo (act does library codes answers config host_at) answer config to host_at host_to
        → Comes does library codes answers config host_at outcome
        → Told outcome answer to host_to
    told_at config to host_at host_to (Ok came.On) outcome stops so comes = cc
    told_at config to host_at host_to (Ok (came.Done value)) outcome stops so comes =
        comes_over answers config host_at outcome _ so comes
    told_at config to host_at host_to (Ok (came.Asks question)) outcome stops so comes =
        comes_over answers config host_at outcome _ so.0 comes
    told_at config to host_at host_to (Ok (came.Denied refusal)) outcome stops so comes =
        comes_over answers config host_at outcome _ so comes
    told_at config to host_at host_to (Err (miss.Because why)) outcome stops so comes =
        comes_over answers config host_at outcome _ so comes
    told_at config to host_at host_to (Err miss.OutOfMemory) outcome stops so comes = tt

    pub tells_step : (config to : Config) (host_at host_to : H)
        (answer : Result Came (Miss Reason))
        → leads_on answer ≡ false
        → Follows does library codes answers before host config host_at
        → WentTo (act does library codes answers config host_at) answer config to host_at host_to
        → Tells does library codes answers before host answer to host_to
    tells_step config to host_at host_to answer stops followed so =
        λ outcome comes.
        told_at config to host_at host_to answer outcome stops so
        (followed.follows answers outcome (record { kept = λ question known is. is }) comes)

    pub parks_step : (config to : Config) (host_at host_to : H)
        (answer : Result Came (Miss Reason))
        → Follows does library codes answers before host config host_at
        → WentTo (act does library codes answers config host_at) answer config to host_at host_to
        → ParksAt does library codes answers before host answer to host_to
    parks_step config to host_at host_to (Ok came.On) followed so = tt
    parks_step config to host_at host_to (Ok (came.Done value)) followed so = tt
    parks_step config to host_at host_to (Ok (came.Asks question)) followed so =
        rw (so.1, so.2) followed
    parks_step config to host_at host_to (Ok (came.Denied refusal)) followed so = tt
    parks_step config to host_at host_to (Err why) followed so = tt

replied_over : {H : Type 0} (reply other : Reply H) (below : List Val) (config : Config)
    (outcome : Outcome H)
    → (IsNoQuestion reply → other ≡ reply)
    → IsAnswered outcome
    → replied_on reply below config ≡ Over outcome
    → replied_on other below config ≡ Over outcome
replied_over (Returns value heap host_now) other below config outcome same answered is =
    rw (same tt) is
replied_over (Refuses refusal) other below config outcome same answered is = rw (same tt) is
replied_over Lacks other below config outcome same answered is = rw (same tt) is
replied_over (Asks question) other below config outcome same answered is =
    absurd (subst IsAnswered (sym (same_outcome is)) answered)

module _ {H : Type 0} (does : Meaning H HostCall) (library : Rows) (codes : List Code)
    (lawful : IsLawful does) (less more : Table) (within : Within less more) where
  instructed_over : (call : Wanted) (i : Instr) (config : Config) (host : H) (outcome : Outcome H)
      → IsAnswered outcome
      → instructed does library codes less call i config host ≡ Over outcome
      → instructed does library codes more call i config host ≡ Over outcome
  instructed_over None i config host outcome answered is = is
  instructed_over (Some call) i config host outcome answered is =
      replied_over (does host config.world.heap call.0 less)
      (does host config.world.heap call.0 more) call.1 config outcome
      (lawful.steady host config.world.heap call.0 less more within) answered is

  acted_over : (doing : Doing) (config : Config) (host : H) (outcome : Outcome H)
      → IsAnswered outcome
      → acted does library codes less doing config host ≡ Over outcome
      → acted does library codes more doing config host ≡ Over outcome
  acted_over (Runs []) config host outcome answered is = is
  acted_over (Runs (i ∷ rest)) config host outcome answered is =
      instructed_over (wanted codes i (record config { doing = Runs rest })) i
      (record config { doing = Runs rest }) host outcome answered is
  acted_over (Leaves exit) config host outcome answered is = is

  -- what needs no further answer comes with more answers too
  comes_more : (config : Config) (host : H) (outcome : Outcome H)
      → IsAnswered outcome
      → Comes does library codes less config host outcome
      → Comes does library codes more config host outcome
  comes_more config host outcome answered (over ends) =
      Comes.over (acted_over config.doing config host outcome answered ends)
  comes_more config host outcome answered (on {next = next} {host_next = beside} leads rest) =
      Comes.on (acted_steady does library codes lawful less more within config.doing config host
      next beside leads) (comes_more next beside outcome answered rest)

  comes_same : (config : Config) (host : H) (one other : Outcome H)
      → Comes does library codes more config host one
      → Comes does library codes more config host other
      → one ≡ other
  comes_same config host one other (over ends) second =
      sym (comes_over does library codes more config host other one ends second)
  comes_same config host one other (on {next = next} {host_next = beside} leads rest) second =
      comes_same next beside one other rest
      (comes_on does library codes more config next host beside other leads second)

  pub more_answers : (config : Config) (host : H) (one other : Outcome H)
      → IsAnswered one
      → Comes does library codes less config host one
      → Comes does library codes more config host other
      → other ≡ one
  more_answers config host one other answered first second =
      comes_same config host other one second (comes_more config host one answered first)

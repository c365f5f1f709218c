-- How runs of code are put together.
use Rattle.std.proofs.Common.{◌≡◌, ◌∙◌, ap, refl, ℕ, List}
use Rattle.star_code.specs.declared.code.Code.{Code}
use Rattle.star_code.specs.declared.code.Instr.{Instr}
use Rattle.star_core.specs.Hosts.{HostCall, Meaning}
use Rattle.star_core.specs.Tables.{Table}
use Rattle.star_core.specs.declared.values.Val.{Val}
use Rattle.star_machine.specs.Configs.{Caller, Config, Leaves, Onward, Runs}
use Rattle.star_machine.specs.Outcomes.{Step}
use Rattle.star_machine.specs.Steps.{after}
use Rattle.star_meaning.specs.Arguments.{no_args}
use Rattle.star_meaning.specs.Libraries.{Rows}
use Rattle.star_meaning.specs.Results.{Gives, M, Outcome, Res, Stops, then_with, worked}
use Rattle.star_meaning.specs.Worlds.{Fails, Work, Works, World}
use Rattle.star_meaning.specs.declared.reasons.Exit.{Exit}
use Rattle.star_meaning.specs.declared.reasons.Running.{Running}
use Rattle.star_runs.specs.Runs.{Comes, On, Over, Went, act, went}

-- a place in code
abbrev pub conf : ℕ
    → List Running
    → List Instr
    → List Val
    → List Onward
    → List Caller
    → World
    → Config
conf file running rest stack onward callers world =
    record {
      file = file;
      doing = Runs rest;
      stack = stack;
      gathered = no_args;
      onward = onward;
      callers = callers;
      running = running;
      world = world;
    }

-- on the way out of a loop or a function
abbrev pub leaves : ℕ
    → List Running
    → Exit
    → List Val
    → List Onward
    → List Caller
    → World
    → Config
leaves file running exit stack onward callers world =
    record {
      file = file;
      doing = Leaves exit;
      stack = stack;
      gathered = no_args;
      onward = onward;
      callers = callers;
      running = running;
      world = world;
    }

-- what a result comes to, where what follows is known
abbrev pub finish : {H A : Type 0} → Res H A → (A → World → H → Outcome H) → Outcome H
finish (Gives value world host) next = next value world host
finish (Stops outcome) next = outcome

module _ {H : Type 0} (does : Meaning H HostCall) (library : Rows) (codes : List Code)
    (answers : Table) where
  abbrev pub Run : Config → H → Outcome H → Type 0
  Run config host outcome = Comes does library codes answers config host outcome

  -- a step that leads there
  abbrev pub Leads : Went H → Outcome H → Type 0
  Leads (On config host) outcome = Comes does library codes answers config host outcome
  Leads (Over ended) outcome = ended ≡ outcome

  leads_went : (config : Config) (host : H) (outcome : Outcome H) (to : Went H)
      → act does library codes answers config host ≡ to
      → Leads to outcome
      → Run config host outcome
  leads_went config host outcome (On next host_next) is leads = Comes.on is leads
  leads_went config host outcome (Over ended) is leads = Comes.over (is ∙ ap Over leads)

  pub step : (config : Config) (host : H) (outcome : Outcome H)
      → Leads (act does library codes answers config host) outcome
      → Run config host outcome
  step config host outcome leads =
      leads_went config host outcome (act does library codes answers config host) refl leads

  pub after_leads : {A B : Type 0} (work : Work A) (next : A → World → Step) (m : A → M H B)
      (host : H) (K : B → World → H → Outcome H)
      → ((value : A) (world : World)
      → Leads (went (next value world) host) (finish (m value world host) K))
      → Leads (went (after work next) host) (finish (then_with (worked work host) m) K)
  after_leads (Works value world) next m host K then_leads = then_leads value world
  after_leads (Fails why place count) next m host K then_leads = refl

  pub last_leads : {A : Type 0} (work : Work A) (next : A → World → Step) (host : H)
      (K : A → World → H → Outcome H)
      → ((value : A) (world : World) → Leads (went (next value world) host) (K value world host))
      → Leads (went (after work next) host) (finish (worked work host) K)
  last_leads (Works value world) next host K then_leads = then_leads value world
  last_leads (Fails why place count) next host K then_leads = refl

  pub bind_runs : {A B : Type 0} (r : Res H A) (m : A → M H B) (K : B → World → H → Outcome H)
      (config : Config) (host : H)
      → Run config host (finish r (λ value world after. finish (m value world after) K))
      → Run config host (finish (then_with r m) K)
  bind_runs (Gives value world after) m K config host runs = runs
  bind_runs (Stops outcome) m K config host runs = runs

  pub bind_leads : {A B : Type 0} (r : Res H A) (m : A → M H B) (K : B → World → H → Outcome H)
      (to : Went H)
      → Leads to (finish r (λ value world after. finish (m value world after) K))
      → Leads to (finish (then_with r m) K)
  bind_leads (Gives value world after) m K to leads = leads
  bind_leads (Stops outcome) m K to leads = leads

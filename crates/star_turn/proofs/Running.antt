-- An instruction does what a step with the host does, whether it calls the host or not.
use Rattle.std.proofs.Common.{◌≡◌, ◌∙◌, ap, refl, sym, subst, ℕ, List, [], ◌∷◌, Option, Some, None}
use Rattle.std.proofs.Common.{Result}
use Rattle.bz_text.specs.declared.memory.Miss.{Miss}
use Rattle.star_code.specs.declared.code.Code.{Code}
use Rattle.star_code.specs.declared.code.Instr.{Instr}
use Rattle.star_core.specs.Hosts.{HostCall, Meaning}
use Rattle.star_core.specs.Stacks.{taken}
use Rattle.star_core.specs.Tables.{Table}
use Rattle.star_core.specs.declared.values.Args.{Args}
use Rattle.star_core.specs.declared.values.Val.{Val}
use Rattle.star_machine.specs.Configs.{Config, Doing}
use Rattle.star_machine.specs.Outcomes.{Acted}
use Rattle.star_machine.specs.Steps.{name_of, perform}
use Rattle.star_machine.specs.declared.machine.Next.{Next}
use Rattle.star_meaning.specs.Libraries.{Rows}
use Rattle.star_meaning.specs.declared.reasons.Reason.{Reason}
use Rattle.star_runs.specs.Runs.{attribute_wanted, call_wanted, callee_wanted, instructed, replied_on}
use Rattle.star_runs.specs.Runs.{wanted}
use Rattle.star_turn.proofs.Following.{went_so}
use Rattle.star_turn.proofs.Wanting.{asking_wanted}
use Rattle.star_turn.specs.Asking.{asking_of, wanted_by}
use Rattle.star_turn.specs.Calls.{IsWanted, call_seen}
use Rattle.star_turn.specs.Turns.{WentTo, came_of}
use Rattle.star_turn.specs.declared.asking.Asking.{Asking}
use Rattle.star_turn.specs.declared.asking.Asking.TheVariants as asking
use Rattle.star_turn.specs.declared.calls.Call.{Call}
use Rattle.star_turn.specs.declared.turns.Came.{Came}

-- what is wanted doesn't depend on what is left of the block
attribute_still : (named : Option (List ℕ)) (stack : List Val) (config : Config) (doing : Doing)
    → config.stack ≡ stack
    → attribute_wanted named (record config { doing = doing }) ≡ attribute_wanted named config
attribute_still None stack config doing is = refl
attribute_still (Some name) [] config doing is = rw is refl
attribute_still (Some name) (value ∷ below) config doing is = rw is refl

call_still : (found : Option (List Val × List Val)) (config : Config) (doing : Doing)
    → call_wanted found (record config { doing = doing }) ≡ call_wanted found config
call_still None config doing = refl
call_still (Some (values, [])) config doing = refl
call_still (Some (values, f ∷ below)) config doing = refl

callee_still : (args : Args) (stack : List Val) (config : Config) (doing : Doing)
    → callee_wanted args stack (record config { doing = doing }) ≡ callee_wanted args stack config
callee_still args [] config doing = refl
callee_still args (f ∷ below) config doing = refl

wanted_still : (codes : List Code) (how : Asking) (config : Config) (doing : Doing)
    → wanted_by codes how (record config { doing = doing }) ≡ wanted_by codes how config
wanted_still codes asking.Never config doing = refl
wanted_still codes (asking.Field index) config doing =
    attribute_still (name_of codes config.file index) config.stack config doing refl
wanted_still codes (asking.Method count) config doing =
    call_still (taken count [] config.stack) config doing
wanted_still codes asking.Gathered config doing =
    callee_still config.gathered config.stack config doing

by_way : (codes : List Code) (i : Instr) (how : Asking) (config : Config) (doing : Doing)
    → how ≡ asking_of i
    → wanted codes i (record config { doing = doing }) ≡ wanted_by codes how config
by_way codes i how config doing way =
    sym (asking_wanted codes i (record config { doing = doing }))
    ∙ ap (λ h. wanted_by codes h (record config { doing = doing })) (sym way)
    ∙ wanted_still codes how config doing

module _ {H : Type 0} (does : Meaning H HostCall) (library : Rows) (codes : List Code)
    (answers : Table) (i : Instr) (how : Asking) (config : Config) (doing : Doing)
    (way : how ≡ asking_of i) where
  pub asked_so : (call : Call) (answer : Result Came (Miss Reason)) (old new : Config)
      (host after : H)
      → IsWanted call (wanted_by codes how config) config.stack
      → ((values below : List Val) (top : Val)
      → taken call.above [] config.stack ≡ Some (values, top ∷ below)
      → WentTo (replied_on (does host config.world.heap (call_seen call) answers) below
      (record config { doing = doing })) answer old new host after)
      → WentTo (instructed does library codes answers
      (wanted codes i (record config { doing = doing })) i (record config { doing = doing }) host)
      answer old new host after
  asked_so call answer old new host after is so =
      subst (λ call_wanted_now. WentTo (instructed does library codes answers call_wanted_now i
      (record config { doing = doing }) host) answer old new host after)
      (sym (by_way codes i how config doing way ∙ is.is))
      (so is.values is.below is.top is.on_top)

  pub unasked_so : (answer : Result Next (Miss Reason)) (old new : Config) (host : H)
      → wanted_by codes how config ≡ None
      → Acted (perform library codes i (record config { doing = doing })) answer new
      → WentTo (instructed does library codes answers
      (wanted codes i (record config { doing = doing })) i (record config { doing = doing }) host)
      (came_of answer) old new host host
  unasked_so answer old new host none acted =
      subst (λ call_wanted_now. WentTo (instructed does library codes answers call_wanted_now i
      (record config { doing = doing }) host) (came_of answer) old new host host)
      (sym (by_way codes i how config doing way ∙ none))
      (went_so (perform library codes i (record config { doing = doing })) answer old new host acted)

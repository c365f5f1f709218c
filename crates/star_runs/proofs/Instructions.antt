-- One step for each instruction: where the instruction leads, a run comes to that.
use Rattle.std.proofs.Common.{ℕ, Bool, List, [], ◌∷◌}
use Rattle.star_code.specs.declared.code.Code.{Code}
use Rattle.star_code.specs.declared.code.Instr.{Instr}
use Rattle.star_code.specs.declared.code.Instr.TheVariants as instr
use Rattle.star_core.specs.Hosts.{HostCall, Meaning}
use Rattle.star_core.specs.Stacks.{taken}
use Rattle.star_core.specs.Tables.{Table}
use Rattle.star_core.specs.declared.values.Args.{Args}
use Rattle.star_core.specs.declared.values.Val.{Val}
use Rattle.star_machine.specs.Configs.{Caller, Config, Onward}
use Rattle.star_machine.specs.Outcomes.{Step}
use Rattle.star_machine.specs.Steps.{begun, binary_done, branched}
use Rattle.star_machine.specs.Steps.{collected, constant, defaulted, defined, dict_made}
use Rattle.star_machine.specs.Steps.{entry_collected, entry_put, faults, fetched, forgotten}
use Rattle.star_machine.specs.Steps.{gathered_step, given_back, index_augmented, index_put, indexed}
use Rattle.star_machine.specs.Steps.{inwards, items_tested, keywords_tested}
use Rattle.star_machine.specs.Steps.{leaving, listed, looped, name_augmented, name_of, named, perform}
use Rattle.star_machine.specs.Steps.{plain_pushed, set, short, sliced, ticked, tupled, unary_done}
use Rattle.star_machine.specs.Steps.{unpacked_on}
use Rattle.star_meaning.specs.Libraries.{Rows}
use Rattle.star_meaning.specs.Results.{Outcome}
use Rattle.star_meaning.specs.Worlds.{World}
use Rattle.star_meaning.specs.declared.reasons.Exit.TheVariants as exit
use Rattle.star_meaning.specs.declared.reasons.Running.{Running}
use Rattle.star_core.specs.declared.faults.Fault.TheVariants as fault
use Rattle.star_runs.proofs.Combine.{Leads, Run, conf, step}
use Rattle.star_runs.specs.Runs.{attribute_wanted, call_wanted, callee_wanted, instructed, wanted}
use Rattle.star_runs.specs.Runs.{went}
use Rattle.star_trees.specs.declared.trees.BinOp.{BinOp}
use Rattle.star_trees.specs.declared.trees.UnOp.{UnOp}

module _ {H : Type 0} (does : Meaning H HostCall) (library : Rows) (codes : List Code)
    (answers : Table) (file : ℕ) (running : List Running) where
  module _ (rest : List Instr) (stack : List Val) (onward : List Onward) (callers : List Caller)
      (world : World) (host : H) (outcome : Outcome H) where
    abbrev here : Config
    here = conf file running rest stack onward callers world

    abbrev Led : Step → Type 0
    Led to = Leads does library codes answers (went to host) outcome

    abbrev From : Instr → Type 0
    From i =
        Run does library codes answers (conf file running (i ∷ rest) stack onward callers world) host
        outcome

    pub begin_step : (line : ℕ) → Led (begun line here) → From (instr.Begin line)
    unfolding perform wanted
    begin_step line leads =
        step does library codes answers
        (conf file running (instr.Begin line ∷ rest) stack onward callers world) host outcome leads

    pub tick_step : Led (ticked here) → From instr.Tick
    unfolding perform wanted
    tick_step leads =
        step does library codes answers
        (conf file running (instr.Tick ∷ rest) stack onward callers world) host outcome leads

    pub constant_step : (value : Val) → Led (constant value here) → From (instr.Constant value)
    unfolding perform wanted
    constant_step value leads =
        step does library codes answers
        (conf file running (instr.Constant value ∷ rest) stack onward callers world) host outcome leads

    pub push_step : (value : Val) → Led (plain_pushed value here) → From (instr.Push value)
    unfolding perform wanted
    push_step value leads =
        step does library codes answers
        (conf file running (instr.Push value ∷ rest) stack onward callers world) host outcome leads

    pub name_step : (hops slot : ℕ) → Led (named hops slot here) → From (instr.Name hops slot)
    unfolding perform wanted
    name_step hops slot leads =
        step does library codes answers
        (conf file running (instr.Name hops slot ∷ rest) stack onward callers world) host outcome leads

    pub set_step : (hops slot : ℕ) → Led (set hops slot here) → From (instr.Set hops slot)
    unfolding perform wanted
    set_step hops slot leads =
        step does library codes answers
        (conf file running (instr.Set hops slot ∷ rest) stack onward callers world) host outcome leads

    pub forget_step : Led (forgotten here) → From instr.Forget
    unfolding perform wanted
    forget_step leads =
        step does library codes answers
        (conf file running (instr.Forget ∷ rest) stack onward callers world) host outcome leads

    pub list_step : (count : ℕ) → Led (listed count here) → From (instr.List count)
    unfolding perform wanted
    list_step count leads =
        step does library codes answers
        (conf file running (instr.List count ∷ rest) stack onward callers world) host outcome leads

    pub tuple_step : (count : ℕ) → Led (tupled count here) → From (instr.Tuple count)
    unfolding perform wanted
    tuple_step count leads =
        step does library codes answers
        (conf file running (instr.Tuple count ∷ rest) stack onward callers world) host outcome leads

    pub dict_step : Led (dict_made here) → From instr.Dict
    unfolding perform wanted
    dict_step leads =
        step does library codes answers
        (conf file running (instr.Dict ∷ rest) stack onward callers world) host outcome leads

    pub entry_step : Led (entry_put library here) → From instr.Entry
    unfolding perform wanted
    entry_step leads =
        step does library codes answers
        (conf file running (instr.Entry ∷ rest) stack onward callers world) host outcome leads

    pub unary_step : (op : UnOp) → Led (unary_done library op here) → From (instr.Unary op)
    unfolding perform wanted
    unary_step op leads =
        step does library codes answers
        (conf file running (instr.Unary op ∷ rest) stack onward callers world) host outcome leads

    pub binary_step : (op : BinOp) → Led (binary_done library op here) → From (instr.Binary op)
    unfolding perform wanted
    binary_step op leads =
        step does library codes answers
        (conf file running (instr.Binary op ∷ rest) stack onward callers world) host outcome leads

    pub short_step : (truth : Bool) (block : ℕ) → Led (short codes truth block here) → From (instr.Short truth block)
    unfolding perform wanted
    short_step truth block leads =
        step does library codes answers
        (conf file running (instr.Short truth block ∷ rest) stack onward callers world) host outcome leads

    pub if_step : (chosen other : ℕ) → Led (branched codes chosen other here) → From (instr.If chosen other)
    unfolding perform wanted
    if_step chosen other leads =
        step does library codes answers
        (conf file running (instr.If chosen other ∷ rest) stack onward callers world) host outcome leads

    pub defaults_step : (function : ℕ)
        → Led (defaulted codes function here)
        → From (instr.Defaults function)
    unfolding perform wanted
    defaults_step function leads =
        step does library codes answers
        (conf file running (instr.Defaults function ∷ rest) stack onward callers world) host outcome
        leads

    pub check_items_step : Led (items_tested here) → From instr.CheckItems
    unfolding perform wanted
    check_items_step leads =
        step does library codes answers
        (conf file running (instr.CheckItems ∷ rest) stack onward callers world) host outcome leads

    pub check_keywords_step : Led (keywords_tested here) → From instr.CheckKeywords
    unfolding perform wanted
    check_keywords_step leads =
        step does library codes answers
        (conf file running (instr.CheckKeywords ∷ rest) stack onward callers world) host outcome leads

    pub gather_step : (shape : ℕ) → Led (gathered_step codes shape here) → From (instr.Gather shape)
    unfolding perform wanted
    gather_step shape leads =
        step does library codes answers
        (conf file running (instr.Gather shape ∷ rest) stack onward callers world) host outcome leads

    pub within_step : (block : ℕ) → Led (inwards codes block here) → From (instr.Within block)
    unfolding perform wanted
    within_step block leads =
        step does library codes answers
        (conf file running (instr.Within block ∷ rest) stack onward callers world) host outcome leads

    pub collect_step : Led (collected here) → From instr.Collect
    unfolding perform wanted
    collect_step leads =
        step does library codes answers
        (conf file running (instr.Collect ∷ rest) stack onward callers world) host outcome leads

    pub collect_entry_step : Led (entry_collected library here) → From instr.CollectEntry
    unfolding perform wanted
    collect_entry_step leads =
        step does library codes answers
        (conf file running (instr.CollectEntry ∷ rest) stack onward callers world) host outcome leads

    -- a call with the arguments that were gathered
    pub call_gathered_step : (args : Args)
        → Leads does library codes answers (instructed does library codes answers
        (callee_wanted args stack (record here { gathered = args })) instr.CallGathered
        (record here { gathered = args }) host) outcome
        → Run does library codes answers
        (record (conf file running (instr.CallGathered ∷ rest) stack onward callers world) {
          gathered = args;
        }) host outcome
    unfolding wanted
    call_gathered_step args leads =
        step does library codes answers
        (record (conf file running (instr.CallGathered ∷ rest) stack onward callers world) {
          gathered = args;
        }) host outcome leads

    pub def_step : (function : ℕ) → Led (defined codes function here) → From (instr.Def function)
    unfolding perform wanted
    def_step function leads =
        step does library codes answers
        (conf file running (instr.Def function ∷ rest) stack onward callers world) host outcome leads

    pub index_step : Led (indexed library here) → From instr.Index
    unfolding perform wanted
    index_step leads =
        step does library codes answers
        (conf file running (instr.Index ∷ rest) stack onward callers world) host outcome leads

    pub slice_step : Led (sliced library here) → From instr.Slice
    unfolding perform wanted
    slice_step leads =
        step does library codes answers
        (conf file running (instr.Slice ∷ rest) stack onward callers world) host outcome leads

    pub set_index_step : Led (index_put library here) → From instr.SetIndex
    unfolding perform wanted
    set_index_step leads =
        step does library codes answers
        (conf file running (instr.SetIndex ∷ rest) stack onward callers world) host outcome leads

    pub unpack_step : (count : ℕ) → Led (unpacked_on count here) → From (instr.Unpack count)
    unfolding perform wanted
    unpack_step count leads =
        step does library codes answers
        (conf file running (instr.Unpack count ∷ rest) stack onward callers world) host outcome leads

    pub for_step : (body : ℕ) → Led (looped codes body here) → From (instr.For body)
    unfolding perform wanted
    for_step body leads =
        step does library codes answers
        (conf file running (instr.For body ∷ rest) stack onward callers world) host outcome leads

    pub return_step : Led (given_back here) → From instr.Return
    unfolding perform wanted
    return_step leads =
        step does library codes answers
        (conf file running (instr.Return ∷ rest) stack onward callers world) host outcome leads

    pub break_step : Led (leaving exit.Break here) → From instr.Break
    unfolding perform wanted
    break_step leads =
        step does library codes answers
        (conf file running (instr.Break ∷ rest) stack onward callers world) host outcome leads

    pub continue_step : Led (leaving exit.Continue here) → From instr.Continue
    unfolding perform wanted
    continue_step leads =
        step does library codes answers
        (conf file running (instr.Continue ∷ rest) stack onward callers world) host outcome leads

    pub augment_name_step : (op : BinOp) (hops slot : ℕ) → Led (name_augmented library op hops slot here) → From (instr.AugmentName op hops slot)
    unfolding perform wanted
    augment_name_step op hops slot leads =
        step does library codes answers
        (conf file running (instr.AugmentName op hops slot ∷ rest) stack onward callers world) host outcome leads

    pub fetch_step : Led (fetched library here) → From instr.Fetch
    unfolding perform wanted
    fetch_step leads =
        step does library codes answers
        (conf file running (instr.Fetch ∷ rest) stack onward callers world) host outcome leads

    pub augment_index_step : (op : BinOp) → Led (index_augmented library op here) → From (instr.AugmentIndex op)
    unfolding perform wanted
    augment_index_step op leads =
        step does library codes answers
        (conf file running (instr.AugmentIndex op ∷ rest) stack onward callers world) host outcome leads

    pub not_assignable_step : Led (faults fault.Kind here) → From instr.NotAssignable
    unfolding perform wanted
    not_assignable_step leads =
        step does library codes answers
        (conf file running (instr.NotAssignable ∷ rest) stack onward callers world) host outcome leads

    pub attribute_step : (index : ℕ)
        → Leads does library codes answers (instructed does library codes answers
        (attribute_wanted (name_of codes file index) here) (instr.Attr index) here host) outcome
        → From (instr.Attr index)
    unfolding wanted
    attribute_step index leads =
        step does library codes answers
        (conf file running (instr.Attr index ∷ rest) stack onward callers world) host outcome leads

    pub call_step : (count : ℕ)
        → Leads does library codes answers (instructed does library codes answers
        (call_wanted (taken count [] stack) here) (instr.Call count) here host) outcome
        → From (instr.Call count)
    unfolding wanted
    call_step count leads =
        step does library codes answers
        (conf file running (instr.Call count ∷ rest) stack onward callers world) host outcome leads

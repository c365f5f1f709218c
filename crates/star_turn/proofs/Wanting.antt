-- Which call of a host is wanted, by the object that answers.
use Rattle.std.proofs.Common.{◌≡◌, ◌∙◌, ap, refl, sym, ℕ, Bool, true, false, List, [], ◌∷◌}
use Rattle.std.proofs.Common.{Option, Some, None, slice_get, bytes_eq, if◌then◌else◌}
use Rattle.star_code.specs.declared.code.Code.{Code}
use Rattle.star_code.specs.declared.code.Instr.{Instr}
use Rattle.star_code.specs.declared.code.Instr.TheVariants as instr
use Rattle.star_core.specs.Heaps.{HeapState, cell_at}
use Rattle.star_core.specs.Hosts.{Field, Method}
use Rattle.star_core.specs.LibraryNames.{has_method}
use Rattle.star_core.specs.Stacks.{taken}
use Rattle.star_core.specs.declared.cells.Cell.{Cell}
use Rattle.star_core.specs.declared.cells.Cell.TheVariants as cell
use Rattle.star_core.specs.declared.values.Args.{Args}
use Rattle.star_core.specs.declared.values.NamedVal.{NamedVal}
use Rattle.star_core.specs.declared.values.Val.{Val}
use Rattle.star_core.specs.declared.values.Val.TheVariants as val
use Rattle.star_machine.specs.Configs.{Config}
use Rattle.star_meaning.specs.Arguments.{by_position}
use Rattle.star_meaning.specs.Attributes.{attribute_in}
use Rattle.star_meaning.specs.Attributes.{attribute_of, callee_in, callee_of, field_of, method_if}
use Rattle.star_meaning.specs.Attributes.{method_in, method_of}
use Rattle.star_meaning.specs.declared.reasons.Attribute.{Attribute}
use Rattle.star_meaning.specs.Worlds.{line_of}
use Rattle.star_meaning.specs.declared.reasons.Attribute.TheVariants as attribute
use Rattle.star_meaning.specs.declared.reasons.Place.{Place}
use Rattle.star_runs.specs.Runs.{Wanted, attribute_wanted, call_wanted, callee_wanted, field_wanted}
use Rattle.star_runs.specs.Runs.{method_wanted, top_attribute, wanted}
use Rattle.star_turn.proofs.Depths.{Few, Split, few_at, fewer, just, split_at}
use Rattle.star_turn.specs.Asking.{asking_of, called_in, called_method, called_object, object_in}
use Rattle.star_turn.specs.Asking.{object_of, wanted_by}
use Rattle.star_turn.specs.Calls.{IsWanted}

-- the call that an instruction makes is that of its way of asking
pub asking_wanted : (codes : List Code) (i : Instr) (config : Config)
    → wanted_by codes (asking_of i) config ≡ wanted codes i config
unfolding wanted
asking_wanted codes (instr.Attr index) config = refl
asking_wanted codes (instr.Call count) config = refl
asking_wanted codes instr.CallGathered config = refl
asking_wanted codes (instr.Begin line) config = refl
asking_wanted codes instr.Tick config = refl
asking_wanted codes (instr.Constant value) config = refl
asking_wanted codes (instr.Push value) config = refl
asking_wanted codes (instr.Name hops slot) config = refl
asking_wanted codes (instr.Set hops slot) config = refl
asking_wanted codes instr.Forget config = refl
asking_wanted codes (instr.List count) config = refl
asking_wanted codes (instr.Tuple count) config = refl
asking_wanted codes instr.Dict config = refl
asking_wanted codes instr.Entry config = refl
asking_wanted codes (instr.Unary op) config = refl
asking_wanted codes (instr.Binary op) config = refl
asking_wanted codes (instr.Short truth block) config = refl
asking_wanted codes (instr.If chosen other) config = refl
asking_wanted codes (instr.Defaults function) config = refl
asking_wanted codes (instr.Def function) config = refl
asking_wanted codes instr.CheckItems config = refl
asking_wanted codes instr.CheckKeywords config = refl
asking_wanted codes (instr.Gather shape) config = refl
asking_wanted codes (instr.Within block) config = refl
asking_wanted codes instr.Collect config = refl
asking_wanted codes instr.CollectEntry config = refl
asking_wanted codes instr.Index config = refl
asking_wanted codes instr.Slice config = refl
asking_wanted codes instr.SetIndex config = refl
asking_wanted codes (instr.Unpack count) config = refl
asking_wanted codes (instr.For body) config = refl
asking_wanted codes instr.Return config = refl
asking_wanted codes instr.Break config = refl
asking_wanted codes instr.Continue config = refl
asking_wanted codes (instr.AugmentName op hops slot) config = refl
asking_wanted codes instr.Fetch config = refl
asking_wanted codes (instr.AugmentIndex op) config = refl
asking_wanted codes instr.NotAssignable config = refl

-- what a field of an object wants
abbrev pub field_by : Option ℕ → List ℕ → List Val → Wanted
field_by (Some object) name below = Some (Field object name, below)
field_by None name below = None

method_not : (b : Bool) (name : List ℕ) (below : List Val)
    → field_wanted (method_if b) name below ≡ None
method_not true name below = refl
method_not false name below = refl

field_if : (same : Bool) (held : Val) (rest : Attribute) (name : List ℕ) (below : List Val)
    → field_wanted rest name below ≡ None
    → field_wanted (if same then attribute.Lies held else rest) name below ≡ None
field_if true held rest name below none = refl
field_if false held rest name below none = none

field_not : (wanted : List ℕ) (fields : List NamedVal) (name : List ℕ) (below : List Val)
    → field_wanted (field_of wanted fields) name below ≡ None
field_not wanted [] name below = refl
field_not wanted (field ∷ fields) name below =
    field_if (bytes_eq field.name wanted) field.val (field_of wanted fields) name below
    (field_not wanted fields name below)

field_in : (number : ℕ) (held : Option Cell) (name : List ℕ) (below : List Val)
    → field_by (object_in number held) name below
    ≡ field_wanted (attribute_in number held name) name below
field_in number (Some (cell.Host kind fields)) name below = refl
field_in number (Some (cell.Path repo segments)) name below = refl
field_in number (Some (cell.Struct fields)) name below = sym (field_not name fields name below)
field_in number (Some (cell.Text text)) name below =
    sym (method_not (has_method (Some (cell.Text text)) name) name below)
field_in number (Some (cell.List items)) name below =
    sym (method_not (has_method (Some (cell.List items)) name) name below)
field_in number (Some (cell.Dict entries)) name below =
    sym (method_not (has_method (Some (cell.Dict entries)) name) name below)
field_in number (Some (cell.Tuple items)) name below = refl
field_in number (Some (cell.Range first stop step)) name below = refl
field_in number (Some (cell.Function function)) name below = refl
field_in number (Some (cell.Builtin builtin)) name below = refl
field_in number (Some (cell.Bound receiver method)) name below = refl
field_in number (Some (cell.Label label)) name below = refl
field_in number None name below = refl

field_at : (heap : HeapState) (value : Val) (name : List ℕ) (below : List Val)
    → field_by (object_of heap value) name below
    ≡ field_wanted (attribute_of heap value name) name below
unfolding attribute_of
field_at heap val.None name below = refl
field_at heap (val.Bool flag) name below = refl
field_at heap (val.Int number) name below = refl
field_at heap (val.Cell number) name below =
    field_in number (cell_at heap (val.Cell number)) name below

pub no_top : (stack : List Val) (name : List ℕ) (config : Config)
    → slice_get stack 0 ≡ None
    → top_attribute stack name config ≡ None
no_top [] name config at = refl
no_top (value ∷ below) name config at = absurd (cc at)

-- the top of a stack with what is below it
pub record Top (stack : List Val) (name : List ℕ) (config : Config) (value : Val)
    (object : Option ℕ) : Type 0 where
  pub below : List Val
  pub on_top : taken 0 [] stack ≡ Some ([], value ∷ below)
  pub is : top_attribute stack name config ≡ field_by object name below

pub top_at : (stack : List Val) (name : List ℕ) (config : Config) (value : Val)
    → slice_get stack 0 ≡ Some value
    → Top stack name config value (object_of config.world.heap value)
unfolding taken
top_at [] name config value at = absurd (cc at)
top_at (top ∷ below) name config value at =
    let same : top ≡ value = cc at in
    record {
      below = below;
      on_top = ap (λ v. Some ([], v ∷ below)) same;
      is = sym (field_at config.world.heap top name below)
          ∙ ap (λ v. field_by (object_of config.world.heap v) name below) same;
    }

-- what a call of an object wants
abbrev pub method_by : Option ℕ → List ℕ → Args → Option Place → List Val → Wanted
method_by (Some object) name args place below =
    Some (Method object name args (line_of place), below)
method_by None name args place below = None

method_to : (number : ℕ) (held : Option Cell) (name : List ℕ) (args : Args) (place : Option Place) (below : List Val)
    → method_by (object_in number held) name args place below
    ≡ method_wanted (method_in number held name) args place below
method_to number (Some (cell.Host kind fields)) name args place below = refl
method_to number (Some (cell.Path repo segments)) name args place below = refl
method_to number (Some (cell.Struct fields)) name args place below = refl
method_to number (Some (cell.Text text)) name args place below = refl
method_to number (Some (cell.List items)) name args place below = refl
method_to number (Some (cell.Dict entries)) name args place below = refl
method_to number (Some (cell.Tuple items)) name args place below = refl
method_to number (Some (cell.Range first stop step)) name args place below = refl
method_to number (Some (cell.Function function)) name args place below = refl
method_to number (Some (cell.Builtin builtin)) name args place below = refl
method_to number (Some (cell.Bound receiver method)) name args place below = refl
method_to number (Some (cell.Label label)) name args place below = refl
method_to number None name args place below = refl

bound_to : (heap : HeapState) (receiver : Val) (name : List ℕ) (args : Args) (place : Option Place) (below : List Val)
    → method_by (object_of heap receiver) name args place below
    ≡ method_wanted (method_of heap receiver name) args place below
bound_to heap val.None name args place below = refl
bound_to heap (val.Bool flag) name args place below = refl
bound_to heap (val.Int number) name args place below = refl
bound_to heap (val.Cell number) name args place below =
    method_to number (cell_at heap (val.Cell number)) name args place below

call_in : (heap : HeapState) (number : ℕ) (held : Option Cell) (args : Args) (place : Option Place) (below : List Val)
    → method_by (called_in heap number held) (called_method held) args place below
    ≡ method_wanted (callee_in heap number held) args place below
call_in heap number (Some (cell.Host kind fields)) args place below = refl
call_in heap number (Some (cell.Bound receiver method)) args place below =
    bound_to heap receiver method args place below
call_in heap number (Some (cell.Path repo segments)) args place below = refl
call_in heap number (Some (cell.Struct fields)) args place below = refl
call_in heap number (Some (cell.Text text)) args place below = refl
call_in heap number (Some (cell.List items)) args place below = refl
call_in heap number (Some (cell.Dict entries)) args place below = refl
call_in heap number (Some (cell.Tuple items)) args place below = refl
call_in heap number (Some (cell.Range first stop step)) args place below = refl
call_in heap number (Some (cell.Function function)) args place below = refl
call_in heap number (Some (cell.Builtin builtin)) args place below = refl
call_in heap number (Some (cell.Label label)) args place below = refl
call_in heap number None args place below = refl

call_at : (heap : HeapState) (f : Val) (args : Args) (place : Option Place) (below : List Val)
    → method_by (called_object heap f) (called_method (cell_at heap f)) args place below
    ≡ method_wanted (callee_of heap f) args place below
unfolding callee_of
call_at heap val.None args place below = refl
call_at heap (val.Bool flag) args place below = refl
call_at heap (val.Int number) args place below = refl
call_at heap (val.Cell number) args place below =
    call_in heap number (cell_at heap (val.Cell number)) args place below

no_callee : (stack : List Val) (count : ℕ) (config : Config)
    → Few stack [] count
    → call_wanted (taken count [] stack) config ≡ None
no_callee stack count config (fewer is) = ap (λ top. call_wanted top config) is
no_callee stack count config (just values is) = ap (λ top. call_wanted top config) is

pub no_call : (stack : List Val) (count : ℕ) (config : Config)
    → slice_get stack count ≡ None
    → call_wanted (taken count [] stack) config ≡ None
no_call stack count config at = no_callee stack count config (few_at count [] stack at)

pub call_split : (stack : List Val) (count : ℕ) (config : Config) (f : Val)
    → (split : Split stack [] count f)
    → call_wanted (taken count [] stack) config
    ≡ method_by (called_object config.world.heap f) (called_method (cell_at config.world.heap f))
    (by_position split.values) config.world.place split.below
call_split stack count config f split =
    ap (λ top. call_wanted top config) split.above
    ∙ sym (call_at config.world.heap f (by_position split.values) config.world.place split.below)

abbrev Pair : Type 0
Pair = List Val × List Val

abbrev front_of : Option Pair → List Val
front_of None = []
front_of (Some pair) = pair.0

same_values : (found : Option Pair) (one other here there : List Val)
    → found ≡ Some (one, here)
    → found ≡ Some (other, there)
    → one ≡ other
same_values found one other here there is are = sym (ap front_of is) ∙ ap front_of are

pub no_object : (named : Option (List ℕ)) (name : List ℕ) (config : Config) (value : Val)
    → named ≡ Some name
    → slice_get config.stack 0 ≡ Some value
    → object_of config.world.heap value ≡ None
    → attribute_wanted named config ≡ None
no_object named name config value is at none =
    ap (λ n. attribute_wanted n config) is
    ∙ (top_at config.stack name config value at).is
    ∙ ap (λ o. field_by o name (top_at config.stack name config value at).below) none

pub field_found : (named : Option (List ℕ)) (name : List ℕ) (config : Config) (value : Val)
    (object : ℕ)
    → named ≡ Some name
    → slice_get config.stack 0 ≡ Some value
    → object_of config.world.heap value ≡ Some object
    → IsWanted (record {
      object = object;
      name = name;
      line = line_of config.world.place;
      args = None;
      above = 0;
    })
    (attribute_wanted named config) config.stack
field_found named name config value object is at found =
    let top = top_at config.stack name config value at in
    record {
      values = [];
      top = value;
      below = top.below;
      on_top = top.on_top;
      is = ap (λ n. attribute_wanted n config) is ∙ top.is
          ∙ ap (λ o. field_by o name top.below) found;
    }

pub no_method : (stack : List Val) (count : ℕ) (config : Config) (f : Val)
    → slice_get stack count ≡ Some f
    → called_object config.world.heap f ≡ None
    → call_wanted (taken count [] stack) config ≡ None
no_method stack count config f at none =
    let split = split_at count [] stack f at in
    call_split stack count config f split
    ∙ ap (λ o. method_by o (called_method (cell_at config.world.heap f))
    (by_position split.values) config.world.place split.below) none

pub method_found : (stack : List Val) (count : ℕ) (config : Config) (f : Val) (object : ℕ)
    (values rest : List Val)
    → slice_get stack count ≡ Some f
    → called_object config.world.heap f ≡ Some object
    → taken count [] stack ≡ Some (values, rest)
    → IsWanted (record {
      object = object;
      name = called_method (cell_at config.world.heap f);
      line = line_of config.world.place;
      args = Some (by_position values);
      above = count;
    }) (call_wanted (taken count [] stack) config) stack
method_found stack count config f object values rest at found there =
    let split = split_at count [] stack f at in
    let same : split.values ≡ values = same_values (taken count [] stack) _ _ _ _ split.above there in
    record {
      values = split.values;
      top = f;
      below = split.below;
      on_top = split.above;
      is = call_split stack count config f split
          ∙ ap (λ o. method_by o (called_method (cell_at config.world.heap f))
          (by_position split.values) config.world.place split.below) found
          ∙ ap (λ all. method_by (Some object) (called_method (cell_at config.world.heap f))
          (by_position all) config.world.place split.below) same;
    }

-- a call with the arguments that were gathered
pub no_gathered_top : (args : Args) (stack : List Val) (config : Config)
    → slice_get stack 0 ≡ None
    → callee_wanted args stack config ≡ None
no_gathered_top args [] config at = refl
no_gathered_top args (value ∷ below) config at = absurd (cc at)

pub no_gathered : (args : Args) (stack : List Val) (config : Config) (f : Val)
    → slice_get stack 0 ≡ Some f
    → called_object config.world.heap f ≡ None
    → callee_wanted args stack config ≡ None
no_gathered args [] config f at none = absurd (cc at)
no_gathered args (top ∷ below) config f at none =
    let same : top ≡ f = cc at in
    sym (call_at config.world.heap top args config.world.place below)
    ∙ ap (λ o. method_by o (called_method (cell_at config.world.heap top)) args config.world.place
    below) (ap (called_object config.world.heap) same ∙ none)

pub gathered_found : (args : Args) (stack : List Val) (config : Config) (f : Val) (object : ℕ)
    → slice_get stack 0 ≡ Some f
    → called_object config.world.heap f ≡ Some object
    → IsWanted (record {
      object = object;
      name = called_method (cell_at config.world.heap f);
      line = line_of config.world.place;
      args = Some args;
      above = 0;
    }) (callee_wanted args stack config) stack
unfolding taken
gathered_found args [] config f object at found = absurd (cc at)
gathered_found args (top ∷ below) config f object at found =
    let same : top ≡ f = cc at in
    record {
      values = [];
      top = f;
      below = below;
      on_top = ap (λ v. Some ([], v ∷ below)) same;
      is = sym (call_at config.world.heap top args config.world.place below)
          ∙ ap (λ v. method_by (called_object config.world.heap v)
          (called_method (cell_at config.world.heap v)) args config.world.place below) same
          ∙ ap (λ o. method_by o (called_method (cell_at config.world.heap f)) args
          config.world.place below) found;
    }

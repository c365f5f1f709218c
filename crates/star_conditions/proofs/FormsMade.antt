-- What is made of the parts of a tree stands in the order of those parts, and has their names.
use Rattle.std.proofs.Common.{rules, ◌≡◌, ℕ, Bool, true, false, ◌&&◌, List, [], ◌∷◌, map, All}
use Rattle.std.proofs.Common.{Option, Some, None, ap, refl, subst, sym, ◌∙◌}
use Rattle.std.proofs.lemmas.Bool.{and_from, and_parts, false≢true}
use Rattle.std.proofs.lemmas.List.Elements.{All-cons, All-head, All-nil, All-tail}
use Rattle.std.specs.List.{AllZip}
use Rattle.star_conditions.proofs.Conditions.{ForFirst}
use Rattle.star_trees.specs.Orders as form
use Rattle.star_trees.specs.Orders.{ArgForm, ClauseForm, given, right_param}
use Rattle.star_trees.specs.declared.files.Param.{Param}
use Rattle.star_grammar.specs.declared.bare_expressions.BareArg.{BareArg, out-BareArg}
use Rattle.star_grammar.specs.declared.bare_expressions.BareArg.TheOpen.{BareClause-F}
use Rattle.star_grammar.specs.declared.bare_expressions.BareClause.{BareClause, out-BareClause}
use Rattle.star_grammar.specs.declared.bare_expressions.BareExpr.{BareExpr, the_lemmas}
use Rattle.star_grammar.specs.declared.bare_expressions.BarePair.{BarePair}
use Rattle.star_grammar.specs.declared.bare_expressions.BareParam.{BareParam, out-BareParam}
use Rattle.star_grammar.specs.Orders as bare
use Rattle.star_grammar.specs.Orders.{ArgLayer, arg_name, arg_names, arg_stage, args_in_order}
use Rattle.star_grammar.specs.Orders.{is_target}
use Rattle.star_trees.specs.Lists.{all_different, all_of, may_follow, some_and_all, with_name}

-- ---- lists of what is right

pub all_of-zipped : {A C : Type 0} (f : A → Bool) (items : List C) (made : List A)
    → AllZip (λ c a. f a ≡ true) items made
    → all_of (map f made) ≡ true
all_of-zipped f [] [] all = refl
all_of-zipped f [] (a ∷ made) all = absurd all
all_of-zipped f (item ∷ items) [] all = absurd all
all_of-zipped f (item ∷ items) (a ∷ made) all = and_from _ _ all.0
    (all_of-zipped f items made all.1)

pub some_and_all-zipped : {A C : Type 0} (f : A → Bool) (g : C → Bool) (items : List C)
    (made : List A)
    → some_and_all (map g items) ≡ true
    → AllZip (λ c a. f a ≡ true) items made
    → some_and_all (map f made) ≡ true
some_and_all-zipped f g [] made some all = absurd (false≢true some)
some_and_all-zipped f g (item ∷ items) [] some all = absurd all
some_and_all-zipped f g (item ∷ items) (a ∷ made) some all = and_from _ _ all.0
    (all_of-zipped f items made all.1)

pub map-zipped : {A B C : Type 0} (f : A → B) (g : C → B) (items : List C) (made : List A)
    → AllZip (λ c a. f a ≡ g c) items made
    → map f made ≡ map g items
map-zipped f g [] [] all = refl
map-zipped f g [] (a ∷ made) all = absurd all
map-zipped f g (item ∷ items) [] all = absurd all
map-zipped f g (item ∷ items) (a ∷ made) all = ap (λ first. first ∷ map f made) all.0
    ∙ ap (λ more. g item ∷ more) (map-zipped f g items made all.1)

-- each of some trees is a target, where all together are
pub targets-each : (P : BareExpr → Type 0) (items : List BareExpr)
    → All P items
    → some_and_all (map is_target items) ≡ true
    → All (λ item. P item × (is_target item ≡ true)) items
targets-each P items all some = each items all (all_of-some (map is_target items) some)
  where
    all_of-some : (tests : List Bool) → some_and_all tests ≡ true → all_of tests ≡ true
    all_of-some [] so = absurd (false≢true so)
    all_of-some (one ∷ more) so = so

    each : (items : List BareExpr)
        → All P items
        → all_of (map is_target items) ≡ true
        → All (λ item. P item × (is_target item ≡ true)) items
    each [] all are = All-nil (λ item. P item × (is_target item ≡ true))
    each (item ∷ items) all are =
        let parts = and_parts (is_target item) _ are in
        All-cons (λ one. P one × (is_target one ≡ true)) item items
        (All-head P item items all, parts.0) (each items (All-tail P item items all) parts.1)

-- ---- arguments

abbrev pub formed : ℕ → Option (List ℕ) → Bool → ArgForm
formed stage name right = record { stage = stage; name = name; right = right }

-- the form of an argument whose value is right
abbrev pub arg_formed : ArgLayer → ArgForm
arg_formed layer = formed (arg_stage layer) (arg_name layer) true

abbrev pub arg_as : BareArg → ArgForm
arg_as tree = arg_formed (out-BareArg tree)

stages-formed : (last : ℕ) (args : List BareArg)
    → form.stages_in_order last (map (λ arg. arg.stage) (map arg_as args)) ≡ args_in_order last args
stages-formed last [] = refl
stages-formed last (arg ∷ args) = ap (λ rest. may_follow last (arg_stage (out-BareArg arg)) && rest)
    (stages-formed (arg_stage (out-BareArg arg)) args)

names-formed : (args : List BareArg)
    → given (map (λ arg. arg.name) (map arg_as args)) ≡ arg_names args
names-formed [] = refl
names-formed (arg ∷ args) = ap (with_name (arg_name (out-BareArg arg))) (names-formed args)

rights-formed : (args : List BareArg)
    → all_of (map (λ (arg : ArgForm). arg.right) (map arg_as args)) ≡ true
rights-formed [] = refl
rights-formed (arg ∷ args) = rights-formed args

args-formed : (args : List BareArg)
    → bare.are_args args ≡ true
    → (form.are_args (map arg_as args)
    && all_of (map (λ (arg : ArgForm). arg.right) (map arg_as args))) ≡ true
unfolding bare.are_args
args-formed args are =
    let parts = and_parts (args_in_order 0 args) _ are in
    and_from _ _ (and_from _ _ (stages-formed 0 args ∙ parts.0) (ap all_different (names-formed
    args) ∙ parts.1)) (rights-formed args)

pub args-made : (forms : List ArgForm) (args : List BareArg)
    → forms ≡ map arg_as args
    → bare.are_args args ≡ true
    → (form.are_args forms && all_of (map (λ (arg : ArgForm). arg.right) forms)) ≡ true
args-made forms args same are = subst
    (λ some. (form.are_args some && all_of (map (λ (arg : ArgForm). arg.right) some)) ≡ true)
    (sym same) (args-formed args are)

-- ---- clauses

abbrev loops_of : BareClause-F BareArg BareClause BareExpr BareParam BarePair → Bool
loops_of (BareClause-F.For to over) = true
loops_of (BareClause-F.If test) = false

abbrev pub looped : Bool → Bool → ClauseForm
looped loops right = record { loops = loops; right = right }

-- the form of a clause whose parts are right
abbrev pub clause_formed : BareClause-F BareArg BareClause BareExpr BareParam BarePair → ClauseForm
clause_formed layer = looped (loops_of layer) true

abbrev pub clause_as : BareClause → ClauseForm
clause_as tree = clause_formed (out-BareClause tree)

clause_rights-formed : (clauses : List BareClause)
    → all_of (map (λ (clause : ClauseForm). clause.right) (map clause_as clauses)) ≡ true
clause_rights-formed [] = refl
clause_rights-formed (clause ∷ clauses) = clause_rights-formed clauses

first-formed : (clauses : List BareClause)
    → ForFirst clauses
    → form.first_loops (map clause_as clauses) ≡ true
first-formed clauses ForFirst.for_first = search (rules, the_lemmas)

pub clauses-made : (forms : List ClauseForm) (clauses : List BareClause)
    → forms ≡ map clause_as clauses
    → ForFirst clauses
    → form.are_clauses forms ≡ true
clauses-made forms clauses same first = subst (λ some. form.are_clauses some ≡ true) (sym same)
    (and_from _ _ (first-formed clauses first) (clause_rights-formed clauses))

-- ---- parameters

-- what a parameter has of the one that it is made of
pub record ParamMade (tree : BareParam) (made : Param) : Type 0 where
  pub stage : (last : ℕ) → form.param_stage last made ≡ bare.param_stage last (out-BareParam tree)
  pub name : form.param_name made ≡ bare.param_name (out-BareParam tree)
  pub right : right_param made ≡ true

params_in_order-made : (last : Option ℕ) (params : List BareParam) (made : List Param)
    → AllZip ParamMade params made
    → form.params_in_order last made ≡ bare.params_in_order last params
params_in_order-made None params made all = refl
params_in_order-made (Some last) [] [] all = refl
params_in_order-made (Some last) [] (one ∷ made) all = absurd all
params_in_order-made (Some last) (param ∷ params) [] all = absurd all
params_in_order-made (Some last) (param ∷ params) (one ∷ made) all = ap
    (λ stage. form.params_in_order stage made) (all.0.stage last)
    ∙ params_in_order-made (bare.param_stage last (out-BareParam param)) params made all.1

param_names-made : (params : List BareParam) (made : List Param)
    → AllZip ParamMade params made
    → given (map form.param_name made) ≡ bare.param_names params
param_names-made [] [] all = refl
param_names-made [] (one ∷ made) all = absurd all
param_names-made (param ∷ params) [] all = absurd all
param_names-made (param ∷ params) (one ∷ made) all = ap
    (λ name. with_name name (given (map form.param_name made))) all.0.name
    ∙ ap (with_name (bare.param_name (out-BareParam param))) (param_names-made params made all.1)

param_rights-made : (params : List BareParam) (made : List Param)
    → AllZip ParamMade params made
    → all_of (map right_param made) ≡ true
param_rights-made [] [] all = refl
param_rights-made [] (one ∷ made) all = absurd all
param_rights-made (param ∷ params) [] all = absurd all
param_rights-made (param ∷ params) (one ∷ made) all = and_from _ _ all.0.right
    (param_rights-made params made all.1)

-- parameters that may stand, and whose defaults are right
pub record ParamsRight (made : List Param) : Type 0 where
  pub order : form.are_params made ≡ true
  pub defaults : all_of (map right_param made) ≡ true

pub params-made : (params : List BareParam) (made : List Param)
    → bare.are_params params ≡ true
    → AllZip ParamMade params made
    → ParamsRight made
unfolding bare.are_params form.are_params
params-made params made are all =
    let parts = and_parts (bare.params_in_order (Some 0) params) _ are in
    record {
      order = and_from _ _ (params_in_order-made (Some 0) params made all ∙ parts.0)
          (ap all_different (param_names-made params made all) ∙ parts.1);
      defaults = param_rights-made params made all;
    }

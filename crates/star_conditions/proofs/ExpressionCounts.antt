-- What is made of expressions binds what they do, and its variables are counted right.
use Rattle.std.proofs.Common.{◌≡◌, ℕ, true, List, [], ◌∷◌, map, Option, Some, None, option_map}
use Rattle.std.proofs.Common.{refl, ap, subst, sym, ◌∙◌, ◌&&◌}
use Rattle.std.proofs.lemmas.Bool.{and_from}
use Rattle.star_trees.proofs.Folds as is
use Rattle.star_conditions.proofs.CountsMade.{Whole, back, Always, Pairwise, Fits, done, bind-good}
use Rattle.star_conditions.proofs.CountsMade.{then, first, only, each-good, each-counted, all-fit}
use Rattle.star_conditions.proofs.CountsMade.{all-bound, begin-good, finish-good}
use Rattle.star_conditions.proofs.FreeUses.{Covered, Grows, Keeps, binds-keep, both-grow}
use Rattle.star_conditions.proofs.FreeUses.{each-grows, each-of, first-covered, name_uses-grows}
use Rattle.star_conditions.proofs.FreeUses.{name-covered, no_use-grows, second-covered}
use Rattle.star_conditions.proofs.FreeUses.{with_binding-within, within-self}
use Rattle.star_conditions.proofs.MeaningInduction.{ArgParts, ClauseParts, ExprParts, ParamParts}
use Rattle.star_conditions.proofs.MeaningInduction.{PairParts, meant-arg, meant-clause, meant-expr}
use Rattle.star_conditions.proofs.MeaningInduction.{meant-param, meant-pair, of-expr, of-param}
use Rattle.star_conditions.proofs.Trees.{With, bare}
use Rattle.star_conditions.proofs.VariablesFound.{same_scopes-self, variable-counted}
use Rattle.star_conditions.proofs.VariablesFound.{variable-named}
use Rattle.star_trees.specs.Counted.{Counted, ClauseTally, Tally, arg_in, clause_in}
use Rattle.star_trees.specs.Counted.{clauses_counted, code_counted, counted_of, each_counted}
use Rattle.star_trees.specs.Counted.{expr_in, maybe_counted, pair_in, param_tally, plain}
use Rattle.star_trees.specs.Counted.{same_scopes, target_in, expr_tallies}
use Rattle.star_trees.specs.declared.trees.Arg.{Arg}
use Rattle.star_trees.specs.declared.trees.Arg as arg_tree
use Rattle.star_trees.specs.declared.trees.BinOp.{BinOp}
use Rattle.star_trees.specs.declared.trees.Clause.{Clause}
use Rattle.star_trees.specs.declared.trees.Clause as clause_tree
use Rattle.star_trees.specs.declared.trees.Expr as e
use Rattle.star_trees.specs.declared.trees.Expr.{Expr}
use Rattle.star_trees.specs.declared.trees.ExprPair.{roll-ExprPair}
use Rattle.star_trees.specs.declared.trees.Target as target_tree
use Rattle.star_trees.specs.declared.trees.UnOp.{UnOp}
use Rattle.star_trees.specs.declared.files.Param.TheVariants as param_tree
use Rattle.star_grammar.specs.declared.bare_expressions.BareArg.TheOpen.{BareArg-F, BareClause-F}
use Rattle.star_grammar.specs.declared.bare_expressions.BareArg.TheOpen.{BareExpr-F, BareParam-F}
use Rattle.star_grammar.specs.declared.bare_expressions.BareExpr.{BareExpr}
use Rattle.star_grammar.specs.declared.bare_expressions.BareParam.{BareParam}
use Rattle.star_trees.specs.Variables.{Names, variables, Binding, each_binds, name_binds}
use Rattle.star_trees.specs.Variables.{no_binding}
use Rattle.star_scopes.specs.ExprMaking.{arg_made, clause_made, expr_made, param_made, target_made}
use Rattle.star_scopes.specs.ExprMaking.{items_made, pairs_made, args_made, params_made}
use Rattle.star_scopes.specs.ExprMaking.{targets_made, maybe_made, list_made, tuple_made, dict_made}
use Rattle.star_scopes.specs.ExprMaking.{more_clauses_made, some_clauses_made, clauses_made}
use Rattle.star_scopes.specs.ExprMaking.{list_comp_made, dict_comp_made, unary_made, binary_made}
use Rattle.star_scopes.specs.ExprMaking.{cond_made, lambda_made, lambda_code, attr_made, index_made}
use Rattle.star_scopes.specs.ExprMaking.{slice_made, call_made, index_target, many_target}
use Rattle.star_scopes.specs.ExprMaking.{named_arg_made, optional_made, pair_made, for_clause_made}
use Rattle.star_scopes.specs.ExprMeaning.{arg_meaning, arg_step, clause_meaning, clause_step}
use Rattle.star_scopes.specs.ExprMeaning.{expr_step, meaning, pair_meaning, pair_step}
use Rattle.star_scopes.specs.ExprMeaning.{param_meaning, param_step}
use Rattle.star_scopes.specs.Making.{pure, finish}
use Rattle.star_scopes.specs.Meanings.{ArgMeaning, ClauseMeaning, ExprMeaning, PairMeaning}
use Rattle.star_scopes.specs.Meanings.{ParamMeaning}
use Rattle.star_scopes.specs.Scopes.{variable}
use Rattle.star_trees.specs.declared.trees.ExprPair.{ExprPair}
use Rattle.star_trees.specs.declared.trees.Target.{Target}
use Rattle.star_trees.specs.declared.files.Param.{Param}
use Rattle.star_scopes.specs.Binds.{clause_binds, param_binds, target_binds}
use Rattle.star_scopes.specs.ExprUses.{arg_uses, args_use, call_uses, clause_uses, clauses_use}
use Rattle.star_scopes.specs.ExprUses.{cond_uses, dict_comp_uses, expr_uses, items_use, lambda_uses}
use Rattle.star_scopes.specs.ExprUses.{list_comp_uses, maybe_uses, pairs_use, param_uses}
use Rattle.star_scopes.specs.ExprUses.{params_use, slice_uses, two_use}
use Rattle.star_scopes.specs.Uses.{◌>>◌, each_uses}
use Rattle.star_scopes.specs.declared.dialects.Dialect.{Dialect}

pub fits-by : {tally other : Tally} {scopes : List Names} {bound : Binding}
    → tally ≡ other
    → Fits other scopes bound
    → Fits tally scopes bound
fits-by {scopes} {bound} same fits = subst (λ tally. Fits tally scopes bound) (sym same) fits

-- what binds nothing
pub plain-fits : {counted : Counted} {scopes : List Names}
    → counted scopes ≡ true
    → Fits (plain counted) scopes no_binding
plain-fits so = record { counted = so; bound = refl }

pub counted-by : {counted other : Counted} (scopes : List Names)
    → counted ≡ other
    → other scopes ≡ true
    → counted scopes ≡ true
counted-by scopes same so = ap (λ counted. counted scopes) same ∙ so

pub record ClauseFits (tally : ClauseTally) (inner scopes : List Names)
    (binding : Binding) : Type 0 where
  pub counted : tally.counted inner scopes ≡ true
  pub bound : tally.bound ≡ binding

pub clause_fits-by : {tally other : ClauseTally} {inner scopes : List Names} {bound : Binding}
    → tally ≡ other
    → ClauseFits other inner scopes bound
    → ClauseFits tally inner scopes bound
clause_fits-by {inner} {scopes} {bound} same fits = subst
    (λ tally. ClauseFits tally inner scopes bound) (sym same) fits

-- ---- what is made of a meaning, beside it, in a file with these free names

module _ (free : Names) (scopes : List Names) where
  abbrev pub ExprFits : Whole → ExprMeaning → Expr → Type 0
  ExprFits whole m made = Fits (expr_in free whole.loads whole.around made) scopes m.bound

  abbrev pub TargetFits : Whole → ExprMeaning → Target → Type 0
  TargetFits whole m made = Fits (target_in free whole.loads whole.around made) scopes m.bound

  abbrev pub ParamFits : Whole → ParamMeaning → Param → Type 0
  ParamFits whole m made = Fits (param_tally free whole.loads whole.around made) scopes m.bound

  abbrev pub ArgCounted : Whole → ArgMeaning → Arg → Type 0
  ArgCounted whole m made = arg_in free whole.loads whole.around made scopes ≡ true

  abbrev pub PairCounted : Whole → PairMeaning → ExprPair → Type 0
  PairCounted whole m made = pair_in free whole.loads whole.around made scopes ≡ true

-- ---- meanings whose uses grow, and whose makings are sound where these are covered

pub record ExprSound (dialect : Dialect) (free : Names) (m : ExprMeaning) : Type 0 where
  pub keeps : Keeps m.bound
  pub grows : (scopes : List Names) → Grows (m.uses dialect scopes)
  pub expr : (scopes : List Names)
      → Covered free (m.uses dialect scopes)
      → Always free (λ whole. ExprFits free scopes whole m) (m.expr free scopes)
  pub target : (scopes : List Names)
      → Covered free (m.uses dialect scopes)
      → Always free (λ whole. TargetFits free scopes whole m) (m.target free scopes)

pub record ArgSound (dialect : Dialect) (free : Names) (m : ArgMeaning) : Type 0 where
  pub grows : (scopes : List Names) → Grows (m.uses dialect scopes)
  pub arg : (scopes : List Names)
      → Covered free (m.uses dialect scopes)
      → Always free (λ whole. ArgCounted free scopes whole m) (m.arg free scopes)

pub record ClauseSound (dialect : Dialect) (free : Names) (m : ClauseMeaning) : Type 0 where
  pub grows : (inner scopes : List Names) → Grows (m.uses dialect inner scopes)
  pub clause : (inner scopes : List Names)
      → Covered free (m.uses dialect inner scopes)
      → Always free (λ whole made. ClauseFits (clause_in free whole.loads whole.around made) inner
      scopes m.bound) (m.clause free inner scopes)

pub record ParamSound (dialect : Dialect) (free : Names) (m : ParamMeaning) : Type 0 where
  pub grows : (scopes : List Names) → Grows (m.uses dialect scopes)
  pub param : (scopes : List Names)
      → Covered free (m.uses dialect scopes)
      → Always free (λ whole. ParamFits free scopes whole m) (m.param free scopes)

pub record PairSound (dialect : Dialect) (free : Names) (m : PairMeaning) : Type 0 where
  pub grows : (scopes : List Names) → Grows (m.uses dialect scopes)
  pub pair : (scopes : List Names)
      → Covered free (m.uses dialect scopes)
      → Always free (λ whole. PairCounted free scopes whole m) (m.pair free scopes)

module _ (dialect : Dialect) (free : Names) where
  abbrev SoundArg : Type 0
  SoundArg = With (λ tree. ArgSound dialect free (arg_meaning tree))

  abbrev SoundClause : Type 0
  SoundClause = With (λ tree. ClauseSound dialect free (clause_meaning tree))

  abbrev SoundExpr : Type 0
  SoundExpr = With (λ tree. ExprSound dialect free (meaning tree))

  abbrev SoundParam : Type 0
  SoundParam = With (λ tree. ParamSound dialect free (param_meaning tree))

  abbrev SoundPair : Type 0
  SoundPair = With (λ tree. PairSound dialect free (pair_meaning tree))

-- ---- bindings keep what was bound before

targets-keep : (dialect : Dialect) (free : Names) (targets : List (SoundExpr dialect free))
    → Keeps (each_binds (map (λ (target : ExprMeaning). target.bound) (map meaning (map bare
    targets))))
targets-keep dialect free targets = binds-keep (λ (m : ExprMeaning). m.bound) _
    (each-of meaning (λ tree sound. sound.keeps) targets)

-- ---- uses grow

module _ (dialect : Dialect) (free : Names) (scopes : List Names) where
  items-grow : (items : List (SoundExpr dialect free))
      → Grows (items_use dialect scopes (map meaning (map bare items)))
  unfolding items_use
  items-grow items = each-grows (λ one. one.uses dialect scopes) _
      (each-of meaning (λ tree sound. sound.grows scopes) items)

  pairs-grow : (pairs : List (SoundPair dialect free))
      → Grows (pairs_use dialect scopes (map pair_meaning (map bare pairs)))
  unfolding pairs_use
  pairs-grow pairs = each-grows (λ one. one.uses dialect scopes) _
      (each-of pair_meaning (λ tree sound. sound.grows scopes) pairs)

  args-grow : (args : List (SoundArg dialect free))
      → Grows (args_use dialect scopes (map arg_meaning (map bare args)))
  unfolding args_use
  args-grow args = each-grows (λ one. one.uses dialect scopes) _
      (each-of arg_meaning (λ tree sound. sound.grows scopes) args)

  params-grow : (params : List (SoundParam dialect free))
      → Grows (params_use dialect scopes (map param_meaning (map bare params)))
  unfolding params_use
  params-grow params = each-grows (λ one. one.uses dialect scopes) _
      (each-of param_meaning (λ tree sound. sound.grows scopes) params)

  maybe-grows : (bound : Option (SoundExpr dialect free))
      → Grows (maybe_uses dialect scopes (option_map meaning (option_map bare bound)))
  unfolding maybe_uses
  maybe-grows None = no_use-grows
  maybe-grows (Some bound) = bound.1.grows scopes

  two-grow : (one other : SoundExpr dialect free)
      → Grows (two_use dialect scopes (meaning one.0) (meaning other.0))
  unfolding two_use
  two-grow one other = both-grow (one.1.grows scopes) (other.1.grows scopes)

  more_clauses-grow : (inner : List Names) (clauses : List (SoundClause dialect free))
      → Grows (each_uses (map (λ (clause : ClauseMeaning). clause.uses dialect inner inner) (map
      clause_meaning (map bare clauses))))
  more_clauses-grow inner clauses = each-grows (λ one. one.uses dialect inner inner) _
      (each-of clause_meaning (λ tree sound. sound.grows inner inner) clauses)

  clauses-grow : (inner : List Names) (clauses : List (SoundClause dialect free))
      → Grows (clauses_use dialect scopes inner (map clause_meaning (map bare clauses)))
  unfolding clauses_use
  clauses-grow inner [] = no_use-grows
  clauses-grow inner (one ∷ more) = both-grow (one.1.grows inner scopes)
      (more_clauses-grow inner more)

  list_comp-grows : (item : SoundExpr dialect free) (clauses : List (SoundClause dialect free))
      → Grows (list_comp_uses dialect scopes (meaning item.0) (map clause_meaning (map bare
      clauses)))
  unfolding list_comp_uses
  list_comp-grows item clauses = both-grow (item.1.grows _) (clauses-grow _ clauses)

  dict_comp-grows : (key value : SoundExpr dialect free) (clauses : List (SoundClause dialect free))
      → Grows (dict_comp_uses dialect scopes (meaning key.0) (meaning value.0) (map clause_meaning
      (map bare clauses)))
  unfolding dict_comp_uses
  dict_comp-grows key value clauses = both-grow (key.1.grows _)
      (both-grow (value.1.grows _) (clauses-grow _ clauses))

  cond-grows : (test chosen other : SoundExpr dialect free)
      → Grows (cond_uses dialect scopes (meaning test.0) (meaning chosen.0) (meaning other.0))
  unfolding cond_uses
  cond-grows test chosen other = both-grow (chosen.1.grows scopes) (two-grow test other)

  lambda-grows : (params : List (SoundParam dialect free)) (body : SoundExpr dialect free)
      → Grows (lambda_uses dialect scopes (map param_meaning (map bare params)) (meaning body.0))
  unfolding lambda_uses
  lambda-grows params body = both-grow (params-grow params) (body.1.grows _)

  slice-grows : (container : SoundExpr dialect free)
      (begin end step : Option (SoundExpr dialect free))
      → Grows (slice_uses dialect scopes (meaning container.0) (option_map meaning (option_map bare
      begin)) (option_map meaning (option_map bare end))
      (option_map meaning (option_map bare step)))
  unfolding slice_uses
  slice-grows container begin end step = both-grow (container.1.grows scopes)
      (both-grow (maybe-grows begin) (both-grow (maybe-grows end) (maybe-grows step)))

  call-grows : (function : SoundExpr dialect free) (args : List (SoundArg dialect free))
      → Grows (call_uses dialect scopes (meaning function.0) (map arg_meaning (map bare args)))
  unfolding call_uses
  call-grows function args = both-grow (function.1.grows scopes) (args-grow args)

-- ---- makings are sound

abbrev MaybeCounted : Names → List Names → Whole → Option Expr → Type 0
MaybeCounted free scopes whole made = maybe_counted
    (option_map counted_of (option_map (expr_in free whole.loads whole.around) made)) scopes ≡ true

abbrev ClausesFit : Names
    → List Names
    → List Names
    → List ClauseMeaning
    → Whole
    → List Clause
    → Type 0
ClausesFit free inner scopes clauses whole made =
    (clauses_counted (map (clause_in free whole.loads whole.around) made) inner scopes ≡ true)
    × (map (λ (clause : ClauseTally). clause.bound)
    (map (clause_in free whole.loads whole.around) made)
    ≡ map (λ (clause : ClauseMeaning). clause.bound) clauses)

-- the clauses behind the first
more-counted : (free : Names) (inner : List Names) (whole : Whole) (clauses : List ClauseMeaning)
    (made : List Clause)
    → Pairwise (λ (m : ClauseMeaning) one. ClauseFits (clause_in free whole.loads whole.around one)
    inner inner m.bound) clauses made
    → each_counted (map (λ (clause : ClauseTally). clause.counted inner) (map (clause_in free
    whole.loads whole.around) made)) inner ≡ true
more-counted free inner whole clauses made Pairwise.none = refl
more-counted free inner whole clauses made
    (Pairwise.more {bs = others} {made = rest} fits all) = and_from _ _ fits.counted
    (more-counted free inner whole others rest all)

more-bound : (free : Names) (inner : List Names) (whole : Whole) (clauses : List ClauseMeaning)
    (made : List Clause)
    → Pairwise (λ (m : ClauseMeaning) one. ClauseFits (clause_in free whole.loads whole.around one)
    inner inner m.bound) clauses made
    → map (λ (clause : ClauseTally). clause.bound)
    (map (clause_in free whole.loads whole.around) made)
    ≡ map (λ (clause : ClauseMeaning). clause.bound) clauses
more-bound free inner whole clauses made Pairwise.none = refl
more-bound free inner whole clauses made
    (Pairwise.more {bs = others} {made = rest} fits all) = λ i. fits.bound i ∷ more-bound free inner
    whole others rest all i

module _ (dialect : Dialect) (free : Names) (scopes : List Names) where
  items-sound : (items : List (SoundExpr dialect free))
      → Covered free (items_use dialect scopes (map meaning (map bare items)))
      → Always free (λ whole. Pairwise (ExprFits free scopes whole) (map meaning (map bare items)))
      (items_made free scopes (map meaning (map bare items)))
  unfolding items_made items_use
  items-sound items covered = each-good (ExprFits free scopes) (λ one. one.uses dialect scopes)
      (λ one. one.expr free scopes) _
      (each-of meaning (λ tree sound. record {
        grows = sound.grows scopes;
        sound = sound.expr scopes;
      }) items) covered

  pairs-sound : (pairs : List (SoundPair dialect free))
      → Covered free (pairs_use dialect scopes (map pair_meaning (map bare pairs)))
      → Always free (λ whole. Pairwise (PairCounted free scopes whole) (map pair_meaning (map bare
      pairs))) (pairs_made free scopes (map pair_meaning (map bare pairs)))
  unfolding pairs_made pairs_use
  pairs-sound pairs covered = each-good (PairCounted free scopes) (λ one. one.uses dialect scopes)
      (λ one. one.pair free scopes) _
      (each-of pair_meaning
      (λ tree sound. record { grows = sound.grows scopes; sound = sound.pair scopes }) pairs)
      covered

  args-sound : (args : List (SoundArg dialect free))
      → Covered free (args_use dialect scopes (map arg_meaning (map bare args)))
      → Always free (λ whole. Pairwise (ArgCounted free scopes whole) (map arg_meaning (map bare
      args))) (args_made free scopes (map arg_meaning (map bare args)))
  unfolding args_made args_use
  args-sound args covered = each-good (ArgCounted free scopes) (λ one. one.uses dialect scopes)
      (λ one. one.arg free scopes) _
      (each-of arg_meaning
      (λ tree sound. record { grows = sound.grows scopes; sound = sound.arg scopes }) args) covered

  params-sound : (params : List (SoundParam dialect free))
      → Covered free (params_use dialect scopes (map param_meaning (map bare params)))
      → Always free (λ whole. Pairwise (ParamFits free scopes whole) (map param_meaning (map bare
      params))) (params_made free scopes (map param_meaning (map bare params)))
  unfolding params_made params_use
  params-sound params covered = each-good (ParamFits free scopes) (λ one. one.uses dialect scopes)
      (λ one. one.param free scopes) _
      (each-of param_meaning
      (λ tree sound. record { grows = sound.grows scopes; sound = sound.param scopes }) params)
      covered

  targets-sound : (targets : List (SoundExpr dialect free))
      → Covered free (items_use dialect scopes (map meaning (map bare targets)))
      → Always free (λ whole. Pairwise (TargetFits free scopes whole) (map meaning (map bare
      targets))) (targets_made free scopes (map meaning (map bare targets)))
  unfolding targets_made items_use
  targets-sound targets covered = each-good (TargetFits free scopes)
      (λ one. one.uses dialect scopes) (λ one. one.target free scopes) _
      (each-of meaning (λ tree sound. record {
        grows = sound.grows scopes;
        sound = sound.target
            scopes;
      }) targets) covered

  maybe-sound : (bound : Option (SoundExpr dialect free))
      → Covered free (maybe_uses dialect scopes (option_map meaning (option_map bare bound)))
      → Always free (MaybeCounted free scopes)
      (maybe_made free scopes (option_map meaning (option_map bare bound)))
  unfolding maybe_made maybe_uses
  maybe-sound None covered = only None (λ whole. refl)
  maybe-sound (Some bound) covered = first (bound.1.expr scopes covered)
      (λ made known one. done known (Some made) (λ whole keeps. (one whole keeps).counted))

  list-sound : (items : List (SoundExpr dialect free))
      → Covered free (items_use dialect scopes (map meaning (map bare items)))
      → Always free (λ whole made. Fits (expr_in free whole.loads whole.around made) scopes
      (each_binds (map (λ target. target.bound) (map meaning (map bare items)))))
      (list_made free scopes (map meaning (map bare items)))
  unfolding list_made
  list-sound items covered = first (items-sound items covered)
      (λ made known one. done known (e.List made)
      (λ whole keeps. fits-by (is.fold_expr-List (expr_tallies free whole.loads whole.around) made)
      (record {
        counted = all-fit (expr_in free whole.loads whole.around) (λ m. m.bound) scopes _ made
            (one whole keeps);
        bound = ap each_binds
            (all-bound (expr_in free whole.loads whole.around) (λ m. m.bound) scopes _ made
            (one whole keeps));
      })))

  tuple-sound : (items : List (SoundExpr dialect free))
      → Covered free (items_use dialect scopes (map meaning (map bare items)))
      → Always free (λ whole made. Fits (expr_in free whole.loads whole.around made) scopes
      (each_binds (map (λ target. target.bound) (map meaning (map bare items)))))
      (tuple_made free scopes (map meaning (map bare items)))
  unfolding tuple_made
  tuple-sound items covered = first (items-sound items covered)
      (λ made known one. done known (e.Tuple made)
      (λ whole keeps. fits-by (is.fold_expr-Tuple (expr_tallies free whole.loads whole.around) made)
      (record {
        counted = all-fit (expr_in free whole.loads whole.around) (λ m. m.bound) scopes _ made
            (one whole keeps);
        bound = ap each_binds
            (all-bound (expr_in free whole.loads whole.around) (λ m. m.bound) scopes _ made
            (one whole keeps));
      })))

  many_target-sound : (targets : List (SoundExpr dialect free))
      → Covered free (items_use dialect scopes (map meaning (map bare targets)))
      → Always free (λ whole made. Fits (target_in free whole.loads whole.around made) scopes
      (each_binds (map (λ target. target.bound) (map meaning (map bare targets)))))
      (many_target free scopes (map meaning (map bare targets)))
  unfolding many_target
  many_target-sound targets covered = first (targets-sound targets covered)
      (λ made known one. done known (target_tree.Many made)
      (λ whole keeps. fits-by
      (is.fold_target-Many (expr_tallies free whole.loads whole.around) made) (record {
        counted = all-fit (target_in free whole.loads whole.around) (λ m. m.bound) scopes _ made
            (one whole keeps);
        bound = ap each_binds
            (all-bound (target_in free whole.loads whole.around) (λ m. m.bound) scopes _ made
            (one whole keeps));
      })))

  -- an expression that binds nothing
  abbrev Plain : Whole → Expr → Type 0
  Plain whole made = Fits (expr_in free whole.loads whole.around made) scopes no_binding

  dict-sound : (pairs : List (SoundPair dialect free))
      → Covered free (pairs_use dialect scopes (map pair_meaning (map bare pairs)))
      → Always free Plain (dict_made free scopes (map pair_meaning (map bare pairs)))
  unfolding dict_made
  dict-sound pairs covered = first (pairs-sound pairs covered)
      (λ made known one. done known (e.Dict made)
      (λ whole keeps. fits-by (is.fold_expr-Dict (expr_tallies free whole.loads whole.around) made)
      (plain-fits (each-counted (pair_in free whole.loads whole.around) scopes _ made (one whole
      keeps)))))

  more_clauses-sound : (inner : List Names) (clauses : List (SoundClause dialect free))
      → Covered free (each_uses (map (λ (clause : ClauseMeaning). clause.uses dialect inner inner)
      (map clause_meaning (map bare clauses))))
      → Always free (λ whole. Pairwise (λ (m : ClauseMeaning) one. ClauseFits (clause_in free
      whole.loads whole.around one) inner inner m.bound)
      (map clause_meaning (map bare clauses)))
      (more_clauses_made free scopes inner (map clause_meaning (map bare clauses)))
  unfolding more_clauses_made
  more_clauses-sound inner clauses covered =
      each-good (λ whole (m : ClauseMeaning) one. ClauseFits (clause_in free whole.loads
      whole.around one) inner inner m.bound) (λ one. one.uses dialect inner inner)
      (λ one. one.clause free inner inner) _
      (each-of clause_meaning
      (λ tree sound. record
      { grows = sound.grows inner inner; sound = sound.clause inner inner }) clauses) covered

  some_clauses-sound : (inner : List Names) (one : SoundClause dialect free)
      (more : List (SoundClause dialect free))
      → Covered free (clauses_use dialect scopes inner (clause_meaning one.0 ∷ map clause_meaning
      (map bare more)))
      → Always free (ClausesFit free inner scopes (clause_meaning one.0 ∷ map clause_meaning (map
      bare more))) (some_clauses_made free scopes inner (clause_meaning one.0) (map
      clause_meaning (map bare more)))
  unfolding some_clauses_made clauses_use
  some_clauses-sound inner one more covered =
      first (one.1.clause inner scopes (first-covered (more_clauses-grow dialect free scopes inner
      more) covered)) (λ made known so.
      then (more_clauses-sound inner more (second-covered _ covered)) (λ others later up all.
      done later (made ∷ others) (λ whole keeps.
      let here = so whole (back up keeps) in (
        and_from _ _ here.counted
            (more-counted free inner whole _ others
            (all whole keeps)),
        λ i. here.bound i ∷ more-bound free inner whole _ others
            (all whole keeps) i,
      ))))

  clauses-sound : (inner : List Names) (clauses : List (SoundClause dialect free))
      → Covered free (clauses_use dialect scopes inner (map clause_meaning (map bare clauses)))
      → Always free (ClausesFit free inner scopes (map clause_meaning (map bare clauses)))
      (clauses_made free scopes inner (map clause_meaning (map bare clauses)))
  unfolding clauses_made
  clauses-sound inner [] covered = only [] (λ whole. (refl, refl))
  clauses-sound inner (one ∷ more) covered = some_clauses-sound inner one more covered

  list_comp-sound : (item : SoundExpr dialect free) (clauses : List (SoundClause dialect free))
      → Covered free (list_comp_uses dialect scopes (meaning item.0) (map clause_meaning (map bare
      clauses)))
      → Always free Plain (list_comp_made free scopes (meaning item.0) (map clause_meaning (map bare
      clauses)))
  unfolding list_comp_made list_comp_uses
  list_comp-sound item clauses covered =
      let inner = variables
      (map (λ clause. clause.bound) (map clause_meaning (map bare clauses))) ∷ scopes in
      first (item.1.expr inner (first-covered (clauses-grow dialect free scopes inner clauses)
      covered)) (λ made known one.
      then (clauses-sound inner clauses (second-covered _ covered)) (λ others later up all.
      done later (e.ListComp made others) (λ whole keeps.
      let fit = all whole keeps in
      fits-by (is.fold_expr-ListComp (expr_tallies free whole.loads whole.around) made others)
      (plain-fits (
      subst (λ bounds. ((expr_in free whole.loads whole.around made).counted (variables bounds ∷
      scopes) && clauses_counted (map (clause_in free whole.loads whole.around) others)
      (variables bounds ∷ scopes) scopes) ≡ true) (sym fit.1)
      (and_from _ _ (one whole (back up keeps)).counted fit.0))))))

  dict_comp-sound : (key value : SoundExpr dialect free) (clauses : List (SoundClause dialect free))
      → Covered free (dict_comp_uses dialect scopes (meaning key.0) (meaning value.0) (map
      clause_meaning (map bare clauses)))
      → Always free Plain (dict_comp_made free scopes (meaning key.0) (meaning value.0) (map
      clause_meaning (map bare clauses)))
  unfolding dict_comp_made dict_comp_uses
  dict_comp-sound key value clauses covered =
      let inner = variables
      (map (λ clause. clause.bound) (map clause_meaning (map bare clauses))) ∷ scopes in
      let clauses_too = clauses-grow dialect free scopes inner clauses in
      let rest = second-covered _ covered in
      first (key.1.expr inner (first-covered (both-grow (value.1.grows inner) clauses_too) covered))
      (λ made_key known one.
      then (value.1.expr inner (first-covered clauses_too rest)) (λ made later up two.
      then (clauses-sound inner clauses (second-covered _ rest)) (λ others last further all.
      done last (e.DictComp made_key made others) (λ whole keeps.
      let before = back further keeps in
      let fit = all whole keeps in
      let expr = expr_in free whole.loads whole.around in
      fits-by (is.fold_expr-DictComp (expr_tallies free whole.loads whole.around) made_key made
      others) (plain-fits (
      subst (λ bounds. (((expr made_key).counted (variables bounds ∷ scopes) && (expr made).counted
      (variables bounds ∷ scopes))
      && clauses_counted (map (clause_in free whole.loads whole.around) others)
      (variables bounds ∷ scopes) scopes) ≡ true) (sym fit.1)
      (and_from _ _ (and_from _ _ (one whole (back up before)).counted (two whole before).counted)
      fit.0)))))))

  unary-sound : (op : UnOp) (operand : SoundExpr dialect free)
      → Covered free ((meaning operand.0).uses dialect scopes)
      → Always free Plain (unary_made free scopes op (meaning operand.0))
  unfolding unary_made
  unary-sound op operand covered = first (operand.1.expr scopes covered)
      (λ made known one. done known (e.Unary op made)
      (λ whole keeps. fits-by
      (is.fold_expr-Unary (expr_tallies free whole.loads whole.around) op made)
      (plain-fits (one whole keeps).counted)))

  binary-sound : (op : BinOp) (left right : SoundExpr dialect free)
      → Covered free (two_use dialect scopes (meaning left.0) (meaning right.0))
      → Always free Plain (binary_made free scopes op (meaning left.0) (meaning right.0))
  unfolding binary_made two_use
  binary-sound op left right covered =
      first (left.1.expr scopes (first-covered (right.1.grows scopes) covered)) (λ made known one.
      then (right.1.expr scopes (second-covered _ covered)) (λ other later up two.
      done later (e.Binary op made other)
      (λ whole keeps. fits-by
      (is.fold_expr-Binary (expr_tallies free whole.loads whole.around) op made other)
      (plain-fits (and_from _ _ (one whole (back up keeps)).counted (two whole
      keeps).counted)))))

  cond-sound : (test chosen other : SoundExpr dialect free)
      → Covered free (cond_uses dialect scopes (meaning test.0) (meaning chosen.0) (meaning
      other.0))
      → Always free Plain (cond_made free scopes (meaning test.0) (meaning chosen.0) (meaning
      other.0))
  unfolding cond_made cond_uses two_use
  cond-sound test chosen other covered =
      let rest = second-covered _ covered in
      first (chosen.1.expr scopes (first-covered (two-grow dialect free scopes test other) covered))
      (λ made_chosen known one.
      then (test.1.expr scopes (first-covered (other.1.grows scopes) rest))
      (λ made_test later up two.
      then (other.1.expr scopes (second-covered _ rest)) (λ made_other last further three.
      done last (e.Cond made_test made_chosen made_other) (λ whole keeps.
      let before = back further keeps in
      fits-by (is.fold_expr-Cond (expr_tallies free whole.loads whole.around) made_test made_chosen
      made_other) (plain-fits (and_from _ _ (two whole before).counted (and_from _ _ (one whole
      (back up before)).counted (three whole keeps).counted)))))))

  lambda-sound : (params : List (SoundParam dialect free)) (body : SoundExpr dialect free)
      (line : ℕ)
      → Covered free (lambda_uses dialect scopes (map param_meaning (map bare params)) (meaning
      body.0))
      → Always free Plain (lambda_made free scopes (map param_meaning (map bare params)) (meaning
      body.0) line)
  unfolding lambda_made lambda_uses
  lambda-sound params body line covered =
      let inner = variables
      (map (λ param. param.bound) (map param_meaning (map bare params))) ∷ scopes in
      first (begin-good free scopes) (λ place known at.
      then (params-sound params (first-covered (body.1.grows inner) covered))
      (λ made_params later up one.
      then (body.1.expr inner (second-covered _ covered)) (λ made_body last further two.
      let code = lambda_code made_params made_body line in
      bind-good {making = finish place code} {next = λ _. pure (e.Lambda place)}
      (finish-good free last place code (λ whole keeps.
      let before = back further keeps in
      let fit = one whole before in
      let tally = param_tally free whole.loads whole.around in
      subst (λ around. code_counted free whole.loads whole.around code around ≡ true)
      (sym (at whole (back up before)))
      (and_from _ _ (all-fit tally (λ m. m.bound) scopes _ made_params fit)
      (subst (λ bounds. (expr_in free whole.loads whole.around made_body).counted (variables bounds
      ∷ scopes) ≡ true) (sym (all-bound tally (λ m. m.bound) scopes _ made_params fit))
      (two whole keeps).counted)))) (λ _ end more _.
      done end (e.Lambda place)
      (λ whole keeps. fits-by
      (is.fold_expr-Lambda (expr_tallies free whole.loads whole.around) place) (plain-fits (
      subst (λ around. same_scopes around scopes ≡ true)
      (sym (at whole (back up (back further (back more keeps)))))
      (same_scopes-self scopes))))))))

  attr-sound : (container : SoundExpr dialect free) (name : List ℕ)
      → Covered free ((meaning container.0).uses dialect scopes)
      → Always free Plain (attr_made free scopes (meaning container.0) name)
  unfolding attr_made
  attr-sound container name covered = first (container.1.expr scopes covered)
      (λ made known one. done known (e.Attr made name)
      (λ whole keeps. fits-by
      (is.fold_expr-Attr (expr_tallies free whole.loads whole.around) made name)
      (plain-fits (one whole keeps).counted)))

  index-sound : (container at : SoundExpr dialect free)
      → Covered free (two_use dialect scopes (meaning container.0) (meaning at.0))
      → Always free Plain (index_made free scopes (meaning container.0) (meaning at.0))
  unfolding index_made two_use
  index-sound container at covered =
      first (container.1.expr scopes (first-covered (at.1.grows scopes) covered)) (λ made known one.
      then (at.1.expr scopes (second-covered _ covered)) (λ other later up two.
      done later (e.Index made other)
      (λ whole keeps. fits-by
      (is.fold_expr-Index (expr_tallies free whole.loads whole.around) made other)
      (plain-fits (and_from _ _ (one whole (back up keeps)).counted (two whole
      keeps).counted)))))

  slice-sound : (container : SoundExpr dialect free)
      (begin end step : Option (SoundExpr dialect free))
      → Covered free (slice_uses dialect scopes (meaning container.0) (option_map meaning
      (option_map bare begin)) (option_map meaning (option_map bare end))
      (option_map meaning (option_map bare step)))
      → Always free Plain (slice_made free scopes (meaning container.0) (option_map meaning
      (option_map bare begin)) (option_map meaning (option_map bare end))
      (option_map meaning (option_map bare step)))
  unfolding slice_made slice_uses
  slice-sound container begin end step covered =
      let steps = maybe-grows dialect free scopes step in
      let ends = both-grow (maybe-grows dialect free scopes end) steps in
      let rest = second-covered _ covered in
      let behind = second-covered _ rest in
      first (container.1.expr scopes (first-covered (both-grow (maybe-grows dialect free scopes
      begin) ends) covered)) (λ made known one.
      then (maybe-sound begin (first-covered ends rest)) (λ made_begin later up two.
      then (maybe-sound end (first-covered steps behind)) (λ made_end next further three.
      then (maybe-sound step (second-covered _ behind)) (λ made_step last more four.
      done last (e.Slice made made_begin made_end made_step) (λ whole keeps.
      let third = back more keeps in
      let second = back further third in
      fits-by (is.fold_expr-Slice (expr_tallies free whole.loads whole.around) made made_begin
      made_end made_step) (plain-fits (and_from _ _ (one whole (back up second)).counted
      (and_from _ _ (two whole second)
      (and_from _ _ (three whole third) (four whole keeps))))))))))

  call-sound : (function : SoundExpr dialect free) (args : List (SoundArg dialect free))
      → Covered free (call_uses dialect scopes (meaning function.0) (map arg_meaning (map bare
      args)))
      → Always free Plain (call_made free scopes (meaning function.0) (map arg_meaning (map bare
      args)))
  unfolding call_made call_uses
  call-sound function args covered =
      first (function.1.expr scopes (first-covered (args-grow dialect free scopes args) covered))
      (λ made known one.
      then (args-sound args (second-covered _ covered)) (λ other later up two.
      done later (e.Call made other)
      (λ whole keeps. fits-by
      (is.fold_expr-Call (expr_tallies free whole.loads whole.around) made other)
      (plain-fits (and_from _ _ (one whole (back up keeps)).counted (each-counted (arg_in free
      whole.loads whole.around) scopes _ other (two whole keeps)))))))

  index_target-sound : (container at : SoundExpr dialect free)
      → Covered free (two_use dialect scopes (meaning container.0) (meaning at.0))
      → Always free (λ whole made. Fits (target_in free whole.loads whole.around made) scopes
      no_binding) (index_target free scopes (meaning container.0) (meaning at.0))
  unfolding index_target two_use
  index_target-sound container at covered =
      first (container.1.expr scopes (first-covered (at.1.grows scopes) covered)) (λ made known one.
      then (at.1.expr scopes (second-covered _ covered)) (λ other later up two.
      done later (target_tree.Index made other)
      (λ whole keeps. fits-by
      (is.fold_target-Index (expr_tallies free whole.loads whole.around) made other)
      (plain-fits (and_from _ _ (one whole (back up keeps)).counted (two whole
      keeps).counted)))))

  named_arg-sound : (name : List ℕ) (value : SoundExpr dialect free)
      → Covered free ((meaning value.0).uses dialect scopes)
      → Always free (λ whole made. arg_in free whole.loads whole.around made scopes ≡ true)
      (named_arg_made free scopes name (meaning value.0))
  unfolding named_arg_made
  named_arg-sound name value covered = first (value.1.expr scopes covered)
      (λ made known one. done known (arg_tree.Named name made)
      (λ whole keeps. counted-by scopes
      (is.fold_arg-Named (expr_tallies free whole.loads whole.around) name made)
      (one whole keeps).counted))

  optional-sound : (name : List ℕ) (default : SoundExpr dialect free)
      → Covered free ((meaning default.0).uses dialect scopes)
      → Always free (λ whole made. Fits (param_tally free whole.loads whole.around made) scopes
      (name_binds name)) (optional_made free scopes name (meaning default.0))
  unfolding optional_made
  optional-sound name default covered = first (default.1.expr scopes covered)
      (λ made known one. done known (param_tree.Optional name made)
      (λ whole keeps. record { counted = (one whole keeps).counted; bound = refl }))

  pair-sound : (key value : SoundExpr dialect free)
      → Covered free (two_use dialect scopes (meaning key.0) (meaning value.0))
      → Always free (λ whole made. pair_in free whole.loads whole.around made scopes ≡ true)
      (pair_made free scopes (meaning key.0) (meaning value.0))
  unfolding pair_made two_use
  pair-sound key value covered =
      first (key.1.expr scopes (first-covered (value.1.grows scopes) covered)) (λ made known one.
      then (value.1.expr scopes (second-covered _ covered)) (λ other later up two.
      done later (roll-ExprPair (record { key = made; value = other }))
      (λ whole keeps. counted-by scopes
      (is.fold_pair-roll (expr_tallies free whole.loads whole.around) made other)
      (and_from _ _ (one whole (back up keeps)).counted (two whole keeps).counted))))

for_clause-sound : (dialect : Dialect) (free : Names) (inner scopes : List Names)
    (to over : SoundExpr dialect free)
    → Covered free ((meaning to.0).uses dialect inner >> (meaning over.0).uses dialect scopes)
    → Always free (λ whole made. ClauseFits (clause_in free whole.loads whole.around made) inner
    scopes (meaning to.0).bound)
    (for_clause_made free inner scopes (meaning to.0) (meaning over.0))
unfolding for_clause_made
for_clause-sound dialect free inner scopes to over covered =
    first (to.1.target inner (first-covered (over.1.grows scopes) covered)) (λ made known one.
    then (over.1.expr scopes (second-covered _ covered)) (λ other later up two.
    done later (clause_tree.For made other) (λ whole keeps.
    let fit = one whole (back up keeps) in
    clause_fits-by (is.fold_clause-For (expr_tallies free whole.loads whole.around) made other)
    (record {
      counted = and_from _ _ fit.counted
          (two whole keeps).counted;
      bound = fit.bound;
    }))))

-- ---- a construct of sound parts is sound

module _ (dialect : Dialect) (free : Names) where
  abbrev ArgLayer : Type 0
  ArgLayer = ArgParts (ArgSound dialect free) (ClauseSound dialect free) (ExprSound dialect free)
      (ParamSound dialect free) (PairSound dialect free)

  abbrev ClauseLayer : Type 0
  ClauseLayer = ClauseParts (ArgSound dialect free) (ClauseSound dialect free)
      (ExprSound dialect free) (ParamSound dialect free) (PairSound dialect free)

  abbrev ExprLayer : Type 0
  ExprLayer = ExprParts (ArgSound dialect free) (ClauseSound dialect free) (ExprSound dialect free)
      (ParamSound dialect free) (PairSound dialect free)

  abbrev ParamLayer : Type 0
  ParamLayer = ParamParts (ArgSound dialect free) (ClauseSound dialect free)
      (ExprSound dialect free) (ParamSound dialect free) (PairSound dialect free)

  abbrev PairLayer : Type 0
  PairLayer = PairParts (ArgSound dialect free) (ClauseSound dialect free) (ExprSound dialect free)
      (ParamSound dialect free) (PairSound dialect free)

  abbrev arg-of : ArgLayer → BareArg-F ArgMeaning ClauseMeaning ExprMeaning ParamMeaning PairMeaning
  arg-of = meant-arg (ArgSound dialect free) (ClauseSound dialect free) (ExprSound dialect free)
      (ParamSound dialect free) (PairSound dialect free)

  abbrev clause-of : ClauseLayer
      → BareClause-F ArgMeaning ClauseMeaning ExprMeaning ParamMeaning PairMeaning
  clause-of = meant-clause (ArgSound dialect free) (ClauseSound dialect free)
      (ExprSound dialect free) (ParamSound dialect free) (PairSound dialect free)

  abbrev expr-of : ExprLayer
      → BareExpr-F ArgMeaning ClauseMeaning ExprMeaning ParamMeaning PairMeaning
  expr-of = meant-expr (ArgSound dialect free) (ClauseSound dialect free) (ExprSound dialect free)
      (ParamSound dialect free) (PairSound dialect free)

  abbrev param-of : ParamLayer
      → BareParam-F ArgMeaning ClauseMeaning ExprMeaning ParamMeaning PairMeaning
  param-of = meant-param (ArgSound dialect free) (ClauseSound dialect free) (ExprSound dialect free)
      (ParamSound dialect free) (PairSound dialect free)

  target-binds-keep : (layer : ExprLayer) → Keeps (target_binds (expr-of layer))
  target-binds-keep (BareExpr-F.Name name) = record {
    within = λ names. with_binding-within names
        name.name;
  }
  target-binds-keep (BareExpr-F.Bracketed target) = target.1.keeps
  target-binds-keep (BareExpr-F.Tuple targets) = targets-keep dialect free targets
  target-binds-keep (BareExpr-F.List targets) = targets-keep dialect free targets
  target-binds-keep _ = record { within = within-self }

  expr-uses-grow : (layer : ExprLayer) (scopes : List Names)
      → Grows (expr_uses (expr-of layer) dialect scopes)
  expr-uses-grow (BareExpr-F.Name name) scopes = name_uses-grows name dialect scopes
  expr-uses-grow (BareExpr-F.Int value) scopes = no_use-grows
  expr-uses-grow (BareExpr-F.Text text) scopes = no_use-grows
  expr-uses-grow (BareExpr-F.List items) scopes = items-grow dialect free scopes items
  expr-uses-grow (BareExpr-F.Tuple items) scopes = items-grow dialect free scopes items
  expr-uses-grow (BareExpr-F.Dict pairs) scopes = pairs-grow dialect free scopes pairs
  expr-uses-grow (BareExpr-F.ListComp item clauses) scopes = list_comp-grows dialect free scopes
      item clauses
  expr-uses-grow (BareExpr-F.DictComp key value clauses) scopes = dict_comp-grows dialect free
      scopes key value clauses
  expr-uses-grow (BareExpr-F.Bracketed inside) scopes = inside.1.grows scopes
  expr-uses-grow (BareExpr-F.Unary op operand) scopes = operand.1.grows scopes
  expr-uses-grow (BareExpr-F.Binary op left right) scopes = two-grow dialect free scopes left right
  expr-uses-grow (BareExpr-F.Cond test chosen other) scopes = cond-grows dialect free scopes test
      chosen other
  expr-uses-grow (BareExpr-F.Lambda params body line) scopes = lambda-grows dialect free scopes
      params body
  expr-uses-grow (BareExpr-F.Attr container name) scopes = container.1.grows scopes
  expr-uses-grow (BareExpr-F.Index container at) scopes = two-grow dialect free scopes container at
  expr-uses-grow (BareExpr-F.Slice container None None None) scopes = slice-grows dialect free
      scopes container None None None
  expr-uses-grow (BareExpr-F.Slice container None None (Some step)) scopes = slice-grows dialect
      free scopes container None None (Some step)
  expr-uses-grow (BareExpr-F.Slice container None (Some end) None) scopes = slice-grows dialect free
      scopes container None (Some end) None
  expr-uses-grow (BareExpr-F.Slice container None (Some end) (Some step)) scopes = slice-grows
      dialect free scopes container None (Some end) (Some step)
  expr-uses-grow (BareExpr-F.Slice container (Some begin) None None) scopes = slice-grows dialect
      free scopes container (Some begin) None None
  expr-uses-grow (BareExpr-F.Slice container (Some begin) None (Some step)) scopes = slice-grows
      dialect free scopes container (Some begin) None (Some step)
  expr-uses-grow (BareExpr-F.Slice container (Some begin) (Some end) None) scopes = slice-grows
      dialect free scopes container (Some begin) (Some end) None
  expr-uses-grow (BareExpr-F.Slice container (Some begin) (Some end) (Some step)) scopes =
      slice-grows dialect free scopes container (Some begin) (Some end) (Some step)
  expr-uses-grow (BareExpr-F.Call function args) scopes = call-grows dialect free scopes function
      args

  expr-layer : (layer : ExprLayer) (scopes : List Names)
      → Covered free (expr_uses (expr-of layer) dialect scopes)
      → Always free (λ whole made. Fits (expr_in free whole.loads whole.around made) scopes
      (target_binds (expr-of layer))) (expr_made (expr-of layer) free scopes)
  expr-layer (BareExpr-F.Name name) scopes covered = only _
      (λ whole. fits-by (is.fold_expr-Name (expr_tallies free whole.loads whole.around) (variable
      free scopes name.name))
      (record {
        counted = variable-counted free scopes name.name
            (name-covered free name dialect scopes covered);
        bound = ap name_binds
            (variable-named free scopes name.name);
      }))
  expr-layer (BareExpr-F.Int value) scopes covered = only _
      (λ whole. fits-by (is.fold_expr-Int (expr_tallies free whole.loads whole.around) value)
      (plain-fits refl))
  expr-layer (BareExpr-F.Text text) scopes covered = only _
      (λ whole. fits-by (is.fold_expr-Text (expr_tallies free whole.loads whole.around) text)
      (plain-fits refl))
  expr-layer (BareExpr-F.List items) scopes covered = list-sound dialect free scopes items covered
  expr-layer (BareExpr-F.Tuple items) scopes covered = tuple-sound dialect free scopes items covered
  expr-layer (BareExpr-F.Dict pairs) scopes covered = dict-sound dialect free scopes pairs covered
  expr-layer (BareExpr-F.ListComp item clauses) scopes covered = list_comp-sound dialect free scopes
      item clauses covered
  expr-layer (BareExpr-F.DictComp key value clauses) scopes covered = dict_comp-sound dialect free
      scopes key value clauses covered
  expr-layer (BareExpr-F.Bracketed inside) scopes covered = inside.1.expr scopes covered
  expr-layer (BareExpr-F.Unary op operand) scopes covered = unary-sound dialect free scopes op
      operand covered
  expr-layer (BareExpr-F.Binary op left right) scopes covered = binary-sound dialect free scopes op
      left right covered
  expr-layer (BareExpr-F.Cond test chosen other) scopes covered = cond-sound dialect free scopes
      test chosen other covered
  expr-layer (BareExpr-F.Lambda params body line) scopes covered = lambda-sound dialect free scopes
      params body line covered
  expr-layer (BareExpr-F.Attr container name) scopes covered = attr-sound dialect free scopes
      container name covered
  expr-layer (BareExpr-F.Index container at) scopes covered = index-sound dialect free scopes
      container at covered
  expr-layer (BareExpr-F.Slice container None None None) scopes covered = slice-sound dialect free
      scopes container None None None covered
  expr-layer (BareExpr-F.Slice container None None (Some step)) scopes covered = slice-sound dialect
      free scopes container None None (Some step) covered
  expr-layer (BareExpr-F.Slice container None (Some end) None) scopes covered = slice-sound dialect
      free scopes container None (Some end) None covered
  expr-layer (BareExpr-F.Slice container None (Some end) (Some step)) scopes covered = slice-sound
      dialect free scopes container None (Some end) (Some step) covered
  expr-layer (BareExpr-F.Slice container (Some begin) None None) scopes covered = slice-sound
      dialect free scopes container (Some begin) None None covered
  expr-layer (BareExpr-F.Slice container (Some begin) None (Some step)) scopes covered = slice-sound
      dialect free scopes container (Some begin) None (Some step) covered
  expr-layer (BareExpr-F.Slice container (Some begin) (Some end) None) scopes covered = slice-sound
      dialect free scopes container (Some begin) (Some end) None covered
  expr-layer (BareExpr-F.Slice container (Some begin) (Some end) (Some step)) scopes covered =
      slice-sound dialect free scopes container (Some begin) (Some end) (Some step) covered
  expr-layer (BareExpr-F.Call function args) scopes covered = call-sound dialect free scopes
      function args covered

  no_target : (scopes : List Names)
      → Always free (λ whole made. Fits (target_in free whole.loads whole.around made) scopes
      no_binding) (pure (target_tree.Many []))
  no_target scopes = only _
      (λ whole. fits-by (is.fold_target-Many (expr_tallies free whole.loads whole.around) [])
      (record { counted = refl; bound = refl }))

  target-layer : (layer : ExprLayer) (scopes : List Names)
      → Covered free (expr_uses (expr-of layer) dialect scopes)
      → Always free (λ whole made. Fits (target_in free whole.loads whole.around made) scopes
      (target_binds (expr-of layer))) (target_made (expr-of layer) free scopes)
  target-layer (BareExpr-F.Name name) scopes covered = only _
      (λ whole. fits-by (is.fold_target-Name (expr_tallies free whole.loads whole.around) (variable
      free scopes name.name))
      (record {
        counted = variable-counted free scopes name.name
            (name-covered free name dialect scopes covered);
        bound = ap name_binds
            (variable-named free scopes name.name);
      }))
  target-layer (BareExpr-F.Index container at) scopes covered = index_target-sound dialect free
      scopes container at covered
  target-layer (BareExpr-F.Bracketed target) scopes covered = target.1.target scopes covered
  target-layer (BareExpr-F.Tuple targets) scopes covered = many_target-sound dialect free scopes
      targets covered
  target-layer (BareExpr-F.List targets) scopes covered = many_target-sound dialect free scopes
      targets covered
  target-layer _ scopes covered = no_target scopes

  arg-uses-grow : (layer : ArgLayer) (scopes : List Names)
      → Grows (arg_uses (arg-of layer) dialect scopes)
  arg-uses-grow (BareArg-F.Positional value) scopes = value.1.grows scopes
  arg-uses-grow (BareArg-F.Named name value) scopes = value.1.grows scopes
  arg-uses-grow (BareArg-F.Star value line) scopes = value.1.grows scopes
  arg-uses-grow (BareArg-F.DoubleStar value line) scopes = value.1.grows scopes

  arg-layer : (layer : ArgLayer) (scopes : List Names)
      → Covered free (arg_uses (arg-of layer) dialect scopes)
      → Always free (λ whole made. arg_in free whole.loads whole.around made scopes ≡ true)
      (arg_made (arg-of layer) free scopes)
  arg-layer (BareArg-F.Positional value) scopes covered = first (value.1.expr scopes covered)
      (λ made known one. done known (arg_tree.Positional made)
      (λ whole keeps. counted-by scopes
      (is.fold_arg-Positional (expr_tallies free whole.loads whole.around) made)
      (one whole keeps).counted))
  arg-layer (BareArg-F.Named name value) scopes covered = named_arg-sound dialect free scopes name
      value covered
  arg-layer (BareArg-F.Star value line) scopes covered = first (value.1.expr scopes covered)
      (λ made known one. done known (arg_tree.Star made)
      (λ whole keeps. counted-by scopes
      (is.fold_arg-Star (expr_tallies free whole.loads whole.around) made)
      (one whole keeps).counted))
  arg-layer (BareArg-F.DoubleStar value line) scopes covered = first (value.1.expr scopes covered)
      (λ made known one. done known (arg_tree.DoubleStar made)
      (λ whole keeps. counted-by scopes
      (is.fold_arg-DoubleStar (expr_tallies free whole.loads whole.around) made)
      (one whole keeps).counted))

  param-uses-grow : (layer : ParamLayer) (scopes : List Names)
      → Grows (param_uses (param-of layer) dialect scopes)
  param-uses-grow (BareParam-F.Required name) scopes = no_use-grows
  param-uses-grow (BareParam-F.Optional name default) scopes = default.1.grows scopes
  param-uses-grow (BareParam-F.Bare line) scopes = no_use-grows
  param-uses-grow (BareParam-F.Rest name line) scopes = no_use-grows
  param-uses-grow (BareParam-F.Keywords name line) scopes = no_use-grows

  param-layer : (layer : ParamLayer) (scopes : List Names)
      → Covered free (param_uses (param-of layer) dialect scopes)
      → Always free (λ whole made. Fits (param_tally free whole.loads whole.around made) scopes
      (param_binds (param-of layer))) (param_made (param-of layer) free scopes)
  param-layer (BareParam-F.Required name) scopes covered = only _
      (λ whole. record { counted = refl; bound = refl })
  param-layer (BareParam-F.Optional name default) scopes covered = optional-sound dialect free
      scopes name default covered
  param-layer (BareParam-F.Bare line) scopes covered = only _
      (λ whole. record { counted = refl; bound = refl })
  param-layer (BareParam-F.Rest name line) scopes covered = only _
      (λ whole. record { counted = refl; bound = refl })
  param-layer (BareParam-F.Keywords name line) scopes covered = only _
      (λ whole. record { counted = refl; bound = refl })

  clause-uses-grow : (layer : ClauseLayer) (inner scopes : List Names)
      → Grows (clause_uses (clause-of layer) dialect inner scopes)
  clause-uses-grow (BareClause-F.For to over) inner scopes = both-grow (to.1.grows inner)
      (over.1.grows scopes)
  clause-uses-grow (BareClause-F.If test) inner scopes = test.1.grows inner

  clause-layer : (layer : ClauseLayer) (inner scopes : List Names)
      → Covered free (clause_uses (clause-of layer) dialect inner scopes)
      → Always free (λ whole made. ClauseFits (clause_in free whole.loads whole.around made) inner
      scopes (clause_binds (clause-of layer))) (clause_made (clause-of layer) free inner scopes)
  clause-layer (BareClause-F.For to over) inner scopes covered = for_clause-sound dialect free inner
      scopes to over covered
  clause-layer (BareClause-F.If test) inner scopes covered = first (test.1.expr inner covered)
      (λ made known one. done known (clause_tree.If made)
      (λ whole keeps. clause_fits-by
      (is.fold_clause-If (expr_tallies free whole.loads whole.around) made)
      (record { counted = (one whole keeps).counted; bound = refl })))

  arg-sound : (layer : ArgLayer) → ArgSound dialect free (arg_step (arg-of layer))
  arg-sound layer = record { grows = arg-uses-grow layer; arg = arg-layer layer }

  clause-sound : (layer : ClauseLayer) → ClauseSound dialect free (clause_step (clause-of layer))
  clause-sound layer = record { grows = clause-uses-grow layer; clause = clause-layer layer }

  layer-sound : (layer : ExprLayer) → ExprSound dialect free (expr_step (expr-of layer))
  layer-sound layer = record {
    keeps = target-binds-keep layer;
    grows = expr-uses-grow layer;
    expr = expr-layer layer;
    target = target-layer layer;
  }

  one_param-sound : (layer : ParamLayer) → ParamSound dialect free (param_step (param-of layer))
  one_param-sound layer = record { grows = param-uses-grow layer; param = param-layer layer }

  one_pair-sound : (layer : PairLayer)
      → PairSound dialect free
      (pair_step (meant-pair (ArgSound dialect free) (ClauseSound dialect free) (ExprSound
      dialect free) (ParamSound dialect free) (PairSound dialect free) layer))
  one_pair-sound layer = record {
    grows = λ scopes. two-grow dialect free scopes layer.key layer.value;
    pair = λ scopes.
        pair-sound dialect free scopes layer.key layer.value;
  }

  pub expr-sound : (tree : BareExpr) → ExprSound dialect free (meaning tree)
  expr-sound = of-expr (ArgSound dialect free) (ClauseSound dialect free) (ExprSound dialect free)
      (ParamSound dialect free)
      (PairSound dialect free) arg-sound clause-sound layer-sound one_param-sound one_pair-sound

  pub param-sound : (tree : BareParam) → ParamSound dialect free (param_meaning tree)
  param-sound = of-param (ArgSound dialect free) (ClauseSound dialect free) (ExprSound dialect free)
      (ParamSound dialect free)
      (PairSound dialect free) arg-sound clause-sound layer-sound one_param-sound one_pair-sound

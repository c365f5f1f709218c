-- Nothing may be assigned to an expression that is neither a name nor an index.
use Rattle.std.proofs.Common.{rules, ◌≡◌, ap, subst, false, Option}
use Rattle.star_core.specs.declared.faults.Fault.TheVariants as fault
use Rattle.star_core.specs.declared.values.Val.{Val}
use Rattle.star_meaning.specs.Expressions.{Setting, meaning, meanings}
use Rattle.star_meaning.specs.Results.{M, fail}
use Rattle.star_trees.proofs.Folds.{fold_expr-Attr, fold_expr-Binary, fold_expr-Call, fold_expr-Cond}
use Rattle.star_trees.proofs.Folds.{fold_expr-Dict, fold_expr-DictComp, fold_expr-Int}
use Rattle.star_trees.proofs.Folds.{fold_expr-Lambda, fold_expr-List, fold_expr-ListComp}
use Rattle.star_trees.proofs.Folds.{fold_expr-Slice, fold_expr-Text, fold_expr-Tuple, fold_expr-Unary}
use Rattle.star_trees.specs.Orders.{is_assignable, is_assignable_layer}
use Rattle.star_trees.specs.declared.trees.Arg.{Arg}
use Rattle.star_trees.specs.declared.trees.Arg.TheOpen.{Expr-F}
use Rattle.star_trees.specs.declared.trees.Clause.{Clause}
use Rattle.star_trees.specs.declared.trees.Expr as e
use Rattle.star_trees.specs.declared.trees.Expr.{Expr, out-Expr, roll-Expr, the_lemmas}
use Rattle.star_trees.specs.declared.trees.ExprPair.{ExprPair}
use Rattle.star_trees.specs.declared.trees.Target.{Target}

rolled : (expr : Expr) → roll-Expr (out-Expr expr) ≡ expr
rolled expr = search (rules, the_lemmas)

module _ {H : Type 0} (s : Setting H) (change : Val → M H (Option Val)) where
  abbrev Refuses : Expr → Type 0
  Refuses to = (meaning to).augment s change ≡ fail fault.Kind

  layer_refuses : (layer : Expr-F Arg Clause Expr Target ExprPair)
      → is_assignable_layer layer ≡ false
      → Refuses (roll-Expr layer)
  layer_refuses (Expr-F.Expr::Name var) is = absurd (cc)
  layer_refuses (Expr-F.Expr::Index of at) is = absurd (cc)
  layer_refuses (Expr-F.Int number) is =
      let same : e.Int number ≡ roll-Expr (Expr-F.Int number) =
      search (rules, the_lemmas) in
      subst Refuses same
      (ap (λ m. m.augment s change) (fold_expr-Int (meanings {H = H}) number))
  layer_refuses (Expr-F.Text text) is =
      let same : e.Text text ≡ roll-Expr (Expr-F.Text text) =
      search (rules, the_lemmas) in
      subst Refuses same
      (ap (λ m. m.augment s change) (fold_expr-Text (meanings {H = H}) text))
  layer_refuses (Expr-F.List items) is =
      let same : e.List items ≡ roll-Expr (Expr-F.List items) =
      search (rules, the_lemmas) in
      subst Refuses same
      (ap (λ m. m.augment s change) (fold_expr-List (meanings {H = H}) items))
  layer_refuses (Expr-F.Tuple items) is =
      let same : e.Tuple items ≡ roll-Expr (Expr-F.Tuple items) =
      search (rules, the_lemmas) in
      subst Refuses same
      (ap (λ m. m.augment s change) (fold_expr-Tuple (meanings {H = H}) items))
  layer_refuses (Expr-F.Dict pairs) is =
      let same : e.Dict pairs ≡ roll-Expr (Expr-F.Dict pairs) =
      search (rules, the_lemmas) in
      subst Refuses same
      (ap (λ m. m.augment s change) (fold_expr-Dict (meanings {H = H}) pairs))
  layer_refuses (Expr-F.ListComp item clauses) is =
      let same : e.ListComp item clauses ≡ roll-Expr (Expr-F.ListComp item clauses) =
      search (rules, the_lemmas) in
      subst Refuses same
      (ap (λ m. m.augment s change) (fold_expr-ListComp (meanings {H = H}) item clauses))
  layer_refuses (Expr-F.DictComp key value clauses) is =
      let same : e.DictComp key value clauses ≡ roll-Expr (Expr-F.DictComp key value clauses) =
      search (rules, the_lemmas) in
      subst Refuses same
      (ap (λ m. m.augment s change) (fold_expr-DictComp (meanings {H = H}) key value clauses))
  layer_refuses (Expr-F.Unary op of) is =
      let same : e.Unary op of ≡ roll-Expr (Expr-F.Unary op of) =
      search (rules, the_lemmas) in
      subst Refuses same
      (ap (λ m. m.augment s change) (fold_expr-Unary (meanings {H = H}) op of))
  layer_refuses (Expr-F.Binary op left right) is =
      let same : e.Binary op left right ≡ roll-Expr (Expr-F.Binary op left right) =
      search (rules, the_lemmas) in
      subst Refuses same
      (ap (λ m. m.augment s change) (fold_expr-Binary (meanings {H = H}) op left right))
  layer_refuses (Expr-F.Cond test chosen other) is =
      let same : e.Cond test chosen other ≡ roll-Expr (Expr-F.Cond test chosen other) =
      search (rules, the_lemmas) in
      subst Refuses same
      (ap (λ m. m.augment s change) (fold_expr-Cond (meanings {H = H}) test chosen other))
  layer_refuses (Expr-F.Lambda function) is =
      let same : e.Lambda function ≡ roll-Expr (Expr-F.Lambda function) =
      search (rules, the_lemmas) in
      subst Refuses same
      (ap (λ m. m.augment s change) (fold_expr-Lambda (meanings {H = H}) function))
  layer_refuses (Expr-F.Attr of name) is =
      let same : e.Attr of name ≡ roll-Expr (Expr-F.Attr of name) =
      search (rules, the_lemmas) in
      subst Refuses same
      (ap (λ m. m.augment s change) (fold_expr-Attr (meanings {H = H}) of name))
  layer_refuses (Expr-F.Slice of begin end step) is =
      let same : e.Slice of begin end step ≡ roll-Expr (Expr-F.Slice of begin end step) =
      search (rules, the_lemmas) in
      subst Refuses same
      (ap (λ m. m.augment s change) (fold_expr-Slice (meanings {H = H}) of begin end step))
  layer_refuses (Expr-F.Call function args) is =
      let same : e.Call function args ≡ roll-Expr (Expr-F.Call function args) =
      search (rules, the_lemmas) in
      subst Refuses same
      (ap (λ m. m.augment s change) (fold_expr-Call (meanings {H = H}) function args))

  pub other_augment : (to : Expr) → is_assignable to ≡ false → Refuses to
  unfolding is_assignable
  other_augment to is = subst Refuses (rolled to) (layer_refuses (out-Expr to) is)

-- An expression that is neither a name nor an index is one to which nothing may be assigned.
use Rattle.std.proofs.Common.{rules, ◌≡◌, ◌∙◌, refl, sym, false, List, ◌∷◌}
use Rattle.star_code.specs.Codes.{AugmentCode}
use Rattle.star_code.specs.declared.code.Instr.{Instr}
use Rattle.star_code.specs.declared.code.Instr.TheVariants as instr
use Rattle.star_compiler.proofs.ExprArms.{plain}
use Rattle.star_compiler.specs.Emitted.{Emits}
use Rattle.star_compiler.specs.declared.emitter.Emitter.{Emitter}
use Rattle.star_trees.specs.Orders.{is_assignable, is_assignable_layer}
use Rattle.star_trees.specs.declared.trees.Arg.{Arg}
use Rattle.star_trees.specs.declared.trees.Arg.TheOpen.{Expr-F}
use Rattle.star_trees.specs.declared.trees.BinOp.{BinOp}
use Rattle.star_trees.specs.declared.trees.Clause.{Clause}
use Rattle.star_trees.specs.declared.trees.Expr as e
use Rattle.star_trees.specs.declared.trees.Expr.{Expr, out-Expr, roll-Expr, the_lemmas}
use Rattle.star_trees.specs.declared.trees.ExprPair.{ExprPair}
use Rattle.star_trees.specs.declared.trees.Target.{Target}
use Rattle.star_trees.specs.declared.trees.Var.{Var}

rolled : (expr : Expr) → roll-Expr (out-Expr expr) ≡ expr
rolled expr = search (rules, the_lemmas)

name_rolled : (var : Var) → roll-Expr (Expr-F.Expr::Name var) ≡ e.Name var
name_rolled var = search (rules, the_lemmas)

index_rolled : (of at : Expr) → roll-Expr (Expr-F.Expr::Index of at) ≡ e.Index of at
index_rolled of at = search (rules, the_lemmas)

not_assignable : (to : Expr)
    → ((var : Var) → to ≡ e.Name var → ⊥)
    → ((of at : Expr) → to ≡ e.Index of at → ⊥)
    → is_assignable to ≡ false
unfolding is_assignable
not_assignable to no_name no_index = by (out-Expr to) (rolled to)
  where
    by : (layer : Expr-F Arg Clause Expr Target ExprPair)
        → roll-Expr layer ≡ to
        → is_assignable_layer layer ≡ false
    by (Expr-F.Expr::Name var) is = absurd (no_name var (sym is ∙ name_rolled var))
    by (Expr-F.Expr::Index of at) is = absurd (no_index of at (sym is ∙ index_rolled of at))
    by (Expr-F.Int number) is = refl
    by (Expr-F.Text text) is = refl
    by (Expr-F.List items) is = refl
    by (Expr-F.Tuple items) is = refl
    by (Expr-F.Dict pairs) is = refl
    by (Expr-F.ListComp item clauses) is = refl
    by (Expr-F.DictComp key value clauses) is = refl
    by (Expr-F.Unary op of) is = refl
    by (Expr-F.Binary op left right) is = refl
    by (Expr-F.Cond test chosen other) is = refl
    by (Expr-F.Lambda function) is = refl
    by (Expr-F.Attr of name) is = refl
    by (Expr-F.Slice of begin end step) is = refl
    by (Expr-F.Call function args) is = refl

pub other_place : (op : BinOp) (value to : Expr) (emitter : Emitter) (rest is : List Instr)
    → ((var : Var) → to ≡ e.Name var → ⊥)
    → ((of at : Expr) → to ≡ e.Index of at → ⊥)
    → is ≡ instr.NotAssignable ∷ rest
    → Emits (λ t. AugmentCode t op value to) emitter emitter rest is
other_place op value to emitter rest is no_name no_index last =
    plain emitter rest is
    (λ t. rw last (AugmentCode.other (not_assignable to no_name no_index)))

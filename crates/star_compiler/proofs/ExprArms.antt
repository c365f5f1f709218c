-- The arms of the pass that writes an expression's code.
use Rattle.std.proofs.Common.{◌≡◌, ◌∙◌, ap, subst, sym, arith, ℕ, ℤ, suc, ◌-◌, ◌<◌, Bool, List}
use Rattle.std.proofs.Common.{[], ◌∷◌, length, drop, drop-cons, get_or, Option, Some, None}
use Rattle.std.proofs.Math.Seq.{drop-length}
use Rattle.star_compiler.proofs.Growing.{grows_both, grows_same, later_tables}
use Rattle.star_code.specs.Codes.{ArgCode, ArgsCode, BoundCode, ExprCode, ExprsCode, FillCode, Item}
use Rattle.star_code.specs.Codes.{Pair, PairsCode, Tables}
use Rattle.star_compiler.specs.Emitted.{BlockPut, CallIs, CallPut, Emits, EmitsArg, EmitsArgs}
use Rattle.star_compiler.specs.Emitted.{EmitsBound, EmitsComprehension, EmitsExpr, EmitsExprs}
use Rattle.star_compiler.specs.Emitted.{EmitsPairs, ExprBlock, ItemFill, LiteralPut, Makes}
use Rattle.star_compiler.specs.Emitted.{NamePut}
use Rattle.star_code.specs.declared.code.Instr.{Instr}
use Rattle.star_code.specs.declared.code.Instr.TheVariants as instr
use Rattle.star_compiler.specs.declared.emitter.Emitter.{Emitter}
use Rattle.star_core.specs.declared.values.Val.{Val}
use Rattle.star_core.specs.declared.values.Val.TheVariants as val
use Rattle.star_meaning.specs.Expressions.{goes_right_on}
use Rattle.star_trees.specs.declared.trees.Arg as arg
use Rattle.star_trees.specs.declared.trees.Arg.{Arg}
use Rattle.star_trees.specs.declared.trees.BinOp.{BinOp}
use Rattle.star_trees.specs.declared.trees.Clause.{Clause}
use Rattle.star_trees.specs.declared.trees.Expr as e
use Rattle.star_trees.specs.declared.trees.Expr.{Expr}
use Rattle.star_trees.specs.declared.trees.ExprPair.{ExprPair}
use Rattle.star_trees.specs.declared.trees.UnOp.{UnOp}
use Rattle.star_trees.specs.declared.trees.Var.{Var}

one_less : (left : ℕ) → 0 < left → left ≡ suc (left - 1)
one_less left some = omega arith

-- code that stands for itself, whatever the tables hold
abbrev pub plain : {IsCode : Tables → List Instr → List Instr → Type 0}
    (emitter : Emitter)
    (rest is : List Instr)
    → ((t : Tables) → IsCode t rest is)
    → Emits IsCode emitter emitter rest is
plain emitter rest is coded =
    record { grows = grows_same emitter; coded = λ t holds. coded t }

-- an expression in front of another part
pub then_expr : {IsFirst IsBoth : Tables → List Instr → List Instr → Type 0} {a b c : Emitter}
    {rest mid is : List Instr}
    → Emits IsFirst a b rest mid
    → (expr : Expr)
    → EmitsExpr expr b c mid is
    → ((t : Tables) → IsFirst t rest mid → ExprCode t expr mid is → IsBoth t rest is)
    → Emits IsBoth a c rest is
then_expr first expr second both =
    record {
      grows = grows_both first.grows second.grows;
      coded = λ t holds.
          both t (first.coded t (later_tables t second.grows holds)) (second.coded t holds);
    }

pub no_exprs : (exprs : List Expr) (emitter : Emitter) (rest : List Instr)
    → EmitsExprs (drop (length exprs) exprs) emitter emitter rest rest
no_exprs exprs emitter rest =
    plain emitter rest rest (λ t. rw (drop-length exprs) ExprsCode.none)

pub more_exprs : (exprs : List Expr) (left : ℕ) (item : Expr) (a b c : Emitter)
    (rest mid is : List Instr)
    → 0 < left
    → left - 1 < length exprs
    → item ≡ get_or exprs (left - 1) item
    → EmitsExprs (drop left exprs) a b rest mid
    → EmitsExpr item b c mid is
    → EmitsExprs (drop (left - 1) exprs) a c rest is
more_exprs exprs left item a b c rest mid is some within at more first =
    then_expr more item first (λ t on_more on_first.
    rw (drop-cons exprs (left - 1) item within)
    (ExprsCode.some (subst (λ k. ExprsCode t (drop k exprs) rest mid) (one_less left some)
    on_more) (subst (λ x. ExprCode t x mid is) at on_first)))

pub no_pairs : (pairs : List ExprPair) (emitter : Emitter) (rest : List Instr)
    → EmitsPairs (drop (length pairs) pairs) emitter emitter rest rest
no_pairs pairs emitter rest =
    plain emitter rest rest (λ t. rw (drop-length pairs) PairsCode.no_pairs)

pub more_pairs : (pairs : List ExprPair) (left : ℕ) (item : ExprPair) (a b c d : Emitter)
    (rest after entry mid is : List Instr)
    → 0 < left
    → left - 1 < length pairs
    → item ≡ get_or pairs (left - 1) item
    → EmitsPairs (drop left pairs) a b rest after
    → entry ≡ instr.Entry ∷ after
    → EmitsExpr item.value b c entry mid
    → EmitsExpr item.key c d mid is
    → EmitsPairs (drop (left - 1) pairs) a d rest is
more_pairs pairs left item a b c d rest after entry mid is some within at more put value key =
    record {
      grows = grows_both more.grows (grows_both value.grows key.grows);
      coded = λ t holds.
          let at_key = later_tables t key.grows holds in
          let at_value = later_tables t value.grows at_key in
          rw (drop-cons pairs (left - 1) item within)
          (subst (λ x. PairsCode t (x ∷ drop (suc (left - 1)) pairs) rest is) at
          (PairsCode.pair
          (subst (λ k. PairsCode t (drop k pairs) rest after) (one_less left some)
          (more.coded t at_value))
          (subst (λ o. ExprCode t item.value o mid) put (value.coded t at_key))
          (key.coded t holds)));
    }

pub no_args : (args : List Arg) (emitter : Emitter) (rest : List Instr)
    → EmitsArgs (drop (length args) args) emitter emitter rest rest
no_args args emitter rest = plain emitter rest rest (λ t. rw (drop-length args) ArgsCode.all_args)

pub more_args : (args : List Arg) (left : ℕ) (item : Arg) (a b c : Emitter)
    (rest mid is : List Instr)
    → 0 < left
    → left - 1 < length args
    → item ≡ get_or args (left - 1) item
    → EmitsArgs (drop left args) a b rest mid
    → EmitsArg item b c mid is
    → EmitsArgs (drop (left - 1) args) a c rest is
more_args args left item a b c rest mid is some within at more first =
    record {
      grows = grows_both more.grows first.grows;
      coded = λ t holds.
          rw (drop-cons args (left - 1) item within)
          (ArgsCode.one_arg
          (subst (λ k. ArgsCode t (drop k args) rest mid) (one_less left some)
          (more.coded t (later_tables t first.grows holds)))
          (subst (λ x. ArgCode t x mid is) at (first.coded t holds)));
    }

-- an expression's block
pub expr_block : (expr : Expr) (a b c : Emitter) (begin code : List Instr) (block : ℕ)
    → begin ≡ []
    → EmitsExpr expr a b begin code
    → BlockPut code block b c
    → ExprBlock expr block a c
expr_block expr a b c begin code block empty emitted put =
    record {
      grows = grows_both emitted.grows put.grows;
      code = code;
      there = put.there;
      coded = λ t holds.
          subst (λ o. ExprCode t expr o code) empty
          (emitted.coded t (later_tables t put.grows holds));
    }

module _ (x : Expr) where
  pub name_arm : (var : Var) (emitter : Emitter) (rest is : List Instr)
      → x ≡ e.Name var
      → is ≡ instr.Name var.scope var.slot ∷ rest
      → EmitsExpr x emitter emitter rest is
  name_arm var emitter rest is same last =
      plain emitter rest is (λ t. rw (same, last) ExprCode.name)

  pub int_arm : (number written : ℤ) (emitter : Emitter) (rest is : List Instr)
      → x ≡ e.Int number
      → written ≡ number
      → is ≡ instr.Constant (val.Int written) ∷ rest
      → EmitsExpr x emitter emitter rest is
  int_arm number written emitter rest is same spelled last =
      plain emitter rest is (λ t. rw (same, last, spelled) ExprCode.int)

  pub text_arm : (text : List ℕ) (value : Val) (a b : Emitter) (rest is : List Instr)
      → x ≡ e.Text text
      → LiteralPut text value a b
      → is ≡ instr.Constant value ∷ rest
      → EmitsExpr x a b rest is
  text_arm text value a b rest is same put last =
      record {
        grows = put.grows;
        coded = λ t holds.
            rw (same, last) (ExprCode.text (holds.literals text value put.there));
      }

  pub list_arm : (items : List Expr) (count : ℕ) (a b : Emitter) (rest first mid is : List Instr)
      → x ≡ e.List items
      → count ≡ length items
      → first ≡ instr.List count ∷ rest
      → EmitsExprs items a b first mid
      → is ≡ instr.Tick ∷ mid
      → EmitsExpr x a b rest is
  list_arm items count a b rest first mid is same long put emitted last =
      record {
        grows = emitted.grows;
        coded = λ t holds.
            rw (same, last) (ExprCode.list (subst (λ o. ExprsCode t items o mid)
            (put ∙ ap (λ n. instr.List n ∷ rest) long) (emitted.coded t holds)));
      }

  pub tuple_arm : (items : List Expr) (count : ℕ) (a b : Emitter) (rest first mid is : List Instr)
      → x ≡ e.Tuple items
      → count ≡ length items
      → first ≡ instr.Tuple count ∷ rest
      → EmitsExprs items a b first mid
      → is ≡ instr.Tick ∷ mid
      → EmitsExpr x a b rest is
  tuple_arm items count a b rest first mid is same long put emitted last =
      record {
        grows = emitted.grows;
        coded = λ t holds.
            rw (same, last) (ExprCode.tuple (subst (λ o. ExprsCode t items o mid)
            (put ∙ ap (λ n. instr.Tuple n ∷ rest) long) (emitted.coded t holds)));
      }

  pub dict_arm : (pairs : List ExprPair) (a b : Emitter) (rest mid made is : List Instr)
      → x ≡ e.Dict pairs
      → EmitsPairs pairs a b rest mid
      → made ≡ instr.Dict ∷ mid
      → is ≡ instr.Tick ∷ made
      → EmitsExpr x a b rest is
  dict_arm pairs a b rest mid made is same emitted put last =
      record {
        grows = emitted.grows;
        coded = λ t holds. rw (same, last, put) (ExprCode.dict (emitted.coded t holds));
      }

  pub list_comp_arm : (item : Expr) (clauses : List Clause) (a b c : Emitter)
      (fill rest mid put is : List Instr)
      → x ≡ e.ListComp item clauses
      → ItemFill item a b fill
      → EmitsComprehension clauses fill b c rest mid
      → put ≡ instr.List 0 ∷ mid
      → is ≡ instr.Tick ∷ put
      → EmitsExpr x a c rest is
  list_comp_arm item clauses a b c fill rest mid put is same filled emitted first last =
      record {
        grows = grows_both filled.grows emitted.grows;
        coded = λ t holds.
            rw (same, last, first) (ExprCode.list_comp (emitted.coded t holds (Item item)
            (filled.coded t (later_tables t emitted.grows holds))));
      }

  pub dict_comp_arm : (key value : Expr) (clauses : List Clause) (a b c d : Emitter)
      (begin first mid fill rest after put is : List Instr)
      → x ≡ e.DictComp key value clauses
      → begin ≡ []
      → first ≡ instr.CollectEntry ∷ begin
      → EmitsExpr value a b first mid
      → EmitsExpr key b c mid fill
      → EmitsComprehension clauses fill c d rest after
      → put ≡ instr.Dict ∷ after
      → is ≡ instr.Tick ∷ put
      → EmitsExpr x a d rest is
  dict_comp_arm key value clauses a b c d begin first mid fill rest after put is same empty at
      on_value on_key emitted before last =
      record {
        grows = grows_both on_value.grows (grows_both on_key.grows emitted.grows);
        coded = λ t holds.
            let at_key = later_tables t emitted.grows holds in
            let at_value = later_tables t on_key.grows at_key in
            rw (same, last, before) (ExprCode.dict_comp (emitted.coded t holds (Pair key value)
            (FillCode.fill_entry
            (subst (λ o. ExprCode t value o mid) (at ∙ ap (λ o. instr.CollectEntry ∷ o) empty)
            (on_value.coded t at_value))
            (on_key.coded t at_key))));
      }

  pub unary_arm : (op : UnOp) (of : Expr) (a b : Emitter) (rest first mid is : List Instr)
      → x ≡ e.Unary op of
      → first ≡ instr.Unary op ∷ rest
      → EmitsExpr of a b first mid
      → is ≡ instr.Tick ∷ mid
      → EmitsExpr x a b rest is
  unary_arm op of a b rest first mid is same put emitted last =
      record {
        grows = emitted.grows;
        coded = λ t holds.
            rw (same, last) (ExprCode.unary (subst (λ o. ExprCode t of o mid) put
            (emitted.coded t holds)));
      }

  pub binary_arm : (op : BinOp) (left right : Expr) (a b c : Emitter)
      (rest first mid second is : List Instr)
      → x ≡ e.Binary op left right
      → None ≡ goes_right_on op
      → first ≡ instr.Binary op ∷ rest
      → EmitsExpr right a b first mid
      → EmitsExpr left b c mid second
      → is ≡ instr.Tick ∷ second
      → EmitsExpr x a c rest is
  binary_arm op left right a b c rest first mid second is same both put on_right on_left last =
      record {
        grows = grows_both on_right.grows on_left.grows;
        coded = λ t holds.
            rw (same, last) (ExprCode.binary (sym both)
            (subst (λ o. ExprCode t right o mid) put
            (on_right.coded t (later_tables t on_left.grows holds)))
            (on_left.coded t holds));
      }

  pub short_arm : (op : BinOp) (left right : Expr) (wanted : Bool) (block : ℕ) (a b c : Emitter)
      (rest first second is : List Instr)
      → x ≡ e.Binary op left right
      → Some wanted ≡ goes_right_on op
      → ExprBlock right block a b
      → first ≡ instr.Short wanted block ∷ rest
      → EmitsExpr left b c first second
      → is ≡ instr.Tick ∷ second
      → EmitsExpr x a c rest is
  short_arm op left right wanted block a b c rest first second is same goes on_right put on_left
      last =
      record {
        grows = grows_both on_right.grows on_left.grows;
        coded = λ t holds.
            let at_left = later_tables t on_left.grows holds in
            rw (same, last) (ExprCode.short (sym goes)
            (at_left.blocks block on_right.code on_right.there)
            (on_right.coded t at_left)
            (subst (λ o. ExprCode t left o second) put (on_left.coded t holds)));
      }

  pub cond_arm : (test chosen other : Expr) (chosen_at other_at : ℕ) (a b c d : Emitter)
      (rest first second is : List Instr)
      → x ≡ e.Cond test chosen other
      → ExprBlock chosen chosen_at a b
      → ExprBlock other other_at b c
      → first ≡ instr.If chosen_at other_at ∷ rest
      → EmitsExpr test c d first second
      → is ≡ instr.Tick ∷ second
      → EmitsExpr x a d rest is
  cond_arm test chosen other chosen_at other_at a b c d rest first second is same on_chosen on_other
      put on_test last =
      record {
        grows = grows_both on_chosen.grows (grows_both on_other.grows on_test.grows);
        coded = λ t holds.
            let at_test = later_tables t on_test.grows holds in
            let at_other = later_tables t on_other.grows at_test in
            rw (same, last) (ExprCode.conditional
            (at_other.blocks chosen_at on_chosen.code on_chosen.there)
            (on_chosen.coded t at_other)
            (at_test.blocks other_at on_other.code on_other.there)
            (on_other.coded t at_test)
            (subst (λ o. ExprCode t test o second) put (on_test.coded t holds)));
      }

  pub lambda_arm : (function : ℕ) (emitter : Emitter) (rest first is : List Instr)
      → x ≡ e.Lambda function
      → Makes emitter function rest first
      → is ≡ instr.Tick ∷ first
      → EmitsExpr x emitter emitter rest is
  lambda_arm function emitter rest first is same made last =
      record {
        grows = made.grows;
        coded = λ t holds. rw (same, last) (ExprCode.lambda (made.coded t holds));
      }

  pub attribute_arm : (of : Expr) (name : List ℕ) (index : ℕ) (a b c : Emitter)
      (rest first mid is : List Instr)
      → x ≡ e.Attr of name
      → NamePut name index a b
      → first ≡ instr.Attr index ∷ rest
      → EmitsExpr of b c first mid
      → is ≡ instr.Tick ∷ mid
      → EmitsExpr x a c rest is
  attribute_arm of name index a b c rest first mid is same named put on_of last =
      record {
        grows = grows_both named.grows on_of.grows;
        coded = λ t holds.
            rw (same, last) (ExprCode.attribute
            ((later_tables t on_of.grows holds).names index name named.there)
            (subst (λ o. ExprCode t of o mid) put (on_of.coded t holds)));
      }

  pub index_arm : (of at : Expr) (a b c : Emitter) (rest first mid second is : List Instr)
      → x ≡ e.Index of at
      → first ≡ instr.Index ∷ rest
      → EmitsExpr at a b first mid
      → EmitsExpr of b c mid second
      → is ≡ instr.Tick ∷ second
      → EmitsExpr x a c rest is
  index_arm of at a b c rest first mid second is same put on_at on_of last =
      record {
        grows = grows_both on_at.grows on_of.grows;
        coded = λ t holds.
            rw (same, last) (ExprCode.index
            (subst (λ o. ExprCode t at o mid) put
            (on_at.coded t (later_tables t on_of.grows holds)))
            (on_of.coded t holds));
      }

  pub slice_arm : (of : Expr) (begin end step : Option Expr) (a b c d f : Emitter)
      (rest first third second one is_of is : List Instr)
      → x ≡ e.Slice of begin end step
      → first ≡ instr.Slice ∷ rest
      → EmitsBound step a b first third
      → EmitsBound end b c third second
      → EmitsBound begin c d second one
      → EmitsExpr of d f one is_of
      → is ≡ instr.Tick ∷ is_of
      → EmitsExpr x a f rest is
  slice_arm of begin end step a b c d f rest first third second one is_of is same put on_step on_end
      on_begin on_of last =
      record {
        grows = grows_both on_step.grows
            (grows_both on_end.grows (grows_both on_begin.grows on_of.grows));
        coded = λ t holds.
            let at_begin = later_tables t on_of.grows holds in
            let at_end = later_tables t on_begin.grows at_begin in
            let at_step = later_tables t on_end.grows at_end in
            rw (same, last) (ExprCode.slice
            (subst (λ o. BoundCode t step o third) put (on_step.coded t at_step))
            (on_end.coded t at_end)
            (on_begin.coded t at_begin)
            (on_of.coded t holds));
      }

  call_coded : (function : Expr) (args : List Arg) (t : Tables)
      (rest first mid second : List Instr)
      → CallIs t args rest first
      → ArgsCode t args first mid
      → ExprCode t function mid second
      → ExprCode t (e.Call function args) rest (instr.Tick ∷ second)
  call_coded function args t rest first mid second (CallIs.plainly plain_args) on_args on_function =
      ExprCode.call plain_args on_args on_function
  call_coded function args t rest first mid second (CallIs.shaped there) on_args on_function =
      ExprCode.gathered_call there on_args on_function

  pub call_arm : (function : Expr) (args : List Arg) (a b c d : Emitter)
      (rest first mid second is : List Instr)
      → x ≡ e.Call function args
      → CallPut args a b rest first
      → EmitsArgs args b c first mid
      → EmitsExpr function c d mid second
      → is ≡ instr.Tick ∷ second
      → EmitsExpr x a d rest is
  call_arm function args a b c d rest first mid second is same put on_args on_function last =
      record {
        grows = grows_both put.grows (grows_both on_args.grows on_function.grows);
        coded = λ t holds.
            let at_args = later_tables t on_function.grows holds in
            let at_put = later_tables t on_args.grows at_args in
            rw (same, last) (call_coded function args t rest first mid second (put.coded t at_put)
            (on_args.coded t at_args) (on_function.coded t holds));
      }

-- the same part under another word
pub as_expr : {a b : Emitter} {rest is : List Instr} {p q : Expr}
    → p ≡ q
    → EmitsExpr p a b rest is
    → EmitsExpr q a b rest is
as_expr {a} {b} {rest} {is} same emitted = subst (λ x. EmitsExpr x a b rest is) same emitted

pub as_exprs : {a b : Emitter} {rest is : List Instr} {p q : List Expr}
    → p ≡ q
    → EmitsExprs p a b rest is
    → EmitsExprs q a b rest is
as_exprs {a} {b} {rest} {is} same emitted = subst (λ x. EmitsExprs x a b rest is) same emitted

pub as_pairs : {a b : Emitter} {rest is : List Instr} {p q : List ExprPair}
    → p ≡ q
    → EmitsPairs p a b rest is
    → EmitsPairs q a b rest is
as_pairs {a} {b} {rest} {is} same emitted = subst (λ x. EmitsPairs x a b rest is) same emitted

pub as_args : {a b : Emitter} {rest is : List Instr} {p q : List Arg}
    → p ≡ q
    → EmitsArgs p a b rest is
    → EmitsArgs q a b rest is
as_args {a} {b} {rest} {is} same emitted = subst (λ x. EmitsArgs x a b rest is) same emitted

pub as_call : {a b : Emitter} {rest is : List Instr} {p q : List Arg}
    → p ≡ q
    → CallPut p a b rest is
    → CallPut q a b rest is
as_call {a} {b} {rest} {is} same put = subst (λ x. CallPut x a b rest is) same put

pub as_fill : {a b : Emitter} {fill : List Instr} {p q : Expr}
    → p ≡ q
    → ItemFill p a b fill
    → ItemFill q a b fill
as_fill {a} {b} {fill} same filled = subst (λ x. ItemFill x a b fill) same filled

pub as_comprehension : {a b : Emitter} {fill rest is : List Instr} {p q : List Clause}
    → p ≡ q
    → EmitsComprehension p fill a b rest is
    → EmitsComprehension q fill a b rest is
as_comprehension {a} {b} {fill} {rest} {is} same emitted =
    subst (λ x. EmitsComprehension x fill a b rest is) same emitted

pub as_block : {a b : Emitter} {block : ℕ} {p q : Expr}
    → p ≡ q
    → ExprBlock p block a b
    → ExprBlock q block a b
as_block {a} {b} {block} same emitted = subst (λ x. ExprBlock x block a b) same emitted

module _ (x : Arg) where
  pub positional_arm : (value : Expr) (a b : Emitter) (rest is : List Instr)
      → x ≡ arg.Positional value
      → EmitsExpr value a b rest is
      → EmitsArg x a b rest is
  positional_arm value a b rest is same emitted =
      record {
        grows = emitted.grows;
        coded = λ t holds. rw same (ArgCode.positional (emitted.coded t holds));
      }

  pub named_arm : (name : List ℕ) (value : Expr) (a b : Emitter) (rest is : List Instr)
      → x ≡ arg.Named name value
      → EmitsExpr value a b rest is
      → EmitsArg x a b rest is
  named_arm name value a b rest is same emitted =
      record {
        grows = emitted.grows;
        coded = λ t holds. rw same (ArgCode.named (emitted.coded t holds));
      }

  pub star_arm : (value : Expr) (a b : Emitter) (rest first is : List Instr)
      → x ≡ arg.Star value
      → first ≡ instr.CheckItems ∷ rest
      → EmitsExpr value a b first is
      → EmitsArg x a b rest is
  star_arm value a b rest first is same put emitted =
      record {
        grows = emitted.grows;
        coded = λ t holds. rw same (ArgCode.star
            (subst (λ o. ExprCode t value o is) put (emitted.coded t holds)));
      }

  pub double_star_arm : (value : Expr) (a b : Emitter) (rest first is : List Instr)
      → x ≡ arg.DoubleStar value
      → first ≡ instr.CheckKeywords ∷ rest
      → EmitsExpr value a b first is
      → EmitsArg x a b rest is
  double_star_arm value a b rest first is same put emitted =
      record {
        grows = emitted.grows;
        coded = λ t holds. rw same (ArgCode.double_star
            (subst (λ o. ExprCode t value o is) put (emitted.coded t holds)));
      }

module _ (x : Option Expr) where
  pub absent_arm : (emitter : Emitter) (rest is : List Instr)
      → x ≡ None
      → is ≡ instr.Push val.None ∷ rest
      → EmitsBound x emitter emitter rest is
  absent_arm emitter rest is same last =
      plain emitter rest is (λ t. rw (same, last) BoundCode.absent)

  pub there_arm : (bound : Expr) (a b : Emitter) (rest is : List Instr)
      → x ≡ Some bound
      → EmitsExpr bound a b rest is
      → EmitsBound x a b rest is
  there_arm bound a b rest is same emitted =
      record {
        grows = emitted.grows;
        coded = λ t holds. rw same (BoundCode.there (emitted.coded t holds));
      }

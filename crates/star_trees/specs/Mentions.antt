-- The functions of which the trees of a file speak: each `def` and each `lambda` by its index.
use Rattle.std.specs.Prelude.{◌≡◌, ℕ, ◌+◌, eqb, Bool, true, false, if◌then◌else◌, List, [], ◌∷◌}
use Rattle.std.specs.Prelude.{◌++◌, get_or, map, Option, Some, None, option_map, All, EachIndex}
use Rattle.star_trees.specs.Functions.{unfinished_code}
use Rattle.star_trees.specs.declared.files.File.{File}
use Rattle.star_trees.specs.declared.files.FnBody.{FnBody}
use Rattle.star_trees.specs.declared.files.FnBody.TheVariants as body
use Rattle.star_trees.specs.declared.files.FnCode.{FnCode}
use Rattle.star_trees.specs.declared.files.Param.{Param}
use Rattle.star_trees.specs.declared.files.Param.TheVariants as param
use Rattle.star_trees.specs.declared.trees.Arg.TheOpen.{Arg-F, Clause-F, Expr-F, ExprPair-F}
use Rattle.star_trees.specs.declared.trees.Arg.TheOpen.{Target-F}
use Rattle.star_trees.specs.declared.trees.StmtKind.TheOpen.{StmtKind-F}
use Rattle.star_trees.specs.Folds.{ExprValues, StmtValues, fold_arg, fold_clause, fold_expr}
use Rattle.star_trees.specs.Folds.{fold_kind, fold_pair, fold_stmt, fold_target}
use Rattle.star_trees.specs.declared.trees.Arg.{Arg}
use Rattle.star_trees.specs.declared.trees.Clause.{Clause}
use Rattle.star_trees.specs.declared.trees.Expr.{Expr}
use Rattle.star_trees.specs.declared.trees.ExprPair.{ExprPair}
use Rattle.star_trees.specs.declared.trees.Stmt.{Stmt}
use Rattle.star_trees.specs.declared.trees.StmtKind.{StmtKind}
use Rattle.star_trees.specs.declared.trees.Target.{Target}

-- a function of which a tree speaks: whether by a `def`, and its index among the file's functions
pub record Mention : Type 0 where
  pub defines : Bool
  pub index : ℕ

-- functions of which trees speak, in the order of the text
abbrev pub Mentions : Type 0
Mentions = List Mention

-- those of each tree, one behind the other
abbrev pub all_mentions : List Mentions → Mentions
all_mentions [] = []
all_mentions (first ∷ more) = first ++ all_mentions more

-- those of a tree that may be absent
abbrev pub maybe_mentions : Option Mentions → Mentions
maybe_mentions None = []
maybe_mentions (Some mentions) = mentions

-- ---- expressions, in the order of the text

-- an argument speaks of the functions of its value
abbrev pub arg_mentions : Arg-F Mentions Mentions Mentions Mentions Mentions → Mentions
arg_mentions (Arg-F.Positional value) = value
arg_mentions (Arg-F.Named name value) = value
arg_mentions (Arg-F.Star value) = value
arg_mentions (Arg-F.DoubleStar value) = value

-- a clause speaks of the functions of its parts
abbrev pub clause_mentions : Clause-F Mentions Mentions Mentions Mentions Mentions → Mentions
clause_mentions (Clause-F.For to over) = to ++ over
clause_mentions (Clause-F.If test) = test

-- a `lambda` speaks of its own function, and any other expression of those of its parts
abbrev pub expr_mentions : Expr-F Mentions Mentions Mentions Mentions Mentions → Mentions
expr_mentions (Expr-F.List items) = all_mentions items
expr_mentions (Expr-F.Tuple items) = all_mentions items
expr_mentions (Expr-F.Dict pairs) = all_mentions pairs
expr_mentions (Expr-F.ListComp item clauses) = item ++ all_mentions clauses
expr_mentions (Expr-F.DictComp key value clauses) = (key ++ value) ++ all_mentions clauses
expr_mentions (Expr-F.Unary op operand) = operand
expr_mentions (Expr-F.Binary op left right) = left ++ right
expr_mentions (Expr-F.Cond test chosen other) = (chosen ++ test) ++ other
expr_mentions (Expr-F.Lambda index) = record { defines = false; index = index } ∷ []
expr_mentions (Expr-F.Attr container name) = container
expr_mentions (Expr-F.Expr::Index container at) = container ++ at
expr_mentions (Expr-F.Slice container begin end step) =
    ((container ++ maybe_mentions begin) ++ maybe_mentions end) ++ maybe_mentions step
expr_mentions (Expr-F.Call function args) = function ++ all_mentions args
expr_mentions _ = []

-- an entry speaks of the functions of its key and its value
abbrev pub pair_mentions : ExprPair-F Mentions Mentions Mentions Mentions Mentions → Mentions
pair_mentions pair = pair.key ++ pair.value

-- a target speaks of the functions of its parts
abbrev pub target_mentions : Target-F Mentions Mentions Mentions Mentions Mentions → Mentions
target_mentions (Target-F.Target::Name name) = []
target_mentions (Target-F.Target::Index container at) = container ++ at
target_mentions (Target-F.Many targets) = all_mentions targets

-- the functions of which the trees of expressions speak
abbrev pub exprs_mention : ExprValues Mentions Mentions Mentions Mentions Mentions
exprs_mention = record {
  arg = arg_mentions;
  clause = clause_mentions;
  expr = expr_mentions;
  target = target_mentions;
  pair = pair_mentions;
}

-- those of an argument
abbrev pub mentions_of_arg : Arg → Mentions
mentions_of_arg = fold_arg exprs_mention

-- those of a clause
abbrev pub mentions_of_clause : Clause → Mentions
mentions_of_clause = fold_clause exprs_mention

-- those of an expression
abbrev pub mentions_of_expr : Expr → Mentions
mentions_of_expr = fold_expr exprs_mention

-- those of an entry
abbrev pub mentions_of_pair : ExprPair → Mentions
mentions_of_pair = fold_pair exprs_mention

-- those of a target
abbrev pub mentions_of_target : Target → Mentions
mentions_of_target = fold_target exprs_mention

-- ---- statements

-- a `def` speaks of its own function, and any other statement of those of its parts
abbrev pub kind_mentions : StmtKind-F Mentions Mentions → Mentions
kind_mentions (StmtKind-F.Def index to) = record { defines = true; index = index } ∷ []
kind_mentions (StmtKind-F.If test chosen other) =
    (mentions_of_expr test ++ all_mentions chosen) ++ all_mentions other
kind_mentions (StmtKind-F.For to over body) =
    (mentions_of_target to ++ mentions_of_expr over) ++ all_mentions body
kind_mentions (StmtKind-F.Return value) = maybe_mentions (option_map mentions_of_expr value)
kind_mentions (StmtKind-F.Assign to value) = mentions_of_target to ++ mentions_of_expr value
kind_mentions (StmtKind-F.Augment to op value) = mentions_of_expr to ++ mentions_of_expr value
kind_mentions (StmtKind-F.Value value) = mentions_of_expr value
kind_mentions _ = []

-- the functions of which statements speak
abbrev pub stmts_mention : StmtValues Mentions Mentions
stmts_mention = record { kind = kind_mentions; stmt = λ stmt. stmt.kind }

-- those of what a statement says
abbrev pub mentions_of_kind : StmtKind → Mentions
mentions_of_kind = fold_kind stmts_mention

-- those of a statement
abbrev pub mentions_of_stmt : Stmt → Mentions
mentions_of_stmt = fold_stmt stmts_mention

-- ---- files

-- a parameter speaks of the functions of its default
abbrev pub mentions_of_param : Param → Mentions
mentions_of_param (param.Optional name default) = mentions_of_expr default
mentions_of_param _ = []

-- those of the body of a function
abbrev pub mentions_of_body : FnBody → Mentions
mentions_of_body (body.Block statements) = all_mentions (map mentions_of_stmt statements)
mentions_of_body (body.Value value) = mentions_of_expr value

-- the code of a function speaks of those of its parameters and its body
abbrev pub mentions_of_code : FnCode → Mentions
mentions_of_code code =
    all_mentions (map mentions_of_param code.params) ++ mentions_of_body code.body

-- all of which the body of a file and the codes of its functions speak
abbrev pub mentions_of_file : File → Mentions
mentions_of_file file =
    all_mentions (map mentions_of_stmt file.body)
    ++ all_mentions (map mentions_of_code file.functions)

-- how many of some mentions are of an index
abbrev pub mention_count : ℕ → Mentions → ℕ
mention_count index [] = 0
mention_count index (mention ∷ more) =
    (if eqb mention.index index then 1 else 0) + mention_count index more

-- a `def` has a name and a block
abbrev pub is_def : Option (List ℕ) → FnBody → Bool
is_def (Some name) (body.Block statements) = true
is_def (Some name) (body.Value value) = false
is_def None function_body = false

-- a `lambda` has no name, and a value
abbrev pub is_lambda : Option (List ℕ) → FnBody → Bool
is_lambda None (body.Value value) = true
is_lambda None (body.Block statements) = false
is_lambda (Some name) function_body = false

-- whether a code is that of a `def`, or else of a `lambda`
abbrev pub is_code_of : Bool → FnCode → Bool
is_code_of true code = is_def code.name code.body
is_code_of false code = is_lambda code.name code.body

-- the code that is mentioned is what the mention says
abbrev pub Fits : List FnCode → Mention → Type 0
Fits functions mention =
    is_code_of mention.defines (get_or functions mention.index unfinished_code) ≡ true

-- The trees of the file speak of each of its functions once, and of what it is.
pub record FunctionsAreMentioned (file : File) : Type 0 where
  pub once :
      EachIndex file.functions (λ index. mention_count index (mentions_of_file file) ≡ 1)
  pub as_they_are : All (Fits file.functions) (mentions_of_file file)

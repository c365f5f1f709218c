-- What the reader of an expression gives is what its symbols spell.
use Rattle.std.proofs.Common.{◌≡◌, ℕ, zero, suc, Bool, true, false, ◌||◌, cond, List, [], ◌∷◌}
use Rattle.std.proofs.Common.{length, Option, Some, None, sym, ◌∙◌}
use Rattle.std.proofs.lemmas.Bool.{cond_both, false≢true}
use Rattle.star_trees.specs.declared.trees.BinOp.{BinOp}
use Rattle.star_trees.specs.declared.trees.UnOp.{UnOp}
use Rattle.star_grammar.specs.declared.symbols.Sign.{Sign}
use Rattle.star_grammar.specs.declared.symbols.Sign.TheVariants as s
use Rattle.star_grammar.specs.declared.symbols.Symbol.{Symbol}
use Rattle.star_grammar.specs.declared.symbols.SymbolKind.{SymbolKind}
use Rattle.star_grammar.specs.declared.symbols.SymbolKind.TheVariants as kind
use Rattle.star_grammar.specs.declared.bare_expressions.BareExpr as e
use Rattle.star_grammar.specs.declared.bare_expressions.BareExpr.{BareExpr}
use Rattle.star_grammar.specs.declared.bare_expressions.BareArg.{BareArg}
use Rattle.star_grammar.specs.declared.bare_expressions.BareClause.{BareClause}
use Rattle.star_grammar.specs.declared.bare_expressions.BarePair.{BarePair}
use Rattle.star_grammar.specs.declared.bare_expressions.BareParam as param
use Rattle.star_grammar.specs.declared.bare_expressions.BareParam.{BareParam}
use Rattle.star_grammar.specs.declared.bare_expressions.Level.{Level}
use Rattle.star_grammar.specs.declared.bare_expressions.Level.TheVariants as level
use Rattle.star_grammar.specs.Rules.{Rule, Deep, sign, word, deep, One, Adds, Series, Listed}
use Rattle.star_grammar.specs.Readers.{Reader, and_then, ◌>>◌, pure, given, sees, behind, past}
use Rattle.star_grammar.specs.Readers.{expect, one, adds}
use Rattle.star_grammar.specs.Expressions as g
use Rattle.star_grammar.specs.Expressions.{Tree}
use Rattle.star_grammar.specs.ExpressionReading as reading
use Rattle.star_grammar.specs.Operators as operators
use Rattle.star_grammar.specs.Operators.{operator}
use Rattle.star_grammar.specs.Orders.{are_args, are_params, is_target}
use Rattle.star_grammar.specs.Rules.Repeated.{begins}
use Rattle.star_grammar.proofs.Steps.{Gives, Sound, by_sign, by_front, same-sign, then-gives}
use Rattle.star_grammar.proofs.Steps.{expect-gives, met-gives, sees-gives, eat-gives}
use Rattle.star_grammar.proofs.Steps.{then_expect-gives, then_sees-gives, then_eat-gives}
use Rattle.star_grammar.proofs.Steps.{given-gives, checked-gives, word-gives, name-gives}
use Rattle.star_grammar.proofs.Steps.{rounds-gives, more-gives, closed-gives}
use Rattle.star_grammar.proofs.Steps.Gives.{refuses, gives}

-- ---- rules over one item

module _ (item : Reader Tree) (Item : Rule Tree) (item-sound : Sound item Item) where
  pub rest_of_expression-sound : (i : List Symbol) (first : Tree) (j : List Symbol)
      → Item i first j
      → Gives (g.Expression Item i) (reading.rest_of_expression item first j)
  unfolding reading.rest_of_expression
  rest_of_expression-sound i first j so = then-gives
      (more-gives s.Comma None item Item (One Item) item-sound i (one first) j
      (begins (One.one so)))
      (λ items r all. given-gives (g.joined items) r (λ a e. g.Expression.listed all e))

  pub expression-sound : Sound (reading.expression item) (g.Expression Item)
  unfolding reading.expression
  expression-sound i = then-gives (item-sound i)
      (λ first j so. rest_of_expression-sound i first j so)

  pub vars-sound : Sound (reading.vars item) (g.Vars Item)
  unfolding reading.vars
  vars-sound i = then-gives (expression-sound i)
      (λ targets j so. checked-gives (is_target targets.0) _ j (λ e. gives (g.Vars.targets so e)))

  -- ---- parameters

  rest_param-sound : (l : ℕ) (i : List Symbol)
      → Gives (g.Param Item (sign s.Star l ∷ i)) (reading.rest_param l i)
  unfolding reading.rest_param
  rest_param-sound l i = word-gives (λ i. g.Param Item (sign s.Star l ∷ i))
      (λ _ rest. pure (param.Rest rest l, 1)) (λ called m j. gives g.Param.rest) i
      (λ _. gives g.Param.bare)

  keywords_param-sound : (l : ℕ) (i : List Symbol)
      → Gives (g.Param Item (sign s.StarStar l ∷ i)) (reading.keywords_param l i)
  unfolding reading.keywords_param
  keywords_param-sound l i = name-gives (λ i. g.Param Item (sign s.StarStar l ∷ i)) _
      (λ called m j. gives g.Param.keywords) i

  named_param-sound : Sound (reading.named_param item) (g.Param Item)
  unfolding reading.named_param
  named_param-sound i = name-gives (g.Param Item) _
      (λ called l j. eat-gives (λ j. g.Param Item (word called l ∷ j)) s.Assign _ _
      (λ m k. then-gives (item-sound k) (λ a r so. gives (g.Param.optional so))) j
      (λ _. gives g.Param.required)) i

  pub param-sound : Sound (reading.param item) (g.Param Item)
  unfolding reading.param
  param-sound i = sees-gives (g.Param Item) s.Star reading.rest_param rest_param-sound i
      (λ _. sees-gives (g.Param Item) s.StarStar reading.keywords_param keywords_param-sound i
      (λ _. named_param-sound i))

  more_params-sound : (close : Option Sign) (i : List Symbol) (first : Deep BareParam)
      (j : List Symbol)
      → g.Param Item i first j
      → Gives (Series s.Comma (g.Param Item) i) (reading.more_params item close (one first) j)
  unfolding reading.more_params
  more_params-sound close i first j so = more-gives s.Comma close (reading.param item)
      (g.Param Item) (One (g.Param Item)) param-sound i (one first) j (begins (One.one so))

  pub signature-sound : Sound (reading.signature item) (g.Signature Item)
  unfolding reading.signature
  signature-sound i = eat-gives (g.Signature Item) s.Colon _ _ (λ l j. gives g.Signature.none) i
      (λ _. then-gives (param-sound i)
      (λ first j so. then_expect-gives s.Colon _ (more_params-sound None i first j so)
      (λ params l r all. gives (g.Signature.some all))))

  pub listed_params-sound : Sound (reading.listed_params item) (Listed s.RightRound (g.Param Item))
  unfolding reading.listed_params
  listed_params-sound i =
      eat-gives (Listed s.RightRound (g.Param Item)) s.RightRound _ _ (λ l j. gives Listed.none) i
      (λ _. then-gives (param-sound i)
      (λ first j so. then-gives (more_params-sound (Some s.RightRound) i first j so)
      (λ params k all. closed-gives
      (Series s.Comma (g.Param Item)) s.Comma s.RightRound i params k _ all
      (λ r whole. gives (Listed.some whole)))))

  -- ---- arguments

  named_arg-sound : Sound (reading.named_arg item) (g.Arg Item)
  unfolding reading.named_arg
  named_arg-sound i = name-gives (g.Arg Item) _
      (λ called l j. expect-gives (λ j. g.Arg Item (word called l ∷ j)) s.Assign _
      (λ m k. then-gives (item-sound k) (λ a r so. gives (g.Arg.named so))) j) i

  star_arg-sound : (l : ℕ) (i : List Symbol)
      → Gives (g.Arg Item (sign s.Star l ∷ i)) (reading.star_arg item l i)
  unfolding reading.star_arg
  star_arg-sound l i = then-gives (item-sound i) (λ a r so. gives (g.Arg.star so))

  double_star_arg-sound : (l : ℕ) (i : List Symbol)
      → Gives (g.Arg Item (sign s.StarStar l ∷ i)) (reading.double_star_arg item l i)
  unfolding reading.double_star_arg
  double_star_arg-sound l i = then-gives (item-sound i) (λ a r so. gives (g.Arg.double_star so))

  positional_arg-sound : Sound (reading.positional_arg item) (g.Arg Item)
  unfolding reading.positional_arg
  positional_arg-sound i = then-gives (item-sound i) (λ a r so. gives (g.Arg.positional so))

  pub arg-sound : Sound (reading.arg item) (g.Arg Item)
  unfolding reading.arg
  arg-sound i =
      sees-gives (g.Arg Item) s.Star (reading.star_arg item) star_arg-sound i
      (λ _. sees-gives (g.Arg Item) s.StarStar
      (reading.double_star_arg item) double_star_arg-sound i
      (λ _. cond_both (reading.sees_argument_name i) (reading.named_arg item i)
      (reading.positional_arg item i) (Gives (g.Arg Item i)) (λ _. named_arg-sound i)
      (λ _. positional_arg-sound i)))

  more_args-sound : (i : List Symbol) (first : Deep BareArg) (j : List Symbol)
      → g.Arg Item i first j
      → Gives (Series s.Comma (g.Arg Item) i) (reading.more_args item (one first) j)
  unfolding reading.more_args
  more_args-sound i first j so = more-gives s.Comma (Some s.RightRound) (reading.arg item)
      (g.Arg Item) (One (g.Arg Item)) arg-sound i (one first) j (begins (One.one so))

  pub listed_args-sound : Sound (reading.listed_args item) (Listed s.RightRound (g.Arg Item))
  unfolding reading.listed_args
  listed_args-sound i =
      eat-gives (Listed s.RightRound (g.Arg Item)) s.RightRound _ _ (λ l j. gives Listed.none) i
      (λ _. then-gives (arg-sound i)
      (λ first j so. then-gives (more_args-sound i first j so)
      (λ args k all. closed-gives
      (Series s.Comma (g.Arg Item)) s.Comma s.RightRound i args k _ all
      (λ r whole. gives (Listed.some whole)))))

-- ---- what nests

module _ (nested : Level → Reader Tree) (Nested : Level → Rule Tree)
    (nested-sound : (what : Level) → Sound (nested what) (Nested what)) where
  for_clause-sound : Sound (reading.for_clause nested) (g.ForClause Nested)
  unfolding reading.for_clause
  for_clause-sound i =
      expect-gives (g.ForClause Nested) s.For _
      (λ l j. then_expect-gives s.In _
      (vars-sound (nested level.Primary) (Nested level.Primary) (nested-sound level.Primary) j)
      (λ to m k so. then-gives (nested-sound level.Disjunction k)
      (λ over r more. gives (g.ForClause.loop so more)))) i

  if_clause-sound : Sound (reading.if_clause nested) (g.AnyClause Nested)
  unfolding reading.if_clause
  if_clause-sound i = expect-gives (g.AnyClause Nested) s.If _
      (λ l j. then-gives (nested-sound level.Disjunction j)
      (λ a r so. gives (g.AnyClause.test so))) i

  any_clause-sound : Sound (reading.any_clause nested) (g.AnyClause Nested)
  unfolding reading.any_clause
  any_clause-sound i = cond_both (sees s.For i) (reading.for_clause nested i)
      (reading.if_clause nested i) (Gives (g.AnyClause Nested i))
      (λ _. widened (for_clause-sound i)) (λ _. if_clause-sound i)
    where
      widened : {found : Option (Deep BareClause × List Symbol)}
          → Gives (g.ForClause Nested i) found
          → Gives (g.AnyClause Nested i) found
      widened refuses = refuses
      widened (gives so) = gives (g.AnyClause.loop so)

  comp-sound : Sound (reading.comp nested) (g.Comp Nested)
  unfolding reading.comp
  comp-sound i =
      then-gives (for_clause-sound i)
      (λ first j so. rounds-gives (One (g.ForClause Nested)) (Adds (g.AnyClause Nested))
      (reading.begins_clause nested) (adds (reading.any_clause nested))
      (λ items k _. then-gives (any_clause-sound k) (λ a r one. gives (Adds.adds one)))
      (length j) i (one first) j (begins (One.one so)))

  -- ---- operands

  list_comp-sound : (l : ℕ) (i : List Symbol) (item : Tree) (j : List Symbol)
      → Nested level.Test i item j
      → Gives (g.Operand Nested (sign s.LeftSquare l ∷ i)) (reading.list_comp nested item j)
  unfolding reading.list_comp
  list_comp-sound l i item j so = then_expect-gives s.RightSquare _ (comp-sound j)
      (λ clauses m r more. given-gives _ r (λ a e. g.Operand.list_comp so more e))

  list_of-sound : (l : ℕ) (i : List Symbol) (first : Tree) (j : List Symbol)
      → Nested level.Test i first j
      → Gives (g.Operand Nested (sign s.LeftSquare l ∷ i)) (reading.list_of nested first j)
  unfolding reading.list_of
  list_of-sound l i first j so =
      then-gives (more-gives s.Comma (Some s.RightSquare) (nested level.Test) (Nested level.Test)
      (One (Nested level.Test)) (nested-sound level.Test) i (one first) j (begins (One.one so)))
      (λ items k all. closed-gives
      (Series s.Comma (Nested level.Test)) s.Comma s.RightSquare i items k _ all
      (λ r whole. given-gives _ r (λ a e. g.Operand.list (Listed.some whole) e)))

  square-sound : (l : ℕ) (i : List Symbol)
      → Gives (g.Operand Nested (sign s.LeftSquare l ∷ i)) (reading.square nested i)
  unfolding reading.square
  square-sound l i =
      eat-gives (λ i. g.Operand Nested (sign s.LeftSquare l ∷ i)) s.RightSquare _ _
      (λ m j. given-gives _ j (λ a e. g.Operand.list Listed.none e)) i
      (λ _. then_sees-gives s.For _ _ (nested-sound level.Test i)
      (λ first m j so. list_comp-sound l i first (sign s.For m ∷ j) so)
      (λ first j _ so. list_of-sound l i first j so))

  entry-sound : Sound (reading.entry nested) (g.Entry (Nested level.Test))
  unfolding reading.entry
  entry-sound i = then_expect-gives s.Colon _ (nested-sound level.Test i)
      (λ key l j so. then-gives (nested-sound level.Test j)
      (λ value r more. gives (g.Entry.entry so more)))

  dict_comp-sound : (l m : ℕ) (i : List Symbol) (key : Tree) (j : List Symbol) (value : Tree)
      (k : List Symbol)
      → Nested level.Test i key (sign s.Colon m ∷ j)
      → Nested level.Test j value k
      → Gives (g.Operand Nested (sign s.LeftCurly l ∷ i)) (reading.dict_comp nested key value k)
  unfolding reading.dict_comp
  dict_comp-sound l m i key j value k so also = then_expect-gives s.RightCurly _ (comp-sound k)
      (λ clauses n r more. given-gives _ r (λ a e. g.Operand.dict_comp so also more e))

  dict_of-sound : (l : ℕ) (i : List Symbol) (first : Deep BarePair) (j : List Symbol)
      → g.Entry (Nested level.Test) i first j
      → Gives (g.Operand Nested (sign s.LeftCurly l ∷ i)) (reading.dict_of nested first j)
  unfolding reading.dict_of
  dict_of-sound l i first j so =
      then-gives
      (more-gives s.Comma (Some s.RightCurly) (reading.entry nested) (g.Entry (Nested level.Test))
      (One (g.Entry (Nested level.Test))) entry-sound i (one first) j (begins (One.one so)))
      (λ pairs k all. closed-gives
      (Series s.Comma (g.Entry (Nested level.Test))) s.Comma s.RightCurly i pairs k _ all
      (λ r whole. given-gives _ r (λ a e. g.Operand.dict (Listed.some whole) e)))

  curly-sound : (l : ℕ) (i : List Symbol)
      → Gives (g.Operand Nested (sign s.LeftCurly l ∷ i)) (reading.curly nested i)
  unfolding reading.curly
  curly-sound l i =
      eat-gives (λ i. g.Operand Nested (sign s.LeftCurly l ∷ i)) s.RightCurly _ _
      (λ m j. given-gives _ j (λ a e. g.Operand.dict Listed.none e)) i
      (λ _. then_expect-gives s.Colon _ (nested-sound level.Test i)
      (λ key m j so. then_sees-gives s.For _ _ (nested-sound level.Test j)
      (λ value n k also. dict_comp-sound l m i key j value (sign s.For n ∷ k) so also)
      (λ value k _ also. dict_of-sound l i _ k (g.Entry.entry so also))))

  abbrev rounded : Deep (List BareExpr) → Bool → Reader Tree
  rounded items trailed = expect s.RightRound >> given
      (cond trailed (deep (e.Tuple items.0) items.1) (g.bracketed items))

  rounded-sound : (l : ℕ) (i : List Symbol) (items : Deep (List BareExpr)) (j : List Symbol)
      → Series s.Comma (Nested level.Test) i items j
      → Gives (g.Operand Nested (sign s.LeftRound l ∷ i))
      (rounded items (sees s.Comma j) (past s.Comma j))
  rounded-sound l i items j all = by_sign s.Comma
      (λ j. Series s.Comma (Nested level.Test) i items j
      → Gives (g.Operand Nested (sign s.LeftRound l ∷ i))
      (rounded items (sees s.Comma j) (past s.Comma j)))
      (λ m k all. rw (same-sign s.Comma)
      (met-gives (λ k. Series s.Comma (Nested level.Test) i items (sign s.Comma m ∷ k))
      s.RightRound _ (λ n r all. given-gives _ r (λ a e. g.Operand.tuple all e)) k all))
      j
      (λ un all. rw un (met-gives (λ k. Series s.Comma (Nested level.Test) i items k) s.RightRound _
      (λ n r all. given-gives _ r (λ a e. g.Operand.round all e)) j all))
      all

  round_of-sound : (l : ℕ) (i : List Symbol) (first : Tree) (j : List Symbol)
      → Nested level.Test i first j
      → Gives (g.Operand Nested (sign s.LeftRound l ∷ i)) (reading.round_of nested first j)
  unfolding reading.round_of
  round_of-sound l i first j so = then-gives
      (more-gives s.Comma (Some s.RightRound) (nested level.Test) (Nested level.Test)
      (One (Nested level.Test)) (nested-sound level.Test) i (one first) j (begins (One.one so)))
      (λ items k all. rounded-sound l i items k all)

  round-sound : (l : ℕ) (i : List Symbol)
      → Gives (g.Operand Nested (sign s.LeftRound l ∷ i)) (reading.round nested i)
  unfolding reading.round
  round-sound l i = eat-gives (λ i. g.Operand Nested (sign s.LeftRound l ∷ i)) s.RightRound _ _
      (λ m j. given-gives _ j (λ a e. g.Operand.empty e)) i
      (λ _. then-gives (nested-sound level.Test i) (λ first j so. round_of-sound l i first j so))

  atom-sound : Sound (reading.atom nested) (g.Operand Nested)
  unfolding reading.atom
  atom-sound [] = refuses
  atom-sound (symbol ∷ i) = go symbol.kind symbol.line
    where
      go : (is : SymbolKind) (l : ℕ)
          → Gives (g.Operand Nested (record { kind = is; line = l } ∷ i))
          (given (reading.atom_of nested l is) i)
      go (kind.Name called) l = gives g.Operand.name
      go (kind.Int value) l = gives g.Operand.integer
      go (kind.Text said) l = gives g.Operand.text
      go (kind.Sign what) l = refuses

  operand-sound : Sound (reading.operand nested) (g.Operand Nested)
  unfolding reading.operand
  operand-sound i =
      sees-gives (g.Operand Nested) s.LeftSquare (λ _. reading.square nested) square-sound i
      (λ _. sees-gives (g.Operand Nested) s.LeftCurly (λ _. reading.curly nested) curly-sound i
      (λ _. sees-gives (g.Operand Nested) s.LeftRound (λ _. reading.round nested) round-sound i
      (λ _. atom-sound i)))

  -- ---- suffixes

  attr-sound : (of : Tree) (l : ℕ) (i : List Symbol)
      → Gives (g.Suffix Nested of (sign s.Dot l ∷ i)) (reading.attr nested of i)
  unfolding reading.attr
  attr-sound of l i = name-gives (λ i. g.Suffix Nested of (sign s.Dot l ∷ i)) _
      (λ called m j. given-gives _ j (λ a e. g.Suffix.attr e)) i

  call-sound : (of : Tree) (l : ℕ) (i : List Symbol)
      → Gives (g.Suffix Nested of (sign s.LeftRound l ∷ i)) (reading.call nested of i)
  unfolding reading.call
  call-sound of l i = then-gives
      (listed_args-sound (nested level.Test) (Nested level.Test) (nested-sound level.Test) i)
      (λ args j all. checked-gives (are_args args.0) _ j
      (λ so. given-gives _ j (λ a e. g.Suffix.call all so e)))

  bound-sound : Sound (reading.bound nested) (g.Bound (Nested level.Test))
  unfolding reading.bound
  bound-sound i =
      cond_both (sees s.Colon i || sees s.RightSquare i) (Some ((None, 0), i))
      (and_then (nested level.Test i) (λ a. pure (Some a.0, a.1)))
      (Gives (g.Bound (Nested level.Test) i))
      (λ _. gives g.Bound.absent)
      (λ _. then-gives (nested-sound level.Test i) (λ a r so. gives (g.Bound.present so)))

  step-sound : Sound (reading.step nested) (g.Step (Nested level.Test))
  unfolding reading.step
  step-sound i = eat-gives (g.Step (Nested level.Test)) s.Colon _ _
      (λ l j. widened l j (bound-sound j)) i (λ _. gives g.Step.absent)
    where
      widened : (l : ℕ) (j : List Symbol) {found : Option (Deep (Option BareExpr) × List Symbol)}
          → Gives (g.Bound (Nested level.Test) j) found
          → Gives (g.Step (Nested level.Test) (sign s.Colon l ∷ j)) found
      widened l j refuses = refuses
      widened l j (gives so) = gives (g.Step.present so)

  slice-sound : (of : Tree) (begin : Deep (Option BareExpr)) (l : ℕ) (i j : List Symbol)
      → g.Bound (Nested level.Test) i begin j
      → Gives (g.Suffix Nested of (sign s.LeftSquare l ∷ i)) (reading.slice nested of begin j)
  unfolding reading.slice
  slice-sound of begin l i j so = met-gives (g.Bound (Nested level.Test) i begin) s.Colon _
      (λ m k first. then-gives (bound-sound k)
      (λ end k also. then_expect-gives s.RightSquare _ (step-sound k)
      (λ by n r more. given-gives _ r (λ a e. g.Suffix.slice first also more e)))) j so

  index-sound : (of first : Tree) (l : ℕ) (i j : List Symbol)
      → Nested level.Test i first j
      → Gives (g.Suffix Nested of (sign s.LeftSquare l ∷ i)) (reading.index nested of first j)
  unfolding reading.index
  index-sound of first l i j so = then_expect-gives s.RightSquare _
      (rest_of_expression-sound (nested level.Test) (Nested level.Test)
      (nested-sound level.Test) i first j so)
      (λ at m r whole. given-gives _ r (λ a e. g.Suffix.index whole e))

  begun_subscript-sound : (of : Tree) (l : ℕ) (i : List Symbol)
      → Gives (g.Suffix Nested of (sign s.LeftSquare l ∷ i)) (reading.begun_subscript nested of i)
  unfolding reading.begun_subscript
  begun_subscript-sound of l i = then_sees-gives s.Colon _ _ (nested-sound level.Test i)
      (λ first m j so. slice-sound of _ l i (sign s.Colon m ∷ j) (g.Bound.present so))
      (λ first j _ so. index-sound of first l i j so)

  subscript-sound : (of : Tree) (l : ℕ) (i : List Symbol)
      → Gives (g.Suffix Nested of (sign s.LeftSquare l ∷ i)) (reading.subscript nested of i)
  unfolding reading.subscript
  subscript-sound of l i = cond_both (sees s.Colon i) (reading.slice nested of (None, 0) i)
      (reading.begun_subscript nested of i) (Gives (g.Suffix Nested of (sign s.LeftSquare l ∷ i)))
      (λ _. slice-sound of (None, 0) l i i g.Bound.absent) (λ _. begun_subscript-sound of l i)

  third : (a b c : Bool) → (a || (b || c)) ≡ true → a ≡ false → b ≡ false → c ≡ true
  third a b c some no_first no_second = rw (no_first, no_second) at some

  bracket-sound : (of : Tree) (i : List Symbol)
      → sees s.LeftSquare i ≡ true
      → Gives (g.Suffix Nested of i) (reading.subscript nested of (behind i))
  bracket-sound of i met = by_sign s.LeftSquare
      (λ i. sees s.LeftSquare i ≡ true
      → Gives (g.Suffix Nested of i) (reading.subscript nested of (behind i)))
      (λ l j _. subscript-sound of l j) i (λ un met. absurd (false≢true (sym un ∙ met))) met

  suffix-sound : (of : Tree) (i : List Symbol)
      → reading.begins_suffix nested i ≡ true
      → Gives (g.Suffix Nested of i) (reading.suffix nested of i)
  unfolding reading.suffix
  suffix-sound of i begun =
      sees-gives (g.Suffix Nested of) s.Dot (λ _. reading.attr nested of) (attr-sound of) i
      (λ no_dot.
      sees-gives (g.Suffix Nested of) s.LeftRound (λ _. reading.call nested of) (call-sound of) i
      (λ no_round. bracket-sound of i (third _ _ _ begun no_dot no_round)))

  primary-sound : Sound (reading.primary nested) (g.Primary Nested)
  unfolding reading.primary
  primary-sound i = then-gives (operand-sound i)
      (λ first j so. rounds-gives (g.Operand Nested) (g.Suffix Nested)
      (reading.begins_suffix nested) (reading.suffix nested) suffix-sound (length j) i first j
      (begins so))

  -- ---- operators

  unary-sound : Sound (reading.unary nested) (g.Unary Nested)
  unfolding reading.unary reading.prefixed
  unary-sound i = by_front operators.prefix
      (λ i o. Gives (g.Unary Nested i) (reading.unary_by nested o i))
      (λ what l op j known. given_operand what l op j known) i (λ _. plain (primary-sound i))
    where
      given_operand : (what : Sign) (l : ℕ) (op : UnOp) (j : List Symbol)
          → operators.prefix what ≡ Some op
          → Gives (g.Unary Nested (sign what l ∷ j))
          (reading.prefixed nested op (nested level.Unary) (sign what l ∷ j))
      given_operand what l op j known = then-gives (nested-sound level.Unary j)
          (λ a r so. given-gives _ r (λ b e. g.Prefixed.prefixed known so e))

      plain : {found : Option (Tree × List Symbol)}
          → Gives (g.Primary Nested i) found
          → Gives (g.Unary Nested i) found
      plain refuses = refuses
      plain (gives so) = gives (g.Prefixed.plain so)

  operation-sound : (binary : ℕ) (tighter : Reader Tree) (Tighter : Rule Tree)
      → Sound tighter Tighter
      → (left : Tree) (i : List Symbol)
      → Gives (g.Operation binary Tighter left i) (reading.operation nested binary tighter left i)
  unfolding reading.operated
  operation-sound binary tighter Tighter sound left i =
      by_front (operator binary)
      (λ i o. Gives (g.Operation binary Tighter left i)
      (reading.operation_by nested tighter o left i))
      (λ what l op j known. then-gives (sound j)
      (λ right r so. given-gives _ r (λ a e. g.Operation.operation known so e))) i
      (λ _. refuses)

  chain-sound : (binary : ℕ) (tighter : Reader Tree) (Tighter : Rule Tree)
      → Sound tighter Tighter
      → Sound (reading.chain nested binary tighter) (g.Chain binary Tighter)
  chain-sound binary tighter Tighter sound i =
      then-gives (sound i)
      (λ first j so. rounds-gives Tighter (g.Operation binary Tighter)
      (reading.begins_operation nested binary) (reading.operation nested binary tighter)
      (λ left k _. operation-sound binary tighter Tighter sound left k) (length j) i first j
      (begins so))

  arithmetic-sound : (binary : ℕ)
      → Sound (reading.arithmetic nested binary) (g.Arithmetic Nested binary)
  unfolding reading.arithmetic g.Arithmetic
  arithmetic-sound zero = unary-sound
  arithmetic-sound (suc binary) = chain-sound binary (reading.arithmetic nested binary)
      (g.Arithmetic Nested binary) (arithmetic-sound binary)

  -- the arithmetic levels, all of them
  abbrev Sum : Rule Tree
  Sum = g.Arithmetic Nested 6

  compared-sound : (i : List Symbol) (left : Tree) (what : Sign) (l : ℕ) (op : BinOp)
      (j : List Symbol)
      → operators.comparison what ≡ Some op
      → Sum i left (sign what l ∷ j)
      → Gives (g.Comparison Sum i)
      (reading.operated nested (reading.arithmetic nested 6) op left (sign what l ∷ j))
  unfolding reading.operated
  compared-sound i left what l op j known so = then-gives (arithmetic-sound 6 j)
      (λ right r also. given-gives _ r (λ a e. g.Comparison.compared so known also e))

  outside-sound : (i : List Symbol) (left : Tree) (l m : ℕ) (j : List Symbol)
      → Sum i left (sign s.Not l ∷ sign s.In m ∷ j)
      → Gives (g.Comparison Sum i) (reading.outside nested left (sign s.Not l ∷ sign s.In m ∷ j))
  unfolding reading.outside reading.operated
  outside-sound i left l m j so = then-gives (arithmetic-sound 6 j)
      (λ right r also. given-gives _ r (λ a e. g.Comparison.outside so also e))

  denied-sound : (i : List Symbol) (left : Tree) (l : ℕ) (j : List Symbol)
      → Sum i left (sign s.Not l ∷ j)
      → Gives (g.Comparison Sum i) (reading.compared_by nested left None (sign s.Not l ∷ j))
  denied-sound i left l j so =
      rw (same-sign s.Not)
      (by_sign s.In (λ j. Sum i left (sign s.Not l ∷ j) → Gives (g.Comparison Sum i) (cond (sees
      s.In j) (reading.outside nested left (sign s.Not l ∷ j)) (Some (left, sign s.Not l ∷ j))))
      (λ m j so. rw (same-sign s.In) (outside-sound i left l m j so)) j
      (λ un so. rw un (gives (g.Comparison.plain so))) so)

  uncompared-sound : (i : List Symbol) (left : Tree) (j : List Symbol)
      → Sum i left j
      → Gives (g.Comparison Sum i) (reading.compared_by nested left None j)
  uncompared-sound i left j so = by_sign s.Not
      (λ j. Sum i left j → Gives (g.Comparison Sum i) (reading.compared_by nested left None j))
      (λ l j so. denied-sound i left l j so) j (λ un so. rw un (gives (g.Comparison.plain so))) so

  comparison-sound : Sound (reading.comparison nested) (g.Comparison Sum)
  unfolding reading.comparison
  comparison-sound i =
      then-gives (arithmetic-sound 6 i)
      (λ left j so. by_front operators.comparison
      (λ j o. Sum i left j → Gives (g.Comparison Sum i) (reading.compared_by nested left o j))
      (λ what l op j known so. compared-sound i left what l op j known so) j
      (λ _ so. uncompared-sound i left j so) so)

  negation-sound : Sound (reading.negation nested) (g.Negation Nested)
  unfolding reading.negation reading.prefixed
  negation-sound i = by_front operators.negation
      (λ i o. Gives (g.Negation Nested i) (reading.negation_by nested o i))
      (λ what l op j known. given_operand what l op j known) i (λ _. plain (comparison-sound i))
    where
      given_operand : (what : Sign) (l : ℕ) (op : UnOp) (j : List Symbol)
          → operators.negation what ≡ Some op
          → Gives (g.Negation Nested (sign what l ∷ j))
          (reading.prefixed nested op (nested level.Negation) (sign what l ∷ j))
      given_operand what l op j known = then-gives (nested-sound level.Negation j)
          (λ a r so. given-gives _ r (λ b e. g.Prefixed.prefixed known so e))

      plain : {found : Option (Tree × List Symbol)}
          → Gives (g.Comparison Sum i) found
          → Gives (g.Negation Nested i) found
      plain refuses = refuses
      plain (gives so) = gives (g.Prefixed.plain so)

  disjunction-sound : Sound (reading.disjunction nested) (g.Disjunction Nested)
  unfolding reading.disjunction reading.conjunction
  disjunction-sound = chain-sound 7 (reading.chain nested 6 (reading.negation nested))
      (g.Chain 6 (g.Negation Nested))
      (chain-sound 6 (reading.negation nested) (g.Negation Nested) negation-sound)

  conditional-sound : (i : List Symbol) (chosen : Tree) (l : ℕ) (j : List Symbol)
      → g.Disjunction Nested i chosen (sign s.If l ∷ j)
      → Gives (g.Test Nested i) (reading.conditional nested chosen j)
  unfolding reading.conditional
  conditional-sound i chosen l j so = then_expect-gives s.Else _ (disjunction-sound j)
      (λ test m k also. then-gives (nested-sound level.Test k)
      (λ other r more. given-gives _ r (λ a e. g.Test.cond so also more e)))

  plain_test-sound : Sound (reading.plain_test nested) (g.Test Nested)
  unfolding reading.plain_test
  plain_test-sound i = then_eat-gives s.If _ _ (disjunction-sound i)
      (λ chosen l j so. conditional-sound i chosen l j so) (λ a j _ so. gives (g.Test.plain so))

  lambda-sound : (l : ℕ) (i : List Symbol)
      → Gives (g.Test Nested (sign s.Lambda l ∷ i)) (reading.lambda nested l i)
  unfolding reading.lambda
  lambda-sound l i = then-gives
      (signature-sound (nested level.Test) (Nested level.Test) (nested-sound level.Test) i)
      (λ params j all. checked-gives (are_params params.0) _ j
      (λ so. then-gives (nested-sound level.Test j)
      (λ body r more. given-gives _ r (λ a e. g.Test.lambda all so more e))))

  test-sound : Sound (reading.any_test nested) (g.Test Nested)
  unfolding reading.any_test
  test-sound i = sees-gives (g.Test Nested) s.Lambda (reading.lambda nested) lambda-sound i
      (λ _. plain_test-sound i)

  at-sound : (what : Level) → Sound (reading.at nested what) (g.At Nested what)
  at-sound level.Primary = primary-sound
  at-sound level.Unary = unary-sound
  at-sound level.Negation = negation-sound
  at-sound level.Disjunction = disjunction-sound
  at-sound level.Test = test-sound

pub reads-sound : (nesting : ℕ) (what : Level)
    → Sound (reading.reads nesting what) (g.Spells nesting what)
unfolding reading.reads g.Spells
reads-sound zero what i = refuses
reads-sound (suc nesting) what i = at-sound (reading.reads nesting) (g.Spells nesting)
    (reads-sound nesting) what i

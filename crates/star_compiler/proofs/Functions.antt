-- The functions of a file, and the file.
use Rattle.std.proofs.Common.{◌≡◌, ◌∙◌, ap, refl, subst, sym, arith, ℕ, zero, suc, ◌+◌, ◌-◌, ◌<◌}
use Rattle.std.proofs.Common.{false, List, [], ◌∷◌, ◌++◌, length, map, take}
use Rattle.std.proofs.Common.{drop, drop-cons, get_or, slice_get, Some}
use Rattle.std.proofs.Math.Seq.{drop-length}
use Rattle.std.proofs.lemmas.List.{length-append, length-take-le, take_all, take_more}
use Rattle.star_code.specs.Codes.{BodyCode, BothCoded, ExprCode, ExprsCode, FnCoded}
use Rattle.star_code.specs.Codes.{StmtsCode, Tables, from_function}
use Rattle.star_code.specs.declared.code.FnEntry.{FnEntry}
use Rattle.star_code.specs.declared.code.Instr.{Instr}
use Rattle.star_code.specs.declared.code.Instr.TheVariants as instr
use Rattle.star_compiler.proofs.Growing.{grows_both, grows_same, later_tables}
use Rattle.star_compiler.specs.Emitted.{AreLiterals, BlockPut, BodyBlock, DefaultsBlock}
use Rattle.star_compiler.specs.Emitted.{EmitsDefault, EmitsExpr, EmitsExprs, ExprsBlock, Extends}
use Rattle.star_compiler.specs.Emitted.{FnEmitted, FnsCoded, FnsEmitted, HasMoreCells}
use Rattle.star_compiler.specs.Emitted.{IsCompiled, StmtsBlock, counted_with, has_default, tables_in}
use Rattle.star_compiler.specs.declared.emitter.Emitter.{Emitter}
use Rattle.star_core.specs.Conditions.{printed_name}
use Rattle.star_core.specs.Heaps.{HeapState}
use Rattle.star_meaning.specs.Parameters.{defaults_of, formal_of}
use Rattle.star_trees.specs.declared.files.File.{File}
use Rattle.star_trees.specs.declared.files.FnBody.{FnBody}
use Rattle.star_trees.specs.declared.files.FnBody.TheVariants as body
use Rattle.star_trees.specs.declared.files.FnCode.{FnCode}
use Rattle.star_trees.specs.declared.files.Param.{Param}
use Rattle.star_trees.specs.declared.files.Param.TheVariants as param
use Rattle.star_trees.specs.declared.trees.Expr.{Expr}
use Rattle.star_trees.specs.declared.trees.Stmt.{Stmt}

zero_plus : (n : ℕ) → 0 + n ≡ n
zero_plus n = omega arith

plus_zero : (n : ℕ) → n + 0 ≡ n
plus_zero n = omega arith

pub block_body : (of : FnBody) (stmts other : List Stmt) (block : ℕ) (a b : Emitter)
    → of ≡ body.Block stmts
    → other ≡ stmts
    → StmtsBlock other block a b
    → BodyBlock of block a b
block_body of stmts other block a b is same emitted =
    record {
      grows = emitted.grows;
      code = emitted.code;
      there = emitted.there;
      coded = λ t holds. rw is (BodyCode.block
          (subst (λ s. StmtsCode t s [] emitted.code) same (emitted.coded t holds)));
    }

pub value_body : (of : FnBody) (value other : Expr) (block : ℕ) (a b : Emitter)
    → of ≡ body.Value value
    → other ≡ value
    → BodyBlock (body.Value other) block a b
    → BodyBlock of block a b
value_body of value other block a b is same emitted =
    subst (λ o. BodyBlock o block a b) (ap body.Value same ∙ sym is) emitted

pub value_block : (value : Expr) (a b c : Emitter) (begin first code : List Instr) (block : ℕ)
    → begin ≡ []
    → first ≡ instr.Return ∷ begin
    → EmitsExpr value a b first code
    → BlockPut code block b c
    → BodyBlock (body.Value value) block a c
value_block value a b c begin first code block empty put emitted kept =
    record {
      grows = grows_both emitted.grows kept.grows;
      code = code;
      there = kept.there;
      coded = λ t holds. BodyCode.value
          (subst (λ o. ExprCode t value o code) (put ∙ ap (λ o. instr.Return ∷ o) empty)
          (emitted.coded t (later_tables t kept.grows holds)));
    }

pub exprs_block : (exprs : List Expr) (a b c : Emitter) (begin code : List Instr) (block : ℕ)
    → begin ≡ []
    → EmitsExprs exprs a b begin code
    → BlockPut code block b c
    → ExprsBlock exprs block a c
exprs_block exprs a b c begin code block empty emitted put =
    record {
      grows = grows_both emitted.grows put.grows;
      code = code;
      there = put.there;
      coded = λ t holds. subst (λ o. ExprsCode t exprs o code) empty
          (emitted.coded t (later_tables t put.grows holds));
    }

-- no functions up to one may be made, and then all again
pub defaults_block : (index : ℕ) (exprs : List Expr) (block least : ℕ) (a one b c : Emitter)
    → a.least ≡ 0
    → least ≡ suc index
    → one ≡ record a { least = least }
    → ExprsBlock exprs block one b
    → c ≡ record b { least = 0 }
    → DefaultsBlock index exprs block a c
defaults_block index exprs block least a one b c none behind first emitted last =
    subst (λ after. DefaultsBlock index exprs block a after) (sym last)
    (by (subst (λ before. ExprsBlock exprs block before b)
    (first ∙ ap (λ number. record a { least = number }) behind) emitted))
  where
    by : ExprsBlock exprs block (record a { least = suc index }) b
        → DefaultsBlock index exprs block a (record b { least = 0 })
    by emitted =
        record {
          grows = record {
            tables = record {
              blocks = emitted.grows.tables.blocks;
              names = emitted.grows.tables.names;
              shapes = emitted.grows.tables.shapes;
              literals = emitted.grows.tables.literals;
              least = sym none;
            };
            heap = emitted.grows.heap;
            literals = emitted.grows.literals;
          };
          code = emitted.code;
          there = emitted.there;
          coded = λ t holds. emitted.coded (from_function (suc index) t) (record {
            blocks = holds.blocks;
            names = holds.names;
            shapes = holds.shapes;
            literals = holds.literals;
            least = sym emitted.grows.tables.least;
          });
        }

-- a default's code in front of those behind it
pub some_default : (of : Param) (name : List ℕ) (default : Expr) (a b : Emitter)
    (rest is : List Instr)
    → of ≡ param.Optional name default
    → EmitsExpr default a b rest is
    → EmitsDefault of a b rest is
some_default of name default a b rest is same emitted =
    λ more behind before others. rw same (record {
      grows = grows_both others.grows emitted.grows;
      coded = λ t holds. ExprsCode.some
          (others.coded t (later_tables t emitted.grows holds)) (emitted.coded t holds);
    })

pub none_default : (of : Param) (a : Emitter) (rest : List Instr)
    → has_default of ≡ false
    → EmitsDefault of a a rest rest
none_default (param.Required name) a rest is = λ more behind before others. others
none_default (param.Optional name default) a rest is = absurd (cc)
none_default param.Bare a rest is = λ more behind before others. others
none_default (param.Rest name) a rest is = λ more behind before others. others
none_default (param.Keywords name) a rest is = λ more behind before others. others

defaults_first : (of : Param) (params : List Param)
    → defaults_of (of ∷ params) ≡ defaults_of (of ∷ []) ++ defaults_of params
defaults_first (param.Required name) params = refl
defaults_first (param.Optional name default) params = refl
defaults_first param.Bare params = refl
defaults_first (param.Rest name) params = refl
defaults_first (param.Keywords name) params = refl

one_less : (left : ℕ) → 0 < left → left ≡ suc (left - 1)
one_less left some = omega arith

pub no_defaults : (params : List Param) (emitter : Emitter) (rest : List Instr)
    → EmitsExprs (defaults_of (drop (length params) params)) emitter emitter rest rest
no_defaults params emitter rest =
    record {
      grows = grows_same emitter;
      coded = λ t holds. rw (drop-length params) ExprsCode.none;
    }

pub more_defaults : (params : List Param) (left : ℕ) (item : Param) (a b c : Emitter)
    (rest mid is : List Instr)
    → 0 < left
    → left - 1 < length params
    → item ≡ get_or params (left - 1) item
    → EmitsExprs (defaults_of (drop left params)) a b rest mid
    → EmitsDefault item b c mid is
    → EmitsExprs (defaults_of (drop (left - 1) params)) a c rest is
more_defaults params left item a b c rest mid is some within at more first =
    rw (drop-cons params (left - 1) item within)
    (subst (λ x. EmitsExprs (defaults_of (x ∷ drop (suc (left - 1)) params)) a c rest is) at
    (rw (defaults_first item (drop (suc (left - 1)) params))
    (first (defaults_of (drop (suc (left - 1)) params)) rest a
    (subst (λ k. EmitsExprs (defaults_of (drop k params)) a b rest mid) (one_less left some)
    more))))

pub all_defaults : (params : List Param) (left : ℕ) (a b : Emitter) (rest is : List Instr)
    → left ≡ 0
    → EmitsExprs (defaults_of (drop left params)) a b rest is
    → EmitsExprs (defaults_of params) a b rest is
all_defaults params left a b rest is none emitted =
    subst (λ k. EmitsExprs (defaults_of (drop k params)) a b rest is) none emitted

pub one_longer : (entries more : List FnEntry) (entry : FnEntry) (count : ℕ)
    → length entries ≡ count
    → more ≡ entries ++ entry ∷ []
    → length more ≡ count + 1
one_longer entries more entry count long last =
    ap length last ∙ length-append entries (entry ∷ []) ∙ ap (λ n. n + 1) long

-- one more is counted where there is a default
first_counted : (of : Param) (params : List Param) (count : ℕ)
    → counted_with of count + length (defaults_of params)
    ≡ count + length (defaults_of (of ∷ params))
first_counted (param.Required name) params count = refl
first_counted (param.Optional name default) params count = omega arith
first_counted param.Bare params count = refl
first_counted (param.Rest name) params count = refl
first_counted (param.Keywords name) params count = refl

plus_one : (n : ℕ) → n + 1 ≡ suc n
plus_one n = omega arith

pub one_counted : (params : List Param) (index count : ℕ) (item : Param)
    → index < length params
    → item ≡ get_or params index item
    → counted_with item count + length (defaults_of (drop (index + 1) params))
    ≡ count + length (defaults_of (drop index params))
one_counted params index count item within at =
    ap (λ n. counted_with item count + length (defaults_of (drop n params))) (plus_one index)
    ∙ first_counted item (drop (suc index) params) count
    ∙ ap (λ x. count + length (defaults_of (x ∷ drop (suc index) params))) at
    ∙ sym (ap (λ rest. count + length (defaults_of rest)) (drop-cons params index item within))

pub fn_emitted : (index : ℕ) (tree : FnCode) (a b c : Emitter) (entry : FnEntry)
    → a.least ≡ 0
    → DefaultsBlock index (defaults_of tree.params) entry.defaults a b
    → BodyBlock tree.body entry.block b c
    → entry.name ≡ printed_name tree.name
    → entry.params ≡ map formal_of tree.params
    → entry.optional ≡ length (defaults_of tree.params)
    → FnEmitted index tree a c entry
fn_emitted index tree a b c entry none on_defaults on_body name params optional =
    record {
      grows = grows_both on_defaults.grows on_body.grows;
      coded = λ t holds.
          let at_defaults = later_tables t on_body.grows holds in
          record {
            name = name;
            params = params;
            optional = optional;
            defaults = on_defaults.code;
            defaults_there = at_defaults.blocks entry.defaults on_defaults.code on_defaults.there;
            on_defaults = on_defaults.coded t at_defaults;
            block = on_body.code;
            there = holds.blocks entry.block on_body.code on_body.there;
            body = on_body.coded (from_function 0 t) (record {
              blocks = holds.blocks;
              names = holds.names;
              shapes = holds.shapes;
              literals = holds.literals;
              least = sym (on_body.grows.tables.least ∙ on_defaults.grows.tables.least ∙ none);
            });
          };
    }

pub fn_emitted_of : (index : ℕ) (tree : FnCode) (a b c : Emitter) (entry : FnEntry)
    (first second third : List Param)
    → first ≡ tree.params
    → second ≡ tree.params
    → third ≡ tree.params
    → a.least ≡ 0
    → DefaultsBlock index (defaults_of first) entry.defaults a b
    → BodyBlock tree.body entry.block b c
    → entry.name ≡ printed_name tree.name
    → entry.params ≡ map formal_of second
    → entry.optional ≡ length (defaults_of third)
    → FnEmitted index tree a c entry
fn_emitted_of index tree a b c entry first second third one two three none on_defaults on_body name
    params optional =
    fn_emitted index tree a b c entry none
    (subst (λ params. DefaultsBlock index (defaults_of params) entry.defaults a b) one on_defaults)
    on_body name (params ∙ ap (map formal_of) two)
    (optional ∙ ap (λ params. length (defaults_of params)) three)

-- one more behind those that are written
one_behind : (t : Tables) {first : ℕ} {trees : List FnCode} {entries : List FnEntry}
    (count : ℕ) (tree : FnCode) (entry : FnEntry)
    → FnsCoded t first trees entries
    → count ≡ length trees + first
    → FnCoded t count tree entry
    → FnsCoded t first (trees ++ tree ∷ []) (entries ++ entry ∷ [])
one_behind t {first} count tree entry FnsCoded.no_functions at last =
    FnsCoded.one_function (subst (λ n. FnCoded t n tree entry) (at ∙ zero_plus first) last)
    FnsCoded.no_functions
one_behind t {first} count tree entry (FnsCoded.one_function {trees = trees} one more) at last =
    FnsCoded.one_function one (one_behind t count tree entry more
    (at ∙ sym (plus_suc (length trees) first)) last)
  where
    plus_suc : (m n : ℕ) → m + suc n ≡ suc m + n
    plus_suc m n = omega arith

each_coded : (t : Tables) {first : ℕ} {trees : List FnCode} {entries : List FnEntry}
    → FnsCoded t first trees entries
    → (index : ℕ)
    → BothCoded t (index + first) (slice_get trees index) (slice_get entries index)
each_coded t FnsCoded.no_functions index = tt
each_coded t {first} (FnsCoded.one_function {tree = tree} {entry = entry} one more) zero =
    subst (λ n. BothCoded t n (Some tree) (Some entry)) (sym (zero_plus first)) one
each_coded t {first} (FnsCoded.one_function {trees = trees} {entries = entries} one more)
    (suc index) =
    subst (λ n. BothCoded t n (slice_get trees index) (slice_get entries index))
    (plus_suc index first) (each_coded t more index)
  where
    plus_suc : (m n : ℕ) → m + suc n ≡ suc m + n
    plus_suc m n = omega arith

pub none_emitted : (trees : List FnCode) (emitter : Emitter) (entries : List FnEntry)
    → entries ≡ []
    → FnsEmitted (take 0 trees) emitter emitter entries
none_emitted trees emitter entries is =
    record { grows = grows_same emitter; coded = λ t holds. rw is FnsCoded.no_functions }

pub one_emitted : (trees : List FnCode) (index : ℕ) (tree : FnCode) (a b c : Emitter)
    (entries more : List FnEntry) (entry : FnEntry)
    → index < length trees
    → tree ≡ get_or trees index tree
    → FnsEmitted (take index trees) a b entries
    → FnEmitted index tree b c entry
    → more ≡ entries ++ entry ∷ []
    → FnsEmitted (take (index + 1) trees) a c more
one_emitted trees index tree a b c entries more entry within is emitted one last =
    let long : index ≡ length (take index trees) + 0 =
    sym (plus_zero (length (take index trees))
    ∙ length-take-le index trees (omega (arith, within))) in
    record {
      grows = grows_both emitted.grows one.grows;
      coded = λ t holds.
          rw (take_more trees index tree within, last, ← is)
          (one_behind t index tree entry (emitted.coded t (later_tables t one.grows holds))
          long (one.coded t holds));
    }

pub at_index : {tree : FnCode} {a b : Emitter} {entry : FnEntry} {one other : ℕ}
    → one ≡ other
    → FnEmitted one tree a b entry
    → FnEmitted other tree a b entry
at_index {tree} {a} {b} {entry} same emitted = subst (λ n. FnEmitted n tree a b entry) same emitted

pub all_emitted : (trees : List FnCode) (count : ℕ) (a b : Emitter) (entries : List FnEntry)
    → count ≡ length trees
    → FnsEmitted (take count trees) a b entries
    → FnsEmitted trees a b entries
all_emitted trees count a b entries all emitted =
    subst (λ t. FnsEmitted t a b entries)
    (ap (λ k. take k trees) all ∙ take_all (length trees) trees (omega arith)) emitted

no_literals : (heap : HeapState) → AreLiterals heap []
no_literals heap = record { each = λ text value there. absurd (cc) }

pub file_compiled : (file : File) (heap : HeapState) (trees : List FnCode) (stmts : List Stmt)
    (a b c : Emitter) (entries : List FnEntry) (top : ℕ)
    → trees ≡ file.functions
    → stmts ≡ file.body
    → a.heap ≡ heap
    → a.literals ≡ []
    → a.least ≡ 0
    → FnsEmitted trees a b entries
    → StmtsBlock stmts top b c
    → IsCompiled file heap (record {
      code = record {
        blocks = c.blocks;
        names = c.names;
        shapes = c.shapes;
        functions = entries;
        top = top;
      };
      literals = c.literals;
      heap = c.heap;
    })
file_compiled file heap trees stmts a b c entries top same same_body begin empty all functions block =
    let grows = grows_both functions.grows block.grows in
    let tables = from_function 0 (tables_in c) in
    let here : Extends (tables_in c) tables =
    record {
      blocks = λ block code there. there;
      names = λ index name there. there;
      shapes = λ index ways there. there;
      literals = λ text value there. there;
      least = sym (grows.tables.least ∙ all);
    } in
    let coded : FnsCoded tables 0 file.functions entries =
    subst (λ t. FnsCoded tables 0 t entries) same
    (functions.coded tables (later_tables tables block.grows here)) in
    record {
      coded = record {
        functions = λ index. subst (λ n. BothCoded tables n (slice_get file.functions index)
            (slice_get entries index)) (plus_zero index) (each_coded tables coded index);
        block = block.code;
        there = block.there;
        body = subst (λ s. StmtsCode tables s [] block.code) same_body (block.coded tables here);
      };
      literals = grows.literals (rw empty (no_literals a.heap));
      more_cells = subst (λ h. HasMoreCells h c.heap) begin grows.heap;
    }

-- The indexes, the variables and the functions of resolved files.
use Rattle.std.proofs.Common.{◌≡◌, ◌+◌, true, List, [], ◌∷◌, length, map, All, Result, Ok, Err, ap}
use Rattle.std.proofs.Common.{arith, le_refl, refl, subst, sym, IfOk}
use Rattle.std.proofs.lemmas.List.Elements.{All-append, All-nil}
use Rattle.star_conditions.proofs.CountsMade.{Whole, all-bound, all-fit, known_of, still}
use Rattle.star_conditions.proofs.FreeUses.{Bounded, Covered, within-self}
use Rattle.star_conditions.proofs.StatementCounts.{all-sound}
use Rattle.star_conditions.proofs.MentionsMade.{below, below-in, below-none, count-append}
use Rattle.star_conditions.proofs.StatementMentions.{all-tells}
use Rattle.star_conditions.proofs.StatementIndexes.{all-fine}
use Rattle.star_trees.specs.Counted.{VariablesAreCounted, all_counted, stmt_in}
use Rattle.star_trees.specs.Indexes.{IndexesAreThere}
use Rattle.star_trees.specs.Mentions.{Fits, FunctionsAreMentioned, all_mentions, mention_count}
use Rattle.star_trees.specs.Mentions.{mentions_of_code, mentions_of_stmt}
use Rattle.star_trees.specs.declared.files.File.{File}
use Rattle.star_trees.specs.declared.files.FnCode.{FnCode}
use Rattle.star_grammar.specs.declared.bare_statements.BareStmt.{BareStmt}
use Rattle.star_trees.specs.Variables.{Names, variables}
use Rattle.star_scopes.specs.declared.dialects.Dialect.{Dialect}
use Rattle.star_scopes.specs.declared.unbound.Unbound.{Unbound}
use Rattle.star_scopes.specs.StatementBinds.{body_binds}
use Rattle.star_scopes.specs.StatementMaking.{body_made}
use Rattle.star_scopes.specs.StatementMeaning.{stmt_meaning}
use Rattle.star_scopes.specs.StatementUses.{body_uses}
use Rattle.star_scopes.specs.Meanings.{StmtMeaning}
use Rattle.star_scopes.specs.Files.{file_scopes, file_with, free_names, no_lists, resolved}
use Rattle.star_scopes.specs.Files.{with_free}

file_with-indexes : (free : Names) (body : List BareStmt) → IndexesAreThere (file_with free body)
file_with-indexes free body =
    let fine = all-fine free (file_scopes body) body no_lists (omega arith) (omega arith) in
    record {
      body_functions = fine.value_functions;
      body_loads = fine.value_loads;
      code_functions = fine.code_functions _ (le_refl _) (omega arith);
      code_loads = fine.code_loads _ (le_refl _) (omega arith);
    }

with_free-indexes : (body : List BareStmt) (free : Result Names Unbound) (file : File)
    → with_free body free ≡ Ok file
    → IndexesAreThere file
with_free-indexes body (Ok free) file is = subst (λ result. IfOk result IndexesAreThere) is
    (file_with-indexes free body)
with_free-indexes body (Err unbound) file is = subst (λ result. IfOk result IndexesAreThere) is tt

pub resolved-indexes : (dialect : Dialect) (body : List BareStmt) (file : File)
    → resolved dialect body ≡ Ok file
    → IndexesAreThere file
resolved-indexes dialect body file is = with_free-indexes body (free_names dialect body) file is

file_with-variables : (dialect : Dialect) (free : Names) (body : List BareStmt)
    → free_names dialect body ≡ Ok free
    → VariablesAreCounted (file_with free body)
file_with-variables dialect free body gathers =
    let scopes = file_scopes body in
    let bounded : Bounded scopes
    (body_binds (map stmt_meaning body)) = record { before = []; within = within-self _ } in
    let covered : Covered free
    (body_uses dialect scopes
    (map stmt_meaning body)) = record
    { before = []; after = free; gathers = gathers; within = within-self free } in
    let sound = all-sound dialect free scopes body bounded covered no_lists (λ place. []) in
    let made = body_made free scopes (map stmt_meaning body) no_lists in
    let whole : Whole = record { loads = made.1.loads; around = sound.now } in
    let keeps = (still (known_of made.1 sound.now)).keeps in
    let fit = sound.value whole keeps in
    let tally = stmt_in free made.1.loads sound.now in
    record {
      around = sound.now;
      body = subst (λ bounds. all_counted (map tally made.0) (variables bounds ∷ []) ≡ true)
          (sym (all-bound tally (λ (m : StmtMeaning). m.bound) scopes _ made.0 fit))
          (all-fit tally (λ (m : StmtMeaning). m.bound) scopes _ made.0 fit);
      functions = sound.codes whole keeps (λ place below. absurd (omega (arith, below)));
    }

with_free-variables : (dialect : Dialect) (body : List BareStmt) (free : Result Names Unbound)
    (file : File)
    → free_names dialect body ≡ free
    → with_free body free ≡ Ok file
    → VariablesAreCounted file
with_free-variables dialect body (Ok free) file gathers is = subst
    (λ result. IfOk result VariablesAreCounted) is (file_with-variables dialect free body gathers)
with_free-variables dialect body (Err unbound) file gathers is = subst
    (λ result. IfOk result VariablesAreCounted) is tt

pub resolved-variables : (dialect : Dialect) (body : List BareStmt) (file : File)
    → resolved dialect body ≡ Ok file
    → VariablesAreCounted file
resolved-variables dialect body file is = with_free-variables dialect body
    (free_names dialect body) file refl is

file_with-functions : (free : Names) (body : List BareStmt)
    → FunctionsAreMentioned (file_with free body)
file_with-functions free body =
    let scopes = file_scopes body in
    let told = all-tells free scopes body no_lists in
    let made = body_made free scopes (map stmt_meaning body) no_lists in
    let functions = made.1.functions in
    let value = all_mentions (map mentions_of_stmt made.0) in
    let codes = all_mentions (map mentions_of_code functions) in
    record {
      once = λ i less.
          let split = count-append i value codes in
          let counted = told.counted i in
          let same = ap (λ (all : List FnCode). mention_count i (all_mentions (map mentions_of_code
          all))) told.is in
          let long = ap (λ (all : List FnCode). below (length all) i) told.is in
          let one = below-in (length functions) i less in
          let none = below-none i in
          let end_length : 0 + length told.more ≡ length told.more = omega arith in
          let end = ap (λ n. below n i) end_length in
          omega (arith, split, counted, same, long, one, none, end);
      as_they_are =
          All-append (Fits functions) value codes
          (told.value_fits (All-nil (Fits [])))
          (subst (λ (all : List FnCode). All (Fits functions) (all_mentions (map mentions_of_code
          all))) (sym told.is) (told.codes_fit (All-nil (Fits []))));
    }

with_free-functions : (body : List BareStmt) (free : Result Names Unbound) (file : File)
    → with_free body free ≡ Ok file
    → FunctionsAreMentioned file
with_free-functions body (Ok free) file is = subst (λ result. IfOk result FunctionsAreMentioned) is
    (file_with-functions free body)
with_free-functions body (Err unbound) file is = subst
    (λ result. IfOk result FunctionsAreMentioned) is tt

pub resolved-functions : (dialect : Dialect) (body : List BareStmt) (file : File)
    → resolved dialect body ≡ Ok file
    → FunctionsAreMentioned file
resolved-functions dialect body file is = with_free-functions body (free_names dialect body) file is

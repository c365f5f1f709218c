-- Each row of the table of directives keeps a reader good.
use Rattle.std.proofs.Common.{◌≡◌, ℕ, Bool, true, false, List, [], Option}
use Rattle.std.proofs.Common.{Result, Ok, Err, IfOk, refl, arith, inl, if◌then◌else◌}
use Rattle.std.proofs.lemmas.Bool.{and_parts, cond_both}
use Rattle.std.specs.Prelude.{All}
use Rattle.bz_base.specs.Names.{is_identifier}
use Rattle.bz_base.specs.declared.declarations.OverrideKind.{OverrideKind}
use Rattle.bz_base.specs.declared.declarations.OverrideKind.TheVariants as override
use Rattle.module_arguments.specs.Arguments.{binds, each_fits, further, names_differ}
use Rattle.module_arguments.specs.Attributes.{attributes_in}
use Rattle.module_arguments.specs.Directives.{attribute_shape, parameters_of}
use Rattle.module_arguments.specs.Directives.{repository_parameters, shape_of}
use Rattle.module_arguments.specs.GivenValues.{default_of, each_given, given_text, is_name}
use Rattle.module_arguments.specs.NamePairs.{pairs_in}
use Rattle.module_arguments.specs.declared.directives.Directive.{Directive}
use Rattle.module_arguments.specs.declared.directives.Directive.TheVariants as directive
use Rattle.module_arguments.specs.declared.directives.Shape.{Shape}
use Rattle.module_arguments.specs.declared.given_values.Given.{Given}
use Rattle.module_arguments.specs.declared.objections.Objection.{Objection}
use Rattle.module_arguments.specs.declared.parameters.Parameter.{Parameter}
use Rattle.module_directives.specs.Directives.{bound_row, directive_row}
use Rattle.module_directives.specs.Directives.{labels_given}
use Rattle.module_directives.specs.Directives.{may_run, names_row}
use Rattle.module_directives.specs.Directives.{registered_row, repository_row, rule_at, source_row}
use Rattle.module_directives.specs.Directives.{tag_row, takes_anything, values_of}
use Rattle.module_directives.specs.Outcomes.{Outcome, and_then, done, module_late}
use Rattle.module_directives.specs.Readers.{given_proxy}
use Rattle.module_directives.specs.Readers.{module_declared}
use Rattle.module_directives.specs.Readers.{override_declared}
use Rattle.module_directives.specs.declared.parts.Purpose.{Purpose}
use Rattle.module_directives.specs.declared.parts.Purpose.TheVariants as purpose
use Rattle.module_directives.specs.declared.readers.Reader.{Reader}
use Rattle.module_laws.proofs.FitAttributes.{AttrsFit, attributes_fit}
use Rattle.module_laws.proofs.FitNames.{IsPair, pairs_fit}
use Rattle.module_laws.proofs.FitValues.{DefaultsFit, each_given_fits}
use Rattle.module_laws.proofs.KeptReaders.{archive_name, begun_keeps, dep_keeps, git_name}
use Rattle.module_laws.proofs.KeptReaders.{local_keeps, module_keeps}
use Rattle.module_laws.proofs.KeptReaders.{multiple_keeps, names_keep, override_keeps}
use Rattle.module_laws.proofs.KeptReaders.{repository_keeps, rule_keeps, single_keeps, tag_keeps}
use Rattle.module_laws.proofs.KeptReaders.{empty_version, usage_keeps}
use Rattle.module_laws.specs.Fits.{AllFit}
use Rattle.module_laws.specs.Kept.{IsKept, KeptBy}
use Rattle.module_values.specs.TextLists.{each_text}
use Rattle.star_core.specs.Heaps.{HeapState}
use Rattle.star_core.specs.declared.values.Args.{Args}

-- what comes behind a result that fits
then_keeps : {A : Type 0} (P : A → Type 0) (r : Result A Objection) (next : A → Outcome)
    → IfOk r P
    → ((value : A) → P value → KeptBy (next value))
    → KeptBy (and_then r next)
then_keeps P (Ok value) next fit keeps = keeps value fit
then_keeps P (Err reason) next fit keeps = tt

-- what binding says
fit_each : (shape : Shape) (parameters : List Parameter) (args : Args)
    → binds shape parameters args ≡ true
    → each_fits 0 parameters args ≡ true
unfolding binds
fit_each shape parameters args bound =
    (and_parts _ _ (and_parts (names_differ args.named) _ bound).1).1

differ_each : (shape : Shape) (parameters : List Parameter) (args : Args)
    → binds shape parameters args ≡ true
    → names_differ args.named ≡ true
unfolding binds
differ_each shape parameters args bound = (and_parts (names_differ args.named) _ bound).0

module_defaults : DefaultsFit (parameters_of directive.Module)
unfolding parameters_of default_of is_name
module_defaults = (λ _. refl, (λ _. empty_version, (λ _. omega arith, (λ _. refl, (λ _. tt, tt)))))

dep_defaults : DefaultsFit (parameters_of directive.BazelDep)
unfolding parameters_of default_of is_name
dep_defaults = (λ e. absurd (cc e), (λ _. empty_version, (λ _. tt, (λ _. refl, (λ _. tt, tt)))))

usage_defaults : DefaultsFit (parameters_of directive.UseExtension)
unfolding parameters_of default_of
usage_defaults = (λ e. absurd (cc e), (λ e. absurd (cc e), (λ _. tt, (λ _. tt, tt))))

single_defaults : DefaultsFit (parameters_of directive.SingleVersionOverride)
unfolding parameters_of default_of
single_defaults = (
  λ e. absurd (cc e),
  (λ _. empty_version, (λ _. inl refl, (λ _. tt, (λ _. tt, (λ _. tt, tt))))),
)

multiple_defaults : DefaultsFit (parameters_of directive.MultipleVersionOverride)
unfolding parameters_of default_of
multiple_defaults = (λ e. absurd (cc e), (λ e. absurd (cc e), (λ _. inl refl, tt)))

local_defaults : DefaultsFit (parameters_of directive.LocalPathOverride)
unfolding parameters_of default_of
local_defaults = (λ e. absurd (cc e), (λ e. absurd (cc e), tt))

archive_defaults : DefaultsFit (parameters_of directive.ArchiveOverride)
unfolding parameters_of
archive_defaults = (λ e. absurd (cc e), tt)

git_defaults : DefaultsFit (parameters_of directive.GitOverride)
unfolding parameters_of
git_defaults = (λ e. absurd (cc e), tt)

-- the values of a directive's parameters
values_keep : (one : Directive) (heap : HeapState) (args : Args) (next : List Given → Outcome)
    → binds (shape_of one) (parameters_of one) args ≡ true
    → DefaultsFit (parameters_of one)
    → ((values : List Given) → AllFit (parameters_of one) values → KeptBy (next values))
    → KeptBy (and_then (values_of one heap args) next)
values_keep one heap args next bound defaults keeps =
    then_keeps (AllFit (parameters_of one)) (values_of one heap args) next
    (each_given_fits (parameters_of one) heap args
    (fit_each (shape_of one) (parameters_of one) args bound) defaults) keeps

-- whatever they are
any_values : {A : Type 0} (r : Result A Objection) (next : A → Outcome)
    → ((value : A) → KeptBy (next value))
    → KeptBy (and_then r next)
any_values (Ok value) next keeps = keeps value
any_values (Err reason) next keeps = tt

module_row_keeps : (heap : HeapState) (args : Args) (reader : Reader) (late : Bool)
    → reader.begun ≡ late
    → binds (shape_of directive.Module) (parameters_of directive.Module) args ≡ true
    → IsKept reader
    → KeptBy (if late then Err module_late
    else and_then (values_of directive.Module heap args)
    (λ values. done (module_declared values reader)))
module_row_keeps heap args reader true is bound kept = tt
module_row_keeps heap args reader false is bound kept =
    values_keep directive.Module heap args (λ values. done (module_declared values reader)) bound
    module_defaults (λ values fit. module_keeps values reader fit is kept)

source_row_keeps : (one : Directive) (kind : OverrideKind) (heap : HeapState) (args : Args) (line : ℕ)
    (reader : Reader)
    → ((values : List Given)
    → AllFit (parameters_of one) values
    → KeptBy (override_declared (given_text 0 values) kind line reader))
    → binds (shape_of one) (parameters_of one) args ≡ true
    → DefaultsFit (parameters_of one)
    → KeptBy (source_row one kind heap args line reader)
source_row_keeps one kind heap args line reader keeps bound defaults =
    values_keep one heap args _ bound defaults
    (λ values fit. any_values (attributes_in heap (parameters_of one) args.named) _
    (λ ignored. keeps values fit))

registered_keeps : (one : Directive) (heap : HeapState) (args : Args) (reader : Reader)
    → IsKept reader
    → KeptBy (registered_row one heap args reader)
registered_keeps one heap args reader kept =
    any_values (labels_given (each_text heap args.positional)) _
    (λ labels. any_values (values_of one heap args) _ (λ values. begun_keeps reader kept))

names_row_keeps : (one : Directive) (for : Purpose) (heap : HeapState) (args : Args) (line : ℕ)
    (reader : Reader)
    → IsKept reader
    → KeptBy (names_row one for heap args line reader)
names_row_keeps one for heap args line reader kept =
    any_values (values_of one heap args) _
    (λ values. then_keeps (All IsPair) (pairs_in heap (further (shape_of one) args) args.named) _
    (pairs_fit heap (further (shape_of one) args) args.named)
    (λ pairs good. names_keep for (given_proxy 0 values) line pairs reader good kept))

bound_keeps : (one : Directive) (heap : HeapState) (args : Args) (line : ℕ) (reader : Reader)
    → may_run one args ≡ true
    → IsKept reader
    → KeptBy (bound_row one heap args line reader)
unfolding bound_row takes_anything
bound_keeps directive.Module heap args line reader may kept =
    module_row_keeps heap args reader reader.begun refl may kept
bound_keeps directive.BazelDep heap args line reader may kept =
    values_keep directive.BazelDep heap args _ may dep_defaults
    (λ values fit. dep_keeps values line reader fit kept)
bound_keeps directive.UseExtension heap args line reader may kept =
    values_keep directive.UseExtension heap args _ may usage_defaults
    (λ values fit. usage_keeps values line reader fit kept)
bound_keeps directive.UseRepoRule heap args line reader may kept =
    any_values (values_of directive.UseRepoRule heap args) _
    (λ values. rule_keeps values reader kept)
bound_keeps directive.UseRepo heap args line reader may kept =
    names_row_keeps directive.UseRepo purpose.Import heap args line reader kept
bound_keeps directive.OverrideRepo heap args line reader may kept =
    names_row_keeps directive.OverrideRepo (purpose.Change false) heap args line reader kept
bound_keeps directive.InjectRepo heap args line reader may kept =
    names_row_keeps directive.InjectRepo (purpose.Change true) heap args line reader kept
bound_keeps directive.SingleVersionOverride heap args line reader may kept =
    values_keep directive.SingleVersionOverride heap args _ may single_defaults
    (λ values fit. single_keeps values line reader fit kept)
bound_keeps directive.MultipleVersionOverride heap args line reader may kept =
    values_keep directive.MultipleVersionOverride heap args _ may multiple_defaults
    (λ values fit. multiple_keeps values line reader fit kept)
bound_keeps directive.LocalPathOverride heap args line reader may kept =
    values_keep directive.LocalPathOverride heap args _ may local_defaults
    (λ values fit. local_keeps values line reader fit kept)
bound_keeps directive.ArchiveOverride heap args line reader may kept =
    source_row_keeps directive.ArchiveOverride override.Archive heap args line reader
    (λ values fit. override_keeps (given_text 0 values) override.Archive line reader
    (archive_name values fit) tt kept) may archive_defaults
bound_keeps directive.GitOverride heap args line reader may kept =
    source_row_keeps directive.GitOverride override.Git heap args line reader
    (λ values fit. override_keeps (given_text 0 values) override.Git line reader
    (git_name values fit) tt kept) may git_defaults
bound_keeps directive.RegisterToolchains heap args line reader may kept =
    registered_keeps directive.RegisterToolchains heap args reader kept
bound_keeps directive.RegisterExecutionPlatforms heap args line reader may kept =
    registered_keeps directive.RegisterExecutionPlatforms heap args reader kept
bound_keeps directive.Include heap args line reader may kept = tt

-- a directive
pub directive_keeps : (one : Directive) (heap : HeapState) (args : Args) (line : ℕ)
    (reader : Reader)
    → IsKept reader
    → KeptBy (directive_row one heap args line reader)
unfolding directive_row
directive_keeps one heap args line reader kept =
    cond_both (may_run one args) _ _ KeptBy
    (λ may. bound_keeps one heap args line reader may kept) (λ _. tt)

-- a tag
pub tag_row_keeps : (usage : Option ℕ) (class : List ℕ) (heap : HeapState) (args : Args) (line : ℕ)
    (reader : Reader)
    → is_identifier class ≡ true
    → IsKept reader
    → KeptBy (tag_row usage class heap args line reader)
unfolding tag_row
tag_row_keeps usage class heap args line reader named kept =
    cond_both (binds attribute_shape [] args) _ _ KeptBy
    (λ bound. then_keeps (AttrsFit []) (attributes_in heap [] args.named) _
    (attributes_fit heap [] args.named (differ_each attribute_shape [] args bound))
    (λ attrs good. tag_keeps usage class attrs line reader named good kept))
    (λ _. tt)

-- a declared repository
pub repository_row_keeps : (index : Option ℕ) (heap : HeapState) (args : Args) (line : ℕ)
    (reader : Reader)
    → IsKept reader
    → KeptBy (repository_row index heap args line reader)
unfolding repository_row
repository_row_keeps index heap args line reader kept =
    cond_both (binds attribute_shape repository_parameters args) _ _ KeptBy
    (λ bound. any_values (each_given repository_parameters heap args) _
    (λ values. then_keeps (AttrsFit repository_parameters)
    (attributes_in heap repository_parameters args.named) _
    (attributes_fit heap repository_parameters args.named
    (differ_each attribute_shape repository_parameters args bound))
    (λ attrs good. repository_keeps (rule_at index reader.rules) values attrs line reader good
    kept)))
    (λ _. tt)

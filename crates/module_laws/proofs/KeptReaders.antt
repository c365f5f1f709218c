-- What directives make of a reader keeps it good.
use Rattle.std.proofs.Common.{◌≡◌, ◌≢◌, ℕ, zero, suc, ◌<◌, ◌≤◌, Bool, true, false, not, ◌&&◌, ◌||◌}
use Rattle.std.proofs.Common.{◌==◌, List, [], ◌∷◌, ◌++◌, Option, Some, None}
use Rattle.std.proofs.Common.{IsTrue, refl}
use Rattle.std.proofs.Common.{ap, ◌∙◌, sym, subst, arith, bytes_eq, codes, get_or, ◌⊎◌, inl, inr}
use Rattle.std.proofs.Common.{length, take}
use Rattle.std.proofs.lemmas.Bool.{and_from, and_parts, cond_both, false_from_ne_true, or_cases}
use Rattle.std.proofs.lemmas.Bool.{or_left, or_right}
use Rattle.std.proofs.lemmas.Cmp.{nat_list_eq_equiv}
use Rattle.std.proofs.lemmas.List.Elements.{All-append, All-cons, All-nil}
use Rattle.std.proofs.lemmas.List.Folds.{list_any_at}
use Rattle.std.proofs.lemmas.List.Kept.{AllPairs-cons}
use Rattle.std.proofs.lemmas.List.Quantifiers.{all_pairs_push}
use Rattle.std.specs.Char.{is_ascii_alphabetic, is_ascii_digit, is_ascii_lowercase}
use Rattle.std.specs.Prelude.{All, AllPairs, slice_get, ⊤}
use Rattle.std.specs.List.{list_all}
use Rattle.bz_base.proofs.PlainLaws.{depth-Text, good-Text}
use Rattle.bz_base.specs.ModuleDeclarations.{IsDep, IsNodep, IsOverrideKind, IsOverrideOf}
use Rattle.bz_base.specs.ModuleDeclarations.{IsPart}
use Rattle.bz_base.specs.ModuleDeclarations.{IsVersionText}
use Rattle.bz_base.specs.Names.{is_apparent_byte, is_identifier, is_module_byte}
use Rattle.bz_base.specs.Names.{is_module_name}
use Rattle.bz_base.specs.Names.{is_joint, is_repository_name}
use Rattle.bz_base.specs.declared.declarations.Dep.{Dep}
use Rattle.bz_base.specs.declared.declarations.Override.{Override}
use Rattle.bz_base.specs.declared.declarations.OverrideKind.{OverrideKind}
use Rattle.bz_base.specs.declared.declarations.Part.{Part}
use Rattle.bz_base.specs.declared.declarations.Part.TheVariants as part
use Rattle.bz_base.specs.declared.plain_values.Named.{Named}
use Rattle.bz_base.specs.declared.plain_values.Plain as plain
use Rattle.bz_version.specs.Scan.{version_of}
use Rattle.module_arguments.specs.Arguments.{is_parameter}
use Rattle.module_arguments.specs.Directives.{name_text, parameters_of, repository_parameters}
use Rattle.module_arguments.specs.GivenValues.{given_text, is_empty, is_name, text_of_given}
use Rattle.module_arguments.specs.declared.directives.Directive.TheVariants as directive
use Rattle.module_arguments.specs.declared.given_values.Given.{Given}
use Rattle.module_arguments.specs.declared.given_values.Given.TheVariants as given
use Rattle.module_arguments.specs.declared.name_pairs.NamePair.{NamePair}
use Rattle.module_arguments.specs.declared.parameters.Kind.{Kind}
use Rattle.module_arguments.specs.declared.parameters.Kind.TheVariants as kind
use Rattle.module_arguments.specs.declared.parameters.NameKind.TheVariants as names
use Rattle.module_arguments.specs.declared.parameters.Parameter.{Parameter}
use Rattle.module_arguments.specs.declared.parameters.TextKind.{TextKind}
use Rattle.module_arguments.specs.declared.parameters.TextKind.TheVariants as text
use Rattle.module_directives.specs.Readers.{begun, begun_reader, counts, counts_dev, declared_of}
use Rattle.module_directives.specs.Readers.{dep_declared, dep_of, given_flag}
use Rattle.module_directives.specs.Readers.{given_texts, is_nothing, is_overridden, is_root}
use Rattle.module_directives.specs.Readers.{level_of_given, local_kind, module_declared}
use Rattle.module_directives.specs.Readers.{multiple_kind, names_declared, nodep_of}
use Rattle.module_directives.specs.Readers.{or_else, override_declared, repository_declared}
use Rattle.module_directives.specs.Readers.{rule_declared, single_kind, tag_declared}
use Rattle.module_directives.specs.Readers.{texts_of_given, usage_declared, usage_of, with_names}
use Rattle.module_directives.specs.Parts.{names_added, part_added}
use Rattle.module_directives.specs.declared.parts.Addition.TheVariants as addition
use Rattle.module_directives.specs.declared.parts.Purpose.{Purpose}
use Rattle.module_directives.specs.declared.parts.Purpose.TheVariants as purpose
use Rattle.module_directives.specs.declared.readers.Reader.{Reader}
use Rattle.module_directives.specs.declared.readers.RepoRule.{RepoRule}
use Rattle.module_directives.specs.declared.readers.Role.{Role}
use Rattle.module_laws.proofs.FitAttributes.{AttrsFit, IsGoodAttr}
use Rattle.module_laws.proofs.FitNames.{IsPair}
use Rattle.module_laws.proofs.FitValues.{empty_text}
use Rattle.module_laws.proofs.KeptParts.{names_added_keep, part_added_keeps}
use Rattle.module_laws.specs.Fits.{AllFit, AreVersions, Fits, FitsText}
use Rattle.module_laws.specs.Kept.{IsKept, KeptBy}
use Rattle.module_names.specs.ExportedNames.{is_private}

-- ---- what was given at an index

abbrev FitsGiven : Kind → Option Given → Type 0
FitsGiven one None = ⊥
FitsGiven one (Some value) = Fits one value

abbrev FitsAt : Option Parameter → Option Given → Type 0
FitsAt None value = ⊤
FitsAt (Some parameter) value = FitsGiven parameter.kind value

fits_at : (index : ℕ) (parameters : List Parameter) (values : List Given)
    → AllFit parameters values
    → FitsAt (slice_get parameters index) (slice_get values index)
fits_at zero [] values all = tt
fits_at (suc index) [] values all = tt
fits_at zero (parameter ∷ parameters) [] all = absurd all
fits_at (suc index) (parameter ∷ parameters) [] all = absurd all
fits_at zero (parameter ∷ parameters) (value ∷ values) all = all.0
fits_at (suc index) (parameter ∷ parameters) (value ∷ values) all =
    fits_at index parameters values all.1

text_there : (texts : TextKind) (value : Option Given)
    → FitsGiven (kind.Text texts) value
    → FitsText texts (text_of_given value)
text_there texts None h = absurd h
text_there texts (Some (given.Text value)) h = h
text_there texts (Some (given.Texts values)) h = absurd h
text_there texts (Some (given.Flag flag)) h = absurd h
text_there texts (Some (given.Level level)) h = absurd h
text_there texts (Some (given.Proxy usage)) h = absurd h
text_there texts (Some given.Nothing) h = absurd h

some_text_there : (texts : TextKind) (value : Option Given)
    → FitsGiven (kind.TextOrNone texts) value
    → is_nothing value ≡ false
    → FitsText texts (text_of_given value)
some_text_there texts None h some = absurd h
some_text_there texts (Some (given.Text value)) h some = h
some_text_there texts (Some (given.Texts values)) h some = absurd h
some_text_there texts (Some (given.Flag flag)) h some = absurd h
some_text_there texts (Some (given.Level level)) h some = absurd h
some_text_there texts (Some (given.Proxy usage)) h some = absurd h
some_text_there texts (Some given.Nothing) h some = absurd (cc some)

versions_there : (value : Option Given)
    → FitsGiven kind.Versions value
    → AreVersions (texts_of_given value)
versions_there None h = absurd h
versions_there (Some (given.Texts values)) h = h
versions_there (Some (given.Text value)) h = absurd h
versions_there (Some (given.Flag flag)) h = absurd h
versions_there (Some (given.Level level)) h = absurd h
versions_there (Some (given.Proxy usage)) h = absurd h
versions_there (Some given.Nothing) h = absurd h

level_there : (value : Option Given)
    → FitsGiven kind.Level value
    → level_of_given value ≤ 2147483647
level_there None h = absurd h
level_there (Some (given.Level level)) h = h
level_there (Some (given.Texts values)) h = absurd h
level_there (Some (given.Text value)) h = absurd h
level_there (Some (given.Flag flag)) h = absurd h
level_there (Some (given.Proxy usage)) h = absurd h
level_there (Some given.Nothing) h = absurd h

-- ---- names

lower_letter : (b : ℕ) → is_ascii_lowercase b ≡ true → is_ascii_alphabetic b ≡ true
lower_letter b h = or_right _ _ h

apparent : (b : ℕ) → is_module_byte b ≡ true → is_apparent_byte b ≡ true
apparent b h = by (or_cases _ _ h)
  where
    letter_or_digit : (is_ascii_lowercase b ≡ true) ⊎ (is_ascii_digit b ≡ true)
        → is_apparent_byte b ≡ true
    letter_or_digit (inl letter) = or_left _ _ (or_right _ _ letter)
    letter_or_digit (inr digit) = or_left _ _ (or_left _ _ (or_left _ _ digit))

    by : ((is_ascii_lowercase b || is_ascii_digit b) ≡ true) ⊎ (is_joint b ≡ true)
        → is_apparent_byte b ≡ true
    by (inl front) = letter_or_digit (or_cases _ _ front)
    by (inr joint) = or_right _ _ joint

all_apparent : (bytes : List ℕ)
    → list_all is_module_byte bytes ≡ true
    → list_all is_apparent_byte bytes ≡ true
all_apparent [] h = refl
all_apparent (b ∷ bytes) h =
    let parts : (is_module_byte b ≡ true) × (list_all is_module_byte bytes ≡ true) =
    and_parts _ _ h in
    and_from _ _ (apparent b parts.0) (all_apparent bytes parts.1)

module_is_repository : (name : List ℕ)
    → is_module_name name ≡ true
    → is_repository_name name ≡ true
module_is_repository [] h = absurd (cc h)
module_is_repository (b ∷ bytes) h =
    let front : (is_ascii_lowercase b && list_all is_module_byte (b ∷ bytes)) ≡ true =
    (and_parts _ _ h).0 in
    let parts : (is_ascii_lowercase b ≡ true) × (list_all is_module_byte (b ∷ bytes) ≡ true) =
    and_parts _ _ front in
    and_from _ _ (lower_letter b parts.0) (all_apparent (b ∷ bytes) parts.1)

module_name : (value : List ℕ) → is_name names.Module value ≡ true → is_module_name value ≡ true
unfolding is_name
module_name value h = h

own_name : (value : List ℕ)
    → is_name names.Own value ≡ true
    → (value ≡ []) ⊎ IsTrue (is_module_name value)
unfolding is_name
own_name value h = by (or_cases (is_empty value) (is_module_name value) h)
  where
    by : (is_empty value ≡ true) ⊎ (is_module_name value ≡ true)
        → (value ≡ []) ⊎ IsTrue (is_module_name value)
    by (inl none) = inl (empty_text value none)
    by (inr some) = inr some

some_name : (value : List ℕ)
    → is_name names.Repository value ≡ true
    → is_empty value ≡ false
    → is_repository_name value ≡ true
unfolding is_name
some_name value h some = by (or_cases (is_empty value) (is_repository_name value) h)
  where
    by : (is_empty value ≡ true) ⊎ (is_repository_name value ≡ true)
        → is_repository_name value ≡ true
    by (inl none) = absurd (cc (sym none ∙ some))
    by (inr name) = name

apparent_good : (name repo : List ℕ)
    → is_module_name name ≡ true
    → is_name names.Repository repo ≡ true
    → is_repository_name (or_else repo name) ≡ true
apparent_good name repo good h =
    cond_both (is_empty repo) _ _ (λ (t : List ℕ). is_repository_name t ≡ true)
    (λ _. module_is_repository name good) (λ some. some_name repo h some)

repo_named : (name repo : List ℕ)
    → is_name names.Repository repo ≡ true
    → (or_else repo name ≡ name) ⊎ IsTrue (is_repository_name (or_else repo name))
repo_named name repo h =
    cond_both (is_empty repo) _ _
    (λ (t : List ℕ). (t ≡ name) ⊎ IsTrue (is_repository_name t)) (λ _. inl refl)
    (λ some. inr (some_name repo h some))

and_true : (b : Bool) → b ≡ (b && true)
and_true true = refl
and_true false = refl

private_is : (value : List ℕ) → is_private value ≡ bytes_eq (take 1 value) (codes "_")
private_is [] = refl
private_is (b ∷ bytes) = and_true (b == 95)

exported : (value : List ℕ)
    → is_name names.Exported value ≡ true
    → IsTrue (is_identifier value && not (bytes_eq (take 1 value) (codes "_")))
unfolding is_name
exported value h =
    subst (λ (b : Bool). (is_identifier value && not b) ≡ true) (private_is value) h

unequal : (one other : List ℕ) → bytes_eq one other ≡ false → one ≢ other
unequal one other apart same =
    absurd (cc (sym (ap (bytes_eq one) (sym same) ∙ nat_list_eq_equiv.refl one) ∙ apart))

-- ---- readers

single : {X : Type 0} (P : X → Type 0) (x : X) → P x → All P (x ∷ [])
single P x h = All-cons P x [] h (All-nil P)

pub begun_keeps : (reader : Reader) → IsKept reader → IsKept (begun reader)
begun_keeps reader kept =
    record { declared = kept.declared; nothing_overridden = λ e. absurd (cc e) }

parts_keep : (reader : Reader) (parts : List Part)
    → IsKept reader
    → All IsPart parts
    → IsKept (record reader { begun = true; parts = parts })
parts_keep reader parts kept all =
    record {
      declared =
          record {
            declared =
                record {
                  named = kept.declared.declared.named;
                  version_stands = kept.declared.declared.version_stands;
                  level_stands = kept.declared.declared.level_stands;
                  repo_named = kept.declared.declared.repo_named;
                  deps = kept.declared.declared.deps;
                  nodeps = kept.declared.declared.nodeps;
                  parts = all;
                };
            overrides = kept.declared.overrides;
            override_once = kept.declared.override_once;
          };
      nothing_overridden = λ e. absurd (cc e);
    }

part_pushed : (reader : Reader) (one : Part)
    → IsKept reader
    → IsPart one
    → IsKept (record reader { begun = true; parts = reader.parts ++ one ∷ [] })
part_pushed reader one kept good =
    parts_keep reader (reader.parts ++ one ∷ []) kept
    (All-append IsPart reader.parts (one ∷ []) kept.declared.declared.parts
    (single IsPart one good))

deps_keep : (reader : Reader) (deps : List Dep)
    → IsKept reader
    → All IsDep deps
    → IsKept (record reader { begun = true; deps = deps })
deps_keep reader deps kept all =
    record {
      declared =
          record {
            declared =
                record {
                  named = kept.declared.declared.named;
                  version_stands = kept.declared.declared.version_stands;
                  level_stands = kept.declared.declared.level_stands;
                  repo_named = kept.declared.declared.repo_named;
                  deps = all;
                  nodeps = kept.declared.declared.nodeps;
                  parts = kept.declared.declared.parts;
                };
            overrides = kept.declared.overrides;
            override_once = kept.declared.override_once;
          };
      nothing_overridden = λ e. absurd (cc e);
    }

nodeps_keep : (reader : Reader) (nodeps : List Dep)
    → IsKept reader
    → All IsNodep nodeps
    → IsKept (record reader { begun = true; nodeps = nodeps })
nodeps_keep reader nodeps kept all =
    record {
      declared =
          record {
            declared =
                record {
                  named = kept.declared.declared.named;
                  version_stands = kept.declared.declared.version_stands;
                  level_stands = kept.declared.declared.level_stands;
                  repo_named = kept.declared.declared.repo_named;
                  deps = kept.declared.declared.deps;
                  nodeps = all;
                  parts = kept.declared.declared.parts;
                };
            overrides = kept.declared.overrides;
            override_once = kept.declared.override_once;
          };
      nothing_overridden = λ e. absurd (cc e);
    }

overrides_keep : (reader : Reader) (overrides : List Override)
    → IsKept reader
    → All (IsOverrideOf reader.name) overrides
    → AllPairs (λ one other. one.name ≢ other.name) overrides
    → IsKept (record reader { begun = true; overrides = overrides })
overrides_keep reader overrides kept all once =
    record {
      declared =
          record {
            declared =
                record {
                  named = kept.declared.declared.named;
                  version_stands = kept.declared.declared.version_stands;
                  level_stands = kept.declared.declared.level_stands;
                  repo_named = kept.declared.declared.repo_named;
                  deps = kept.declared.declared.deps;
                  nodeps = kept.declared.declared.nodeps;
                  parts = kept.declared.declared.parts;
                };
            overrides = all;
            override_once = once;
          };
      nothing_overridden = λ e. absurd (cc e);
    }

pub empty_version : IsVersionText []
unfolding version_of
empty_version = refl

pub begun_is_kept : (as_role : Role) → IsKept (begun_reader as_role)
begun_is_kept as_role =
    record {
      declared =
          record {
            declared =
                record {
                  named = inl refl;
                  version_stands = empty_version;
                  level_stands = omega arith;
                  repo_named = inl refl;
                  deps = All-nil IsDep;
                  nodeps = All-nil IsNodep;
                  parts = All-nil IsPart;
                };
            overrides = All-nil (IsOverrideOf []);
            override_once = λ i j d before within. absurd (omega (arith, within));
          };
      nothing_overridden = λ _. refl;
    }

-- ---- directives

pub module_keeps : (values : List Given) (reader : Reader)
    → AllFit (parameters_of directive.Module) values
    → reader.begun ≡ false
    → IsKept reader
    → IsKept (module_declared values reader)
unfolding module_declared parameters_of
module_keeps values reader fit late kept =
    record {
      declared =
          record {
            declared =
                record {
                  named =
                      own_name (given_text 0 values)
                      (text_there (text.Name names.Own) (slice_get values 0) (fits_at 0 (parameters_of directive.Module) values fit));
                  version_stands =
                      text_there text.Version (slice_get values 1) (fits_at 1 (parameters_of directive.Module) values fit);
                  level_stands = level_there (slice_get values 2) (fits_at 2 (parameters_of directive.Module) values fit);
                  repo_named =
                      repo_named (given_text 0 values) (given_text 3 values)
                      (text_there (text.Name names.Repository) (slice_get values 3)
                      (fits_at 3 (parameters_of directive.Module) values fit));
                  deps = kept.declared.declared.deps;
                  nodeps = kept.declared.declared.nodeps;
                  parts = kept.declared.declared.parts;
                };
            overrides =
                subst (λ (list : List Override). All (IsOverrideOf (given_text 0 values)) list)
                (sym (kept.nothing_overridden late)) (All-nil (IsOverrideOf (given_text 0 values)));
            override_once = kept.declared.override_once;
          };
      nothing_overridden = λ e. absurd (cc e);
    }

pub dep_keeps : (values : List Given) (line : ℕ) (reader : Reader)
    → AllFit (parameters_of directive.BazelDep) values
    → IsKept reader
    → IsKept (dep_declared values line reader)
unfolding dep_declared parameters_of
dep_keeps values line reader fit kept =
    let called : is_module_name (given_text 0 values) ≡ true =
    module_name (given_text 0 values)
    (text_there (text.Name names.Module) (slice_get values 0) (fits_at 0 (parameters_of directive.BazelDep) values fit)) in
    let version : IsVersionText (given_text 1 values) =
    text_there text.Version (slice_get values 1) (fits_at 1 (parameters_of directive.BazelDep) values fit) in
    cond_both (counts reader.role (given_flag 4 values)) _ _ IsKept
    (λ _. cond_both (is_nothing (slice_get values 3)) _ _ IsKept
    (λ _. nodeps_keep reader (reader.nodeps ++ nodep_of values line ∷ []) kept
    (All-append IsNodep reader.nodeps (nodep_of values line ∷ []) kept.declared.declared.nodeps
    (single IsNodep (nodep_of values line)
    (record { module_named = called; version_stands = version; nameless = refl }))))
    (λ some. deps_keep reader (reader.deps ++ dep_of values line ∷ []) kept
    (All-append IsDep reader.deps (dep_of values line ∷ []) kept.declared.declared.deps
    (single IsDep (dep_of values line)
    (record {
      module_named = called;
      version_stands = version;
      apparent_stands =
          apparent_good (given_text 0 values) (given_text 3 values) called
          (some_text_there (text.Name names.Repository) (slice_get values 3)
          (fits_at 3 (parameters_of directive.BazelDep) values fit) some);
    })))))
    (λ _. begun_keeps reader kept)

pub usage_keeps : (values : List Given) (line : ℕ) (reader : Reader)
    → AllFit (parameters_of directive.UseExtension) values
    → IsKept reader
    → KeptBy (usage_declared values line reader)
unfolding usage_declared parameters_of
usage_keeps values line reader fit kept =
    cond_both (counts reader.role (given_flag 2 values)) _ _ KeptBy
    (λ _. part_pushed reader (part.Usage (usage_of values line)) kept
    (record {
      exported =
          exported (given_text 1 values)
          (text_there (text.Name names.Exported) (slice_get values 1) (fits_at 1 (parameters_of directive.UseExtension) values fit));
      tags = All-nil _;
      imports = All-nil _;
      changes = All-nil _;
    }))
    (λ _. begun_keeps reader kept)

pub rule_keeps : (values : List Given) (reader : Reader)
    → IsKept reader
    → KeptBy (rule_declared values reader)
unfolding rule_declared
rule_keeps values reader kept =
    record { declared = kept.declared; nothing_overridden = λ e. absurd (cc e) }

with_names_keep : (usage : Option ℕ) (for : Purpose) (line : ℕ) (pairs : List NamePair)
    (reader : Reader)
    → All IsPair pairs
    → IsKept reader
    → IsKept (with_names usage for line pairs reader)
with_names_keep None for line pairs reader good kept = begun_keeps reader kept
with_names_keep (Some index) for line pairs reader good kept =
    parts_keep reader (names_added index for line pairs reader.parts) kept
    (names_added_keep index for line pairs reader.parts good kept.declared.declared.parts)

pub names_keep : (for : Purpose) (usage : Option ℕ) (line : ℕ) (pairs : List NamePair)
    (reader : Reader)
    → All IsPair pairs
    → IsKept reader
    → IsKept (names_declared for usage line pairs reader)
names_keep purpose.Import usage line pairs reader good kept =
    with_names_keep usage purpose.Import line pairs reader good kept
names_keep (purpose.Change inject) usage line pairs reader good kept =
    cond_both (counts_dev reader.role) _ _ IsKept
    (λ _. with_names_keep usage (purpose.Change inject) line pairs reader good kept)
    (λ _. begun_keeps reader kept)

pub tag_keeps : (usage : Option ℕ) (class : List ℕ) (attrs : List Named) (line : ℕ)
    (reader : Reader)
    → is_identifier class ≡ true
    → AttrsFit [] attrs
    → IsKept reader
    → IsKept (tag_declared usage class attrs line reader)
tag_keeps None class attrs line reader named good kept = begun_keeps reader kept
tag_keeps (Some index) class attrs line reader named good kept =
    parts_keep reader
    (part_added index
    (addition.Tag (record { class = class; attrs = attrs; dev = false; line = line })) reader.parts)
    kept
    (part_added_keeps index
    (addition.Tag (record { class = class; attrs = attrs; dev = false; line = line })) reader.parts
    (record {
      class_named = named;
      attributes = record { good = good.good; differ = good.differ };
    }) kept.declared.declared.parts)

name_is_parameter : is_parameter repository_parameters (codes "name") ≡ true
unfolding repository_parameters name_text
name_is_parameter = refl

other_names : (attrs : List Named)
    → AttrsFit repository_parameters attrs
    → All (λ other. codes "name" ≢ other.name) attrs
other_names attrs good =
    λ k d within same.
    absurd (cc (sym (ap (is_parameter repository_parameters) (sym same) ∙ name_is_parameter)
    ∙ good.no_parameters k d within))

pub repository_keeps : (rule : Option RepoRule) (values : List Given) (attrs : List Named) (line : ℕ)
    (reader : Reader)
    → AttrsFit repository_parameters attrs
    → IsKept reader
    → IsKept (repository_declared rule values attrs line reader)
unfolding repository_declared
repository_keeps rule values attrs line reader good kept =
    let first : Named = record { name = codes "name"; value = plain.Text (given_text 0 values) } in
    cond_both (counts reader.role (given_flag 1 values)) _ _ IsKept
    (λ _. part_pushed reader (part.Declared (declared_of rule values attrs line)) kept
    (record {
      good =
          All-cons IsGoodAttr first attrs
          (good-Text (given_text 0 values), omega (arith, depth-Text (given_text 0 values)))
          good.good;
      differ =
          AllPairs-cons (λ (one other : Named). one.name ≢ other.name) first attrs
          (other_names attrs good) good.differ;
    }))
    (λ _. begun_keeps reader kept)

not_overridden : (name : List ℕ) (overrides : List Override)
    → is_overridden name overrides ≡ false
    → (k : ℕ) (d : Override)
    → k < length overrides
    → (get_or overrides k d).name ≢ name
not_overridden name overrides none k d within =
    unequal (get_or overrides k d).name name
    (false_from_ne_true (bytes_eq (get_or overrides k d).name name)
    (λ is. cc (sym (list_any_at (λ (one : Override). bytes_eq one.name name) overrides k d within is)
    ∙ none)))

pub override_keeps : (name : List ℕ) (one : OverrideKind) (line : ℕ) (reader : Reader)
    → is_module_name name ≡ true
    → IsOverrideKind one
    → IsKept reader
    → KeptBy (override_declared name one line reader)
unfolding override_declared
override_keeps name one line reader named good kept =
    let new : Override = record { name = name; kind = one; line = line } in
    cond_both (not (is_root reader.role)) _ _ KeptBy (λ _. begun_keeps reader kept)
    (λ _. cond_both (bytes_eq name reader.name) _ _ KeptBy (λ _. tt)
    (λ other. cond_both (is_overridden name reader.overrides) _ _ KeptBy (λ _. tt)
    (λ none. overrides_keep reader (reader.overrides ++ new ∷ []) kept
    (All-append (IsOverrideOf reader.name) reader.overrides (new ∷ []) kept.declared.overrides
    (single (IsOverrideOf reader.name) new
    (record {
      module_named = named;
      other_module = unequal name reader.name other;
      kind = good;
    })))
    (all_pairs_push (λ (first second : Override). first.name ≢ second.name) reader.overrides new
    kept.declared.override_once (not_overridden name reader.overrides none)))))

-- the module that an override names first
first_name : (values : List Given)
    → FitsGiven (kind.Text (text.Name names.Module)) (slice_get values 0)
    → is_module_name (given_text 0 values) ≡ true
first_name values fit =
    module_name (given_text 0 values)
    (text_there (text.Name names.Module) (slice_get values 0) fit)

pub single_keeps : (values : List Given) (line : ℕ) (reader : Reader)
    → AllFit (parameters_of directive.SingleVersionOverride) values
    → IsKept reader
    → KeptBy (override_declared (given_text 0 values) (single_kind values) line reader)
unfolding parameters_of
single_keeps values line reader fit kept =
    override_keeps (given_text 0 values) (single_kind values) line reader
    (first_name values (fits_at 0 (parameters_of directive.SingleVersionOverride) values fit)) (
      text_there text.Version (slice_get values 1) (fits_at 1 (parameters_of directive.SingleVersionOverride) values fit),
      text_there text.Registry (slice_get values 2) (fits_at 2 (parameters_of directive.SingleVersionOverride) values fit),
    ) kept

pub multiple_keeps : (values : List Given) (line : ℕ) (reader : Reader)
    → AllFit (parameters_of directive.MultipleVersionOverride) values
    → IsKept reader
    → KeptBy (override_declared (given_text 0 values) (multiple_kind values) line reader)
unfolding parameters_of
multiple_keeps values line reader fit kept =
    let versions : AreVersions (given_texts 1 values) =
    versions_there (slice_get values 1) (fits_at 1 (parameters_of directive.MultipleVersionOverride) values fit) in
    override_keeps (given_text 0 values) (multiple_kind values) line reader
    (first_name values (fits_at 0 (parameters_of directive.MultipleVersionOverride) values fit)) (
      versions.0,
      versions.1,
      text_there text.Registry (slice_get values 2) (fits_at 2 (parameters_of directive.MultipleVersionOverride) values fit),
    ) kept

pub local_keeps : (values : List Given) (line : ℕ) (reader : Reader)
    → AllFit (parameters_of directive.LocalPathOverride) values
    → IsKept reader
    → KeptBy (override_declared (given_text 0 values) (local_kind values) line reader)
unfolding parameters_of
local_keeps values line reader fit kept =
    override_keeps (given_text 0 values) (local_kind values) line reader
    (first_name values (fits_at 0 (parameters_of directive.LocalPathOverride) values fit))
    (text_there text.Path (slice_get values 1) (fits_at 1 (parameters_of directive.LocalPathOverride) values fit)) kept

pub archive_name : (values : List Given)
    → AllFit (parameters_of directive.ArchiveOverride) values
    → is_module_name (given_text 0 values) ≡ true
unfolding parameters_of
archive_name values fit = first_name values (fits_at 0 (parameters_of directive.ArchiveOverride) values fit)

pub git_name : (values : List Given)
    → AllFit (parameters_of directive.GitOverride) values
    → is_module_name (given_text 0 values) ≡ true
unfolding parameters_of
git_name values fit = first_name values (fits_at 0 (parameters_of directive.GitOverride) values fit)

-- What a parameter is given fits its kind.
use Rattle.std.proofs.Common.{◌≡◌, ◌≢◌, ℕ, ◌+◌, suc, ℤ, pos, negsuc, Bool, true, false}
use Rattle.std.proofs.Common.{not}
use Rattle.std.proofs.Common.{◌||◌, List, [], ◌∷◌, ◌++◌, Option, Some, None, Result, Ok}
use Rattle.std.proofs.Common.{Err}
use Rattle.std.proofs.Common.{IfOk, refl, ap, ◌∙◌, sym, subst, arith, nat_lt, ◌⊎◌, inl}
use Rattle.std.proofs.Common.{inr, bytes_eq, append-nil}
use Rattle.std.proofs.lemmas.Bool.{and_parts, cond_both, ltb-false, or_cases}
use Rattle.std.proofs.lemmas.List.{append_assoc}
use Rattle.std.proofs.lemmas.List.Elements.{All-append, All-cons, All-nil}
use Rattle.std.proofs.lemmas.List.Folds.{Any-from_list_any}
use Rattle.std.proofs.Math.Dec.{eqb-suc-zero}
use Rattle.std.proofs.lemmas.Cmp.{nat_list_eq_equiv}
use Rattle.std.specs.Prelude.{All, Any, IsOk, ⊤, length}
use Rattle.bz_base.specs.ModuleDeclarations.{IsRegistryOrNone, IsVersionText}
use Rattle.bz_base.specs.Paths.{joined}
use Rattle.bz_base.specs.declared.tree_path.BadPath.{BadPath}
use Rattle.bz_version.proofs.Readings.{kept_is_read_again}
use Rattle.bz_version.specs.Scan.{version_of}
use Rattle.bz_version.specs.declared.versions.BadVersion.{BadVersion}
use Rattle.registry_index.proofs.RegistryForms.{is_registry-IsRegistry}
use Rattle.registry_index.specs.Registries.{is_registry}
use Rattle.module_arguments.specs.Arguments.{argument_of, by_name, by_place, each_fits, either}
use Rattle.module_arguments.specs.Arguments.{fits}
use Rattle.module_arguments.specs.GivenValues.{ReadGiven, and_given, and_version, default_of}
use Rattle.module_arguments.specs.GivenValues.{each_given, enough, given_after, given_by, is_empty}
use Rattle.module_arguments.specs.GivenValues.{is_name, level_of, level_read, path_given}
use Rattle.module_arguments.specs.GivenValues.{some_differ, string_given, text_given, text_read}
use Rattle.module_arguments.specs.GivenValues.{value_given, version_kept, version_read}
use Rattle.module_arguments.specs.GivenValues.{flag_given, integer_given, maximum_given}
use Rattle.module_arguments.specs.GivenValues.{proxy_given}
use Rattle.module_arguments.specs.GivenValues.{texts_given, unset_given, versions_after}
use Rattle.module_arguments.specs.GivenValues.{versions_given}
use Rattle.module_arguments.specs.Objects.{object_in}
use Rattle.module_arguments.specs.declared.given_values.Given.{Given}
use Rattle.module_arguments.specs.declared.given_values.Given.TheVariants as given
use Rattle.module_arguments.specs.declared.objections.Objection.{Objection}
use Rattle.module_arguments.specs.declared.parameters.Kind.{Kind}
use Rattle.module_arguments.specs.declared.parameters.Kind.TheVariants as kind
use Rattle.module_arguments.specs.declared.parameters.Parameter.{Parameter}
use Rattle.module_arguments.specs.declared.parameters.ParameterName.{ParameterName}
use Rattle.module_arguments.specs.declared.parameters.TextKind.{TextKind}
use Rattle.module_arguments.specs.declared.parameters.TextKind.TheVariants as text
use Rattle.module_laws.specs.Fits.{AllFit, Fits, IsLevel, IsText}
use Rattle.module_laws.specs.Fits.{IsTextOrNone, IsVersions}
use Rattle.module_values.specs.TextLists.{text_at, texts_of}
use Rattle.star_core.specs.Heaps.{HeapState, cell_at}
use Rattle.star_core.specs.declared.values.Args.{Args}
use Rattle.star_core.specs.declared.values.Val.{Val}
use Rattle.star_core.specs.declared.values.Val.TheVariants as val

-- ---- texts

read_again : (value : List ℕ) (r : Result (List ℕ) BadVersion)
    → version_of value ≡ r
    → IfOk (version_read r value) IsVersionText
read_again value (Ok kept) is = kept_is_read_again value kept is
read_again value (Err fault) is = tt

version_fits : (value : List ℕ) → IfOk (version_kept value) IsVersionText
version_fits value = read_again value (version_of value) refl

version_text : (r : Result (List ℕ) Objection)
    → IfOk r IsVersionText
    → IfOk (text_given r) (IsText text.Version)
version_text (Ok value) h = h
version_text (Err reason) h = tt

pub empty_text : (value : List ℕ) → is_empty value ≡ true → value ≡ []
empty_text [] is = refl
empty_text (b ∷ rest) is = absurd (cc (sym (eqb-suc-zero (length rest)) ∙ is))

registry_or_none : (value : List ℕ)
    → (is_empty value || is_registry value) ≡ true
    → IsRegistryOrNone value
registry_or_none value good = by (or_cases (is_empty value) (is_registry value) good)
  where
    by : (is_empty value ≡ true) ⊎ (is_registry value ≡ true) → IsRegistryOrNone value
    by (inl none) = inl (empty_text value none)
    by (inr some) = inr ((is_registry-IsRegistry value).0 some)

path_fits : (called : ParameterName) (value : List ℕ) (r : Result (List ℕ) BadPath)
    → joined [] value ≡ r
    → IfOk (path_given called r value) (IsText text.Path)
path_fits called value (Ok path) is = subst IsOk (sym is) refl
path_fits called value (Err bad) is = tt

text_fits : (called : ParameterName) (texts : TextKind) (value : List ℕ)
    → IfOk (text_read called texts value) (IsText texts)
unfolding text_read
text_fits called text.Any value = tt
text_fits called (text.Name names) value =
    cond_both (is_name names value) _ _ (λ (r : ReadGiven). IfOk r (IsText (text.Name names)))
    (λ good. good) (λ _. tt)
text_fits called text.Version value = version_text (version_kept value) (version_fits value)
text_fits called text.Registry value =
    cond_both (is_empty value || is_registry value) _ _
    (λ (r : ReadGiven). IfOk r (IsText text.Registry)) (λ good. registry_or_none value good)
    (λ _. tt)
text_fits called text.Path value = path_fits called value (joined [] value) refl

string_fits : (called : ParameterName) (texts : TextKind) (value : Option (List ℕ))
    → IfOk (string_given called texts value) (IsText texts)
string_fits called texts None = tt
string_fits called texts (Some value) = text_fits called texts value

or_none : (texts : TextKind) (r : ReadGiven) → IfOk r (IsText texts) → IfOk r (IsTextOrNone texts)
or_none texts (Err reason) h = tt
or_none texts (Ok (given.Text value)) h = h
or_none texts (Ok (given.Texts values)) h = absurd h
or_none texts (Ok (given.Flag flag)) h = absurd h
or_none texts (Ok (given.Level level)) h = absurd h
or_none texts (Ok (given.Proxy usage)) h = absurd h
or_none texts (Ok given.Nothing) h = absurd h

-- ---- versions

one_more : (versions : List (List ℕ)) (r : Result (List ℕ) Objection) (texts : List (List ℕ))
    → All IsVersionText versions
    → IfOk r IsVersionText
    → ((longer : List (List ℕ))
    → All IsVersionText longer
    → IfOk (versions_after (Ok longer) texts) (All IsVersionText))
    → IfOk (versions_after (and_version versions r) texts) (All IsVersionText)
one_more versions (Err reason) texts all one more = tt
one_more versions (Ok version) texts all one more =
    more (versions ++ version ∷ [])
    (All-append IsVersionText versions (version ∷ []) all
    (All-cons IsVersionText version [] one (All-nil IsVersionText)))

versions_fit : (versions texts : List (List ℕ))
    → All IsVersionText versions
    → IfOk (versions_after (Ok versions) texts) (All IsVersionText)
versions_fit versions [] all = all
versions_fit versions (one ∷ texts) all =
    one_more versions (version_kept one) texts all (version_fits one)
    (λ longer good. versions_fit longer texts good)

another : (version other : List ℕ) → not (bytes_eq other version) ≡ true → version ≢ other
another version other differ same =
    absurd (cc (sym (ap (λ one. not (bytes_eq other one)) same ∙ ap not (itself other)) ∙ differ))
  where
    itself : (one : List ℕ) → bytes_eq one one ≡ true
    itself one = nat_list_eq_equiv.refl one

some_other : (versions : List (List ℕ))
    → some_differ versions ≡ true
    → Any (λ one. Any (λ other. one ≢ other) versions) versions
some_other [] differ = absurd (cc differ)
some_other (version ∷ versions) differ =
    let found : Any (λ other. not (bytes_eq other version) ≡ true) versions =
    Any-from_list_any (λ other. not (bytes_eq other version)) versions differ in
    let inside : Any (λ other. version ≢ other) (version ∷ versions) =
    (suc found.0, found.1, omega (arith, found.2), found.3, another version found.1 found.4) in
    (0, version, omega arith, refl, inside)

enough_fits : (before : List Given) (r : Result (List (List ℕ)) Objection)
    → IfOk r (All IsVersionText)
    → IfOk (enough before r) IsVersions
enough_fits before (Err reason) h = tt
enough_fits before (Ok versions) h =
    cond_both (some_differ versions) _ _ (λ (r : ReadGiven). IfOk r IsVersions)
    (λ differ. (h, some_other versions differ)) (λ _. tt)

list_fits : (called : ParameterName) (before : List Given) (texts : Option (List (List ℕ)))
    → IfOk (versions_given called before texts) IsVersions
list_fits called before None = tt
list_fits called before (Some texts) =
    enough_fits before (versions_after (Ok []) texts)
    (versions_fit [] texts (All-nil IsVersionText))

-- ---- levels

level_fits : (called : ParameterName) (number : ℤ)
    → IfOk (level_read called (level_of number)) IsLevel
level_fits called (negsuc n) = tt
level_fits called (pos n) =
    cond_both (nat_lt 2147483647 n) _ _ (λ (o : Option ℕ). IfOk (level_read called o) IsLevel)
    (λ _. tt) (λ small. ltb-false 2147483647 n small)

-- ---- all kinds

anything : (r : ReadGiven) → IfOk r (λ (one : Given). ⊤)
anything (Ok one) = tt
anything (Err reason) = tt

value_fits : (one : Kind) (called : ParameterName) (before : List Given) (heap : HeapState)
    (value : Val)
    → IfOk (value_given one called before heap value) (Fits one)
unfolding value_given
value_fits (kind.Text texts) called before heap value =
    string_fits called texts (text_at heap value)
value_fits (kind.TextOrNone texts) called before heap val.None = tt
value_fits (kind.TextOrNone texts) called before heap (val.Bool flag) =
    or_none texts (string_given called texts (text_at heap (val.Bool flag)))
    (string_fits called texts (text_at heap (val.Bool flag)))
value_fits (kind.TextOrNone texts) called before heap (val.Int number) =
    or_none texts (string_given called texts (text_at heap (val.Int number)))
    (string_fits called texts (text_at heap (val.Int number)))
value_fits (kind.TextOrNone texts) called before heap (val.Cell number) =
    or_none texts (string_given called texts (text_at heap (val.Cell number)))
    (string_fits called texts (text_at heap (val.Cell number)))
value_fits kind.Versions called before heap value = list_fits called before (texts_of heap value)
value_fits kind.Level called before heap val.None = tt
value_fits kind.Level called before heap (val.Bool flag) = tt
value_fits kind.Level called before heap (val.Int number) = level_fits called number
value_fits kind.Level called before heap (val.Cell number) = tt
value_fits kind.Texts called before heap value = anything (texts_given called (texts_of heap value))
value_fits kind.Flag called before heap value = anything (flag_given called value)
value_fits kind.Unset called before heap value = anything (unset_given called value)
value_fits kind.NoMaximum called before heap value = anything (maximum_given called value)
value_fits kind.Integer called before heap value = anything (integer_given called value)
value_fits kind.Proxy called before heap value = anything (proxy_given called (object_in (cell_at heap value)))

-- ---- all parameters

-- what a parameter is given that may be left out fits it too
abbrev pub DefaultsFit : List Parameter → Type 0
DefaultsFit [] = ⊤
DefaultsFit (parameter ∷ parameters) =
    (parameter.needed ≡ false → Fits parameter.kind (default_of parameter.kind))
    × DefaultsFit parameters

not_needed : (needed : Bool) → not needed ≡ true → needed ≡ false
not_needed true is = absurd (cc is)
not_needed false is = refl

given_fits : (parameter : Parameter) (before : List Given) (heap : HeapState)
    (place named : Option Val)
    → fits parameter.needed place named ≡ true
    → (parameter.needed ≡ false → Fits parameter.kind (default_of parameter.kind))
    → IfOk (given_by parameter before heap (either place named)) (Fits parameter.kind)
given_fits parameter before heap (Some value) named fit default =
    value_fits parameter.kind parameter.name before heap value
given_fits parameter before heap None (Some value) fit default =
    value_fits parameter.kind parameter.name before heap value
given_fits parameter before heap None None fit default =
    default (not_needed parameter.needed fit)

-- what is given behind others
abbrev Behind : List Given → List Parameter → List Given → Type 0
Behind before parameters all =
    (values : List Given) × (all ≡ before ++ values) × AllFit parameters values

longer : (before : List Given) (parameter : Parameter) (parameters : List Parameter) (one : Given)
    (r : Result (List Given) Objection)
    → Fits parameter.kind one
    → IfOk r (Behind (before ++ one ∷ []) parameters)
    → IfOk r (Behind before (parameter ∷ parameters))
longer before parameter parameters one (Err reason) fit h = tt
longer before parameter parameters one (Ok all) fit h =
    (one ∷ h.0, h.1 ∙ append_assoc before (one ∷ []) h.0, (fit, h.2))

next : (index : ℕ) (heap : HeapState) (args : Args) (before : List Given) (parameter : Parameter)
    (parameters : List Parameter) (r : ReadGiven)
    → IfOk r (Fits parameter.kind)
    → ((one : Given)
    → IfOk (given_after index heap args (Ok (before ++ one ∷ [])) parameters)
    (Behind (before ++ one ∷ []) parameters))
    → IfOk (given_after index heap args (and_given before r) parameters)
    (Behind before (parameter ∷ parameters))
next index heap args before parameter parameters (Err reason) fit more = tt
next index heap args before parameter parameters (Ok one) fit more =
    longer before parameter parameters one _ fit (more one)

after_fits : (index : ℕ) (heap : HeapState) (args : Args) (before : List Given)
    (parameters : List Parameter)
    → each_fits index parameters args ≡ true
    → DefaultsFit parameters
    → IfOk (given_after index heap args (Ok before) parameters) (Behind before parameters)
after_fits index heap args before [] fit defaults = ([], sym (append-nil before), tt)
after_fits index heap args before (parameter ∷ parameters) fit defaults =
    let parts : (fits parameter.needed (by_place index parameter args.positional)
    (by_name parameter args.named) ≡ true)
    × (each_fits (index + 1) parameters args ≡ true) = and_parts _ _ fit in
    next (index + 1) heap args before parameter parameters
    (given_by parameter before heap (argument_of index parameter args))
    (given_fits parameter before heap (by_place index parameter args.positional)
    (by_name parameter args.named) parts.0 defaults.0)
    (λ one. after_fits (index + 1) heap args (before ++ one ∷ []) parameters parts.1 defaults.1)

alone : (parameters : List Parameter) (r : Result (List Given) Objection)
    → IfOk r (Behind [] parameters)
    → IfOk r (AllFit parameters)
alone parameters (Err reason) h = tt
alone parameters (Ok all) h = subst (AllFit parameters) (sym h.1) h.2

-- what each parameter is given fits it
pub each_given_fits : (parameters : List Parameter) (heap : HeapState) (args : Args)
    → each_fits 0 parameters args ≡ true
    → DefaultsFit parameters
    → IfOk (each_given parameters heap args) (AllFit parameters)
each_given_fits parameters heap args fit defaults =
    alone parameters _ (after_fits 0 heap args [] parameters fit defaults)

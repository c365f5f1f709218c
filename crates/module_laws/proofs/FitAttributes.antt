-- Attributes of a call are good, and their names differ.
use Rattle.std.proofs.Common.{◌≡◌, ◌≢◌, ℕ, ◌≤◌, Bool, true, false, not, List, []}
use Rattle.std.proofs.Common.{◌∷◌}
use Rattle.std.proofs.Common.{◌++◌, Result, Ok, Err, IfOk, IsTrue, refl, ap, ◌∙◌, sym, bytes_eq}
use Rattle.std.proofs.Common.{get_or, arith}
use Rattle.std.proofs.lemmas.Bool.{and_parts, cond_both, or_parts}
use Rattle.std.proofs.lemmas.Cmp.{nat_list_eq_equiv}
use Rattle.std.proofs.lemmas.List.Elements.{All-append, All-cons, All-nil}
use Rattle.std.proofs.lemmas.List.Quantifiers.{all_pairs_push}
use Rattle.std.specs.Prelude.{All, AllPairs}
use Rattle.std.specs.List.{list_any}
use Rattle.bz_base.specs.PlainReading.{is_good, plain_depth}
use Rattle.bz_base.specs.declared.plain_labels.NotPlain.{NotPlain}
use Rattle.bz_base.specs.declared.plain_values.Named.{Named}
use Rattle.bz_base.specs.declared.plain_values.Plain.{Plain}
use Rattle.module_arguments.specs.Arguments.{is_parameter, names_differ}
use Rattle.module_arguments.specs.Attributes.{and_attribute, attribute_of, attributes_after}
use Rattle.module_arguments.specs.Attributes.{attributes_in}
use Rattle.module_arguments.specs.declared.objections.Objection.{Objection}
use Rattle.module_arguments.specs.declared.parameters.Parameter.{Parameter}
use Rattle.module_values.proofs.GoodValues.{plain_is_good}
use Rattle.module_values.specs.PlainValues.{plain_of}
use Rattle.star_core.specs.Heaps.{HeapState}
use Rattle.star_core.specs.declared.values.NamedVal.{NamedVal}

-- an attribute is good, and its name is that of no parameter
abbrev pub IsGoodAttr : Named → Type 0
IsGoodAttr attr = IsTrue (is_good attr.value) × (plain_depth attr.value ≤ 16)

-- none of the further arguments has the attribute's name
abbrev IsApart : List NamedVal → Named → Type 0
IsApart named attr = list_any (λ other. bytes_eq other.name attr.name) named ≡ false

abbrev IsNoParameter : List Parameter → Named → Type 0
IsNoParameter parameters attr = is_parameter parameters attr.name ≡ false

abbrev Differ : Named → Named → Type 0
Differ one other = one.name ≢ other.name

-- what is known of the attributes so far, before further arguments
record Known (parameters : List Parameter) (attrs : List Named) (named : List NamedVal) : Type 0 where
  pub good : All IsGoodAttr attrs
  pub differ : AllPairs Differ attrs
  pub apart : All (IsApart named) attrs
  pub no_parameters : All (IsNoParameter parameters) attrs

-- what is known in the end
pub record AttrsFit (parameters : List Parameter) (attrs : List Named) : Type 0 where
  pub good : All IsGoodAttr attrs
  pub differ : AllPairs Differ attrs
  pub no_parameters : All (IsNoParameter parameters) attrs

unequal : (one other : List ℕ) → bytes_eq other one ≡ false → one ≢ other
unequal one other apart same =
    absurd (cc (sym (ap (bytes_eq other) same ∙ nat_list_eq_equiv.refl other) ∙ apart))

single : {X : Type 0} (P : X → Type 0) (x : X) → P x → All P (x ∷ [])
single P x h = All-cons P x [] h (All-nil P)

-- fewer arguments are apart too
fewer : (argument : NamedVal) (more : List NamedVal) (attrs : List Named)
    → All (IsApart (argument ∷ more)) attrs
    → All (IsApart more) attrs
fewer argument more attrs all =
    λ k d within.
    (or_parts (bytes_eq argument.name (get_or attrs k d).name)
    (list_any (λ other. bytes_eq other.name (get_or attrs k d).name) more) (all k d within)).1

known_fewer : (parameters : List Parameter) (argument : NamedVal) (more : List NamedVal)
    (attrs : List Named)
    → Known parameters attrs (argument ∷ more)
    → Known parameters attrs more
known_fewer parameters argument more attrs known =
    record {
      good = known.good;
      differ = known.differ;
      apart = fewer argument more attrs known.apart;
      no_parameters = known.no_parameters;
    }

known_more : (parameters : List Parameter) (argument : NamedVal) (more : List NamedVal)
    (attrs : List Named) (value : Plain)
    → Known parameters attrs (argument ∷ more)
    → IsTrue (is_good value) × (plain_depth value ≤ 16)
    → list_any (λ other. bytes_eq other.name argument.name) more ≡ false
    → is_parameter parameters argument.name ≡ false
    → Known parameters (attrs ++ record { name = argument.name; value = value } ∷ []) more
known_more parameters argument more attrs value known good apart none =
    let one : Named = record { name = argument.name; value = value } in
    record {
      good = All-append IsGoodAttr attrs (one ∷ []) known.good (single IsGoodAttr one good);
      differ =
          all_pairs_push Differ attrs one known.differ
          (λ k d within. unequal (get_or attrs k d).name argument.name
          (or_parts (bytes_eq argument.name (get_or attrs k d).name)
          (list_any (λ other. bytes_eq other.name (get_or attrs k d).name) more)
          (known.apart k d within)).0);
      apart =
          All-append (IsApart more) attrs (one ∷ []) (fewer argument more attrs known.apart)
          (single (IsApart more) one apart);
      no_parameters =
          All-append (IsNoParameter parameters) attrs (one ∷ []) known.no_parameters
          (single (IsNoParameter parameters) one none);
    }

not_true : (b : Bool) → not b ≡ true → b ≡ false
not_true true is = absurd (cc is)
not_true false is = refl

next_attribute : (heap : HeapState) (parameters : List Parameter) (attrs : List Named)
    (argument : NamedVal) (more : List NamedVal) (r : Result Plain NotPlain)
    → IfOk r (λ value. IsTrue (is_good value) × (plain_depth value ≤ 16))
    → ((value : Plain)
    → IsTrue (is_good value) × (plain_depth value ≤ 16)
    → IfOk (attributes_after heap parameters
    (Ok (attrs ++ record { name = argument.name; value = value } ∷ [])) more)
    (AttrsFit parameters))
    → IfOk (attributes_after heap parameters
    (and_attribute attrs (attribute_of argument.name r)) more) (AttrsFit parameters)
next_attribute heap parameters attrs argument more (Err bad) good further = tt
next_attribute heap parameters attrs argument more (Ok value) good further = further value good

after_fit : (heap : HeapState) (parameters : List Parameter) (attrs : List Named)
    (named : List NamedVal)
    → names_differ named ≡ true
    → Known parameters attrs named
    → IfOk (attributes_after heap parameters (Ok attrs) named) (AttrsFit parameters)
after_fit heap parameters attrs [] differ known =
    record {
      good = known.good;
      differ = known.differ;
      no_parameters = known.no_parameters;
    }
after_fit heap parameters attrs (argument ∷ more) differ known =
    let parts : (not (list_any (λ other. bytes_eq other.name argument.name) more) ≡ true)
    × (names_differ more ≡ true) = and_parts _ _ differ in
    cond_both (is_parameter parameters argument.name) _ _
    (λ (r : Result (List Named) Objection).
    IfOk (attributes_after heap parameters r more) (AttrsFit parameters))
    (λ _. after_fit heap parameters attrs more parts.1
    (known_fewer parameters argument more attrs known))
    (λ none. next_attribute heap parameters attrs argument more (plain_of heap argument.val)
    (plain_is_good heap argument.val)
    (λ value good. after_fit heap parameters
    (attrs ++ record { name = argument.name; value = value } ∷ []) more parts.1
    (known_more parameters argument more attrs value known good
    (not_true (list_any (λ other. bytes_eq other.name argument.name) more) parts.0) none)))

-- the attributes of a call
pub attributes_fit : (heap : HeapState) (parameters : List Parameter) (named : List NamedVal)
    → names_differ named ≡ true
    → IfOk (attributes_in heap parameters named) (AttrsFit parameters)
attributes_fit heap parameters named differ =
    after_fit heap parameters [] named differ
    (record {
      good = All-nil IsGoodAttr;
      differ = λ i j d before within. absurd (omega (arith, within));
      apart = All-nil (IsApart named);
      no_parameters = All-nil (IsNoParameter parameters);
    })

-- What is read to its end is spelled as a version.
use Rattle.std.proofs.Common.{◌≡◌, ℕ, ◌==◌, Bool, true, List, [], ◌∷◌, ◌++◌, refl, sym, ap, ◌∙◌}
use Rattle.std.proofs.Common.{append_assoc, ◌⊎◌, inl, inr}
use Rattle.std.proofs.lemmas.Bool.{cases_Bool, eqb-true}
use Rattle.std.specs.Char.{is_ascii_alphanumeric}
use Rattle.std.specs.List.{AllByRecursion, flat_map}
use Rattle.bz_version.proofs.Runs.{finishes}
use Rattle.bz_version.specs.Grammar.{IsIdentifier, IsVersion, is_build_byte, is_prerelease_byte}
use Rattle.bz_version.specs.Texts.{dash, dot, dotted, marked, plus}
use Rattle.bz_version.specs.declared.scanner.Place.{Place}
use Rattle.bz_version.specs.declared.scanner.Place.TheVariants.{Start, ReleaseFirst, Release}
use Rattle.bz_version.specs.declared.scanner.Place.TheVariants.{PrereleaseFirst, Prerelease}
use Rattle.bz_version.specs.declared.scanner.Place.TheVariants.{BuildFirst, Build}

abbrev AllBytes : (ℕ → Bool) → List ℕ → Type 0
AllBytes may text = AllByRecursion (λ b. may b ≡ true) text

-- the further identifiers of a part, each behind its dot
abbrev further : List (List ℕ) → List ℕ
further others = flat_map (λ y. dot ∷ y) others

-- what is left inside PRERELEASE: bytes of the identifier, further identifiers and BUILD
record PrereleaseRest (First : List ℕ → Type 0) (text : List ℕ) : Type 0 where
  bytes : List ℕ
  others : List (List ℕ)
  build : List ℕ
  first : First bytes
  identifiers : AllByRecursion (IsIdentifier is_prerelease_byte) others
  build_bytes : AllBytes is_build_byte build
  spelled : text ≡ bytes ++ (further others ++ marked plus build)

-- what is left inside RELEASE: the same, with PRERELEASE before BUILD
record ReleaseRest (First : List ℕ → Type 0) (text : List ℕ) : Type 0 where
  bytes : List ℕ
  others : List (List ℕ)
  prerelease : List (List ℕ)
  build : List ℕ
  first : First bytes
  identifiers : AllByRecursion (IsIdentifier is_ascii_alphanumeric) others
  prerelease_identifiers : AllByRecursion (IsIdentifier is_prerelease_byte) prerelease
  build_bytes : AllBytes is_build_byte build
  spelled : text ≡ bytes
      ++ (further others ++ (marked dash (dotted prerelease) ++ marked plus build))

-- BUILD behind its mark
build_marked : (b : ℕ) (rest : List ℕ)
    → (b == plus) ≡ true
    → IsIdentifier is_build_byte rest
    → b ∷ rest ≡ marked plus rest
build_marked b [] mark f = absurd f
build_marked b (c ∷ rest) mark f = ap (λ (m : ℕ). m ∷ c ∷ rest) (eqb-true b plus mark)

-- one or more bytes are bytes
bytes_of : (may : ℕ → Bool) (text : List ℕ) → IsIdentifier may text → AllBytes may text
bytes_of may [] f = tt
bytes_of may (b ∷ rest) f = f

prerelease_end : PrereleaseRest (AllBytes is_prerelease_byte) []
prerelease_end = record {
  bytes = [];
  others = [];
  build = [];
  first = tt;
  identifiers = tt;
  build_bytes = tt;
  spelled =
      refl;
}

prerelease_build : (b : ℕ) (rest : List ℕ)
    → (b == plus) ≡ true
    → IsIdentifier is_build_byte rest
    → PrereleaseRest (AllBytes is_prerelease_byte) (b ∷ rest)
prerelease_build b rest mark f =
    record {
      bytes = [];
      others = [];
      build = rest;
      first = tt;
      identifiers = tt;
      build_bytes =
          bytes_of is_build_byte rest f;
      spelled = build_marked b rest mark f;
    }

prerelease_dot : (b : ℕ) (rest : List ℕ)
    → (b == dot) ≡ true
    → PrereleaseRest (IsIdentifier is_prerelease_byte) rest
    → PrereleaseRest (AllBytes is_prerelease_byte) (b ∷ rest)
prerelease_dot b rest mark r = record {
  bytes = [];
  others = r.bytes ∷ r.others;
  build = r.build;
  first = tt;
  identifiers = (r.first, r.identifiers);
  build_bytes = r.build_bytes;
  spelled = rw (eqb-true b dot mark, append_assoc r.bytes (further r.others) (marked plus r.build))
      (ap (λ (l : List ℕ). dot ∷ l) r.spelled);
}

release_end : ReleaseRest (AllBytes is_ascii_alphanumeric) []
release_end = record {
  bytes = [];
  others = [];
  prerelease = [];
  build = [];
  first = tt;
  identifiers = tt;
  prerelease_identifiers = tt;
  build_bytes = tt;
  spelled = refl;
}

release_build : (b : ℕ) (rest : List ℕ)
    → (b == plus) ≡ true
    → IsIdentifier is_build_byte rest
    → ReleaseRest (AllBytes is_ascii_alphanumeric) (b ∷ rest)
release_build b rest mark f =
    record {
      bytes = [];
      others = [];
      prerelease = [];
      build = rest;
      first = tt;
      identifiers = tt;
      prerelease_identifiers = tt;
      build_bytes = bytes_of is_build_byte rest f;
      spelled =
          build_marked b rest mark f;
    }

-- PRERELEASE behind its mark
prerelease_marked : (b : ℕ) (bytes : List ℕ) (others : List (List ℕ))
    → (b == dash) ≡ true
    → IsIdentifier is_prerelease_byte bytes
    → b ∷ bytes ++ further others ≡ marked dash (dotted (bytes ∷ others))
prerelease_marked b [] others mark f = absurd f
prerelease_marked b (c ∷ bytes) others mark f = ap (λ (m : ℕ). m ∷ c ∷ bytes ++ further others)
    (eqb-true b dash mark)

release_dash : (b : ℕ) (rest : List ℕ)
    → (b == dash) ≡ true
    → PrereleaseRest (IsIdentifier is_prerelease_byte) rest
    → ReleaseRest (AllBytes is_ascii_alphanumeric) (b ∷ rest)
release_dash b rest mark r = record {
  bytes = [];
  others = [];
  prerelease = r.bytes ∷ r.others;
  build = r.build;
  first = tt;
  identifiers = tt;
  prerelease_identifiers = (r.first, r.identifiers);
  build_bytes = r.build_bytes;
  spelled =
      ap (λ (l : List ℕ). b ∷ l)
      (r.spelled ∙ sym (append_assoc r.bytes (further r.others) (marked plus r.build)))
      ∙ ap (λ (l : List ℕ). l ++ marked plus r.build)
      (prerelease_marked b r.bytes r.others mark r.first);
}

release_dot : (b : ℕ) (rest : List ℕ)
    → (b == dot) ≡ true
    → ReleaseRest (IsIdentifier is_ascii_alphanumeric) rest
    → ReleaseRest (AllBytes is_ascii_alphanumeric) (b ∷ rest)
release_dot b rest mark r = record {
  bytes = [];
  others = r.bytes ∷ r.others;
  prerelease = r.prerelease;
  build = r.build;
  first = tt;
  identifiers = (r.first, r.identifiers);
  prerelease_identifiers = r.prerelease_identifiers;
  build_bytes = r.build_bytes;
  spelled = rw (
    eqb-true b dot mark,
    append_assoc r.bytes (further r.others) (marked dash (dotted
        r.prerelease) ++ marked plus r.build),
  ) (ap (λ (l : List ℕ). dot ∷ l) r.spelled);
}

-- one more byte of an identifier
prerelease_byte : (First : List ℕ → Type 0) (b : ℕ) (rest : List ℕ)
    → ((bytes : List ℕ) → AllBytes is_prerelease_byte bytes → First (b ∷ bytes))
    → PrereleaseRest (AllBytes is_prerelease_byte) rest
    → PrereleaseRest First (b ∷ rest)
prerelease_byte First b rest begins r = record {
  bytes = b ∷ r.bytes;
  others = r.others;
  build = r.build;
  first = begins r.bytes r.first;
  identifiers = r.identifiers;
  build_bytes = r.build_bytes;
  spelled = ap (λ (l : List ℕ). b ∷ l) r.spelled;
}

release_byte : (First : List ℕ → Type 0) (b : ℕ) (rest : List ℕ)
    → ((bytes : List ℕ) → AllBytes is_ascii_alphanumeric bytes → First (b ∷ bytes))
    → ReleaseRest (AllBytes is_ascii_alphanumeric) rest
    → ReleaseRest First (b ∷ rest)
release_byte First b rest begins r = record {
  bytes = b ∷ r.bytes;
  others = r.others;
  prerelease = r.prerelease;
  build = r.build;
  first = begins r.bytes r.first;
  identifiers = r.identifiers;
  prerelease_identifiers = r.prerelease_identifiers;
  build_bytes = r.build_bytes;
  spelled = ap (λ (l : List ℕ). b ∷ l) r.spelled;
}

-- what is left at each place
abbrev Remains : Place → List ℕ → Type 0
Remains Start text = (text ≡ []) ⊎ ReleaseRest (IsIdentifier is_ascii_alphanumeric) text
Remains ReleaseFirst text = ReleaseRest (IsIdentifier is_ascii_alphanumeric) text
Remains Release text = ReleaseRest (AllBytes is_ascii_alphanumeric) text
Remains PrereleaseFirst text = PrereleaseRest (IsIdentifier is_prerelease_byte) text
Remains Prerelease text = PrereleaseRest (AllBytes is_prerelease_byte) text
Remains BuildFirst text = IsIdentifier is_build_byte text
Remains Build text = AllBytes is_build_byte text

remains : (text : List ℕ) (place : Place) → finishes place text ≡ true → Remains place text
remains [] Start f = inl refl
remains [] ReleaseFirst f = absurd (cc f)
remains [] Release f = release_end
remains [] PrereleaseFirst f = absurd (cc f)
remains [] Prerelease f = prerelease_end
remains [] BuildFirst f = absurd (cc f)
remains [] Build f = tt
remains (b ∷ rest) Start f = elim (cases_Bool (is_ascii_alphanumeric b)) [
  | inl fits ↦ inr (release_byte (IsIdentifier is_ascii_alphanumeric) b rest (λ bytes a. (fits, a))
      (remains rest Release (rw fits at f)))
  | inr other ↦ absurd (cc (rw other at f))
]
remains (b ∷ rest) ReleaseFirst f = elim (cases_Bool (is_ascii_alphanumeric b)) [
  | inl fits ↦ release_byte (IsIdentifier is_ascii_alphanumeric) b rest (λ bytes a. (fits, a))
      (remains rest Release (rw fits at f))
  | inr other ↦ absurd (cc (rw other at f))
]
remains (b ∷ rest) Release f = elim (cases_Bool (is_ascii_alphanumeric b)) [
  | inl fits ↦ release_byte (AllBytes is_ascii_alphanumeric) b rest (λ bytes a. (fits, a))
      (remains rest Release (rw fits at f))
  | inr other ↦ elim (cases_Bool (b == dot)) [
    | inl same ↦ release_dot b rest same (remains rest ReleaseFirst (rw (other, same) at f))
    | inr no_dot ↦ elim (cases_Bool (b == dash)) [
      | inl same ↦ release_dash b rest same
          (remains rest PrereleaseFirst (rw (other, no_dot, same) at f))
      | inr no_dash ↦ elim (cases_Bool (b == plus)) [
        | inl same ↦ release_build b rest same
            (remains rest BuildFirst (rw (other, no_dot, no_dash, same) at f))
        | inr no_plus ↦ absurd (cc (rw (other, no_dot, no_dash, no_plus) at f))
      ]
    ]
  ]
]
remains (b ∷ rest) PrereleaseFirst f = elim (cases_Bool (is_prerelease_byte b)) [
  | inl fits ↦ prerelease_byte (IsIdentifier is_prerelease_byte) b rest (λ bytes a. (fits, a))
      (remains rest Prerelease (rw fits at f))
  | inr other ↦ absurd (cc (rw other at f))
]
remains (b ∷ rest) Prerelease f = elim (cases_Bool (is_prerelease_byte b)) [
  | inl fits ↦ prerelease_byte (AllBytes is_prerelease_byte) b rest (λ bytes a. (fits, a))
      (remains rest Prerelease (rw fits at f))
  | inr other ↦ elim (cases_Bool (b == dot)) [
    | inl same ↦ prerelease_dot b rest same (remains rest PrereleaseFirst (rw (other, same) at f))
    | inr no_dot ↦ elim (cases_Bool (b == plus)) [
      | inl same ↦ prerelease_build b rest same
          (remains rest BuildFirst (rw (other, no_dot, same) at f))
      | inr no_plus ↦ absurd (cc (rw (other, no_dot, no_plus) at f))
    ]
  ]
]
remains (b ∷ rest) BuildFirst f = elim (cases_Bool (is_build_byte b)) [
  | inl fits ↦ (fits, remains rest Build (rw fits at f))
  | inr other ↦ absurd (cc (rw other at f))
]
remains (b ∷ rest) Build f = elim (cases_Bool (is_build_byte b)) [
  | inl fits ↦ (fits, remains rest Build (rw fits at f))
  | inr other ↦ absurd (cc (rw other at f))
]

version_of_rest : (text : List ℕ) → Remains Start text → IsVersion text
version_of_rest text (inl none) = (
  record { release = []; prerelease = [] },
  [],
  record {
    release = tt;
    prerelease = tt;
    build_bytes = tt;
    alone = λ e.
        (refl, refl);
    spelled = none;
  },
)
version_of_rest text (inr r) = (
  record { release = r.bytes ∷ r.others; prerelease = r.prerelease },
  r.build,
  record {
    release = (r.first, r.identifiers);
    prerelease = r.prerelease_identifiers;
    build_bytes = r.build_bytes;
    alone = λ e. absurd (cc e);
    spelled = r.spelled ∙ rw (
      append_assoc (r.bytes ++ further r.others) (marked dash (dotted
          r.prerelease)) (marked plus r.build),
      append_assoc r.bytes (further r.others)
          (marked dash (dotted r.prerelease) ++ marked plus r.build),
    ) refl;
  },
)

pub finishes_version : (text : List ℕ) → finishes Start text ≡ true → IsVersion text
finishes_version text f = version_of_rest text (remains text Start f)

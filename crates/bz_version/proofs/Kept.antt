-- What is kept of a version's text, and the identifiers in it.
use Rattle.std.proofs.Common.{◌≡◌, ℕ, ◌==◌, Bool, true, false, List, [], ◌∷◌, ◌++◌, refl, ap, ◌∙◌}
use Rattle.std.proofs.Common.{append-nil, inl, inr}
use Rattle.std.proofs.lemmas.Bool.{both_ways, cases_Bool, eqb-true}
use Rattle.std.specs.Char.{is_ascii_alphanumeric}
use Rattle.std.specs.List.{AllByRecursion, flat_map}
use Rattle.bz_text.proofs.ListWalks.{AllByRecursion-append}
use Rattle.bz_version.proofs.Marks.{Absent, before-absent, before-mark, behind-absent, behind-mark}
use Rattle.bz_version.proofs.Marks.{dots_cut}
use Rattle.bz_version.specs.Grammar.{IsIdentifier, Parts, Spells, is_prerelease_byte, written}
use Rattle.bz_version.specs.Precedence.{identifiers, parts_of}
use Rattle.bz_version.specs.Texts.{before, behind, between_dots, dash, dot, dotted, marked, plus}

-- a byte of the part is no such mark
abbrev Avoids : (ℕ → Bool) → ℕ → Type 0
Avoids may mark = (b : ℕ) → may b ≡ true → (b == mark) ≡ false

bytes_absent : (may : ℕ → Bool) (mark : ℕ)
    → Avoids may mark
    → (text : List ℕ)
    → AllByRecursion (λ b. may b ≡ true) text
    → Absent mark text
bytes_absent may mark avoids [] a = tt
bytes_absent may mark avoids (b ∷ rest) a = (avoids b a.0, bytes_absent may mark avoids rest a.1)

identifier_absent : (may : ℕ → Bool) (mark : ℕ)
    → Avoids may mark
    → (text : List ℕ)
    → IsIdentifier may text
    → Absent mark text
identifier_absent may mark avoids [] a = tt
identifier_absent may mark avoids (b ∷ rest) a = bytes_absent may mark avoids (b ∷ rest) a

-- dots aside, dotted identifiers have the bytes of identifiers
dotted_absent : (may : ℕ → Bool) (mark : ℕ)
    → Avoids may mark
    → (dot == mark) ≡ false
    → (xs : List (List ℕ))
    → AllByRecursion (IsIdentifier may) xs
    → Absent mark (dotted xs)
dotted_absent may mark avoids differs [] a = tt
dotted_absent may mark avoids differs (x ∷ xs) a = AllByRecursion-append _ x
    (flat_map (λ y. dot ∷ y) xs) (identifier_absent may mark avoids x a.0) (further xs a.1)
  where
    further : (ys : List (List ℕ))
        → AllByRecursion (IsIdentifier may) ys
        → Absent mark (flat_map (λ y. dot ∷ y) ys)
    further [] a = tt
    further (y ∷ ys) a = (
      differs,
      AllByRecursion-append _ y (flat_map (λ y. dot ∷ y) ys)
          (identifier_absent may mark avoids y a.0) (further ys a.1),
    )

-- the identifiers come back from between the dots
between_dots-dotted : (may : ℕ → Bool)
    → Avoids may dot
    → (x : List ℕ) (xs : List (List ℕ))
    → AllByRecursion (IsIdentifier may) (x ∷ xs)
    → between_dots (dotted (x ∷ xs)) ≡ x ∷ xs
between_dots-dotted may avoids x [] a =
    let absent = identifier_absent may dot avoids x a.0 in
    rw append-nil (rw (dots_cut x, before-absent dot x absent, behind-absent dot x absent) refl)
between_dots-dotted may avoids x (y ∷ ys) a =
    let absent = identifier_absent may dot avoids x a.0 in
    dots_cut (x ++ dot ∷ dotted (y ∷ ys))
    ∙ rw (before-mark dot x (dotted (y ∷ ys)) absent, behind-mark dot x (dotted (y ∷ ys)) absent)
    (ap (λ (l : List (List ℕ)). x ∷ l) (between_dots-dotted may avoids y ys a.1))

avoids : (may : ℕ → Bool) (mark : ℕ) → may mark ≡ false → Avoids may mark
avoids may mark none b f = elim (cases_Bool (b == mark)) [
  | inl same ↦ absurd (both_ways (may mark) none (rw (eqb-true b mark same) at f))
  | inr other ↦ other
]

marked_absent : (text : List ℕ) → Absent plus text → Absent plus (marked dash text)
marked_absent [] a = tt
marked_absent (b ∷ rest) a = (refl, a)

written_absent : (version : Parts)
    → AllByRecursion (IsIdentifier is_ascii_alphanumeric) version.release
    → AllByRecursion (IsIdentifier is_prerelease_byte) version.prerelease
    → Absent plus (written version)
written_absent version r p =
    AllByRecursion-append _ (dotted version.release) (marked dash (dotted version.prerelease))
    (dotted_absent is_ascii_alphanumeric plus
    (avoids is_ascii_alphanumeric plus refl) refl version.release r)
    (marked_absent (dotted version.prerelease)
    (dotted_absent is_prerelease_byte plus
    (avoids is_prerelease_byte plus refl) refl version.prerelease p))

before-build : (text build : List ℕ)
    → Absent plus text
    → before plus (text ++ marked plus build) ≡ text
before-build text [] a = rw append-nil (before-absent plus text a)
before-build text (b ∷ rest) a = before-mark plus text (b ∷ rest) a

-- the text of a version without BUILD stands before the first `+`
pub before-spelled : (text : List ℕ) (version : Parts) (build : List ℕ)
    → Spells text version build
    → before plus text ≡ written version
before-spelled text version build s = rw s.spelled
    (before-build (written version) build (written_absent version s.release s.prerelease))

before-prerelease : (text : List ℕ) (prerelease : List (List ℕ))
    → Absent dash text
    → AllByRecursion (IsIdentifier is_prerelease_byte) prerelease
    → before dash (text ++ marked dash (dotted prerelease)) ≡ text
before-prerelease text [] a p = rw append-nil (before-absent dash text a)
before-prerelease text ([] ∷ xs) a p = absurd p.0
before-prerelease text ((b ∷ x) ∷ xs) a p = before-mark dash text (dotted ((b ∷ x) ∷ xs)) a

behind-prerelease : (text : List ℕ) (prerelease : List (List ℕ))
    → Absent dash text
    → AllByRecursion (IsIdentifier is_prerelease_byte) prerelease
    → identifiers (behind dash (text ++ marked dash (dotted prerelease))) ≡ prerelease
behind-prerelease text [] a p = rw (append-nil text, behind-absent dash text a) refl
behind-prerelease text ([] ∷ xs) a p = absurd p.0
behind-prerelease text ((b ∷ x) ∷ xs) a p =
    rw (behind-mark dash text (dotted ((b ∷ x) ∷ xs)) a)
    (between_dots-dotted is_prerelease_byte (avoids is_prerelease_byte dot refl) (b ∷ x) xs p)

parts_of-text : (release prerelease : List (List ℕ))
    → AllByRecursion (IsIdentifier is_ascii_alphanumeric) release
    → AllByRecursion (IsIdentifier is_prerelease_byte) prerelease
    → (release ≡ [] → prerelease ≡ [])
    → parts_of (dotted release ++ marked dash (dotted prerelease))
    ≡ record { release = release; prerelease = prerelease }
parts_of-text [] prerelease r p alone = rw (alone refl) refl
parts_of-text ([] ∷ xs) prerelease r p alone = absurd r.0
parts_of-text ((b ∷ x) ∷ xs) prerelease r p alone =
    let absent = dotted_absent is_ascii_alphanumeric dash
    (avoids is_ascii_alphanumeric dash refl) refl ((b ∷ x) ∷ xs) r in
    let front : between_dots
    (before dash (dotted ((b ∷ x) ∷ xs) ++ marked dash (dotted prerelease))) ≡ (b ∷ x) ∷ xs =
    ap between_dots (before-prerelease (dotted ((b ∷ x) ∷ xs)) prerelease absent p)
    ∙ between_dots-dotted is_ascii_alphanumeric (avoids is_ascii_alphanumeric dot refl)
    (b ∷ x) xs r in
    let back = behind-prerelease (dotted ((b ∷ x) ∷ xs)) prerelease absent p in
    λ i. record { release = front i; prerelease = back i }

-- a version's identifiers come back from its text
pub parts_of-written : (text : List ℕ) (version : Parts) (build : List ℕ)
    → Spells text version build
    → parts_of (written version) ≡ version
parts_of-written text version build s =
    parts_of-text version.release version.prerelease s.release s.prerelease (λ e. (s.alone e).0)

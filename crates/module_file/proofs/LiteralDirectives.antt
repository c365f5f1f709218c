-- What is read as a line is a line of the grammar, and the other way round.
use Rattle.std.proofs.Common.{◌≡◌, ◌≢◌, ℕ, ◌==◌, true, false, length, codes, bytes_eq, List, []}
use Rattle.std.proofs.Common.{◌∷◌, ◌++◌, Result, Ok, Err, ◌⊎◌, inl, inr, refl, sym, ap, ◌∙◌, subst}
use Rattle.std.proofs.Common.{append_assoc, rules}
use Rattle.std.specs.List.{join_with_byte}
use Rattle.std.proofs.Math.Dec.{eqb-suc-zero}
use Rattle.std.proofs.lemmas.Bool.{cases_Bool}
use Rattle.std.proofs.lemmas.List.Splits.{join_with_byte-slice_split}
use Rattle.std.proofs.lemmas.Slice.Eq.{bytes_eq-Decides}
use Rattle.bz_base.specs.Names.{is_module_name}
use Rattle.bz_base.specs.declared.module_key.Key.{Key}
use Rattle.bz_version.specs.Scan.{version_of}
use Rattle.bz_version.specs.declared.versions.BadVersion.{BadVersion}
use Rattle.module_file.specs.LiteralGrammar.{IsDirective, IsLine, quoted}
use Rattle.module_file.specs.LiteralLines.{key_of, key_with, line_of, line_of_pieces, line_with}
use Rattle.module_file.specs.LiteralLines.{pieces_of}
use Rattle.module_file.specs.declared.literal_line.LiteralLine.{LiteralLine}
use Rattle.module_file.specs.declared.literal_line.LiteralLine.TheVariants.{Empty, Module, Dep}
use Rattle.module_file.specs.declared.literal_line.NotLiteral.{NotLiteral}
use Rattle.module_file.proofs.LiteralMarks.{Lacks, Lacks-append, Lacks-name, Lacks-version}
use Rattle.module_file.proofs.LiteralMarks.{line_feed_stops, quote_stops, split-at_mark}
use Rattle.module_file.proofs.LiteralMarks.{split-lacking}

-- a key that is read
record IsKey (name written : List ℕ) (key : Key) : Type 0 where
  same : name ≡ key.name
  named : is_module_name name ≡ true
  version : version_of written ≡ Ok key.version
  not_empty : key.version ≢ []

not_empty-from_test : (version : List ℕ) → (length version == 0) ≡ false → version ≢ []
not_empty-from_test version e none = cc (rw none at e)

test-from_not_empty : (version : List ℕ) → version ≢ [] → (length version == 0) ≡ false
test-from_not_empty [] some = absurd (some refl)
test-from_not_empty (b ∷ rest) some = eqb-suc-zero (length rest)

key_with-Ok : (name written : List ℕ) (read : Result (List ℕ) BadVersion) (key : Key)
    → is_module_name name ≡ true
    → version_of written ≡ read
    → key_with name read ≡ Ok key
    → IsKey name written key
key_with-Ok name written (Err bad) key named r e = absurd (cc e)
key_with-Ok name written (Ok version) key named r e = elim (cases_Bool (length version == 0)) [
  | inl empty ↦ absurd (cc (rw empty at e))
  | inr some ↦
      let made : record { name = name; version = version } ≡ key = cc (rw some at e) in
      let kept : version ≡ key.version = ap (λ (k : Key). k.version) made in
      record {
        same = ap (λ (k : Key). k.name) made;
        named = named;
        version = r ∙ ap (λ (v : List ℕ). Ok v) kept;
        not_empty = subst (λ (v : List ℕ). v ≢ []) kept (not_empty-from_test version some);
      }
]

key_of-Ok : (name written : List ℕ) (key : Key)
    → key_of name written ≡ Ok key
    → IsKey name written key
key_of-Ok name written key e = elim (cases_Bool (is_module_name name)) [
  | inl named ↦ key_with-Ok name written (version_of written) key named refl (rw named at e)
  | inr other ↦ absurd (cc (rw other at e))
]

-- a directive by its front
abbrev IsFrontOf : List ℕ → Key → LiteralLine → Type 0
IsFrontOf front key line = ((front ≡ codes "module(name = ") × (line ≡ Module key))
    ⊎ ((front ≡ codes "bazel_dep(name = ") × (line ≡ Dep key))

line_with-Ok : (front : List ℕ) (read : Result Key NotLiteral) (line : LiteralLine)
    → line_with front read ≡ Ok line
    → (key : Key) × (read ≡ Ok key) × IsFrontOf front key line
line_with-Ok front (Err missed) line e = absurd (cc e)
line_with-Ok front (Ok key) line e = elim (cases_Bool (bytes_eq front (codes "module(name = "))) [
  | inl module_front ↦ (
    key,
    refl,
    inl (
      (bytes_eq-Decides front (codes "module(name = ")).0 module_front,
      cc (rw
          module_front at e),
    ),
  )
  | inr other ↦ elim (cases_Bool (bytes_eq front (codes "bazel_dep(name = "))) [
    | inl dep_front ↦ (
      key,
      refl,
      inr (
        (bytes_eq-Decides front (codes "bazel_dep(name = ")).0
            dep_front,
        cc (rw (other, dep_front) at e),
      ),
    )
    | inr neither ↦ absurd (cc (rw (other, neither) at e))
  ]
]

-- the pieces of a directive
record ArePieces (pieces : List (List ℕ)) (line : LiteralLine) : Type 0 where
  front : List ℕ
  written : List ℕ
  key : Key
  cut : pieces ≡ front ∷ key.name ∷ codes ", version = " ∷ written ∷ codes ")" ∷ []
  fits : IsKey key.name written key
  line_of_front : IsFrontOf front key line

pieces-of_directive : (front name middle written tail : List ℕ) (key : Key) (line : LiteralLine)
    → middle ≡ codes ", version = "
    → tail ≡ codes ")"
    → IsKey name written key
    → IsFrontOf front key line
    → ArePieces (front ∷ name ∷ middle ∷ written ∷ tail ∷ []) line
pieces-of_directive front name middle written tail key line m t fits line_of_front = record {
  front = front;
  written = written;
  key = key;
  cut = rw (m, t, fits.same) refl;
  fits = subst (λ (n : List ℕ). IsKey n written key) fits.same fits;
  line_of_front = line_of_front;
}

five_pieces : (front name middle written tail : List ℕ) (line : LiteralLine)
    → line_of_pieces (front ∷ name ∷ middle ∷ written ∷ tail ∷ []) ≡ Ok line
    → ArePieces (front ∷ name ∷ middle ∷ written ∷ tail ∷ []) line
five_pieces front name middle written tail line e = elim
    (cases_Bool (bytes_eq middle (codes ", version = "))) [
      | inl first ↦ elim (cases_Bool (bytes_eq tail (codes ")"))) [
        | inl last ↦
            let read = line_with-Ok front (key_of name written) line (rw (first, last) at e) in
            pieces-of_directive front name middle written tail read.0 line
            ((bytes_eq-Decides middle (codes ", version = ")).0 first)
            ((bytes_eq-Decides tail (codes ")")).0 last)
            (key_of-Ok name written read.0 read.1) read.2
        | inr other ↦ absurd (cc (rw (first, other) at e))
      ]
      | inr other ↦ absurd (cc (rw other at e))
    ]

-- a line is read of five pieces only
pieces-Ok : (pieces : List (List ℕ)) (line : LiteralLine)
    → line_of_pieces pieces ≡ Ok line
    → ArePieces pieces line
pieces-Ok (front ∷ name ∷ middle ∷ written ∷ tail ∷ []) line e = five_pieces front name middle
    written tail line e
pieces-Ok pieces line e = absurd (cc e)

quoted-append : (text rest : List ℕ) → quoted text ++ rest ≡ 34 ∷ (text ++ (34 ∷ rest))
quoted-append text rest = ap (λ l. 34 ∷ l) (append_assoc text (34 ∷ []) rest)

-- the text of a directive, from quote to quote
from_quotes : (front name middle written tail : List ℕ)
    → front ++ quoted name ++ middle ++ quoted written ++ tail ≡ front
    ++ (34 ∷ (name ++ (34 ∷ (middle ++ (34 ∷ (written ++ (34 ∷ tail)))))))
from_quotes front name middle written tail =
    append_assoc (front ++ quoted name ++ middle) (quoted written) tail
    ∙ append_assoc (front ++ quoted name) middle (quoted written ++ tail)
    ∙ append_assoc front (quoted name) (middle ++ (quoted written ++ tail))
    ∙ ap (λ l. front ++ l)
    (quoted-append name (middle ++ (quoted written ++ tail))
    ∙ ap (λ l. 34 ∷ (name ++ (34 ∷ (middle ++ l)))) (quoted-append written tail))

-- the pieces with the quotes between them are the text
directive-spelled : (text front written : List ℕ) (key : Key)
    → pieces_of text ≡ front ∷ key.name ∷ codes ", version = " ∷ written ∷ codes ")" ∷ []
    → IsKey key.name written key
    → IsDirective front key text
directive-spelled text front written key cut fits = record {
  written = written;
  name = fits.named;
  version = fits.version;
  not_empty = fits.not_empty;
  spelled = sym (join_with_byte-slice_split 34 text) ∙ ap (join_with_byte 34) cut
      ∙ sym (from_quotes front key.name (codes ", version = ") written (codes ")"));
}

line_of-pieces : (text : List ℕ) (line : LiteralLine)
    → ArePieces (pieces_of text) line
    → IsLine line text
line_of-pieces text line p = elim p.line_of_front [
  | inl m ↦ subst (λ (l : LiteralLine). IsLine l text) (sym m.1)
      (directive-spelled text (codes "module(name = ") p.written p.key
      (subst (λ (front : List ℕ). pieces_of text ≡ front ∷ p.key.name ∷ codes ", version = " ∷
      p.written ∷ codes ")" ∷ []) m.0 p.cut) p.fits)
  | inr d ↦ subst (λ (l : LiteralLine). IsLine l text) (sym d.1)
      (directive-spelled text (codes "bazel_dep(name = ") p.written p.key
      (subst (λ (front : List ℕ). pieces_of text ≡ front ∷ p.key.name ∷ codes ", version = " ∷
      p.written ∷ codes ")" ∷ []) d.0 p.cut) p.fits)
]

pub line_is_spelled : (text : List ℕ) (line : LiteralLine)
    → line_of text ≡ Ok line
    → IsLine line text
line_is_spelled [] line e =
    let empty : Empty ≡ line = cc e in
    subst (λ (l : LiteralLine). IsLine l []) empty refl
line_is_spelled (b ∷ rest) line e = line_of-pieces (b ∷ rest) line
    (pieces-Ok (pieces_of (b ∷ rest)) line (rw (eqb-suc-zero (length rest)) at e))

split-from_quotes : (front name middle written tail : List ℕ)
    → Lacks 34 front
    → Lacks 34 name
    → Lacks 34 middle
    → Lacks 34 written
    → Lacks 34 tail
    → pieces_of (front ++ (34 ∷ (name ++ (34 ∷ (middle ++ (34 ∷ (written ++ (34 ∷ tail))))))))
    ≡ front ∷ name ∷ middle ∷ written ∷ tail ∷ []
split-from_quotes front name middle written tail f n m w t =
    rw (
      split-at_mark 34 front _ f,
      split-at_mark 34 name _ n,
      split-at_mark 34 middle _ m,
      split-at_mark 34 written tail w,
      split-lacking 34 tail t,
    ) refl

-- the text of a directive falls into its pieces
pieces_of-directive : (front text : List ℕ) (key : Key) (d : IsDirective front key text)
    → Lacks 34 front
    → pieces_of text ≡ front ∷ key.name ∷ codes ", version = " ∷ d.written ∷ codes ")" ∷ []
pieces_of-directive front text key d lacks =
    ap pieces_of (d.spelled ∙ from_quotes front key.name (codes ", version = ") d.written (codes
    ")"))
    ∙ split-from_quotes front key.name (codes ", version = ") d.written (codes ")") lacks
    (Lacks-name 34 key.name refl d.name) (search rules)
    (Lacks-version 34 d.written key.version quote_stops d.version) (search rules)

key_of-directive : (front text : List ℕ) (key : Key) (d : IsDirective front key text)
    → key_of key.name d.written ≡ Ok key
key_of-directive front text key d = rw
    (d.name, d.version, test-from_not_empty key.version d.not_empty) refl

-- a text of more than one piece isn't empty
line_of-more_pieces : (text first second : List ℕ) (more : List (List ℕ))
    → pieces_of text ≡ first ∷ second ∷ more
    → line_of text ≡ line_of_pieces (first ∷ second ∷ more)
line_of-more_pieces [] first second more cut = absurd (cc cut)
line_of-more_pieces (b ∷ rest) first second more cut = rw (eqb-suc-zero (length rest), cut) refl

directive_is_read : (front text : List ℕ) (key : Key) (line : LiteralLine)
    → Lacks 34 front
    → IsDirective front key text
    → line_with front (Ok key) ≡ Ok line
    → line_of text ≡ Ok line
directive_is_read front text key line lacks d e =
    line_of-more_pieces text front key.name (codes ", version = " ∷ d.written ∷ codes ")" ∷ [])
    (pieces_of-directive front text key d lacks)
    ∙ ap (line_with front) (key_of-directive front text key d)
    ∙ e

pub line_is_read : (text : List ℕ) (line : LiteralLine) → IsLine line text → line_of text ≡ Ok line
line_is_read text Empty e = rw e refl
line_is_read text (Module key) d = directive_is_read (codes "module(name = ") text key (Module key)
    (search rules) d refl
line_is_read text (Dep key) d = directive_is_read (codes "bazel_dep(name = ") text key (Dep key)
    (search rules) d refl

Lacks-from_quotes : (front name middle written tail : List ℕ)
    → Lacks 10 front
    → Lacks 10 name
    → Lacks 10 middle
    → Lacks 10 written
    → Lacks 10 tail
    → Lacks 10 (front ++ (34 ∷ (name ++ (34 ∷ (middle ++ (34 ∷ (written ++ (34 ∷ tail))))))))
Lacks-from_quotes front name middle written tail f n m w t =
    let version : Lacks 10 (written ++ (34 ∷ tail)) = Lacks-append 10 written (34 ∷ tail) w
    (refl, t) in
    let behind_name : Lacks 10 (middle ++ (34 ∷ (written ++ (34 ∷ tail)))) = Lacks-append 10 middle
    (34 ∷ (written ++ (34 ∷ tail))) m (refl, version) in
    let behind_front : Lacks 10
    (name ++ (34 ∷ (middle ++ (34 ∷ (written ++ (34 ∷ tail)))))) = Lacks-append 10 name
    (34 ∷ (middle ++ (34 ∷ (written ++ (34 ∷ tail))))) n (refl, behind_name) in
    Lacks-append 10 front (34 ∷ (name ++ (34 ∷ (middle ++ (34 ∷ (written ++ (34 ∷ tail))))))) f
    (refl, behind_front)

Lacks-directive : (front text : List ℕ) (key : Key)
    → Lacks 10 front
    → IsDirective front key text
    → Lacks 10 text
Lacks-directive front text key lacks d =
    subst (Lacks 10) (sym (d.spelled ∙ from_quotes front key.name (codes ", version = ") d.written
    (codes ")")))
    (Lacks-from_quotes front key.name (codes ", version = ") d.written (codes ")") lacks
    (Lacks-name 10 key.name refl d.name) (search rules)
    (Lacks-version 10 d.written key.version line_feed_stops d.version) (search rules))

-- no line feed stands in a line
pub Lacks-line : (text : List ℕ) (line : LiteralLine) → IsLine line text → Lacks 10 text
Lacks-line text Empty e = rw e tt
Lacks-line text (Module key) d = Lacks-directive (codes "module(name = ") text key (search rules) d
Lacks-line text (Dep key) d = Lacks-directive (codes "bazel_dep(name = ") text key (search rules) d

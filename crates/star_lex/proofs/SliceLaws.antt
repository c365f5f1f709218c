-- The tokens of a text stand in order, each over its own bytes.
use Rattle.std.proofs.Common.{◌≡◌, ℕ, ◌≤◌, ◌+◌, ◌-◌, true, cond, List, [], ◌∷◌, ◌++◌, length, take}
use Rattle.std.proofs.Common.{drop, map, slice_get, Option, Some, None, eqb, ltb, refl, arith, sym}
use Rattle.std.proofs.Common.{subst, ap, ◌∙◌}
use Rattle.std.proofs.lemmas.Bool.{cond_both}
use Rattle.std.proofs.lemmas.List.{drop-drop, length-drop, length-take-le, append_assoc, append-nil}
use Rattle.star_lex.specs.declared.token.Token.{Token}
use Rattle.star_lex.specs.declared.token.TokenKind.{TokenKind}
use Rattle.star_lex.specs.declared.token.TokenKind.TheVariants.{Newline, Indent, Outdent}
use Rattle.star_lex.specs.declared.layout.Phase.{Phase}
use Rattle.star_lex.specs.declared.layout.Phase.TheVariants.{Fresh, Continued, Begun}
use Rattle.star_lex.specs.declared.layout.Layout.{Layout}
use Rattle.star_lex.specs.declared.lexemes.Lexeme.{Lexeme}
use Rattle.star_lex.specs.declared.lexemes.Lexeme.TheVariants.{Whitespace, Comment, LineEnd}
use Rattle.star_lex.specs.declared.lexemes.Lexeme.TheVariants.{LineContinuation, Shown}
use Rattle.star_lex.specs.Lexemes.{IsLexeme}
use Rattle.star_lex.specs.Slices.{IsSlice, AreSlices, is_layout}
use Rattle.star_lex.specs.Slices.IsSlice.{read, line_end, empty}
use Rattle.star_lex.specs.Layouts.{top, levels_at_width, with_levels, here, with_whitespace_in}
use Rattle.star_lex.specs.Layouts.{with_continuation_in, with_line_end_in, with_line_end, over}
use Rattle.star_lex.specs.Layouts.{after_indentation, after_indentation_in, after_margin}
use Rattle.star_lex.specs.Layouts.{after_width, after_shown, layout_after, tokens_at_end}
use Rattle.star_lex.specs.Layouts.{with_last_newline, lacks_newline, start}
use Rattle.star_lex.specs.Tokens.{LexesFrom, Lexes}
use Rattle.star_lex.specs.Tokens.LexesFrom.{ends, goes}
use Rattle.star_lex.proofs.LayoutLaws.{IsBounded, layout_after-bounded}
use Rattle.star_lex.proofs.ScanLaws.{IsStep-within}

AreSlices-grown : (text : List ℕ) (from : ℕ) (tokens : List Token) (to more : ℕ)
    → to ≤ more
    → AreSlices text from tokens to
    → AreSlices text from tokens more
AreSlices-grown text from [] to more far slices = omega arith
AreSlices-grown text from (token ∷ tokens) to more far slices =
    (slices.0, slices.1, slices.2, AreSlices-grown text token.end tokens to more far slices.3)

AreSlices-push : (text : List ℕ) (from : ℕ) (tokens : List Token) (to : ℕ) (token : Token)
    → to ≤ token.begin
    → token.begin ≤ token.end
    → IsSlice text token
    → AreSlices text from tokens to
    → AreSlices text from (tokens ++ token ∷ []) token.end
AreSlices-push text from [] to token behind long slice slices =
    (omega arith, long, slice, omega arith)
AreSlices-push text from (first ∷ tokens) to token behind long slice slices = (
  slices.0,
  slices.1,
  slices.2,
  AreSlices-push text first.end tokens to token behind long slice
      slices.3,
)

-- a token of the layout may stand at the end
AreSlices-here : (text : List ℕ) (kind : TokenKind) (s : Layout) (tokens : List Token)
    → is_layout kind ≡ true
    → AreSlices text 0 tokens s.at
    → AreSlices text 0 (tokens ++ here kind s ∷ []) s.at
AreSlices-here text kind s tokens layout slices = AreSlices-push text 0 tokens s.at (here kind s)
    (omega arith) (omega arith) (empty layout refl) slices

abbrev Sound : List ℕ → Layout → Type 0
Sound text s = AreSlices text 0 s.tokens s.at

abbrev SoundIn : List ℕ → ℕ → Option Layout → Type 0
SoundIn text at None = Unit {0}
SoundIn text at (Some s) = (s.at ≡ at) × Sound text s

abbrev SoundParts : List ℕ → ℕ → Option (List ℕ × List Token) → Type 0
SoundParts text at None = Unit {0}
SoundParts text at (Some parts) = AreSlices text 0 parts.1 at

levels_at_width-sound : (text : List ℕ) (s : Layout) (width : ℕ) (levels : List ℕ)
    (tokens : List Token)
    → AreSlices text 0 tokens s.at
    → SoundParts text s.at (levels_at_width (here Outdent s) width levels tokens)
levels_at_width-sound text s width [] tokens slices = cond_both (eqb width 0)
    (Some ([], tokens)) None (SoundParts text s.at) (λ e. slices) (λ e. tt)
levels_at_width-sound text s width (level ∷ levels) tokens slices =
    cond_both (ltb width level)
    (levels_at_width (here Outdent s) width levels (tokens ++ here Outdent s ∷ []))
    (cond (eqb width level) (Some (level ∷ levels, tokens)) None) (SoundParts text s.at)
    (λ e. levels_at_width-sound text s width levels (tokens ++ here Outdent s ∷ [])
    (AreSlices-here text Outdent s tokens refl slices))
    (λ e. cond_both (eqb width level) (Some (level ∷ levels, tokens)) None (SoundParts text s.at)
    (λ f. slices) (λ f. tt))

with_levels-sound : (text : List ℕ) (s : Layout) (parts : Option (List ℕ × List Token))
    → SoundParts text s.at parts
    → SoundIn text s.at (with_levels s parts)
with_levels-sound text s None sound = tt
with_levels-sound text s (Some parts) sound = (refl, sound)

after_width-sound : (text : List ℕ) (s : Layout) → Sound text s → SoundIn text s.at (after_width s)
after_width-sound text s sound =
    cond_both (ltb (top s.levels) s.width)
    (Some (record s { levels = s.width ∷ s.levels; tokens = s.tokens ++ here Indent s ∷ [] }))
    (with_levels s (levels_at_width (here Outdent s) s.width s.levels s.tokens))
    (SoundIn text s.at)
    (λ e. (refl, AreSlices-here text Indent s s.tokens refl sound))
    (λ e. with_levels-sound text s (levels_at_width (here Outdent s) s.width s.levels s.tokens)
    (levels_at_width-sound text s s.width s.levels s.tokens sound))

after_margin-sound : (text : List ℕ) (s : Layout)
    → Sound text s
    → SoundIn text s.at (after_margin s)
after_margin-sound text s sound = cond_both s.tabbed None (after_width s) (SoundIn text s.at)
    (λ e. tt) (λ e. after_width-sound text s sound)

after_indentation_in-sound : (phase : Phase) (text : List ℕ) (s : Layout)
    → Sound text s
    → SoundIn text s.at (after_indentation_in phase s)
after_indentation_in-sound Begun text s sound = (refl, sound)
after_indentation_in-sound Fresh text s sound = after_margin-sound text s sound
after_indentation_in-sound Continued text s sound = after_margin-sound text s sound

after_indentation-sound : (text : List ℕ) (s : Layout)
    → Sound text s
    → SoundIn text s.at (after_indentation s)
unfolding after_indentation
after_indentation-sound text s sound = after_indentation_in-sound s.phase text s sound

-- a lexeme at a place, between that place and its end
at-place : (text : List ℕ) (at n : ℕ) (lexeme : Lexeme)
    → IsLexeme (drop at text) lexeme n
    → IsLexeme (drop at text) lexeme (at + n - at)
at-place text at n lexeme stands = let e : n
    ≡ at + n - at = omega arith in subst (λ (k : ℕ). IsLexeme (drop at text) lexeme k) e stands

AreSlices-over : (text : List ℕ) (kind : TokenKind) (front : List ℕ) (s : Layout)
    → IsSlice text (over kind front s)
    → Sound text s
    → AreSlices text 0 (s.tokens ++ over kind front s ∷ []) (s.at + length front)
AreSlices-over text kind front s slice sound = AreSlices-push text 0 s.tokens s.at
    (over kind front s) (omega arith) (omega arith) slice sound

abbrev Moved : List ℕ → ℕ → Option Layout → Type 0
Moved text at None = Unit {0}
Moved text at (Some t) = AreSlices text 0 t.tokens at

with_line_end_in-sound : (phase : Phase) (text front : List ℕ) (s : Layout)
    → IsLexeme (drop s.at text) LineEnd (length front)
    → Sound text s
    → AreSlices text 0 (with_line_end_in phase front s).tokens (s.at + length front)
with_line_end_in-sound Fresh text front s stands sound = AreSlices-grown text 0 s.tokens s.at
    (s.at + length front) (omega arith) sound
with_line_end_in-sound Continued text front s stands sound = AreSlices-grown text 0 s.tokens s.at
    (s.at + length front) (omega arith) sound
with_line_end_in-sound Begun text front s stands sound = AreSlices-over text Newline front s
    (line_end refl (at-place text s.at (length front) LineEnd stands)) sound

with_line_end-sound : (text front : List ℕ) (s : Layout)
    → IsLexeme (drop s.at text) LineEnd (length front)
    → Sound text s
    → AreSlices text 0 (with_line_end front s).tokens (s.at + length front)
with_line_end-sound text front s stands sound =
    cond_both (eqb s.depth 0) (with_line_end_in s.phase front s) s
    (λ (t : Layout). AreSlices text 0 t.tokens (s.at + length front))
    (λ e. with_line_end_in-sound s.phase text front s stands sound)
    (λ e. AreSlices-grown text 0 s.tokens s.at (s.at + length front) (omega arith) sound)

with_whitespace_in-tokens : (phase : Phase) (front : List ℕ) (s : Layout)
    → (with_whitespace_in phase front s).tokens ≡ s.tokens
with_whitespace_in-tokens Fresh front s = refl
with_whitespace_in-tokens Continued front s = refl
with_whitespace_in-tokens Begun front s = refl

with_continuation_in-tokens : (phase : Phase) (s : Layout)
    → (with_continuation_in phase s).tokens ≡ s.tokens
with_continuation_in-tokens Fresh s = refl
with_continuation_in-tokens Continued s = refl
with_continuation_in-tokens Begun s = refl

after_shown-sound : (text : List ℕ) (kind : TokenKind) (front : List ℕ) (at : ℕ) (o : Option Layout)
    → IsLexeme (drop at text) (Shown kind) (length front)
    → SoundIn text at o
    → Moved text (at + length front) (after_shown kind front o)
after_shown-sound text kind front at None stands sound = tt
after_shown-sound text kind front at (Some s) stands sound =
    let same : at ≡ s.at = sym sound.0 in
    let there : IsLexeme (drop s.at text) (Shown kind) (length front) = subst
    (λ (k : ℕ). IsLexeme (drop k text) (Shown kind) (length front)) same stands in
    subst (λ (k : ℕ). AreSlices text 0 (s.tokens ++ over kind front s ∷ []) (k + length front))
    (sym same)
    (AreSlices-over text kind front s
    (read (at-place text s.at (length front) (Shown kind) there)) sound.1)

layout_after-sound : (lexeme : Lexeme) (text front : List ℕ) (s : Layout)
    → IsLexeme (drop s.at text) lexeme (length front)
    → Sound text s
    → Moved text (s.at + length front) (layout_after lexeme front s)
unfolding layout_after
layout_after-sound Whitespace text front s stands sound =
    subst (λ (tokens : List Token). AreSlices text 0 tokens (s.at + length front))
    (sym (with_whitespace_in-tokens s.phase front s))
    (AreSlices-grown text 0 s.tokens s.at (s.at + length front) (omega arith) sound)
layout_after-sound Comment text front s stands sound = AreSlices-grown text 0 s.tokens s.at
    (s.at + length front) (omega arith) sound
layout_after-sound LineEnd text front s stands sound = with_line_end-sound text front s stands sound
layout_after-sound LineContinuation text front s stands sound =
    subst (λ (tokens : List Token). AreSlices text 0 tokens (s.at + length front))
    (sym (with_continuation_in-tokens s.phase s))
    (AreSlices-grown text 0 s.tokens s.at (s.at + length front) (omega arith) sound)
layout_after-sound (Shown kind) text front s stands sound = after_shown-sound text kind front s.at
    (after_indentation s) stands (after_indentation-sound text s sound)

with_last_newline-sound : (text : List ℕ) (s : Layout)
    → Sound text s
    → AreSlices text 0 (with_last_newline s) s.at
with_last_newline-sound text s sound =
    cond_both (lacks_newline (slice_get s.tokens (length s.tokens - 1)))
    (s.tokens ++ here Newline s ∷ []) s.tokens
    (λ (tokens : List Token). AreSlices text 0 tokens s.at)
    (λ e. AreSlices-here text Newline s s.tokens refl sound)
    (λ e. sound)

outdents-sound : (text : List ℕ) (s : Layout) (levels : List ℕ) (tokens : List Token)
    → AreSlices text 0 tokens s.at
    → AreSlices text 0 (tokens ++ map (λ _. here Outdent s) levels) s.at
outdents-sound text s [] tokens sound = subst (λ (all : List Token). AreSlices text 0 all s.at)
    (sym (append-nil tokens)) sound
outdents-sound text s (level ∷ levels) tokens sound =
    subst (λ (all : List Token). AreSlices text 0 all s.at)
    (append_assoc tokens (here Outdent s ∷ []) (map (λ _. here Outdent s) levels))
    (outdents-sound text s levels (tokens ++ here Outdent s ∷ [])
    (AreSlices-here text Outdent s tokens refl sound))

tokens_at_end-sound : (text : List ℕ) (s : Layout)
    → Sound text s
    → AreSlices text 0 (tokens_at_end s) s.at
unfolding tokens_at_end
tokens_at_end-sound text s sound = outdents-sound text s s.levels (with_last_newline s)
    (with_last_newline-sound text s sound)

LexesFrom-sound : (text : List ℕ) (s : Layout) (rest : List ℕ) (tokens : List Token)
    → drop s.at text ≡ rest
    → s.at + length rest ≡ length text
    → IsBounded s
    → Sound text s
    → LexesFrom s rest tokens
    → AreSlices text 0 tokens (length text)
LexesFrom-sound text s rest tokens here_is whole bounded sound (ends _) =
    let e : s.at ≡ length text = omega arith in
    subst (λ (k : ℕ). AreSlices text 0 (tokens_at_end s) k) e (tokens_at_end-sound text s sound)
LexesFrom-sound text s rest tokens here_is whole bounded sound (goes _ t _ n _ step more) =
    let inside = IsStep-within s rest t n step in
    let front : length (take n rest) ≡ n = length-take-le n rest inside.1 in
    let shorter : length (drop n rest) ≡ length rest - n = length-drop n rest in
    let next = layout_after-bounded step.lexeme (take n rest) s t
    (omega arith) step.laid_out bounded in
    let moved_so : t.at ≡ s.at + length (take n rest) = next.0 in
    let there : IsLexeme (drop s.at text) step.lexeme n = subst
    (λ (r : List ℕ). IsLexeme r step.lexeme n) (sym here_is) step.stands in
    let stands : IsLexeme (drop s.at text) step.lexeme (length (take n rest)) = subst
    (λ (k : ℕ). IsLexeme (drop s.at text) step.lexeme k) (sym front) there in
    let laid_so : Moved text (s.at + length (take n rest)) (Some t) = subst
    (λ (o : Option Layout). Moved text (s.at + length (take n rest)) o) step.laid_out
    (layout_after-sound step.lexeme text (take n rest) s stands sound) in
    let sound_so : Sound text t = subst (λ (k : ℕ). AreSlices text 0 t.tokens k)
    (sym moved_so) laid_so in
    let at_so : t.at ≡ s.at + n = omega arith in
    let rest_so : drop t.at text ≡ drop n rest = ap (λ (k : ℕ). drop k text) at_so
    ∙ (sym (drop-drop n s.at text) ∙ ap (λ (r : List ℕ). drop n r) here_is) in
    LexesFrom-sound text t (drop n rest) tokens rest_so (omega arith) next.1 sound_so more

pub Lexes-slices : (text : List ℕ) (tokens : List Token)
    → Lexes text tokens
    → AreSlices text 0 tokens (length text)
unfolding Lexes
Lexes-slices text tokens lexes = LexesFrom-sound text start text tokens refl (omega arith)
    (record { line = omega arith; depth = omega arith }) (omega arith) lexes

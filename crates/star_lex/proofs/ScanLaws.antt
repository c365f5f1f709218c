-- A text is read lexeme by lexeme in one way: what completes the rest completes the whole, and
-- whatever reads the whole goes through what is out so far.
use Rattle.std.proofs.Common.{◌≡◌, ℕ, ◌<◌, ◌≤◌, ◌+◌, ◌-◌, List, [], ◌∷◌, length, take, drop, Option}
use Rattle.std.proofs.Common.{Some, None, refl, arith, sym, subst, ap, ◌∙◌, IsUtf8}
use Rattle.std.proofs.lemmas.List.{length-drop, length-take-le}
use Rattle.star_lex.specs.declared.token.Token.{Token}
use Rattle.star_lex.specs.declared.lexemes.Lexeme.{Lexeme}
use Rattle.star_lex.specs.declared.layout.Layout.{Layout}
use Rattle.star_lex.specs.Lexemes.{IsLexeme}
use Rattle.star_lex.specs.Layouts.{layout_after, tokens_at_end, start}
use Rattle.star_lex.specs.Tokens.{IsStep, LexesFrom, Lexes}
use Rattle.star_lex.specs.Tokens.LexesFrom.{ends, goes}
use Rattle.star_lex.proofs.LexemeLaws.{IsLexeme-unique, IsLexeme-within}
use Rattle.star_lex.proofs.StringContents.{none-some}
use Rattle.star_lex.proofs.TextLexemes.{IsLexeme-utf8}
use Rattle.star_lex.proofs.LayoutLaws.{IsBounded, layout_after-bounded}

abbrev layout_or : Layout → Option Layout → Layout
layout_or other None = other
layout_or other (Some s) = s

some-layout : (s t : Layout) → ◌≡◌ {A = Option Layout} (Some s) (Some t) → s ≡ t
some-layout s t e = ap (layout_or s) e

pub IsStep-unique : (s : Layout) (text : List ℕ) (t u : Layout) (n m : ℕ)
    → IsStep s text t n
    → IsStep s text u m
    → (t ≡ u) × (n ≡ m)
IsStep-unique s text t u n m one two =
    let same = IsLexeme-unique text one.lexeme two.lexeme n m one.stands two.stands in
    let laid_so : layout_after one.lexeme (take n text) s
    ≡ layout_after two.lexeme (take m text) s = ap
    (λ (p : Lexeme). layout_after p (take n text) s) same.0
    ∙ ap (λ (k : ℕ). layout_after two.lexeme (take k text) s) same.1 in
    (some-layout t u (sym one.laid_out ∙ (laid_so ∙ two.laid_out)), same.1)

-- a lexeme that cannot be laid is no step
pub IsStep-unlaid : (s : Layout) (text : List ℕ) (lexeme : Lexeme) (size : ℕ)
    → IsLexeme text lexeme size
    → layout_after lexeme (take size text) s ≡ None
    → (t : Layout) (n : ℕ)
    → IsStep s text t n
    → ⊥
IsStep-unlaid s text lexeme size stands none t n step =
    let same = IsLexeme-unique text lexeme step.lexeme size n stands step.stands in
    let laid_so : layout_after step.lexeme (take n text) s
    ≡ layout_after lexeme (take size text) s = ap
    (λ (p : Lexeme). layout_after p (take n text) s) (sym same.0)
    ∙ ap (λ (k : ℕ). layout_after lexeme (take k text) s) (sym same.1) in
    none-some t (layout_after step.lexeme (take n text) s) (laid_so ∙ none) step.laid_out

pub IsStep-no_lexeme : (s : Layout) (text : List ℕ)
    → ((lexeme : Lexeme) (n : ℕ) → IsLexeme text lexeme n → ⊥)
    → (t : Layout) (n : ℕ)
    → IsStep s text t n
    → ⊥
IsStep-no_lexeme s text none t n step = none step.lexeme n step.stands

pub IsStep-within : (s : Layout) (text : List ℕ) (t : Layout) (n : ℕ)
    → IsStep s text t n
    → (0 < n) × (n ≤ length text)
IsStep-within s text t n step = IsLexeme-within text step.lexeme n step.stands

-- the tokens at the end are those of the layout
LexesFrom-ended : (s : Layout) (text : List ℕ) (tokens : List Token)
    → length text ≡ 0
    → LexesFrom s text tokens
    → tokens ≡ tokens_at_end s
LexesFrom-ended s text tokens none (ends _) = refl
LexesFrom-ended s text tokens none
    (goes _ t _ n _ step more) = let inside = IsStep-within s text t n step in absurd (omega arith)

LexesFrom-gone : (s : Layout) (text : List ℕ) (t : Layout) (n : ℕ) (tokens : List Token)
    → IsStep s text t n
    → LexesFrom s text tokens
    → LexesFrom t (drop n text) tokens
LexesFrom-gone s text t n tokens step (ends _) = let inside = IsStep-within s [] t n step in absurd
    (omega arith)
LexesFrom-gone s text t n tokens step (goes _ u _ m _ other more) =
    let same = IsStep-unique s text u t m n other step in
    subst (λ (k : ℕ). LexesFrom t (drop k text) tokens) same.1
    (subst (λ (v : Layout). LexesFrom v (drop m text) tokens) same.0 more)

LexesFrom-stuck : (s : Layout) (text : List ℕ) (tokens : List Token)
    → 0 < length text
    → ((t : Layout) (n : ℕ) → IsStep s text t n → ⊥)
    → LexesFrom s text tokens
    → ⊥
LexesFrom-stuck s text tokens some none (ends _) = absurd (omega arith)
LexesFrom-stuck s text tokens some none (goes _ t _ n _ step more) = none t n step

-- the layout so far and the rest of the text, which is UTF-8, beside the whole text
pub record Scans (whole : List ℕ) (s : Layout) (rest : List ℕ) : Type 0 where
  pub placed : s.at + length rest ≡ length whole
  pub bounded : IsBounded s
  pub utf8 : IsUtf8 rest
  pub completes : (tokens : List Token) → LexesFrom s rest tokens → Lexes whole tokens
  pub only : (tokens : List Token) → Lexes whole tokens → LexesFrom s rest tokens

pub Scans-start : (whole : List ℕ) → IsUtf8 whole → Scans whole start whole
unfolding Lexes
Scans-start whole utf8 = record {
  placed = omega arith;
  bounded = record { line = omega arith; depth = omega arith };
  utf8 = utf8;
  completes = λ tokens lexes. lexes;
  only = λ tokens lexes. lexes;
}

pub Scans-step : (whole : List ℕ) (s : Layout) (rest : List ℕ) (t : Layout) (n : ℕ)
    → Scans whole s rest
    → IsStep s rest t n
    → Scans whole t (drop n rest)
Scans-step whole s rest t n so_far step =
    let inside = IsStep-within s rest t n step in
    let front : length (take n rest) ≡ n = length-take-le n rest inside.1 in
    let shorter : length (drop n rest) ≡ length rest - n = length-drop n rest in
    let next = layout_after-bounded step.lexeme (take n rest) s t
    (omega arith) step.laid_out so_far.bounded in
    let moved_so : t.at ≡ s.at + length (take n rest) = next.0 in
    let placed : s.at + length rest ≡ length whole = so_far.placed in
    record {
      placed = omega arith;
      bounded = next.1;
      utf8 = IsLexeme-utf8 rest step.lexeme n so_far.utf8 step.stands;
      completes = λ tokens lexes. so_far.completes tokens (goes s t rest n tokens step lexes);
      only = λ tokens lexes. LexesFrom-gone s rest t n tokens step (so_far.only tokens lexes);
    }

pub Scans-ended : (whole : List ℕ) (s : Layout) (rest : List ℕ)
    → Scans whole s rest
    → length rest ≡ 0
    → Lexes whole (tokens_at_end s)
Scans-ended whole s [] so_far none = so_far.completes (tokens_at_end s) (ends s)
Scans-ended whole s (b ∷ rest) so_far none = absurd (omega arith)

pub Scans-stuck : (whole : List ℕ) (s : Layout) (rest : List ℕ)
    → Scans whole s rest
    → 0 < length rest
    → ((t : Layout) (n : ℕ) → IsStep s rest t n → ⊥)
    → (tokens : List Token)
    → Lexes whole tokens
    → ⊥
Scans-stuck whole s rest so_far some none tokens lexes = LexesFrom-stuck s rest tokens some none
    (so_far.only tokens lexes)

-- a layout gives one list of tokens
LexesFrom-unique : (s : Layout) (text : List ℕ) (tokens others : List Token)
    → LexesFrom s text tokens
    → LexesFrom s text others
    → tokens ≡ others
LexesFrom-unique s text tokens others (ends _) two = sym (LexesFrom-ended s [] others refl two)
LexesFrom-unique s text tokens others (goes _ t _ n _ step more) two = LexesFrom-unique t
    (drop n text) tokens others more (LexesFrom-gone s text t n others step two)

pub Lexes-unique : (text : List ℕ) (tokens others : List Token)
    → Lexes text tokens
    → Lexes text others
    → tokens ≡ others
unfolding Lexes
Lexes-unique text tokens others one two = LexesFrom-unique start text tokens others one two

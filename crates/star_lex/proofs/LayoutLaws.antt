-- Where a layout stands behind a lexeme.
use Rattle.std.proofs.Common.{◌≡◌, ℕ, ◌<◌, ◌≤◌, ◌+◌, ◌-◌, ◌==◌, cond, List, [], ◌∷◌, ◌++◌, length}
use Rattle.std.proofs.Common.{slice_index, count_by, Option, Some, None, eqb, ltb, refl, arith}
use Rattle.std.proofs.Common.{subst}
use Rattle.std.proofs.lemmas.Bool.{cond_both}
use Rattle.std.proofs.lemmas.List.Sums.{count_by-le-length}
use Rattle.star_lex.specs.declared.token.Token.{Token}
use Rattle.star_lex.specs.declared.token.TokenKind.{TokenKind}
use Rattle.star_lex.specs.declared.token.TokenKind.TheVariants.{Indent, Outdent}
use Rattle.star_lex.specs.declared.layout.Phase.{Phase}
use Rattle.star_lex.specs.declared.layout.Phase.TheVariants.{Fresh, Continued, Begun}
use Rattle.star_lex.specs.declared.layout.Layout.{Layout}
use Rattle.star_lex.specs.declared.lexemes.Lexeme.{Lexeme}
use Rattle.star_lex.specs.declared.lexemes.Lexeme.TheVariants.{Whitespace, Comment, LineEnd}
use Rattle.star_lex.specs.declared.lexemes.Lexeme.TheVariants.{LineContinuation, Shown}
use Rattle.star_lex.specs.Layouts.{top, levels_at_width, with_levels, here, with_whitespace_in}
use Rattle.star_lex.specs.Layouts.{with_continuation_in, with_line_end_in, with_line_end}
use Rattle.star_lex.specs.Layouts.{after_indentation, after_indentation_in, after_margin}
use Rattle.star_lex.specs.Layouts.{after_width, with_shown, after_shown, behind_bytes, nested}
use Rattle.star_lex.specs.Layouts.{opens, shuts, layout_after}

-- no more lines than bytes and no more brackets than bytes are behind a layout
pub record IsBounded (s : Layout) : Type 0 where
  pub line : s.line ≤ s.at + 1
  pub depth : s.depth ≤ s.at

abbrev Stands : Layout → Layout → Type 0
Stands s t = (t.at ≡ s.at) × (t.line ≡ s.line) × (t.depth ≤ s.depth + 1)

abbrev StandsIn : Layout → Option Layout → Type 0
StandsIn s None = Unit {0}
StandsIn s (Some t) = (t.at ≡ s.at) × (t.line ≡ s.line) × (t.depth ≡ s.depth)

spaced-stands : (phase : Phase) (front : List ℕ) (s : Layout)
    → Stands s (with_whitespace_in phase front s)
spaced-stands Fresh front s = (refl, refl, omega arith)
spaced-stands Continued front s = (refl, refl, omega arith)
spaced-stands Begun front s = (refl, refl, omega arith)

continued_line-stands : (phase : Phase) (s : Layout) → Stands s (with_continuation_in phase s)
continued_line-stands Fresh s = (refl, refl, omega arith)
continued_line-stands Continued s = (refl, refl, omega arith)
continued_line-stands Begun s = (refl, refl, omega arith)

with_line_end_in-stands : (phase : Phase) (front : List ℕ) (s : Layout)
    → Stands s (with_line_end_in phase front s)
with_line_end_in-stands Fresh front s = (refl, refl, omega arith)
with_line_end_in-stands Continued front s = (refl, refl, omega arith)
with_line_end_in-stands Begun front s = (refl, refl, omega arith)

with_line_end-stands : (front : List ℕ) (s : Layout) → Stands s (with_line_end front s)
with_line_end-stands front s = cond_both (eqb s.depth 0) (with_line_end_in s.phase front s) s
    (Stands s) (λ e. with_line_end_in-stands s.phase front s) (λ e. (refl, refl, omega arith))

with_levels-stands : (s : Layout) (parts : Option (List ℕ × List Token))
    → StandsIn s (with_levels s parts)
with_levels-stands s None = tt
with_levels-stands s (Some parts) = (refl, refl, refl)

after_width-stands : (s : Layout) → StandsIn s (after_width s)
after_width-stands s =
    cond_both (ltb (top s.levels) s.width)
    (Some (record s { levels = s.width ∷ s.levels; tokens = s.tokens ++ here Indent s ∷ [] }))
    (with_levels s (levels_at_width (here Outdent s) s.width s.levels s.tokens)) (StandsIn s)
    (λ e. (refl, refl, refl))
    (λ e. with_levels-stands s (levels_at_width (here Outdent s) s.width s.levels s.tokens))

after_margin-stands : (s : Layout) → StandsIn s (after_margin s)
after_margin-stands s = cond_both s.tabbed None (after_width s) (StandsIn s) (λ e. tt)
    (λ e. after_width-stands s)

after_indentation_in-stands : (phase : Phase) (s : Layout)
    → StandsIn s (after_indentation_in phase s)
after_indentation_in-stands Begun s = (refl, refl, refl)
after_indentation_in-stands Fresh s = after_margin-stands s
after_indentation_in-stands Continued s = after_margin-stands s

after_indentation-stands : (s : Layout) → StandsIn s (after_indentation s)
unfolding after_indentation
after_indentation-stands s = after_indentation_in-stands s.phase s

nested-more : (b depth : ℕ) → nested b depth ≤ depth + 1
nested-more b depth =
    cond_both (opens b) (depth + 1) (cond (shuts b) (depth - 1) depth) (λ (k : ℕ). k ≤ depth + 1)
    (λ e. omega arith)
    (λ e. cond_both (shuts b) (depth - 1) depth (λ (k : ℕ). k ≤ depth + 1) (λ f. omega arith)
    (λ f. omega arith))

count-few : (front : List ℕ) → count_by (λ b. b == 10) front ≤ length front
count-few front = count_by-le-length (λ b. b == 10) front

-- what a lexeme leads to, where it leads anywhere
abbrev Moves : Layout → List ℕ → Option Layout → Type 0
Moves s front None = Unit {0}
Moves s front (Some t) = (t.at ≡ s.at + length front) × IsBounded t

behind_bytes-moves : (front : List ℕ) (s t : Layout)
    → 0 < length front
    → IsBounded s
    → Stands s t
    → Moves s front (Some (behind_bytes front t))
behind_bytes-moves front s t some bounded stands =
    let at : t.at ≡ s.at = stands.0 in
    let line : t.line ≡ s.line = stands.1 in
    let depth : t.depth ≤ s.depth + 1 = stands.2 in
    let low : s.line ≤ s.at + 1 = bounded.line in
    let few : s.depth ≤ s.at = bounded.depth in
    let feeds : count_by (λ b. b == 10) front ≤ length front = count-few front in
    (omega arith, record { line = omega arith; depth = omega arith })

with_shown-moves : (kind : TokenKind) (front : List ℕ) (s : Layout) (o : Option Layout)
    → 0 < length front
    → IsBounded s
    → StandsIn s o
    → Moves s front (after_shown kind front o)
with_shown-moves kind front s None some bounded stands = tt
with_shown-moves kind front s (Some t) some bounded stands =
    let deep : nested (slice_index front 0) t.depth ≤ t.depth + 1 = nested-more
    (slice_index front 0) t.depth in
    let depth : t.depth ≡ s.depth = stands.2 in
    behind_bytes-moves front s (with_shown kind front t) some bounded
    (stands.0, stands.1, omega arith)

layout_after-moves : (lexeme : Lexeme) (front : List ℕ) (s : Layout)
    → 0 < length front
    → IsBounded s
    → Moves s front (layout_after lexeme front s)
unfolding layout_after
layout_after-moves Whitespace front s some bounded = behind_bytes-moves front s
    (with_whitespace_in s.phase front s) some bounded (spaced-stands s.phase front s)
layout_after-moves Comment front s some bounded = behind_bytes-moves front s s some bounded
    (refl, refl, omega arith)
layout_after-moves LineEnd front s some bounded = behind_bytes-moves front s
    (with_line_end front s) some bounded (with_line_end-stands front s)
layout_after-moves LineContinuation front s some bounded = behind_bytes-moves front s
    (with_continuation_in s.phase s) some bounded (continued_line-stands s.phase s)
layout_after-moves (Shown kind) front s some bounded = with_shown-moves kind front s
    (after_indentation s) some bounded (after_indentation-stands s)

pub layout_after-bounded : (lexeme : Lexeme) (front : List ℕ) (s t : Layout)
    → 0 < length front
    → layout_after lexeme front s ≡ Some t
    → IsBounded s
    → (t.at ≡ s.at + length front) × IsBounded t
layout_after-bounded lexeme front s t some e bounded = subst
    (λ (o : Option Layout). Moves s front o) e (layout_after-moves lexeme front s some bounded)

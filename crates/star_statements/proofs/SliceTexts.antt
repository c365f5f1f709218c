-- The slices of a text under its tokens.
use Rattle.std.proofs.Common.{◌≡◌, ℕ, suc, ◌+◌, ◌-◌, ◌<◌, ◌≤◌, Bool, true, false, ◌&&◌, List, []}
use Rattle.std.proofs.Common.{◌∷◌, ◌++◌, length, take, drop, slice_index, map, refl, ap, sym, subst}
use Rattle.std.proofs.Common.{◌∙◌, arith, IsUtf8}
use Rattle.std.proofs.lemmas.List.{append_assoc}
use Rattle.star_lex.specs.declared.token.Token.{Token}
use Rattle.star_lex.specs.Slices.{AreSlices}
use Rattle.star_grammar.specs.declared.symbols.Symbol.{Symbol}
use Rattle.star_grammar.specs.Symbols.{symbol_of, symbols_of}
use Rattle.star_statements.specs.Slices.{IsPlaced}

ends-within : (text : List ℕ) (from : ℕ) (tokens : List Token) (to : ℕ)
    → AreSlices text from tokens to
    → from ≤ to
ends-within text from [] to h = h
ends-within text from (token ∷ tokens) to h =
    let later = ends-within text token.end tokens to h.3 in
    let first = h.0 in
    let second = h.1 in
    omega arith

pub first-placed : (text : List ℕ) (from : ℕ) (token : Token) (tokens : List Token)
    → AreSlices text from (token ∷ tokens) (length text)
    → IsPlaced text token
first-placed text from token tokens h = record
    { ordered = h.1; within = ends-within text token.end tokens (length text) h.3; slice = h.2 }

-- the symbols so far, and the tokens that are left where they stand
pub record Taken (text : List ℕ) (tokens : List Token) (symbols : List Symbol)
    (rest : List Token) : Type 0 where
  pub at : ℕ
  pub slices : AreSlices text at rest (length text)
  pub all : symbols_of text tokens ≡ symbols ++ symbols_of text rest

pub Taken-start : (text : List ℕ) (tokens : List Token)
    → AreSlices text 0 tokens (length text)
    → Taken text tokens [] tokens
Taken-start text tokens slices = record { at = 0; slices = slices; all = refl }

pub Taken-placed : (text : List ℕ) (tokens : List Token) (symbols : List Symbol) (rest : List Token)
    (token : Token) (more : List Token)
    → rest ≡ token ∷ more
    → Taken text tokens symbols rest
    → IsPlaced text token
Taken-placed text tokens symbols rest token more is taken =
    first-placed text taken.at token more
    (subst (λ (all : List Token). AreSlices text taken.at all (length text)) is taken.slices)

pub Taken-next : (text : List ℕ) (tokens : List Token) (symbols : List Symbol) (rest : List Token)
    (token : Token) (more : List Token) → rest ≡ token ∷ more
    → Taken text tokens symbols rest → Taken text tokens (symbols ++ symbol_of text token ∷ []) more
Taken-next text tokens symbols rest token more is taken =
    let slices = subst (λ (all : List Token). AreSlices text taken.at all (length text)) is
    taken.slices in record {
      at = token.end;
      slices = slices.3;
      all = taken.all ∙ (ap (λ (all : List Token). symbols ++ symbols_of text all) is ∙ sym
          (append_assoc symbols (symbol_of text token ∷ []) (symbols_of text more)));
    }

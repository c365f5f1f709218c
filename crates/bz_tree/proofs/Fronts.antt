-- A text without its front.
use Rattle.std.proofs.Common.{◌≡◌, ℕ, ◌+◌, true, false, List, length, drop, Option, Some, None}
use Rattle.std.proofs.Common.{MatchOption, refl, ap, sym, ◌∙◌, option_copied, subst, IsCharBoundary}
use denote.Ref.{Bor}
use Rattle.std.proofs.lemmas.Str.Pattern.{starts_text}
use Rattle.std.specs.Str.Pattern.{FindsTextPrefix}
use Rattle.bz_tree.specs.Places.{stripped}

-- what `strip_prefix` says at a text
abbrev pub IsStrip : List ℕ → List ℕ → Option (Bor (List ℕ)) → Type 0
IsStrip front text rest = MatchOption rest (FindsTextPrefix front text None)
    (λ x. (n : ℕ) × FindsTextPrefix front text (Some n) × (x.now ≡ drop n text)
    × (length x.now + n ≡ length text))

pub stripped-strip : (front text : List ℕ) (rest : Option (Bor (List ℕ)))
    → IsStrip front text rest
    → option_copied rest ≡ stripped front text
stripped-strip front text None h = rw (← starts_text false front text h) refl
stripped-strip front text (Some rest) h =
    let at : h.0 ≡ length front = h.1.0 in
    let boundary = h.1.2 in
    rw (← starts_text true front text
    (h.0, h.1, subst (λ n. IsCharBoundary text n) (sym at) boundary))
    (ap Some (h.2 ∙ ap (λ n. drop n text) at))

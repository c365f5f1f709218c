use Rattle.std.proofs.Common.{◌≡◌, ℕ, List, [], ◌∷◌, ◌++◌, inl, inr, zip, ap, sym, ◌∙◌, append-nil}
use Rattle.std.proofs.Common.{refl}
use Rattle.std.proofs.lemmas.List.{nil_from_length}
use Rattle.std.specs.Prelude.{flat_map}
use Rattle.mod_command.proofs.graph_text.push_deps.Goals as goal

zip-nil : {X Y : Type 0} (xs : List X) (ys : List Y) → ys ≡ [] → zip xs ys ≡ []
zip-nil [] ys none = refl
zip-nil (x ∷ xs) ys none = rw none refl

-- where no pair is left, all is written
ended : {X : Type 0} (line : X → List ℕ) (left : List X) (written all : List ℕ)
    → left ≡ []
    → written ++ flat_map line left ≡ all
    → written ≡ all
ended line left written all none so = sym (append-nil written)
    ∙ ap (λ rest. written ++ flat_map line rest) (sym none) ∙ so

pub returns : goal.returns
returns c = elim c.in-None.ensures.steps [
  | inl first ↦ ended _ _ _ _
      (ap (λ deps. zip deps c.loop-dep.dep-iterator.b.rest.now)
      (nil_from_length _ first.1.0)) c.loop-dep.invariant
  | inr second ↦ ended _ _ _ _
      (zip-nil c.loop-dep.dep-iterator.a.rest.now _
      (nil_from_length _ second.1.0)) c.loop-dep.invariant
]

-- A text written piece by piece.
use Rattle.std.proofs.Common.{◌≡◌, ℕ, List, ◌++◌, take, drop, Option, Some, None, refl, ap, ◌∙◌}
use Rattle.std.proofs.Common.{append_assoc}
use Rattle.std.proofs.lemmas.List.{take-append-drop}
use Rattle.bz_tree.specs.Writes.{appended}

-- the bytes but for a rest were written
pub record IsSplitWritten (before : Option (List ℕ)) (bytes rest : List ℕ)
    (now : Option (List ℕ)) : Type 0 where
  pub front : List ℕ
  pub whole : front ++ rest ≡ bytes
  pub written : now ≡ appended before front

appended-appended : (before : Option (List ℕ)) (front more : List ℕ)
    → appended (appended before front) more ≡ appended before (front ++ more)
appended-appended None front more = refl
appended-appended (Some written) front more = ap Some (append_assoc written front more)

-- one more piece moves the cut
pub IsSplitWritten-more : {before : Option (List ℕ)} {bytes rest : List ℕ} {middle now : Option
    (List ℕ)} (taken : ℕ)
    → IsSplitWritten before bytes rest middle
    → now ≡ appended middle (take taken rest)
    → IsSplitWritten before bytes (drop taken rest) now
IsSplitWritten-more {before} {bytes} {rest} {middle} {now} taken split e =
    record {
      front = split.front ++ take taken rest;
      whole = append_assoc split.front (take taken rest) (drop taken rest)
          ∙ ap (λ tail. split.front ++ tail) (take-append-drop taken rest) ∙ split.whole;
      written = e ∙ ap (λ w. appended w (take taken rest)) split.written
          ∙ appended-appended before split.front (take taken rest);
    }

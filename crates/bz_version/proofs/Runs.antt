-- Runs of the reader over a text.
use Rattle.std.proofs.Common.{◌≡◌, ℕ, suc, ◌<◌, ◌≤◌, ◌+◌, Bool, true, false, if◌then◌else◌, List}
use Rattle.std.proofs.Common.{[], ◌∷◌, ◌++◌, length, take, Option, Some, None, refl, arith}
use Rattle.std.specs.Option.{option_map_or}
use Rattle.bz_version.specs.Scan.{fault_from, may_end, next_place}
use Rattle.bz_version.specs.declared.scanner.Place.{Place}

-- the place behind a text, if a version can go on so far
abbrev pub place_behind : Place → List ℕ → Option Place
place_behind place [] = Some place
place_behind place (b ∷ rest) = option_map_or (λ next. place_behind next rest)
    (next_place place b) None

-- a version may go on with the text and end behind it
abbrev pub finishes : Place → List ℕ → Bool
finishes place [] = may_end place
finishes place (b ∷ rest) = option_map_or (λ next. finishes next rest) (next_place place b) false

pub place_behind-append : (place : Place) (xs ys : List ℕ)
    → place_behind place (xs ++ ys)
    ≡ option_map_or (λ next. place_behind next ys) (place_behind place xs) None
place_behind-append place [] ys = refl
place_behind-append place (b ∷ xs) ys =
    elim (next_place place b) as
    (λ o. option_map_or (λ next. place_behind next (xs ++ ys)) o None
    ≡ option_map_or (λ next. place_behind next ys)
    (option_map_or (λ next. place_behind next xs) o None) None) [
      | None ↦ refl
      | Some next ↦ place_behind-append next xs ys
    ]

pub finishes-append : (place : Place) (xs ys : List ℕ)
    → finishes place (xs ++ ys)
    ≡ option_map_or (λ next. finishes next ys) (place_behind place xs) false
finishes-append place [] ys = refl
finishes-append place (b ∷ xs) ys =
    elim (next_place place b) as
    (λ o. option_map_or (λ next. finishes next (xs ++ ys)) o false
    ≡ option_map_or (λ next. finishes next ys)
    (option_map_or (λ next. place_behind next xs) o None) false) [
      | None ↦ refl
      | Some next ↦ finishes-append next xs ys
    ]

-- a text that finishes has no fault
pub fault_from-finishes : (place : Place) (index : ℕ) (text : List ℕ)
    → finishes place text ≡ true
    → fault_from place index text ≡ None
fault_from-finishes place index [] f = rw f refl
fault_from-finishes place index (b ∷ rest) f =
    (elim (next_place place b) as
    (λ o. option_map_or (λ next. finishes next rest) o false ≡ true
    → option_map_or (λ next. fault_from next (index + 1) rest) o (Some index) ≡ None) [
      | None ↦ λ f. absurd (cc f)
      | Some next ↦ λ f. fault_from-finishes next (index + 1) rest f
    ]) f

-- a text without fault finishes
pub finishes-faultless : (place : Place) (index : ℕ) (text : List ℕ)
    → fault_from place index text ≡ None
    → finishes place text ≡ true
finishes-faultless place index [] e =
    (elim (may_end place) as
    (λ (end : Bool). (if end then None else Some index) ≡ None → end ≡ true) [
      | true ↦ λ e. refl
      | false ↦ λ e. absurd (cc e)
    ]) e
finishes-faultless place index (b ∷ rest) e =
    (elim (next_place place b) as
    (λ o. option_map_or (λ next. fault_from next (index + 1) rest) o (Some index) ≡ None
    → option_map_or (λ next. finishes next rest) o false ≡ true) [
      | None ↦ λ e. absurd (cc e)
      | Some next ↦ λ e. finishes-faultless next (index + 1) rest e
    ]) e

-- where the fault is: a version can go on so far and no further, or not end there
pub record FaultAt (place : Place) (index : ℕ) (text : List ℕ) (fault : ℕ) : Type 0 where
  pub bytes : ℕ
  pub is : fault ≡ index + bytes
  pub within : bytes ≤ length text
  pub next : Place
  pub goes_on : place_behind place (take bytes text) ≡ Some next
  pub stops : bytes < length text → place_behind place (take (suc bytes) text) ≡ None
  pub unfinished : finishes place text ≡ false

pub fault_at : (place : Place) (index : ℕ) (text : List ℕ) (fault : ℕ)
    → fault_from place index text ≡ Some fault
    → FaultAt place index text fault
fault_at place index [] fault e =
    (elim (may_end place) as
    (λ (end : Bool). may_end place ≡ end
    → (if end then None else Some index) ≡ Some fault
    → FaultAt place index [] fault) [
      | true ↦ λ m e. absurd (cc e)
      | false ↦ λ m e. let same : index ≡ fault = cc e in
          record {
            bytes = 0;
            is = omega arith;
            within = omega arith;
            next = place;
            goes_on = refl;
            stops = λ h. absurd (omega arith);
            unfinished = m;
          }
    ]) refl e
fault_at place index (b ∷ rest) fault e =
    (elim (next_place place b) as
    (λ o. next_place place b ≡ o
    → option_map_or (λ next. fault_from next (index + 1) rest) o (Some index) ≡ Some fault
    → FaultAt place index (b ∷ rest) fault) [
      | None ↦ λ n e. let same : index ≡ fault = cc e in
          record {
            bytes = 0;
            is = omega arith;
            within = omega arith;
            next = place;
            goes_on = refl;
            stops = λ h. rw n refl;
            unfinished = rw n refl;
          }
      | Some next ↦ λ n e. let more = fault_at next (index + 1) rest fault e in
          record {
            bytes = suc more.bytes;
            is = omega arith;
            within = omega arith;
            next = more.next;
            goes_on = rw n more.goes_on;
            stops = λ h. rw n (more.stops (omega arith));
            unfinished = rw n more.unfinished;
          }
    ]) refl e

-- What holds of each item of a list, and of each pair of two lists.
use Rattle.std.proofs.Common.{List, [], ◌∷◌, ◌++◌}
use Rattle.std.specs.List.{AllByRecursion, AllZip}

pub AllByRecursion-weaker : {X : Type 0} (P Q : X → Type 0)
    → ((x : X) → P x → Q x)
    → (xs : List X)
    → AllByRecursion P xs
    → AllByRecursion Q xs
AllByRecursion-weaker P Q weaker [] all = tt
AllByRecursion-weaker P Q weaker (x ∷ xs) all =
    (weaker x all.0, AllByRecursion-weaker P Q weaker xs all.1)

pub AllByRecursion-both : {X : Type 0} (P Q R : X → Type 0)
    → ((x : X) → P x → Q x → R x)
    → (xs : List X)
    → AllByRecursion P xs
    → AllByRecursion Q xs
    → AllByRecursion R xs
AllByRecursion-both P Q R both [] all those = tt
AllByRecursion-both P Q R both (x ∷ xs) all those =
    (both x all.0 those.0, AllByRecursion-both P Q R both xs all.1 those.1)

pub AllZip-weaker : {A B : Type 0} (P Q : A → B → Type 0)
    → ((x : A) (y : B) → P x y → Q x y)
    → (xs : List A) (ys : List B)
    → AllZip P xs ys
    → AllZip Q xs ys
AllZip-weaker P Q weaker [] [] all = tt
AllZip-weaker P Q weaker [] (y ∷ ys) all = absurd all
AllZip-weaker P Q weaker (x ∷ xs) [] all = absurd all
AllZip-weaker P Q weaker (x ∷ xs) (y ∷ ys) all =
    (weaker x y all.0, AllZip-weaker P Q weaker xs ys all.1)

-- what holds of each right item because of its left one
pub AllByRecursion-right : {A B : Type 0} (P : A → B → Type 0) (Q : B → Type 0)
    → ((x : A) (y : B) → P x y → Q y)
    → (xs : List A) (ys : List B)
    → AllZip P xs ys
    → AllByRecursion Q ys
AllByRecursion-right P Q right [] [] all = tt
AllByRecursion-right P Q right [] (y ∷ ys) all = absurd all
AllByRecursion-right P Q right (x ∷ xs) [] all = absurd all
AllByRecursion-right P Q right (x ∷ xs) (y ∷ ys) all =
    (right x y all.0, AllByRecursion-right P Q right xs ys all.1)

pub AllByRecursion-left : {A B : Type 0} (P : A → B → Type 0) (Q : A → Type 0)
    → ((x : A) (y : B) → P x y → Q x)
    → (xs : List A) (ys : List B)
    → AllZip P xs ys
    → AllByRecursion Q xs
AllByRecursion-left P Q left [] [] all = tt
AllByRecursion-left P Q left [] (y ∷ ys) all = absurd all
AllByRecursion-left P Q left (x ∷ xs) [] all = absurd all
AllByRecursion-left P Q left (x ∷ xs) (y ∷ ys) all =
    (left x y all.0, AllByRecursion-left P Q left xs ys all.1)

-- pairs of which more is known of the right items
pub AllZip-beside : {A B : Type 0} (P : A → B → Type 0) (Q : B → Type 0) (R : A → B → Type 0)
    → ((x : A) (y : B) → P x y → Q y → R x y)
    → (xs : List A) (ys : List B)
    → AllZip P xs ys
    → AllByRecursion Q ys
    → AllZip R xs ys
AllZip-beside P Q R both [] [] all those = tt
AllZip-beside P Q R both [] (y ∷ ys) all those = absurd all
AllZip-beside P Q R both (x ∷ xs) [] all those = absurd all
AllZip-beside P Q R both (x ∷ xs) (y ∷ ys) all those =
    (both x y all.0 those.0, AllZip-beside P Q R both xs ys all.1 those.1)

-- what stands between two parts
pub AllByRecursion-between : {X : Type 0} (P : X → Type 0) (xs : List X) (x : X) (ys : List X)
    → AllByRecursion P (xs ++ x ∷ ys)
    → P x
AllByRecursion-between P [] x ys all = all.0
AllByRecursion-between P (first ∷ xs) x ys all = AllByRecursion-between P xs x ys all.1

pub AllZip-pushed : {A B : Type 0} (R : A → B → Type 0) (xs : List A) (ys : List B) (x : A) (y : B)
    → AllZip R xs ys
    → R x y
    → AllZip R (xs ++ x ∷ []) (ys ++ y ∷ [])
AllZip-pushed R [] [] x y all last = (last, tt)
AllZip-pushed R [] (b ∷ ys) x y all last = absurd all
AllZip-pushed R (a ∷ xs) [] x y all last = absurd all
AllZip-pushed R (a ∷ xs) (b ∷ ys) x y all last = (all.0, AllZip-pushed R xs ys x y all.1 last)

-- lists of one length, apart from their last items
pub AllZip-apart : {A B : Type 0} (Q R : A → B → Type 0) (xs : List A) (ys : List B) (x : A) (y : B)
    → AllZip Q xs ys
    → AllZip R (xs ++ x ∷ []) (ys ++ y ∷ [])
    → AllZip R xs ys × R x y
AllZip-apart Q R [] [] x y long all = (tt, all.0)
AllZip-apart Q R [] (b ∷ ys) x y long all = absurd long
AllZip-apart Q R (a ∷ xs) [] x y long all = absurd long
AllZip-apart Q R (a ∷ xs) (b ∷ ys) x y long all =
    let rest : AllZip R xs ys × R x y = AllZip-apart Q R xs ys x y long.1 all.1 in
    ((all.0, rest.0), rest.1)

-- Names, kept under owned texts.
use Rattle.std.proofs.Common.{◌≡◌, ℕ, ◌+◌, Bool, true, false, not, cond, List, [], ◌∷◌, ◌++◌, Some}
use Rattle.std.proofs.Common.{None, String, string_bytes, length, nat_lt, if◌then◌else◌, ◌||◌, suc}
use Rattle.std.proofs.Common.{position, refl, ap, ◌∙◌, take, get_or, slice_get, add-one}
use Rattle.std.proofs.Math.Seq.{take-suc}
use Rattle.std.proofs.lemmas.List.{map-append}
use Rattle.std.proofs.lemmas.Option.{get_or_from_slice_get, slice_get_within}
use Rattle.std.specs.List.{list_any, prefix_len}
use Rattle.std.specs.Str.{bytes_eq}
use Rattle.std.specs.String.{string_eq}
use Rattle.std.specs.declared.alloc.Global.{Global}
use Rattle.indexmap.specs.IndexSet.{insert_key}
use Rattle.star_names.specs.NameTexts.{names_of}
use Rattle.star_trees.specs.Variables.{slot_of, with_binding}

prefix-names : (name : List ℕ) (texts : List (String Global))
    → prefix_len (λ text. not (bytes_eq name (string_bytes text))) texts
    ≡ prefix_len (λ other. not (bytes_eq name other)) (names_of texts)
prefix-names name [] = refl
prefix-names name (text ∷ texts) = ap
    (λ n. cond (not (bytes_eq name (string_bytes text))) (1 + n) 0) (prefix-names name texts)

length-names : (texts : List (String Global)) → length texts ≡ length (names_of texts)
length-names [] = refl
length-names (text ∷ texts) = ap suc (length-names texts)

pub position-names : (name : List ℕ) (texts : List (String Global))
    → position (λ text. bytes_eq name (string_bytes text)) texts ≡ slot_of (names_of texts) name
position-names name texts = λ i. cond (nat_lt (prefix-names name texts i) (length-names texts i))
    (Some (prefix-names name texts i)) None

any-names : (text : String Global) (texts : List (String Global))
    → list_any (string_eq text) texts ≡ list_any (bytes_eq (string_bytes text)) (names_of texts)
any-names text [] = refl
any-names text (other ∷ texts) = ap
    (λ further. bytes_eq (string_bytes text) (string_bytes other) || further) (any-names text texts)

pub insert-names : (text : String Global) (texts : List (String Global))
    → names_of (insert_key string_eq texts text) ≡ with_binding (names_of texts) (string_bytes text)
insert-names text texts = by (list_any (string_eq text) texts) (any-names text texts)
  where
    last : (others : List (String Global))
        → names_of (others ++ text ∷ []) ≡ names_of others ++ string_bytes text ∷ []
    last [] = refl
    last (other ∷ others) = ap (λ names. string_bytes other ∷ names) (last others)

    by : (t : Bool)
        → t ≡ list_any (bytes_eq (string_bytes text)) (names_of texts)
        → names_of (if t then texts else texts ++ text ∷ [])
        ≡ with_binding (names_of texts) (string_bytes text)
    by true there = ap (λ t. if t then names_of texts else names_of texts ++ string_bytes text ∷ [])
        there
    by false there = last texts
        ∙ ap (λ t. if t then names_of texts else names_of texts ++ string_bytes text ∷ []) there

pub names-take : (texts : List (String Global)) (i : ℕ) (text : String Global)
    → slice_get texts i ≡ Some text
    → names_of (take (i + 1) texts) ≡ names_of (take i texts) ++ string_bytes text ∷ []
names-take texts i text e =
    ap (λ n. names_of (take n texts)) (add-one i)
    ∙ (ap names_of (take-suc texts i text (slice_get_within texts i text e))
    ∙ (map-append string_bytes (take i texts) (get_or texts i text ∷ [])
    ∙ ap (λ (x : String Global). names_of (take i texts) ++ string_bytes x ∷ [])
    (get_or_from_slice_get texts i text text e)))

-- A set of names beside the list of files.
use Rattle.std.proofs.Common.{◌≡◌, ℕ, ◌||◌, Bool, true, false, not, if◌then◌else◌, List, [], ◌∷◌}
use Rattle.std.proofs.Common.{◌++◌, Option, map, String, string_bytes, refl, ap, sym, ◌∙◌}
use Rattle.std.specs.List.{list_any}
use Rattle.std.specs.Str.{bytes_eq}
use Rattle.std.specs.String.{string_eq}
use Rattle.std.specs.declared.alloc.Global.{Global}
use Rattle.registry_index.specs.AskedFiles.{is_among, urls_of, with_hash}
use Rattle.registry_index.specs.declared.asked_files.FileHash.{FileHash}

any-keys : (key : String Global) (keys : List (String Global))
    → list_any (string_eq key) keys ≡ list_any (bytes_eq (string_bytes key)) (map string_bytes keys)
any-keys key [] = refl
any-keys key (one ∷ keys) = ap (λ further. string_eq key one || further) (any-keys key keys)

any-hashes : (url : List ℕ) (hashes : List FileHash)
    → list_any (bytes_eq url) (urls_of hashes) ≡ is_among url hashes
any-hashes url [] = refl
any-hashes url (one ∷ hashes) = ap (λ further. bytes_eq url one.url || further)
    (any-hashes url hashes)

pub set_finds : (key : String Global) (url : List ℕ) (keys : List (String Global))
    (hashes : List FileHash)
    → string_bytes key ≡ url
    → map string_bytes keys ≡ urls_of hashes
    → list_any (string_eq key) keys ≡ is_among url hashes
set_finds key url keys hashes same together =
    any-keys key keys ∙ (λ i. list_any (bytes_eq (same i)) (together i)) ∙ any-hashes url hashes

pub with_hash-known : (url : List ℕ) (hash : Option (List ℕ)) (hashes : List FileHash)
    → is_among url hashes ≡ true
    → with_hash url hash hashes ≡ hashes
with_hash-known url hash hashes e = ap
    (λ there. if there then hashes else hashes ++ record { url = url; hash = hash } ∷ []) e

pub with_hash-new : (url : List ℕ) (hash : Option (List ℕ)) (hashes : List FileHash)
    → is_among url hashes ≡ false
    → with_hash url hash hashes ≡ hashes ++ record { url = url; hash = hash } ∷ []
with_hash-new url hash hashes e = ap
    (λ there. if there then hashes else hashes ++ record { url = url; hash = hash } ∷ []) e

pub absent_if_added : (added there : Bool) → added ≡ not there → added ≡ true → there ≡ false
absent_if_added added true e t = absurd (cc (sym t ∙ e))
absent_if_added added false e t = refl

pub present_unless_added : (added there : Bool) → added ≡ not there → added ≡ false → there ≡ true
present_unless_added added true e t = refl
present_unless_added added false e t = absurd (cc (sym t ∙ e))

-- The form of a registry's text, as a test and as a relation.
use Rattle.std.proofs.Common.{◌≡◌, ◌≢◌, ℕ, ◌==◌, Bool, true, false, ◌&&◌, not, if◌then◌else◌}
use Rattle.std.proofs.Common.{List, [], ◌∷◌, ◌++◌, length, take, drop, Option, None, Some, Result}
use Rattle.std.proofs.Common.{Ok, Err, codes}
use Rattle.std.proofs.Common.{inl, inr, refl, ap, sym, ◌∙◌, ◌↔◌}
use Rattle.std.proofs.lemmas.Bool.{and_from, and_parts, true≢false, not_from_false}
use Rattle.std.proofs.lemmas.List.{take-append-drop}
use Rattle.std.proofs.lemmas.Slice.Eq.{bytes_eq-Decides}
use Rattle.std.proofs.Math.Seq.{drop-append_seam, take-append_seam}
use Rattle.std.specs.Str.{bytes_eq}
use Rattle.bz_base.specs.ModuleDeclarations.{IsRegistry, IsRegistryPath}
use Rattle.bz_base.specs.Paths.{is_rooted, joined}
use Rattle.bz_base.specs.declared.tree_path.BadPath.{BadPath}
use Rattle.bz_tree.specs.Places.{stripped}
use Rattle.registry_index.specs.Registries.{behind_scheme, in_workspace, is_registry}
use Rattle.registry_index.specs.Registries.{is_registry_by, is_registry_path, is_relative_registry}
use Rattle.registry_index.specs.Registries.{is_rooted_registry, is_same}

stripped-joined : (front rest : List ℕ) → stripped front (front ++ rest) ≡ Some rest
stripped-joined front rest =
    ap (λ begins. if begins then Some (drop (length front) (front ++ rest)) else None)
    ((bytes_eq-Decides front (take (length front) (front ++ rest))).1
    (sym (take-append_seam front rest)))
    ∙ ap Some (drop-append_seam front rest)

joined-by : (front text rest : List ℕ) (begins : Bool)
    → bytes_eq front (take (length front) text) ≡ begins
    → (if begins then Some (drop (length front) text) else None) ≡ Some rest
    → text ≡ front ++ rest
joined-by front text rest false e stands = absurd (cc stands)
joined-by front text rest true e stands =
    let behind : drop (length front) text ≡ rest = cc stands in
    sym (take-append-drop (length front) text)
    ∙ (λ i. sym ((bytes_eq-Decides front (take (length front) text)).0 e) i ++ behind i)

joined-stripped : (front text rest : List ℕ)
    → stripped front text ≡ Some rest
    → text ≡ front ++ rest
joined-stripped front text rest stands =
    joined-by front text rest (bytes_eq front (take (length front) text)) refl stands

unequal : (one other : List ℕ) → bytes_eq one other ≡ false → one ≢ other
unequal one other e same = true≢false (sym ((bytes_eq-Decides one other).1 same) ∙ e)

differ : (one other : List ℕ) → one ≢ other → bytes_eq one other ≡ false
differ one other apart = by (bytes_eq one other) refl
  where
    by : (t : Bool) → bytes_eq one other ≡ t → t ≡ false
    by true e = absurd (apart ((bytes_eq-Decides one other).0 e))
    by false e = refl

false_from_not : (t : Bool) → not t ≡ true → t ≡ false
false_from_not true e = absurd (cc e)
false_from_not false e = refl

same-stands : (path : List ℕ) (found : Result (List ℕ) BadPath)
    → is_same path found ≡ true
    → found ≡ Ok path
same-stands path (Ok other) e = ap Ok (sym ((bytes_eq-Decides path other).0 e))
same-stands path (Err bad) e = absurd (cc e)

path-stands : (path : List ℕ) → is_registry_path path ≡ true → IsRegistryPath path
unfolding is_registry_path
path-stands path e =
    let parts = and_parts _ _ e in
    (unequal path [] (false_from_not _ parts.0), same-stands path (joined [] path) parts.1)

path-is : (path : List ℕ) → IsRegistryPath path → is_registry_path path ≡ true
unfolding is_registry_path
path-is path stands =
    and_from _ _ (ap not (differ path [] stands.0))
    (ap (is_same path) stands.1 ∙ (bytes_eq-Decides path path).1 refl)

rooted-takes : (path : List ℕ) → is_rooted path ≡ true → take 1 path ≡ codes "/"
rooted-takes [] e = absurd (cc e)
rooted-takes (b ∷ bs) e = (bytes_eq-Decides (b ∷ []) (codes "/")).0 (and_from (b == 47) true e refl)

takes-rooted : (path : List ℕ) → take 1 path ≡ codes "/" → is_rooted path ≡ true
takes-rooted [] e = absurd (cc e)
takes-rooted (b ∷ bs) e = (and_parts (b == 47) true ((bytes_eq-Decides (b ∷ []) (codes "/")).1 e)).0

not-rooted : (path : List ℕ) → take 1 path ≢ codes "/" → is_rooted path ≡ false
not-rooted path apart = by (is_rooted path) refl
  where
    by : (t : Bool) → is_rooted path ≡ t → t ≡ false
    by true e = absurd (apart (rooted-takes path e))
    by false e = refl

relative-stands : (text path : List ℕ)
    → in_workspace text ≡ Some path
    → is_relative_registry path ≡ true
    → IsRegistry text
unfolding in_workspace
relative-stands text path found e =
    let parts = and_parts _ _ e in
    inl (
      path,
      joined-stripped (codes "file://%workspace%/") text path found,
      path-stands path parts.0,
      λ slash. true≢false (sym (takes-rooted path slash) ∙ false_from_not _ parts.1),
    )

rooted-stands : (text : List ℕ) (found : Option (List ℕ))
    → behind_scheme text ≡ found
    → is_rooted_registry found ≡ true
    → IsRegistry text
unfolding behind_scheme
rooted-stands text None found e = absurd (cc e)
rooted-stands text (Some path) found e =
    let parts = and_parts _ _ e in
    let front = and_parts _ _ parts.0 in
    inr (
      path,
      joined-stripped (codes "file://") text path found,
      path-stands path front.0,
      rooted-takes path front.1,
      unequal path (codes "/") (false_from_not _ parts.1),
    )

stands-by : (text : List ℕ) (found : Option (List ℕ))
    → in_workspace text ≡ found
    → is_registry_by found text ≡ true
    → IsRegistry text
stands-by text (Some path) found e = relative-stands text path found e
stands-by text None found e = rooted-stands text (behind_scheme text) refl e

workspace-not-rooted : (path : List ℕ)
    → take 1 path ≡ codes "/"
    → in_workspace (codes "file://" ++ path) ≡ None
unfolding in_workspace
workspace-not-rooted [] e = absurd (cc e)
workspace-not-rooted (b ∷ bs) e =
    let slash : b ≡ 47 = cc e in
    ap (λ one. stripped (codes "file://%workspace%/") (codes "file://" ++ one ∷ bs)) slash

relative-is : (text path : List ℕ)
    → text ≡ codes "file://%workspace%/" ++ path
    → IsRegistryPath path
    → take 1 path ≢ codes "/"
    → is_registry text ≡ true
unfolding in_workspace
relative-is text path e stands apart =
    ap is_registry e
    ∙ ap (λ found. is_registry_by found (codes "file://%workspace%/" ++ path))
    (stripped-joined (codes "file://%workspace%/") path)
    ∙ and_from _ _ (path-is path stands) (ap not (not-rooted path apart))

rooted-is : (text path : List ℕ)
    → text ≡ codes "file://" ++ path
    → IsRegistryPath path
    → take 1 path ≡ codes "/"
    → path ≢ codes "/"
    → is_registry text ≡ true
unfolding behind_scheme
rooted-is text path e stands slash apart =
    ap is_registry e
    ∙ ap (λ found. is_registry_by found (codes "file://" ++ path)) (workspace-not-rooted path slash)
    ∙ ap is_rooted_registry (stripped-joined (codes "file://") path)
    ∙ and_from _ _ (and_from _ _ (path-is path stands) (takes-rooted path slash))
    (ap not (differ path (codes "/") apart))

stands-is : (text : List ℕ) → IsRegistry text → is_registry text ≡ true
stands-is text (inl (path, e, stands, apart)) = relative-is text path e stands apart
stands-is text (inr (path, e, stands, slash, apart)) = rooted-is text path e stands slash apart

pub is_registry-IsRegistry : (text : List ℕ) → (is_registry text ≡ true) ↔ IsRegistry text
is_registry-IsRegistry text = (stands-by text (in_workspace text) refl, stands-is text)

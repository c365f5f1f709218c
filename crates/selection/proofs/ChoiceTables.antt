-- The table of choices, as the list of nodes grows.
use Rattle.std.proofs.Common.{◌≡◌, ℕ, Bool, true, false, ◌&&◌, not, List, [], ◌∷◌, ◌++◌, length}
use Rattle.std.proofs.Common.{Some, String, string_bytes, if◌then◌else◌, refl, ap, sym, ◌∙◌}
use Rattle.std.proofs.lemmas.Slice.Eq.{bytes_eq-Decides}
use Rattle.std.specs.Ordering.{ordering_reverse}
use Rattle.std.specs.Str.{bytes_eq}
use Rattle.std.specs.String.{string_eq}
use Rattle.std.specs.declared.alloc.Global.{Global}
use Rattle.std.specs.declared.cmp.Ordering.{Ordering}
use Rattle.std.specs.declared.cmp.Ordering.TheVariants.{Less, Equal, Greater}
use Rattle.indexmap.specs.IndexMap.{insert_entry}
use Rattle.bz_base.specs.declared.module_graph.GraphNode.{GraphNode}
use Rattle.bz_version.proofs.Orders.{precedence_chained, precedence_itself, precedence_same}
use Rattle.bz_version.proofs.Orders.{precedence_turned}
use Rattle.bz_version.specs.Precedence.{precedence}
use Rattle.selection.proofs.Choices.{Heights, next_index, index-grown}
use Rattle.selection.specs.ChoiceTables.{HasChoices, is_kept, listed}
use Rattle.selection.specs.Selection.{choice, is_greater, is_member, is_superior}

reverse_greater : (o : Ordering) → is_greater o ≡ true → ordering_reverse o ≡ Less
reverse_greater Less h = absurd (cc)
reverse_greater Equal h = absurd (cc)
reverse_greater Greater h = refl

is_superior-asymmetric : (x y : GraphNode) → is_superior x y ≡ true → is_superior y x ≡ false
is_superior-asymmetric x y h =
    ap is_greater (precedence_turned x.key.version y.key.version ∙ reverse_greater (precedence
    x.key.version y.key.version) h)

is_superior-lifted : (x y z : GraphNode)
    → is_superior y x ≡ false
    → is_superior z x ≡ true
    → is_superior z y ≡ true
is_superior-lifted x y z low high = by (precedence y.key.version x.key.version) refl low
  where
    below : precedence x.key.version z.key.version ≡ Less
    below = precedence_turned z.key.version x.key.version
        ∙ reverse_greater (precedence z.key.version x.key.version) high

    by : (o : Ordering)
        → precedence y.key.version x.key.version ≡ o
        → is_greater o ≡ false
        → is_superior z y ≡ true
    by Less o h = ap is_greater
        (precedence_turned y.key.version z.key.version
        ∙ ap ordering_reverse
        (precedence_chained y.key.version x.key.version z.key.version o below))
    by Equal o h = ap (λ version. is_greater (precedence z.key.version version))
        (precedence_same y.key.version x.key.version o) ∙ high
    by Greater o h = absurd (cc)

pub versions_have_heights : Heights GraphNode is_superior
versions_have_heights = record {
  irreflexive = λ x. ap is_greater (precedence_itself x.key.version);
  asymmetric = is_superior-asymmetric;
  lifted = is_superior-lifted;
}

-- what stands beside a name after one more entry
listed-insert_entry : (entries : List (String Global × ℕ)) (k : String Global) (index : ℕ)
    (name : List ℕ)
    → listed (insert_entry string_eq entries k index) name
    ≡ (if bytes_eq name (string_bytes k) then Some index else listed entries name)
listed-insert_entry [] k index name = refl
listed-insert_entry (e ∷ es) k index name = by (bytes_eq (string_bytes k) (string_bytes e.0)) refl
    (listed-insert_entry es k index name)
  where
    same : bytes_eq (string_bytes k) (string_bytes e.0) ≡ true
        → bytes_eq name (string_bytes k) ≡ bytes_eq name (string_bytes e.0)
    same h = ap (bytes_eq name) ((bytes_eq-Decides (string_bytes k) (string_bytes e.0)).0 h)

    twice : (b : Bool)
        → (if b then Some index else listed es name)
        ≡ (if b then Some index else if b then Some e.1 else listed es name)
    twice true = refl
    twice false = refl

    apart : bytes_eq (string_bytes k) (string_bytes e.0) ≡ false
        → (b : Bool)
        → bytes_eq name (string_bytes e.0) ≡ b
        → (d : Bool)
        → bytes_eq name (string_bytes k) ≡ d
        → listed (insert_entry string_eq es k index) name
        ≡ (if d then Some index else listed es name)
        → (if b then Some e.1 else listed (insert_entry string_eq es k index) name)
        ≡ (if d then Some index else if b then Some e.1 else listed es name)
    apart h true b true d further =
        let one : name ≡ string_bytes e.0 = (bytes_eq-Decides name (string_bytes e.0)).0 b in
        let other : name ≡ string_bytes k = (bytes_eq-Decides name (string_bytes k)).0 d in
        let both : string_bytes k ≡ string_bytes e.0 = sym other ∙ one in
        let yes : bytes_eq (string_bytes k) (string_bytes e.0)
        ≡ true = (bytes_eq-Decides (string_bytes k) (string_bytes e.0)).1 both in
        absurd (cc)
    apart h true b false d further = refl
    apart h false b true d further = further
    apart h false b false d further = further

    by : (t : Bool) → bytes_eq (string_bytes k) (string_bytes e.0) ≡ t
        → listed (insert_entry string_eq es k index) name
        ≡ (if bytes_eq name (string_bytes k) then Some index else listed es name)
        → listed (if t then (e.0, index) ∷ es else e ∷ insert_entry string_eq es k index) name
        ≡ (if bytes_eq name (string_bytes k) then Some index else listed (e ∷ es) name)
    by true t further = twice (bytes_eq name (string_bytes e.0))
        ∙ ap (λ b. if b then Some index else listed (e ∷ es) name) (sym (same t))
    by false t further = apart t (bytes_eq name (string_bytes e.0)) refl
        (bytes_eq name (string_bytes k)) refl further

choice-grown : (name : List ℕ) (nodes : List GraphNode) (node : GraphNode)
    → choice name (nodes ++ node ∷ [])
    ≡ next_index (is_member name) is_superior nodes node (choice name nodes)
choice-grown name nodes node = index-grown
    (is_member name) is_superior versions_have_heights nodes node

-- a node that leaves the choice of its group
pub HasChoices-kept : (nodes : List GraphNode) (node : GraphNode)
    (entries : List (String Global × ℕ)) → HasChoices nodes entries
    → is_kept nodes node (listed entries node.key.name) ≡ true
    → HasChoices (nodes ++ node ∷ []) entries
HasChoices-kept nodes node entries has kept name = has name
    ∙ sym (choice-grown name nodes node ∙ by (is_member name node) refl)
  where
    by : (m : Bool)
        → is_member name node ≡ m
        → (if m && not (is_kept nodes node (choice name nodes)) then Some (length nodes)
        else choice name nodes) ≡ choice name nodes
    by false m = refl
    by true m =
        let same : name ≡ node.key.name = (bytes_eq-Decides name node.key.name).0 m in
        let stays : is_kept nodes node (choice name nodes)
        ≡ true = ap (is_kept nodes node) (sym (has name) ∙ ap (listed entries) same) ∙ kept in
        ap (λ s. if not s then Some (length nodes) else choice name nodes) stays

-- a node that becomes the choice of its group
pub HasChoices-put : (nodes : List GraphNode) (node : GraphNode)
    (entries : List (String Global × ℕ)) (k : String Global) → HasChoices nodes entries
    → is_kept nodes node (listed entries node.key.name) ≡ false
    → string_bytes k ≡ node.key.name
    → HasChoices (nodes ++ node ∷ []) (insert_entry string_eq entries k (length nodes))
HasChoices-put nodes node entries k has left bytes name =
    listed-insert_entry entries k (length nodes) name
    ∙ ap (λ own. if bytes_eq name own then Some (length nodes) else listed entries name) bytes
    ∙ sym (choice-grown name nodes node ∙ by (is_member name node) refl)
  where
    by : (m : Bool)
        → is_member name node ≡ m
        → (if m && not (is_kept nodes node (choice name nodes)) then Some (length nodes)
        else choice name nodes) ≡ (if m then Some (length nodes) else listed entries name)
    by false m = sym (has name)
    by true m =
        let same : name ≡ node.key.name = (bytes_eq-Decides name node.key.name).0 m in
        let stays : is_kept nodes node (choice name nodes)
        ≡ false = ap (is_kept nodes node) (sym (has name) ∙ ap (listed entries) same) ∙ left in
        ap (λ s. if not s then Some (length nodes) else choice name nodes) stays

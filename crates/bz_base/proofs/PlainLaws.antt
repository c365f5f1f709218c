-- A good plain value is read back from its JSON.
use Rattle.std.proofs.Common.{◌≡◌, ℕ, zero, suc, ◌≤◌, max, ℤ, pos, negsuc, codes, IsTrue, Bool}
use Rattle.std.proofs.Common.{true, false, ◌&&◌, List, [], ◌∷◌, ◌++◌, map, Ok, Some, refl, ap, ◌∙◌}
use Rattle.std.proofs.Common.{sym, subst, arith, rules, append-nil}
use Rattle.std.proofs.lemmas.Bool.{and_parts, cond-true, ne_eqb, true≢false}
use Rattle.std.specs.List.{list_all}
use Rattle.serde_json.specs.Data.{Data, no_items, item, null, boolean, number, string, array}
use Rattle.serde_json.specs.Find.{of_integer}
use Rattle.serde_json.specs.View.{items_of}
use Rattle.bz_text.specs.Cuts.{cut_at_root}
use Rattle.bz_base.specs.Names.{is_canonical_byte, is_label_byte, is_package}
use Rattle.bz_base.specs.PlainLabels.{is_label, label_of, rooted_label, target_label}
use Rattle.bz_base.specs.PlainTexts.{json_of, json_of_pair, label_text, tagged}
use Rattle.bz_base.specs.PlainReading.{added, all_good, deepest, each_after, integer_of}
use Rattle.bz_base.specs.PlainReading.{has_64_bits, is_good, is_good_pair, label_plain, items_plain}
use Rattle.bz_base.specs.PlainReading.{pairs_plain, pair_depth, pair_of, paired, plain_depth}
use Rattle.bz_base.specs.PlainReading.{plain_layer, plain_of, plain_within, items_within}
use Rattle.bz_base.specs.PlainReading.{pairs_within}
use Rattle.bz_base.specs.declared.labels.Label.{Label}
use Rattle.bz_base.specs.declared.plain_values.Plain as plain
use Rattle.bz_base.specs.declared.plain_values.Plain.{Plain, the_lemmas, out-Plain, roll-Plain}
use Rattle.bz_base.specs.declared.plain_values.Plain.TheVariants.{rolls-None, rolls-Flag, rolls-Int}
use Rattle.bz_base.specs.declared.plain_values.Plain.TheVariants.{rolls-Text, rolls-Label}
use Rattle.bz_base.specs.declared.plain_values.Plain.TheVariants.{rolls-Items, rolls-Pairs}
use Rattle.bz_base.specs.declared.plain_values.Plain.TheOpen.{Plain-F}
use Rattle.bz_base.specs.declared.plain_values.PlainPair.{PlainPair}
use Rattle.std.proofs.lemmas.List.{append_assoc}
use Rattle.bz_text.proofs.CutLists.{Lacks, cut-at}
use Rattle.bz_base.proofs.PlainLayers.{items_within-suc, pairs_within-suc, plain_within_layer}

-- ---- labels

Lacks-list_all : (test : ℕ → Bool) (mark : ℕ)
    → test mark ≡ false
    → (bs : List ℕ)
    → list_all test bs ≡ true
    → Lacks mark bs
Lacks-list_all test mark fails [] h = tt
Lacks-list_all test mark fails (b ∷ bs) h =
    let parts = and_parts (test b) (list_all test bs) h in (
      ne_eqb b mark (λ e. true≢false (sym parts.0 ∙ ap test e ∙ fails)),
      Lacks-list_all test mark
          fails bs parts.1,
    )

Lacks-package : (text : List ℕ) → is_package text ≡ true → Lacks 58 text
Lacks-package [] h = tt
Lacks-package (b ∷ bs) h = Lacks-list_all is_label_byte 58 refl (b ∷ bs) (and_parts _ _ h).0

pub label_of-label_text : (label : Label)
    → is_label label ≡ true
    → label_of (label_text label) ≡ Ok label
unfolding label_of
label_of-label_text label good =
    let parts = and_parts _ _ good in
    let repo : Lacks 47 label.repo = Lacks-list_all is_canonical_byte 47 refl label.repo parts.0 in
    let pack : Lacks 58 label.package = Lacks-package label.package (and_parts _ _ parts.1).0 in
    let rooted : cut_at_root (label.repo ++ 47 ∷ 47 ∷ (label.package ++ 58 ∷ label.name))
    ≡ Some (label.repo, label.package ++ 58 ∷ label.name) = rw
    (cut-at 47 label.repo (47 ∷ (label.package ++ 58 ∷ label.name)) repo) refl in
    ap rooted_label rooted ∙ ap (target_label label.repo) (cut-at 58 label.package label.name pack)
    ∙ cond-true _ _ _ good

-- ---- a plain value's JSON, its depth and whether it is good, by its variant

pub json_of-None : json_of plain.None ≡ null
json_of-None = search (rules, the_lemmas)

pub json_of-Flag : (flag : Bool) → json_of (plain.Flag flag) ≡ boolean flag
json_of-Flag flag = search (rules, the_lemmas)

pub json_of-Int : (z : ℤ) → json_of (plain.Int z) ≡ number (of_integer z)
json_of-Int z = search (rules, the_lemmas)

pub json_of-Text : (text : List ℕ) → json_of (plain.Text text) ≡ string text
json_of-Text text = search (rules, the_lemmas)

pub json_of-Label : (label : Label)
    → json_of (plain.Label label) ≡ tagged (codes "label") (string (label_text label))
json_of-Label label = search (rules, the_lemmas)

pub json_of-Items : (values : List Plain)
    → json_of (plain.Items values) ≡ array (items_of (map json_of values))
json_of-Items values = search (rules, the_lemmas)

pub json_of-Pairs : (pairs : List PlainPair)
    → json_of (plain.Pairs pairs)
    ≡ tagged (codes "pairs") (array (items_of (map json_of_pair pairs)))
json_of-Pairs pairs = search (rules, the_lemmas)

pub json_of-pair : (pair : PlainPair)
    → json_of_pair pair ≡ array (item (json_of pair.key) (item (json_of pair.value) no_items))
json_of-pair pair = search (rules, the_lemmas)

pub depth-Items : (values : List Plain)
    → plain_depth (plain.Items values) ≡ suc (deepest (map plain_depth values))
depth-Items values = search (rules, the_lemmas)

pub depth-Pairs : (pairs : List PlainPair)
    → plain_depth (plain.Pairs pairs) ≡ suc (deepest (map pair_depth pairs))
depth-Pairs pairs = search (rules, the_lemmas)

pub depth-pair : (pair : PlainPair)
    → pair_depth pair ≡ max (plain_depth pair.key) (plain_depth pair.value)
depth-pair pair = search (rules, the_lemmas)

pub good-Int : (z : ℤ) → is_good (plain.Int z) ≡ has_64_bits z
good-Int z = search (rules, the_lemmas)

pub good-Label : (label : Label) → is_good (plain.Label label) ≡ is_label label
good-Label label = search (rules, the_lemmas)

pub good-Items : (values : List Plain)
    → is_good (plain.Items values) ≡ all_good (map is_good values)
good-Items values = search (rules, the_lemmas)

pub good-Pairs : (pairs : List PlainPair)
    → is_good (plain.Pairs pairs) ≡ all_good (map is_good_pair pairs)
good-Pairs pairs = search (rules, the_lemmas)

pub good-pair : (pair : PlainPair) → is_good_pair pair ≡ (is_good pair.key && is_good pair.value)
good-pair pair = search (rules, the_lemmas)

-- what is no list has no depth
pub depth-None : plain_depth plain.None ≡ 0
depth-None = search (rules, the_lemmas)

pub depth-Flag : (flag : Bool) → plain_depth (plain.Flag flag) ≡ 0
depth-Flag flag = search (rules, the_lemmas)

pub depth-Int : (z : ℤ) → plain_depth (plain.Int z) ≡ 0
depth-Int z = search (rules, the_lemmas)

pub depth-Text : (text : List ℕ) → plain_depth (plain.Text text) ≡ 0
depth-Text text = search (rules, the_lemmas)

pub depth-Label : (label : Label) → plain_depth (plain.Label label) ≡ 0
depth-Label label = search (rules, the_lemmas)

pub good-None : is_good plain.None ≡ true
good-None = search (rules, the_lemmas)

pub good-Flag : (flag : Bool) → is_good (plain.Flag flag) ≡ true
good-Flag flag = search (rules, the_lemmas)

pub good-Text : (text : List ℕ) → is_good (plain.Text text) ≡ true
good-Text text = search (rules, the_lemmas)

-- ---- what is written is read

abbrev Reads : ℕ → Plain → Type 0
Reads depth value = is_good value ≡ true
    → plain_depth value ≤ depth
    → plain_within depth (json_of value) ≡ Ok value

integer-read : (z : ℤ) → has_64_bits z ≡ true → integer_of (of_integer z) ≡ Ok (plain.Int z)
integer-read (pos n) h = cond-true _ _ _ h
integer-read (negsuc n) h = cond-true _ _ _ h

items-read : (depth : ℕ)
    → ((value : Plain) → Reads depth value)
    → (before values : List Plain)
    → all_good (map is_good values) ≡ true
    → deepest (map plain_depth values) ≤ depth
    → each_after (plain_within depth) (Ok before) (items_of (map json_of values))
    ≡ Ok (before ++ values)
items-read depth reads before [] good shallow = ap Ok (sym (append-nil before))
items-read depth reads before (value ∷ values) good shallow =
    let parts = and_parts _ _ good in
    let one : plain_within depth (json_of value) ≡ Ok value = reads value parts.0 (omega arith) in
    let more = items-read depth reads (before ++ value ∷ []) values parts.1 (omega arith) in
    ap (λ r. each_after (plain_within depth) (added before r) (items_of (map json_of values))) one
    ∙ more ∙ ap Ok (append_assoc before (value ∷ []) values)

pair-read : (depth : ℕ)
    → ((value : Plain) → Reads depth value)
    → (pair : PlainPair)
    → is_good_pair pair ≡ true
    → pair_depth pair ≤ depth
    → pair_of (plain_within depth) (json_of_pair pair) ≡ Ok pair
pair-read depth reads pair good shallow =
    let parts = and_parts (is_good pair.key) (is_good pair.value) (sym (good-pair pair) ∙ good) in
    let deep = depth-pair pair in
    let key : plain_within depth (json_of pair.key)
    ≡ Ok pair.key = reads pair.key parts.0 (omega arith) in
    let value : plain_within depth (json_of pair.value)
    ≡ Ok pair.value = reads pair.value parts.1 (omega arith) in
    ap (pair_of (plain_within depth)) (json_of-pair pair) ∙ (λ i. paired (key i) (value i))

pairs-read : (depth : ℕ)
    → ((value : Plain) → Reads depth value)
    → (before pairs : List PlainPair)
    → all_good (map is_good_pair pairs) ≡ true
    → deepest (map pair_depth pairs) ≤ depth
    → each_after (pair_of (plain_within depth)) (Ok before) (items_of (map json_of_pair pairs))
    ≡ Ok (before ++ pairs)
pairs-read depth reads before [] good shallow = ap Ok (sym (append-nil before))
pairs-read depth reads before (pair ∷ pairs) good shallow =
    let parts = and_parts _ _ good in
    let one : pair_of (plain_within depth) (json_of_pair pair)
    ≡ Ok pair = pair-read depth reads pair parts.0 (omega arith) in
    let more = pairs-read depth reads (before ++ pair ∷ []) pairs parts.1 (omega arith) in
    ap (λ r. each_after (pair_of (plain_within depth)) (added before r)
    (items_of (map json_of_pair pairs))) one ∙ more
    ∙ ap Ok (append_assoc before (pair ∷ []) pairs)

by_layer : (depth : ℕ) (value : Plain) (json : Data)
    → json_of value ≡ json
    → plain_layer (items_within depth) (pairs_within depth) json ≡ Ok value
    → plain_within depth (json_of value) ≡ Ok value
by_layer depth value json is reads = ap (plain_within depth) is ∙ plain_within_layer depth json
    ∙ reads

abbrev ItemsRead : ℕ → Type 0
ItemsRead depth = (values : List Plain)
    → all_good (map is_good values) ≡ true
    → suc (deepest (map plain_depth values)) ≤ depth
    → items_within depth (items_of (map json_of values)) ≡ Ok values

abbrev PairsRead : ℕ → Type 0
PairsRead depth = (pairs : List PlainPair)
    → all_good (map is_good_pair pairs) ≡ true
    → suc (deepest (map pair_depth pairs)) ≤ depth
    → pairs_within depth (items_of (map json_of_pair pairs)) ≡ Ok pairs

level-read : (depth : ℕ)
    → ItemsRead depth
    → PairsRead depth
    → (layer : Plain-F Plain PlainPair)
    → Reads depth (roll-Plain layer)
level-read depth items pairs Plain-F.None = subst (Reads depth) (sym rolls-None)
    (λ good shallow. by_layer depth plain.None null json_of-None refl)
level-read depth items pairs (Plain-F.Flag flag) = subst (Reads depth) (sym (rolls-Flag flag))
    (λ good shallow. by_layer depth (plain.Flag flag) (boolean flag) (json_of-Flag flag) refl)
level-read depth items pairs (Plain-F.Int z) = subst (Reads depth) (sym (rolls-Int z))
    (λ good shallow. by_layer depth (plain.Int z) (number (of_integer z)) (json_of-Int z)
    (integer-read z (sym (good-Int z) ∙ good)))
level-read depth items pairs (Plain-F.Text text) = subst (Reads depth) (sym (rolls-Text text))
    (λ good shallow. by_layer depth (plain.Text text) (string text) (json_of-Text text) refl)
level-read depth items pairs (Plain-F.Label label) = subst (Reads depth) (sym (rolls-Label label))
    (λ good shallow. by_layer depth (plain.Label label) _ (json_of-Label label)
    (ap label_plain (label_of-label_text label (sym (good-Label label) ∙ good))))
level-read depth items pairs (Plain-F.Items values) = subst (Reads depth) (sym (rolls-Items values))
    (λ good shallow. by_layer depth (plain.Items values) _ (json_of-Items values)
    (ap items_plain (items values (sym (good-Items values) ∙ good) (subst (λ n. n ≤ depth)
    (depth-Items values) shallow))))
level-read depth items pairs (Plain-F.Pairs values) = subst (Reads depth) (sym (rolls-Pairs values))
    (λ good shallow. by_layer depth (plain.Pairs values) _ (json_of-Pairs values)
    (ap pairs_plain (pairs values (sym (good-Pairs values) ∙ good) (subst (λ n. n ≤ depth)
    (depth-Pairs values) shallow))))

roll_out : (value : Plain) → roll-Plain (out-Plain value) ≡ value
roll_out value = search (rules, the_lemmas)

reads : (depth : ℕ) (value : Plain) → Reads depth value
reads zero value = subst (Reads zero) (roll_out value)
    (level-read zero (λ values good shallow. absurd (omega arith))
    (λ pairs good shallow. absurd (omega arith)) (out-Plain value))
reads (suc depth) value =
    subst (Reads (suc depth)) (roll_out value)
    (level-read (suc depth)
    (λ values good shallow. sym (items_within-suc depth (items_of (map json_of values)))
    ∙ items-read depth (reads depth) [] values good (omega arith))
    (λ pairs good shallow. sym (pairs_within-suc depth (items_of (map json_of_pair pairs)))
    ∙ pairs-read depth (reads depth) [] pairs good (omega arith)) (out-Plain value))

pub written : (value : Plain)
    → IsTrue (is_good value)
    → plain_depth value ≤ 16
    → plain_of (json_of value) ≡ Ok value
written value good shallow = reads 16 value good shallow

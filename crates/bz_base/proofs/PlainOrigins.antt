-- What is read was written.
use Rattle.std.proofs.Common.{◌≡◌, ◌≢◌, ◌↔◌, ℕ, zero, suc, ◌≤◌, ◌^◌, pos, negsuc, codes, nat_lt}
use Rattle.std.proofs.Common.{IsTrue, IfOk, true, List, [], ◌∷◌, ◌++◌, map, Result, Ok, Err, Option}
use Rattle.std.proofs.Common.{Some, None, option_map, option_and_then, bytes_eq, refl, ap, ◌∙◌, sym}
use Rattle.std.proofs.Common.{subst, arith, append-nil}
use Rattle.std.proofs.lemmas.Bool.{and_from, and_parts, cond_both}
use Rattle.std.proofs.lemmas.List.{append_assoc}
use Rattle.std.proofs.lemmas.Slice.Eq.{bytes_eq-Decides}
use Rattle.serde_json.specs.Data.{Data, Num, unsigned, negative, float, Items, no_items, item}
use Rattle.serde_json.specs.Data.{no_members, member, null, boolean, number, string, array, object}
use Rattle.serde_json.specs.Find.{as_array, as_str}
use Rattle.serde_json.specs.View.{items_of}
use Rattle.bz_text.specs.Cuts.{behind, cut, cut_at_root}
use Rattle.bz_base.specs.Labels.{IsLabel}
use Rattle.bz_base.specs.PlainLabels.{is_label, label_of, marked_label, not_plain, rooted_label}
use Rattle.bz_base.specs.PlainLabels.{target_label}
use Rattle.bz_base.specs.PlainTexts.{json_of, json_of_pair, label_text, tagged}
use Rattle.bz_base.specs.PlainReading.{added, all_good, deepest, each_after, integer_of, is_good}
use Rattle.bz_base.specs.PlainReading.{is_good_pair, items_plain, items_within, label_plain}
use Rattle.bz_base.specs.PlainReading.{label_under, pair_depth, pair_of, paired, pairs_plain}
use Rattle.bz_base.specs.PlainReading.{pairs_under, pairs_within, plain_depth, plain_layer}
use Rattle.bz_base.specs.PlainReading.{plain_of, plain_within}
use Rattle.bz_base.specs.declared.labels.Label.{Label}
use Rattle.bz_base.specs.declared.plain_labels.NotPlain.{NotPlain}
use Rattle.bz_base.specs.declared.plain_values.Plain as plain
use Rattle.bz_base.specs.declared.plain_values.Plain.{Plain}
use Rattle.bz_base.specs.declared.plain_values.PlainPair.{PlainPair}
use Rattle.bz_text.proofs.CutLists.{IsBehind, IsBehind-behind, IsCut, IsCut-cut}
use Rattle.bz_base.proofs.PlainLaws.{json_of-None, json_of-Flag, json_of-Int, json_of-Text}
use Rattle.bz_base.proofs.PlainLaws.{json_of-Label, json_of-Items, json_of-Pairs, json_of-pair}
use Rattle.bz_base.proofs.PlainLaws.{depth-None, depth-Flag, depth-Int, depth-Text, depth-Label}
use Rattle.bz_base.proofs.PlainLaws.{depth-Items, depth-Pairs, depth-pair, good-None, good-Flag}
use Rattle.bz_base.proofs.PlainLaws.{good-Int, good-Text, good-Label, good-Items, good-Pairs}
use Rattle.bz_base.proofs.PlainLaws.{good-pair, written}
use Rattle.bz_base.proofs.PlainLayers.{items_within-suc, pairs_within-suc, plain_within_layer}

-- ---- labels

abbrev pub IsLabelText : List ℕ → Label → Type 0
IsLabelText text label = (label_text label ≡ text) × (is_label label ≡ true)

target-origin : (text repo rest : List ℕ)
    → text ≡ 64 ∷ 64 ∷ (repo ++ 47 ∷ 47 ∷ rest)
    → IfOk (target_label repo (cut 58 rest)) (IsLabelText text)
target-origin text repo rest e = by (cut 58 rest) (IsCut-cut 58 rest)
  where
    by : (r : Option (List ℕ × List ℕ))
        → IsCut 58 rest r
        → IfOk (target_label repo r) (IsLabelText text)
    by None h = tt
    by (Some parts) h = cond_both
        (is_label (record { repo = repo; «package» = parts.0; name = parts.1 })) _ _
        (λ r. IfOk r (IsLabelText text))
        (λ good. (sym (e ∙ ap (λ t. 64 ∷ 64 ∷ (repo ++ 47 ∷ 47 ∷ t)) h.0), good)) (λ _. tt)

-- the cut behind the first slash
abbrev rooted_rest : List ℕ × List ℕ → Option (List ℕ × List ℕ)
rooted_rest parts = option_map (λ target. (parts.0, target)) (behind 47 parts.1)

rooted-origin : (text rest : List ℕ)
    → text ≡ 64 ∷ 64 ∷ rest
    → IfOk (rooted_label (cut_at_root rest)) (IsLabelText text)
rooted-origin text rest e = by (cut 47 rest) (IsCut-cut 47 rest)
  where
    further : (front tail : List ℕ)
        → rest ≡ front ++ 47 ∷ tail
        → (r : Option (List ℕ))
        → IsBehind 47 tail r
        → IfOk (rooted_label (option_map (λ target. (front, target)) r)) (IsLabelText text)
    further front tail h None g = tt
    further front tail h (Some target) g = target-origin text front target
        (e ∙ ap (λ t. 64 ∷ 64 ∷ t) (h ∙ ap (λ t. front ++ 47 ∷ t) g))

    by : (r : Option (List ℕ × List ℕ))
        → IsCut 47 rest r
        → IfOk (rooted_label (option_and_then rooted_rest r)) (IsLabelText text)
    by None h = tt
    by (Some parts) h = further parts.0 parts.1 h.0 (behind 47 parts.1) (IsBehind-behind 47 parts.1)

pub label_of-origin : (text : List ℕ) → IfOk (label_of text) (IsLabelText text)
unfolding label_of
label_of-origin text = by (behind 64 text) (IsBehind-behind 64 text)
  where
    second : (rest : List ℕ)
        → text ≡ 64 ∷ rest
        → (r : Option (List ℕ))
        → IsBehind 64 rest r
        → IfOk (marked_label r) (IsLabelText text)
    second rest h None g = tt
    second rest h (Some tail) g = rooted-origin text tail (h ∙ ap (λ t. 64 ∷ t) g)

    by : (r : Option (List ℕ))
        → IsBehind 64 text r
        → IfOk (marked_label (option_and_then (behind 64) r)) (IsLabelText text)
    by None h = tt
    by (Some rest) h = second rest h (behind 64 rest) (IsBehind-behind 64 rest)

-- ---- values and pairs

abbrev Written : ℕ → Data → Plain → Type 0
Written depth json value = (json_of value ≡ json) × (plain_depth value ≤ depth)
    × (is_good value ≡ true)

abbrev WrittenPair : ℕ → Data → PlainPair → Type 0
WrittenPair depth json pair = (json_of_pair pair ≡ json) × (pair_depth pair ≤ depth)
    × (is_good_pair pair ≡ true)

flat-origin : (depth : ℕ) (json : Data) (value : Plain)
    → json_of value ≡ json
    → plain_depth value ≡ 0
    → is_good value ≡ true
    → Written depth json value
flat-origin depth json value is flat good = (is, omega (arith, flat), good)

integer-origin : (depth : ℕ) (num : Num) → IfOk (integer_of num) (Written depth (number num))
integer-origin depth (unsigned n) = cond_both (nat_lt n (2 ^ 63)) _ _
    (λ r. IfOk r (Written depth (number (unsigned n))))
    (λ few. flat-origin depth _ (plain.Int (pos n)) (json_of-Int (pos n)) (depth-Int (pos n))
    (good-Int (pos n) ∙ few)) (λ _. tt)
integer-origin depth (negative (pos n)) = tt
integer-origin depth (negative (negsuc n)) = cond_both (nat_lt n (2 ^ 63)) _ _
    (λ r. IfOk r (Written depth (number (negative (negsuc n)))))
    (λ few. flat-origin depth _ (plain.Int (negsuc n)) (json_of-Int (negsuc n))
    (depth-Int (negsuc n)) (good-Int (negsuc n) ∙ few)) (λ _. tt)
integer-origin depth (float x) = tt

both-origin : (depth : ℕ) (key value : Data) (r s : Result Plain NotPlain)
    → IfOk r (Written depth key)
    → IfOk s (Written depth value)
    → IfOk (paired r s) (WrittenPair depth (array (item key (item value no_items))))
both-origin depth key value (Err bad) s h g = tt
both-origin depth key value (Ok k) (Err bad) h g = tt
both-origin depth key value (Ok k) (Ok v) h g =
    let pair : PlainPair = record { key = k; value = v } in (
      json_of-pair pair ∙ (λ i. array (item (h.0 i) (item (g.0 i) no_items))),
      omega (
        arith,
        depth-pair pair,
        h.1,
        g.1,
      ),
      good-pair pair ∙ and_from _ _ h.2 g.2,
    )

pair-origin : (depth : ℕ)
    → ((json : Data) → IfOk (plain_within depth json) (Written depth json))
    → (json : Data)
    → IfOk (pair_of (plain_within depth) json) (WrittenPair depth json)
pair-origin depth origin null = tt
pair-origin depth origin (boolean flag) = tt
pair-origin depth origin (number num) = tt
pair-origin depth origin (string text) = tt
pair-origin depth origin (array no_items) = tt
pair-origin depth origin (array (item key no_items)) = tt
pair-origin depth origin (array (item key (item value no_items))) = both-origin depth key value _ _
    (origin key) (origin value)
pair-origin depth origin (array (item key (item value (item json jsons)))) = tt
pair-origin depth origin (object entries) = tt

-- ---- lists

abbrev ItemsBehind : ℕ → List Plain → Items → List Plain → Type 0
ItemsBehind depth before jsons all = (values : List Plain) × (all ≡ before ++ values)
    × (items_of (map json_of values) ≡ jsons) × (deepest (map plain_depth values) ≤ depth)
    × (all_good (map is_good values) ≡ true)

items-longer : (depth : ℕ) (before : List Plain) (value : Plain) (json : Data) (jsons : Items)
    → Written depth json value
    → (r : Result (List Plain) NotPlain)
    → IfOk r (ItemsBehind depth (before ++ value ∷ []) jsons)
    → IfOk r (ItemsBehind depth before (item json jsons))
items-longer depth before value json jsons h (Err bad) g = tt
items-longer depth before value json jsons h (Ok all) g = (
  value ∷ g.0,
  g.1 ∙ append_assoc before (value ∷ []) g.0,
  (λ i. item (h.0 i) (g.2 i)),
  omega
      (arith, h.1, g.3),
  and_from _ _ h.2 g.4,
)

items-next : (depth : ℕ) (before : List Plain) (json : Data) (jsons : Items)
    (r : Result Plain NotPlain)
    → IfOk r (Written depth json)
    → ((longer : List Plain)
    → IfOk (each_after (plain_within depth) (Ok longer) jsons) (ItemsBehind depth longer jsons))
    → IfOk (each_after (plain_within depth) (added before r) jsons)
    (ItemsBehind depth before (item json jsons))
items-next depth before json jsons (Err bad) h more = tt
items-next depth before json jsons
    (Ok value) h more = items-longer depth before value json jsons h _ (more (before ++ value ∷ []))

items-origin : (depth : ℕ)
    → ((json : Data) → IfOk (plain_within depth json) (Written depth json))
    → (before : List Plain) (jsons : Items)
    → IfOk (each_after (plain_within depth) (Ok before) jsons) (ItemsBehind depth before jsons)
items-origin depth origin before no_items = ([], sym (append-nil before), refl, omega arith, refl)
items-origin depth origin before (item json jsons) = items-next depth before json jsons _
    (origin json) (λ longer. items-origin depth origin longer jsons)

abbrev PairsBehind : ℕ → List PlainPair → Items → List PlainPair → Type 0
PairsBehind depth before jsons all = (pairs : List PlainPair) × (all ≡ before ++ pairs)
    × (items_of (map json_of_pair pairs) ≡ jsons) × (deepest (map pair_depth pairs) ≤ depth)
    × (all_good (map is_good_pair pairs) ≡ true)

pairs-longer : (depth : ℕ) (before : List PlainPair) (pair : PlainPair) (json : Data)
    (jsons : Items)
    → WrittenPair depth json pair
    → (r : Result (List PlainPair) NotPlain)
    → IfOk r (PairsBehind depth (before ++ pair ∷ []) jsons)
    → IfOk r (PairsBehind depth before (item json jsons))
pairs-longer depth before pair json jsons h (Err bad) g = tt
pairs-longer depth before pair json jsons h (Ok all) g = (
  pair ∷ g.0,
  g.1 ∙ append_assoc before (pair ∷ []) g.0,
  (λ i. item (h.0 i) (g.2 i)),
  omega
      (arith, h.1, g.3),
  and_from _ _ h.2 g.4,
)

pairs-next : (depth : ℕ) (before : List PlainPair) (json : Data) (jsons : Items)
    (r : Result PlainPair NotPlain)
    → IfOk r (WrittenPair depth json)
    → ((longer : List PlainPair)
    → IfOk (each_after (pair_of (plain_within depth)) (Ok longer) jsons)
    (PairsBehind depth longer jsons))
    → IfOk (each_after (pair_of (plain_within depth)) (added before r) jsons)
    (PairsBehind depth before (item json jsons))
pairs-next depth before json jsons (Err bad) h more = tt
pairs-next depth before json jsons (Ok pair) h more = pairs-longer depth before pair json jsons h _
    (more (before ++ pair ∷ []))

pairs-origin : (depth : ℕ)
    → ((json : Data) → IfOk (plain_within depth json) (Written depth json))
    → (before : List PlainPair) (jsons : Items)
    → IfOk (each_after (pair_of (plain_within depth)) (Ok before) jsons)
    (PairsBehind depth before jsons)
pairs-origin depth origin before no_items = ([], sym (append-nil before), refl, omega arith, refl)
pairs-origin depth origin before (item json jsons) = pairs-next depth before json jsons _
    (pair-origin depth origin json) (λ longer. pairs-origin depth origin longer jsons)

-- ---- levels

abbrev WrittenItems : ℕ → Items → List Plain → Type 0
WrittenItems depth jsons values = (items_of (map json_of values) ≡ jsons)
    × (suc (deepest (map plain_depth values)) ≤ depth) × (all_good (map is_good values) ≡ true)

abbrev WrittenPairs : ℕ → Items → List PlainPair → Type 0
WrittenPairs depth jsons pairs = (items_of (map json_of_pair pairs) ≡ jsons)
    × (suc (deepest (map pair_depth pairs)) ≤ depth) × (all_good (map is_good_pair pairs) ≡ true)

items-whole : (depth : ℕ) (jsons : Items) (r : Result (List Plain) NotPlain)
    → IfOk r (ItemsBehind depth [] jsons)
    → IfOk r (WrittenItems (suc depth) jsons)
items-whole depth jsons (Err bad) g = tt
items-whole depth jsons (Ok all) g = subst (WrittenItems (suc depth) jsons) (sym g.1)
    (g.2, omega (arith, g.3), g.4)

pairs-whole : (depth : ℕ) (jsons : Items) (r : Result (List PlainPair) NotPlain)
    → IfOk r (PairsBehind depth [] jsons)
    → IfOk r (WrittenPairs (suc depth) jsons)
pairs-whole depth jsons (Err bad) g = tt
pairs-whole depth jsons (Ok all) g = subst (WrittenPairs (suc depth) jsons) (sym g.1)
    (g.2, omega (arith, g.3), g.4)

items-level : (depth : ℕ) (jsons : Items) (r : Result (List Plain) NotPlain)
    → IfOk r (WrittenItems depth jsons)
    → IfOk (items_plain r) (Written depth (array jsons))
items-level depth jsons (Err bad) h = tt
items-level depth jsons (Ok values) h = (
  json_of-Items values
      ∙ ap array h.0,
  subst (λ n. n ≤ depth) (sym (depth-Items values)) h.1,
  good-Items values ∙ h.2,
)

pairs-level : (depth : ℕ) (jsons : Items) (r : Result (List PlainPair) NotPlain)
    → IfOk r (WrittenPairs depth jsons)
    → IfOk (pairs_plain r) (Written depth (tagged (codes "pairs") (array jsons)))
pairs-level depth jsons (Err bad) h = tt
pairs-level depth jsons (Ok pairs) h = (
  json_of-Pairs pairs
      ∙ ap (λ ds. tagged (codes "pairs") (array ds)) h.0,
  subst (λ n. n ≤ depth)
      (sym (depth-Pairs pairs)) h.1,
  good-Pairs pairs ∙ h.2,
)

label-level : (depth : ℕ) (text : List ℕ) (r : Result Label NotPlain)
    → IfOk r (IsLabelText text)
    → IfOk (label_plain r) (Written depth (tagged (codes "label") (string text)))
label-level depth text (Err bad) h = tt
label-level depth text (Ok label) h = flat-origin depth _ (plain.Label label)
    (json_of-Label label ∙ ap (λ t. tagged (codes "label") (string t)) h.0) (depth-Label label)
    (good-Label label ∙ h.1)

label-origin : (depth : ℕ) (json : Data)
    → IfOk (label_under (as_str json)) (Written depth (tagged (codes "label") json))
label-origin depth null = tt
label-origin depth (boolean flag) = tt
label-origin depth (number num) = tt
label-origin depth (string text) = label-level depth text _ (label_of-origin text)
label-origin depth (array jsons) = tt
label-origin depth (object entries) = tt

abbrev PairsOrigin : ℕ → Type 0
PairsOrigin depth = (jsons : Items) → IfOk (pairs_within depth jsons) (WrittenPairs depth jsons)

under-origin : (depth : ℕ)
    → PairsOrigin depth
    → (json : Data)
    → IfOk (pairs_under (pairs_within depth) (as_array json))
    (Written depth (tagged (codes "pairs") json))
under-origin depth pairs null = tt
under-origin depth pairs (boolean flag) = tt
under-origin depth pairs (number num) = tt
under-origin depth pairs (string text) = tt
under-origin depth pairs (array jsons) = pairs-level depth jsons _ (pairs jsons)
under-origin depth pairs (object entries) = tt

member-origin : (depth : ℕ)
    → PairsOrigin depth
    → (tag : List ℕ) (json : Data)
    → IfOk (plain_layer (items_within depth) (pairs_within depth) (tagged tag json))
    (Written depth (tagged tag json))
member-origin depth pairs tag json =
    cond_both (bytes_eq tag (codes "label")) _ _ (λ r. IfOk r (Written depth (tagged tag json)))
    (λ is. subst (λ t. IfOk (label_under (as_str json)) (Written depth (tagged t json)))
    (sym ((bytes_eq-Decides tag (codes "label")).0 is)) (label-origin depth json))
    (λ _. cond_both (bytes_eq tag (codes "pairs")) _ _
    (λ r. IfOk r (Written depth (tagged tag json)))
    (λ is. subst (λ t. IfOk (pairs_under (pairs_within depth) (as_array json)) (Written depth
    (tagged t json))) (sym ((bytes_eq-Decides tag (codes "pairs")).0 is))
    (under-origin depth pairs json))
    (λ _. tt))

level-origin : (depth : ℕ)
    → ((jsons : Items) → IfOk (items_within depth jsons) (WrittenItems depth jsons))
    → PairsOrigin depth
    → (json : Data)
    → IfOk (plain_layer (items_within depth) (pairs_within depth) json) (Written depth json)
level-origin depth items pairs null = flat-origin depth null plain.None json_of-None depth-None
    good-None
level-origin depth items pairs (boolean flag) = flat-origin depth _ (plain.Flag flag)
    (json_of-Flag flag) (depth-Flag flag) (good-Flag flag)
level-origin depth items pairs (number num) = integer-origin depth num
level-origin depth items pairs (string text) = flat-origin depth _ (plain.Text text)
    (json_of-Text text) (depth-Text text) (good-Text text)
level-origin depth items pairs (array jsons) = items-level depth jsons _ (items jsons)
level-origin depth items pairs (object no_members) = tt
level-origin depth items pairs
    (object (member tag json no_members)) = member-origin depth pairs tag json
level-origin depth items pairs (object (member tag json (member other further rest))) = tt

origin : (depth : ℕ) (json : Data) → IfOk (plain_within depth json) (Written depth json)
origin zero json = subst (λ r. IfOk r (Written zero json)) (sym (plain_within_layer zero json))
    (level-origin zero (λ jsons. tt) (λ jsons. tt) json)
origin (suc depth) json =
    subst (λ r. IfOk r (Written (suc depth) json)) (sym (plain_within_layer (suc depth) json))
    (level-origin (suc depth)
    (λ jsons. subst (λ r. IfOk r (WrittenItems (suc depth) jsons))
    (items_within-suc depth jsons)
    (items-whole depth jsons _ (items-origin depth (origin depth) [] jsons)))
    (λ jsons. subst (λ r. IfOk r (WrittenPairs (suc depth) jsons)) (pairs_within-suc depth jsons)
    (pairs-whole depth jsons _ (pairs-origin depth (origin depth) [] jsons))) json)

pub read_was_written : (json : Data) (value : Plain)
    → plain_of json ≡ Ok value
    → (json_of value ≡ json) × (plain_depth value ≤ 16) × IsTrue (is_good value)
read_was_written json value e = subst (λ r. IfOk r (Written 16 json)) e (origin 16 json)

-- ---- where nothing is read

pub nothing_read : (json : Data)
    → (plain_of json ≡ Err not_plain)
    ↔ ((value : Plain) → IsTrue (is_good value) → plain_depth value ≤ 16 → json_of value ≢ json)
nothing_read json = (forth, λ none. back none (plain_of json) refl)
  where
    forth : plain_of json ≡ Err not_plain
        → (value : Plain)
        → IsTrue (is_good value)
        → plain_depth value ≤ 16
        → json_of value ≢ json
    forth e value good shallow is =
        let found : plain_of json
        ≡ Ok value = subst (λ d. plain_of d ≡ Ok value) is
        (written value good shallow) in absurd (cc)

    back : ((value : Plain) → IsTrue (is_good value) → plain_depth value ≤ 16 → json_of value ≢
        json) → (r : Result Plain NotPlain) → plain_of json ≡ r → r ≡ Err not_plain
    back none (Ok value) e = let origins = read_was_written json value e in absurd
        (none value origins.2 origins.1 origins.0)
    back none (Err bad) e = refl

pub label_stands : (label : Label) → IsTrue (is_label label) ↔ IsLabel label
label_stands label =
    (forth, λ h. and_from _ _ h.repo_stands (and_from _ _ h.package_stands h.name_stands))
  where
    forth : IsTrue (is_label label) → IsLabel label
    forth good =
        let parts = and_parts _ _ good in
        let further = and_parts _ _ parts.1 in
        record { repo_stands = parts.0; package_stands = further.0; name_stands = further.1 }

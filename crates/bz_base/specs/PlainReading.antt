-- JSON as plain values: RFC 8259.
use Rattle.std.specs.Prelude.{ℕ, ◌-◌, ◌==◌, zero, suc, max, pos, negsuc, ◌^◌, nat_lt, ℤ, Bool, true}
use Rattle.std.specs.Prelude.{◌&&◌, List, [], ◌∷◌, ◌++◌, Result, Ok, Err, Option, None, Some, codes}
use Rattle.std.specs.Prelude.{bytes_eq, if◌then◌else◌}
use Rattle.serde_json.specs.Data.{Data, Num, unsigned, negative, float, null, boolean, number}
use Rattle.serde_json.specs.Data.{string, array, object, Items, no_items, item, Members, no_members}
use Rattle.serde_json.specs.Data.{member}
use Rattle.serde_json.specs.Find.{as_array, as_str}
use Rattle.bz_base.specs.PlainLabels.{is_label, label_of, not_plain}
use Rattle.bz_base.specs.declared.labels.Label.{Label}
use Rattle.bz_base.specs.declared.plain_labels.NotPlain.{NotPlain}
use Rattle.bz_base.specs.declared.plain_values.Plain as plain
use Rattle.bz_base.specs.declared.plain_values.Plain.{Plain, fold-Plain}
use Rattle.bz_base.specs.declared.plain_values.Plain.TheOpen.{Plain-F, PlainPair-F}
use Rattle.bz_base.specs.declared.plain_values.PlainPair.{PlainPair, fold-PlainPair}

-- an integer of 64 bits
abbrev pub integer_of : Num → Result Plain NotPlain
integer_of (unsigned n) = if nat_lt n (2 ^ 63) then Ok (plain.Int (pos n)) else Err not_plain
integer_of (negative (pos n)) = Err not_plain
integer_of (negative (negsuc n)) = if nat_lt n (2 ^ 63) then Ok (plain.Int (negsuc n))
    else Err not_plain
integer_of (float x) = Err not_plain

-- the values and one more, unless it is none
abbrev pub added : {T : Type 0} → List T → Result T NotPlain → Result (List T) NotPlain
added values (Ok value) = Ok (values ++ value ∷ [])
added values (Err bad) = Err bad

-- the values so far, and then what each further item is
abbrev pub each_after : {T : Type 0}
    → (Data → Result T NotPlain)
    → Result (List T) NotPlain
    → Items
    → Result (List T) NotPlain
each_after read (Err bad) jsons = Err bad
each_after read (Ok values) no_items = Ok values
each_after read (Ok values) (item json jsons) = each_after read (added values (read json)) jsons

-- a key and its value, unless one of them is none
abbrev pub paired : Result Plain NotPlain → Result Plain NotPlain → Result PlainPair NotPlain
paired (Ok key) (Ok value) = Ok (record { key = key; value = value })
paired (Ok key) (Err bad) = Err bad
paired (Err bad) value = Err bad

-- exactly two items are a pair
abbrev pub two_of : (Data → Result Plain NotPlain) → Option Items → Result PlainPair NotPlain
two_of read None = Err not_plain
two_of read (Some no_items) = Err not_plain
two_of read (Some (item key no_items)) = Err not_plain
two_of read (Some (item key (item value no_items))) = paired (read key) (read value)
two_of read (Some (item key (item value (item json jsons)))) = Err not_plain

-- an array of two is a pair
abbrev pub pair_of : (Data → Result Plain NotPlain) → Data → Result PlainPair NotPlain
pair_of read json = two_of read (as_array json)

-- the list of these values
abbrev pub items_plain : Result (List Plain) NotPlain → Result Plain NotPlain
items_plain (Ok values) = Ok (plain.Items values)
items_plain (Err bad) = Err bad

-- the dictionary of these pairs
abbrev pub pairs_plain : Result (List PlainPair) NotPlain → Result Plain NotPlain
pairs_plain (Ok values) = Ok (plain.Pairs values)
pairs_plain (Err bad) = Err bad

-- the value that is this label
abbrev pub label_plain : Result Label NotPlain → Result Plain NotPlain
label_plain (Ok label) = Ok (plain.Label label)
label_plain (Err bad) = Err bad

-- under `label` stands the text of a label
abbrev pub label_under : Option (List ℕ) → Result Plain NotPlain
label_under None = Err not_plain
label_under (Some text) = label_plain (label_of text)

-- under `pairs` stands a list of pairs
abbrev pub pairs_under : (Items → Result (List PlainPair) NotPlain)
    → Option Items
    → Result Plain NotPlain
pairs_under pairs None = Err not_plain
pairs_under pairs (Some jsons) = pairs_plain (pairs jsons)

-- the one member of an object
abbrev pub only_member : Members → Option (List ℕ × Data)
only_member no_members = None
only_member (member tag json no_members) = Some (tag, json)
only_member (member tag json (member other further rest)) = None

-- an object's one member stands under `label` or under `pairs`
abbrev pub tagged_plain : (Items → Result (List PlainPair) NotPlain)
    → Option (List ℕ × Data)
    → Result Plain NotPlain
tagged_plain pairs None = Err not_plain
tagged_plain pairs (Some entry) =
    if bytes_eq entry.0 (codes "label") then label_under (as_str entry.1)
    else (if bytes_eq entry.0 (codes "pairs") then pairs_under pairs (as_array entry.1) else Err
    not_plain)

-- one level, by what reads a list of values and a list of pairs
abbrev pub plain_layer : (Items → Result (List Plain) NotPlain)
    → (Items → Result (List PlainPair) NotPlain)
    → Data
    → Result Plain NotPlain
plain_layer items pairs null = Ok plain.None
plain_layer items pairs (boolean flag) = Ok (plain.Flag flag)
plain_layer items pairs (number num) = integer_of num
plain_layer items pairs (string text) = Ok (plain.Text text)
plain_layer items pairs (array jsons) = items_plain (items jsons)
plain_layer items pairs (object members) = tagged_plain pairs (only_member members)

-- the plain value with this JSON, where it is no deeper
unfoldable pub plain_within : ℕ → Data → Result Plain NotPlain
plain_within zero json = plain_layer (λ jsons. Err not_plain) (λ jsons. Err not_plain) json
plain_within (suc depth) json =
    plain_layer (each_after (plain_within depth) (Ok []))
    (each_after (pair_of (plain_within depth)) (Ok [])) json

-- nothing lies below the last level
abbrev pub items_within : ℕ → Items → Result (List Plain) NotPlain
items_within depth jsons = if depth == 0 then Err not_plain
    else each_after (plain_within (depth - 1)) (Ok []) jsons

-- nor do pairs
abbrev pub pairs_within : ℕ → Items → Result (List PlainPair) NotPlain
pairs_within depth jsons =
    if depth == 0 then Err not_plain
    else each_after (pair_of (plain_within (depth - 1))) (Ok []) jsons

-- the plain value with this JSON, at most 16 deep
abbrev pub plain_of : Data → Result Plain NotPlain
plain_of json = plain_within 16 json

-- the greatest of some depths, and 0 of none
abbrev pub deepest : List ℕ → ℕ
deepest [] = 0
deepest (depth ∷ depths) = max depth (deepest depths)

-- a list is one deeper than its deepest item, and what is no list has no depth
abbrev pub depth_step : Plain-F ℕ ℕ → ℕ
depth_step Plain-F.None = 0
depth_step (Plain-F.Flag flag) = 0
depth_step (Plain-F.Int z) = 0
depth_step (Plain-F.Text text) = 0
depth_step (Plain-F.Label label) = 0
depth_step (Plain-F.Items depths) = suc (deepest depths)
depth_step (Plain-F.Pairs depths) = suc (deepest depths)

-- a pair is as deep as the deeper of its two
abbrev pub depth_pair_step : PlainPair-F ℕ ℕ → ℕ
depth_pair_step pair = max pair.key pair.value

-- how deep lists and dictionaries nest in a value
abbrev pub plain_depth : Plain → ℕ
plain_depth = fold-Plain ℕ ℕ depth_step depth_pair_step

-- how deep they nest in a pair
abbrev pub pair_depth : PlainPair → ℕ
pair_depth = fold-PlainPair ℕ ℕ depth_step depth_pair_step

-- an integer from -2^63 to 2^63 - 1
abbrev pub has_64_bits : ℤ → Bool
has_64_bits (pos n) = nat_lt n (2 ^ 63)
has_64_bits (negsuc n) = nat_lt n (2 ^ 63)

-- each of them is good
abbrev pub all_good : List Bool → Bool
all_good [] = true
all_good (good ∷ goods) = good && all_good goods

-- each label is one and each integer has 64 bits
abbrev pub good_step : Plain-F Bool Bool → Bool
good_step Plain-F.None = true
good_step (Plain-F.Flag flag) = true
good_step (Plain-F.Int z) = has_64_bits z
good_step (Plain-F.Text text) = true
good_step (Plain-F.Label label) = is_label label
good_step (Plain-F.Items goods) = all_good goods
good_step (Plain-F.Pairs goods) = all_good goods

-- both of a pair are good
abbrev pub good_pair_step : PlainPair-F Bool Bool → Bool
good_pair_step pair = pair.key && pair.value

-- a value whose labels and integers are good
abbrev pub is_good : Plain → Bool
is_good = fold-Plain Bool Bool good_step good_pair_step

-- a pair whose labels and integers are good
abbrev pub is_good_pair : PlainPair → Bool
is_good_pair = fold-PlainPair Bool Bool good_step good_pair_step

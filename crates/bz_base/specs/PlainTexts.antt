-- Plain values as JSON: RFC 8259.
use Rattle.std.specs.Prelude.{ℕ, List, ◌∷◌, ◌++◌, codes}
use Rattle.serde_json.specs.Data.{Data, null, boolean, number, string, array, object, no_items}
use Rattle.serde_json.specs.Data.{item, no_members, member}
use Rattle.serde_json.specs.Find.{of_integer}
use Rattle.serde_json.specs.View.{items_of}
use Rattle.bz_base.specs.declared.labels.Label.{Label}
use Rattle.bz_base.specs.declared.plain_values.Plain.{Plain, fold-Plain}
use Rattle.bz_base.specs.declared.plain_values.Plain.TheOpen.{Plain-F, PlainPair-F}
use Rattle.bz_base.specs.declared.plain_values.PlainPair.{PlainPair, fold-PlainPair}

-- a label as it is printed: `@@`, the canonical name, `//`, the package, `:` and the name
abbrev pub label_text : Label → List ℕ
label_text label = codes "@@"
    ++ (label.repo ++ (codes "//" ++ (label.package ++ (58 ∷ label.name))))

-- the object with one member
abbrev pub tagged : List ℕ → Data → Data
tagged tag json = object (member tag json no_members)

-- one level, with each value inside already seen as its JSON
abbrev pub json_step : Plain-F Data Data → Data
json_step Plain-F.None = null
json_step (Plain-F.Flag flag) = boolean flag
json_step (Plain-F.Int z) = number (of_integer z)
json_step (Plain-F.Text text) = string text
json_step (Plain-F.Label label) = tagged (codes "label") (string (label_text label))
json_step (Plain-F.Items jsons) = array (items_of jsons)
json_step (Plain-F.Pairs jsons) = tagged (codes "pairs") (array (items_of jsons))

abbrev pub json_pair_step : PlainPair-F Data Data → Data
json_pair_step pair = array (item pair.key (item pair.value no_items))

-- None is null, a label an object with its text, pairs an object with a list of lists of two
abbrev pub json_of : Plain → Data
json_of = fold-Plain Data Data json_step json_pair_step

abbrev pub json_of_pair : PlainPair → Data
json_of_pair = fold-PlainPair Data Data json_step json_pair_step

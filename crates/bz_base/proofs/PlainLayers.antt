-- A plain value is read by its layer.
use Rattle.std.proofs.Common.{◌≡◌, ◌≢◌, ℕ, zero, suc, ◌-◌, List, [], ◌∷◌, length, Ok, Err, Some}
use Rattle.std.proofs.Common.{refl, ap, arith}
use Rattle.std.proofs.lemmas.Bool.{ne_eqb}
use Rattle.serde_json.specs.Data.{Data, Items}
use Rattle.serde_json.specs.View.{items_view}
use Rattle.serde_json.specs.declared.value.Value.{Value}
use Rattle.bz_base.specs.PlainLabels.{not_plain}
use Rattle.bz_base.specs.PlainReading.{each_after, items_within, pair_of, pairs_within, plain_layer}
use Rattle.bz_base.specs.PlainReading.{plain_within, two_of}
use Rattle.bz_base.specs.declared.plain_labels.NotPlain.{NotPlain}
use Rattle.bz_base.specs.declared.plain_values.Plain.{Plain}
use Rattle.std.specs.Prelude.{Result}

pub items_within-suc : (depth : ℕ) (jsons : Items)
    → each_after (plain_within depth) (Ok []) jsons ≡ items_within (suc depth) jsons
items_within-suc depth jsons =
    let one_less : depth ≡ suc depth - 1 = omega arith in
    rw (ne_eqb (suc depth) 0 (λ e. absurd (omega arith)))
    (ap (λ n. each_after (plain_within n) (Ok []) jsons) one_less)

pub pairs_within-suc : (depth : ℕ) (jsons : Items)
    → each_after (pair_of (plain_within depth)) (Ok []) jsons ≡ pairs_within (suc depth) jsons
pairs_within-suc depth jsons =
    let one_less : depth ≡ suc depth - 1 = omega arith in
    rw (ne_eqb (suc depth) 0 (λ e. absurd (omega arith)))
    (ap (λ n. each_after (pair_of (plain_within n)) (Ok []) jsons) one_less)

pub plain_within_layer : (depth : ℕ) (json : Data)
    → plain_within depth json ≡ plain_layer (items_within depth) (pairs_within depth) json
unfolding plain_within
plain_within_layer zero json = refl
plain_within_layer (suc depth) json =
    λ i. plain_layer (λ jsons. items_within-suc depth jsons i)
    (λ jsons. pairs_within-suc depth jsons i) json

-- a list of another length than two is no pair
pub two_of_others : (read : Data → Result Plain NotPlain) (values : List Value)
    → length values ≢ 2
    → two_of read (Some (items_view values)) ≡ Err not_plain
two_of_others read [] other = refl
two_of_others read (one ∷ []) other = refl
two_of_others read (one ∷ two ∷ []) other = absurd (other refl)
two_of_others read (one ∷ two ∷ three ∷ more) other = refl

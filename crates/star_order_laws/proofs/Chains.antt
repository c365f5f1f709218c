-- Answers of an order one behind another, and orders of lists item by item.
use Rattle.std.proofs.Common.{◌≡◌, ◌∙◌, ap, refl, subst, sym, Bool, true, false, List, [], ◌∷◌}
use Rattle.std.proofs.Common.{Result, Ok, Err}
use Rattle.std.proofs.lemmas.Cmp.{alike_right}
use Rattle.std.specs.Cmp.{IsTotalOrder}
use Rattle.std.specs.Ordering.{bool_cmp, ordering_reverse}
use Rattle.std.specs.declared.cmp.Ordering.{Ordering}
use Rattle.std.specs.declared.cmp.Ordering.TheVariants.{Less, Equal, Greater}
use Rattle.star_core.specs.declared.faults.Fault.{Fault}
use Rattle.star_core.specs.declared.values.Val.{Val}
use Rattle.star_order.specs.Contained.{Rule}
use Rattle.star_order.specs.Order.{items_order, then_order}
use Rattle.star_order_laws.specs.Orders.{Chained, Follows, IsOrder, Turned}

pub chained_missed : (first whole : Result Ordering Fault) (reason : Fault)
    → Chained first (Err reason) whole
chained_missed (Ok first) whole reason = tt
chained_missed (Err other) whole reason = tt

-- what is less than the middle is less than what is no less than that
follows_less : (second : Ordering) (whole : Result Ordering Fault)
    → whole ≡ Ok Less
    → Follows Less second whole
follows_less Less whole is = is
follows_less Equal whole is = is
follows_less Greater whole is = tt

follows_greater : (second : Ordering) (whole : Result Ordering Fault)
    → whole ≡ Ok Greater
    → Follows Greater second whole
follows_greater Less whole is = tt
follows_greater Equal whole is = is
follows_greater Greater whole is = is

less_chained : (second whole : Result Ordering Fault)
    → whole ≡ Ok Less
    → Chained (Ok Less) second whole
less_chained (Ok second) whole is = follows_less second whole is
less_chained (Err reason) whole is = tt

greater_chained : (second whole : Result Ordering Fault)
    → whole ≡ Ok Greater
    → Chained (Ok Greater) second whole
greater_chained (Ok second) whole is = follows_greater second whole is
greater_chained (Err reason) whole is = tt

chained_less : (first whole : Result Ordering Fault)
    → whole ≡ Ok Less
    → Chained first (Ok Less) whole
chained_less (Ok Less) whole is = is
chained_less (Ok Equal) whole is = is
chained_less (Ok Greater) whole is = tt
chained_less (Err reason) whole is = tt

chained_greater : (first whole : Result Ordering Fault)
    → whole ≡ Ok Greater
    → Chained first (Ok Greater) whole
chained_greater (Ok Less) whole is = tt
chained_greater (Ok Equal) whole is = is
chained_greater (Ok Greater) whole is = is
chained_greater (Err reason) whole is = tt

-- two orders and what decides behind them, turned round
then_turned : (one back rest rest_back : Result Ordering Fault)
    → Turned one back
    → Turned rest rest_back
    → Turned (then_order one rest) (then_order back rest_back)
then_turned (Ok Less) back rest rest_back is rest_is = ap (λ one. then_order one rest_back) is
then_turned (Ok Greater) back rest rest_back is rest_is = ap (λ one. then_order one rest_back) is
then_turned (Ok Equal) back rest rest_back is rest_is =
    subst (λ one. Turned rest (then_order one rest_back)) (sym is) rest_is
then_turned (Err reason) back rest rest_back is rest_is = tt

then_chained : (one other whole rest rest_other rest_whole : Result Ordering Fault)
    → Chained one other whole
    → Chained rest rest_other rest_whole
    → Chained (then_order one rest) (then_order other rest_other) (then_order whole rest_whole)
then_chained (Err reason) other whole rest rest_other rest_whole is rest_is = tt
then_chained (Ok Less) (Err reason) whole rest rest_other rest_whole is rest_is = tt
then_chained (Ok Less) (Ok Less) whole rest rest_other rest_whole is rest_is =
    ap (λ one. then_order one rest_whole) is
then_chained (Ok Less) (Ok Equal) whole rest rest_other rest_whole is rest_is =
    less_chained rest_other (then_order whole rest_whole) (ap (λ one. then_order one rest_whole) is)
then_chained (Ok Less) (Ok Greater) whole rest rest_other rest_whole is rest_is = tt
then_chained (Ok Greater) (Err reason) whole rest rest_other rest_whole is rest_is = tt
then_chained (Ok Greater) (Ok Greater) whole rest rest_other rest_whole is rest_is =
    ap (λ one. then_order one rest_whole) is
then_chained (Ok Greater) (Ok Equal) whole rest rest_other rest_whole is rest_is =
    greater_chained rest_other (then_order whole rest_whole)
    (ap (λ one. then_order one rest_whole) is)
then_chained (Ok Greater) (Ok Less) whole rest rest_other rest_whole is rest_is = tt
then_chained (Ok Equal) (Err reason) whole rest rest_other rest_whole is rest_is =
    chained_missed rest (then_order whole rest_whole) reason
then_chained (Ok Equal) (Ok Less) whole rest rest_other rest_whole is rest_is =
    chained_less rest (then_order whole rest_whole) (ap (λ one. then_order one rest_whole) is)
then_chained (Ok Equal) (Ok Greater) whole rest rest_other rest_whole is rest_is =
    chained_greater rest (then_order whole rest_whole) (ap (λ one. then_order one rest_whole) is)
then_chained (Ok Equal) (Ok Equal) whole rest rest_other rest_whole is rest_is =
    subst (λ one. Chained rest rest_other (then_order one rest_whole)) (sym is) rest_is

module _ (rule : Rule Ordering) (is : IsOrder rule) where
  pub items_turned : (items others : List Val)
      → Turned (items_order rule items others) (items_order rule others items)
  items_turned [] [] = refl
  items_turned [] (other ∷ others) = refl
  items_turned (item ∷ items) [] = refl
  items_turned (item ∷ items) (other ∷ others) =
      then_turned (rule item other) (rule other item) (items_order rule items others)
      (items_order rule others items) (is.turns item other) (items_turned items others)

  pub items_chained : (items middles others : List Val)
      → Chained (items_order rule items middles) (items_order rule middles others)
      (items_order rule items others)
  items_chained [] [] [] = refl
  items_chained [] [] (other ∷ others) = refl
  items_chained [] (middle ∷ middles) [] = tt
  items_chained [] (middle ∷ middles) (other ∷ others) =
      less_chained (items_order rule (middle ∷ middles) (other ∷ others)) (Ok Less) refl
  items_chained (item ∷ items) [] [] = refl
  items_chained (item ∷ items) [] (other ∷ others) = tt
  items_chained (item ∷ items) (middle ∷ middles) [] =
      chained_greater (items_order rule (item ∷ items) (middle ∷ middles)) (Ok Greater) refl
  items_chained (item ∷ items) (middle ∷ middles) (other ∷ others) =
      then_chained (rule item middle) (rule middle other) (rule item other)
      (items_order rule items middles) (items_order rule middles others)
      (items_order rule items others) (is.goes_on item middle other)
      (items_chained items middles others)

module _ {K : Type 0} (cmp : K → K → Ordering) (total : IsTotalOrder cmp) where
  -- a total order turns round
  pub total_turned : (one other : K) → Turned (Ok (cmp one other)) (Ok (cmp other one))
  total_turned one other = ap (λ order. Ok order) (total.antisymm other one)

  total_greater : (one other : K) → cmp one other ≡ Greater → cmp other one ≡ Less
  total_greater one other is = total.antisymm other one ∙ ap ordering_reverse is

  total_follows : (one middle other : K) (first second : Ordering)
      → cmp one middle ≡ first
      → cmp middle other ≡ second
      → Follows first second (Ok (cmp one other))
  total_follows one middle other Equal second first_is second_is =
      ap (λ order. Ok order) (total.congr one middle other first_is ∙ second_is)
  total_follows one middle other Less Less first_is second_is =
      ap (λ order. Ok order) (total.trans one middle other first_is second_is)
  total_follows one middle other Less Equal first_is second_is =
      ap (λ order. Ok order) (sym (alike_right total middle other one second_is) ∙ first_is)
  total_follows one middle other Less Greater first_is second_is = tt
  total_follows one middle other Greater Greater first_is second_is =
      ap (λ order. Ok order)
      (total.antisymm one other
      ∙ ap ordering_reverse (total.trans other middle one
      (total_greater middle other second_is) (total_greater one middle first_is)))
  total_follows one middle other Greater Equal first_is second_is =
      ap (λ order. Ok order) (sym (alike_right total middle other one second_is) ∙ first_is)
  total_follows one middle other Greater Less first_is second_is = tt

  -- and goes on
  pub total_chained : (one middle other : K)
      → Chained (Ok (cmp one middle)) (Ok (cmp middle other)) (Ok (cmp one other))
  total_chained one middle other =
      total_follows one middle other (cmp one middle) (cmp middle other) refl refl

pub flags_turned : (flag other : Bool)
    → Turned (Ok (bool_cmp flag other)) (Ok (bool_cmp other flag))
flags_turned true true = refl
flags_turned true false = refl
flags_turned false true = refl
flags_turned false false = refl

pub flags_chained : (flag middle other : Bool)
    → Chained (Ok (bool_cmp flag middle)) (Ok (bool_cmp middle other)) (Ok (bool_cmp flag other))
flags_chained true true other = refl
flags_chained false false other = refl
flags_chained true false true = tt
flags_chained true false false = refl
flags_chained false true true = refl
flags_chained false true false = tt

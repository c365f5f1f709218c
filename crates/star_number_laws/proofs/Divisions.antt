-- Division by a positive number, and by a negative one.
use Rattle.std.proofs.Common.{◌≡◌, ◌≢◌, ℕ, zero, suc, ◌+◌, ◌-◌, ◌*◌, ◌/◌, ◌%◌, ◌<◌, ◌≤◌, ℤ, pos}
use Rattle.std.proofs.Common.{negsuc, neg_ℤ, ◌+ℤ◌, ◌*ℤ◌, refl, ap, sym, arith, subst, ◌∙◌}
use Rattle.std.proofs.Math.IntN.{negsuc-*ℤ-negsuc, negsuc-*ℤ-pos, pos-*ℤ-negsuc, pos-*ℤ-pos}
use Rattle.std.proofs.Math.Nat.{div-mul-le_self, mod-eq-sub-div-mul, mod-lt, suc-mul}
use Rattle.std.proofs.lemmas.Int.{ints}
use Rattle.std.specs.Int.{int_div_euclid, int_rem_euclid}
use Rattle.star_numbers.specs.Integers.{floored, left_over}
use Rattle.star_number_laws.specs.Remainders.{IsLeft, IsRemainder}

euclid_whole : (number : ℤ) (less : ℕ)
    → int_div_euclid number (pos (suc less)) *ℤ pos (suc less)
    +ℤ int_rem_euclid number (pos (suc less)) ≡ number
euclid_whole (pos n) less =
    let most : n / suc less * suc less ≤ n = div-mul-le_self n (suc less) in
    let rest : n % suc less ≡ n - n / suc less * suc less = mod-eq-sub-div-mul n (suc less) in
    let all : pos (n / suc less * suc less) +ℤ pos (n % suc less) ≡ pos n =
    omega (arith, ints, most, rest) in
    ap (λ one. one +ℤ pos (n % suc less)) (pos-*ℤ-pos (n / suc less) (suc less)) ∙ all
euclid_whole (negsuc n) less =
    let most : n / suc less * suc less ≤ n = div-mul-le_self n (suc less) in
    let rest : n % suc less ≡ n - n / suc less * suc less = mod-eq-sub-div-mul n (suc less) in
    let small : n % suc less < suc less = mod-lt n (omega arith) in
    let more : suc (n / suc less) * suc less ≡ n / suc less * suc less + suc less =
    suc-mul (n / suc less) (suc less) in
    let all : neg_ℤ (pos (suc (n / suc less) * suc less))
    +ℤ pos (suc less - 1 - n % suc less) ≡ negsuc n =
    omega (arith, ints, most, rest, small, more) in
    ap (λ one. one +ℤ pos (suc less - 1 - n % suc less)) (negsuc-*ℤ-pos (n / suc less) (suc less))
    ∙ all

-- times a negative number
turned_product : (number : ℤ) (less : ℕ)
    → number *ℤ negsuc less ≡ neg_ℤ (number *ℤ pos (suc less))
turned_product (pos n) less =
    pos-*ℤ-negsuc n less ∙ ap neg_ℤ (sym (pos-*ℤ-pos n (suc less)))
turned_product (negsuc n) less =
    rw (negsuc-*ℤ-negsuc n less, negsuc-*ℤ-pos n (suc less)) (omega (arith, ints))

pub whole : (number divisor : ℤ)
    → divisor ≢ pos 0
    → floored number divisor *ℤ divisor +ℤ left_over number divisor ≡ number
unfolding floored left_over
whole number (pos zero) some = absurd (some refl)
whole number (pos (suc less)) some = euclid_whole number less
whole number (negsuc less) some =
    let turned = turned_product (int_div_euclid (neg_ℤ number) (pos (suc less))) less in
    let all = euclid_whole (neg_ℤ number) less in
    rw turned (omega (arith, ints, all))

small : (number : ℤ) (less : ℕ) → IsLeft (suc less) (int_rem_euclid number (pos (suc less))) pos
small (pos n) less =
    record { amount = n % suc less; is = refl; less = mod-lt n (omega arith) }
small (negsuc n) less =
    record { amount = suc less - 1 - n % suc less; is = refl; less = omega arith }

pub left_small : (number divisor : ℤ)
    → divisor ≢ pos 0
    → IsRemainder divisor (left_over number divisor)
unfolding left_over
left_small number (pos zero) some = absurd (some refl)
left_small number (pos (suc less)) some = small number less
left_small number (negsuc less) some =
    let left = small (neg_ℤ number) less in
    record { amount = left.amount; is = ap neg_ℤ left.is; less = left.less }

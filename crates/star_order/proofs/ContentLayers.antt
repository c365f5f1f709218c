-- Contents written one behind another, and one layer of their recursion on depth.
use Rattle.std.proofs.Common.{◌≡◌, ℕ, zero, suc, ◌-◌, ◌<◌, List, Ok, Err, refl, ap, arith}
use Rattle.std.proofs.Common.{◌+◌, add-one, append_assoc, codes, drop, drop-cons, get_or, length}
use Rattle.std.proofs.Common.{sym, ◌∙◌}
use Rattle.bz_text.specs.declared.memory.Miss.{Miss}
use Rattle.bz_text.specs.declared.memory.Miss.TheVariants as miss
use Rattle.star_core.specs.Contents.{Content, behind, bracketed, content_within, each_content}
use Rattle.star_core.specs.Contents.{value_content}
use Rattle.star_core.specs.Heaps.{HeapState}
use Rattle.star_core.specs.declared.faults.Fault.{Fault}
use Rattle.star_core.specs.declared.faults.Fault.TheVariants as fault
use Rattle.star_core.specs.declared.values.Val.{Val}
use Rattle.star_core.specs.declared.values.Val.TheVariants as val
use Rattle.star_order.specs.Keys.{Written, items_content}

pub content_within_layer : (depth : ℕ) (heap : HeapState) (value : Val)
    → content_within depth heap value ≡ value_content (items_content depth heap) heap value
unfolding content_within items_content
content_within_layer zero heap value = refl
content_within_layer (suc depth) heap value = refl

pub items_content_none : (heap : HeapState) (items : List Val)
    → items_content 0 heap items ≡ Err fault.Depth
unfolding items_content
items_content_none heap items = refl

pub items_content_some : (depth : ℕ) (heap : HeapState) (items : List Val)
    → 0 < depth
    → items_content depth heap items
    ≡ bracketed (each_content (content_within (depth - 1) heap) items)
unfolding items_content
items_content_some zero heap items above = absurd (omega arith)
items_content_some (suc depth) heap items above =
    let same : depth ≡ suc depth - 1 = omega arith in
    ap (λ (one : ℕ). bracketed (each_content (content_within one heap) items)) same

pub behind_assoc : (first second third : Content)
    → behind (behind first second) third ≡ behind first (behind second third)
behind_assoc (Err reason) second third = refl
behind_assoc (Ok front) (Err reason) third = refl
behind_assoc (Ok front) (Ok middle) (Err reason) = refl
behind_assoc (Ok front) (Ok middle) (Ok rest) = ap Ok (append_assoc front middle rest)

-- what a miss is of the first of two it is of both
pub written_missed : (front : List ℕ) (first rest whole : Content) (reason : Miss Fault)
    (text : List ℕ)
    → Written (behind (Ok front) first) (Err reason) text
    → behind (Ok front) (behind first rest) ≡ whole
    → Written whole (Err reason) text
written_missed front first rest whole miss.OutOfMemory text missed is = tt
written_missed front first rest whole (miss.Because reason) text missed is =
    sym is ∙ sym (behind_assoc (Ok front) first rest) ∙ ap (λ one. behind one rest) missed

-- what is left to write once the first of two is written
pub written_on : (front : List ℕ) (first rest whole : Content) (text : List ℕ)
    → behind (Ok front) first ≡ Ok text
    → behind (Ok front) (behind first rest) ≡ whole
    → behind (Ok text) rest ≡ whole
written_on front first rest whole text written is =
    sym (ap (λ one. behind one rest) written) ∙ behind_assoc (Ok front) first rest ∙ is

-- brackets are written before and behind
pub bracketed_between : (inside : Content)
    → bracketed inside ≡ behind (Ok (codes "(")) (behind inside (Ok (codes ")")))
bracketed_between (Ok text) = refl
bracketed_between (Err reason) = refl

-- the content of an item before those behind it
pub each_next : (content : Val → Content) (items : List Val) (index : ℕ)
    → index < length items
    → each_content content (drop index items)
    ≡ behind (content (get_or items index val.None)) (each_content content (drop (index + 1) items))
each_next content items index within = rw (add-one, drop-cons items index val.None) refl

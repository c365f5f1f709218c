-- The order of the lines.
use Rattle.std.proofs.Common.{◌≡◌, true, false, List, [], ◌∷◌, ◌++◌, refl, ap, sym, ◌∙◌}
use Rattle.std.specs.List.{AllByRecursion}
use Rattle.bz_base.specs.declared.module_key.Key.{Key}
use Rattle.module_file.specs.LiteralForms.{is_in_order}
use Rattle.module_file.specs.LiteralGrammar.{IsOrdered}
use Rattle.module_file.specs.declared.literal_line.LiteralLine.{LiteralLine}
use Rattle.module_file.specs.declared.literal_line.LiteralLine.TheVariants.{Empty, Module, Dep}

-- behind a directive no `module` is in order
no_module_behind : (before after : List LiteralLine) (key : Key)
    → is_in_order true (before ++ Module key ∷ after) ≡ true
    → ⊥
no_module_behind [] after key e = cc e
no_module_behind (Empty ∷ before) after key e = no_module_behind before after key e
no_module_behind (Module other ∷ before) after key e = cc e
no_module_behind (Dep other ∷ before) after key e = no_module_behind before after key e

empty_before : (before after : List LiteralLine) (key : Key)
    → is_in_order false (before ++ Module key ∷ after) ≡ true
    → AllByRecursion (λ line. line ≡ Empty) before
empty_before [] after key e = tt
empty_before (Empty ∷ before) after key e = (refl, empty_before before after key e)
empty_before (Module other ∷ before) after key e = absurd (no_module_behind before after key e)
empty_before (Dep other ∷ before) after key e = absurd (no_module_behind before after key e)

pub IsOrdered-from_test : (lines : List LiteralLine)
    → is_in_order false lines ≡ true
    → IsOrdered lines
IsOrdered-from_test lines e before after key split = empty_before before after key
    (ap (is_in_order false) (sym split) ∙ e)

-- lines without a `module` are in order behind a directive
in_order_without : (lines : List LiteralLine)
    → ((before after : List LiteralLine) (key : Key) → lines ≡ before ++ Module key ∷ after → ⊥)
    → is_in_order true lines ≡ true
in_order_without [] none = refl
in_order_without (Empty ∷ lines) none = in_order_without lines
    (λ before after key e. none (Empty ∷ before) after key (ap (λ l. Empty ∷ l) e))
in_order_without (Module key ∷ lines) none = absurd (none [] lines key refl)
in_order_without (Dep key ∷ lines) none = in_order_without lines
    (λ before after other e. none (Dep key ∷ before) after other (ap (λ l. Dep key ∷ l) e))

apart_module : (key : Key) → Module key ≡ Empty → ⊥
apart_module key e = cc e

apart_dep : (key : Key) → Dep key ≡ Empty → ⊥
apart_dep key e = cc e

pub in_order-from_IsOrdered : (lines : List LiteralLine)
    → IsOrdered lines
    → is_in_order false lines ≡ true
in_order-from_IsOrdered [] ordered = refl
in_order-from_IsOrdered (Empty ∷ lines) ordered = in_order-from_IsOrdered lines
    (λ before after key e. (ordered (Empty ∷ before) after key (ap (λ l. Empty ∷ l) e)).1)
in_order-from_IsOrdered (Module key ∷ lines) ordered = in_order_without lines
    (λ before after other e. apart_module key
    (ordered (Module key ∷ before) after other (ap (λ l. Module key ∷ l) e)).0)
in_order-from_IsOrdered (Dep key ∷ lines) ordered = in_order_without lines
    (λ before after other e. apart_dep key
    (ordered (Dep key ∷ before) after other (ap (λ l. Dep key ∷ l) e)).0)

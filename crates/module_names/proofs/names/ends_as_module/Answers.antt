use Rattle.std.proofs.Common.{ℕ, Bool, false, Option, ◌||◌, ap, sym, ◌∙◌}
use Rattle.std.specs.Char.{is_ascii_digit, is_ascii_lowercase}
use Rattle.std.specs.Option.{option_map_or}
use Rattle.module_names.proofs.NameEnds.{ends-last}
use Rattle.module_names.proofs.names.ends_as_module.Goals as goal

may_end : ℕ → Bool
may_end b = is_ascii_lowercase b || is_ascii_digit b

pub returns-in-Some : goal.returns-in-Some
unfolding may_end
returns-in-Some c =
    c.last_byte.ensures
    ∙ sym (ends-last may_end c.args.bytes.now ∙ ap (λ (last : Option ℕ). option_map_or may_end
    last false) (sym c.in-Some.ensures.value))

pub returns-in-None : goal.returns-in-None
unfolding may_end
returns-in-None c =
    sym (ends-last may_end c.args.bytes.now
    ∙ ap (λ (last : Option ℕ). option_map_or may_end last false) (sym c.in-None.ensures.value))

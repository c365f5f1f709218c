use Rattle.std.proofs.Common.{◌≡◌, false, drop}
use Rattle.module_file.specs.LiteralForms.{is_in_order}
use Rattle.module_file.proofs.literal_form.stand_in_order.Given as goal

abbrev pub invariant-loop-line : goal.invariant-loop-line
invariant-loop-line l = is_in_order l.seen (drop l.line-index l.lines) ≡ is_in_order false l.lines

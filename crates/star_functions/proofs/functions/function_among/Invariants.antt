use Rattle.std.proofs.Common.{◌≡◌, drop}
use Rattle.star_functions.specs.FunctionNames.{function_among}
use Rattle.star_functions.proofs.functions.function_among.Given as goal

abbrev pub invariant-looking : goal.invariant-looking
invariant-looking l =
    function_among (drop l.function-index l.functions) l.name ≡ function_among l.functions l.name

-- The functions of a file.
use Rattle.std.specs.Prelude.{[], None}
use Rattle.star_trees.specs.declared.files.FnBody.TheVariants as body
use Rattle.star_trees.specs.declared.files.FnCode.{FnCode}

-- the code of a function whose body is still to be made
abbrev pub unfinished_code : FnCode
unfinished_code = record { name = None; params = []; body = body.Block []; line = 0 }

use Rattle.std.proofs.Common.{refl}
use Rattle.star_compiler.proofs.Functions.{file_compiled}
use Rattle.star_compiler.proofs.files.compile.Goals as goal

pub returns : goal.returns
returns c =
    file_compiled _ _ _ _ _ _ _ _ _ c.items.ensures c.as_slice.ensures refl c.new-4.ensures refl
    c.in_ok-functions.ensures c.in_ok-top.ensures

-- The root file.
use Rattle.std.specs.Prelude.{[], Result, Err, codes}
use Rattle.bz_base.specs.declared.declarations.ModuleDecl.{ModuleDecl}
use Rattle.bz_base.specs.declared.refusals.Refusal.{Refusal}
use Rattle.bz_base.specs.declared.refusals.Code.TheVariants.{NoRoot}
use Rattle.bz_tree.specs.declared.tree.Found.{Found}
use Rattle.bz_tree.specs.declared.tree.Found.TheVariants.{Bytes, Large, Listing, Absent}
use Rattle.module_file.specs.ModuleFiles.{declared_in, form_refusal}

abbrev pub no_root_refusal : Refusal
no_root_refusal = record
    { code = NoRoot; file = codes "<root>/MODULE.bazel"; line = 0; detail = []; hint = 0 }

-- what the root file declares, of what stands at its path
abbrev pub root_of : Found → Result ModuleDecl Refusal
root_of Absent = Err no_root_refusal
root_of (Listing names) = Err no_root_refusal
root_of Large = Err form_refusal
root_of (Bytes bytes) = declared_in bytes

-- Files beside their code.
use Rattle.std.specs.Prelude.{◌≡◌, ℕ, List, [], ◌∷◌, ◌++◌, length, Some, slice_get}
use Rattle.std.specs.Prelude.{slice_set}
use Rattle.star_code.specs.Codes.{FileCoded, FilesCoded}
use Rattle.star_code.specs.declared.code.Code.{Code}
use Rattle.star_code.specs.declared.code.Instr.TheVariants as instr
use Rattle.star_compiler.specs.Emitted.{AreLiterals, HasMoreCells}
use Rattle.star_core.specs.Dicts.{Entry}
use Rattle.star_core.specs.Heaps.{HeapState}
use Rattle.star_eval.specs.declared.files.Program as declared
use Rattle.star_meaning.specs.Expressions.{Program}
use Rattle.star_trees.specs.declared.files.File.{File}

-- the files by number, the code of each, and their printed names
pub record Loaded : Type 0 where
  pub programs : List Program
  pub codes : List Code
  pub names : List (List ℕ)

abbrev pub program_of : declared.Program → Program
program_of program = record { tree = program.tree; literals = program.literals }

-- a file to which nothing belongs
abbrev pub empty_file : File
empty_file = record { body = []; loads = []; functions = []; free = [] }

abbrev pub empty_program : Program
empty_program = record { tree = empty_file; literals = [] }

-- the code from which a value is called with so many arguments, in its second block
abbrev pub call_code : ℕ → Code
call_code count =
    record {
      blocks = [] ∷ (instr.Call count ∷ instr.Return ∷ []) ∷ [];
      names = [];
      shapes = [];
      functions = [];
      top = 0;
    }

abbrev pub no_files : Loaded
no_files = record { programs = empty_program ∷ []; codes = call_code 0 ∷ []; names = [] ∷ [] }

-- each file has its code, and the first file is the empty one
pub record IsLoaded (programs : List Program) (codes : List Code) : Type 0 where
  pub coded : FilesCoded programs codes
  pub first : slice_get programs 0 ≡ Some empty_program

-- the empty file's code calls a value with so many arguments
abbrev pub with_call : ℕ → Loaded → Loaded
with_call count files = record files { codes = slice_set files.codes 0 (call_code count) }

-- One file more, under its name, in a heap which has only the cells of its texts besides.
pub record IsAdded (file : File) (name : List ℕ) (heap_old : HeapState) (old new : Loaded)
    (heap_new : HeapState) : Type 0 where
  pub literals : List Entry
  pub code : Code
  pub programs : new.programs ≡ old.programs ++ record { tree = file; literals = literals } ∷ []
  pub names : new.names ≡ old.names ++ name ∷ []
  pub are_literals : AreLiterals heap_new literals
  pub more_cells : HasMoreCells heap_old heap_new
  pub coded : FilesCoded new.programs new.codes
  pub here : slice_get new.codes (length old.programs) ≡ Some code
  pub on_file : FileCoded (record { tree = file; literals = literals }) code

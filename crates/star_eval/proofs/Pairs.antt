-- Files beside their code: one more, and another way to call.
use Rattle.std.proofs.Common.{◌≡◌, refl, subst, ℕ, zero, suc, List, [], ◌∷◌, ◌++◌}
use Rattle.std.proofs.Common.{length, map, Some, slice_get, slice_set}
use Rattle.std.proofs.lemmas.List.{map-append}
use Rattle.star_code.specs.Codes.{BothCoded, FileCoded, PairCoded, StmtsCode, Tables, tables_of}
use Rattle.star_code.specs.declared.code.Code.{Code}
use Rattle.star_compiler.specs.Emitted.{IsCompiled}
use Rattle.star_compiler.specs.declared.files.Compiled.{Compiled}
use Rattle.star_core.specs.Heaps.{HeapState}
use Rattle.star_eval.specs.Loaded.{IsAdded, IsLoaded, call_code, empty_program, program_of}
use Rattle.star_eval.specs.declared.files.Program as declared
use Rattle.star_meaning.specs.Expressions.{Program}
use Rattle.star_trees.specs.declared.files.File.{File}

abbrev Pairs : List Program → List Code → Type 0
Pairs programs codes =
    (number : ℕ) → PairCoded (slice_get programs number) (slice_get codes number)

one_more : (program : Program) (code : Code)
    → FileCoded program code
    → (programs : List Program) (codes : List Code)
    → Pairs programs codes
    → Pairs (programs ++ program ∷ []) (codes ++ code ∷ [])
one_more program code this [] [] each zero = this
one_more program code this [] [] each (suc zero) = tt
one_more program code this [] [] each (suc (suc number)) = tt
one_more program code this [] (other ∷ codes) each number = absurd (each zero)
one_more program code this (other ∷ programs) [] each number = absurd (each zero)
one_more program code this (p ∷ programs) (c ∷ codes) each zero = each zero
one_more program code this (p ∷ programs) (c ∷ codes) each (suc number) =
    one_more program code this programs codes (λ n. each (suc n)) number

still_first : (program : Program) (programs : List Program)
    → slice_get programs 0 ≡ Some empty_program
    → slice_get (programs ++ program ∷ []) 0 ≡ Some empty_program
still_first program [] first = absurd (cc first)
still_first program (p ∷ programs) first = first

pub more_loaded : (program : Program) (code : Code) (programs : List Program) (codes : List Code)
    → FileCoded program code
    → IsLoaded programs codes
    → IsLoaded (programs ++ program ∷ []) (codes ++ code ∷ [])
more_loaded program code programs codes this loaded =
    record {
      coded = record { each = one_more program code this programs codes loaded.coded.each };
      first = still_first program programs loaded.first;
    }

last_pair : (code : Code) (programs : List Program) (codes : List Code)
    → Pairs programs codes
    → slice_get (codes ++ code ∷ []) (length programs) ≡ Some code
last_pair code [] [] each = refl
last_pair code [] (c ∷ codes) each = absurd (each zero)
last_pair code (p ∷ programs) [] each = absurd (each zero)
last_pair code (p ∷ programs) (c ∷ codes) each =
    last_pair code programs codes (λ n. each (suc n))

pub last_code : (code : Code) (programs : List Program) (codes : List Code)
    → IsLoaded programs codes
    → slice_get (codes ++ code ∷ []) (length programs) ≡ Some code
last_code code programs codes loaded = last_pair code programs codes loaded.coded.each

none_coded : (t : Tables) (index : ℕ)
    → BothCoded t index (slice_get [] index) (slice_get [] index)
none_coded t zero = tt
none_coded t (suc index) = tt

pub call_coded : (count : ℕ) → FileCoded empty_program (call_code count)
call_coded count =
    record {
      functions = λ index. none_coded (tables_of (call_code count) []) index;
      block = [];
      there = refl;
      body = StmtsCode.none;
    }

only_pair : (number : ℕ) → PairCoded (slice_get (empty_program ∷ []) number) (slice_get (call_code 0 ∷ []) number)
only_pair zero = call_coded 0
only_pair (suc zero) = tt
only_pair (suc (suc number)) = tt

pub none_loaded : IsLoaded (empty_program ∷ []) (call_code 0 ∷ [])
none_loaded = record { coded = record { each = only_pair }; first = refl }

first_is : {one other : Program} → Some one ≡ Some other → other ≡ one
first_is same = cc

called_pair : (count : ℕ) (programs : List Program) (codes : List Code)
    → Pairs programs codes
    → slice_get programs 0 ≡ Some empty_program
    → Pairs programs (slice_set codes 0 (call_code count))
called_pair count [] codes each first number = absurd (cc first)
called_pair count (p ∷ programs) [] each first number = absurd (each zero)
called_pair count (p ∷ programs) (c ∷ codes) each first zero =
    subst (λ program. FileCoded program (call_code count)) (first_is first) (call_coded count)
called_pair count (p ∷ programs) (c ∷ codes) each first (suc number) = each (suc number)

pub call_loaded : (count : ℕ) (programs : List Program) (codes : List Code)
    → IsLoaded programs codes
    → IsLoaded programs (slice_set codes 0 (call_code count))
call_loaded count programs codes loaded =
    record {
      coded = record { each = called_pair count programs codes loaded.coded.each loaded.first };
      first = loaded.first;
    }

pub added_loaded : (programs : List declared.Program) (codes : List Code)
    (program : declared.Program) (code : Code)
    → FileCoded (program_of program) code
    → IsLoaded (map program_of programs) codes
    → IsLoaded (map program_of (programs ++ program ∷ [])) (codes ++ code ∷ [])
added_loaded programs codes program code this loaded =
    rw (map-append program_of programs (program ∷ []))
    (more_loaded (program_of program) code (map program_of programs) codes this loaded)

pub added_is : (programs : List declared.Program) (codes : List Code) (names : List (List ℕ))
    (file : File) (name : List ℕ) (heap : HeapState) (compiled : Compiled)
    → IsLoaded (map program_of programs) codes
    → IsCompiled file heap compiled
    → IsAdded file name heap
    (record { programs = map program_of programs; codes = codes; names = names })
    (record {
      programs = map program_of
          (programs ++ record { tree = file; literals = compiled.literals } ∷ []);
      codes = codes ++ compiled.code ∷ [];
      names = names ++ name ∷ [];
    }) compiled.heap
added_is programs codes names file name heap compiled loaded is =
    record {
      literals = compiled.literals;
      code = compiled.code;
      programs = map-append program_of programs (record { tree = file; literals = compiled.literals } ∷ []);
      names = refl;
      are_literals = is.literals;
      more_cells = is.more_cells;
      coded = (added_loaded programs codes (record { tree = file; literals = compiled.literals })
          compiled.code is.coded loaded).coded;
      here = last_code compiled.code (map program_of programs) codes loaded;
      on_file = is.coded;
    }

pub one_loaded : (program : declared.Program)
    → program_of program ≡ empty_program
    → IsLoaded (map program_of (program ∷ [])) (call_code 0 ∷ [])
one_loaded program is = rw is none_loaded

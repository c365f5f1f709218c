-- The host with methods keeps the laws of a host.
use Rattle.std.proofs.Common.{◌≡◌, ℕ, ◌<◌, List, Bool, true, false, length}
use Rattle.std.proofs.Common.{Option, Some, None, Ok, Err, refl, ap, sym, subst, codes}
use Rattle.std.proofs.Common.{if◌then◌else◌}
use Rattle.std.proofs.Math.Seq.{take-append_seam, take-length}
use Rattle.std.proofs.Math.Numerals.{lt-add-one}
use Rattle.std.proofs.lemmas.List.{length-append}
use Rattle.std.specs.Str.{bytes_eq}
use Rattle.star_core.specs.Heaps.{HeapState, Change, made, made_with, sum_for}
use Rattle.star_core.specs.Hosts.{AsksAnew, Field, HostCall, IsLawful, IsNoQuestion, KeepsCells}
use Rattle.star_core.specs.Hosts.{Method, ReturnsWell}
use Rattle.star_fakes.specs.Methods.{counted_call, given, methods_meaning, the_variable, told_text, variable_text}
use Rattle.star_core.specs.Sizes.{size_of}
use Rattle.star_core.specs.Tables.{Table, Within, answer_in}
use Rattle.star_core.specs.declared.cells.Cell.{Cell}
use Rattle.star_core.specs.declared.cells.Cell.TheVariants as cell
use Rattle.star_core.specs.declared.values.Val.TheVariants as val
use Rattle.star_fakes.specs.declared.method_host.MethodHost.{MethodHost}
use Rattle.star_core.specs.declared.questions.Answer.{Answer}
use Rattle.star_core.specs.declared.questions.Answer.TheVariants as answer

abbrev bound : ℕ → List ℕ → Cell
bound object name = cell.Bound (val.Cell object) name

keeps_itself : (heap : HeapState) → KeepsCells heap heap
keeps_itself heap = record { cells = take-length heap.cells; frozen = refl }

made_returns_well : (new : Cell) (sum : Option ℕ) (heap : HeapState) (host : MethodHost)
    → ReturnsWell heap (given (made_with new sum heap) host)
made_returns_well new None heap host = tt
made_returns_well new (Some sum) heap host = (
  record { cells = take-append_seam heap.cells _; frozen = refl },
  subst (λ n. length heap.cells < n) (sym (length-append heap.cells _))
      (lt-add-one (length heap.cells)),
)

told_returns_well : (told : Option Answer) (host : MethodHost) (heap : HeapState)
    → ReturnsWell heap (told_text told host heap)
told_returns_well None host heap = tt
told_returns_well (Some (answer.Text text)) host heap =
    made_returns_well (cell.Text text) (sum_for (cell.Text text) (size_of (cell.Text text)) heap)
    heap host
told_returns_well (Some (answer.Bytes bytes)) host heap = (keeps_itself heap, tt)
told_returns_well (Some answer.Large) host heap = (keeps_itself heap, tt)
told_returns_well (Some (answer.Names names)) host heap = (keeps_itself heap, tt)
told_returns_well (Some answer.Absent) host heap = (keeps_itself heap, tt)
told_returns_well (Some answer.Nothing) host heap = (keeps_itself heap, tt)

method_returns_well : (counts : Bool) (host : MethodHost) (heap : HeapState) (table : Table)
    → ReturnsWell heap (if counts then counted_call host heap else variable_text host heap table)
method_returns_well true host heap table = (keeps_itself heap, tt)
method_returns_well false host heap table =
    told_returns_well (answer_in table the_variable) host heap

returns_well : (host : MethodHost) (heap : HeapState) (call : HostCall) (table : Table)
    → ReturnsWell heap (methods_meaning host heap call table)
returns_well host heap (Method object name args line) table =
    method_returns_well (bytes_eq name (codes "count")) host heap table
returns_well host heap (Field object name) table =
    made_returns_well (bound object name) (sum_for (bound object name) (size_of (bound object name)) heap)
    heap host

given_asks_anew : (change : Change _) (host : MethodHost) (table : Table)
    → AsksAnew table (given change host)
given_asks_anew (Ok change) host table = tt
given_asks_anew (Err fault) host table = tt

told_asks_anew : (told : Option Answer) (host : MethodHost) (heap : HeapState) (table : Table)
    → answer_in table the_variable ≡ told
    → AsksAnew table (told_text told host heap)
told_asks_anew None host heap table is = is
told_asks_anew (Some (answer.Text text)) host heap table is =
    given_asks_anew (made (cell.Text text) heap) host table
told_asks_anew (Some (answer.Bytes bytes)) host heap table is = tt
told_asks_anew (Some answer.Large) host heap table is = tt
told_asks_anew (Some (answer.Names names)) host heap table is = tt
told_asks_anew (Some answer.Absent) host heap table is = tt
told_asks_anew (Some answer.Nothing) host heap table is = tt

method_asks_anew : (counts : Bool) (host : MethodHost) (heap : HeapState) (table : Table)
    → AsksAnew table (if counts then counted_call host heap else variable_text host heap table)
method_asks_anew true host heap table = tt
method_asks_anew false host heap table =
    told_asks_anew (answer_in table the_variable) host heap table refl

asks_anew : (host : MethodHost) (heap : HeapState) (call : HostCall) (table : Table)
    → AsksAnew table (methods_meaning host heap call table)
asks_anew host heap (Method object name args line) table =
    method_asks_anew (bytes_eq name (codes "count")) host heap table
asks_anew host heap (Field object name) table =
    given_asks_anew (made (bound object name) heap) host table

told_steady : (less more : Option Answer) (host : MethodHost) (heap : HeapState)
    → ((told : Answer) → less ≡ Some told → more ≡ Some told)
    → IsNoQuestion (told_text less host heap)
    → told_text more host heap ≡ told_text less host heap
told_steady None more host heap kept no_question = absurd no_question
told_steady (Some told) more host heap kept no_question =
    ap (λ one. told_text one host heap) (kept told refl)

method_steady : (counts : Bool) (host : MethodHost) (heap : HeapState) (less more : Table)
    → Within less more
    → IsNoQuestion (if counts then counted_call host heap else variable_text host heap less)
    → (if counts then counted_call host heap else variable_text host heap more)
    ≡ (if counts then counted_call host heap else variable_text host heap less)
method_steady true host heap less more within no_question = refl
method_steady false host heap less more within no_question =
    told_steady (answer_in less the_variable) (answer_in more the_variable) host heap
    (λ told is. within.kept the_variable told is) no_question

steady : (host : MethodHost) (heap : HeapState) (call : HostCall) (less more : Table)
    → Within less more
    → IsNoQuestion (methods_meaning host heap call less)
    → methods_meaning host heap call more ≡ methods_meaning host heap call less
steady host heap (Method object name args line) less more within no_question =
    method_steady (bytes_eq name (codes "count")) host heap less more within no_question
steady host heap (Field object name) less more within no_question = refl

pub methods_lawful : IsLawful methods_meaning
methods_lawful = record { asks_anew = asks_anew; steady = steady; returns_well = returns_well }
